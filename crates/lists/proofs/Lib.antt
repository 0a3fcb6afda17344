pub mod Tests
pub mod Below
pub mod Take
pub mod Listed
pub mod Arrays
pub mod Left
