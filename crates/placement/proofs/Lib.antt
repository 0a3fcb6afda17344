mod Product
pub mod Fractions
pub mod Fronts
pub mod Rules
pub mod Shares
