pub mod Fraction
pub mod Rule
pub mod KnownDraws
pub mod Salted
