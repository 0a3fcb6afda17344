pub mod Invalidating
