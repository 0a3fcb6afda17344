pub mod Tenant
pub mod Known
