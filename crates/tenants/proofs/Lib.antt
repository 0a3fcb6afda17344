pub mod Tenants
