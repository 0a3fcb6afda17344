pub mod ServerRows
