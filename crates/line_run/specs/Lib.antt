pub mod LineRun
