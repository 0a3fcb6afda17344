pub mod WriteRows
