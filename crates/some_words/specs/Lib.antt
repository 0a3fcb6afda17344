pub mod SomeWords
