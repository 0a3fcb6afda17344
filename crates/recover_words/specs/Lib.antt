pub mod RecoverWords
