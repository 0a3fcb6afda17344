pub mod SheetStart
