pub mod ListFunctions
