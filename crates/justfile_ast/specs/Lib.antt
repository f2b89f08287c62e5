pub mod Ast
pub mod Copies
pub mod Separator
pub mod PrintsBack
pub mod Written
pub mod WrittenLaws
