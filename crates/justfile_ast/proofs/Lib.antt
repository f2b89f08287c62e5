pub mod Separators
pub mod Indented
pub mod Numbered
pub mod Printable
pub mod PrintedBack
