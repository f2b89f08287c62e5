pub mod OwnIndentation
