-- Normal shapes, and the text as which a shape is printed.
pub mod NormalShape
pub mod PrintedAttributes
pub mod Printing
pub mod Uncommented
