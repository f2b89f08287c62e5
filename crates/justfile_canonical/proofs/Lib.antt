pub mod Faults
pub mod Formatted
pub mod InParts
pub mod Indented
pub mod LineEnds
pub mod Printed
pub mod Roots
