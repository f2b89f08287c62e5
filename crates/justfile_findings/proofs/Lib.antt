pub mod AllTold
pub mod Asked
pub mod FirstNear
pub mod Meant
pub mod SetRight
