-- Lists, optional values and numbers.
pub mod AllParts
pub mod Binds
pub mod CountLaws
pub mod DistinctLaws
pub mod EachLaws
pub mod KeyTies
pub mod Mapped
pub mod Numbers
pub mod OrderKinds
pub mod OrderLaws
pub mod OrderMaps
pub mod Prepended
pub mod Turns
pub mod Unchanged
