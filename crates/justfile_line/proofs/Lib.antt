pub mod Bodies
mod EqualBytes
pub mod Equalities
pub mod SigilLaws
