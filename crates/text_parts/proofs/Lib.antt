pub mod Fitting
pub mod Keeping
pub mod SharedEnds
pub mod Splicing
