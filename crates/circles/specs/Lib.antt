pub mod Certificate
pub mod Circles
pub mod FirstCircles
pub mod Graph
pub mod Passed
pub mod Walks
