pub mod LaneLemmas
pub mod Pieces
pub mod StackLemmas
pub mod WhiteRunLemmas
