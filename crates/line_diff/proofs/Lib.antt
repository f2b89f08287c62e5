pub mod EditLemmas
pub mod HunkLemmas
pub mod LabelLemmas
pub mod LineLemmas
