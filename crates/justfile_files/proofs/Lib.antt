pub mod FormatLemmas
pub mod FoundLemmas
pub mod LintLemmas
pub mod OutcomeLemmas
pub mod OutputLemmas
pub mod PathLemmas
pub mod RequestLemmas
pub mod SourceLemmas
