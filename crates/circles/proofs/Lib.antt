pub mod CertificateLaws
pub mod FirstStepLemmas
pub mod FlagLemmas
pub mod GraphLemmas
pub mod ListedLemmas
pub mod SearchLemmas
pub mod WalkLemmas
