pub mod LiteralModes
pub mod Need
pub mod RoundTrip
