-- What is read derives, and breaks no rule.
pub mod Agreement
pub mod AttributeSound
pub mod Derived
pub mod ExpressionSound
pub mod FileObeys
pub mod FileSound
pub mod HeaderSound
pub mod PartSound
pub mod UnbrokenItems
