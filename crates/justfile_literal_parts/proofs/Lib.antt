pub mod DigitTexts
pub mod Digits
pub mod JoinedLines
pub mod SharedFronts
pub mod TextLines
