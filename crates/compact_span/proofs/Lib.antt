pub mod Base64
pub mod Bits
pub mod Links
pub mod Answers
pub mod Tried
