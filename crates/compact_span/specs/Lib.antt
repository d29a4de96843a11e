pub mod Word
pub mod Span
pub mod Replies
