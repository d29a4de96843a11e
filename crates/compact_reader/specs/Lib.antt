pub mod Answer
pub mod Reading
