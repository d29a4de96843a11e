pub mod Cells
pub mod Replies
pub mod Answers
pub mod Accepted
pub mod Finite
pub mod Tried
pub mod Places
pub mod FirstOutside
