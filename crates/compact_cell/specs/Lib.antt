pub mod Cell
pub mod Replies
