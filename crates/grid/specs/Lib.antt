pub mod Grid
pub mod Directions
pub mod Answer
