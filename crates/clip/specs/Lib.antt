pub mod Cut
pub mod Poly
pub mod Rest
pub mod Slices
pub mod Cell
pub mod Snap
pub mod Work
