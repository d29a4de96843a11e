pub mod Answer
pub mod Lent
pub mod Inner
pub mod Compacting
pub mod PreFilter
pub mod Rasterize
pub mod MeshAdmission
