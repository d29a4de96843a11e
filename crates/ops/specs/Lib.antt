pub mod Round
pub mod Order
