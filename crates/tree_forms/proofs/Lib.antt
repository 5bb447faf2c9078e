pub mod LinkLemmas
pub mod InSlots
