pub mod FirstEnds
pub mod MarkerPlan
pub mod TwoRecords
