pub mod Amongs
pub mod LoggedEvents
pub mod LoopSteps
pub mod RunEnds
pub mod Shown
pub mod StopCauses
pub mod WaitingReplicas
