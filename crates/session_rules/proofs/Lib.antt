pub mod Checked
pub mod CutBatches
pub mod Ended
pub mod Positions
