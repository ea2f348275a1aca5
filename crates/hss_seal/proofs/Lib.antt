pub mod Parts
pub mod TwoFit
pub mod HeadsFit
pub mod KeptTree
pub mod GrownFit
pub mod MadeFit
pub mod NewKeys
mod Numbers
