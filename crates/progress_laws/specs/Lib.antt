-- What a clean plan is, and how its run ends
pub mod Clean
-- The claims of the laws
pub mod ProgressClaims
-- A plan of each setting whose run finalises transactions
pub mod Plain
