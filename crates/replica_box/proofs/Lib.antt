mod CrashedLog
mod Digests
mod Keys
pub mod LogContinues
mod LogLines
mod LogRefusals
mod OwnersAgree
mod Places
