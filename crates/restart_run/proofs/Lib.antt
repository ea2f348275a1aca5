mod KeeperStart
pub mod Kits
mod Logs
mod OneRestart
mod Opened
mod Places
mod StartCounts
