pub mod Roles
pub mod Hosts
pub mod Steps
pub mod Hosted
pub mod Examples
pub mod Below
