pub use Rattle.session_laws.specs.Sessions
pub use Rattle.session_laws.specs.Service
pub use Rattle.progress_laws.specs.Clean
pub mod TwoSessions
