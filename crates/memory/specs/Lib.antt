pub mod Plan
pub mod Notes
pub mod Mail
pub mod Programs
pub mod Memory
pub mod Planned
pub mod Beside
pub mod Lines
