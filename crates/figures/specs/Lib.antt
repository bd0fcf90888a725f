pub mod Computed
pub mod Constants
