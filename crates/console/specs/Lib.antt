pub mod Sites
pub mod Lines
