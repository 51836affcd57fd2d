pub mod Steps
pub mod Floats
