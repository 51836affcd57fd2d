pub mod Place
pub mod Fault
pub mod Token
pub mod Runs
pub mod Law
pub mod Code
