pub mod Tape
pub mod Front
pub mod WordKind
pub mod Means
pub mod Examples
