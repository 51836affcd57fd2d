pub mod Classes
pub mod Digits
pub mod Fronts
pub mod Streams
pub mod Laws
pub mod Computed
