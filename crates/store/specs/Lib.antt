pub mod Items
pub mod Rows
pub mod Held
pub mod Means
pub mod Stacks
