pub mod Calls
pub mod Forests
pub mod Cursors
pub mod Texts
pub mod Regions
pub mod Meaning
pub mod Links
pub mod Keeping
