pub mod Outcomes
pub mod Sheets
pub mod Reasons
pub mod Decoded
