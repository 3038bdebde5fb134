pub mod Complete
pub mod Cuts
pub mod Others
pub mod Sound
pub mod Steps
