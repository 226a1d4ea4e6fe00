pub mod Beginning
pub mod CodeRan
pub mod Sequence
