pub mod Beginning
pub mod Numbers
