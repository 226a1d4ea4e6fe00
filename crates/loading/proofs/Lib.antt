pub mod Lines
mod Loading
