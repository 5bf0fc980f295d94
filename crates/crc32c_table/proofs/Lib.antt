pub mod Linear
pub mod Every
