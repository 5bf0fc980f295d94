pub mod Output
pub mod Program
