pub mod Fronts
pub mod OneAnswer
pub mod Headers
pub mod Ends
pub mod Back
