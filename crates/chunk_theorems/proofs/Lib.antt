pub mod Fronts
pub mod OneAnswer
pub mod DataTrips
pub mod SackTrips
pub mod ForwardTrips
