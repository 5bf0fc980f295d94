pub mod Adjacent
pub mod Gap
pub mod Report
