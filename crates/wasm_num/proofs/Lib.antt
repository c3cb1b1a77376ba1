mod Puts
pub mod Results
