pub mod Literals
pub mod Resolution
pub mod Logs
pub mod Units
