pub mod Pins
pub mod Reception
pub mod Sending
pub mod Uart
pub mod Spi
