pub mod Draws
pub mod Firmware
pub mod Board
pub mod Inverter
