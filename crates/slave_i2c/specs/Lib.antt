pub mod Lines
pub mod I2c
