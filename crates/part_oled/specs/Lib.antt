pub mod Picture
pub mod Places
pub mod Stream
pub mod Oled
