pub mod Serial
pub mod Engine
pub mod FirstDue
pub mod Turned
