pub mod Start
pub mod Goes
