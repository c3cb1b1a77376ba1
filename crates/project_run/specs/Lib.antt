pub mod Contents
pub mod Counted
pub mod Reports
pub mod Run
