pub mod InstrText
pub mod ExprViews
pub mod ItemText
pub mod SectionText
pub mod ModuleText
pub mod SectionViews
