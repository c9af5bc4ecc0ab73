-- what a program is, which a reader must believe
pub mod Names
pub mod Widths
pub mod Tree
pub mod Reading
pub mod Numbered
pub mod Counted
pub mod WellMade
-- how one is made
pub mod Numbering
