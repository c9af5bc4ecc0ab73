-- what names stand for and what actions mean, which a reader must believe
pub mod Bindings
pub mod Looked
pub mod Meant
pub mod Changed
-- how an action is made
pub mod Values
pub mod Transfers
