pub mod PurityLaws
pub mod Products
