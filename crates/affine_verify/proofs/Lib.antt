pub mod Plains
pub mod Released
pub mod Shapes
pub mod Results
pub mod PlainlyLaws
pub mod Walks
pub mod ModuleLaws
