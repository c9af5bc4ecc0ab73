-- what callers see of a walk, which a reader must believe
pub mod Walked
-- how the code walks
pub mod Standing
pub mod Jobs
pub mod Ready
pub mod Arguments
pub mod Advances
