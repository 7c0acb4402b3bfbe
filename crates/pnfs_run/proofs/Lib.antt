pub mod Judging
pub mod Asked
pub mod StoredJudging
