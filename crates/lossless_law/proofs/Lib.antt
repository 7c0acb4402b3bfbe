pub mod NotShort
pub mod GoodMoments
pub mod CalmSteps
pub mod Grouping
pub mod LeftLast
pub mod MadeThere
pub mod CalmInputs
pub mod CalmHistories
