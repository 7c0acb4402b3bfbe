pub mod ListLaws
pub mod FrontLaws
mod StepLaws
mod GoingLaws
mod LeavingLaws
mod TurnLaws
mod PieceLaws
