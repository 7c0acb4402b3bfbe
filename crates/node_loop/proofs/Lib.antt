mod LookLaws
pub mod FrontLaws
mod GoingLaws
mod OutsideLaws
mod PuttingLaws
mod HearingLaws
mod MovingLaws
mod PostingLaws
mod TurnLaws
mod DueLaws
