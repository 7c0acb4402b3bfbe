pub mod ImageLaws
pub mod Media
pub mod Moments
pub mod Outcomes
pub mod Reading
