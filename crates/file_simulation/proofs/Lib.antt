pub mod Placing
pub mod ShownCells
pub mod ShownStripes
pub mod Conclusion
pub mod Fronts
pub mod Cutting
pub mod Induction
