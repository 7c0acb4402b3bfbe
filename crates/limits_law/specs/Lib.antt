pub mod Agreement
pub mod Consequences
