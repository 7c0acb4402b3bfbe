pub mod Lists
mod Columns
mod Cut
mod Plans
mod Asking
mod Probes
mod Writes
pub mod Runs
