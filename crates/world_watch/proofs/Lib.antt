mod Reading
mod Telling
mod Stepping
mod Sums
mod Finding
mod Sighting
mod Keeping
