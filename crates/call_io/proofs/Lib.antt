mod Ends
mod Heard
mod Places
mod Splits
mod Taking
