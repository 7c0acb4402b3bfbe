pub mod Parity
pub mod Codeword
pub mod Columns
pub mod Syndromes
pub mod Repairs
pub mod Decoding
pub mod Restored
pub mod Delta
