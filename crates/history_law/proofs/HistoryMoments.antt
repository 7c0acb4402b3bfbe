-- What the empty world has and each move keeps holds at each moment.
pub use Rattle.history_law.proofs.Reached.{IsKept, always}
