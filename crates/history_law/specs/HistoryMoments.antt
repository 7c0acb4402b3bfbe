-- The moments of a history: the worlds between two of its moves.
pub use Rattle.history_law.specs.Moments.{IsReached}
