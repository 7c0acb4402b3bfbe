-- The moments inside an event: the worlds between two of its moves, and the lines so far.
pub use Rattle.history_law.specs.Moments.{with_event, lines_in, lines_so_far, IsMoment, plan_at}
