use Rattle.std.proofs.Common.{◌≡◌, ◌++◌, drop}
use Rattle.std.specs.Prelude.{map}
use Rattle.layout_types.specs.declared.ioerrs.Errno.TheVariants.{Unreachable}
use Rattle.call_io.specs.State.{TimedOut}
use Rattle.client_rules.specs.Requests.{error_at}
use Rattle.call_io.proofs.timeouts.report_of.Given as goal

abbrev pub invariant-loop-one : goal.invariant-loop-one
invariant-loop-one l =
    l.report ++ map (λ (t : TimedOut). error_at l.fn.held t.write t.ask Unreachable) (drop l.one-index l.fn.timed)
    ≡ map (λ (t : TimedOut). error_at l.fn.held t.write t.ask Unreachable) l.fn.timed
