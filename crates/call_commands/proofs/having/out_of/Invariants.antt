use Rattle.std.proofs.Common.{◌≡◌, ◌++◌, drop}
use Rattle.std.specs.Prelude.{map}
use Rattle.call_commands.specs.State.{TimedOut}
use Rattle.client_rules.specs.Grants.{missing_of}
use Rattle.call_commands.proofs.having.out_of.Given as goal

abbrev pub invariant-loop-one : goal.invariant-loop-one
invariant-loop-one l =
    l.components ++ map (λ (t : TimedOut). t.ask.component) (drop l.one-index l.fn.timed)
    ≡ missing_of l.fn.held ++ map (λ (t : TimedOut). t.ask.component) l.fn.timed
