use Rattle.generate_law.proofs.Readiness.{each_call_is_ready, first_call_is_ready}
use Rattle.generate_law.proofs.laws.calls_are_ready.Goals as goal

pub returns : goal.returns
returns c =
    record { calls = each_call_is_ready c.grants_are_safe.ensures; first = first_call_is_ready c.grants_are_safe.ensures }
