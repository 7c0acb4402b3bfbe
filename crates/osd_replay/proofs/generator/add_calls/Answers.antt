use Rattle.std.proofs.Common.{rules, arith, ◌≡◌, ◌++◌, ◌∷◌, [], refl}
use Rattle.generate_law.specs.Scenario.{call_event}
use Rattle.osd_replay.proofs.Generated.{one_call}
use Rattle.osd_replay.proofs.generator.add_calls.Goals as goal
use Rattle.osd_replay.proofs.generator.add_calls.Goals.{in-Some+in_ok-call+in_ok-push, in_default}

pub loop-k-preserved : goal.loop-k-preserved
loop-k-preserved c =
    let pushed : c.match-new.events.items ≡ c.loop-k.events.items ++ call_event c.loop-k.k c.loop-k.x ∷ [] =
    elim c.match-new.branch [
      | in-Some+in_ok-call+in_ok-push w ↦ search rules
      | in_default w ↦ absurd (search rules)
    ] in
    record {
      within = omega (arith, c.loop-k-test.true);
      calls = refl;
      events = rw (pushed, c.next-x.ensures)
          (one_call c.args.calls c.loop-k.k c.loop-k.x c.loop-k.events.items _ c.loop-k-test.true c.loop-k.invariant.events);
    }
