use Rattle.std.proofs.Common.{◌∙◌}
use Rattle.scenario_text.proofs.Behind.{further_out}
use Rattle.scenario_text.proofs.write.put_further.Goals as goal

pub loop-position-preserved : goal.loop-position-preserved
loop-position-preserved c =
    further_out c.args.out.now c.loop-position.out c.push.new.self c.extend_from_slice.new.self c.as_bytes.result.now
    c.args.positions.now
    c.loop-position.position-index c.loop-position-test.true c.loop-position.invariant c.in_ok-push.ensures.ok
    c.in_ok-extend_from_slice.ensures.ok (c.as_bytes.ensures.value ∙ c.format.ensures.text)
