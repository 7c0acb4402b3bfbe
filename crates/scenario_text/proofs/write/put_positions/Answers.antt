use Rattle.std.proofs.Common.{◌∙◌}
use Rattle.scenario_text.proofs.Behind.{positions_out}
use Rattle.scenario_text.proofs.write.put_positions.Goals as goal

pub returns-in_ok-put_further-in-len1-up : goal.returns-in_ok-put_further-in-len1-up
returns-in_ok-put_further-in-len1-up c =
    positions_out c.args.positions.now c.args.out.now c.extend_from_slice.new.self c.put_further.new.out c.as_bytes.result.now
    c.in-len1-up.len_at_least (c.as_bytes.ensures.value ∙ c.format.ensures.text) c.in_ok-extend_from_slice-in-len1-up.ensures.ok
    c.in_ok-put_further-in-len1-up.ensures
