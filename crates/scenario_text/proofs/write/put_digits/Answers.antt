use Rattle.std.proofs.Common.{◌∙◌, sym}
use Rattle.std.proofs.lemmas.Bool.{eqb-true}
use Rattle.std.proofs.lemmas.List.{take-append-drop}
use Rattle.scenario_text.proofs.Digits.{block_out, all_out}
use Rattle.scenario_text.proofs.write.put_digits.Goals as goal

pub loop-rest-preserved : goal.loop-rest-preserved
loop-rest-preserved c =
    block_out c.loop-rest.out c.put_block.new.out _ c.loop-rest.rest.now _ _
    (rw (c.split_at.ensures.front, c.split_at.ensures.back) (sym (take-append-drop _ c.loop-rest.rest.now)))
    c.loop-rest.invariant c.in_ok-put_block.ensures

pub returns : goal.returns
returns c =
    all_out c.loop-rest.out _ c.loop-rest.rest.now
    (eqb-true _ _ (sym c.is_empty.ensures ∙ c.loop-rest-test.false)) c.loop-rest.invariant
