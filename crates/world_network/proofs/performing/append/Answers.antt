use Rattle.std.proofs.Common.{◌≡◌, ◌+◌, List, ℕ, length, take, drop, slice_get, Some, ap, ◌∙◌, arith}
use Rattle.osd_lists.proofs.Slices.{length_set, take_more}
use Rattle.scenario_text.specs.declared.line.Line.{Line}
use Rattle.world_network.specs.Moving.{no_line}
use Rattle.world_network.proofs.Taking.{same_member, rest_stays, split_at, appended_more}
use Rattle.world_network.proofs.performing.append.Goals as goal

pub returns-in_err-push-clause-front : goal.returns-in_err-push-clause-front
returns-in_err-push-clause-front c =
    let i : ℕ = c.loop-place.place in
    (take i c.args.told, c.in_err-push.ensures.err ∙ c.loop-place.invariant.lines, (drop i c.args.told, split_at c.args.told i))

pub loop-place-preserved : goal.loop-place-preserved
loop-place-preserved c =
    let i : ℕ = c.loop-place.place in
    let inv = c.loop-place.invariant in
    let here : slice_get c.args.told i ≡ Some c.take_line-line.result =
    same_member c.loop-place.left c.args.told i c.take_line-line.result inv.rest c.take_line-line.ensures.taken in
    record {
      within = omega (arith, c.loop-place-test.true, c.len.ensures, inv.count);
      count = ap (λ (l : List Line). length l) c.take_line-line.ensures.left ∙ length_set c.loop-place.left i no_line ∙ inv.count;
      lines = appended_more c.args.lines.now c.loop-place.lines c.push.new.self (take i c.args.told) (take (i + 1) c.args.told)
          c.take_line-line.result inv.lines c.in_ok-push.ensures.ok (take_more c.args.told i c.take_line-line.result here);
      rest = ap (λ (l : List Line). drop (i + 1) l) c.take_line-line.ensures.left
          ∙ rest_stays c.loop-place.left c.args.told i no_line inv.rest;
    }
