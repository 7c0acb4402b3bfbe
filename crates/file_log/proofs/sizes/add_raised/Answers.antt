use Rattle.std.proofs.Common.{true≢false, sym, ◌∙◌}
use Rattle.file_log.proofs.Members.{raised_with, raised_among, raised_none}
use Rattle.file_log.proofs.sizes.add_raised.Goals.{else-has_below-via-then-has_below+else-not-is_among, else-has_below-via-else-has_below}
use Rattle.file_log.proofs.sizes.add_raised.Goals as goal

pub returns-in_ok-push : goal.returns-in_ok-push
returns-in_ok-push c =
    λ n. rw c.in_ok-push.ensures.items
    (raised_with c.args.sizes.now.items c.args.end n
    (rw c.as_slice.ensures.value at c.has_below.ensures.0 c.if-has_below.true))

pub returns-else-has_below : goal.returns-else-has_below
returns-else-has_below c = λ n. elim c.else-has_below.branch [
  | else-has_below-via-then-has_below+else-not-is_among w ↦ raised_among c.args.sizes.now.items c.args.end n
      (rw w.as_slice-then-has_below.ensures.value at w.is_among.ensures.0 w.if-not-is_among.false)
  | else-has_below-via-else-has_below w ↦ raised_none c.args.sizes.now.items c.args.end n
      (λ h. true≢false (sym (c.has_below.ensures.1 (rw c.as_slice.ensures.value h)) ∙ w.if-has_below.false))
]
