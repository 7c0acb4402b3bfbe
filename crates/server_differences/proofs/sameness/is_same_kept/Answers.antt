use Rattle.std.proofs.Common.{sym, ◌∙◌}
use Rattle.std.proofs.lemmas.Bool.{false≢true}
use Rattle.server_differences.proofs.SameLaws.{contents_same, far_same, made_same, same_kept}
use Rattle.server_differences.proofs.sameness.is_same_kept.Goals as goal

pub returns-then-is_made_as : goal.returns-then-is_made_as
returns-then-is_made_as c =
    let a = c.args.a.now in
    let b = c.args.b.now in (
      λ t. same_kept a b (c.is_made_as.ensures.0 c.if-is_made_as.true) (c.is_alike.ensures.0 t).0 (c.is_alike.ensures.0 t).1,
      λ e. c.is_alike.ensures.1 (far_same a b e, contents_same a b e),
    )

pub returns-else-is_made_as : goal.returns-else-is_made_as
returns-else-is_made_as c =
    let a = c.args.a.now in
    let b = c.args.b.now in (
      λ t. absurd (false≢true (sym c.if-is_made_as.false ∙ t)),
      λ e. absurd (false≢true (sym c.if-is_made_as.false ∙ c.is_made_as.ensures.1 (made_same a b e))),
    )
