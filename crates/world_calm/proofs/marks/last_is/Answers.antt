use Rattle.std.proofs.Common.{sym, ap, ◌∙◌}
use Rattle.world_calm.proofs.Last.{is_last, last_says}
use Rattle.world_calm.proofs.marks.last_is.Goals as goal

pub returns-in-Some : goal.returns-in-Some
returns-in-Some c =
    ap (is_last c.args.stripe) c.in-Some.ensures.value ∙ sym (last_says c.args.stripe c.args.stripes.now)

pub returns-in-None : goal.returns-in-None
returns-in-None c =
    ap (is_last c.args.stripe) c.in-None.ensures.value ∙ sym (last_says c.args.stripe c.args.stripes.now)
