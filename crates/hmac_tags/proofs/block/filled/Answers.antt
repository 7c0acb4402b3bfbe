use Rattle.std.proofs.Common.{ℕ, ◌++◌, ap, List, length}
use Rattle.std.proofs.lemmas.List.{drop-replicate}
use Rattle.hmac_tags.proofs.block.filled.Goals as goal

pub returns : goal.returns
returns c = rw c.copy_from_slice.ensures.after
    (ap (λ (t : List ℕ). c.args.key.now ++ t) (drop-replicate {X = ℕ} (length c.args.key.now) 64 0))
