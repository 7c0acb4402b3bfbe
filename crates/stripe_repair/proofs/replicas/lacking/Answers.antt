use Rattle.std.proofs.Common.{sym, ap, ◌∙◌, ◌+◌, ◌*◌, ◌++◌, ◌∷◌, [], ℕ}
use Rattle.std.specs.Prelude.{is_none}
use Rattle.data_map.specs.Striping.{group_width}
use Rattle.server_rules.specs.Standing.{replica}
use Rattle.stripe_repair.proofs.Ranges.{filter_yes, filter_no, none_of}
use Rattle.stripe_repair.proofs.replicas.lacking.Goals as goal
use Rattle.stripe_repair.proofs.replicas.lacking.Goals.{then-is_none+in_ok-push, else-is_none}

pub loop-i-preserved : goal.loop-i-preserved
loop-i-preserved c =
    let m = c.args.map.now in
    let a = c.args.group * group_width m in
    let i = c.loop-i.i in
    let test = λ (p : ℕ). is_none (replica m c.args.components.now p) in
    let found = rw c.group_width-width.ensures.value at c.replica.ensures in
    let tells = ap is_none (sym found) ∙ none_of c.replica.result c.is_none.result c.is_none.ensures in
    elim c.if-is_none.branch [
      | then-is_none+in_ok-push w ↦
          w.out-is ∙ w.in_ok-push.ensures.ok
          ∙ ap (λ (k : ℕ). c.loop-i.out ++ ((c.args.group * k + i) ∷ [])) c.group_width-width.ensures.value
          ∙ ap (λ xs. xs ++ ((a + i) ∷ [])) c.loop-i.invariant
          ∙ sym (filter_yes test a i (tells ∙ w.if-is_none.true))
      | else-is_none w ↦ w.out-is ∙ c.loop-i.invariant ∙ sym (filter_no test a i (tells ∙ w.if-is_none.false))
    ]
