use Rattle.std.proofs.Common.{sym, ap, ◌∙◌, ◌++◌, ◌∷◌, [], ℕ}
use Rattle.std.specs.Prelude.{is_none}
use Rattle.data_map.specs.Striping.{position_of}
use Rattle.server_rules.specs.Standing.{replica}
use Rattle.stripe_repair.proofs.Ranges.{first_yes, first_no, none_of}
use Rattle.stripe_repair.proofs.restored.lost_units.Goals as goal
use Rattle.stripe_repair.proofs.restored.lost_units.Goals.{then-is_none+in_ok-push, else-is_none}

pub loop-unit-preserved : goal.loop-unit-preserved
loop-unit-preserved c =
    let m = c.args.map.now in
    let i = c.loop-unit.unit in
    let test = λ (u : ℕ). is_none (replica m c.args.components.now (position_of m c.args.stripe u)) in
    let found = rw c.position.ensures.value at c.replica.ensures in
    let tells = ap is_none (sym found) ∙ none_of c.replica.result c.is_none.result c.is_none.ensures in
    elim c.if-is_none.branch [
      | then-is_none+in_ok-push w ↦
          w.out-is ∙ w.in_ok-push.ensures.ok
          ∙ ap (λ xs. xs ++ (i ∷ [])) c.loop-unit.invariant
          ∙ sym (first_yes test i (tells ∙ w.if-is_none.true))
      | else-is_none w ↦ w.out-is ∙ c.loop-unit.invariant ∙ sym (first_no test i (tells ∙ w.if-is_none.false))
    ]
