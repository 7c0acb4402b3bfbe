use Rattle.std.proofs.Common.{rules, ◌≡◌, ℕ, List, map, take, sym, subst, ◌∙◌}
use Rattle.stripe_repair.specs.Placing.{Places}
use Rattle.osd_replay.proofs.Placed.{first_places}
use Rattle.osd_replay.proofs.placing.fewest_first.Goals as goal

pub returns-clause-places : goal.returns-clause-places
returns-clause-places c = λ x is.
    let same : c.from_vec.result ≡ x = cc is in
    let chosen : c.from_vec.result ≡ map (λ (pair : ℕ × ℕ). pair.1) (take c.args.count c.in_ok-online.online.items) =
    search rules in
    subst (λ (y : List ℕ). Places c.args.count c.args.loads.now y) (sym chosen ∙ same)
    (first_places c.args.count c.args.loads.now c.in_ok-online.online.items c.requires c.in_ok-online.ensures.same)

pub returns-clause-fewest : goal.returns-clause-fewest
returns-clause-fewest c = λ x is.
    let same : c.from_vec.result ≡ x = cc is in
    let chosen : c.from_vec.result ≡ map (λ (pair : ℕ × ℕ). pair.1) (take c.args.count c.in_ok-online.online.items) =
    search rules in
    record { pairs = c.in_ok-online.online.items; order = c.in_ok-online.ensures; first = sym same ∙ chosen }
