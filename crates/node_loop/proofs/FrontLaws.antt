-- What was put on a connection by lawful steps.
use Rattle.std.proofs.Common.{ℕ, List, [], ◌∷◌, ◌++◌, refl, sym, ap, ◌∙◌, append_assoc}
use Rattle.osd_bytes.specs.Records.{framed}
use Rattle.port_loop.specs.Ports.{went_on}
use Rattle.port_loop.specs.declared.ports.Happening.TheVariants.{Began, Opened, Refused, Came, Went, Failed, Drained, Ended, Closed, Passed}
use Rattle.port_loop.proofs.ListLaws.{everywhere, same}
use Rattle.node_loop.specs.Rules.{Rules}
use Rattle.node_loop.specs.Steps.{IsFrontOnEach, Lawful, Step, Unsent, happened}
use Rattle.node_loop.specs.Steps.Step.{Happens, Hears, Resends, Posts, Loses}
use Rattle.node_loop.specs.declared.party.Message.{Message}

-- what is owed, after one message more was posted
posts-more : {C : Type 0} (p q : ℕ) (m : Message) (older : List (Step C)) → (unsent : List ℕ) × Unsent q older unsent
    → (unsent : List ℕ) × Unsent q (Posts p m ∷ older) unsent
posts-more {C} p q m older u =
    everywhere (λ (r : ℕ). (unsent : List ℕ) × Unsent r older unsent → (unsent : List ℕ) × Unsent r (Posts p m ∷ older)
    unsent) p q
    (λ x. (
      x.0 ++ framed m.bytes,
      rw (same p) (ap (λ (l : List ℕ). l ++ framed m.bytes) x.1 ∙ append_assoc (went_on p (happened older)) x.0 (framed m.bytes)),
    ))
    (λ ne x. (x.0, rw ne x.1)) u

pub fronts : {S C : Type 0} (r : Rules S C) (first : S) (steps : List (Step C)) → Lawful r first steps
    → IsFrontOnEach steps
fronts r first [] l = λ p. ([], refl)
fronts r first (Hears h ∷ older) l = fronts r first older l.1
fronts r first (Resends ∷ older) l = fronts r first older l.1
fronts r first (Loses m ∷ older) l = fronts r first older l.1
fronts r first (Posts p m ∷ older) l = λ q. posts-more p q m older (fronts r first older l.1 q)
fronts r first (Happens (Began q) ∷ older) l = fronts r first older l.1
fronts r first (Happens (Opened q to) ∷ older) l = fronts r first older l.1
fronts r first (Happens (Refused to) ∷ older) l = fronts r first older l.1
fronts r first (Happens (Came q bytes) ∷ older) l = fronts r first older l.1
fronts r first (Happens (Failed q) ∷ older) l = fronts r first older l.1
fronts r first (Happens (Drained q) ∷ older) l = fronts r first older l.1
fronts r first (Happens (Ended q) ∷ older) l = fronts r first older l.1
fronts r first (Happens (Closed q) ∷ older) l = fronts r first older l.1
fronts r first (Happens Passed ∷ older) l = fronts r first older l.1
fronts r first (Happens (Went q bytes full) ∷ older) l = λ p.
    everywhere (λ (o : ℕ). (unsent : List ℕ) × Unsent o (Happens (Went q bytes full) ∷ older) unsent) q p (
      l.0.1,
      rw (same q) (l.0.2 ∙ sym (append_assoc (went_on q (happened older)) bytes l.0.1)),
    )
    (λ ne. let u = fronts r first older l.1 p in (u.0, rw ne u.1))
