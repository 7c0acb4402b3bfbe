-- What was put on a connection by lawful steps.
use Rattle.std.proofs.Common.{◌≡◌, ℕ, Bool, true, false, nat_eq, if◌then◌else◌, List, [], ◌∷◌, ◌++◌, refl, sym, ap, ◌∙◌, append_assoc}
use Rattle.port_loop.specs.Ports.{is_guest, is_open, went_on}
use Rattle.port_loop.specs.declared.ports.Happening.TheVariants.{Began, Opened, Refused, Came, Went, Failed, Drained, Ended, Closed, Passed}
use Rattle.port_loop.specs.Steps.{Answer, Change, Handled, IsFrontOnEach, Lawful, Step, Unsent, after_all, frames_on, handled_in, happened}
use Rattle.port_loop.specs.Steps.Step.{Happens, Handles}
use Rattle.port_loop.proofs.ListLaws.{everywhere, frames-append, same}

-- what is owed, after some more is owed
more-owed : {S : Type 0} (reply : Answer S) (step : Change S) (first : S) (h : Handled) (older : List Step) (p : ℕ)
    → (unsent : List ℕ) × Unsent reply step first p older unsent
    → (unsent : List ℕ) × Unsent reply step first p (Handles h ∷ older) unsent
more-owed reply step first h older p u =
    let more : List ℕ = frames_on reply step p (after_all step first (handled_in older)) (h ∷ []) in (
      u.0 ++ more,
      frames-append reply step p first (handled_in older) (h ∷ [])
          ∙ ap (λ (l : List ℕ). l ++ more) u.1 ∙ append_assoc (went_on p (happened older)) u.0 more,
    )

pub fronts : {S : Type 0} (reply : Answer S) (step : Change S) (first : S) (steps : List Step) → Lawful reply step first steps
    → IsFrontOnEach reply step first steps
fronts reply step first [] l = λ p. ([], refl)
fronts reply step first (Handles h ∷ older) l = λ p. more-owed reply step first h older p (fronts reply step first older l.1 p)
fronts reply step first (Happens (Began q) ∷ older) l = fronts reply step first older l.1
fronts reply step first (Happens (Opened q to) ∷ older) l = absurd l.0
fronts reply step first (Happens (Refused to) ∷ older) l = absurd l.0
fronts reply step first (Happens (Came q bytes) ∷ older) l = fronts reply step first older l.1
fronts reply step first (Happens (Failed q) ∷ older) l = fronts reply step first older l.1
fronts reply step first (Happens (Drained q) ∷ older) l = fronts reply step first older l.1
fronts reply step first (Happens (Ended q) ∷ older) l = fronts reply step first older l.1
fronts reply step first (Happens (Closed q) ∷ older) l = fronts reply step first older l.1
fronts reply step first (Happens Passed ∷ older) l = fronts reply step first older l.1
fronts reply step first (Happens (Went q bytes full) ∷ older) l = λ p.
    everywhere (λ (r : ℕ). (unsent : List ℕ) × Unsent reply step first r (Happens (Went q bytes full) ∷ older) unsent) q p (
      l.0.1,
      rw (same q) (l.0.2 ∙ sym (append_assoc (went_on q (happened older)) bytes l.0.1)),
    )
    (λ ne. let u = fronts reply step first older l.1 p in (u.0, rw ne u.1))

-- all connections that are open were begun by others
pub guests : {S : Type 0} (reply : Answer S) (step : Change S) (first : S) (steps : List Step) (p : ℕ)
    → Lawful reply step first steps → is_guest p (happened steps) ≡ is_open p (happened steps)
guests reply step first [] p l = refl
guests reply step first (Handles h ∷ older) p l = guests reply step first older p l.1
guests reply step first (Happens (Began q) ∷ older) p l =
    ap (λ (b : Bool). if nat_eq q p then true else b) (guests reply step first older p l.1)
guests reply step first (Happens (Opened q to) ∷ older) p l = absurd l.0
guests reply step first (Happens (Refused to) ∷ older) p l = absurd l.0
guests reply step first (Happens (Came q bytes) ∷ older) p l = guests reply step first older p l.1
guests reply step first (Happens (Went q bytes full) ∷ older) p l = guests reply step first older p l.1
guests reply step first (Happens (Failed q) ∷ older) p l = guests reply step first older p l.1
guests reply step first (Happens (Drained q) ∷ older) p l = guests reply step first older p l.1
guests reply step first (Happens (Ended q) ∷ older) p l =
    ap (λ (b : Bool). if nat_eq q p then false else b) (guests reply step first older p l.1)
guests reply step first (Happens (Closed q) ∷ older) p l =
    ap (λ (b : Bool). if nat_eq q p then false else b) (guests reply step first older p l.1)
guests reply step first (Happens Passed ∷ older) p l = guests reply step first older p l.1
