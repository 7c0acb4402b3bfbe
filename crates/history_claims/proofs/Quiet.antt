-- What is due where no message is.
use Rattle.std.proofs.Common.{◌≡◌, ◌⊎◌, ℕ, Bool, true, false, List, [], ◌∷◌, Option, Some, None, is_some, refl, sym, ap, ◌∙◌, inl, inr, if◌then◌else◌}
use Rattle.client_rules.specs.Messages.{awaited_of}
use Rattle.client_rules.specs.Steps.{awaits_by, awaits}
use Rattle.world_history.specs.ClientNames as client_rules
use Rattle.world_history.specs.ClientNames.{Client, Awaits, Awaited, Request}
use Rattle.world_history.specs.State.{World, ClientAt, at_number}
use Rattle.world_history.specs.Moves.{Action, Delivers, TimesOut, Pends}
use Rattle.world_history.specs.Plans.{when_quiet, quiet_at, quiet_of, due_pending}

-- a component that the client's call awaits times out, or the call is left pending
pub data IsQuiet (w : World) (o : Option ℕ) (b : Action) : Type 0 where
  Times : (c k : ℕ) (a : ClientAt) → o ≡ Some c → at_number w.clients c ≡ Some a → awaits a.state ≡ client_rules.ADrive k
      → b ≡ TimesOut c k → IsQuiet w o b
  Leaves : (c : ℕ) (a : ClientAt) → o ≡ Some c → at_number w.clients c ≡ Some a → awaited_of a.state.call ≡ [] → b ≡ Pends c
      → IsQuiet w o b

-- who awaits a drive has a command awaited
no_drive : (xs : List Awaited) (r : Option Request) → ((k : ℕ) → awaits_by xs r ≡ client_rules.ADrive k → ⊥) → xs ≡ []
no_drive [] r none = refl
no_drive (x ∷ xs) r none = absurd (none _ refl)

none_awaited : (x : Client) → ((k : ℕ) → awaits x ≡ client_rules.ADrive k → ⊥) → awaited_of x.call ≡ []
unfolding awaits
none_awaited x none = no_drive (awaited_of x.call) x.outstanding none

-- where nothing is due the call awaits no command
pub idle : (c : ℕ) (a : ClientAt) → when_quiet c a.state (awaits a.state) ≡ None → awaited_of a.state.call ≡ []
idle c a e = none_awaited a.state (λ k is. cc (sym (ap (when_quiet c a.state) is) ∙ e))

module _ (w : World) (b : Action) where
  by_call : (c : ℕ) (x : Bool) → (if x then Some (Pends c) else None) ≡ Some b → b ≡ Pends c
  by_call c true e = own e
    where
      own : Some (Pends c) ≡ Some b → b ≡ Pends c
      own x = cc x
  by_call c false e = absurd (cc e)

  by_awaits : (c : ℕ) (a : ClientAt) → at_number w.clients c ≡ Some a → (x : Awaits) → awaits a.state ≡ x
      → when_quiet c a.state x ≡ Some b → IsQuiet w (Some c) b
  by_awaits c a there client_rules.Nothing is e =
      Leaves c a refl there (none_awaited a.state (λ k i. cc (sym is ∙ i))) (by_call c (is_some a.state.call) e)
  by_awaits c a there client_rules.TheServer is e =
      Leaves c a refl there (none_awaited a.state (λ k i. cc (sym is ∙ i))) (by_call c (is_some a.state.call) e)
  by_awaits c a there (client_rules.ADrive k) is e = let same : TimesOut c k ≡ b = cc e in Times c k a refl there is (sym same)

  by_client : (c : ℕ) (x : Option ClientAt) → at_number w.clients c ≡ x → quiet_at c x ≡ Some b → IsQuiet w (Some c) b
  by_client c None there e = absurd (cc e)
  by_client c (Some a) there e = by_awaits c a there (awaits a.state) refl e

  pub quiet_is : (o : Option ℕ) → quiet_of w o ≡ Some b → IsQuiet w o b
  quiet_is None e = absurd (cc e)
  quiet_is (Some c) e = by_client c (at_number w.clients c) refl e

  -- what is due: the lowest pending message, or what is where none is
  pub due_is : (o y : Option ℕ) → due_pending w o y ≡ Some b
      → ((n : ℕ) × (y ≡ Some n) × (b ≡ Delivers n)) ⊎ ((y ≡ None) × IsQuiet w o b)
  due_is o (Some n) e = let same : Delivers n ≡ b = cc e in inl (n, refl, sym same)
  due_is o None e = inr (refl, quiet_is o e)
