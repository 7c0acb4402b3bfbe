-- Under a held grant that covers it a ready call can leave out what is lost.
use Rattle.std.proofs.Common.{◌≡◌, ◌≤◌, ◌<◌, ◌+◌, ◌==◌, ◌||◌, ℕ, suc, Bool, true, false, true≢false, not, List, [], ◌∷◌, length, slice_get, Option, Some, None, is_some, inl, inr, refl, sym, ap, subst, ◌∙◌, arith}
use Rattle.std.proofs.lemmas.Bool.{cases_Bool}
use Rattle.std.proofs.lemmas.Bool.Decides.{nat_tests}
use Rattle.data_map.specs.declared.check.RawMap.{RawMap}
use Rattle.data_map.specs.Check.{IsChecked}
use Rattle.data_map.specs.Striping.{parities}
use Rattle.server_rules.specs.Maps.{group_with}
use Rattle.stripe_plan.specs.Lost.{among, positions_out}
use Rattle.client_rules.specs.Calls.{is_write}
use Rattle.client_rules.specs.Commands.{credential_in}
use Rattle.client_rules.specs.Grants.{missing_from, missing_of}
use Rattle.exchange_law.proofs.Missing.{component_at}
use Rattle.world_history.specs.ClientNames.{Held, Listed}
use Rattle.world_history.specs.ServerNames.{Component}
use Rattle.world_history.specs.State.{at_number}
use Rattle.ready_law.specs.Enough.{AreAmong}
use Rattle.ready_law.specs.Reacting.{IsGood, CanProbe}
use Rattle.ready_law.specs.Ready.{stands, is_listed, has_failed, touched}
use Rattle.ready_law.proofs.Calls.{ReadyCall, scene_at, op_at, kept_at, own_at, lost_at}
use Rattle.ready_law.proofs.Lacking.{lost_are_listed}
use Rattle.ready_law.proofs.ReactingGood.{can_probe, good_for}

-- component k of a layout is missing where it has no credential there
missing_there : (ls : List Listed) (j k : ℕ) → among k (missing_from ls j) ≡ true
    → (i : ℕ) × (j + i ≡ k) × (i < length ls) × (is_some (credential_in (slice_get ls i)) ≡ false)
unfolding missing_from
missing_there [] j k e = absurd (cc e)
missing_there (l ∷ ls) j k e = elim (cases_Bool (is_some l.credential)) [
  | inl has ↦ let r = missing_there ls (j + 1) k (rw has at e) in (suc r.0, omega (arith, r.1), omega (arith, r.2), r.3)
  | inr none ↦ elim (cases_Bool (j == k)) [
    | inl here ↦ (0, grind (arith, nat_tests, here), omega arith, none)
    | inr other ↦
        let r = missing_there ls (j + 1) k (rw (none, other) at e) in
        (suc r.0, omega (arith, r.1), omega (arith, r.2), r.3)
  ]
]

-- What a held grant lists for the call's file: its map, its size and its components, and of those each that isn't missing; and it
-- lists what the call's readiness speaks of.
pub record ListsCall (s : ReadyCall) (held : Held) : Type 0 where
  pub map : held.map ≡ (kept_at s).map
  pub size : held.size ≡ (kept_at s).size
  pub checked : IsChecked (kept_at s).map
  pub shape : length (kept_at s).components ≡ (kept_at s).map.comps
  pub count : length held.components ≡ length (kept_at s).components
  pub unlisted : (k : ℕ) (at : Component) → slice_get (kept_at s).components k ≡ Some at
      → is_some (credential_in (slice_get held.components k)) ≡ false → at.missing ≡ true
  pub listed : (k : ℕ) → is_some (credential_in (slice_get held.components k))
      ≡ is_listed (kept_at s) (own_at s) (op_at s) k

module _ (s : ReadyCall) (held : Held) (it : ListsCall s held) where
  abbrev has : (k : ℕ) → Bool
  has k = is_some (credential_in (slice_get held.components k))

  missing : AreAmong (missing_of held) (lost_at s)
  missing k e =
      let at = missing_there held.components 0 k e in
      let here : at.0 ≡ k = omega (arith, at.1) in
      let c = component_at (kept_at s).components at.0 (omega (arith, at.2, it.count)) in
      let gone : c.0.missing ≡ true = it.unlisted at.0 c.0 c.1 at.3 in
      subst (λ (n : ℕ). among n (lost_at s) ≡ true) here
      (lost_are_listed (scene_at s) (kept_at s) at.0 c.0 c.1
      (ap (λ (b : Bool). b || has_failed (at_number s.world.drives c.0.drive)) gone))

  -- a component that isn't missing is listed
  stands_has : (k : ℕ) → stands (slice_get (kept_at s).components k) ≡ true → has k ≡ true
  stands_has k up = by (slice_get (kept_at s).components k) refl up (has k) refl
    where
      by : (o : Option Component) → slice_get (kept_at s).components k ≡ o → stands o ≡ true → (b : Bool)
          → is_some (credential_in (slice_get held.components k)) ≡ b
          → is_some (credential_in (slice_get held.components k)) ≡ true
      by None there up b is = absurd (cc up)
      by (Some at) there up true is = is
      by (Some at) there up false is = absurd (true≢false (sym up ∙ ap not (it.unlisted k at there is)))

  probed : is_write (op_at s) ≡ false → touched (kept_at s) (op_at s) ≡ [] → CanProbe held (lost_at s)
  probed reads none =
      let r = s.ready.reads reads in
      can_probe held (lost_at s) r.some.0 (stands_has r.some.0 r.some.1)
      (λ k there below. subst (λ (m : RawMap). length (positions_out m (lost_at s) (group_with m k)) ≤ parities m) (sym it.map)
      (r.probed none k (record {
        listed = sym (it.listed k) ∙ there;
        below = λ j less. sym (it.listed j) ∙ below j less;
      })))

  pub is_good : IsGood held (op_at s) (lost_at s)
  is_good =
      good_for (kept_at s) held (op_at s) it.map (lost_at s) it.size (subst IsChecked (sym it.map) it.checked)
      (it.count ∙ it.shape ∙ ap (λ (m : RawMap). m.comps) (sym it.map)) missing s.ready.enough probed
