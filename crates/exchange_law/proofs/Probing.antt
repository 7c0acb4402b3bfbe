-- A probe of no byte stands where the range of a component's capability begins.
use Rattle.std.proofs.Common.{◌≡◌, ◌≤◌, ◌<◌, ℕ, zero, suc, List, [], ◌∷◌, ◌+◌, ◌*◌, ◌/◌, ◌^◌, Option, Some, None, length, is_some, refl, sym, ap, subst, ◌∙◌, inl, inr, arith}
use Rattle.std.specs.List.{AllByRecursion}
use Rattle.std.proofs.lemmas.Bool.{cases_Bool}
use Rattle.std.proofs.lemmas.Nat.{div_below}
use Rattle.data_map.specs.declared.check.RawMap.{RawMap}
use Rattle.data_map.specs.Check.{IsChecked}
use Rattle.data_map.specs.Striping.{replicas, positions}
use Rattle.data_map.proofs.Shape.{whole_positions, replicas_inside, group_ends}
use Rattle.stripe_plan.specs.Lost.{among, source, is_out}
use Rattle.exchange_law.specs.PlaceState.{Held, Listed, Credential, TimedOut}
use Rattle.client_rules.specs.Io.{outs}
use Rattle.client_rules.specs.Commands.{credential_of}
use Rattle.client_rules.specs.Reads.{first_present, probe_of, probe_each, probes_due}
use Rattle.exchange_law.specs.Kept.{IsGrant}
use Rattle.server_rules.specs.declared.files.Kept.{Kept}
use Rattle.server_rules.specs.declared.grants.Grant.{Grant}
use Rattle.exchange_law.proofs.PlaceLists.{either_all}
use Rattle.exchange_law.proofs.Plans.{source_found}
use Rattle.exchange_law.specs.Asked.{AskFits}
use Rattle.exchange_law.proofs.Reach.{is_listed}
use Rattle.exchange_law.proofs.Commands.{credential_found}
use Rattle.exchange_law.proofs.Parts.{each_more}

-- a component that is present is one of them
present_below : (ls : List Listed) (k j : ℕ) → first_present ls k ≡ Some j → j < k + length ls
unfolding first_present
present_below [] k j e = absurd (cc e)
present_below (l ∷ ls) k j e = elim (cases_Bool (is_some l.credential)) [
  | inl has ↦ let same : k ≡ j = cc (rw has at e) in omega (arith, same)
  | inr not ↦ let rest = present_below ls (k + 1) j (rw not at e) in omega (arith, rest)
]

module _ (f : Kept) (g : Grant) (h : Held) (k : IsGrant f g h) where
  probe_fits : (timed : List TimedOut) (p : ℕ) (o : Option ℕ) → p < positions h.map → IsChecked h.map
      → source h.map (outs h timed) p ≡ o → AllByRecursion (AskFits h.components) (probe_of h p o)
  unfolding source
  probe_fits timed p None low ch from = tt
  probe_fits timed p (Some n) low ch from =
      let found = source_found (outs h timed) (p * replicas h.map) (replicas h.map) n from in
      let complete : length h.components ≡ h.map.comps = k.complete ∙ ap (λ (m : RawMap). m.comps) (sym k.map) in
      let below : n < length h.components = omega (arith, complete, found.1, replicas_inside h.map p ch low) in
      let l = is_listed h timed n below found.2 in
      let is : credential_of h n ≡ l.credential = credential_found h n l.listed l.credential l.found l.has in
      let start : (credential_of h n).capability.range_start ≡ l.credential.capability.range_start =
      ap (λ (c : Credential). c.capability.range_start) is in
      let own = k.present n l.listed l.credential l.found l.has in
      let fits : l.credential.capability.range_start < 2 ^ 64 =
      rw own.capability own.fits.range_start in (
        record {
          listed = l.listed;
          found = l.found;
          credential = l.credential;
          has = l.has;
          first = omega (arith, start);
          end = omega (arith, start);
          near = rw start fits;
          short = omega arith;
        },
        tt,
      )

  each_fits : (timed : List TimedOut) (have : List ℕ) (p n : ℕ) → p + n ≤ positions h.map → IsChecked h.map
      → AllByRecursion (AskFits h.components) (probe_each h (outs h timed) have p n)
  unfolding probe_each
  each_fits timed have p zero low ch = tt
  each_fits timed have p (suc n) low ch =
      each_more (AskFits h.components) _ _
      (either_all (AskFits h.components) (among p have) [] _ tt
      (probe_fits timed p (source h.map (outs h timed) p) (omega (arith, low)) ch refl))
      (each_fits timed have (p + 1) n (omega (arith, low)) ch)

  -- whichever components timed out, and whatever is had
  pub probes_fit : (timed : List TimedOut) (have : List ℕ) (n : ℕ) → first_present h.components 0 ≡ Some n
      → AllByRecursion (AskFits h.components) (probes_due h (outs h timed) have (n / replicas h.map))
  unfolding probes_due
  probes_fit timed have n first =
      let ch : IsChecked h.map = subst IsChecked (sym k.map) k.checked in
      let complete : length h.components ≡ h.map.comps = k.complete ∙ ap (λ (m : RawMap). m.comps) (sym k.map) in
      let below : n < positions h.map * replicas h.map =
      omega (arith, present_below h.components 0 n first, complete, whole_positions h.map ch) in
      let low : n / replicas h.map < positions h.map =
      div_below n (replicas h.map) (positions h.map) (omega arith) below in
      either_all (AskFits h.components) (is_out h.map (outs h timed) (n / replicas h.map)) _ _
      (each_fits timed have _ _ (group_ends h.map (n / replicas h.map) ch low) ch)
      (each_fits timed have (n / replicas h.map) 1 (omega (arith, low)) ch)
