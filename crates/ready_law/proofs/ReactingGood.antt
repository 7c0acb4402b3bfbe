-- When a call under a grant can leave out what is lost, by the server's file; and that it can so while it sends more.
use Rattle.std.proofs.Common.{◌≡◌, ◌≤◌, ◌<◌, ℕ, zero, suc, ◌+◌, Bool, true, false, List, [], ◌∷◌, Some, length, is_some, slice_get, refl, sym, ap, subst, ◌∙◌, inl, inr, arith, if◌then◌else◌}
use Rattle.std.proofs.lemmas.Bool.{cases_Bool}
use Rattle.data_map.specs.declared.check.RawMap.{RawMap}
use Rattle.data_map.specs.Check.{IsChecked}
use Rattle.data_map.specs.Striping.{parities, group_of}
use Rattle.server_rules.specs.Laws.{In}
use Rattle.server_rules.specs.Maps.{group_with}
use Rattle.stripe_plan.specs.declared.plan.Aim.TheVariants as aim
use Rattle.stripe_plan.specs.Asks.{asks}
use Rattle.stripe_plan.specs.Lost.{positions_out}
use Rattle.stripe_plan.specs.Touched.{stripes}
use Rattle.client_rules.specs.Calls.{span_of, is_write}
use Rattle.client_rules.specs.Commands.{credential_in, counted}
use Rattle.client_rules.specs.Grants.{clipped, missing_of}
use Rattle.client_rules.specs.Reads.{first_present}
use Rattle.world_history.specs.ClientNames.{CallOp, Held, Listed, Awaited}
use Rattle.world_history.specs.ServerNames.{Kept}
use Rattle.ready_law.specs.Enough.{AreAmong, IsEnough}
use Rattle.ready_law.specs.Ready.{greatest_end, touched, IsTouched, write_end}
use Rattle.ready_law.specs.Reacting.{reached_under, touched_under, CanProbe, IsGood, IsReached, write_end_under}

-- ---- a component to ask

abbrev is_there : List Listed → (k : ℕ) → Bool
is_there ls k = is_some (credential_in (slice_get ls k))

-- the first component with a credential, from number k on
record IsFirst (ls : List Listed) (k : ℕ) : Type 0 where
  number : ℕ
  found : first_present ls k ≡ Some (k + number)
  there : is_there ls number ≡ true
  below : (j : ℕ) → j < number → is_there ls j ≡ false

it_is_first : (l : Listed) (ls : List Listed) (k : ℕ) → is_some l.credential ≡ true → IsFirst (l ∷ ls) k
unfolding first_present
it_is_first l ls k has = record {
  number = 0;
  found = rw has (ap Some (omega arith));
  there = has;
  below = λ j less. absurd (omega (arith, less));
}

first_is_later : (l : Listed) (ls : List Listed) (k : ℕ) → is_some l.credential ≡ false → IsFirst ls (k + 1)
    → IsFirst (l ∷ ls) k
unfolding first_present
first_is_later l ls k none r =
    let on : k + 1 + r.number ≡ k + suc r.number = omega arith in
    record { number = suc r.number; found = rw none (r.found ∙ ap Some on); there = r.there; below = behind }
  where
    behind : (j : ℕ) → j < suc r.number → is_there (l ∷ ls) j ≡ false
    behind zero less = none
    behind (suc j) less = r.below j (omega (arith, less))

first_there : (ls : List Listed) (k i : ℕ) → is_there ls i ≡ true → IsFirst ls k
first_there [] k i e = absurd (cc e)
first_there (l ∷ ls) k zero e = it_is_first l ls k e
first_there (l ∷ ls) k (suc i) e = elim (cases_Bool (is_some l.credential)) [
  | inl has ↦ it_is_first l ls k has
  | inr none ↦ first_is_later l ls k none (first_there ls (k + 1) i e)
]

-- A read of no byte can be answered where some component is listed, and the group of the lowest one has no more positions
-- lost than its parity brings back.
pub can_probe : (h : Held) (lost : List ℕ) (i : ℕ) → is_some (credential_in (slice_get h.components i)) ≡ true
    → ((k : ℕ) → is_some (credential_in (slice_get h.components k)) ≡ true
    → ((j : ℕ) → j < k → is_some (credential_in (slice_get h.components j)) ≡ false)
    → length (positions_out h.map lost (group_with h.map k)) ≤ parities h.map) → CanProbe h lost
can_probe h lost i there few =
    let first = first_there h.components 0 i there in
    let at0 : 0 + first.number ≡ first.number = omega arith in
    record {
      number = first.number;
      first = first.found ∙ ap Some at0;
      few = few first.number first.there first.below;
    }

-- ---- by the server's file

module _ (f : Kept) (h : Held) (op : CallOp) (map_is : h.map ≡ f.map) where
  pub touched_same : h.size ≡ f.size → touched_under h op ≡ touched f op
  touched_same size_is =
      ap (λ (m : RawMap). stripes m (reached_under h op)) map_is
      ∙ ap (λ (n : ℕ). stripes f.map (if is_write op then span_of op else clipped n (span_of op))) size_is

  -- a grant of the file, at its size
  pub good_for : (lost : List ℕ) → h.size ≡ f.size → IsChecked h.map → length h.components ≡ h.map.comps
      → AreAmong (missing_of h) lost → IsEnough f.map lost (touched f op)
      → (is_write op ≡ false → touched f op ≡ [] → CanProbe h lost) → IsGood h op lost
  good_for lost size_is checked complete missing enough probed =
      let same : touched_under h op ≡ touched f op = touched_same size_is in
      record {
        checked = checked;
        complete = complete;
        missing = missing;
        enough =
            subst (λ (m : RawMap). IsEnough m lost (touched_under h op)) (sym map_is)
            (subst (IsEnough f.map lost) (sym same) enough);
        probed = λ reads none. probed reads (sym same ∙ none);
      }

  module _ (writes : is_write op ≡ true) where
    same_stripes : touched_under h op ≡ touched f op
    same_stripes = rw writes (ap (λ (m : RawMap). stripes m (span_of op)) map_is)

    -- what a write asks it touches
    pub reached_there : (k : ℕ) → IsReached h op k → IsTouched f op k
    reached_there k (inl none) = absurd (cc (sym writes ∙ none.0))
    reached_there k (inr (s, there, group)) = (
      s,
      subst (In s) same_stripes there,
      subst (λ (m : RawMap). group_of m s ≡ group_with m k) map_is group,
    )

    -- and where its WRITEs end
    pub same_end : (k : ℕ) → write_end_under h op k ≡ write_end f op k
    same_end k =
        ap (λ (m : RawMap). greatest_end k (asks aim.Scatters m (span_of op) [] [] (stripes m (span_of op)))) map_is
        ∙ rw writes refl

-- ---- while it sends more

pub good_still : (h : Held) (op : CallOp) (lost : List ℕ) (sent : List Awaited) → IsGood h op lost
    → IsGood (counted h sent) op lost
good_still h op lost sent g = record {
  checked = g.checked;
  complete = g.complete;
  missing = g.missing;
  enough = g.enough;
  probed = λ reads none. let can = g.probed reads none in
      record { number = can.number; first = can.first; few = can.few };
}
