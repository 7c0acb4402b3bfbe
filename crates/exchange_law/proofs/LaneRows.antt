-- When a drive answers that there is no lane, or that a command is stale.
use Rattle.std.proofs.Common.{◌≡◌, ℕ, ◌<◌, ◌≤◌, ◌&&◌, ◌++◌, ◌∷◌, [], List, Bool, true, false, nat_le, nat_lt, nat_eq, length, slice_get, Option, Some, None, option_map, refl, sym, ap, ◌∙◌, arith, zero, suc, inl, inr}
use Rattle.std.specs.Prelude.{get_or}
use Rattle.std.proofs.lemmas.Bool.Decides.{nat_tests}
use Rattle.std.proofs.lemmas.List.Quantifiers.{position-Some}
use Rattle.std.proofs.lemmas.Option.{get_or_from_slice_get}
use Rattle.std.proofs.lemmas.Bool.{and_parts}
use Rattle.osd_commands.specs.declared.commands.Command.{Command}
use Rattle.osd_objects.specs.declared.lanes.LaneEntry.{LaneEntry}
use Rattle.osd_objects.specs.declared.lanes.TheConstants.{MAX_LANES}
use Rattle.osd_objects.specs.declared.object.StoredObject.{StoredObject}
use Rattle.osd_objects.specs.Lanes.{place_of, lane_at, lane_of}
use Rattle.osd_objects.specs.Objects.{state_of}
use Rattle.osd_objects.specs.Store.{lane_or_none}
use Rattle.osd_drive.specs.declared.verdict.Verdict.{Verdict}
use Rattle.osd_drive.specs.declared.verdict.Verdict.TheVariants as verdict
use Rattle.osd_drive.specs.State.{DriveState, view_of}
use Rattle.osd_drive.specs.Table.{Row, NoneApplies, first_row, early_rows, first_fault, has_no_right, of_object, of_lane, lacks_object, finds_object, has_other_tag, passes_limit, lacks_space, lacks_lane, is_stale, lacks_attribute, is_repeated, tag_of, nonce_of}
use Rattle.server_rules.specs.Laws.{In}

-- ---- the first row

-- none of these rows has the verdict
abbrev Without : Verdict → List Row → Type 0
Without v [] = Unit {0}
Without v (r ∷ rows) = (r.1 ≡ v → ⊥) × Without v rows

one_row : (b : Bool) (u v : Verdict) → (u ≡ v → ⊥) → (rest : List Row) → first_row ((b, u) ∷ rest) ≡ v
    → (b ≡ false) × (first_row rest ≡ v)
one_row true u v other rest e = absurd (other e)
one_row false u v other rest e = (refl, e)

-- those in front don't apply
skip : (front back : List Row) (v : Verdict) → Without v front → first_row (front ++ back) ≡ v
    → NoneApplies front × (first_row back ≡ v)
skip [] back v without e = (tt, e)
skip (r ∷ front) back v without e =
    let here = one_row r.0 r.1 v without.0 (front ++ back) e in
    let rest = skip front back v without.1 here.1 in
    ((here.0, rest.0), rest.1)

-- and the only one with the verdict does
applies : (b : Bool) (u v : Verdict) (rest : List Row) → (first_row rest ≡ v → ⊥) → first_row ((b, u) ∷ rest) ≡ v
    → b ≡ true
applies true u v rest none e = refl
applies false u v rest none e = absurd (none e)

never : (rows : List Row) (v : Verdict) → Without v rows → (verdict.Perform ≡ v → ⊥) → first_row rows ≡ v → ⊥
never [] v without other e = other e
never (r ∷ rows) v without other e =
    never rows v without.1 other (one_row r.0 r.1 v without.0 rows e).1

module _ (d : DriveState) (now : ℕ) (c : Command) where
  -- the rows before those on lanes
  abbrev before_lanes : List Row
  before_lanes =
      early_rows d now c ++ ((lacks_object (view_of d.store c) c, verdict.NoObject)
      ∷ (finds_object (view_of d.store c) c, verdict.Exists)
      ∷ (has_other_tag (view_of d.store c) c, verdict.Tag (tag_of (view_of d.store c).object))
      ∷ (passes_limit (view_of d.store c) c, verdict.Limit)
      ∷ (lacks_space (view_of d.store c) c, verdict.NoSpace (view_of d.store c).free) ∷ [])

  abbrev behind_lanes : List Row
  behind_lanes =
      (lacks_attribute (view_of d.store c) c, verdict.AttrFull)
      ∷ (is_repeated (view_of d.store c) c, verdict.Again) ∷ []

  abbrev stale_on : List Row
  stale_on = (is_stale (view_of d.store c) c, verdict.Stale (nonce_of (view_of d.store c).lane)) ∷ behind_lanes

  pub full_row : first_fault d now c ≡ verdict.LaneFull
      → (has_no_right c ≡ false) × (lacks_lane (view_of d.store c) c ≡ true)
  unfolding first_fault
  full_row e =
      let r = skip before_lanes ((lacks_lane (view_of d.store c) c, verdict.LaneFull) ∷ stale_on) verdict.LaneFull (
        λ x. cc x,
        (
          λ x. cc x,
          (
            λ x. cc x,
            (
              λ x. cc x,
              (
                λ x. cc x,
                (
                  λ x. cc x,
                  (
                    λ x. cc x,
                    (
                      λ x. cc x,
                      (
                        λ x. cc x,
                        (
                          λ x. cc x,
                          (λ x. cc x, (λ x. cc x, tt)),
                        ),
                      ),
                    ),
                  ),
                ),
              ),
            ),
          ),
        ),
      ) e in (
        r.0.1.1.1.1.0,
        applies (lacks_lane (view_of d.store c) c) verdict.LaneFull verdict.LaneFull stale_on
            (never stale_on verdict.LaneFull (λ x. cc x, (λ x. cc x, (λ x. cc x, tt))) (λ x. cc x)) r.1,
      )

  pub stale_row : (last : ℕ) → first_fault d now c ≡ verdict.Stale last
      → (has_no_right c ≡ false) × (is_stale (view_of d.store c) c ≡ true)
  unfolding first_fault
  stale_row last e =
      let r = skip before_lanes ((lacks_lane (view_of d.store c) c, verdict.LaneFull) ∷ stale_on) (verdict.Stale last) (
        λ x. cc x,
        (
          λ x. cc x,
          (
            λ x. cc x,
            (
              λ x. cc x,
              (
                λ x. cc x,
                (
                  λ x. cc x,
                  (
                    λ x. cc x,
                    (
                      λ x. cc x,
                      (
                        λ x. cc x,
                        (
                          λ x. cc x,
                          (λ x. cc x, (λ x. cc x, tt)),
                        ),
                      ),
                    ),
                  ),
                ),
              ),
            ),
          ),
        ),
      ) e in
      let s = one_row (lacks_lane (view_of d.store c) c) verdict.LaneFull (verdict.Stale last) (λ x. cc x) stale_on
      r.1 in (
        r.0.1.1.1.1.0,
        applies (is_stale (view_of d.store c) c) (verdict.Stale (nonce_of (view_of d.store c).lane))
            (verdict.Stale last) behind_lanes
            (never behind_lanes (verdict.Stale last) (λ x. cc x, (λ x. cc x, tt)) (λ x. cc x)) s.1,
      )

-- ---- what the rows on lanes say

-- where there is no lane, there are as many as there may be
pub are_many : (o : Option StoredObject) (changes none : Bool)
    → (changes && (none && of_object (λ s. nat_le MAX_LANES s.lanes) (option_map state_of o))) ≡ true
    → (x : StoredObject) × (o ≡ Some x) × (MAX_LANES ≤ length x.lanes)
are_many None changes none e = absurd (cc (and_parts none false (and_parts changes (none && false) e).1).1)
are_many (Some x) changes none e =
    let r = (and_parts none _ (and_parts changes _ e).1).1 in
    (x, refl, below MAX_LANES (length x.lanes) r)
  where
    below : (a b : ℕ) → nat_le a b ≡ true → a ≤ b
    below a b f = grind (arith, f, nat_tests)

-- where a command is stale, its holder has a lane with a later nonce
pub record IsLate (o : Option StoredObject) (holder nonce : ℕ) : Type 0 where
  pub object : StoredObject
  pub there : o ≡ Some object
  pub lane : LaneEntry
  pub inside : In lane object.lanes
  pub holder_is : lane.holder ≡ holder
  pub later : nonce < lane.nonce

pub in_lanes : (ls : List LaneEntry) (n : ℕ) (l : LaneEntry) → slice_get ls n ≡ Some l → In l ls
in_lanes [] n l e = absurd (cc e)
in_lanes (x ∷ ls) zero l e = inl (sym (same e))
  where
    same : Some x ≡ Some l → x ≡ l
    same f = cc f
in_lanes (x ∷ ls) (suc n) l e = inr (in_lanes ls n l e)

pub lane_found : (ls : List LaneEntry) (q : ℕ) (o : Option ℕ) (l : LaneEntry) → place_of ls q ≡ o
    → lane_at ls o ≡ Some l → In l ls × (l.holder ≡ q)
lane_found ls q None l e f = absurd (cc f)
lane_found ls q (Some i) l e f =
    let p = position-Some (λ k. nat_eq k.holder q) ls i l e in
    let is : get_or ls i l ≡ l = get_or_from_slice_get ls i l l f in
    (in_lanes ls i l f, ap (λ (k : LaneEntry). k.holder) (sym is) ∙ same (get_or ls i l).holder q p.1)
  where
    same : (a b : ℕ) → nat_eq a b ≡ true → a ≡ b
    same a b g = grind (arith, g, nat_tests)

late_lane : (x : StoredObject) (holder nonce : ℕ) (o : Option LaneEntry) → lane_of x.lanes holder ≡ o
    → of_lane (λ l. nat_lt nonce l.nonce) o ≡ true → IsLate (Some x) holder nonce
late_lane x holder nonce None there e = absurd (cc e)
late_lane x holder nonce (Some l) there e =
    let f = lane_found x.lanes holder (place_of x.lanes holder) l refl there in
    record {
      object = x;
      there = refl;
      lane = l;
      inside = f.0;
      holder_is = f.1;
      later = below nonce l.nonce e;
    }
  where
    below : (a b : ℕ) → nat_lt a b ≡ true → a < b
    below a b f = grind (arith, f, nat_tests)

pub is_late : (o : Option StoredObject) (changes : Bool) (holder nonce : ℕ)
    → (changes && of_lane (λ l. nat_lt nonce l.nonce) (lane_or_none o holder)) ≡ true
    → (changes ≡ true) × IsLate o holder nonce
is_late None changes holder nonce e = absurd (cc (and_parts changes false e).1)
is_late (Some x) changes holder nonce e =
    let r = and_parts changes _ e in (r.0, late_lane x holder nonce (lane_of x.lanes holder) refl r.1)
