-- A file that is made has few components, and a drive for each.
use Rattle.std.proofs.Common.{◌≡◌, ◌≤◌, ◌==◌, ◌&&◌, ◌*◌, ◌%◌, ℕ, Bool, true, false, List, Some, None, Result, Ok, Err, is_some, map, length, nat_lt, refl, sym, ap, subst, ◌∙◌, arith, inl, inr, if◌then◌else◌}
use Rattle.std.proofs.lemmas.Bool.{cases_Bool, eqb-true, ltb-false, and_parts}
use Rattle.std.proofs.lemmas.Bool.Decides.{nat_tests}
use Rattle.std.proofs.lemmas.List.{length-take, length-map}
use Rattle.std.proofs.lemmas.Nat.{div-add-mod'}
use Rattle.data_map.specs.declared.check.RawMap.{RawMap}
use Rattle.data_map.specs.declared.check.MapErr.{MapErr}
use Rattle.data_map.specs.declared.check.MapErr.TheVariants.{Unit as BadUnit, TooMany}
use Rattle.data_map.specs.Check.{bad_unit, too_many, too_few, bad_multiple, bad_width, bad_depth, checked}
use Rattle.data_map.specs.Striping.{replicas, positions, group_width, groups}
use Rattle.zone_place.specs.Zones.{all_asked, ask_of, has_room}
use Rattle.zone_place.proofs.Members.{spread_many}
use Rattle.server_rules.specs.declared.limits.TheConstants.{MAX_FILE_COMPONENTS}
use Rattle.server_rules.specs.State.{Server, Drive, FileExists}
use Rattle.server_rules.specs.Files.{file_at}
use Rattle.server_rules.specs.Zoning.{in_zones}
use Rattle.server_rules.specs.Making.{checked_64, online, are_of, by_online, by_check, refusal, places, drives_for}

-- ---- its map

checked_few : (m n : RawMap) → checked_64 m ≡ Ok n → m.comps ≤ MAX_FILE_COMPONENTS
unfolding checked_64
checked_few m n e = by (bad_unit m) (nat_lt MAX_FILE_COMPONENTS m.comps) refl e
  where
    by : (a b : Bool) → nat_lt MAX_FILE_COMPONENTS m.comps ≡ b
        → (if a then Err BadUnit else if b then Err TooMany else checked m) ≡ Ok n → m.comps ≤ MAX_FILE_COMPONENTS
    by true b f g = absurd (cc g)
    by false true f g = absurd (cc g)
    by false false f g = ltb-false MAX_FILE_COMPONENTS m.comps f

same_map : (a b c d e f : Bool) (v w x y z u : MapErr) (m n : RawMap)
    → (if a then Err v else if b then Err w else if c then Err x else if d then Err y else if e then Err z
    else if f then Err u else Ok m) ≡ Ok n → m ≡ n
same_map true b c d e f v w x y z u m n g = absurd (cc g)
same_map false true c d e f v w x y z u m n g = absurd (cc g)
same_map false false true d e f v w x y z u m n g = absurd (cc g)
same_map false false false true e f v w x y z u m n g = absurd (cc g)
same_map false false false false true f v w x y z u m n g = absurd (cc g)
same_map false false false false false true v w x y z u m n g = absurd (cc g)
same_map false false false false false false v w x y z u m n g = cc g

checked_same : (m n : RawMap) → checked m ≡ Ok n → m ≡ n
unfolding checked
checked_same m n e =
    same_map (bad_unit m) (too_many m) (too_few m) (bad_multiple m) (bad_width m) (bad_depth m) _ _ _ _ _ _ m n e

checked_64_checked : (m n : RawMap) → checked_64 m ≡ Ok n → checked m ≡ Ok n
unfolding checked_64
checked_64_checked m n e = by (bad_unit m) (nat_lt MAX_FILE_COMPONENTS m.comps) e
  where
    by : (a b : Bool) → (if a then Err BadUnit else if b then Err TooMany else checked m) ≡ Ok n → checked m ≡ Ok n
    by true b g = absurd (cc g)
    by false true g = absurd (cc g)
    by false false g = g

-- it has whole groups
whole_map : (m n : RawMap) → checked m ≡ Ok n → all_asked (ask_of m) ≡ m.comps
unfolding checked
whole_map m n e =
    let whole_positions : m.comps % replicas m ≡ 0 = grind (arith, nat_tests) in
    let whole_groups : positions m % group_width m ≡ 0 = grind (arith, nat_tests) in
    let grouped : groups m * group_width m ≡ positions m =
    omega (arith, div-add-mod' (positions m) (group_width m), whole_groups) in
    let apart : groups m * (group_width m * replicas m) ≡ groups m * group_width m * replicas m = omega arith in
    let all : positions m * replicas m ≡ m.comps = omega (arith, div-add-mod' m.comps (replicas m), whole_positions) in
    apart ∙ ap (λ (p : ℕ). p * replicas m) grouped ∙ all

-- where it isn't refused
pub record IsMade (s : Server) (m : RawMap) (zoned : Bool) : Type 0 where
  pub few : m.comps ≤ MAX_FILE_COMPONENTS
  pub whole : all_asked (ask_of m) ≡ m.comps
  pub drives : by_online m zoned s.drives ≡ None

pub not_refused : (s : Server) (n : ℕ) (m : RawMap) (zoned : Bool) → refusal s n m zoned ≡ None → IsMade s m zoned
unfolding refusal
not_refused s n m zoned e = by (is_some (file_at s.files n)) e
  where
    by_result : (r : Result RawMap MapErr) → checked_64 m ≡ r → by_check zoned s.drives r ≡ None → IsMade s m zoned
    by_result (Err x) is none = absurd (cc none)
    by_result (Ok k) is none =
        let whole : checked m ≡ Ok k = checked_64_checked m k is in
        record {
          few = checked_few m k is;
          whole = whole_map m k whole;
          drives = subst (λ (x : RawMap). by_online x zoned s.drives ≡ None) (sym (checked_same m k whole)) none;
        }

    by : (b : Bool) → (if b then Some FileExists else by_check zoned s.drives (checked_64 m)) ≡ None → IsMade s m zoned
    by true f = absurd (cc f)
    by false f = by_result (checked_64 m) refl f

-- ---- its drives

length_places : (ds : List Drive) (count : ℕ) (chosen : List ℕ) → count ≤ length (online ds)
    → length (places ds count chosen) ≡ count
unfolding places
length_places ds count chosen many = elim (cases_Bool ((length chosen == count) && are_of (online ds) chosen)) [
  | inl t ↦ rw t (eqb-true (length chosen) count (and_parts (length chosen == count) (are_of (online ds) chosen) t).0)
  | inr z ↦
      rw z
      (length-take count (map (λ (d : Drive). d.number) (online ds))
      ∙ omega (arith, many, length-map (online ds) (λ (d : Drive). d.number)))
]

length_for : (zoned : Bool) (ds : List Drive) (m : RawMap) (chosen : List ℕ) → by_online m zoned ds ≡ None
    → all_asked (ask_of m) ≡ m.comps → length (drives_for zoned ds m chosen) ≡ m.comps
length_for false ds m chosen none whole = elim (cases_Bool (nat_lt (length (online ds)) m.comps)) [
  | inl t ↦ absurd (cc (rw t at none))
  | inr z ↦ length_places ds m.comps chosen (ltb-false (length (online ds)) m.comps z)
]
length_for true ds m chosen none whole = elim (cases_Bool (nat_lt (length (in_zones (online ds))) m.comps)) [
  | inl t ↦ absurd (cc (rw t at none))
  | inr z ↦ elim (cases_Bool (has_room (ask_of m) (in_zones (online ds)))) [
    | inl r ↦ spread_many (ask_of m) (in_zones (online ds)) chosen r ∙ whole
    | inr r ↦ absurd (cc (rw (z, r) at none))
  ]
]

pub length_made : (s : Server) (n : ℕ) (m : RawMap) (zoned : Bool) (chosen : List ℕ) → refusal s n m zoned ≡ None
    → length (drives_for zoned s.drives m chosen) ≡ m.comps
length_made s n m zoned chosen none =
    let made = not_refused s n m zoned none in length_for zoned s.drives m chosen made.drives made.whole
