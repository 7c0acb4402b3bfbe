-- Drives in zones, by their loads and by the drives.
use Rattle.std.specs.Prelude.{ℕ, Bool, true, false, List, [], ◌∷◌, Option, Some, None, refl, ◌≡◌, ◌+◌, ◌==◌, ◌&&◌, ◌||◌, not, filter, find, is_some, map, if◌then◌else◌}
use Rattle.std.specs.List.{list_any}
use Rattle.std.specs.Option.{option_map}
use Rattle.std.proofs.Common.{inl, inr, ap, sym, ◌∙◌}
use Rattle.std.proofs.lemmas.Bool.{cases_Bool, eq-eqb}
use Rattle.zone_place.specs.declared.loads.ZoneLoad.{ZoneLoad}
use Rattle.zone_place.specs.Zones.{InZone, ask_of, zone_takes}
use Rattle.zone_place.specs.Choosing.{all_placed, comes_before, earlier, first_of, is_free, online_placed, pick_of}
use Rattle.server_rules.specs.declared.files.Component.{Component}
use Rattle.server_rules.specs.declared.files.Kept.{Kept}
use Rattle.server_rules.specs.declared.server.Drive.{Drive}
use Rattle.server_rules.specs.Making.{online}
use Rattle.server_rules.specs.Standing.{free_drives, stood_on}
use Rattle.server_rules.specs.Zoning.{and_in_zone, holders_from, in_zones, takers_by, zone_has_room}
use Rattle.stripe_repair.specs.declared.loads.DriveLoad.{DriveLoad}
use Rattle.stripe_repair.specs.Loads.{and_zoned, zone_loads}
use Rattle.file_jobs.specs.Placing.{AreLoadsOf, IsAmong}
use Rattle.file_jobs.proofs.Placed.{tail_of}

-- ---- where they are

one_placed : (l : DriveLoad) (zone : Option ℕ) (rest : List ZoneLoad) →
    all_placed (and_zoned l zone rest) ≡ and_in_zone l.drive zone (all_placed rest)
one_placed l None rest = refl
one_placed l (Some z) rest = refl

-- the loads are where the drives are
pub placed_alike : (loads : List DriveLoad) (ds : List Drive) → AreLoadsOf loads ds → all_placed (zone_loads loads) ≡ in_zones ds
unfolding in_zones
placed_alike [] [] e = refl
placed_alike [] (d ∷ ds) e = absurd (cc e)
placed_alike (l ∷ ls) [] e = absurd (cc e)
placed_alike (l ∷ ls) (d ∷ ds) e =
    let t = tail_of l ls d ds e in
    one_placed l l.zone (zone_loads ls) ∙ rw (t.0, t.3, placed_alike ls ds t.2) refl

one_online : (l : DriveLoad) (zone : Option ℕ) (rest : List ZoneLoad) →
    online_placed
    (and_zoned l zone rest) ≡ (if l.online then and_in_zone l.drive zone (online_placed rest) else online_placed rest)
one_online l None rest = elim (cases_Bool l.online) [ inl t ↦ rw t refl | inr f ↦ rw f refl ]
one_online l (Some z) rest = elim (cases_Bool l.online) [ inl t ↦ rw t refl | inr f ↦ rw f refl ]

pub drive_online : (d : Drive) (ds : List Drive) →
    in_zones (online (d ∷ ds)) ≡ (if d.online then and_in_zone d.number d.zone (in_zones (online ds)) else in_zones (online ds))
unfolding in_zones
drive_online d ds = elim (cases_Bool d.online) [ inl t ↦ rw t refl | inr f ↦ rw f refl ]

-- and so are those that are online
pub online_alike : (loads : List DriveLoad) (ds : List Drive) → AreLoadsOf loads ds →
    online_placed (zone_loads loads) ≡ in_zones (online ds)
unfolding in_zones
online_alike [] [] e = refl
online_alike [] (d ∷ ds) e = absurd (cc e)
online_alike (l ∷ ls) [] e = absurd (cc e)
online_alike (l ∷ ls) (d ∷ ds) e =
    let t = tail_of l ls d ds e in
    one_online l l.zone (zone_loads ls) ∙ rw (t.0, t.1, t.3, online_alike ls ds t.2) (sym (drive_online d ds))

-- ---- which may take a component

-- a load that may, by a test of drives and one of zones
abbrev may_take : (free room : ℕ → Bool) → ZoneLoad → Bool
may_take free room l = l.online && (free l.drive && room l.zone)

and_numbers : Bool → ℕ → List ℕ → List ℕ
and_numbers true n ns = n ∷ ns
and_numbers false n ns = ns

and_none : (a b : Bool) → (a && (b && false)) ≡ false
and_none true true = refl
and_none true false = refl
and_none false b = refl

one_taker : (free room : ℕ → Bool) (has : Option ℕ → Bool) (l : DriveLoad) (zone : Option ℕ) (rest : List ZoneLoad) →
    has None ≡ false → ((z : ℕ) → has (Some z) ≡ room z) →
    map (λ k. k.drive) (filter (may_take free room) (and_zoned l zone rest))
    ≡ and_numbers (l.online && (free l.drive && has zone)) l.drive (map (λ k. k.drive) (filter (may_take free room) rest))
unfolding and_numbers
one_taker free room has l None rest none some = rw (none, and_none l.online (free l.drive)) refl
one_taker free room has l (Some z) rest none some = rw (some z) (elim (cases_Bool (l.online && (free l.drive && room z))) [
  | inl t ↦ rw t refl
  | inr f ↦ rw f refl
])

and_assoc : (a b c : Bool) → ((a && b) && c) ≡ (a && (b && c))
and_assoc true b c = refl
and_assoc false b c = refl

drive_taker : (cs : List Component) (has : Option ℕ → Bool) (d : Drive) (ds : List Drive) →
    map (λ e. e.number) (filter (λ e. has e.zone) (free_drives (d ∷ ds) cs))
    ≡ and_numbers (d.online && (not (stood_on d.number cs) && has d.zone)) d.number
    (map (λ e. e.number) (filter (λ e. has e.zone) (free_drives ds cs)))
unfolding and_numbers
drive_taker cs has d ds = rw (← and_assoc d.online (not (stood_on d.number cs)) (has d.zone))
    (elim (cases_Bool (d.online && not (stood_on d.number cs))) [
      | inl t ↦ rw t (elim (cases_Bool (has d.zone)) [ inl u ↦ rw u refl | inr u ↦ rw u refl ])
      | inr f ↦ rw f refl
    ])

takers_alike : (cs : List Component) (free room : ℕ → Bool) (has : Option ℕ → Bool) (loads : List DriveLoad) (ds : List Drive) →
    AreLoadsOf loads ds →
    ((n : ℕ) → free n ≡ not (stood_on n cs)) → has None ≡ false → ((z : ℕ) → has (Some z) ≡ room z) →
    map (λ l. l.drive) (filter (may_take free room) (zone_loads loads)) ≡ map (λ d. d.number)
    (filter (λ d. has d.zone) (free_drives ds cs))
takers_alike cs free room has [] [] e f none some = refl
takers_alike cs free room has [] (d ∷ ds) e f none some = absurd (cc e)
takers_alike cs free room has (l ∷ ls) [] e f none some = absurd (cc e)
takers_alike cs free room has (l ∷ ls) (d ∷ ds) e f none some =
    let t = tail_of l ls d ds e in
    one_taker free room has l l.zone (zone_loads ls) none some
    ∙ rw (t.0, t.1, t.3, f d.number, takers_alike cs free room has ls ds t.2 f none some) (sym (drive_taker cs has d ds))

-- ---- the first of them

-- its drive is one of these
abbrev IsIn : Option ZoneLoad → List ZoneLoad → Type 0
IsIn None ls = ls ≡ []
IsIn (Some l) ls = list_any (λ n. n == l.drive) (map (λ k. k.drive) ls) ≡ true

or_later : (a b : Bool) → b ≡ true → (a || b) ≡ true
or_later true b e = refl
or_later false b e = e

earlier_in : (l : ZoneLoad) (ls : List ZoneLoad) (o : Option ZoneLoad) → IsIn o ls → IsIn (earlier l o) (l ∷ ls)
earlier_in l ls None i = rw (eq-eqb l.drive l.drive refl) refl
earlier_in l ls (Some m) i = elim (cases_Bool (comes_before l m)) [
  | inl t ↦ rw (t, eq-eqb l.drive l.drive refl) refl
  | inr f ↦ rw f (or_later (l.drive == m.drive) (list_any (λ n. n == m.drive) (map (λ k. k.drive) ls)) i)
]

first_in : (ls : List ZoneLoad) → IsIn (first_of ls) ls
unfolding first_of
first_in [] = refl
first_in (l ∷ ls) = earlier_in l ls (first_of ls) (first_in ls)

found_among : (ds : List Drive) (n : ℕ) → list_any (λ m. m == n) (map (λ d. d.number) ds) ≡ true →
    is_some (find (λ d. d.number == n) ds) ≡ true
found_among [] n t = absurd (cc t)
found_among (d ∷ ds) n t = elim (cases_Bool (d.number == n)) [
  | inl here ↦ rw here refl
  | inr elsewhere ↦ rw elsewhere (found_among ds n (rw elsewhere at t))
]

none_mapped : (ds : List Drive) → [] ≡ map (λ d. d.number) ds → ds ≡ []
none_mapped [] e = refl
none_mapped (d ∷ ds) e = absurd (cc e)

among_alike : (o : Option ZoneLoad) (ls : List ZoneLoad) (ds : List Drive) → IsIn o ls →
    map (λ l. l.drive) ls ≡ map (λ d. d.number) ds → IsAmong ds (option_map (λ l. l.drive) o)
among_alike None ls ds i e = none_mapped ds (ap (λ (xs : List ZoneLoad). map (λ l. l.drive) xs) (sym i) ∙ e)
among_alike (Some l) ls ds i e = found_among ds l.drive (ap (λ (ns : List ℕ). list_any (λ n. n == l.drive) ns) (sym e) ∙ i)

-- ---- the one that is picked

stood_alike : (n : ℕ) (cs : List Component) (k : ℕ) → list_any (λ h. h.drive == n) (holders_from cs k) ≡ stood_on n cs
unfolding holders_from stood_on
stood_alike n [] k = refl
stood_alike n (at ∷ cs) k = elim (cases_Bool (at.drive == n)) [
  | inl here ↦ rw here refl
  | inr elsewhere ↦ rw elsewhere (stood_alike n cs (k + 1))
]

pub picked_taker : (f : Kept) (k : ℕ) (loads : List DriveLoad) (ds : List Drive) → AreLoadsOf loads ds →
    IsAmong (takers_by true ds f k)
    (option_map (λ l. l.drive) (pick_of (ask_of f.map) k (holders_from f.components 0) (zone_loads loads)))
picked_taker f k loads ds e =
    let hs = holders_from f.components 0 in
    let free = λ (n : ℕ). is_free n hs in
    let room = λ (z : ℕ). zone_takes (ask_of f.map) (all_placed (zone_loads loads)) k z hs in
    among_alike (pick_of (ask_of f.map) k hs (zone_loads loads)) (filter (may_take free room) (zone_loads loads))
    (takers_by true ds f k)
    (first_in (filter (may_take free room) (zone_loads loads)))
    (takers_alike f.components free room (zone_has_room ds f k) loads ds e (λ n. ap not (stood_alike n f.components 0)) refl
    (λ z. ap (λ (ps : List InZone). zone_takes (ask_of f.map) ps k z hs) (sym (placed_alike loads ds e))))
