-- Drives in zones: how many there are, what the placer is asked, and that a zone changes nothing else.
use Rattle.std.specs.Prelude.{ℕ, Bool, true, false, List, [], ◌∷◌, Option, Some, None, ◌≡◌, ◌+◌, ◌*◌, ◌≤◌, ◌<◌, ◌==◌, ◌&&◌, ◌||◌, slice_get, slice_set, cond, length, count_by, is_none, is_some, All, IsTrue, Result, Ok, Err, IfOk, if◌then◌else◌, refl}
use Rattle.std.specs.List.{list_any}
use Rattle.std.specs.Result.{ForOk}
use Rattle.std.proofs.Common.{arith, inl, inr, ap, sym, subst, ◌∙◌}
use Rattle.std.proofs.lemmas.Bool.{cases_Bool, le-ltb, lt-ltb, ne_eqb}
use Rattle.std.proofs.lemmas.List.Sums.{sum_by-cons}
use Rattle.std.proofs.lemmas.List.{set-get_or}
use Rattle.std.proofs.lemmas.Option.{get_or_from_slice_get}
use Rattle.std.proofs.lemmas.Nat.{mul-le}
use Rattle.std.proofs.Math.Nat.{div-le_self}
use Rattle.osd_lists.specs.declared.memory.Memory.{Memory}
use Rattle.osd_lists.proofs.Tests.{first_true, same_number}
use Rattle.data_map.specs.declared.check.RawMap.{RawMap}
use Rattle.data_map.specs.Check.{IsChecked}
use Rattle.data_map.specs.Striping.{replicas, positions, group_width, groups, parities}
use Rattle.data_map.proofs.Shape.{few_positions, some_groups, whole_groups, whole_positions}
use Rattle.zone_place.specs.declared.asks.ZoneAsk.{ZoneAsk}
use Rattle.zone_place.specs.declared.loads.ZoneLoad.{ZoneLoad}
use Rattle.zone_place.specs.Zones.{InZone, ask_of, has_room, spreads}
use Rattle.zone_place.specs.Choosing.{AreApart, CanSpread, FitsAsk, FitsZoneLoad, Spreads}
use Rattle.server_rules.specs.declared.server.Drive.{Drive}
use Rattle.data_map.specs.declared.check.MapErr.{MapErr}
use Rattle.server_rules.specs.declared.server.Server.{Server}
use Rattle.server_rules.specs.declared.server.Refusal.TheVariants.{BadMap, NoSpread, TooFewDrives}
use Rattle.server_rules.specs.Files.{file_at}
use Rattle.server_rules.specs.Making.{by_zones, checked_64, drives_for, online, refusal, usable}
use Rattle.server_rules.specs.Zoning.{and_in_zone, in_zones, put_in_zone, zone_or}
use Rattle.stripe_repair.specs.declared.loads.DriveLoad.{DriveLoad}
use Rattle.stripe_repair.specs.Loads.{and_zoned, zone_loads}
use Rattle.file_jobs.specs.Placing.{AreLoadsOf}
use Rattle.file_jobs.proofs.Placed.{tail_of}
use Rattle.file_jobs.proofs.Zoned.{drive_online, online_alike}
use Rattle.server_state.specs.Drives.{RiseFrom, AreDrives}
use Rattle.layout_server.specs.Zones.{is_in_zone, is_known, place_in}
use Rattle.layout_server.proofs.PlacingLaws.{few_loads}

-- ---- how many

length_in_zone : (n : ℕ) (zone : Option ℕ) (rest : List InZone) →
    length (and_in_zone n zone rest) ≡ cond (is_some zone) 1 0 + length rest
length_in_zone n None rest = omega arith
length_in_zone n (Some z) rest = omega arith

one_more : (d : Drive) (rest : List InZone) →
    cond (d.online && is_some d.zone) 1 0 + length rest ≡ length (if d.online then and_in_zone d.number d.zone rest else rest)
one_more d rest = elim (cases_Bool d.online) [
  | inl t ↦ rw t (sym (length_in_zone d.number d.zone rest))
  | inr f ↦ rw f (omega arith)
]

pub counted_in_zones : (ds : List Drive) → count_by (λ d. d.online && is_some d.zone) ds ≡ length (in_zones (online ds))
unfolding in_zones
counted_in_zones [] = refl
counted_in_zones (d ∷ ds) =
    sum_by-cons (λ (x : Drive). cond (x.online && is_some x.zone) 1 0) d ds
    ∙ rw (counted_in_zones ds) (one_more d (in_zones (online ds)) ∙ ap length (sym (drive_online d ds)))

-- ---- what the placer is asked

few_zoned : (ls : List DriveLoad) → length (zone_loads ls) ≤ length ls
few_zoned [] = omega arith
few_zoned (l ∷ ls) = one_of l.zone (few_zoned ls)
  where
    one_of : (zone : Option ℕ) → length (zone_loads ls) ≤ length ls → length (and_zoned l zone (zone_loads ls)) ≤ length (l ∷ ls)
    one_of None few = omega (arith, few)
    one_of (Some z) few = omega (arith, few)

-- none has the number, and so the drive before them hasn't
none_before : (l : DriveLoad) (zone : Option ℕ) (rest : List ZoneLoad) (n : ℕ) → (l.drive == n) ≡ false →
    list_any (λ k. k.drive == n) rest ≡ false →
    list_any (λ k. k.drive == n) (and_zoned l zone rest) ≡ false
none_before l None rest n other none = none
none_before l (Some z) rest n other none = rw other none

none_below : (least n : ℕ) (ls : List DriveLoad) (ds : List Drive) → AreLoadsOf ls ds → RiseFrom least ds → n < least →
    list_any (λ k. k.drive == n) (zone_loads ls) ≡ false
none_below least n [] ds e r low = refl
none_below least n (l ∷ ls) [] e r low = absurd (cc e)
none_below least n (l ∷ ls) (d ∷ ds) e r low =
    let t = tail_of l ls d ds e in
    let other : (l.drive == n) ≡ false = rw t.0 (ne_eqb d.number n (λ same. absurd (omega (arith, same, low, r.0)))) in
    none_before l l.zone (zone_loads ls) n other (none_below (d.number + 1) n ls ds t.2 r.2 (omega (arith, low, r.0)))

apart_before : (l : DriveLoad) (zone : Option ℕ) (rest : List ZoneLoad) → list_any (λ k. k.drive == l.drive) rest ≡ false →
    AreApart rest → AreApart (and_zoned l zone rest)
unfolding AreApart
apart_before l None rest none apart = apart
apart_before l (Some z) rest none apart = (none, apart)

apart_from : (least : ℕ) (ls : List DriveLoad) (ds : List Drive) → AreLoadsOf ls ds → RiseFrom least ds → AreApart (zone_loads ls)
unfolding AreApart
apart_from least [] ds e r = tt
apart_from least (l ∷ ls) [] e r = absurd (cc e)
apart_from least (l ∷ ls) (d ∷ ds) e r =
    let t = tail_of l ls d ds e in
    apart_before l l.zone (zone_loads ls) (none_below (d.number + 1) l.drive ls ds t.2 r.2 (omega (arith, t.0)))
    (apart_from (d.number + 1) ls ds t.2 r.2)

pub can_spread : (ask : ZoneAsk) (ls : List DriveLoad) (ds : List Drive) → AreLoadsOf ls ds → All FitsZoneLoad (zone_loads ls) →
    FitsAsk ask → AreDrives ds →
    IsTrue (has_room ask (in_zones (online ds))) → CanSpread ask (zone_loads ls)
can_spread ask ls ds e fits asked r room = record {
  few = omega (arith, few_zoned ls, few_loads ls ds e r);
  fits = fits;
  asked = asked;
  different = apart_from 0 ls ds e r;
  room = rw (online_alike ls ds e) room;
}

-- what a checked map asks fits its types
pub fits_ask : (m : RawMap) → IsChecked m → FitsAsk (ask_of m)
fits_ask m c =
    let lost : (parities m + 1) * replicas m ≤ group_width m * replicas m =
    mul-le (parities m + 1) (replicas m) (group_width m) (replicas m) (omega (arith, c.some_data)) (omega arith) in
    let wide : group_width m * replicas m ≤ positions m * replicas m =
    mul-le (group_width m) (replicas m) (positions m) (replicas m)
    (omega (arith, whole_groups m c, mul-le 1 (group_width m) (groups m) (group_width m) (some_groups m c) (omega arith)))
    (omega arith) in
    record {
      groups = omega (arith, div-le_self (positions m) (group_width m), few_positions m c);
      size = omega (arith, wide, whole_positions m c, c.few_components);
      most = omega (arith, lost, wide, whole_positions m c, c.few_components);
    }

-- ---- what the placer names

all_components : (m : RawMap) → IsChecked m → groups m * (group_width m * replicas m) ≡ m.comps
all_components m c =
    let grouped : groups m * (group_width m * replicas m) ≡ groups m * group_width m * replicas m = omega arith in
    grouped ∙ ap (λ (n : ℕ). n * replicas m) (whole_groups m c) ∙ whole_positions m c

pub spread_if : (r : Result (List ℕ) Memory) (m : RawMap) (ls : List DriveLoad) (ds : List Drive) → AreLoadsOf ls ds →
    ForOk r (Spreads (ask_of m) (zone_loads ls)) →
    IfOk r (λ chosen. drives_for true ds m chosen ≡ chosen)
spread_if (Ok chosen) m ls ds e p =
    let spread : spreads (ask_of m) (in_zones (online ds)) chosen ≡ true =
    subst (λ (ps : List InZone). spreads (ask_of m) ps chosen ≡ true) (online_alike ls ds e) (p chosen refl) in
    rw spread refl
spread_if (Err n) m ls ds e p = tt

pub many_spread : (r : Result (List ℕ) Memory) (m : RawMap) (ls : List DriveLoad) → IsChecked m →
    ForOk r (Spreads (ask_of m) (zone_loads ls)) →
    IfOk r (λ chosen. length chosen ≡ m.comps)
unfolding spreads
many_spread (Ok chosen) m ls c p = same_number (length chosen) _ (first_true _ _ (p chosen refl)) ∙ all_components m c
many_spread (Err n) m ls c p = tt

-- ---- whether there are drives

-- whether the zones have room
pub room_is : (m : RawMap) (ds : List Drive) → has_room (ask_of m) (in_zones (online ds)) ≡ is_none (by_zones m true ds)
room_is m ds = elim (cases_Bool (has_room (ask_of m) (in_zones (online ds)))) [ inl t ↦ rw t refl | inr f ↦ rw f refl ]

-- ---- why there is no file

pub refused_map : (s : Server) (n : ℕ) (m : RawMap) (zoned : Bool) (e : MapErr) → is_some (file_at s.files n) ≡ false →
    checked_64 m ≡ Err e → refusal s n m zoned ≡ Some (BadMap e)
unfolding refusal
refused_map s n m zoned e new bad = rw (new, bad) refl

pub refused_few : (s : Server) (n : ℕ) (m : RawMap) (zoned : Bool) → is_some (file_at s.files n) ≡ false → checked_64 m ≡ Ok m →
    usable zoned s.drives < m.comps →
    refusal s n m zoned ≡ Some (TooFewDrives (usable zoned s.drives))
unfolding refusal
refused_few s n m zoned new good few = rw (new, good, lt-ltb (usable zoned s.drives) m.comps few) refl

not_spread : (m : RawMap) (zoned : Bool) (ds : List Drive) → is_none (by_zones m zoned ds) ≡ false →
    by_zones m zoned ds ≡ Some (NoSpread (usable zoned ds))
not_spread m false ds none = absurd (cc none)
not_spread m true ds none = elim (cases_Bool (has_room (ask_of m) (in_zones (online ds)))) [
  | inl t ↦ absurd (cc (rw t at none))
  | inr f ↦ rw f refl
]

pub refused_spread : (s : Server) (n : ℕ) (m : RawMap) (zoned : Bool) → is_some (file_at s.files n) ≡ false →
    checked_64 m ≡ Ok m → m.comps ≤ usable zoned s.drives →
    is_none (by_zones m zoned s.drives) ≡ false → refusal s n m zoned ≡ Some (NoSpread (usable zoned s.drives))
unfolding refusal
refused_spread s n m zoned new good enough none =
    rw (new, good, le-ltb (usable zoned s.drives) m.comps enough) (not_spread m zoned s.drives none)

-- ---- a drive that is put into a zone

pub put_rises : (least : ℕ) (ds : List Drive) (n z : ℕ) → RiseFrom least ds → RiseFrom least (put_in_zone ds n z)
unfolding put_in_zone
put_rises least [] n z r = tt
put_rises least (d ∷ ds) n z r = elim (cases_Bool (d.number == n)) [
  | inl here ↦ rw here (r.0, r.1, put_rises (d.number + 1) ds n z r.2)
  | inr elsewhere ↦ rw elsewhere (r.0, r.1, put_rises (d.number + 1) ds n z r.2)
]

-- none of these has the number
put_nowhere : (least : ℕ) (ds : List Drive) (n z : ℕ) → RiseFrom least ds → n < least → put_in_zone ds n z ≡ ds
unfolding put_in_zone
put_nowhere least [] n z r low = refl
put_nowhere least (d ∷ ds) n z r low =
    rw (ne_eqb d.number n (λ same. absurd (omega (arith, same, low, r.0))))
    (ap (λ (xs : List Drive). d ∷ xs) (put_nowhere (d.number + 1) ds n z r.2 (omega (arith, low, r.0))))

-- none of these is in a zone under that number
in_none : (least : ℕ) (ds : List Drive) (n : ℕ) → RiseFrom least ds → n < least → is_in_zone n ds ≡ false
in_none least [] n r low = refl
in_none least (d ∷ ds) n r low =
    rw (ne_eqb d.number n (λ same. absurd (omega (arith, same, low, r.0))))
    (in_none (d.number + 1) ds n r.2 (omega (arith, low, r.0)))

pub known_inside : (ds : List Drive) (n : ℕ) → is_known n ds ≡ true → place_in ds n < length ds
unfolding place_in
known_inside [] n k = absurd (cc k)
known_inside (d ∷ ds) n k = elim (cases_Bool (d.number == n)) [
  | inl here ↦ rw here (omega arith)
  | inr elsewhere ↦ rw elsewhere (omega (arith, known_inside ds n (rw elsewhere at k)))
]

same_drive : (x y : Drive) → Some x ≡ Some y → x ≡ y
same_drive x y e = cc e

-- the drive of that number is the one that is in a zone, or isn't
pub in_zone_at : (least : ℕ) (ds : List Drive) (n : ℕ) (d : Drive) → RiseFrom least ds → slice_get ds (place_in ds n) ≡ Some d →
    is_in_zone n ds ≡ is_some d.zone
unfolding place_in
in_zone_at least [] n d r g = absurd (cc g)
in_zone_at least (e ∷ ds) n d r g = elim (cases_Bool (e.number == n)) [
  | inl here ↦ rw (here, in_none (e.number + 1) ds n r.2 (omega (arith, same_number e.number n here)))
      (or_false (is_some e.zone) ∙ ap (λ (x : Drive). is_some x.zone) (same_drive _ _ (rw here at g)))
  | inr elsewhere ↦ rw elsewhere (in_zone_at (e.number + 1) ds n d r.2 (rw elsewhere at g))
]
  where
    or_false : (b : Bool) → (b || false) ≡ b
    or_false true = refl
    or_false false = refl

-- the drive of that number is the one that changes
pub put_at : (least : ℕ) (ds : List Drive) (n z : ℕ) (d : Drive) → RiseFrom least ds → slice_get ds (place_in ds n) ≡ Some d →
    put_in_zone ds n z ≡ slice_set ds (place_in ds n) (record d { zone = zone_or z d.zone })
unfolding place_in put_in_zone
put_at least [] n z d r g = absurd (cc g)
put_at least (e ∷ ds) n z d r g = elim (cases_Bool (e.number == n)) [
  | inl here ↦ rw (here, put_nowhere (e.number + 1) ds n z r.2 (omega (arith, same_number e.number n here)))
      (ap (λ (x : Drive). record x { zone = zone_or z x.zone } ∷ ds) (same_drive _ _ (rw here at g)))
  | inr elsewhere ↦ rw elsewhere (ap (λ (xs : List Drive). e ∷ xs) (put_at (e.number + 1) ds n z d r.2 (rw elsewhere at g)))
]

-- a drive that is in a zone stays there
kept_zone : (z : ℕ) (zone : Option ℕ) → is_some zone ≡ true → zone_or z zone ≡ zone
kept_zone z None some = absurd (cc some)
kept_zone z (Some y) some = refl

new_zone : (z : ℕ) (zone : Option ℕ) → is_some zone ≡ false → zone_or z zone ≡ Some z
new_zone z None none = refl
new_zone z (Some y) none = absurd (cc none)

pub stays_at : (ds : List Drive) (n z : ℕ) (d : Drive) → AreDrives ds → slice_get ds (place_in ds n) ≡ Some d →
    is_some d.zone ≡ true → put_in_zone ds n z ≡ ds
stays_at ds n z d r g some =
    put_at 0 ds n z d r g ∙ ap (λ (o : Option ℕ). slice_set ds (place_in ds n) (record d { zone = o })) (kept_zone z d.zone some)
    ∙ ap (λ (e : Drive). slice_set ds (place_in ds n) e) (sym (get_or_from_slice_get ds (place_in ds n) d d g))
    ∙ set-get_or ds (place_in ds n) d

pub goes_at : (ds : List Drive) (n z : ℕ) (d : Drive) → AreDrives ds → slice_get ds (place_in ds n) ≡ Some d →
    is_some d.zone ≡ false →
    slice_set ds (place_in ds n) (record d { zone = Some z }) ≡ put_in_zone ds n z
goes_at ds n z d r g none =
    sym (put_at 0 ds n z d r g
    ∙ ap (λ (o : Option ℕ). slice_set ds (place_in ds n) (record d { zone = o })) (new_zone z d.zone none))
