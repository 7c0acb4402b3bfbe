-- Where a component of a zoned file is made anew there is room for it.
use Rattle.std.proofs.Common.{◌≡◌, ◌==◌, ◌&&◌, ◌||◌, not, ℕ, ◌∷◌, [], List, Bool, true, false, Option, Some, None, find, is_some, filter, refl, sym, ap, subst, ◌∙◌, inl, inr}
use Rattle.std.proofs.lemmas.Bool.{cases_Bool, eqb-true, eq-eqb}
use Rattle.zone_place.specs.Zones.{InZone, stands_in}
use Rattle.server_rules.specs.declared.files.Kept.{Kept}
use Rattle.server_rules.specs.declared.files.Component.{Component}
use Rattle.server_rules.specs.declared.server.Drive.{Drive}
use Rattle.server_rules.specs.declared.jobs.Target.{Target}
use Rattle.server_rules.specs.Going.{Going}
use Rattle.server_rules.specs.Laws.{In}
use Rattle.server_rules.specs.Rebuild.{or_first, picked, target_on, target_for}
use Rattle.server_rules.specs.Standing.{free_drives, stood_on, lose_from, lose_on}
use Rattle.server_rules.specs.Zoning.{in_zones, and_in_zone, zone_has_room, takers_by, takers}
use Rattle.server_rules.proofs.Members.{in_filtered}
use Rattle.component_law.specs.Apart.{AreDifferent}
use Rattle.component_law.proofs.Placing.{numbers}
use Rattle.component_law.specs.Spread.{IsSpread, HasRoomFor, HasRoom}
use Rattle.component_law.proofs.Zones.{different_zones}
use Rattle.component_law.proofs.Keeping.{spread_same, room_same, spread_placed}
use Rattle.component_law.proofs.Holders.{holders_lost, holders_on, length_lost, length_on}
use Rattle.component_law.proofs.Walking.{IsWalked}

-- ---- one of some drives

-- the number is that of one of these drives
record IsNumber (ds : List Drive) (n : ℕ) : Type 0 where
  drive : Drive
  there : In drive ds
  its : drive.number ≡ n

number_found : (ds : List Drive) (n : ℕ) → is_some (find (λ (d : Drive). d.number == n) ds) ≡ true → IsNumber ds n
number_found [] n e = absurd (cc e)
number_found (d ∷ ds) n e = elim (cases_Bool (d.number == n)) [
  | inl t ↦ record { drive = d; there = inl refl; its = eqb-true d.number n t }
  | inr z ↦ let r = number_found ds n (rw z at e) in record { drive = r.drive; there = inr r.there; its = r.its }
]

number_first : (chosen : List ℕ) (d : Drive) (ds : List Drive) → IsNumber (d ∷ ds) (or_first chosen d ds)
number_first [] d ds = record { drive = d; there = inl refl; its = refl }
number_first (c ∷ cs) d ds = elim (cases_Bool (is_some (find (λ (e : Drive). e.number == c) (d ∷ ds)))) [
  | inl t ↦ rw t (number_found (d ∷ ds) c t)
  | inr z ↦ rw z (record { drive = d; there = inl refl; its = refl })
]

number_picked : (chosen : List ℕ) (ds : List Drive) (n : ℕ) → picked chosen ds ≡ Some n → IsNumber ds n
number_picked chosen [] n e = absurd (cc e)
number_picked chosen (d ∷ ds) n e =
    let s : or_first chosen d ds ≡ n = cc e in subst (IsNumber (d ∷ ds)) s (number_first chosen d ds)

-- ---- its zone

behind : (m : ℕ) (o : Option ℕ) (ds : List InZone) (n z : ℕ) → stands_in ds n z ≡ true
    → stands_in (and_in_zone m o ds) n z ≡ true
behind m None ds n z e = e
behind m (Some y) ds n z e = last ((m == n) && (y == z)) e
  where
    last : (b : Bool) {c : Bool} → c ≡ true → (b || c) ≡ true
    last true e = refl
    last false e = e

stands_there : (ds : List Drive) (d : Drive) (z : ℕ) → In d ds → d.zone ≡ Some z
    → stands_in (in_zones ds) d.number z ≡ true
unfolding in_zones
stands_there [] d z i e = absurd i
stands_there (x ∷ ds) d z (inl same) e =
    let its : x.zone ≡ Some z = ap (λ (y : Drive). y.zone) (sym same) ∙ e in
    let number : (x.number == d.number) ≡ true = eq-eqb x.number d.number (ap (λ (y : Drive). y.number) (sym same)) in
    rw (its, number, eq-eqb z z refl) refl
stands_there (x ∷ ds) d z (inr i) e = behind x.number x.zone (in_zones ds) d.number z (stands_there ds d z i e)

has_room : (ds : List Drive) (f : Kept) (k object : ℕ) (d : Drive) (o : Option ℕ) → d.zone ≡ o → In d ds
    → zone_has_room ds f k o ≡ true
    → HasRoomFor (in_zones ds) f (record { component = k; drive = d.number; object = object })
has_room ds f k object d None is i e = absurd (cc e)
has_room ds f k object d (Some z) is i e = record { zone = z; stands = stands_there ds d z i is; takes = e }

room_taken : (ds : List Drive) (f : Kept) (k object n : ℕ) → f.zoned ≡ true → IsNumber (takers ds f k) n
    → HasRoomFor (in_zones ds) f (record { component = k; drive = n; object = object })
room_taken ds f k object n zoned r =
    let taker : In r.drive (filter (λ (d : Drive). zone_has_room ds f k d.zone) (free_drives ds f.components)) =
    subst (λ (b : Bool). In r.drive (takers_by b ds f k)) zoned r.there in
    let free = in_filtered (λ (d : Drive). zone_has_room ds f k d.zone) r.drive (free_drives ds f.components) taker in
    let known = in_filtered (λ (d : Drive). d.online && not (stood_on d.number f.components)) r.drive ds free.0 in
    subst (λ (m : ℕ). HasRoomFor (in_zones ds) f (record { component = k; drive = m; object = object })) r.its
    (has_room ds f k object r.drive r.drive.zone refl known.0 free.1)

-- ---- a target

room_on : (g : Going) (k : ℕ) (o : Option ℕ) (t : Target) → g.file.kept.zoned ≡ true
    → ((n : ℕ) → o ≡ Some n → IsNumber (takers g.drives g.file.kept k) n) → target_on g k o ≡ Some t
    → HasRoomFor (in_zones g.drives) g.file.kept t
room_on g k None t zoned f e = absurd (cc e)
room_on g k (Some n) t zoned f e =
    let s : record { component = k; drive = n; object = g.effects.object } ≡ t = cc e in
    subst (HasRoomFor (in_zones g.drives) g.file.kept) s
    (room_taken g.drives g.file.kept k g.effects.object n zoned (f n refl))

room_for : (g : Going) (at : Component) (k : ℕ) (t : Target) → g.file.kept.zoned ≡ true → target_for g at k ≡ Some t
    → HasRoomFor (in_zones g.drives) g.file.kept t
unfolding target_for
room_for g at k t zoned e = elim (cases_Bool at.missing) [
  | inl m ↦
      room_on g k (picked g.chosen (takers g.drives g.file.kept k)) t zoned
      (λ n q. number_picked g.chosen (takers g.drives g.file.kept k) n q) (rw m at e)
  | inr p ↦ absurd (cc (rw p at e))
]

-- ---- what lasts

module _ (start : List Drive) where
  -- the drives are those of the start, all different, and a zoned file is spread over their zones
  abbrev pub Spread : List Drive → (next : ℕ) → Kept → Option Target → Type 0
  Spread ds m k o =
      (ds ≡ start) × AreDifferent (numbers ds) × (k.zoned ≡ true → IsSpread (in_zones ds) k × HasRoom (in_zones ds) k o)

  same_spread : (ds : List Drive) (m : ℕ) (k l : Kept) (o : Option Target) → l.zoned ≡ k.zoned → l.map ≡ k.map
      → l.components ≡ k.components → Spread ds m k o → Spread ds m l o
  same_spread ds m k l o zoned map components h =
      (h.0, h.1, λ e. let x = h.2 (sym zoned ∙ e) in (spread x.0, room o x.1))
    where
      spread : IsSpread (in_zones ds) k → IsSpread (in_zones ds) l
      spread x = record {
        whole = rw (map, components) x.whole;
        zoned = rw components x.zoned;
        few = rw (map, components) x.few;
      }

      room : (o : Option Target) → HasRoom (in_zones ds) k o → HasRoom (in_zones ds) l o
      room None r = tt
      room (Some t) r = record { zone = r.zone; stands = r.stands; takes = rw (map, components) r.takes }

  pub spread_walked : IsWalked Spread
  spread_walked = record {
    same = λ ds m k l o number zoned map components h. same_spread ds m k l o zoned map components h;
    ends = λ ds m k o h. (h.0, h.1, λ e. ((h.2 e).0, tt));
    aims = λ g at n t is h. (h.0, h.1, λ e. ((h.2 e).0, room_for g at n t e is));
    placed = λ ds m k t h.
        (h.0, h.1, λ e. let x = h.2 e in (spread_placed (in_zones ds) (different_zones ds h.1) k t x.0 x.1, tt));
    lost = λ ds m k o ns h. (
      h.0,
      h.1,
      λ e. let x = h.2 e in (
        spread_same (in_zones ds) k (lose_from ns k.components 0) (length_lost ns k.components 0)
            (holders_lost ns k.components 0 0) x.0,
        room_same (in_zones ds) k (lose_from ns k.components 0) o (holders_lost ns k.components 0 0) x.1,
      ),
    );
    declared = λ ds m k o d h. (
      h.0,
      h.1,
      λ e. let x = h.2 e in (
        spread_same (in_zones ds) k (lose_on d k.components) (length_on d k.components) (holders_on d k.components 0) x.0,
        room_same (in_zones ds) k (lose_on d k.components) o (holders_on d k.components 0) x.1,
      ),
    );
  }
