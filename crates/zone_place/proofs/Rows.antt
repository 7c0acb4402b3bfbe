-- What the definitions give on small drives and files.
use Rattle.std.proofs.Common.{◌≡◌, ℕ, List, [], ◌∷◌, true, false, refl, Option, Some, None, arith}
use Rattle.std.proofs.lemmas.List.Elements.{All-from_recursion}
use Rattle.std.specs.Prelude.{option_map}
use Rattle.zone_place.specs.declared.asks.ZoneAsk.{ZoneAsk}
use Rattle.zone_place.specs.declared.loads.ZoneLoad.{ZoneLoad}
use Rattle.zone_place.specs.declared.loads.Holder.{Holder}
use Rattle.zone_place.specs.Zones.{InZone, with_zone, zones_of, has_room, are_among, counted, spreads, every, dealt}
use Rattle.zone_place.specs.Choosing.{FitsZoneLoad, AreApart, CanSpread, first_of, pick_of}

-- two groups of three components, of which one may be lost
abbrev asked : ZoneAsk
asked = record { groups = 2; size = 3; most = 1 }

abbrev at : (drive zone : ℕ) → InZone
at drive zone = record { drive = drive; zone = zone }

-- six drives, two in each of three zones
abbrev even : List InZone
even = at 0 7 ∷ at 1 5 ∷ at 2 9 ∷ at 3 5 ∷ at 4 7 ∷ at 5 9 ∷ []

-- six drives, of which three stand in one zone and one in another
abbrev uneven : List InZone
uneven = at 0 5 ∷ at 1 5 ∷ at 2 5 ∷ at 3 7 ∷ at 4 7 ∷ at 5 9 ∷ []

even_has_room : has_room asked even ≡ true
unfolding zones_of with_zone
even_has_room = refl

uneven_has_none : has_room asked uneven ≡ false
unfolding zones_of with_zone
uneven_has_none = refl

-- zone after zone in rising order, dealt by turns, and group after group in the list
even_is_dealt : dealt asked even ≡ 1 ∷ 0 ∷ 2 ∷ 3 ∷ 4 ∷ 5 ∷ []
unfolding dealt every counted zones_of with_zone
even_is_dealt = refl

-- another spread, and one with two drives of a zone in its first group
another_is_spread : spreads asked even (4 ∷ 5 ∷ 3 ∷ 2 ∷ 1 ∷ 0 ∷ []) ≡ true
unfolding spreads are_among counted zones_of with_zone
another_is_spread = refl

two_of_a_zone : spreads asked even (0 ∷ 4 ∷ 1 ∷ 2 ∷ 3 ∷ 5 ∷ []) ≡ false
unfolding spreads are_among counted zones_of with_zone
two_of_a_zone = refl

-- ---- a drive for one component

abbrev load : (drive zone objects : ℕ) → ZoneLoad
load drive zone objects = record { drive = drive; online = true; objects = objects; zone = zone }

-- the six drives, and three more
abbrev loads : List ZoneLoad
loads =
    load 0 7 1 ∷ load 1 5 1 ∷ load 2 9 1 ∷ load 3 5 1 ∷ load 4 7 1 ∷ load 5 9 1
    ∷ load 8 7 0 ∷ load 7 5 2 ∷ load 6 5 2 ∷ []

abbrev on : (component drive : ℕ) → Holder
on component drive = record { component = component; drive = drive }

-- each component where dealing put it
abbrev holders : List Holder
holders = on 0 1 ∷ on 1 0 ∷ on 2 2 ∷ on 3 3 ∷ on 4 4 ∷ on 5 5 ∷ []

abbrev drive_for : ZoneAsk → (component : ℕ) → Option ℕ
drive_for ask component = option_map (λ l. l.drive) (pick_of ask component holders loads)

-- drive 8 has fewer objects, but component 1 stands in its zone; of 6 and 7 the lower is taken
in_its_own_zone : drive_for asked 0 ≡ Some 6
unfolding first_of
in_its_own_zone = refl

-- no drive is left in the zone of component 2 or in a fourth one
in_no_zone : drive_for asked 2 ≡ None
unfolding first_of
in_no_zone = refl

-- where two may be lost, the one with the fewest objects is taken
in_a_shared_zone : drive_for (record asked { most = 2 }) 0 ≡ Some 8
unfolding first_of
in_a_shared_zone = refl

-- ---- a spread may be asked

can_be_asked : CanSpread asked loads
unfolding AreApart zones_of with_zone
can_be_asked = record {
  few = omega arith;
  fits = All-from_recursion FitsZoneLoad loads (
    (omega arith, omega arith, omega arith),
    (
      (omega arith, omega arith, omega arith),
      (
        (omega arith, omega arith, omega arith),
        (
          (omega arith, omega arith, omega arith),
          (
            (omega arith, omega arith, omega arith),
            (
              (omega arith, omega arith, omega arith),
              (
                (omega arith, omega arith, omega arith),
                ((omega arith, omega arith, omega arith), ((omega arith, omega arith, omega arith), tt)),
              ),
            ),
          ),
        ),
      ),
    ),
  );
  asked = record { groups = omega arith; size = omega arith; most = omega arith };
  different = ((refl, (refl, (refl, (refl, (refl, (refl, (refl, (refl, (refl, tt))))))))));
  room = refl;
}
