-- Zoned files: worked rows of where components are put, when a file is refused, and which drives take a component.
use Rattle.std.specs.Prelude.{ℕ, true, false, List, [], ◌∷◌, Option, Some, None, ◌≡◌, map, refl}
use Rattle.data_map.specs.declared.check.RawMap.{RawMap}
use Rattle.server_rules.specs.State.{Drive, Kept, Refusal, TooFewDrives, NoSpread}
use Rattle.server_rules.specs.Making.{new_server, refusal, drives_for, unmade}
use Rattle.server_rules.specs.Zoning.{put_in_zone, takers}
use Rattle.server_rules.proofs.Opened.{opened}

abbrev drive : (number : ℕ) → (zone : Option ℕ) → Drive
drive n zone = record { number = n; key = []; capacity = 20000; online = true; zone = zone }

-- six drives, two in each of the zones 7, 8 and 9, and one that is in none
abbrev racks : List Drive
racks =
    drive 0 (Some 9) ∷ drive 1 (Some 7) ∷ drive 2 (Some 8) ∷ drive 3 None ∷ drive 4 (Some 7) ∷ drive 5 (Some 9)
    ∷ drive 6 (Some 8) ∷ []

-- the same drives in two zones
abbrev rooms : List Drive
rooms =
    drive 0 (Some 9) ∷ drive 1 (Some 7) ∷ drive 2 (Some 7) ∷ drive 3 None ∷ drive 4 (Some 7) ∷ drive 5 (Some 9)
    ∷ drive 6 (Some 9) ∷ []

-- two groups of three components, any one of which may be lost
abbrev grouped : RawMap
grouped = record { comps = 6; unit = 4; width = 3; depth = 1; mirrors = 0; algorithm = 2 }

-- zone after zone, a drive to each group by turns
pub dealt_by_turns : drives_for true racks grouped [] ≡ 1 ∷ 2 ∷ 0 ∷ 4 ∷ 6 ∷ 5 ∷ []
unfolding opened
dealt_by_turns = refl

-- what is spread is taken as it is
pub taken_as_chosen : drives_for true racks grouped (5 ∷ 6 ∷ 1 ∷ 2 ∷ 4 ∷ 0 ∷ []) ≡ 5 ∷ 6 ∷ 1 ∷ 2 ∷ 4 ∷ 0 ∷ []
unfolding opened
taken_as_chosen = refl

-- two drives of one zone in a group are no spread
pub not_spread : drives_for true racks grouped (1 ∷ 4 ∷ 0 ∷ 2 ∷ 6 ∷ 5 ∷ []) ≡ 1 ∷ 2 ∷ 0 ∷ 4 ∷ 6 ∷ 5 ∷ []
unfolding opened
not_spread = refl

-- so many online drives in zones are too few, or can't be spread; one that is in no zone doesn't count
pub refusals :
    map (λ (ds : List Drive). refusal (new_server ds) 0 grouped true)
    (racks ∷ rooms ∷ put_in_zone rooms 3 4 ∷ (drive 0 (Some 1) ∷ drive 1 None ∷ []) ∷ [])
    ≡ None ∷ Some (NoSpread 6) ∷ Some (NoSpread 7) ∷ Some (TooFewDrives 1) ∷ []
unfolding opened
refusals = refl

-- a drive that is in a zone stays there
pub kept_in_zone : put_in_zone racks 1 5 ≡ racks
unfolding opened
kept_in_zone = refl

-- a file whose first group lies on the drives 1, 2 and 0, of three zones
abbrev spread_file : Kept
spread_file = (unmade (new_server racks) 0 grouped 1 true (1 ∷ 2 ∷ 0 ∷ 4 ∷ 6 ∷ 5 ∷ [])).kept

-- component 1, in zone 8, goes to a drive of a zone that has no other of its group; a drive in no zone takes none
pub one_taker :
    map (λ (d : Drive). d.number) (takers (drive 7 (Some 7) ∷ drive 8 (Some 8) ∷ drive 9 (Some 6) ∷ racks) spread_file 1)
    ≡ 8 ∷ 9 ∷ []
unfolding opened
one_taker = refl
