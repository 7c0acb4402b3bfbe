-- The lanes of an object.
use Rattle.std.specs.Prelude.{ℕ, ◌<◌, ◌⊎◌, List, [], ◌∷◌, ◌++◌, length, position, slice_get, slice_set, Option, Some, None, IsSome, nat_eq}
use Rattle.osd_objects.specs.declared.lanes.LaneEntry.{LaneEntry}
use Rattle.osd_objects.specs.declared.lanes.TheConstants.{MAX_LANES}

-- the place of a holder's lane
abbrev pub place_of : List LaneEntry → ℕ → Option ℕ
place_of lanes holder = position (λ l. nat_eq l.holder holder) lanes

abbrev pub lane_at : List LaneEntry → Option ℕ → Option LaneEntry
lane_at lanes (Some i) = slice_get lanes i
lane_at lanes None = None

-- the lane of a holder
abbrev pub lane_of : List LaneEntry → ℕ → Option LaneEntry
lane_of lanes holder = lane_at lanes (place_of lanes holder)

abbrev pub put_at : List LaneEntry → LaneEntry → Option ℕ → List LaneEntry
put_at lanes lane (Some i) = slice_set lanes i lane
put_at lanes lane None = lanes ++ lane ∷ []

-- a lane in the place of its holder's, or behind the others where the holder has none
abbrev pub with_lane : List LaneEntry → LaneEntry → List LaneEntry
with_lane lanes lane = put_at lanes lane (place_of lanes lane.holder)

-- the holder has a lane, or there is room for one
abbrev pub HasRoom : List LaneEntry → ℕ → Type 0
HasRoom lanes holder = IsSome (place_of lanes holder) ⊎ (length lanes < MAX_LANES)
