-- Where no stripe has more positions lost than its parity brings back, a call that leaves out lost components alone can read
-- and write each, and the server finds none lacking.
use Rattle.std.specs.Prelude.{◌≡◌, ◌≤◌, ◌<◌, ◌/◌, ℕ, true, false, List, length, slice_get, Some, None}
use Rattle.data_map.specs.declared.check.RawMap.{RawMap}
use Rattle.data_map.specs.Check.{IsChecked}
use Rattle.data_map.specs.Striping.{group_width, parities}
use Rattle.stripe_plan.specs.declared.plan.Span.{Span}
use Rattle.stripe_plan.specs.Lost.{among, is_short, positions_out, unreadable, unwritable}
use Rattle.client_rules.specs.Reads.{is_probe_lost}
use Rattle.server_rules.specs.Laws.{In}
use Rattle.server_rules.specs.Standing.{lacked_from}
use Rattle.world_history.specs.ServerNames.{Kept, Component}
use Rattle.ready_law.specs.Ready.{Scene, is_lost, lost_of}

-- each component that is out is lost
abbrev pub AreAmong : (out lost : List ℕ) → Type 0
AreAmong out lost = (k : ℕ) → among k out ≡ true → among k lost ≡ true

-- of these stripes none has more positions lost than its parity brings back
abbrev pub IsEnough : RawMap → (lost stripes : List ℕ) → Type 0
IsEnough m lost ss = (n : ℕ) → In n ss → is_short m lost n ≡ false

-- What such a call can do: each of these stripes can be read and written; and a read of no byte goes on where the group of the
-- position that it asks has no more positions lost than its parity brings back.
pub record LeavesEnough (m : RawMap) (out lost : List ℕ) : Type 0 where
  pub short : (s : ℕ) → is_short m lost s ≡ false → is_short m out s ≡ false
  pub reads : (r : Span) (ss : List ℕ) → IsEnough m lost ss → unreadable m r out ss ≡ None
  pub writes : (ss : List ℕ) → IsEnough m lost ss → unwritable m out ss ≡ None
  pub probe : (p : ℕ) → length (positions_out m lost (p / group_width m)) ≤ parities m → is_probe_lost m out p ≡ false

-- so it is where only lost components are out
abbrev pub EnoughIsLeft : Type 0
EnoughIsLeft = (m : RawMap) (out lost : List ℕ) → AreAmong out lost → LeavesEnough m out lost

-- ---- for the server

-- each component that is lost is in the list of the lost ones
abbrev pub LostAreListed : Type 0
LostAreListed =
    (s : Scene) (f : Kept) (k : ℕ) (at : Component) → slice_get f.components k ≡ Some at → is_lost s at ≡ true
    → among k (lost_of s f) ≡ true

-- each missing component is in the list
abbrev pub AreMissingAmong : List Component → (lost : List ℕ) → Type 0
AreMissingAmong cs lost =
    (k : ℕ) (at : Component) → slice_get cs k ≡ Some at → at.missing ≡ true → among k lost ≡ true

-- Where no stripe of a range has more positions lost than its parity brings back, the server finds that a writer there lacks
-- no component.
abbrev pub NoneIsLacked : Type 0
NoneIsLacked =
    (m : RawMap) (cs : List Component) (lost : List ℕ) (first end : ℕ) → IsChecked m → length cs ≡ m.comps
    → AreMissingAmong cs lost → ((s : ℕ) → first ≤ s → s < end → is_short m lost s ≡ false)
    → lacked_from m cs first end cs 0 ≡ None
