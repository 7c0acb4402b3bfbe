-- The first grant that is due and still held.
use Rattle.std.specs.Prelude.{ℕ, List, [], Option, Some, None, ◌≡◌, ◌<◌, ◌+◌, drop, find, length, slice_get}
use Rattle.client_rules.specs.declared.grants.Held.{Held}
use Rattle.client_rules.specs.declared.grants.Due.{Due}
use Rattle.client_rules.specs.Going.{is_held, due_behind}

-- what is due once it is taken
abbrev pub dues_left : List Held → List Due → Option Due → List Due
dues_left hs us None = []
dues_left hs us (Some u) = due_behind hs us

-- it stands at this index
pub record IsFirstHeld (hs : List Held) (us : List Due) (i : ℕ) : Type 0 where
  pub inside : i < length us
  pub found : find (is_held hs) us ≡ slice_get us i
  pub behind : due_behind hs us ≡ drop (i + 1) us
