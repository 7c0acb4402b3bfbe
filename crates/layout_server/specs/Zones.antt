-- Whether a drive was put into a zone.
use Rattle.std.specs.Prelude.{ℕ, Bool, List, [], ◌∷◌, suc, ◌==◌, ◌&&◌, find, is_some, if◌then◌else◌}
use Rattle.std.specs.List.{list_any}
use Rattle.server_rules.specs.declared.server.Drive.{Drive}

-- there is a drive of that number
abbrev pub is_known : (number : ℕ) → List Drive → Bool
is_known n ds = is_some (find (λ d. d.number == n) ds)

-- the place of the drive of that number, behind all where there is none
unfoldable pub place_in : List Drive → (number : ℕ) → ℕ
place_in [] n = 0
place_in (d ∷ ds) n = if d.number == n then 0 else suc (place_in ds n)

-- the drive of that number is in a zone
abbrev pub is_in_zone : (number : ℕ) → List Drive → Bool
is_in_zone n ds = list_any (λ d. (d.number == n) && is_some d.zone) ds
