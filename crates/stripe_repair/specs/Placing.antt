-- What is asked of a placement, and what it gives.
use Rattle.std.specs.Prelude.{◌≡◌, ◌≢◌, ℕ, ◌<◌, ◌≤◌, ◌^◌, nat_eq, ◌&&◌, Bool, List, Option, Some, None, length, slice_index, count_by, map, All, IsTrue}
use Rattle.std.specs.List.{list_any, list_all}
use Rattle.std.specs.Result.{ForOk}
use Rattle.std.specs.Prelude.{Result}
use Rattle.std.specs.Fn.{Shared}
use Rattle.std.specs.Borrow.{Bor}
use Rattle.osd_lists.specs.declared.memory.Memory.{Memory}
use Rattle.stripe_repair.specs.declared.loads.DriveLoad.{DriveLoad}
use Rattle.zone_place.specs.declared.loads.TheConstants.{MAX_DRIVES}

abbrev pub drives_of : List DriveLoad → List ℕ
drives_of loads = map (λ l. l.drive) loads

-- no number stands twice
abbrev pub AreDifferent : List ℕ → Type 0
AreDifferent xs = (i j : ℕ) → i < j → j < length xs → slice_index xs i ≢ slice_index xs j

-- the number of a zone fits its type
abbrev pub FitsZone : Option ℕ → Type 0
FitsZone None = Unit {0}
FitsZone (Some z) = z < 2 ^ 32

abbrev pub FitsLoad : DriveLoad → Type 0
FitsLoad l = (l.drive < 2 ^ 32) × (l.objects < 2 ^ 32) × FitsZone l.zone

-- n places may be asked of these drives
pub record CanPlace (n : ℕ) (loads : List DriveLoad) : Type 0 where
  pub few : length loads ≤ MAX_DRIVES
  pub fits : All FitsLoad loads
  pub different : AreDifferent (drives_of loads)
  pub enough : n ≤ count_by (λ l. l.online) loads

-- a number is that of an online drive
abbrev pub is_online : List DriveLoad → ℕ → Bool
is_online loads drive = list_any (λ l. nat_eq l.drive drive && l.online) loads

-- n different online drives
pub record Places (n : ℕ) (loads : List DriveLoad) (chosen : List ℕ) : Type 0 where
  pub many : length chosen ≡ n
  pub online : IsTrue (list_all (is_online loads) chosen)
  pub different : AreDifferent chosen

-- a closure may be called wherever n places may be asked, and its list is n different online drives
pub record IsPlacer {F : Type 0} (g : Shared F (ℕ × (Bor (List DriveLoad) × Unit {0})) (Result (List ℕ) Memory)) (f : F)
    : Type 0 where
  pub callable : (n : ℕ) (loads : Bor (List DriveLoad)) → CanPlace n loads.now → g.pre f (n, (loads, tt))
  pub places : (n : ℕ) (loads : Bor (List DriveLoad)) (r : Result (List ℕ) Memory) → CanPlace n loads.now
      → g.post f (n, (loads, tt)) r → ForOk r (Places n loads.now)
