-- Drives in order of their numbers.
use Rattle.std.specs.Prelude.{ℕ, List, [], ◌∷◌, ◌++◌, ◌≡◌, ◌<◌, ◌≤◌, ◌+◌, nat_lt, length, take, drop, refl}
use Rattle.std.proofs.Common.{arith, inl, inr, ap}
use Rattle.std.proofs.lemmas.Bool.{cases_Bool}
use Rattle.std.proofs.lemmas.Bool.Decides.{nat_tests}
use Rattle.zone_place.specs.declared.loads.TheConstants.{MAX_DRIVES}
use Rattle.server_rules.specs.declared.server.Drive.{Drive}
use Rattle.server_rules.specs.Making.{add_drive}
use Rattle.server_state.specs.Drives.{RiseFrom, AreDrives}
use Rattle.layout_server.specs.Adding.{IsNew, rank_in}

-- before the first with a number that isn't less
pub added_at : (ds : List Drive) (d : Drive) → take (rank_in ds d.number) ds ++ d ∷ drop (rank_in ds d.number) ds ≡ add_drive ds d
unfolding rank_in add_drive
added_at [] d = refl
added_at (e ∷ ds) d = elim (cases_Bool (nat_lt e.number d.number)) [
  | inl less ↦ rw less (ap (λ xs. e ∷ xs) (added_at ds d))
  | inr more ↦ rw more refl
]

-- it stands in order
add_rises : (least : ℕ) (ds : List Drive) (d : Drive) → RiseFrom least ds → least ≤ d.number → d.number < MAX_DRIVES →
    IsNew d.number ds → RiseFrom least (add_drive ds d)
unfolding add_drive
add_rises least [] d r l h n = (l, h, tt)
add_rises least (e ∷ ds) d r l h n = elim (cases_Bool (nat_lt e.number d.number)) [
  | inl less ↦ rw less (r.0, r.1, add_rises (e.number + 1) ds d r.2 (grind (arith, nat_tests, less)) h n.1)
  | inr more ↦ rw more (l, h, (grind (arith, nat_tests, more, n.0), r.1, r.2))
]

pub drives_added : (ds : List Drive) (d : Drive) → AreDrives ds → d.number < MAX_DRIVES → IsNew d.number ds →
    AreDrives (add_drive ds d)
drives_added ds d r h n = add_rises 0 ds d r (omega arith) h n

-- there are at most as many as numbers
few_from : (least : ℕ) (ds : List Drive) → RiseFrom least ds → least ≤ MAX_DRIVES → least + length ds ≤ MAX_DRIVES
few_from least [] r l = omega (arith, l)
few_from least (d ∷ ds) r l =
    let behind : d.number + 1 + length ds ≤ MAX_DRIVES = few_from (d.number + 1) ds r.2 (grind (arith, r.1)) in
    grind (arith, r.0, behind)

pub few_drives : (ds : List Drive) → AreDrives ds → length ds ≤ MAX_DRIVES
few_drives ds r = omega (arith, few_from 0 ds r (omega arith))
