-- A drive in the place of its former, or in the order of their numbers.
use Rattle.std.specs.Prelude.{ℕ, true, false, List, [], ◌∷◌, ◌++◌, ◌≡◌, ◌+◌, ◌≤◌, ◌<◌, ◌==◌, nat_lt, nat_le, take, drop, refl}
use Rattle.std.proofs.Common.{arith, inl, inr, ap, sym, subst}
use Rattle.std.proofs.lemmas.Bool.{cases_Bool, eqb-true}
use Rattle.std.proofs.lemmas.Bool.Decides.{nat_tests}
use Rattle.zone_place.specs.declared.loads.TheConstants.{MAX_DRIVES}
use Rattle.server_rules.specs.declared.server.Drive.{Drive}
use Rattle.server_state.specs.declared.state.State.{State}
use Rattle.server_state.specs.Drives.{AreDrives, RiseFrom}
use Rattle.server_state.specs.States.{IsReady}
use Rattle.server_entries.specs.declared.entry.DriveEntry.{DriveEntry}
use Rattle.server_entries.specs.Making.{drive_place, put_drive}
use Rattle.entry_replay.specs.Replaying.{put_before}

is_behind : (n m : ℕ) → nat_lt n m ≡ true → nat_le m n ≡ false
is_behind n m t = grind (arith, nat_tests, t)

is_before : (n m : ℕ) → nat_lt n m ≡ false → nat_le m n ≡ true
is_before n m t = grind (arith, nat_tests, t)

pub put_split : (ds : List Drive) (d : DriveEntry) →
    put_drive ds d ≡ take (drive_place ds d.number) ds ++ put_before (drop (drive_place ds d.number) ds) d
unfolding put_drive drive_place
put_split [] d = refl
put_split (e ∷ ds) d = elim (cases_Bool (nat_lt e.number d.number)) [
  | inl less ↦ rw (less, is_behind e.number d.number less) (ap (λ (xs : List Drive). e ∷ xs) (put_split ds d))
  | inr more ↦ rw (more, is_before e.number d.number more) refl
]

next_le : (n m : ℕ) → nat_lt n m ≡ true → n + 1 ≤ m
next_le n m t = grind (arith, nat_tests, t)

later : (n m : ℕ) → nat_lt n m ≡ false → (n == m) ≡ false → m + 1 ≤ n
later n m l e = grind (arith, nat_tests, l, e)

put_rises : (least : ℕ) (ds : List Drive) (d : DriveEntry) → least ≤ d.number → d.number < MAX_DRIVES → RiseFrom least ds →
    RiseFrom least (put_drive ds d)
unfolding put_drive
put_rises least [] d le low r = (le, low, tt)
put_rises least (e ∷ ds) d le low r = elim (cases_Bool (nat_lt e.number d.number)) [
  | inl less ↦ rw less (r.0, r.1, put_rises (e.number + 1) ds d (next_le e.number d.number less) low r.2)
  | inr more ↦ elim (cases_Bool (e.number == d.number)) [
    | inl same ↦ rw (more, same) (le, low, subst (λ (n : ℕ). RiseFrom (n + 1) ds) (eqb-true e.number d.number same) r.2)
    | inr other ↦ rw (more, other) (le, low, (later e.number d.number more other, r.1, r.2))
  ]
]

-- they stay in order
pub drives_put : (old : State) (ds : List Drive) (d : DriveEntry) → IsReady old → d.number < MAX_DRIVES →
    ds ≡ put_drive old.drives d →
    IsReady (record old { drives = ds })
drives_put old ds d ready low e = record {
  files = ready.files;
  grants = ready.grants;
  drives = subst (λ (xs : List Drive). AreDrives xs) (sym e) (put_rises 0 old.drives d (omega arith) low ready.drives);
}
