-- What a stored drive leaves on its disk.
use Rattle.std.proofs.Common.{◌≡◌, ℕ, List, [], inl, refl, sym, subst, arith}
use Rattle.osd_disk.specs.Crashes.{LeavesOnly}
use Rattle.osd_disk.specs.declared.disk.Disk.{Ghosts as DiskGhosts}
use Rattle.osd_drive.specs.State.{DriveState}
use Rattle.drive_store.specs.declared.store.StoredDrive.{StoredDrive}
use Rattle.drive_store.specs.Stores.{IsKept, IsStoreOf, core_of, disk_in}
use Rattle.drive_command.specs.Records.{Handled}
use Rattle.drive_command.specs.Kept.{Carries}
use Rattle.drive_command.specs.StoredServer.{stays}

-- what a crash leaves of a stored drive is what it leaves of its disk
pub of_disk : {D : Type 0} (moment : D → ℕ) (left_since : D → ℕ → List ℕ → Type 0) (old new : StoredDrive D) (P : List ℕ → Type 0)
    → LeavesOnly moment left_since (disk_in old) (disk_in new) P
    → LeavesOnly (λ (s : StoredDrive D). moment (disk_in s)) (λ (s : StoredDrive D). left_since (disk_in s)) old new P
of_disk moment left_since old new P l = record { later = l.later; each = l.each; before = l.before }

module _ {D : Type 0} (s : DiskGhosts D) where
  -- the store has the drive as it is
  abbrev pub Kept : StoredDrive D → Type 0
  Kept store = IsKept s.tells s.seen s.may_leave store

  -- a store goes from one drive to another over these records
  abbrev pub Carried : (handled cut_off : List Handled) → (old new : StoredDrive D) → Type 0
  Carried handled cut_off old new = Carries (λ (x : StoredDrive D). core_of x) Kept (λ (x : StoredDrive D). s.moment (disk_in x))
      (λ (x : StoredDrive D). s.left_since (disk_in x)) (λ (d : DriveState) (c : List ℕ). IsStoreOf d c) handled cut_off old new

  -- a store that nothing was asked of
  pub unchanged : ((disk : D) (c : List ℕ) → s.left_since disk (s.moment disk) c → s.may_leave disk c)
      → (old new : StoredDrive D) → new ≡ old
      → Carried [] [] old new
  unchanged only_now old new same = subst (λ (x : StoredDrive D). Carried [] [] old x) (sym same) (record {
    state = refl;
    few = omega arith;
    crash = λ k. record {
      later = omega arith;
      each = λ c left. stays s.tells s.seen s.may_leave s.moment s.left_since only_now old c k left;
      before = λ t c le left. inl left;
    };
    since = λ k c left. stays s.tells s.seen s.may_leave s.moment s.left_since only_now old c k left;
  })
