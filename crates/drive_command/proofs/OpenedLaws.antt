-- Why a store isn't made or opened, from what its crate and its disk say.
use Rattle.std.proofs.Common.{◌≡◌, ℕ, List, inr, sym, subst}
use Rattle.std.specs.Prelude.{IsTrue}
use Rattle.osd_bytes.specs.Causes.{Rose}
use Rattle.cluster_text.specs.declared.stop.CommandStop.TheVariants as cause
use Rattle.osd_disk.specs.Crashes.{Elapses, Narrows, OnlyRead}
use Rattle.osd_disk.proofs.Moments.{leaves_as_before, nothing_read, read_again, read_more}
use Rattle.osd_disk.specs.declared.disk.Disk.{Ghosts as DiskGhosts}
use Rattle.osd_drive.specs.State.{DriveState}
use Rattle.drive_command.specs.declared.stored_stop.StoredStop.{StoredStop}
use Rattle.drive_command.specs.declared.stored_stop.StoredStop.TheVariants.{Command, DiskFault, BadStore}
use Rattle.drive_command.specs.Opened.{IsRefusedAt, LeavesOpenable, StopsOpening}

module _ {D : Type 0} (s : DiskGhosts D) (first : DriveState) where
  -- the disk was only opened and asked for its size before
  pub since_opened : (disk mid left : D) (stop : StoredStop) → s.tells mid ≡ s.tells disk → s.seen mid ≡ s.seen disk
      → s.faults mid ≡ s.faults disk
      → StopsOpening s first mid left stop → StopsOpening s first disk left stop
  since_opened disk mid left (Command (cause.BadCluster kind)) told seen faults stops = absurd stops
  since_opened disk mid left (Command cause.ReadFault) told seen faults stops = absurd stops
  since_opened disk mid left (Command cause.WriteFault) told seen faults stops = absurd stops
  since_opened disk mid left (Command cause.Memory) told seen faults stops = tt
  since_opened disk mid left (Command cause.Full) told seen faults stops = absurd stops
  since_opened disk mid left (Command cause.LinkFault) told seen faults stops = absurd stops
  since_opened disk mid left DiskFault told seen faults stops = subst (λ (n : ℕ). Rose n (s.faults left)) faults stops
  since_opened disk mid left (BadStore at) told seen faults stops = λ tells.
      subst (λ (c : List ℕ). (s.seen left ≡ c) × IsRefusedAt first c at) seen (stops (subst IsTrue (sym told) tells))

-- ---- what a crash leaves meanwhile

module _ {D : Type 0} (s : DiskGhosts D) where
  abbrev Read : D → D → Type 0
  Read disk mid = OnlyRead s.tells s.seen s.may_leave s.moment s.left_since disk mid

  -- the disk was only opened and asked for its size
  pub asked : (disk named mid : D) → s.tells named ≡ s.tells disk → s.seen named ≡ s.seen disk
      → Narrows (s.may_leave disk) (s.may_leave named)
      → Elapses (s.moment disk) (s.moment named) (s.left_since disk) (s.left_since named) (s.may_leave named)
      → s.tells mid ≡ s.tells named → s.seen mid ≡ s.seen named → Narrows (s.may_leave named) (s.may_leave mid)
      → Elapses (s.moment named) (s.moment mid) (s.left_since named) (s.left_since mid) (s.may_leave mid) → Read disk mid
  asked disk named mid told seen narrows time told2 seen2 narrows2 time2 =
      read_more s.tells s.seen s.may_leave s.moment s.left_since disk named mid
      (read_more s.tells s.seen s.may_leave s.moment s.left_since disk disk named
      (nothing_read s.tells s.seen s.may_leave s.moment s.left_since disk) told seen narrows time)
      told2 seen2 narrows2 time2

  -- a crash leaves what it might have left before
  pub as_before : ((d : D) (c : List ℕ) → s.left_since d (s.moment d) c → s.may_leave d c) → (disk mid : D) → Read disk mid
      → LeavesOpenable s disk mid
  as_before only_now disk mid read =
      inr
      (leaves_as_before s.tells s.seen s.may_leave s.moment s.left_since disk mid (s.may_leave disk) read only_now
      (λ c left. left))

  -- and so it is where more was read
  pub read_on : ((d : D) (c : List ℕ) → s.left_since d (s.moment d) c → s.may_leave d c) → (disk mid left : D) → Read disk mid
      → Read mid left
      → LeavesOpenable s disk left
  read_on only_now disk mid left read more =
      as_before only_now disk left (read_again s.tells s.seen s.may_leave s.moment s.left_since disk mid left read more)
