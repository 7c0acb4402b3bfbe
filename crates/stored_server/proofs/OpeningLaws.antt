-- What a crash leaves while a journal is opened.
use Rattle.std.proofs.Common.{◌⊎◌, ⊎_elim, inl, inr, ℕ, List, subst}
use Rattle.osd_disk.specs.Crashes.{OnlyRead}
use Rattle.osd_disk.proofs.Moments.{leaves_as_before}
use Rattle.osd_disk.specs.declared.disk.Disk.{Ghosts as DiskGhosts}
use Rattle.server_journal.specs.Opening.{IsOfOpening, LeavesOpening}
use Rattle.server_journal.proofs.JournalLaws.{on_and_on, weaker}
use Rattle.stored_server.specs.Opened.{LeavesOpenable}

module _ {D : Type 0} (s : DiskGhosts D) where
  abbrev Read : D → D → Type 0
  Read disk mid = OnlyRead s.tells s.seen s.may_leave s.moment s.left_since disk mid

  -- what an opening may leave
  abbrev Leavable : D → List ℕ → Type 0
  Leavable disk c = s.may_leave disk c ⊎ IsOfOpening (s.seen disk) c

  -- and once it is
  pub since_asked : ((d : D) (c : List ℕ) → s.left_since d (s.moment d) c → s.may_leave d c) → (disk mid left : D) → Read disk mid
      → LeavesOpening s mid left → LeavesOpenable s disk left
  since_asked only_now disk mid left read opening =
      inr (on_and_on s disk mid left (Leavable disk)
      (leaves_as_before s.tells s.seen s.may_leave s.moment s.left_since disk mid (Leavable disk) read only_now
      (λ c left. inl left))
      (weaker s mid left (Leavable mid) (Leavable disk) opening
      (λ c left. ⊎_elim (λ now. inl (read.narrows c now))
      (λ o. inr (subst (λ (b : List ℕ). IsOfOpening b c) read.seen_same o)) left)))
