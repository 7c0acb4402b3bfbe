use Rattle.std.proofs.Common.{inl, inr, subst, arith}
use Rattle.drive_store.specs.Stores.{IsStoreOf, disk_in}
use Rattle.drive_command.specs.StoredServer.{stays}
use Rattle.drive_command.proofs.StoredLaws.{of_disk, unchanged}
use Rattle.drive_command.proofs.stored_server.StoredDriveDeviceServer.handle.Goals as goal

pub returns-in-Ok-clause-ok : goal.returns-in-Ok-clause-ok
returns-in-Ok-clause-ok g c = record {
  state = c.in-Ok.ensures.state;
  few = omega arith;
  crash = λ kept. of_disk g.D.Disk.moment g.D.Disk.left_since c.args.self.now c.handle.new.self _
      (c.handle.ensures.any_moment kept);
  since = λ kept. let leaves = c.handle.ensures.any_moment kept in (
    leaves.each,
    g.D.Disk.moment (disk_in c.handle.new.self),
    leaves.later,
    omega arith,
    λ content left. subst (λ d. IsStoreOf d content) c.in-Ok.ensures.state
        (stays g.D.Disk.tells g.D.Disk.seen g.D.Disk.may_leave g.D.Disk.moment g.D.Disk.left_since g.met.D.Disk.only_now
        c.handle.new.self content (c.in-Ok.ensures.kept kept) left),
  );
}

pub returns-in-Err-clause-err : goal.returns-in-Err-clause-err
returns-in-Err-clause-err g c = elim c.in-Err.ensures.err [
  | inl same ↦ inl (unchanged g.D.Disk g.met.D.Disk.only_now c.args.self.now c.handle.new.self same)
  | inr done ↦ inr (record {
    state = done.0;
    few = omega arith;
    crash = λ kept. of_disk g.D.Disk.moment g.D.Disk.left_since c.args.self.now c.handle.new.self _
        (c.handle.ensures.any_moment kept);
    since = λ kept. (c.handle.ensures.any_moment kept).each;
  })
]
