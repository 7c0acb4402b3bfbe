use Rattle.std.proofs.Common.{refl}
use Rattle.gate_log.proofs.Appending.{staged, settled, gated, done, at_rest, written_on}
use Rattle.gate_log.proofs.log.GateLog.add.Goals as goal

pub returns-in_err-write_at-clause-any_moment : goal.returns-in_err-write_at-clause-any_moment
returns-in_err-write_at-clause-any_moment g c header bodies more a s =
    staged g.D.Disk.tells g.D.Disk.seen g.D.Disk.may_leave g.D.Disk.moment g.D.Disk.left_since g.met.D.Disk.only_now header bodies
    more c.args.pieces.now a
    c.args.self.now.disk c.args.self.now.end s
    _ _ c.write_at.ensures.crash c.write_at.ensures.time

pub returns-in_err-sync-clause-any_moment : goal.returns-in_err-sync-clause-any_moment
returns-in_err-sync-clause-any_moment g c header bodies more a s =
    settled g.D.Disk.tells g.D.Disk.seen g.D.Disk.may_leave g.D.Disk.moment g.D.Disk.left_since g.met.D.Disk.only_now header
    bodies more c.args.pieces.now a
    c.args.self.now.disk c.args.self.now.end s
    _ _ c.write_at.ensures.crash c.write_at.ensures.time
    _ c.sync.ensures.crash c.sync.ensures.time

pub returns-in_err-write_at-2-clause-any_moment : goal.returns-in_err-write_at-2-clause-any_moment
returns-in_err-write_at-2-clause-any_moment g c header bodies more a s =
    gated g.D.Disk.tells g.D.Disk.seen g.D.Disk.may_leave g.D.Disk.moment g.D.Disk.left_since g.met.D.Disk.only_now header bodies
    more c.args.pieces.now a
    c.args.self.now.disk c.args.self.now.end s
    _ _ c.write_at.ensures.crash c.write_at.ensures.time
    _ c.sync.ensures.crash c.sync.ensures.time
    c.in_ok-write_at.ensures.bytes c.write_at.ensures.tells c.sync.ensures.seen
    c.in_ok-sync.ensures.durable
    _ c.write_at-2.ensures.crash c.write_at-2.ensures.time

pub returns-in_err-sync-2-clause-any_moment : goal.returns-in_err-sync-2-clause-any_moment
returns-in_err-sync-2-clause-any_moment g c header bodies more a s =
    done g.D.Disk.tells g.D.Disk.seen g.D.Disk.may_leave g.D.Disk.moment g.D.Disk.left_since g.met.D.Disk.only_now header bodies
    more c.args.pieces.now a
    c.args.self.now.disk c.args.self.now.end s
    _ _ c.write_at.ensures.crash c.write_at.ensures.time
    _ c.sync.ensures.crash c.sync.ensures.time
    c.in_ok-write_at.ensures.bytes c.write_at.ensures.tells c.sync.ensures.seen
    c.in_ok-sync.ensures.durable
    _ c.write_at-2.ensures.crash c.write_at-2.ensures.time
    _ c.sync-2.ensures.crash c.sync-2.ensures.time

pub returns-clause-any_moment : goal.returns-clause-any_moment
returns-clause-any_moment g c header bodies more a s =
    done g.D.Disk.tells g.D.Disk.seen g.D.Disk.may_leave g.D.Disk.moment g.D.Disk.left_since g.met.D.Disk.only_now header bodies
    more c.args.pieces.now a
    c.args.self.now.disk c.args.self.now.end s
    _ _ c.write_at.ensures.crash c.write_at.ensures.time
    _ c.sync.ensures.crash c.sync.ensures.time
    c.in_ok-write_at.ensures.bytes c.write_at.ensures.tells c.sync.ensures.seen
    c.in_ok-sync.ensures.durable
    _ c.write_at-2.ensures.crash c.write_at-2.ensures.time
    _ c.sync-2.ensures.crash c.sync-2.ensures.time

pub returns-clause-added : goal.returns-clause-added
returns-clause-added g c header bodies more a s =
    at_rest g.D.Disk.tells g.D.Disk.seen g.D.Disk.may_leave g.D.Disk.moment g.D.Disk.left_since g.met.D.Disk.only_now header
    bodies more c.args.pieces.now a
    c.args.self.now.disk c.args.self.now.end s
    _ _ c.write_at.ensures.crash c.write_at.ensures.time
    _ c.sync.ensures.crash c.sync.ensures.time
    c.in_ok-write_at.ensures.bytes c.write_at.ensures.tells c.sync.ensures.seen
    c.in_ok-sync.ensures.durable
    _ c.write_at-2.ensures.crash c.write_at-2.ensures.time
    _ c.sync-2.ensures.crash c.sync-2.ensures.time
    c.sync.ensures.tells c.write_at-2.ensures.tells c.sync-2.ensures.tells c.in_ok-write_at-2.ensures.bytes
    c.sync-2.ensures.seen _ refl c.in_ok-sync-2.ensures.durable

pub returns-clause-written : goal.returns-clause-written
returns-clause-written g c header bodies more a s was =
    written_on g.D.Disk.tells g.D.Disk.seen g.D.Disk.may_leave g.D.Disk.moment g.D.Disk.left_since g.met.D.Disk.only_now header
    bodies more c.args.pieces.now a
    c.args.self.now.disk c.args.self.now.end s
    _ _ c.write_at.ensures.crash c.write_at.ensures.time
    _ c.sync.ensures.crash c.sync.ensures.time
    c.in_ok-write_at.ensures.bytes c.write_at.ensures.tells c.sync.ensures.seen
    c.in_ok-sync.ensures.durable
    _ c.write_at-2.ensures.crash c.write_at-2.ensures.time
    _ c.sync-2.ensures.crash c.sync-2.ensures.time
    c.sync.ensures.tells c.write_at-2.ensures.tells c.sync-2.ensures.tells c.in_ok-write_at-2.ensures.bytes
    c.sync-2.ensures.seen was
