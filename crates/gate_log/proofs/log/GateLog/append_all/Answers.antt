use Rattle.std.proofs.Common.{rules, ◌≡◌, []}
use Rattle.gate_log.specs.Standing.{IsAtRest, disk_of}
use Rattle.gate_log.specs.Written.{IsAppended}
use Rattle.gate_log.proofs.Appending.{adds, leaves_still, still}
use Rattle.gate_log.proofs.log.GateLog.append_all.Goals as goal

pub returns-then-is_empty-clause-any_moment : goal.returns-then-is_empty-clause-any_moment
returns-then-is_empty-clause-any_moment g c header bodies more h s =
    leaves_still g.D.Disk.tells g.D.Disk.seen g.D.Disk.may_leave g.D.Disk.moment g.D.Disk.left_since g.met.D.Disk.only_now header
    bodies more c.args.self.now.disk c.args.self.now.end s

pub returns-then-is_empty-clause-added : goal.returns-then-is_empty-clause-added
returns-then-is_empty-clause-added g c header bodies more h s =
    still (λ all. IsAtRest g.D.Disk.tells g.D.Disk.seen g.D.Disk.may_leave header all c.args.self.now) bodies more
    c.pieces-pieces.result.now (c.pieces-pieces.ensures more h) (search rules) s

pub returns-then-is_empty-clause-written : goal.returns-then-is_empty-clause-written
returns-then-is_empty-clause-written g c header bodies more h s was =
    still (λ all. IsAppended header all (g.D.Disk.seen (disk_of c.args.self.now))) bodies more
    c.pieces-pieces.result.now (c.pieces-pieces.ensures more h) (search rules) was

pub returns-in-Ok-clause-any_moment : goal.returns-in-Ok-clause-any_moment
returns-in-Ok-clause-any_moment g c header bodies more h s =
    c.add.ensures.any_moment header bodies more
    (adds more c.pieces-pieces.result.now h.are_bodies (c.pieces-pieces.ensures more h) (search rules)) s

pub returns-in-Ok-clause-added : goal.returns-in-Ok-clause-added
returns-in-Ok-clause-added g c header bodies more h s =
    c.in-Ok.ensures.added header bodies more
    (adds more c.pieces-pieces.result.now h.are_bodies (c.pieces-pieces.ensures more h) (search rules)) s

pub returns-in-Ok-clause-written : goal.returns-in-Ok-clause-written
returns-in-Ok-clause-written g c header bodies more h s was =
    c.in-Ok.ensures.written header bodies more
    (adds more c.pieces-pieces.result.now h.are_bodies (c.pieces-pieces.ensures more h) (search rules)) s was

pub returns-in-Err-clause-any_moment : goal.returns-in-Err-clause-any_moment
returns-in-Err-clause-any_moment g c header bodies more h s =
    c.add.ensures.any_moment header bodies more
    (adds more c.pieces-pieces.result.now h.are_bodies (c.pieces-pieces.ensures more h) (search rules)) s

pub returns-in-Ok-clause-idle : goal.returns-in-Ok-clause-idle
returns-in-Ok-clause-idle g c h =
    let some : c.pieces-pieces.result.now ≡ [] → ⊥ = search rules in
    absurd (some (c.pieces-pieces.ensures [] h))

pub returns-in-Err-clause-idle : goal.returns-in-Err-clause-idle
returns-in-Err-clause-idle g c h =
    let some : c.pieces-pieces.result.now ≡ [] → ⊥ = search rules in
    absurd (some (c.pieces-pieces.ensures [] h))
