use Rattle.std.proofs.Common.{rules, ◌≡◌, ◌+◌, ◌≤◌, ℕ, List, IsTrue, length, take, drop, sym, subst}
use Rattle.osd_disk.proofs.Moments.{read_more}
use Rattle.osd_disk.proofs.Reading.{reads_on}
use Rattle.osd_disk.proofs.whole.read_whole.Goals as goal

pub loop-done-preserved : goal.loop-done-preserved
loop-done-preserved g c =
    let so_far = c.loop-done.invariant in
    let fits : c.in_ok-n.n ≤ length c.read.new.buf = search rules in
    record {
      bound = search rules;
      bytes = λ told.
          let gives = c.in_ok-n.ensures.bytes (subst IsTrue (sym so_far.disk.tells_same) told) in
          let next = subst
          (λ (s : List ℕ). take c.in_ok-n.n c.read.new.buf ≡ take c.in_ok-n.n (drop (c.args.at + c.loop-done.done) s))
          so_far.disk.seen_same gives.front in
          reads_on c.loop-done.buf c.read.new.buf _
          (g.D.Disk.seen c.args.disk.now) c.args.at c.loop-done.done c.in_ok-n.n so_far.bound fits (so_far.bytes told) next;
      disk = read_more g.D.Disk.tells g.D.Disk.seen g.D.Disk.may_leave g.D.Disk.moment g.D.Disk.left_since c.args.disk.now
          c.loop-done.disk c.read.new.self so_far.disk
          c.read.ensures.tells c.read.ensures.seen c.read.ensures.crash c.read.ensures.time;
      count = search rules;
    }
