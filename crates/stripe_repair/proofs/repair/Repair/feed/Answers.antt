use Rattle.std.proofs.Common.{drop}
use Rattle.server_rules.specs.Jobs.{fetched, goes_on}
use Rattle.server_rules.specs.Repair.{repairs}
use Rattle.stripe_repair.specs.Repairing.{work_at}
use Rattle.stripe_repair.proofs.RepairLaws.{same_ok, at_fetching, at_stored, at_broken}
use Rattle.stripe_repair.proofs.repair.Repair.feed.Goals as goal
use Rattle.stripe_repair.proofs.repair.Repair.feed.Goals.{then-not-broken, else-not-broken}

pub returns-in-Fetching : goal.returns-in-Fetching
returns-in-Fetching c =
    let s = c.self.inside in
    rw (← c.self.view_is)
    (same_ok c.fetched.result c.args.kept.now c.args.nonce
    (λ kind g. goes_on kind (work_at s.stage s.todo s.short) c.args.heard.now g)
    (λ kind g. fetched kind g s.todo s.short c.args.heard.now) c.fetched.new.self
    (λ kind g at. at_fetching kind g s.stage s.todo s.short c.args.heard.now c.in-Fetching.is)
    (rw (← c.self.view_is) at c.fetched.ensures))

pub returns-after-not-broken : goal.returns-after-not-broken
returns-after-not-broken c =
    let s = c.self.inside in
    let f = c.args.kept.now in
    rw (← c.self.view_is) (elim c.if-not-broken.branch [
      | then-not-broken w ↦
          same_ok c.next.result f c.args.nonce (λ kind g. goes_on kind (work_at s.stage s.todo s.short) c.args.heard.now g)
          (λ kind g. repairs kind g (drop 1 s.todo) s.short) c.next.new.self
          (λ kind g at. at_stored kind g s.stage s.todo s.short c.args.heard.now c.in-Storing.broken c.in-Storing.is
          w.if-not-broken.true)
          (rw (w.self-is, w.advance.ensures) at c.next.ensures)
      | else-not-broken w ↦
          same_ok c.next.result f c.args.nonce (λ kind g. goes_on kind (work_at s.stage s.todo s.short) c.args.heard.now g)
          (λ kind g. repairs kind g s.todo s.short) c.next.new.self
          (λ kind g at. at_broken kind g s.stage s.todo s.short c.args.heard.now c.in-Storing.broken c.in-Storing.is
          w.if-not-broken.false)
          (rw (w.self-is, ← c.self.view_is) at c.next.ensures)
    ])
