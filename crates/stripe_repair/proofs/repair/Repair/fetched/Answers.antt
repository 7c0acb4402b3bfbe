use Rattle.std.proofs.Common.{sym, ◌∙◌, drop}
use Rattle.std.proofs.lemmas.List.Elements.{All-drop}
use Rattle.osd_lists.proofs.Options.{none_but}
use Rattle.server_rules.specs.Jobs.{fetched}
use Rattle.server_rules.specs.Repair.{repairs}
use Rattle.stripe_repair.specs.Pieces.{IsPiece}
use Rattle.stripe_repair.proofs.RepairLaws.{fetched_stores, fetched_past, fetched_ends, same_ok, some_of, none_of}
use Rattle.stripe_repair.proofs.repair.Repair.fetched.Goals as goal
use Rattle.stripe_repair.proofs.repair.Repair.fetched.Goals.{in-Some+in_ok-writes+else-not-is_empty, in_default}

pub returns-then-not-is_empty : goal.returns-then-not-is_empty
returns-then-not-is_empty c = λ kind g at.
    let s = c.self.inside in
    rw (← c.self.view_is)
    (fetched_stores c.args.kept.now c.args.nonce kind g s.todo s.short c.args.heard.now c.in-Some.piece c.in_ok-writes.writes
    at (sym c.first.ensures ∙ c.in-Some.is) c.in_ok-writes.ensures
    (some_of c.is_empty.result c.in_ok-writes.writes c.is_empty.ensures c.if-not-is_empty.true))

pub invariant_of-self-in-Some : goal.invariant_of-self-in-Some
invariant_of-self-in-Some c = rw c.advance.ensures (All-drop IsPiece 1 c.self.inside.todo c.self.invariant)

pub returns : goal.returns
returns c =
    let s = c.self.inside in
    let f = c.args.kept.now in
    rw (← c.self.view_is) (elim c.match-first.branch [
      | in-Some+in_ok-writes+else-not-is_empty w ↦
          same_ok c.next.result f c.args.nonce (λ kind g. fetched kind g s.todo s.short c.args.heard.now)
          (λ kind g. repairs kind g (drop 1 s.todo) s.short) c.next.new.self
          (λ kind g at. fetched_past f c.args.nonce kind g s.todo s.short c.args.heard.now w.in-Some.piece at
          (sym c.first.ensures ∙ w.in-Some.is)
          (sym w.in_ok-writes.ensures
          ∙ none_of w.is_empty.result w.in_ok-writes.writes w.is_empty.ensures w.if-not-is_empty.false))
          (rw (w.self-is, w.advance.ensures) at c.next.ensures)
      | in_default w ↦
          same_ok c.next.result f c.args.nonce (λ kind g. fetched kind g s.todo s.short c.args.heard.now)
          (λ kind g. repairs kind g s.todo s.short) c.next.new.self
          (λ kind g at. fetched_ends kind g s.todo s.short c.args.heard.now
          (sym c.first.ensures ∙ none_but c.first.result w.in_default.not-Some))
          (rw (w.self-is, ← c.self.view_is) at c.next.ensures)
    ])
