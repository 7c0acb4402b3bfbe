use Rattle.std.proofs.Common.{arith}
use Rattle.std.specs.Map.Iter.{deref}
use Rattle.std.proofs.lemmas.Bool.Decides.{nat_tests}
use Rattle.std.proofs.lemmas.Map.Iter.{rest_all, rest_more}
use Rattle.server_state.proofs.Keys.{first_found, first_none, first_other}
use Rattle.server_state.proofs.index.ReplyIndex.first.Goals as goal
use Rattle.server_state.proofs.index.ReplyIndex.first.Goals.{else-of-nonce-via-then-of-nonce+else-from-drive, else-of-nonce-via-else-of-nonce}

pub returns-in-None-clause-none : goal.returns-in-None-clause-none
returns-in-None-clause-none c =
    first_none c.self.inside.keys c.args.self.now c.args.nonce c.args.drive c.range.result c.self.view_is
    (c.range.ensures.in_range tt)
    (rest_all deref c.range.result c.next.new.self c.next.result c.in-None.is c.next.ensures.steps)

pub returns-then-from-drive-clause-some : goal.returns-then-from-drive-clause-some
returns-then-from-drive-clause-some c =
    first_found c.self.inside.keys c.args.self.now c.args.nonce c.args.drive c.in-Some.key.now c.range.result c.next.new.self
    c.self.view_is (c.range.ensures.in_range tt)
    (rest_more deref c.range.result c.next.new.self c.next.result c.in-Some.key c.in-Some.is c.next.ensures.steps)
    c.if-of-nonce.true c.if-from-drive.true

pub returns-else-of-nonce-clause-none : goal.returns-else-of-nonce-clause-none
returns-else-of-nonce-clause-none c =
    let more = rest_more deref c.range.result c.next.new.self c.next.result c.in-Some.key c.in-Some.is c.next.ensures.steps in
    elim c.else-of-nonce.branch [
      | else-of-nonce-via-then-of-nonce+else-from-drive w ↦
          first_other c.self.inside.keys c.args.self.now c.args.nonce c.args.drive c.in-Some.key.now c.range.result
          c.next.new.self c.self.view_is (c.range.ensures.in_range tt) more
          (λ of from. grind (arith, nat_tests, w.if-from-drive.false, from))
      | else-of-nonce-via-else-of-nonce w ↦
          first_other c.self.inside.keys c.args.self.now c.args.nonce c.args.drive c.in-Some.key.now c.range.result
          c.next.new.self c.self.view_is (c.range.ensures.in_range tt) more
          (λ of from. grind (arith, nat_tests, w.if-of-nonce.false, of))
    ]
