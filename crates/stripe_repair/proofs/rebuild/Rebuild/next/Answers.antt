use Rattle.stripe_repair.proofs.RebuildLaws.{first_is, next_fills}
use Rattle.stripe_repair.proofs.rebuild.Rebuild.next.Goals as goal

pub returns-clause-rules : goal.returns-clause-rules
returns-clause-rules c =
    let s = c.self.inside in
    rw (← c.self.view_is)
    (next_fills c.sourced.result c.args.kept.now c.args.nonce s.target s.todo c.first.result c.first.ensures
    c.sourced.ensures.step)

pub sourced-requires-clause-piece : goal.sourced-requires-clause-piece
sourced-requires-clause-piece c =
    let s = c.self.inside in
    first_is c.args.kept.now.map s.target s.todo c.first.result c.first.ensures (rw (← c.self.view_is) at c.requires.pieces)
