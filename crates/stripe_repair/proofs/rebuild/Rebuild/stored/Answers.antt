use Rattle.std.proofs.lemmas.List.Elements.{All-drop}
use Rattle.stripe_repair.specs.Filling.{IsPieceOf}
use Rattle.stripe_repair.proofs.rebuild.Rebuild.stored.Goals as goal

pub next-requires-clause-pieces : goal.next-requires-clause-pieces
next-requires-clause-pieces c =
    let s = c.self.inside in
    rw c.advance.ensures (All-drop (IsPieceOf c.args.kept.now.map s.target) 1 s.todo (rw (← c.self.view_is) at c.requires.pieces))
