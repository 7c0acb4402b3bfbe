use Rattle.std.proofs.Common.{sym, ◌∙◌, drop}
use Rattle.std.proofs.lemmas.List.Elements.{All-drop}
use Rattle.osd_lists.proofs.Options.{none_but}
use Rattle.server_rules.specs.Jobs.{gathered}
use Rattle.server_rules.specs.Rebuild.{fills}
use Rattle.stripe_repair.specs.Filling.{IsPieceOf}
use Rattle.stripe_repair.proofs.RebuildLaws.{gathered_stores, gathered_past, gathered_ends, same_fill}
use Rattle.stripe_repair.proofs.rebuild.Rebuild.feed.Goals as goal
use Rattle.stripe_repair.proofs.rebuild.Rebuild.feed.Goals.{in-Some+in_ok-bytes+in_ok-write+in_default-write, in_default}

pub returns-in-Some-write-clause-rules : goal.returns-in-Some-write-clause-rules
returns-in-Some-write-clause-rules c = λ g at.
    let s = c.self.inside in
    let write = rw (c.as_slice.ensures, c.in_ok-bytes.ensures.value) at c.in_ok-write.ensures in
    rw (← c.self.view_is)
    (gathered_stores c.args.kept.now c.args.nonce g s.target s.todo c.args.heard.now c.in-Some.piece c.in-Some-write.write at
    (sym c.first.ensures ∙ c.in-Some.is) (sym write ∙ c.in-Some-write.is))

pub next-requires-clause-pieces : goal.next-requires-clause-pieces
next-requires-clause-pieces c =
    let s = c.self.inside in
    elim c.match-first.branch [
      | in-Some+in_ok-bytes+in_ok-write+in_default-write w ↦
          rw (w.self-is, w.advance.ensures)
          (All-drop (IsPieceOf c.args.kept.now.map s.target) 1 s.todo (rw (← c.self.view_is) at c.requires.pieces))
      | in_default w ↦ rw w.self-is c.requires.pieces
    ]

pub returns-clause-rules : goal.returns-clause-rules
returns-clause-rules c =
    let s = c.self.inside in
    let f = c.args.kept.now in
    rw (← c.self.view_is) (elim c.match-first.branch [
      | in-Some+in_ok-bytes+in_ok-write+in_default-write w ↦
          let write = rw (w.as_slice.ensures, w.in_ok-bytes.ensures.value) at w.in_ok-write.ensures in
          same_fill c.next.result f c.args.nonce (λ g. gathered g s.target s.todo c.args.heard.now)
          (λ g. fills g s.target (drop 1 s.todo)) c.next.new.self
          (λ g at. gathered_past f c.args.nonce g s.target s.todo c.args.heard.now w.in-Some.piece at
          (sym c.first.ensures ∙ w.in-Some.is) (sym write ∙ none_but w.in_ok-write.write w.in_default-write.not-Some))
          (rw (w.self-is, w.advance.ensures) at c.next.ensures.rules)
      | in_default w ↦
          same_fill c.next.result f c.args.nonce (λ g. gathered g s.target s.todo c.args.heard.now)
          (λ g. fills g s.target s.todo) c.next.new.self
          (λ g at. gathered_ends g s.target s.todo c.args.heard.now
          (sym c.first.ensures ∙ none_but c.first.result w.in_default.not-Some))
          (rw (w.self-is, ← c.self.view_is) at c.next.ensures.rules)
    ])
