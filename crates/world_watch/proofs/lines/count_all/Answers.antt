use Rattle.std.proofs.Common.{◌≡◌, ◌∷◌, ◌+◌, ◌∙◌, drop, sym, ap, arith}
use Rattle.std.proofs.lemmas.List.{drop_all, drop_more}
use Rattle.scenario_text.specs.declared.line.Line.{Line}
use Rattle.world_history.specs.Summing.{counts_line}
use Rattle.world_watch.proofs.lines.count_all.Goals as goal

pub loop-line-preserved : goal.loop-line-preserved
loop-line-preserved c = λ end h. c.loop-line.invariant end (λ s e.
    let here : drop c.loop-line.line-index c.args.lines.now ≡ c.line-item.result ∷ drop
    (c.loop-line.line-index + 1) c.args.lines.now =
    drop_more c.args.lines.now c.loop-line.line-index c.line-item.result c.loop-line-test.true
    ∙ ap (λ (l : Line). l ∷ drop (c.loop-line.line-index + 1) c.args.lines.now) (sym c.line-item.is) in
    rw here (h (counts_line s c.line-item.result) (c.count.ensures s e)))

pub returns : goal.returns
returns c = c.loop-line.invariant c.loop-line.tally
    (λ s e. rw (drop_all c.loop-line.line-index c.args.lines.now (omega (arith, c.loop-line-test.false))) e)
