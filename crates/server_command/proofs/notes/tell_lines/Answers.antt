use Rattle.std.proofs.Common.{rules, ◌∙◌, ap, sym, Some}
use Rattle.std.proofs.lemmas.List.{take_all}
use Rattle.std.proofs.lemmas.Option.{slice_get-get_or}
use Rattle.server_command.proofs.CutLaws.{after_none, on_err, told_more, told_some}
use Rattle.server_command.proofs.notes.tell_lines.Goals as goal

pub loop-line-init : goal.loop-line-init
loop-line-init g c = (after_none (g.L.Links.told c.args.links.now), search rules, search rules)

pub loop-line-preserved : goal.loop-line-preserved
loop-line-preserved g c = (
  told_more c.args.lines.now c.loop-line.line-index c.line-item.result (g.L.Links.told c.args.links.now)
      (g.L.Links.told c.loop-line.links) (g.L.Links.told c.tell.new.links)
      (slice_get-get_or c.args.lines.now c.loop-line.line-index c.line-item.result c.loop-line-test.true
      ∙ ap Some (sym c.line-item.is)) c.loop-line.invariant.0 c.in_ok-tell.ensures.told,
  search rules,
  search rules,
)

pub returns-clause-told : goal.returns-clause-told
returns-clause-told g c = rw (take_all c.loop-line.line-index c.args.lines.now (search rules)) at c.loop-line.invariant.0

pub returns-in_err-tell-clause-err : goal.returns-in_err-tell-clause-err
returns-in_err-tell-clause-err g c =
    on_err _ _ (told_some c.args.lines.now c.loop-line.line-index (g.L.Links.told c.args.links.now)
    (g.L.Links.told c.loop-line.links) (g.L.Links.told c.tell.new.links) c.loop-line.invariant.0 c.in_err-tell.ensures.err)
