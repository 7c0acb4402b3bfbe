use Rattle.std.proofs.Common.{rules}
use Rattle.std.proofs.lemmas.List.{take_all}
use Rattle.server_command.proofs.CutLaws.{after_none, on_err}
use Rattle.stored_server.proofs.TellingLaws.{told_more, told_some}
use Rattle.stored_server.proofs.differences.tell_all.Goals as goal

pub loop-i-init : goal.loop-i-init
loop-i-init g c = (after_none (g.L.Links.told c.args.links.now), search rules, search rules)

pub loop-i-preserved : goal.loop-i-preserved
loop-i-preserved g c = (
  told_more c.args.differences.now c.loop-i.i c.get.result.now (g.L.Links.told c.args.links.now)
      (g.L.Links.told c.loop-i.links) (g.L.Links.told c.tell.new.links) (search rules) c.loop-i.invariant.0
      c.in_ok-tell.ensures.told,
  search rules,
  search rules,
)

pub returns-clause-told : goal.returns-clause-told
returns-clause-told g c = rw (take_all c.loop-i.i c.args.differences.now (search rules)) at c.loop-i.invariant.0

pub returns-in_err-tell-clause-err : goal.returns-in_err-tell-clause-err
returns-in_err-tell-clause-err g c =
    on_err _ _ (told_some c.args.differences.now c.loop-i.i (g.L.Links.told c.args.links.now)
    (g.L.Links.told c.loop-i.links) (g.L.Links.told c.tell.new.links) c.loop-i.invariant.0 c.in_err-tell.ensures.err)
