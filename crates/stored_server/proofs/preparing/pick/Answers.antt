use Rattle.std.proofs.Common.{rules, ◌∙◌, ap}
use Rattle.std.proofs.lemmas.List.{take_all}
use Rattle.stored_server.specs.Preparing.{is_new, picks}
use Rattle.stored_server.proofs.PreparingLaws.{picked_more}
use Rattle.stored_server.proofs.preparing.pick.Goals as goal

pub loop-i-preserved : goal.loop-i-preserved
loop-i-preserved g c =
    picked_more (λ m. picks c.args.new (is_new (g.H.MetadataServer.knows c.args.server.now) m)) c.args.sends.now c.loop-i.i
    c.get.result.now c.loop-i.picked c.push_if.new.picked c.picks.result (search rules)
    (c.picks.ensures ∙ ap (picks c.args.new) (search rules)) c.loop-i.invariant (search rules)

pub returns : goal.returns
returns g c = rw (take_all c.loop-i.i c.args.sends.now (search rules)) at c.loop-i.invariant
