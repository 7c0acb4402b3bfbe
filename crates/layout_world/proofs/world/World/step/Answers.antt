use Rattle.std.proofs.Common.{Ok, sym, subst, drop, length}
use Rattle.world_watch.specs.Watching.{HasSeen}
use Rattle.layout_world.specs.State.{WorldState, Shows}
use Rattle.layout_world.specs.Going.{FinishesSeen}
use Rattle.layout_world.proofs.Finishing.{steps, steps_err}
use Rattle.layout_world.proofs.Watched.{watches_on}
use Rattle.layout_world.proofs.world.World.step.Goals as goal

pub returns-in-Ok-clause-steps : goal.returns-in-Ok-clause-steps
returns-in-Ok-clause-steps g c = λ w t.
    let s : Shows c.self.inside.parties w = subst (λ (x : WorldState). Shows x.parties w) (sym c.self.view_is) t in
    steps c.one_event_more.ensures c.full_is_cut.ensures w c.args.event c.args.lines.now c.carry_out.new.lines
    c.args.self.now _ (Ok tt) c.fit.ensures
    (subst (λ (x : WorldState). FinishesSeen w c.args.event c.args.lines.now x.watch c.carry_out.new.parties
    c.carry_out.new.watch c.carry_out.new.lines (Ok tt)) c.self.view_is
    (c.in-Ok.ensures.finishes w s (sym (c.in_default.ensures.cause w s))))

pub returns-in-Err-clause-steps : goal.returns-in-Err-clause-steps
returns-in-Err-clause-steps g c = λ w t.
    let s : Shows c.self.inside.parties w = subst (λ (x : WorldState). Shows x.parties w) (sym c.self.view_is) t in
    let f = c.in-Err.ensures.finishes w s (sym (c.in_default.ensures.cause w s)) in
    steps_err c.full_is_cut.ensures w c.args.event c.args.lines.now c.carry_out.new.lines
    c.args.self.now _ c.in-Err.error c.self.inside.watch f.0 f.1

pub returns-in-Ok-clause-watches : goal.returns-in-Ok-clause-watches
returns-in-Ok-clause-watches g c =
    watches_on c.watch_is_read.ensures.events c.watch_is_read.ensures.goes_on c.moves_follow.ensures.watched c.args.event
    c.args.lines.now c.carry_out.new.lines c.args.self.now _ (returns-in-Ok-clause-steps g c)
    (λ long. subst (λ (x : WorldState). HasSeen c.carry_out.new.parties.network.messages
    (drop (length c.args.lines.now) c.carry_out.new.lines) x.watch c.carry_out.new.watch) c.self.view_is
    (c.in-Ok.ensures.seen long))
