use Rattle.std.proofs.Common.{subst, ◌∙◌}
use Rattle.server_state.specs.Tables.{Table, AreEntries}
use Rattle.layout_server.proofs.RoundLaws.{SoFar, at_first, next_file, at_last}
use Rattle.layout_server.proofs.rounds.at_each_file.Goals as goal

pub loop-number-init : goal.loop-number-init
loop-number-init g c =
    let gives = c.into_iter-number-iterator.ensures.into_iter_gives in
    rw (c.replace-left.ensures.after, c.new.ensures.empty, gives.0, c.replace-left.ensures.value)
    (at_first (g.S.FileStep.fits c.args.step.now)
    (g.S.FileStep.rule c.args.step.now) c.args.files.now.entries c.args.effects.now c.requires.files
    (rw c.replace-left.ensures.value at gives.5))

pub at_file-requires-clause-sound : goal.at_file-requires-clause-sound
at_file-requires-clause-sound g c =
    (subst (λ (t : Table). AreEntries t) c.in-Some.ensures.steps c.loop-number.invariant.others).0.sound

pub loop-number-preserved : goal.loop-number-preserved
loop-number-preserved g c =
    let fits = g.S.FileStep.fits c.args.step.now in
    let rule = g.S.FileStep.rule c.args.step.now in
    let so = subst
    (λ (t : Table). SoFar fits rule c.args.files.now.entries c.args.effects.now c.loop-number.files.entries t
    c.loop-number.effects) c.in-Some.ensures.steps c.loop-number.invariant in
    rw c.in_ok-put.ensures
    (next_file fits rule c.args.files.now.entries c.args.effects.now c.loop-number.files.entries c.next.new.self
    c.in-Some.number c.in-Some.file c.at_file.new.file
    c.loop-number.effects c.at_file.new.effects so c.in_ok-at_file.ensures.does
    (record {
      number = c.in_ok-at_file.ensures.leaves.number ∙ so.others.0.number;
      sound =
          c.in_ok-at_file.ensures.leaves.sound;
    }))

pub returns : goal.returns
returns g c =
    at_last (g.S.FileStep.fits c.args.step.now)
    (g.S.FileStep.rule c.args.step.now) c.args.files.now.entries c.args.effects.now c.loop-number.files.entries
    c.loop-number.number-iterator c.loop-number.effects
    c.in-None.ensures.steps.0 c.loop-number.invariant
