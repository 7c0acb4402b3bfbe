use Rattle.std.proofs.Common.{List, ap}
use Rattle.server_rules.specs.declared.files.Component.{Component}
use Rattle.server_state.proofs.ServingLaws.{loss_steps}
use Rattle.server_state.proofs.SoundLaws.{loss_leaves}
use Rattle.server_state.proofs.layout_return.take_loss.Goals as goal

pub returns-clause-rule : goal.returns-clause-rule
returns-clause-rule c =
    let f = c.args.file.now in
    let v = rw (c.as_slice-2.ensures, c.as_slice-3.ensures) at c.in_ok-file.ensures.value in
    loss_steps f _ c.args.numbers.now c.args.effects.now c.report.new.effects
    (ap (λ (cs : List Component). record f { kept = record f.kept { components = cs } }) v)
    (rw c.as_slice.ensures at c.in_ok-report.ensures.rule)

pub returns-clause-leaves : goal.returns-clause-leaves
returns-clause-leaves c =
    let f = c.args.file.now in
    let v = rw (c.as_slice-2.ensures, c.as_slice-3.ensures) at c.in_ok-file.ensures.value in
    loss_leaves f _ c.args.numbers.now c.requires.idle c.requires.sound
    (ap (λ (cs : List Component). record f { kept = record f.kept { components = cs } }) v)
