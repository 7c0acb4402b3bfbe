use Rattle.std.proofs.Common.{refl, sym, ◌∙◌}
use Rattle.server_state.specs.States.{server_of}
use Rattle.server_entries.specs.Changes.{can_change}
use Rattle.entry_replay.proofs.ChangeLaws.{absent_made, can_there, change_made, fits_inside, found_sound, not_made, ready_left, server_stays}
use Rattle.entry_replay.proofs.changes.apply_change.Goals as goal

pub returns-then-not-can_come-clause-applied : goal.returns-then-not-can_come-clause-applied
returns-then-not-can_come-clause-applied c = (
  not_made (server_of c.args.state.now) c.args.number c.args.change.now (sym c.can_come.ensures
      ∙ c.if-not-can_come.true),
  refl,
)

pub change_file-requires-clause-sound : goal.change_file-requires-clause-sound
change_file-requires-clause-sound c =
    found_sound c.args.state.now c.args.number c.in-Some.file.now c.requires.ready (sym c.in-Some.ensures.value)

pub change_file-requires-clause-inside : goal.change_file-requires-clause-inside
change_file-requires-clause-inside c =
    fits_inside (server_of c.args.state.now) c.args.change.now c.in-Some.file.now.kept
    (can_there c.args.state.now c.args.number c.in-Some.file.now (can_change (server_of c.args.state.now) c.args.change.now)
    c.requires.ready
    (sym c.in-Some.ensures.value) (sym c.can_come.ensures ∙ c.if-not-can_come.false))

pub returns-in_err-change_file-in-Some-clause-ready : goal.returns-in_err-change_file-in-Some-clause-ready
returns-in_err-change_file-in-Some-clause-ready c =
    ready_left c.args.state.now _ c.args.number c.in-Some.file.now c.change_file.new.file c.requires.ready
    (sym c.in-Some.ensures.value)
    c.change_file.ensures.leaves (c.get_mut.follows.holds c.change_file.new.file).0

pub returns-in_ok-change_file-in-Some-clause-applied : goal.returns-in_ok-change_file-in-Some-clause-applied
returns-in_ok-change_file-in-Some-clause-applied c =
    change_made c.args.state.now (c.get_mut.follows.lender c.change_file.new.file) c.args.number c.args.change.now
    c.in-Some.file.now c.change_file.new.file
    c.requires.ready (sym c.in-Some.ensures.value) (sym c.can_come.ensures ∙ c.if-not-can_come.false)
    c.in_ok-change_file-in-Some.ensures.changed (c.get_mut.follows.holds c.change_file.new.file).0

pub returns-in_ok-change_file-in-Some-clause-ready : goal.returns-in_ok-change_file-in-Some-clause-ready
returns-in_ok-change_file-in-Some-clause-ready c =
    ready_left c.args.state.now _ c.args.number c.in-Some.file.now c.change_file.new.file c.requires.ready
    (sym c.in-Some.ensures.value)
    c.change_file.ensures.leaves (c.get_mut.follows.holds c.change_file.new.file).0

pub returns-in-None-clause-applied : goal.returns-in-None-clause-applied
returns-in-None-clause-applied c = (
  absent_made c.args.state.now c.args.number c.args.change.now c.requires.ready (sym c.in-None.ensures.value),
  server_stays c.args.state.now c.get_mut.follows.lender-at-none c.get_mut.follows.holds-at-none,
)
