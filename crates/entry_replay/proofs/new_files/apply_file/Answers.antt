use Rattle.std.proofs.Common.{refl, sym, ◌∙◌}
use Rattle.server_state.specs.States.{server_of}
use Rattle.entry_replay.proofs.MakingLaws.{file_made, map_refused, place_refused, ready_made}
use Rattle.entry_replay.proofs.new_files.apply_file.Goals as goal

pub returns-in-None-clause-applied : goal.returns-in-None-clause-applied
returns-in-None-clause-applied c = (map_refused (server_of c.args.state.now) c.args.file.now c.in-None.ensures.none, refl)

pub returns-then-not-can_place-clause-applied : goal.returns-then-not-can_place-clause-applied
returns-then-not-can_place-clause-applied c = (
  place_refused (server_of c.args.state.now) c.args.file.now c.in-Some.ensures.some.0 (sym c.can_place.ensures
      ∙ c.if-not-can_place.true),
  refl,
)

pub returns-clause-applied : goal.returns-clause-applied
returns-clause-applied c =
    file_made c.args.state.now c.add_file.new.files c.args.file.now c.in_ok-made.made c.requires.ready c.in-Some.ensures.some.0
    (sym c.can_place.ensures ∙ c.if-not-can_place.false) c.in_ok-made.ensures c.in_ok-add_file.ensures.added

pub returns-clause-ready : goal.returns-clause-ready
returns-clause-ready c =
    ready_made c.args.state.now c.add_file.new.files c.args.file.now c.in_ok-made.made c.requires.ready (sym c.can_place.ensures
    ∙ c.if-not-can_place.false)
    (rw c.in-Some.ensures.some.1 at c.in-Some.ensures.some.2) c.in_ok-made.ensures c.in_ok-add_file.ensures.added
