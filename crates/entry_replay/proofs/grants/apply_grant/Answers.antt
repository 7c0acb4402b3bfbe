use Rattle.std.proofs.Common.{refl, sym, ◌∙◌}
use Rattle.server_state.specs.States.{server_of}
use Rattle.entry_replay.proofs.ChangeLaws.{absent_granted, found_sound, grant_made, not_granted, ready_left, server_stays}
use Rattle.entry_replay.proofs.grants.apply_grant.Goals as goal

pub returns-then-not-can_grant-clause-applied : goal.returns-then-not-can_grant-clause-applied
returns-then-not-can_grant-clause-applied c =
    (not_granted (server_of c.args.state.now) c.args.grant.now (sym c.can_grant.ensures ∙ c.if-not-can_grant.true), refl)

pub add_grant-requires-clause-sound : goal.add_grant-requires-clause-sound
add_grant-requires-clause-sound c =
    found_sound c.args.state.now c.args.grant.now.file c.in-Some.file.now c.requires.ready (sym c.in-Some.ensures.value)

pub returns-in_err-add_grant-in-Some-clause-ready : goal.returns-in_err-add_grant-in-Some-clause-ready
returns-in_err-add_grant-in-Some-clause-ready c =
    ready_left c.args.state.now _ c.args.grant.now.file c.in-Some.file.now c.add_grant.new.file c.requires.ready
    (sym c.in-Some.ensures.value)
    c.add_grant.ensures.leaves (c.get_mut.follows.holds c.add_grant.new.file).0

pub returns-in_ok-add_grant-in-Some-clause-applied : goal.returns-in_ok-add_grant-in-Some-clause-applied
returns-in_ok-add_grant-in-Some-clause-applied c =
    grant_made c.args.state.now (c.get_mut.follows.lender c.add_grant.new.file) c.args.grant.now c.in-Some.file.now
    c.add_grant.new.file
    c.requires.ready (sym c.in-Some.ensures.value) (sym c.can_grant.ensures ∙ c.if-not-can_grant.false)
    c.in_ok-add_grant-in-Some.ensures.granted (c.get_mut.follows.holds c.add_grant.new.file).0

pub returns-in_ok-add_grant-in-Some-clause-ready : goal.returns-in_ok-add_grant-in-Some-clause-ready
returns-in_ok-add_grant-in-Some-clause-ready c =
    ready_left c.args.state.now _ c.args.grant.now.file c.in-Some.file.now c.add_grant.new.file c.requires.ready
    (sym c.in-Some.ensures.value)
    c.add_grant.ensures.leaves (c.get_mut.follows.holds c.add_grant.new.file).0

pub returns-in-None-clause-applied : goal.returns-in-None-clause-applied
returns-in-None-clause-applied c = (
  absent_granted c.args.state.now c.args.grant.now c.requires.ready (sym c.in-None.ensures.value),
  server_stays c.args.state.now c.get_mut.follows.lender-at-none c.get_mut.follows.holds-at-none,
)
