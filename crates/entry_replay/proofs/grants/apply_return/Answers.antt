use Rattle.std.proofs.Common.{refl, sym}
use Rattle.server_state.specs.States.{server_of}
use Rattle.entry_replay.proofs.ChangeLaws.{absent_returned, found_sound, not_returned, ready_left, return_made, server_stays}
use Rattle.entry_replay.proofs.grants.apply_return.Goals as goal

pub returns-in-None-clause-applied : goal.returns-in-None-clause-applied
returns-in-None-clause-applied c = (not_returned (server_of c.args.state.now) c.args.grant (sym c.in-None.ensures), refl)

pub remove_grant-requires : goal.remove_grant-requires
remove_grant-requires c = record {
  sound =
      found_sound c.args.state.now c.in-Some.number c.in-Some-get_mut.file.now c.requires.ready
      (sym c.in-Some-get_mut.ensures.value);
}

pub returns-in_err-remove_grant-in-Some-get_mut-clause-ready : goal.returns-in_err-remove_grant-in-Some-get_mut-clause-ready
returns-in_err-remove_grant-in-Some-get_mut-clause-ready c =
    ready_left c.args.state.now _ c.in-Some.number c.in-Some-get_mut.file.now c.remove_grant.new.file c.requires.ready
    (sym c.in-Some-get_mut.ensures.value)
    c.remove_grant.ensures.leaves (c.get_mut.follows.holds c.remove_grant.new.file).0

pub returns-in_ok-remove_grant-in-Some-get_mut-clause-applied : goal.returns-in_ok-remove_grant-in-Some-get_mut-clause-applied
returns-in_ok-remove_grant-in-Some-get_mut-clause-applied c =
    return_made c.args.state.now (c.get_mut.follows.lender c.remove_grant.new.file) c.args.grant c.in-Some.number
    c.in-Some-get_mut.file.now
    c.remove_grant.new.file c.requires.ready c.get_mut.ensures.ordered (sym c.in-Some.ensures)
    (sym c.in-Some-get_mut.ensures.value)
    c.in_ok-remove_grant-in-Some-get_mut.ensures.returned (c.get_mut.follows.holds c.remove_grant.new.file).0

pub returns-in_ok-remove_grant-in-Some-get_mut-clause-ready : goal.returns-in_ok-remove_grant-in-Some-get_mut-clause-ready
returns-in_ok-remove_grant-in-Some-get_mut-clause-ready c =
    ready_left c.args.state.now _ c.in-Some.number c.in-Some-get_mut.file.now c.remove_grant.new.file c.requires.ready
    (sym c.in-Some-get_mut.ensures.value)
    c.remove_grant.ensures.leaves (c.get_mut.follows.holds c.remove_grant.new.file).0

pub returns-in-None-get_mut-clause-applied : goal.returns-in-None-get_mut-clause-applied
returns-in-None-get_mut-clause-applied c = (
  absent_returned c.args.state.now c.args.grant c.in-Some.number c.requires.ready (sym c.in-Some.ensures)
      (sym c.in-None-get_mut.ensures.value),
  server_stays c.args.state.now c.get_mut.follows.lender-at-none c.get_mut.follows.holds-at-none,
)
