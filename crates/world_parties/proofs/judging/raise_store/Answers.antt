use Rattle.std.proofs.Common.{◌∙◌, Err, refl, sym}
use Rattle.drive_store.specs.declared.record.TheConstants.{SECOND_FORMAT}
use Rattle.drive_store.specs.Records.{raised}
use Rattle.drive_store.specs.Stores.{core_of}
use Rattle.world_parties.proofs.Backings.{either_core, own_answered, own_stopped}
use Rattle.world_parties.proofs.Made.{made_raised}
use Rattle.world_parties.proofs.Wants.{is_want}
use Rattle.world_parties.proofs.judging.raise_store.Goals as goal

pub returns-in-Ok-clause-own : goal.returns-in-Ok-clause-own
returns-in-Ok-clause-own c =
    own_answered c.args.made c.args.store.now c.raise_least.new.self (raised (core_of c.args.store.now) SECOND_FORMAT) c.requires
    (made_raised c.args.made (core_of c.args.store.now) SECOND_FORMAT c.requires.made_of) c.in-Ok.ensures.state
    (c.in-Ok.ensures.kept (c.requires.on_disk (sym c.is_over.ensures ∙ c.if-is_over.false)))

pub want_of-requires : goal.want_of-requires
want_of-requires c = is_want c.in-Err.e (Err c.in-Err.e) refl c.in-Err.ensures.error c.in-Err.ensures.cause

pub returns-in-Err-clause-own : goal.returns-in-Err-clause-own
returns-in-Err-clause-own c =
    own_stopped c.args.made c.args.store.now c.raise_least.new.self (raised (core_of c.args.store.now) SECOND_FORMAT) c.requires
    (made_raised c.args.made (core_of c.args.store.now) SECOND_FORMAT c.requires.made_of) c.in-Err.ensures.err

pub returns-in-Err-clause-err : goal.returns-in-Err-clause-err
returns-in-Err-clause-err c =
    either_core c.args.made c.args.store.now c.raise_least.new.self
    (raised (core_of c.args.store.now) SECOND_FORMAT) c.in-Err.ensures.err
