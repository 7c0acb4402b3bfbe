use Rattle.std.proofs.Common.{rules, ◌≡◌, true}
use Rattle.world_history.specs.Moves.{begins}
use Rattle.layout_world.specs.Groups.{is_plain}
use Rattle.layout_world.proofs.Acted.{plain_ok}
use Rattle.layout_world.proofs.beginning.begin.Goals as goal

pub returns-in-Deliver : goal.returns-in-Deliver
unfolding begins
returns-in-Deliver g c = rw c.in-Deliver.is c.deliver.ensures.acts

pub returns-in-File : goal.returns-in-File
unfolding begins
returns-in-File g c = rw c.in-File.is c.make_file.ensures

pub returns-in-ZonedFile : goal.returns-in-ZonedFile
unfolding begins
returns-in-ZonedFile g c = rw c.in-ZonedFile.is c.make_file-in-ZonedFile.ensures

pub returns-in-Recall : goal.returns-in-Recall
unfolding begins
returns-in-Recall g c = rw (c.in-Recall.is, ← c.number.ensures.number) c.order.ensures

pub returns-in-Revoke : goal.returns-in-Revoke
unfolding begins
returns-in-Revoke g c = rw (c.in-Revoke.is, ← c.number-in-Revoke.ensures.number) c.order-in-Revoke.ensures

pub returns-in-Rebuild : goal.returns-in-Rebuild
unfolding begins
returns-in-Rebuild g c = rw (c.in-Rebuild.is, ← c.number-in-Rebuild.ensures.number) c.order-in-Rebuild.ensures

pub returns-in-Audit : goal.returns-in-Audit
unfolding begins
returns-in-Audit g c = rw (c.in-Audit.is, ← c.number-in-Audit.ensures.number) c.order-in-Audit.ensures

pub returns-in-Declare : goal.returns-in-Declare
unfolding begins
returns-in-Declare g c = rw (c.in-Declare.is, ← c.number-in-Declare.ensures.number) c.order-in-Declare.ensures

pub returns-in-Crash : goal.returns-in-Crash
returns-in-Crash g c = rw c.in-Crash.is c.crash.ensures

pub returns-in-Reopen : goal.returns-in-Reopen
returns-in-Reopen g c = rw c.in-Reopen.is c.reopen.ensures

pub returns-in_default : goal.returns-in_default
returns-in_default g c =
    let plain : is_plain c.args.event.now ≡ true = search rules in
    plain_ok c.begin_plain.result c.args.event.now c.args.parties.now c.begin_plain.new.parties plain c.begin_plain.ensures
