use Rattle.std.proofs.Common.{◌≡◌, subst}
use Rattle.osd_commands.specs.Commands as commands
use Rattle.world_history.specs.declared.messages.Sent.{Sent}
use Rattle.world_parties.specs.Drives.{heard, Hears}
use Rattle.layout_world.proofs.Delivered.{same_message, drive_handed}
use Rattle.layout_world.proofs.delivering.hand_drive.Goals as goal

pub returns-clause-handed : goal.returns-clause-handed
returns-clause-handed c = λ s f t.
    let p = c.args.parties.now in
    let same : c.message-sent.result.now ≡ s =
    same_message p c.args.number c.message-sent.result.now s c.message-sent.ensures f in
    drive_handed c.drives_are_the_worlds.ensures.hear p c.hear.new.self s c.args.drive c.in_ok-handed.handed t
    (subst (λ (x : Sent). Hears (heard p.drives c.args.drive x.from (commands.reading x.bytes)) c.hear.new.self
    c.in_ok-handed.handed) same (rw c.as_slice.ensures at c.in_ok-handed.ensures))
