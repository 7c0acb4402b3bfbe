use Rattle.std.proofs.Common.{sym}
use Rattle.std.proofs.Common.{rules}
use Rattle.server_state.proofs.TableLaws.{entry_found}
use Rattle.layout_server.proofs.HearLaws.{heard_in_table}
use Rattle.layout_server.proofs.replies.hear_in.Goals as goal

pub on_reply-requires-clause-sound : goal.on_reply-requires-clause-sound
on_reply-requires-clause-sound g c =
    (entry_found c.args.files.now.entries c.args.number c.in-Some.file.now c.requires.files (sym c.in-Some.ensures.value)).sound

pub returns-in_ok-on_reply : goal.returns-in_ok-on_reply
returns-in_ok-on_reply g c =
    heard_in_table c.args.loads.now c.args.drive c.args.reply.now c.args.number c.args.files.now.entries _ c.args.effects.now
    c.on_reply.new.effects c.in_ok-on_reply.field-0 c.in-Some.file.now c.on_reply.new.file
    (sym c.in-Some.ensures.value) (search rules) c.in_ok-on_reply.ensures.heard
    (record { number = c.in_ok-on_reply.ensures.keeps.number; sound = c.in_ok-on_reply.ensures.sound })
