use Rattle.std.proofs.Common.{refl}
use Rattle.server_state.specs.States.{server_of}
use Rattle.layout_server.proofs.HearLaws.{heard_none}
use Rattle.layout_server.proofs.replies.on_drive_reply.Goals as goal

pub returns-in-None-clause-did : goal.returns-in-None-clause-did
returns-in-None-clause-did g c =
    heard_none (server_of c.args.state.now) c.args.drive c.args.reply.now c.args.state.now.files.entries _ refl
    c.in-None.ensures.none
    (record {
      state = refl;
      sends = rw c.only_sends.ensures c.new.ensures;
      notes = rw c.only_sends.ensures refl;
      mended =
          rw c.only_sends.ensures refl;
    })
