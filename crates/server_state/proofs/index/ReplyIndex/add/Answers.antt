use Rattle.server_state.proofs.Keys.{added}
use Rattle.server_state.proofs.index.ReplyIndex.add.Goals as goal

pub returns : goal.returns
returns c = added c.self.inside.keys c.insert.new.self c.args.self.now c.args.nonce c.args.drive c.args.file c.self.view_is
    c.in_ok-insert.ensures.updates
