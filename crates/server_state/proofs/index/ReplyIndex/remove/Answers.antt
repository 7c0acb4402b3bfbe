use Rattle.server_state.proofs.Keys.{removed}
use Rattle.server_state.proofs.index.ReplyIndex.remove.Goals as goal

pub returns : goal.returns
returns c = removed c.self.inside.keys c.remove.new.self c.args.self.now c.args.nonce c.args.drive c.args.file c.self.view_is
    c.remove.ensures.updates
