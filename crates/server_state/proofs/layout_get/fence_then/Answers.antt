use Rattle.std.proofs.Common.{sym, ◌∙◌}
use Rattle.server_state.proofs.SoundLaws.{not_waiting}
use Rattle.server_state.proofs.layout_get.fence_then.Goals as goal

pub give_or_refuse-requires-clause-idle : goal.give_or_refuse-requires-clause-idle
give_or_refuse-requires-clause-idle c = not_waiting c.args.file.now.job (sym c.waits.ensures ∙ c.in-None.is)
