use Rattle.std.proofs.Common.{arith, sym, ◌∙◌}
use Rattle.server_state.proofs.ServingLaws.{not_spent}
use Rattle.server_state.proofs.SoundLaws.{taken_idle}
use Rattle.server_state.proofs.layout_return.give_back.Goals as goal

pub by_row-requires-clause-next : goal.by_row-requires-clause-next
by_row-requires-clause-next c = λ e.
    let n = not_spent c.args.file.now.kept c.args.asking.now.client c.args.report.now (sym c.in_ok-row.ensures ∙ e) in
    omega (arith, n, c.tag_of.ensures.value, c.tag_of.ensures.fits)

pub by_row-requires-clause-idle : goal.by_row-requires-clause-idle
by_row-requires-clause-idle c = λ ks e.
    taken_idle c.args.file.now.kept c.args.file.now.job c.args.asking.now.client c.args.report.now ks c.requires.sound.alone
    (sym c.in_ok-row.ensures ∙ e)
