use Rattle.layout_ops.proofs.Whole.{all_read_back}
use Rattle.layout_ops.proofs.envelope.write_envelope.Goals as goal

pub returns-clause-read_back : goal.returns-clause-read_back
returns-clause-read_back c =
    all_read_back c.args.envelope.now c.write_whole.result c.write_whole.ensures.spelled c.write_whole.ensures.fits
