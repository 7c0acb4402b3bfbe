use Rattle.std.proofs.Common.{◌∙◌, refl}
use Rattle.osd_commands.proofs.Writing.{head-cut}
use Rattle.osd_commands.proofs.seals.check_under.Goals as goal

pub returns : goal.returns
returns c = c.check_value.ensures
    ∙ rw (c.as_slice.ensures, c.check_len-size.ensures, c.head_of.ensures.written, head-cut c.args.c.now) refl
