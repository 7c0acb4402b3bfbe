use Rattle.std.proofs.Common.{◌∙◌}
use Rattle.osd_capability.specs.Layout.{spelling}
use Rattle.osd_capability.proofs.LayoutLaws.{length-spelling}
use Rattle.osd_commands.specs.Commands.{fields}
use Rattle.osd_commands.proofs.Writing.{length-fields, put_both}
use Rattle.osd_commands.proofs.commands.head_of.Goals as goal

pub returns-clause-written : goal.returns-clause-written
returns-clause-written c =
    let f = length-fields c.args.c.now in
    let l = length-spelling c.args.c.now.capability in
    c.put_at-2.ensures
    ∙ rw (c.put_at.ensures, c.fields_of.ensures.written, c.to_bytes.ensures.spelled, f, l)
    (put_both (fields c.args.c.now) (spelling c.args.c.now.capability) f l)
