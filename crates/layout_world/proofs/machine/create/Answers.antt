use Rattle.std.proofs.Common.{◌∙◌, true, false, sym}
use Rattle.layout_world.proofs.Housed.{refused_back}
use Rattle.layout_world.proofs.machine.create.Goals as goal

pub returns-in-Ok-clause-well : goal.returns-in-Ok-clause-well
returns-in-Ok-clause-well g c = λ on. c.in-Ok.ensures.answered.kept (c.requires.well (sym c.is_over.ensures ∙ c.if-is_over.false))

pub returns-in-Err-clause-refused : goal.returns-in-Err-clause-refused
returns-in-Err-clause-refused g c =
    rw (c.if-zoned.true, c.file_err.ensures)
    (refused_back _ c.args.journal.now c.create_zoned.new.self c.args.file c.args.raw c.args.tag true c.in-Err.e
    (c.requires.well (sym c.is_over.ensures ∙ c.if-is_over.false))
    c.in-Err.ensures.refused).0

pub returns-in-Err-clause-well : goal.returns-in-Err-clause-well
returns-in-Err-clause-well g c =
    (refused_back _ c.args.journal.now c.create_zoned.new.self c.args.file c.args.raw c.args.tag true c.in-Err.e
    (c.requires.well (sym c.is_over.ensures ∙ c.if-is_over.false))
    c.in-Err.ensures.refused).1

pub returns-in-Ok-create_file-clause-well : goal.returns-in-Ok-create_file-clause-well
returns-in-Ok-create_file-clause-well g c =
    λ on. c.in-Ok-create_file.ensures.answered.kept (c.requires.well (sym c.is_over.ensures ∙ c.if-is_over.false))

pub returns-in-Err-create_file-clause-refused : goal.returns-in-Err-create_file-clause-refused
returns-in-Err-create_file-clause-refused g c =
    rw (c.if-zoned.false, c.file_err-in-Err-create_file.ensures)
    (refused_back _ c.args.journal.now c.create_file.new.self c.args.file c.args.raw c.args.tag false c.in-Err-create_file.e
    (c.requires.well (sym c.is_over.ensures ∙ c.if-is_over.false))
    c.in-Err-create_file.ensures.refused).0

pub returns-in-Err-create_file-clause-well : goal.returns-in-Err-create_file-clause-well
returns-in-Err-create_file-clause-well g c =
    (refused_back _ c.args.journal.now c.create_file.new.self c.args.file c.args.raw c.args.tag false c.in-Err-create_file.e
    (c.requires.well (sym c.is_over.ensures ∙ c.if-is_over.false))
    c.in-Err-create_file.ensures.refused).1
