use Rattle.std.proofs.Common.{◌∙◌, Err, refl, sym}
use Rattle.layout_world.proofs.Housed.{is_want, well_over}
use Rattle.layout_world.proofs.machine.set_to.Goals as goal

pub want_of-requires : goal.want_of-requires
want_of-requires c = is_want c.in-Err.e (Err c.in-Err.e) refl c.in-Err.ensures.error c.in-Err.ensures.cause

pub returns-in-Ok-clause-well : goal.returns-in-Ok-clause-well
returns-in-Ok-clause-well c = λ on. c.in-Ok.ensures.answered.kept (c.requires.well (sym c.is_over.ensures ∙ c.if-is_over.false))

pub returns-in-Err-clause-well : goal.returns-in-Err-clause-well
returns-in-Err-clause-well c = well_over _ c.set_format.new.self c.in-Err.ensures.over
