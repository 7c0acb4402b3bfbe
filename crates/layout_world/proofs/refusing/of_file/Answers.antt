use Rattle.std.proofs.Common.{refl, sym}
use Rattle.layout_world.proofs.refusing.of_file.Goals as goal

pub returns-then-has_file-clause-cause : goal.returns-then-has_file-clause-cause
returns-then-has_file-clause-cause c = λ w s. rw (c.has_file.ensures.there w (sym s.server), c.if-has_file.true) refl

pub returns-else-has_file-clause-cause : goal.returns-else-has_file-clause-cause
returns-else-has_file-clause-cause c = λ w s. rw (c.has_file.ensures.there w (sym s.server), c.if-has_file.false) refl
