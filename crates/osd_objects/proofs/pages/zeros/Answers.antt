use Rattle.std.proofs.Common.{◌∙◌, ap, ◌-◌, length, replicate, ◌++◌}
use Rattle.osd_objects.proofs.pages.zeros.Goals as goal

pub returns : goal.returns
returns c = c.in_ok-grow.ensures.ok ∙ ap (λ e. e ++ replicate (4096 - length e) 0) c.new-page.ensures
