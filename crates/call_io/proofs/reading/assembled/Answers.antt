use Rattle.std.proofs.Common.{ap, ◌∙◌, List}
use Rattle.stripe_plan.specs.Words.{answered}
use Rattle.call_io.specs.State.{Column}
use Rattle.call_io.proofs.Ends.{answer_told}
use Rattle.call_io.proofs.reading.assembled.Goals as goal

pub returns-in-Ok : goal.returns-in-Ok
returns-in-Ok c =
    answer_told c.args.held.now.map c.args.range c.in_ok-parts.parts c.in_ok-out.out.components c.in-Ok.bytes
    c.in-Ok.ensures.exact
    ∙ ap (λ (g : List Column). answered c.args.held.now.map c.args.range g c.in_ok-out.out.components) c.in_ok-parts.ensures
    ∙ ap (answered c.args.held.now.map c.args.range c.args.got) c.in_ok-out.ensures
