use Rattle.std.proofs.Common.{◌∙◌}
use Rattle.std.proofs.lemmas.Bool.{false≢true}
use Rattle.scenario_text.proofs.Numbers.{not_plain, no_text, parsed}
use Rattle.scenario_text.proofs.words.decimal.Goals as goal

pub returns-then-not-is_plain : goal.returns-then-not-is_plain
returns-then-not-is_plain c =
    not_plain c.args.word.now (λ plain. false≢true (rw c.if-not-is_plain.true at c.is_plain.ensures.1 plain))

pub returns-in-Ok : goal.returns-in-Ok
returns-in-Ok c =
    let plain = c.is_plain.ensures.0 c.if-not-is_plain.false in
    c.ok.ensures.value
    ∙ parsed c.args.word.now c.parse.result plain (rw c.in-Ok.ensures.cases.0 at c.parse.ensures.value.0)

pub returns-in-Err : goal.returns-in-Err
returns-in-Err c = no_text c.args.word.now c.in-Err.ensures.cases.0
