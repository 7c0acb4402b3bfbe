use Rattle.std.proofs.Common.{◌≡◌, ◌++◌, List, ℕ, map}
use Rattle.std.proofs.lemmas.Result.{IfOk-weaker}
use Rattle.scenario_text.specs.Words.{behind}
use Rattle.scenario_text.specs.Parts.{word_of}
use Rattle.scenario_text.specs.LineSpelling.{head_word, tail_parts, line_text, SpellsItsEvent}
use Rattle.scenario_text.proofs.TextLaws.{line_spells, text_is}
use Rattle.scenario_text.proofs.line_writer.write_line.Goals as goal

pub returns-clause-text : goal.returns-clause-text
returns-clause-text c =
    let l = c.args.line.now in
    IfOk-weaker _ (λ (text : List ℕ). text ≡ head_word l ++ behind 32 (map word_of (tail_parts l)))
    (λ (text : List ℕ). text ≡ line_text l)
    (λ text h. text_is l text h) c.line_bytes.ensures

pub returns-clause-spells : goal.returns-clause-spells
returns-clause-spells c =
    let l = c.args.line.now in
    IfOk-weaker _ (λ (text : List ℕ). text ≡ head_word l ++ behind 32 (map word_of (tail_parts l))) (SpellsItsEvent l)
    (λ text h. line_spells l text h) c.line_bytes.ensures
