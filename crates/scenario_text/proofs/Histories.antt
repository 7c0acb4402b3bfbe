-- The text of a history that goes on.
use Rattle.std.proofs.Common.{◌≡◌, ℕ, ◌+◌, ◌<◌, List, ◌∷◌, [], ◌++◌, length, take, map, get_or, refl, append_assoc}
use Rattle.std.proofs.lemmas.List.{append-nil, take_more}
use Rattle.std.proofs.lemmas.Grind.{flat_map-append}
use Rattle.scenario_text.specs.Words.{behind}
use Rattle.scenario_text.specs.Parts.{word_of}
use Rattle.scenario_text.specs.declared.line.Line.{Line}
use Rattle.scenario_text.specs.LineSpelling.{head_word, tail_parts, line_text, lines_text}
use Rattle.scenario_text.proofs.TextLaws.{text_is}

pub lines_text_more : (xs ys : List Line) → lines_text (xs ++ ys) ≡ lines_text xs ++ lines_text ys
lines_text_more xs ys = flat_map-append (λ l. line_text l ++ 10 ∷ []) xs ys

-- one more line is out, and its newline
pub line_out : (initial before written new : List ℕ) (lines : List Line) (i : ℕ) (l : Line) → i < length lines
    → l ≡ get_or lines i l → before ≡ initial ++ lines_text (take i lines)
    → written ≡ before ++ (head_word l ++ behind 32 (map word_of (tail_parts l)))
    → new ≡ written ++ 10 ∷ [] → new ≡ initial ++ lines_text (take (i + 1) lines)
line_out initial before written new lines i l lt is e_before e_written e_new =
    let text = text_is l _ refl in
    let more : lines_text (take (i + 1) lines) ≡ lines_text (take i lines) ++ ((line_text l ++ 10 ∷ []) ++ []) =
    rw (take_more lines i l lt, ← is) (lines_text_more (take i lines) (l ∷ [])) in
    rw (e_new, e_written, e_before, text, more) (simp (append_assoc, append-nil))
