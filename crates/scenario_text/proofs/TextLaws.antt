-- The texts of events and of lines have the words that they were made of.
use Rattle.std.proofs.Common.{◌≡◌, ℕ, false, List, [], ◌∷◌, ◌++◌, map, inl, inr, Result, Ok, Err, codes, refl, sym, ap, subst, ◌∙◌}
use Rattle.std.specs.Prelude.{IfOk, IfErr}
use Rattle.std.proofs.lemmas.List.Splits.{join_with_byte-slice_split}
use Rattle.hex.proofs.HexLemmas.{decode_of-encode_lower, decode_sized-encode_lower}
use Rattle.scenario_text.specs.declared.event.Event.{Event}
use Rattle.scenario_text.specs.declared.event.EventErr.{EventErr}
use Rattle.scenario_text.specs.declared.event.EventErr.TheVariants.{Memory}
use Rattle.scenario_text.specs.declared.line.Line.{Line}
use Rattle.scenario_text.specs.declared.line.Line.TheVariants as line
use Rattle.scenario_text.specs.declared.hexadecimal.Digits.TheVariants.{Either, Lower}
use Rattle.scenario_text.specs.Words.{words_of, spaced, behind}
use Rattle.scenario_text.specs.Parts.{Part, Fixed, Number, Name, Key, Hex, Positions, word_of, PartFits, AllFit}
use Rattle.scenario_text.specs.Spells.{SpellsPart, SpellAll}
use Rattle.scenario_text.specs.Spelling.{event_parts, Fits, Spells, event_text}
use Rattle.scenario_text.specs.LineSpelling.{head_word, tail_parts, line_parts, LineFits, line_text, EchoesEvent, SpellsItsEvent}
use Rattle.scenario_text.specs.Reading.{GivesOrMemory}
use Rattle.scenario_text.specs.Form.{reads_line}
use Rattle.scenario_text.specs.EventForms.{event_by, event_form}
use Rattle.scenario_text.specs.LineForms.{line_form}
use Rattle.scenario_text.specs.LineRefusals.{GivesLine, IsLineRefusal}
use Rattle.scenario_text.proofs.Without.{none_any, split_joined}
use Rattle.scenario_text.proofs.Behind.{joined_is}
use Rattle.scenario_text.proofs.Forms.{is_space, line_found, line_again, line_clear, first_part}
use Rattle.scenario_text.proofs.EventLaws.{event_exact, event_path}
use Rattle.scenario_text.proofs.LineLaws.{line_exact, line_path}
use Rattle.scenario_text.proofs.ReadLaws.{ok_is_read, err_is_memory}

-- ---- words with lower-case digits

either_says : (p : Part) → PartFits p → SpellsPart p Either (word_of p)
either_says (Fixed word) fit = refl
either_says (Number least most n) fit = refl
either_says (Name letter count n) fit = refl
either_says (Key key) fit = decode_sized-encode_lower key 20 fit.0 fit.1
either_says (Hex []) fit = refl
either_says (Hex (b ∷ bytes)) fit = decode_of-encode_lower (b ∷ bytes) fit
either_says (Positions ps) fit = refl

either_all : (ps : List Part) → AllFit ps → SpellAll Either ps (map word_of ps)
either_all [] fit = tt
either_all (p ∷ ps) fit = (either_says p fit.0, either_all ps fit.1)

lower_says : (p : Part) → SpellsPart p Lower (word_of p)
lower_says (Fixed word) = refl
lower_says (Number least most n) = refl
lower_says (Name letter count n) = refl
lower_says (Key key) = refl
lower_says (Hex bytes) = refl
lower_says (Positions ps) = refl

lower_all : (ps : List Part) → SpellAll Lower ps (map word_of ps)
lower_all [] = tt
lower_all (p ∷ ps) = (lower_says p, lower_all ps)

lower_is : (p : Part) (word : List ℕ) → SpellsPart p Lower word → word ≡ word_of p
lower_is (Fixed w) word h = h
lower_is (Number least most n) word h = h
lower_is (Name letter count n) word h = h
lower_is (Key key) word h = h
lower_is (Hex bytes) word h = h
lower_is (Positions ps) word h = h

lower_are : (ps : List Part) (words : List (List ℕ)) → SpellAll Lower ps words → words ≡ map word_of ps
lower_are [] [] h = refl
lower_are [] (word ∷ words) h = absurd h
lower_are (p ∷ ps) [] h = absurd h
lower_are (p ∷ ps) (word ∷ words) h = cc (lower_is p word h.0, lower_are ps words h.1)

-- ---- the text of an event

joined_again : (ps : List Part) (p : Part) (qs : List Part) → ps ≡ p ∷ qs → none_any is_space (map word_of ps) ≡ false
    → words_of (spaced (map word_of ps)) ≡ map word_of ps
joined_again ps p qs is clear =
    let c : none_any is_space (map word_of (p ∷ qs)) ≡ false =
    subst (λ (rs : List Part). none_any is_space (map word_of rs) ≡ false) is clear in
    subst (λ (rs : List Part). words_of (spaced (map word_of rs)) ≡ map word_of rs) (sym is)
    (split_joined 32 (word_of p) (map word_of qs) c)

-- the spelling with lower-case digits is a spelling
pub event_text_spells : (e : Event) → Fits e → Spells e (event_text e)
event_text_spells e fits =
    let f = first_part Either (event_by Either) event_parts (event_exact Either) e (event_path Either e) in
    let clear = line_clear Either (event_form Either) event_parts (event_exact Either) e (event_path Either e) fits in
    subst (λ (ws : List (List ℕ)). SpellAll Either (event_parts e) ws) (sym (joined_again (event_parts e) f.0 f.1 f.2 clear))
    (either_all (event_parts e) fits)

echoed : (ps : List Part) (p : Part) (qs : List Part) → ps ≡ p ∷ qs
    → codes "=" ++ behind 32 (map word_of ps) ≡ codes "= " ++ spaced (map word_of ps)
echoed ps p qs is =
    subst (λ (rs : List Part). codes "=" ++ behind 32 (map word_of rs) ≡ codes "= " ++ spaced (map word_of rs)) (sym is)
    (ap (λ (x : List ℕ). codes "= " ++ x) (sym (joined_is 32 (word_of p) (map word_of qs))))

event_echoes : (e : Event) (text : List ℕ) → text ≡ codes "=" ++ behind 32 (map word_of (event_parts e)) → EchoesEvent e text
event_echoes e text h = λ fits.
    let f = first_part Either (event_by Either) event_parts (event_exact Either) e (event_path Either e) in
    (event_text e, h ∙ echoed (event_parts e) f.0 f.1 f.2, event_text_spells e fits)

-- ---- the text of a line

pub text_is : (l : Line) (text : List ℕ) → text ≡ head_word l ++ behind 32 (map word_of (tail_parts l)) → text ≡ line_text l
text_is l text h = h ∙ sym (joined_is 32 (head_word l) (map word_of (tail_parts l)))

pub line_spells : (l : Line) (text : List ℕ) → text ≡ head_word l ++ behind 32 (map word_of (tail_parts l)) →
    SpellsItsEvent l text
line_spells (line.Event e) text h = event_echoes e text h
line_spells l text h = tt

text_found : (text : List ℕ) (l : Line) → reads_line line_form (words_of text) ≡ Ok l → LineFits l × (text ≡ line_text l)
text_found text l h =
    let f = line_found Lower line_form line_parts line_exact (words_of text) l h in
    (f.0, sym (join_with_byte-slice_split 32 text) ∙ ap spaced (lower_are (line_parts l) (words_of text) f.1))

text_again : (text : List ℕ) (l : Line) → LineFits l → text ≡ line_text l → reads_line line_form (words_of text) ≡ Ok l
text_again text l fits h =
    let clear = line_clear Lower line_form line_parts line_exact l (line_path l) fits in
    let words : words_of text ≡ map word_of (line_parts l) =
    ap words_of h ∙ split_joined 32 (head_word l) (map word_of (tail_parts l)) clear in
    let says = subst (λ (ws : List (List ℕ)). SpellAll Lower (line_parts l) ws) (sym words) (lower_all (line_parts l)) in
    line_again Lower line_form line_parts line_exact (words_of text) l (line_path l) fits says

-- ---- the answers of `read_line`

pub found : (text : List ℕ) (r : Result Line EventErr) → GivesOrMemory (reads_line line_form (words_of text)) r
    → IfOk r (λ l. LineFits l × (text ≡ line_text l))
found text (Ok l) h = text_found text l (ok_is_read _ l h)
found text (Err e) h = tt

only_of : (expected : Result Line EventErr) (r : Result Line EventErr) (l : Line) → GivesOrMemory expected r → expected ≡ Ok l →
    GivesLine l r
only_of expected (Ok x) l h is = let read = ok_is_read expected x h in cc (read, is)
only_of expected (Err w) l h is = subst (λ (v : EventErr). GivesLine l (Err v)) (sym (err_is_memory expected w l h is)) tt

pub only : (text : List ℕ) (r : Result Line EventErr) → GivesOrMemory (reads_line line_form (words_of text)) r → (l : Line) →
    LineFits l → text ≡ line_text l
    → GivesLine l r
only text r h l fits is = only_of (reads_line line_form (words_of text)) r l h (text_again text l fits is)

refusal : (text : List ℕ) (w : EventErr) → reads_line line_form (words_of text) ≡ Err w → IsLineRefusal text w
refusal text Memory h = tt
refusal text w h = h

memory_or : (text : List ℕ) (w : EventErr) → GivesOrMemory (reads_line line_form (words_of text)) (Err w) → IsLineRefusal text w
memory_or text w (inl none) = let is : w ≡ Memory = cc none in subst (λ (v : EventErr). IsLineRefusal text v) (sym is) tt
memory_or text w (inr h) = refusal text w (sym h)

pub refused : (text : List ℕ) (r : Result Line EventErr) → GivesOrMemory (reads_line line_form (words_of text)) r →
    IfErr r (IsLineRefusal text)
refused text (Ok l) h = tt
refused text (Err w) h = memory_or text w h
