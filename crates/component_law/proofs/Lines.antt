-- The lines of notes, and what they tell of the components of a file.
use Rattle.std.proofs.Common.{◌≡◌, ℕ, ◌<◌, ◌==◌, ◌||◌, ◌&&◌, ◌++◌, ◌∷◌, [], List, Bool, true, false, refl, sym, ap, ◌∙◌, eq-eqb, ne_eqb}
use Rattle.std.specs.List.{filter_map, list_any}
use Rattle.std.proofs.lemmas.Bool.{lt-ltb, or_parts}
use Rattle.std.proofs.lemmas.List.Sums.{fold-append}
use Rattle.std.proofs.lemmas.List.Folds.{list_any-append}
use Rattle.std.proofs.lemmas.List.Elements.{filter_map-append}
use Rattle.scenario_text.specs.declared.names.TheConstants.{FILES}
use Rattle.scenario_text.specs.declared.line.Line.{Line}
use Rattle.world_history.specs.ServerNames.{Component, Note, NoteKind, Rebuilt}
use Rattle.world_history.specs.Names.{is_tellable_note, note_line, known_note_line}
use Rattle.world_history.specs.Told.{told_note}
use Rattle.world_history.specs.Calm.{noted}
use Rattle.component_law.specs.Components.{told_by, told_in, tells_rebuilt}
use Rattle.component_law.proofs.FileNotes.{AreTellable, noted_with, behind, is_rebuilt, any_rebuilt}

-- the lines of notes
abbrev pub lines_of : List Note → List Line
lines_of ns = filter_map known_note_line ns

-- a note that lines can tell is a line
pub one_line : (n : ℕ) (k : NoteKind) → n < FILES → is_tellable_note k ≡ true
    → lines_of (record { file = n; kind = k } ∷ []) ≡ note_line (record { file = n; kind = k }) ∷ []
one_line n k named known = rw (lt-ltb n FILES named, known) refl

pub line_more : (before : List Note) (n : ℕ) (k : NoteKind) (ks : List NoteKind) → n < FILES → is_tellable_note k ≡ true
    → lines_of (noted_with before n (k ∷ ks)) ≡ lines_of (noted_with before n ks) ++ note_line
    (record { file = n; kind = k }) ∷ []
line_more before n k ks named known =
    filter_map-append known_note_line (noted_with before n ks) (record { file = n; kind = k } ∷ [])
    ∙ ap (λ (ls : List Line). lines_of (noted_with before n ks) ++ ls) (one_line n k named known)

-- ---- those of a file tell what becomes of its components

pub told_here : (before : List Note) (n : ℕ) (ks : List NoteKind) (cs : List Component) → n < FILES → AreTellable ks
    → told_in n cs (lines_of (noted_with before n ks)) ≡ behind (told_in n cs (lines_of before)) ks
told_here before n [] cs named known = refl
told_here before n (k ∷ ks) cs named known =
    ap (λ (ls : List Line). told_in n cs ls) (line_more before n k ks named known.0)
    ∙ fold-append (told_by n) cs (lines_of (noted_with before n ks)) (note_line (record { file = n; kind = k }) ∷ [])
    ∙ rw (eq-eqb n n refl) (ap (λ (x : List Component). noted x (told_note k)) (told_here before n ks cs named known.1))

-- those of another tell nothing of it
pub told_beside : (before : List Note) (m n : ℕ) (ks : List NoteKind) (cs : List Component) → (m ≡ n → ⊥) → m < FILES
    → AreTellable ks → told_in n cs (lines_of (noted_with before m ks)) ≡ told_in n cs (lines_of before)
told_beside before m n [] cs other named known = refl
told_beside before m n (k ∷ ks) cs other named known =
    ap (λ (ls : List Line). told_in n cs ls) (line_more before m k ks named known.0)
    ∙ fold-append (told_by n) cs (lines_of (noted_with before m ks)) (note_line (record { file = m; kind = k }) ∷ [])
    ∙ rw (ne_eqb m n other) (told_beside before m n ks cs other named known.1)

-- ---- which of them tell of components that were rebuilt

rebuilt_line : (n m : ℕ) (k : NoteKind) → tells_rebuilt n (note_line (record { file = m; kind = k })) ≡ (is_rebuilt k && (m == n))
rebuilt_line n m (Rebuilt c d) = refl
rebuilt_line n m k = refl

rebuilt_more : (before : List Note) (n m : ℕ) (k : NoteKind) (ks : List NoteKind) → m < FILES → is_tellable_note k ≡ true
    → list_any (tells_rebuilt n) (lines_of (noted_with before m (k ∷ ks)))
    ≡ (list_any (tells_rebuilt n) (lines_of (noted_with before m ks)) || (is_rebuilt k && (m == n)))
rebuilt_more before n m k ks named known =
    ap (λ (ls : List Line). list_any (tells_rebuilt n) ls) (line_more before m k ks named known)
    ∙ list_any-append (tells_rebuilt n) (lines_of (noted_with before m ks)) (note_line (record { file = m; kind = k }) ∷ [])
    ∙ ap (λ (b : Bool). list_any (tells_rebuilt n) (lines_of (noted_with before m ks)) || b)
    (or_false (tells_rebuilt n (note_line (record { file = m; kind = k }))) ∙ rebuilt_line n m k)
  where
    or_false : (b : Bool) → (b || false) ≡ b
    or_false true = refl
    or_false false = refl

-- where none of the lines does, none of the notes on the file does
pub whole_here : (before : List Note) (n : ℕ) (ks : List NoteKind) → n < FILES → AreTellable ks
    → list_any (tells_rebuilt n) (lines_of (noted_with before n ks)) ≡ false
    → (any_rebuilt ks ≡ false) × (list_any (tells_rebuilt n) (lines_of before) ≡ false)
whole_here before n [] named known e = (refl, e)
whole_here before n (k ∷ ks) named known e =
    let p : (list_any (tells_rebuilt n) (lines_of (noted_with before n ks)) ≡ false) × ((is_rebuilt k && (n == n)) ≡ false) =
    or_parts _ _ (sym (rebuilt_more before n n k ks named known.0) ∙ e) in
    let r : (any_rebuilt ks ≡ false) × (list_any (tells_rebuilt n) (lines_of before) ≡ false) =
    whole_here before n ks named known.1 p.0 in
    (rw (and_true (is_rebuilt k) (n == n) (eq-eqb n n refl) p.1) r.0, r.1)
  where
    and_true : (a b : Bool) → b ≡ true → (a && b) ≡ false → a ≡ false
    and_true true b t q = absurd (cc (sym t ∙ q))
    and_true false b t q = refl

pub whole_beside : (before : List Note) (m n : ℕ) (ks : List NoteKind) → (m ≡ n → ⊥) → m < FILES → AreTellable ks
    → list_any (tells_rebuilt n) (lines_of (noted_with before m ks)) ≡ false
    → list_any (tells_rebuilt n) (lines_of before) ≡ false
whole_beside before m n [] other named known e = e
whole_beside before m n (k ∷ ks) other named known e =
    whole_beside before m n ks other named known.1
    (or_parts _ _ (sym (rebuilt_more before n m k ks named known.0) ∙ e)).0
