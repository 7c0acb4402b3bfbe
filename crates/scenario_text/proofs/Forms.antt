-- The law of forms: a value that is read is what the words spell, and what is spelled reads back.
use Rattle.std.proofs.Common.{◌≡◌, ℕ, Bool, true, false, List, [], ◌∷◌, ◌++◌, map, Result, Ok, refl, sym, ap, subst, ◌∙◌, append_assoc}
use Rattle.std.specs.Prelude.{◌==◌, ⊤, if◌then◌else◌, Option, Some}
use Rattle.std.specs.List.{list_any}
use Rattle.std.specs.Str.{bytes_eq}
use Rattle.std.proofs.lemmas.List.{append-nil}
use Rattle.std.proofs.lemmas.Slice.Eq.{bytes_eq-Decides}
use Rattle.std.proofs.lemmas.Bool.{or_parts, or_from}
use Rattle.scenario_text.specs.declared.event.EventErr.{EventErr}
use Rattle.scenario_text.specs.declared.hexadecimal.Digits.{Digits}
use Rattle.scenario_text.specs.Parts.{Part, Fixed, word_of, PartFits, AllFit}
use Rattle.scenario_text.specs.Spells.{SpellsPart, SpellAll}
use Rattle.scenario_text.specs.Reading.{first, after, nothing, next_as}
use Rattle.scenario_text.specs.Keywords.{word_in}
use Rattle.scenario_text.specs.Form.{Form, Done, Word, Choose, Then, Unknown, reads, reads_line, pick, chosen, form_or}
use Rattle.scenario_text.proofs.Results.{bind_ok, first_ok, good_same, end_ok}
use Rattle.scenario_text.proofs.Without.{none_any}

abbrev pub is_space : ℕ → Bool
is_space b = b == 32

-- a word is read as what it spells, a spelled word is read back, and none has a space
pub record Law (digits : Digits) {B : Type 0} (of : List ℕ → Result B EventErr) (part : B → Part) : Type 0 where
  pub found : (word : List ℕ) (v : B) → of word ≡ Ok v → PartFits (part v) × SpellsPart (part v) digits word
  pub again : (word : List ℕ) (v : B) → PartFits (part v) → SpellsPart (part v) digits word → of word ≡ Ok v
  pub clear : (v : B) → PartFits (part v) → list_any is_space (word_of (part v)) ≡ false

-- ---- the parts of a form's values

-- Each value of a form has these parts, behind those that were read before. A value that is read first may count the last of
-- those among its own.
abbrev pub Exact : {A : Type 0} → Digits → Form A → (A → List Part) → List Part → Type 0
Exact digits (Done x) parts before = parts x ≡ before
Exact digits (Word {B = B} of next) parts before =
    (part : B → Part) × Law digits of part × ((v : B) → Exact digits (next v) parts (before ++ part v ∷ []))
Exact digits (Choose form) parts before = (word : List ℕ) → Exact digits (form word) parts (before ++ Fixed word ∷ [])
Exact digits (Then {B = B} form next) parts before =
    (each : B → List Part) × (early late : List Part) × (before ≡ early ++ late) × Exact digits form each late
    × ((v : B) → Exact digits (next v) parts (early ++ each v))
Exact digits Unknown parts before = ⊤

-- a value is one of a form's: the words and values that lead to it
abbrev pub Path : {A : Type 0} → Form A → A → Type 0
Path (Done y) x = y ≡ x
Path (Word {B = B} of next) x = (v : B) × Path (next v) x
Path (Choose form) x = (word : List ℕ) × (list_any is_space word ≡ false) × Path (form word) x
Path (Then {B = B} form next) x = (v : B) × Path form v × Path (next v) x
Path Unknown x = ⊥

abbrev pub ExactRows : {A : Type 0} → Digits → List (List ℕ × Form A) → (A → List Part) → List Part → Type 0
ExactRows digits [] parts before = ⊤
ExactRows digits (row ∷ rows) parts before =
    Exact digits row.1 parts (before ++ Fixed row.0 ∷ []) × ExactRows digits rows parts before

picked : {A : Type 0} (digits : Digits) (b : Bool) (word text : List ℕ) (here later : Form A) (parts : A → List Part)
    (before : List Part)
    → (b ≡ true → word ≡ text) → Exact digits here parts (before ++ Fixed text ∷ []) →
    Exact digits later parts (before ++ Fixed word ∷ [])
    → Exact digits (pick b here later) parts (before ++ Fixed word ∷ [])
picked digits true word text here later parts before is h l =
    subst (λ (w : List ℕ). Exact digits here parts (before ++ Fixed w ∷ [])) (sym (is refl)) h
picked digits false word text here later parts before is h l = l

-- the forms of the rows, or else another
pub rows_or : {A : Type 0} (digits : Digits) (rows : List (List ℕ × Form A)) (other : List ℕ → Form A) (parts : A → List Part)
    (before : List Part)
    → ExactRows digits rows parts before → ((word : List ℕ) → Exact digits (other word) parts (before ++ Fixed word ∷ []))
    → (word : List ℕ) → Exact digits (chosen rows other word) parts (before ++ Fixed word ∷ [])
rows_or digits [] other parts before h o word = o word
rows_or digits (row ∷ rows) other parts before h o word =
    picked digits (bytes_eq word row.0) word row.0 row.1 (chosen rows other word) parts before (bytes_eq-Decides word row.0).0 h.0
    (rows_or digits rows other parts before h.1 o word)

pub rows : {A : Type 0} (digits : Digits) (table : List (List ℕ × Form A)) (parts : A → List Part) (before : List Part)
    → ExactRows digits table parts before → (word : List ℕ) →
    Exact digits (chosen table (λ w. Unknown) word) parts (before ++ Fixed word ∷ [])
rows digits table parts before h word = rows_or digits table (λ w. Unknown) parts before h (λ w. tt) word

-- a table of keywords as rows
abbrev pub rows_of : {K A : Type 0} → List (List ℕ × K) → (K → Form A) → List (List ℕ × Form A)
rows_of [] form = []
rows_of (entry ∷ table) form = (entry.0, form entry.1) ∷ rows_of table form

picked_keyword : {K A : Type 0} (digits : Digits) (b : Bool) (word text : List ℕ) (k : K) (rest : Option K) (form : K → Form A)
    (other : Form A)
    (parts : A → List Part) (before : List Part) → (b ≡ true → word ≡ text) →
    Exact digits (form k) parts (before ++ Fixed text ∷ [])
    → Exact digits (form_or form other rest) parts (before ++ Fixed word ∷ [])
    → Exact digits (form_or form other (if b then Some k else rest)) parts (before ++ Fixed word ∷ [])
picked_keyword digits true word text k rest form other parts before is h l =
    subst (λ (w : List ℕ). Exact digits (form k) parts (before ++ Fixed w ∷ [])) (sym (is refl)) h
picked_keyword digits false word text k rest form other parts before is h l = l

-- the forms of keywords, or else another
pub keywords : {K A : Type 0} (digits : Digits) (table : List (List ℕ × K)) (form : K → Form A) (other : List ℕ → Form A)
    (parts : A → List Part)
    (before : List Part) → ExactRows digits (rows_of table form) parts before
    → ((word : List ℕ) → Exact digits (other word) parts (before ++ Fixed word ∷ []))
    → (word : List ℕ) → Exact digits (form_or form (other word) (word_in table word)) parts (before ++ Fixed word ∷ [])
keywords digits [] form other parts before h o word = o word
keywords digits (entry ∷ table) form other parts before h o word =
    picked_keyword digits (bytes_eq word entry.0) word entry.0 entry.1 (word_in table word) form (other word) parts before
    (bytes_eq-Decides word entry.0).0 h.0 (keywords digits table form other parts before h.1 o word)

abbrev pub NoRow : {A : Type 0} → List (List ℕ × Form A) → (List ℕ → Form A) → A → Type 0
NoRow [] other x = ⊤
NoRow (row ∷ table) other x = (Path (other row.0) x → ⊥) × NoRow table other x

past_row : {A : Type 0} (b : Bool) (other : List ℕ → Form A) (text word : List ℕ) (here later : Form A) (x : A) →
    (b ≡ true → word ≡ text)
    → (Path (other text) x → ⊥) → Path (other word) x → Path later x → Path (pick b here later) x
past_row true other text word here later x is none h l = absurd (none (subst (λ (w : List ℕ). Path (other w) x) (is refl) h))
past_row false other text word here later x is none h l = l

-- a form behind rows: the other form has the value, and none of the rows' words
pub past : {A : Type 0} (table : List (List ℕ × Form A)) (other : List ℕ → Form A) (x : A) (word : List ℕ) → NoRow table other x →
    Path (other word) x
    → Path (chosen table other word) x
past [] other x word none h = h
past (row ∷ table) other x word none h =
    past_row (bytes_eq word row.0) other row.0 word row.1 (chosen table other word) x (bytes_eq-Decides word row.0).0 none.0 h
    (past table other x word none.1 h)

-- ---- what is read is spelled

pub record Found {A : Type 0} (digits : Digits) (parts : A → List Part) (before : List Part) (words left : List (List ℕ))
    (x : A) : Type 0 where
  pub back : List Part
  pub front : List (List ℕ)
  pub is : parts x ≡ before ++ back
  pub are : words ≡ front ++ left
  pub fit : AllFit back
  pub spell : SpellAll digits back front

abbrev pair : {A : Type 0} → A → List (List ℕ) → Result (A × List (List ℕ)) EventErr
pair x words = Ok (x, words)

abbrev both : {A : Type 0} → A → List (List ℕ) → A × List (List ℕ)
both x words = (x, words)

same_pair : {A : Type 0} (x y : A) (words left : List (List ℕ)) → pair x words ≡ pair y left → (x ≡ y) × (words ≡ left)
same_pair {A} x y words left h =
    let e : both x words ≡ both y left = cc h in
    (ap (λ (z : A × List (List ℕ)). z.0) e, ap (λ (z : A × List (List ℕ)). z.1) e)

one_more : (before back : List Part) (p : Part) → (before ++ p ∷ []) ++ back ≡ before ++ p ∷ back
one_more before back p = append_assoc before (p ∷ []) back

-- the parts before a value and its own, where it counts the last of those before among its own
joined : (early late before back each : List Part) → before ≡ early ++ late → each ≡ late ++ back → early ++ each ≡ before ++ back
joined early late before back each b e = rw (b, e) (sym (append_assoc early late back))

fit_append : (ps qs : List Part) → AllFit ps → AllFit qs → AllFit (ps ++ qs)
fit_append [] qs h k = k
fit_append (p ∷ ps) qs h k = (h.0, fit_append ps qs h.1 k)

spell_append : (digits : Digits) (ps qs : List Part) (us vs : List (List ℕ)) → SpellAll digits ps us → SpellAll digits qs vs
    → SpellAll digits (ps ++ qs) (us ++ vs)
spell_append digits [] qs [] vs h k = k
spell_append digits [] qs (u ∷ us) vs h k = absurd h
spell_append digits (p ∷ ps) qs [] vs h k = absurd h
spell_append digits (p ∷ ps) qs (u ∷ us) vs h k = (h.0, spell_append digits ps qs us vs h.1 k)

found_then : {A : Type 0} (digits : Digits) (parts : A → List Part) (before each : List Part)
    (words front middle left : List (List ℕ)) (x : A)
    → words ≡ front ++ middle → AllFit each → SpellAll digits each front → Found digits parts (before ++ each) middle left x
    → Found digits parts before words left x
found_then digits parts before each words front middle left x are fit spell f = record {
  back = each ++ f.back;
  front = front ++ f.front;
  is = f.is ∙ append_assoc before each f.back;
  are = are ∙ ap (λ (w : List (List ℕ)). front ++ w) f.are ∙ sym (append_assoc front f.front left);
  fit = fit_append each f.back fit f.fit;
  spell = spell_append digits each f.back front f.front spell f.spell;
}

found_done : {A : Type 0} (digits : Digits) (parts : A → List Part) (before : List Part) (words left : List (List ℕ)) (y x : A)
    → parts y ≡ before → (y ≡ x) × (words ≡ left) → Found digits parts before words left x
found_done digits parts before words left y x h e = record {
  back = [];
  front = [];
  is = ap parts (sym e.0) ∙ h ∙ sym (append-nil before);
  are = e.1;
  fit = tt;
  spell = tt;
}

pub found : {A : Type 0} (digits : Digits) (form : Form A) (parts : A → List Part) (before : List Part) →
    Exact digits form parts before
    → (words left : List (List ℕ)) (x : A) → reads form words ≡ Ok (x, left) → Found digits parts before words left x
found digits (Done y) parts before h words left x r = found_done digits parts before words left y x h (same_pair y x words left r)
found digits (Word of next) parts before h words left x r =
    let a = bind_ok (next_as of words) _ (x, left) r in
    let w = bind_ok (first words) of a.0 a.1 in
    let law = h.1.found w.0 a.0 w.2 in
    found_then digits parts before (h.0 a.0 ∷ []) words (w.0 ∷ []) (after words) left x (first_ok words w.0 w.1) (law.0, tt)
    (law.1, tt)
    (found digits (next a.0) parts (before ++ h.0 a.0 ∷ []) (h.2 a.0) (after words) left x a.2)
found digits (Choose form) parts before h words left x r =
    let a = bind_ok (first words) _ (x, left) r in
    found_then digits parts before (Fixed a.0 ∷ []) words (a.0 ∷ []) (after words) left x (first_ok words a.0 a.1) (tt, tt)
    (refl, tt)
    (found digits (form a.0) parts (before ++ Fixed a.0 ∷ []) (h a.0) (after words) left x a.2)
found digits (Then form next) parts before h words left x r =
    let a = bind_ok (reads form words) _ (x, left) r in
    let f = found digits form h.0 h.2 h.4 words a.0.1 a.0.0 a.1 in
    let g = found digits (next a.0.0) parts (h.1 ++ h.0 a.0.0) (h.5 a.0.0) a.0.1 left x a.2 in
    found_then digits parts before f.back words f.front a.0.1 left x f.are f.fit f.spell
    (subst (λ (ps : List Part). Found digits parts ps a.0.1 left x) (joined h.1 h.2 before f.back (h.0 a.0.0) h.3 f.is) g)
found digits Unknown parts before h words left x r = cc r

-- ---- what is spelled reads back

pub record Again {A : Type 0} (digits : Digits) (form : Form A) (parts : A → List Part) (before : List Part)
    (x : A) : Type 0 where
  pub back : List Part
  pub is : parts x ≡ before ++ back
  pub read : (words left : List (List ℕ)) → AllFit back → SpellAll digits back words → reads form (words ++ left) ≡ Ok (x, left)
  pub clear : AllFit back → none_any is_space (map word_of back) ≡ false

-- words that say some parts and then others
record Split (digits : Digits) (ps qs : List Part) (words : List (List ℕ)) : Type 0 where
  us : List (List ℕ)
  vs : List (List ℕ)
  are : words ≡ us ++ vs
  first : SpellAll digits ps us
  second : SpellAll digits qs vs

split : (digits : Digits) (ps qs : List Part) (words : List (List ℕ)) → SpellAll digits (ps ++ qs) words →
    Split digits ps qs words
split digits [] qs words h = record { us = []; vs = words; are = refl; first = tt; second = h }
split digits (p ∷ ps) qs [] h = absurd h
split digits (p ∷ ps) qs (w ∷ words) h =
    let s = split digits ps qs words h.1 in
    record { us = w ∷ s.us; vs = s.vs; are = ap (λ (x : List (List ℕ)). w ∷ x) s.are; first = (h.0, s.first); second = s.second }

split_fit : (ps qs : List Part) → AllFit (ps ++ qs) → AllFit ps × AllFit qs
split_fit [] qs h = (tt, h)
split_fit (p ∷ ps) qs h = let s = split_fit ps qs h.1 in ((h.0, s.0), s.1)

clear_append : (ps qs : List Part) → none_any is_space (map word_of ps) ≡ false → none_any is_space (map word_of qs) ≡ false
    → none_any is_space (map word_of (ps ++ qs)) ≡ false
clear_append [] qs h k = k
clear_append (p ∷ ps) qs h k =
    let t = or_parts (list_any is_space (word_of p)) (none_any is_space (map word_of ps)) h in
    or_from _ _ t.0 (clear_append ps qs t.1 k)

done_read : {A : Type 0} (digits : Digits) (y x : A) (words left : List (List ℕ)) → y ≡ x → SpellAll digits [] words
    → reads (Done y) (words ++ left) ≡ Ok (x, left)
done_read digits y x [] left e h = ap (λ z. pair z left) e
done_read digits y x (w ∷ words) left e h = absurd h

word_read : {A B : Type 0} (digits : Digits) (of : List ℕ → Result B EventErr) (next : B → Form A) (part : B → Part)
    (law : Law digits of part) (v : B)
    (ps : List Part) (x : A) (words left : List (List ℕ)) → PartFits (part v) → SpellAll digits (part v ∷ ps) words
    → ((ws : List (List ℕ)) → SpellAll digits ps ws → reads (next v) (ws ++ left) ≡ Ok (x, left))
    → reads (Word of next) (words ++ left) ≡ Ok (x, left)
word_read digits of next part law v ps x [] left fit h more = absurd h
word_read digits of next part law v ps x (w ∷ words) left fit h more =
    let e : of w ≡ Ok v = law.again w v fit h.0 in
    rw e (more words h.1)

choose_read : {A : Type 0} (digits : Digits) (form : List ℕ → Form A) (word : List ℕ)
    (ps : List Part) (x : A) (words left : List (List ℕ)) → SpellAll digits (Fixed word ∷ ps) words
    → ((ws : List (List ℕ)) → SpellAll digits ps ws → reads (form word) (ws ++ left) ≡ Ok (x, left))
    → reads (Choose form) (words ++ left) ≡ Ok (x, left)
choose_read digits form word ps x [] left h more = absurd h
choose_read digits form word ps x (w ∷ words) left h more =
    subst (λ (u : List ℕ). reads (form u) (words ++ left) ≡ Ok (x, left)) (sym h.0) (more words h.1)

then_read : {A B : Type 0} (digits : Digits) (form : Form B) (next : B → Form A) (v : B) (x : A) (ps qs : List Part)
    (words left : List (List ℕ))
    (s : Split digits ps qs words) → reads form (s.us ++ (s.vs ++ left)) ≡ Ok (v, s.vs ++ left) →
    reads (next v) (s.vs ++ left) ≡ Ok (x, left)
    → reads (Then form next) (words ++ left) ≡ Ok (x, left)
then_read digits form next v x ps qs words left s e more = rw (s.are, append_assoc s.us s.vs left, e) more

pub again : {A : Type 0} (digits : Digits) (form : Form A) (parts : A → List Part) (before : List Part) →
    Exact digits form parts before
    → (x : A) → Path form x → Again digits form parts before x
again digits (Done y) parts before h x p = record {
  back = [];
  is = ap parts (sym p) ∙ h ∙ sym (append-nil before);
  read = λ words left fit spell. done_read digits y x words left p spell;
  clear = λ fit. refl;
}
again digits (Word of next) parts before h x p =
    let a = again digits (next p.0) parts (before ++ h.0 p.0 ∷ []) (h.2 p.0) x p.1 in
    record {
      back = h.0 p.0 ∷ a.back;
      is = a.is ∙ one_more before a.back (h.0 p.0);
      read = λ words left fit spell. word_read digits of next h.0 h.1 p.0 a.back x words left fit.0 spell
          (λ ws s. a.read ws left fit.1 s);
      clear = λ fit. or_from _ _ (h.1.clear p.0 fit.0) (a.clear fit.1);
    }
again digits (Choose form) parts before h x p =
    let a = again digits (form p.0) parts (before ++ Fixed p.0 ∷ []) (h p.0) x p.2 in
    record {
      back = Fixed p.0 ∷ a.back;
      is = a.is ∙ one_more before a.back (Fixed p.0);
      read = λ words left fit spell. choose_read digits form p.0 a.back x words left spell (λ ws s. a.read ws left fit.1 s);
      clear = λ fit. or_from _ _ p.1 (a.clear fit.1);
    }
again digits (Then form next) parts before h x p =
    let a = again digits form h.0 h.2 h.4 p.0 p.1 in
    let b = again digits (next p.0) parts (h.1 ++ h.0 p.0) (h.5 p.0) x p.2 in
    record {
      back = a.back ++ b.back;
      is = b.is ∙ ap (λ (q : List Part). q ++ b.back) (joined h.1 h.2 before a.back (h.0 p.0) h.3 a.is)
          ∙ append_assoc before a.back b.back;
      read = λ words left fit spell.
          let s = split digits a.back b.back words spell in
          let f = split_fit a.back b.back fit in
          then_read digits form next p.0 x a.back b.back words left s (a.read s.us (s.vs ++ left) f.0 s.first)
          (b.read s.vs left f.1 s.second);
      clear = λ fit. let f = split_fit a.back b.back fit in clear_append a.back b.back (a.clear f.0) (b.clear f.1);
    }
again digits Unknown parts before h x p = absurd p

-- ---- whole lines

pub line_found : {A : Type 0} (digits : Digits) (form : Form A) (parts : A → List Part) → Exact digits form parts []
    → (words : List (List ℕ)) (x : A) → reads_line form words ≡ Ok x → AllFit (parts x) × SpellAll digits (parts x) words
line_found digits form parts h words x r =
    let a = bind_ok (reads form words) _ x r in
    let b = bind_ok (nothing a.0.1) _ x a.2 in
    let same = good_same a.0.0 x b.2 in
    let f = found digits form parts [] h words a.0.1 a.0.0 a.1 in
    let whole : words ≡ f.front = f.are ∙ ap (λ (l : List (List ℕ)). f.front ++ l) (end_ok a.0.1 b.0 b.1) ∙ append-nil f.front in
    let is : parts x ≡ f.back = ap parts (sym same) ∙ f.is in (
      subst AllFit (sym is) f.fit,
      subst (λ (ps : List Part). SpellAll digits ps words) (sym is)
          (subst (λ (ws : List (List ℕ)). SpellAll digits f.back ws) (sym whole) f.spell),
    )

pub line_again : {A : Type 0} (digits : Digits) (form : Form A) (parts : A → List Part) → Exact digits form parts []
    → (words : List (List ℕ)) (x : A) → Path form x → AllFit (parts x) → SpellAll digits (parts x) words →
    reads_line form words ≡ Ok x
line_again digits form parts h words x p fit spell =
    let a = again digits form parts [] h x p in
    let r = a.read words [] (subst AllFit a.is fit) (subst (λ (ps : List Part). SpellAll digits ps words) a.is spell) in
    let e : reads form words ≡ Ok (x, []) = subst (λ (ws : List (List ℕ)). reads form ws ≡ pair x []) (append-nil words) r in
    rw e refl

pub line_clear : {A : Type 0} (digits : Digits) (form : Form A) (parts : A → List Part) → Exact digits form parts []
    → (x : A) → Path form x → AllFit (parts x) → none_any is_space (map word_of (parts x)) ≡ false
line_clear digits form parts h x p fit =
    let a = again digits form parts [] h x p in
    ap (λ (ps : List Part). none_any is_space (map word_of ps)) a.is ∙ a.clear (subst AllFit a.is fit)

-- a line whose first word chooses has a word
pub first_part : {A : Type 0} (digits : Digits) (form : List ℕ → Form A) (parts : A → List Part) →
    Exact digits (Choose form) parts []
    → (x : A) → Path (Choose form) x → (p : Part) × (ps : List Part) × (parts x ≡ p ∷ ps)
first_part digits form parts h x p =
    let a = again digits (form p.0) parts ([] ++ Fixed p.0 ∷ []) (h p.0) x p.2 in
    (Fixed p.0, a.back, a.is)
