-- Each message of a client to a drive spells a placed command, at each moment.
use Rattle.std.proofs.Common.{◌≡◌, ℕ, ◌++◌, ◌∷◌, [], List, Some, slice_get, refl, sym, ap, subst, ◌∙◌, inl, inr, append_assoc}
use Rattle.std.proofs.lemmas.List.{append-nil}
use Rattle.osd_lists.proofs.Slices.{found_more}
use Rattle.scenario_text.specs.declared.line.Party.{Party}
use Rattle.scenario_text.specs.declared.line.Party.TheVariants as party
use Rattle.scenario_text.specs.declared.line.Line.{Line}
use Rattle.scenario_text.specs.declared.line.Line.TheVariants as line
use Rattle.world_history.specs.declared.messages.Sent.{Sent}
use Rattle.world_history.specs.Reading.{sent_after, sent_in}
use Rattle.history_law.proofs.Each.{EachBehind}
use Rattle.history_law.proofs.Growing.{Grows, line_grows}
use Rattle.history_law.proofs.Messages.{WasIn, was_itself, arrived_was, event_was}
use Rattle.history_law.proofs.Coming.{sent_behind}
use Rattle.exchange_law.specs.PlaceAnswers.{AnswersFit}
use Rattle.exchange_law.proofs.PlaceLines.{Spells, SpellsAt, fits_before}

-- where what the server sent fits
abbrev pub AllSpell : List Sent → Type 0
AllSpell ss =
    AnswersFit ss → (n : ℕ) (m : Sent) → slice_get ss n ≡ Some m → (c d : ℕ) → m.from ≡ party.Client c
    → m.to ≡ party.Drive d → Spells d m.bytes

-- ---- one line more

old_spells : (ss ts : List Sent) → Grows ss ts → AllSpell ss → AnswersFit ts → (m : Sent) → WasIn ss m → (c d : ℕ)
    → m.from ≡ party.Client c → m.to ≡ party.Drive d → Spells d m.bytes
old_spells ss ts g all fit m w c d from to =
    subst (Spells d) w.bytes_are
    (all (fits_before ss ts g fit) w.number w.old w.there c d (w.from_is ∙ from) (w.to_is ∙ to))

new_spells : (before : List Line) (k : ℕ) (from to : Party) (bytes : List ℕ)
    → SpellsAt before (line.Message k from to bytes) → AnswersFit (sent_in before) → (c d : ℕ) → from ≡ party.Client c
    → to ≡ party.Drive d → Spells d bytes
new_spells before k from to bytes says fit c d who where_to =
    subst (λ (p : Party). SpellsAt before (line.Message k (party.Client c) p bytes)) where_to
    (subst (λ (p : Party). SpellsAt before (line.Message k p to bytes)) who says) fit

line_spells : (before : List Line) (l : Line) → AllSpell (sent_in before) → SpellsAt before l
    → AllSpell (sent_after (sent_in before) l)
line_spells before (line.Message k from to bytes) all here fit n m found c d who where_to =
    let ss = sent_in before in
    let g = line_grows ss (line.Message k from to bytes) in
    elim (found_more ss _ n m found) [
      | inl old ↦ old_spells ss _ g all fit m (was_itself ss n m old) c d who where_to
      | inr same ↦ subst (λ (x : Sent). Spells d x.bytes) same
          (new_spells before k from to bytes here (fits_before ss _ g fit) c d
          (ap (λ (x : Sent). x.from) same ∙ who) (ap (λ (x : Sent). x.to) same ∙ where_to))
    ]
line_spells before (line.Event e) all here fit n m found c d who where_to =
    old_spells (sent_in before) _ (line_grows (sent_in before) (line.Event e)) all fit m
    (event_was (sent_in before) e n m found) c d who where_to
line_spells before (line.Delivered k del) all here fit n m found c d who where_to =
    old_spells (sent_in before) _ (line_grows (sent_in before) (line.Delivered k del)) all fit m
    (arrived_was (sent_in before) k (slice_get (sent_in before) k) n m refl found) c d who where_to
line_spells before l all here fit n m found c d who where_to = all fit n m found c d who where_to

-- ---- all lines

lines_spell : (before lines : List Line) → AllSpell (sent_in before) → EachBehind SpellsAt before lines
    → AllSpell (sent_in (before ++ lines))
lines_spell before [] all each = subst (λ (h : List Line). AllSpell (sent_in h)) (sym (append-nil before)) all
lines_spell before (l ∷ lines) all each =
    subst (λ (h : List Line). AllSpell (sent_in h)) (append_assoc before (l ∷ []) lines)
    (lines_spell (before ++ l ∷ []) lines
    (subst AllSpell (sym (sent_behind before l)) (line_spells before l all each.0)) each.1)

none_spell : AllSpell (sent_in [])
unfolding sent_in
none_spell fit n m found = absurd (cc found)

pub all_spell : (h : List Line) → EachBehind SpellsAt [] h → AllSpell (sent_in h)
all_spell h each = lines_spell [] h none_spell each
