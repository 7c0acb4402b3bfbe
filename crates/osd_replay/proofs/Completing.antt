-- A replay of an input that is accepted comes to its end.
use Rattle.std.proofs.Common.{◌≡◌, ◌≢◌, ◌≤◌, ◌+◌, ◌==◌, ℕ, List, [], ◌∷◌, ◌++◌, length, Option, Some, None, Ok, Err, refl, sym, ap, subst, ◌∙◌, arith, inl, inr}
use Rattle.std.specs.List.{AllByRecursion, slice_split, onto_first}
use Rattle.std.proofs.lemmas.Bool.{cases_eq, ne_eqb, le-ltb}
use Rattle.std.proofs.lemmas.List.{length-append, append_assoc}
use Rattle.osd_bytes.specs.Lines.{lines_of, line_of, rest_of, seen, next_of}
use Rattle.osd_bytes.specs.declared.lines.TheConstants.{MAX_INPUT, MAX_LINE}
use Rattle.osd_bytes.proofs.NextLine.{lines_of-first}
use Rattle.scenario_text.specs.declared.event.Event.{Event}
use Rattle.scenario_text.specs.declared.event.EventErr.{EventErr}
use Rattle.scenario_text.specs.declared.event.EventErr.TheVariants as why
use Rattle.scenario_text.specs.declared.line.Line.{Line}
use Rattle.scenario_text.specs.EventForms.{event_form, event_by, setup_word_of, traffic_word_of, upkeep_word_of}
use Rattle.scenario_text.specs.Form.{reads_line}
use Rattle.scenario_text.specs.Refusals.{IsRefusal}
use Rattle.scenario_text.specs.Spelling.{Fits, Spells, IsSkipped}
use Rattle.scenario_text.specs.Words.{words_of}
use Rattle.scenario_text.proofs.ReadLaws.{event_again}
use Rattle.world_history.specs.State.{World}
use Rattle.world_history.specs.Refusals.{refusal}
use Rattle.world_history.specs.Runs.{FillsUp}
use Rattle.osd_replay.specs.Complete.{IsGood, IsAccepted, Completes}
use Rattle.osd_replay.specs.Ends.{Ends, PassesNext}
use Rattle.osd_replay.specs.LineCarried.{IsRefusedIn}
use Rattle.osd_replay.specs.Replay.{Runs, IsRefused, RefusesNext, CutsNext, Promises}
use Rattle.osd_replay.specs.declared.status.Quantity.{Quantity}
use Rattle.osd_replay.specs.declared.status.Quantity.TheVariants.{Input, Line as LineQuantity, Kept}
use Rattle.osd_replay.specs.declared.status.ScenarioKind.{ScenarioKind}
use Rattle.osd_replay.specs.declared.status.Status.{Status}
use Rattle.osd_replay.specs.declared.status.Status.TheVariants.{Done, BadWords, BadScenario, ReadFault, WriteFault, Memory, Full}

-- ---- limits

-- what stands in the middle
all_at : {A : Type 0} (P : A → Type 0) (xs ys : List A) (y : A) → AllByRecursion P (xs ++ y ∷ ys) → P y
all_at P [] ys y h = h.0
all_at P (x ∷ xs) ys y h = all_at P xs ys y h.1

seen_few : (xs : List ℕ) → seen xs ≤ length xs
unfolding seen
seen_few xs = omega arith

-- where more bytes come, and neither they nor their first line pass a limit, that line is next
next_is : (taken : ℕ) (rest : List ℕ) → length rest ≢ 0 → taken + length rest ≤ MAX_INPUT → length (line_of rest) ≤ MAX_LINE
    → next_of taken rest ≡ Ok (Some (line_of rest))
unfolding next_of
next_is taken rest some short line =
    rw (
      ne_eqb (length rest) 0 some,
      le-ltb MAX_INPUT (taken + seen rest) (omega (arith, short, seen_few rest)),
      le-ltb MAX_LINE (length (line_of rest)) line,
    ) refl

next_none : (taken : ℕ) (rest : List ℕ) → length rest ≡ 0 → next_of taken rest ≡ Ok None
unfolding next_of
next_none taken rest none = rw none refl

-- of an accepted input either nothing is left, or a line
pub data ComesNext (input : List ℕ) (lines : List (List ℕ)) (taken : ℕ) (rest : List ℕ) : Type 0 where
  NoLine : next_of taken rest ≡ Ok None → ComesNext input lines taken rest
  OneLine : next_of taken rest ≡ Ok (Some (line_of rest)) → lines_of input ≡ lines ++ line_of rest ∷ lines_of (rest_of rest)
      → ComesNext input lines taken rest

comes_next : (input : List ℕ) → IsAccepted input → (lines : List (List ℕ)) (front rest : List ℕ) → input ≡ front ++ rest
    → lines_of input ≡ lines ++ lines_of rest → ComesNext input lines (length front) rest
comes_next input ok lines front rest split are = elim (cases_eq (length rest) 0) [
  | inl none ↦ NoLine (next_none (length front) rest none)
  | inr some ↦
      let here : lines_of input ≡ lines ++ line_of rest ∷ lines_of (rest_of rest) =
      are ∙ ap (λ (ls : List (List ℕ)). lines ++ ls) (lines_of-first rest (omega (arith, some))) in
      let long : length input ≡ length front + length rest = ap length split ∙ length-append front rest in
      OneLine (next_is (length front) rest some (omega (arith, ok.short, long))
      (all_at (λ (line : List ℕ). length line ≤ MAX_LINE) lines (lines_of (rest_of rest)) (line_of rest)
      (subst (AllByRecursion (λ (line : List ℕ). length line ≤ MAX_LINE)) here ok.lines_short))) here
]

no_limit : (input : List ℕ) → IsAccepted input → (lines : List (List ℕ)) (quantity : Quantity)
    → PassesNext (Some input) lines quantity → ⊥
no_limit input ok lines quantity (front, rest, split, are, e, limit, next) =
    by (comes_next input ok lines front rest split are)
  where
    by : ComesNext input lines (length front) rest → ⊥
    by (NoLine is) = absurd (cc (sym is ∙ next))
    by (OneLine is here) = absurd (cc (sym is ∙ next))

-- ---- lines that spell events

onto : (parts : List (List ℕ)) → (x : List ℕ) × (words : List (List ℕ)) × (onto_first 35 parts ≡ (35 ∷ x) ∷ words)
onto [] = ([], [], refl)
onto (part ∷ parts) = (part, parts, refl)

-- a line that is skipped spells no event
skips : (line : List ℕ) (e : Event) → IsSkipped line → Fits e → Spells e line → ⊥
unfolding event_by setup_word_of traffic_word_of upkeep_word_of
skips [] e skipped fits spells = absurd (cc (event_again [] e fits spells))
skips (b ∷ rest) e skipped fits spells =
    let first = onto (slice_split (λ b. b == 32) rest) in
    let words : words_of (35 ∷ rest) ≡ (35 ∷ first.0) ∷ first.1 = first.2 in
    let again = event_again (35 ∷ rest) e fits (subst (λ (c : ℕ). Spells e (c ∷ rest)) skipped spells) in
    absurd (cc (rw words at again))

same_event : (line : List ℕ) (e x : Event) → Fits e → Spells e line → Fits x → Spells x line → e ≡ x
same_event line e x fits spells fits' spells' = cc (event_again line e fits spells, event_again line x fits' spells')

-- a line that spells an event isn't refused for its words
reads : (line : List ℕ) (e : Event) (w : EventErr) → Fits e → Spells e line → w ≢ why.Memory → IsRefusal line w → ⊥
reads line e w fits spells other refused = by w other refused
  where
    by : (w : EventErr) → w ≢ why.Memory → IsRefusal line w → ⊥
    by why.Memory o r = o refl
    by why.Missing o r = absurd (cc (sym r.1 ∙ event_again line e fits spells))
    by why.Extra o r = absurd (cc (sym r.1 ∙ event_again line e fits spells))
    by why.UnknownWord o r = absurd (cc (sym r.1 ∙ event_again line e fits spells))
    by why.BadName o r = absurd (cc (sym r.1 ∙ event_again line e fits spells))
    by why.BadNumber o r = absurd (cc (sym r.1 ∙ event_again line e fits spells))
    by why.BadHex o r = absurd (cc (sym r.1 ∙ event_again line e fits spells))

isnt_skipped : (line : List ℕ) (w : EventErr) → IsSkipped line → w ≢ why.Memory → IsRefusal line w → ⊥
isnt_skipped line why.Memory skipped other r = other refl
isnt_skipped line why.Missing skipped other r = r.0 skipped
isnt_skipped line why.Extra skipped other r = r.0 skipped
isnt_skipped line why.UnknownWord skipped other r = r.0 skipped
isnt_skipped line why.BadName skipped other r = r.0 skipped
isnt_skipped line why.BadNumber skipped other r = r.0 skipped
isnt_skipped line why.BadHex skipped other r = r.0 skipped

-- a good line isn't refused
isnt_refused : (w : World) (line : List ℕ) (kind : ScenarioKind) → IsGood w line → IsRefusedIn w kind line → ⊥
isnt_refused w line kind (inl skipped) (inl none) = isnt_skipped line none.why skipped none.other none.refusal
isnt_refused w line kind (inl skipped) (inr it) = skips line it.event skipped it.fits it.spells
isnt_refused w line kind (inr (e, fits, spells, taken)) (inl none) = reads line e none.why fits spells none.other none.refusal
isnt_refused w line kind (inr (e, fits, spells, taken)) (inr it) =
    let same : e ≡ it.event = same_event line e it.event fits spells it.fits it.spells in
    absurd (cc (sym taken.allowed ∙ ap (refusal w) same ∙ it.refused))

-- ---- each end

module _ (input : List ℕ) (ok : IsAccepted input) (lines : List (List ℕ)) (w : World) (h : List Line)
    (runs : Runs (Some input) lines w h) where
  good_next : (line : List ℕ) (back : List (List ℕ)) → lines_of input ≡ lines ++ line ∷ back → IsGood w line
  good_next line back are = ok.good lines line back runs.events w h are runs.spelled runs.tells

  none_refused : (kind : ScenarioKind) → RefusesNext (Some input) lines w kind → ⊥
  none_refused kind (front, rest, split, are, refused) = by (comes_next input ok lines front rest split are)
    where
      by : ComesNext input lines (length front) rest → ⊥
      by (NoLine is) = absurd (subst (IsRefused w kind) is refused)
      by (OneLine is here) =
          isnt_refused w (line_of rest) kind (good_next (line_of rest) (lines_of (rest_of rest)) here)
          (subst (IsRefused w kind) is refused)

  none_cut : (cut : List Line) → CutsNext (Some input) lines w h cut → ⊥
  none_cut cut c =
      by (good_next c.line c.begins.0 (c.begins.1 ∙ append_assoc lines (c.line ∷ []) c.begins.0))
    where
      by : IsGood w c.line → ⊥
      by (inl skipped) = skips c.line c.event skipped c.fits c.spells
      by (inr (e, fits, spells, taken)) =
          taken.within cut
          (subst (λ (x : Event). FillsUp w x cut) (sym (same_event c.line e c.event fits spells c.fits c.spells)) c.fills)

full_ends : (before after : Ends) (input : List ℕ) → before.left ≡ Some input → IsAccepted input → (quantity : Quantity)
    → Promises before after (Full quantity) → ⊥
full_ends before after input left ok Input p =
    no_limit input ok p.stops.lines Input (subst (λ (i : Option (List ℕ)). PassesNext i p.stops.lines Input) left p.passes)
full_ends before after input left ok LineQuantity p =
    no_limit input ok p.stops.lines LineQuantity
    (subst (λ (i : Option (List ℕ)). PassesNext i p.stops.lines LineQuantity) left p.passes)
full_ends before after input left ok Kept p =
    none_cut input ok p.lines p.world p.history
    (subst (λ (i : Option (List ℕ)). Runs i p.lines p.world p.history) left p.runs) p.part
    (subst (λ (i : Option (List ℕ)). CutsNext i p.lines p.world p.history p.part) left p.cuts)

pub completes : (before after : Ends) (status : Status) → Promises before after status → Completes before after status
completes before after Done p input left ok fine = inl refl
completes before after BadWords p input left ok fine = absurd p
completes before after (BadScenario number kind) p input left ok fine =
    absurd (none_refused input ok p.stops.lines p.stops.world p.stops.history
    (subst (λ (i : Option (List ℕ)). Runs i p.stops.lines p.stops.world p.stops.history) left p.stops.runs) kind
    (subst (λ (i : Option (List ℕ)). RefusesNext i p.stops.lines p.stops.world kind) left p.refused))
completes before after ReadFault p input left ok fine = absurd (fine.reads p.rose)
completes before after WriteFault p input left ok fine = absurd (fine.writes p.rose)
completes before after Memory p input left ok fine = inr refl
completes before after (Full quantity) p input left ok fine = absurd (full_ends before after input left ok quantity p)
