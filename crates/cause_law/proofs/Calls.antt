-- How calls of clients end, from the laws of each way to end.
use Rattle.std.proofs.Common.{◌≡◌, ◌++◌, ◌∷◌, [], List, true, refl, sym, ap, subst, ◌∙◌, append_assoc, arith}
use Rattle.std.proofs.lemmas.Grind.{fold-append}
use Rattle.scenario_text.specs.declared.line.Ending.TheVariants.{BadLayout, Status, Refused}
use Rattle.scenario_text.specs.declared.line.Line.{Line}
use Rattle.scenario_text.specs.declared.line.Line.TheVariants as line
use Rattle.scenario_text.specs.declared.line.Outcome.TheVariants.{Failed}
use Rattle.scenario_text.specs.declared.line.Refusal.TheVariants.{SlotSpent}
use Rattle.world_history.specs.Guesses.{Guarded, guards, guarded, unguessed}
use Rattle.world_history.specs.History.{Lawful, FrontsAreLawful}
use Rattle.exchange_law.specs.Ends.{CallsEndFair}
use Rattle.exchange_law.specs.Ends as held
use Rattle.cause_law.specs.Rooms.{HasRoom, NoLaneIsWanting}
use Rattle.cause_law.specs.Readable.{FilesAndAnswersAreReadable, PlacesAreEnough}
use Rattle.cause_law.specs.Fresh.{GrantsAreFresh}
use Rattle.exchange_law.specs.Text.{AreOfText, AreFew}
use Rattle.exchange_law.specs.Refused.{HasSlot, NoSlotIsSpent}
use Rattle.exchange_law.proofs.CountGrowing.{fewer, text_front}
use Rattle.exchange_law.specs.Awaited as refusal
use Rattle.cause_law.specs.Endings.{EndsRightlyAt}
use Rattle.cause_law.specs.Texts.{NoCallOfTextEndsMisplaced}
use Rattle.cause_law.specs.Calls.{EndsAt, CallsEndSo}

-- ---- one line

-- there was room, unless something was guessed
abbrev Roomy : List Line → Line → Type 0
Roomy before l = unguessed before ≡ true → HasRoom before l

few_enough : (before : List Line) → AreFew before → refusal.AreFewerThanNonces before
few_enough before few = omega (arith, few)

ends_so : (before : List Line) (l : Line) → held.EndsAt before l → EndsRightlyAt before l → Roomy before l
    → HasSlot before l → AreFew before → EndsAt before l
ends_so before (line.Ended c (Failed kind (BadLayout why))) fair rightly room slot few = fair
ends_so before (line.Ended c (Failed kind (Status n detail))) fair rightly room slot few = fair
ends_so before (line.Ended c (Failed kind (Refused d v))) fair rightly room slot few =
    (rightly, λ clean. room clean (few_enough before few))
ends_so before (line.Refused c SlotSpent) fair rightly room slot few = slot
ends_so before l fair rightly room slot few = tt

-- ---- room

-- what is no event guesses nothing
abbrev IsNoEvent : Line → Type 0
IsNoEvent (line.Event e) = ⊥
IsNoEvent l = Unit {0}

still_clean : (before : List Line) (l : Line) → IsNoEvent l → unguessed before ≡ true → unguessed (before ++ l ∷ []) ≡ true
still_clean before l g clean =
    ap (λ (x : Guarded). x.unguessed) (fold-append guards _ before (l ∷ []))
    ∙ at_one (guarded before) l g clean
  where
    at_one : (x : Guarded) (m : Line) → IsNoEvent m → x.unguessed ≡ true → (guards x m).unguessed ≡ true
    at_one x (line.Event e) b c = absurd b
    at_one x m b c = rw c refl

module _ (fronts : FrontsAreLawful) (read : FilesAndAnswersAreReadable) (room : NoLaneIsWanting) (fresh : GrantsAreFresh)
    (places : PlacesAreEnough) (h : List Line) (lawful : Lawful h) (text : AreOfText h) (few : AreFew h) where
  front_is_roomy : (before : List Line) (l : Line) (after : List Line) → h ≡ (before ++ l ∷ []) ++ after → IsNoEvent l
      → Roomy before l
  front_is_roomy before l after is other clean =
      let front = before ++ l ∷ [] in
      let its : Lawful front = fronts front after (subst Lawful is lawful) in
      let words : AreOfText front = text_front front after (subst AreOfText is text) in
      let short : AreFew front = fewer front after (subst AreFew is few) in
      room front its (still_clean before l other clean) (fresh front (read front its words short) (few_enough front short))
      (places front its words short) before l [] refl

  is_roomy : (before : List Line) (l : Line) (after : List Line) → h ≡ (before ++ l ∷ []) ++ after → Roomy before l
  is_roomy before (line.Event e) after is clean = tt
  is_roomy before (line.Ended c o) after is clean = front_is_roomy before (line.Ended c o) after is tt clean
  is_roomy before l after is clean = tt

-- ---- each line

pub calls_end_so : FrontsAreLawful → CallsEndFair → FilesAndAnswersAreReadable
    → NoCallOfTextEndsMisplaced → NoLaneIsWanting → GrantsAreFresh → PlacesAreEnough → NoSlotIsSpent → CallsEndSo
calls_end_so fronts fair read rightly room fresh places slots h lawful text few before l after is =
    ends_so before l
    (fair h lawful (read h lawful text few) before l after is)
    (rightly h lawful text few before l after is)
    (is_roomy fronts read room fresh places h lawful text few before l after
    (is ∙ sym (append_assoc before (l ∷ []) after)))
    (slots h lawful few before l after is)
    (fewer before (l ∷ after) (subst AreFew is few))
