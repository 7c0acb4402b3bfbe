-- Calls that ended in ok, whose log the judge accepts, come to what they come to on one plain list of bytes.
use Rattle.std.proofs.Common.{◌≡◌, ◌+◌, ◌-◌, ◌<◌, ℕ, min, List, [], ◌∷◌, length, drop, get_or, map, fold, false, None, refl, sym, ap, subst, ◌∙◌, arith}
use Rattle.std.specs.List.{AllByRecursion}
use Rattle.std.proofs.lemmas.Grind.{same_number_lists}
use Rattle.std.proofs.lemmas.List.{get_or-drop, get_or-take, length-drop, length-take}
use Rattle.file_log.specs.declared.entry.Entry.{Entry}
use Rattle.file_log.specs.declared.entry.Entry.TheVariants as entry
use Rattle.file_log.specs.Judge.{Candidates, Fits, AcceptsFrom, IsRange, IsSettled, after_entry, given}
use Rattle.file_log.proofs.OneList.{range_found}
use Rattle.file_log.proofs.Settled.{after_answer, after_write}
use Rattle.scenario_text.specs.declared.event.Call.{Call}
use Rattle.scenario_text.specs.declared.event.Call.TheVariants as call
use Rattle.scenario_text.specs.declared.event.Event.{Event}
use Rattle.scenario_text.specs.declared.event.Event.TheVariants as event
use Rattle.scenario_text.specs.declared.line.Outcome.{Outcome}
use Rattle.scenario_text.specs.declared.line.Outcome.TheVariants as outcome
use Rattle.world_history.specs.declared.summary.Summary.{Summary}
use Rattle.world_history.specs.Moves.{op_of}
use Rattle.world_history.specs.ReadLog.{ended_entry}
use Rattle.world_history.specs.Summing.{counts_call, counts_outcome}
use Rattle.ready_law.specs.Answered.{IsOk}
use Rattle.generate_law.specs.Sums.{Counted, after_call, after_event, range_of}

-- ---- calls that ended

-- a call, and how it ended
pub record Done : Type 0 where
  pub call : Call
  pub outcome : Outcome

-- what a call's entry says at first
abbrev pub first_entry : Call → Entry
first_entry (call.Write file offset bytes) = entry.Write offset bytes false
first_entry (call.Read file offset count) = entry.Read offset count None

-- and once it has ended
abbrev pub entry_of : Done → Entry
entry_of d = ended_entry (first_entry d.call) d.outcome

abbrev pub counts_done : Summary → Done → Summary
counts_done s d = counts_outcome (counts_call s d.call) d.outcome

abbrev pub after_done : Counted → Done → Counted
after_done k d = after_call k d.call

-- it ended in ok
abbrev pub IsGood : Done → Type 0
IsGood d = IsOk (op_of d.call) d.outcome

-- ---- a range

-- the answer is the range, cut at the end
range_is : (bytes : List ℕ) (offset count : ℕ) (answer : List ℕ) → IsRange bytes offset count answer
    → answer ≡ range_of bytes offset count
range_is bytes offset count answer r =
    same_number_lists answer (range_of bytes offset count) (r.size ∙ sym long) (λ k low.
    r.same k low ∙ sym (inside k (subst (λ (n : ℕ). k < n) r.size low)))
  where
    long : length (range_of bytes offset count) ≡ given offset count (length bytes)
    long =
        length-take count (drop offset bytes) ∙ ap (min count) (length-drop offset bytes)
        ∙ cut count offset (length bytes)
      where
        cut : (c o n : ℕ) → min c (n - o) ≡ min (o + c) n - o
        cut c o n = omega arith

    inside : (k : ℕ) → k < given offset count (length bytes)
        → get_or (range_of bytes offset count) k 0 ≡ get_or bytes (offset + k) 0
    inside k low = get_or-take count (drop offset bytes) k 0 (omega (arith, low)) ∙ get_or-drop offset bytes k 0

-- ---- a call more

-- what stands behind a call that ended: its bytes are settled, and it counts as it does on a list of bytes
pub record StepsOn (c : Candidates) (k : Counted) (x : Call) (o : Outcome) : Type 0 where
  pub settled : IsSettled (after_entry c (ended_entry (first_entry x) o)) (after_call k x).bytes
  pub counts : counts_outcome (counts_call k.summary x) o ≡ (after_call k x).summary

steps_on : (c : Candidates) (k : Counted) (x : Call) (o : Outcome) → IsSettled c k.bytes → IsOk (op_of x) o
    → Fits c (ended_entry (first_entry x) o) → StepsOn c k x o
steps_on c k (call.Write file offset bytes) (outcome.WriteOk n) set ok fits =
    record { settled = after_write c k.bytes offset bytes set; counts = refl }
steps_on c k (call.Read file offset count) (outcome.ReadOk bytes) set ok fits =
    let range : IsRange k.bytes offset count bytes = range_found c k.bytes offset count bytes set fits in
    record {
      settled = after_answer c k.bytes offset count bytes set range;
      counts =
          ap (λ (bs : List ℕ). counts_outcome (counts_call k.summary (call.Read file offset count)) (outcome.ReadOk bs))
          (range_is k.bytes offset count bytes range);
    }
steps_on c k (call.Write file offset bytes) (outcome.ReadOk bs) set ok fits = absurd ok
steps_on c k (call.Write file offset bytes) (outcome.Failed kind why) set ok fits = absurd ok
steps_on c k (call.Read file offset count) (outcome.WriteOk n) set ok fits = absurd ok
steps_on c k (call.Read file offset count) (outcome.Failed kind why) set ok fits = absurd ok

-- ---- all calls

pub sums : (ds : List Done) (c : Candidates) (k : Counted) → IsSettled c k.bytes → AllByRecursion IsGood ds
    → AcceptsFrom c (map entry_of ds) → fold counts_done k.summary ds ≡ (fold after_done k ds).summary
sums [] c k set good fits = refl
sums (d ∷ ds) c k set good fits =
    let one = steps_on c k d.call d.outcome set good.0 fits.0 in
    ap (λ (s : Summary). fold counts_done s ds) one.counts
    ∙ sums ds (after_entry c (entry_of d)) (after_done k d) one.settled good.1 fits.1

-- ---- each counts as ok

-- as many calls ended in ok as there were
call_ok : (k : Counted) (x : Call) → k.summary.ok ≡ k.summary.calls
    → (after_call k x).summary.ok ≡ (after_call k x).summary.calls
call_ok k (call.Write file offset bytes) same = ap (λ (n : ℕ). n + 1) same
call_ok k (call.Read file offset count) same = ap (λ (n : ℕ). n + 1) same

event_ok : (k : Counted) (e : Event) → k.summary.ok ≡ k.summary.calls
    → (after_event k e).summary.ok ≡ (after_event k e).summary.calls
event_ok k (event.Do c x) same = call_ok k x same
event_ok k e same = same

pub events_ok : (es : List Event) (k : Counted) → k.summary.ok ≡ k.summary.calls
    → (fold after_event k es).summary.ok ≡ (fold after_event k es).summary.calls
events_ok [] k same = same
events_ok (e ∷ es) k same = events_ok es (after_event k e) (event_ok k e same)
