-- The calls that a history counts are those of its events.
use Rattle.std.proofs.Common.{◌≡◌, ◌+◌, ◌/◌, ◌%◌, ◌==◌, ℕ, zero, suc, inl, inr, arith, List, [], ◌∷◌, refl, ap, subst}
use Rattle.std.specs.List.{fold}
use Rattle.scenario_text.specs.declared.event.Call.{Call}
use Rattle.scenario_text.specs.declared.event.Call.TheVariants as call
use Rattle.scenario_text.specs.declared.event.Event.{Event}
use Rattle.scenario_text.specs.declared.event.Event.TheVariants as event
use Rattle.scenario_text.specs.declared.line.Line.{Line}
use Rattle.scenario_text.specs.declared.line.Line.TheVariants as line
use Rattle.scenario_text.specs.declared.line.Outcome.{Outcome}
use Rattle.scenario_text.specs.declared.line.Outcome.TheVariants as outcome
use Rattle.world_history.specs.declared.summary.Summary.{Summary}
use Rattle.world_history.specs.Summing.{no_summary, counts_call, counts_event, counts_outcome, counts_line}
use Rattle.std.proofs.lemmas.Bool.{cases_Bool}
use Rattle.std.proofs.lemmas.Bool.Decides.{nat_tests}
use Rattle.std.proofs.lemmas.List.Sums.{fold-append}
use Rattle.generate_law.specs.Scenario.{opening, calls_from, next_random, scenario_of}
use Rattle.generate_law.specs.Counts.{CallsAreOfEvents, ScenarioHasCounts}
use Rattle.generate_law.proofs.Events.{events_in, events_are}

-- two summaries count the same calls
record CountAlike (s t : Summary) : Type 0 where
  calls : s.calls ≡ t.calls
  writes : s.writes ≡ t.writes
  reads : s.reads ≡ t.reads

abbrev more : ℕ → ℕ
more n = n + 1

call_alike : (s t : Summary) (x : Call) → CountAlike s t → CountAlike (counts_call s x) (counts_call t x)
call_alike s t (call.Write f offset bytes) a =
    record { calls = ap more a.calls; writes = ap more a.writes; reads = a.reads }
call_alike s t (call.Read f offset count) a =
    record { calls = ap more a.calls; writes = a.writes; reads = ap more a.reads }

event_alike : (s t : Summary) (e : Event) → CountAlike s t → CountAlike (counts_event s e) (counts_event t e)
event_alike s t (event.Do c x) a = call_alike s t x a
event_alike s t (event.Call c x) a = call_alike s t x a
event_alike s t e a = a

outcome_alike : (s t : Summary) (o : Outcome) → CountAlike s t → CountAlike (counts_outcome s o) t
outcome_alike s t (outcome.WriteOk n) a = record { calls = a.calls; writes = a.writes; reads = a.reads }
outcome_alike s t (outcome.ReadOk bytes) a = record { calls = a.calls; writes = a.writes; reads = a.reads }
outcome_alike s t o a = a

lines_alike : (s t : Summary) (ls : List Line) → CountAlike s t
    → CountAlike (fold counts_line s ls) (fold counts_event t (events_in ls))
lines_alike s t [] a = a
lines_alike s t (line.Event e ∷ ls) a = lines_alike (counts_event s e) (counts_event t e) ls (event_alike s t e a)
lines_alike s t (line.Ended c o ∷ ls) a = lines_alike (counts_outcome s o) t ls (outcome_alike s t o a)
lines_alike s t (l ∷ ls) a = lines_alike s t ls a

pub calls_are_of_events : CallsAreOfEvents
calls_are_of_events events w h p =
    let a : CountAlike (fold counts_line no_summary h) (fold counts_event no_summary events) =
    subst (λ (es : List Event). CountAlike (fold counts_line no_summary h) (fold counts_event no_summary es))
    (events_are events w h p)
    (lines_alike no_summary no_summary h (record { calls = refl; writes = refl; reads = refl })) in
    record { calls = a.calls; writes = a.writes; reads = a.reads }

-- ---- how many they are

-- from call k on n calls are counted, each even one as a write
record CountOn (n k : ℕ) (s t : Summary) : Type 0 where
  calls : t.calls ≡ s.calls + n
  writes : t.writes + (k + 1) / 2 ≡ s.writes + (k + n + 1) / 2
  reads : t.reads + k / 2 ≡ s.reads + (k + n) / 2

counts_on : (n k x : ℕ) (s : Summary) → CountOn n k s (fold counts_event s (calls_from n k x))
counts_on zero k x s = record { calls = omega arith; writes = omega arith; reads = omega arith }
counts_on (suc n) k x s = elim (cases_Bool (k % 2 == 0)) [
  | inl t ↦
      let even : k % 2 ≡ 0 = grind (arith, nat_tests, t) in
      let c = counts_on n (k + 1) (next_random x) (record s { calls = s.calls + 1; writes = s.writes + 1 }) in
      rw t (record {
        calls = omega (arith, c.calls);
        writes = omega (arith, c.writes, even);
        reads = omega (arith, c.reads, even);
      })
  | inr f ↦
      let odd : k % 2 ≡ 1 = grind (arith, nat_tests, f) in
      let c = counts_on n (k + 1) (next_random x) (record s { calls = s.calls + 1; reads = s.reads + 1 }) in
      rw f (record {
        calls = omega (arith, c.calls);
        writes = omega (arith, c.writes, odd);
        reads = omega (arith, c.reads, odd);
      })
]

pub scenario_has_counts : ScenarioHasCounts
scenario_has_counts seed calls w h p =
    let a = calls_are_of_events (scenario_of seed calls) w h p in
    let begun : Summary = record { calls = 1; ok = 0; writes = 1; reads = 0; read_bytes = 0; read_sum = 0 } in
    let split : fold counts_event no_summary (scenario_of seed calls) ≡ fold counts_event begun (calls_from calls 0 seed) =
    fold-append counts_event no_summary opening (calls_from calls 0 seed) in
    let c = counts_on calls 0 seed begun in
    record {
      calls_are = omega (arith, a.calls, ap (λ (s : Summary). s.calls) split, c.calls);
      writes = omega (arith, a.writes, ap (λ (s : Summary). s.writes) split, c.writes);
      reads = omega (arith, a.reads, ap (λ (s : Summary). s.reads) split, c.reads);
    }
