-- The whole summary of the scenario is that of the same calls on one plain list of bytes.
use Rattle.std.specs.Prelude.{◌≡◌, ◌+◌, ℕ, true, List, [], length, take, drop}
use Rattle.std.specs.List.{fold, sum_by}
use Rattle.osd_lists.specs.Overwrite.{overwritten}
use Rattle.scenario_text.specs.declared.event.Call.{Call}
use Rattle.scenario_text.specs.declared.event.Call.TheVariants.{Write, Read}
use Rattle.scenario_text.specs.declared.event.Event.{Event}
use Rattle.scenario_text.specs.declared.event.Event.TheVariants.{Do}
use Rattle.scenario_text.specs.declared.line.Line.{Line}
use Rattle.world_history.specs.declared.summary.Summary.{Summary}
use Rattle.world_history.specs.State.{World}
use Rattle.world_history.specs.Calm.{calm}
use Rattle.world_history.specs.Summing.{summary_of, no_summary}
use Rattle.exchange_law.specs.Text.{AreFew}
use Rattle.generate_law.specs.Plays.{Plays}
use Rattle.generate_law.specs.Scenario.{scenario_of}

-- ---- calls on one list of bytes

-- the bytes of a file, and the counts of the calls so far
pub record Counted : Type 0 where
  pub bytes : List ℕ
  pub summary : Summary

-- the bytes of a range, cut at the end
abbrev pub range_of : List ℕ → (offset count : ℕ) → List ℕ
range_of bytes offset count = take count (drop offset bytes)

-- a call that ends in ok: a write leaves its bytes, and a read gives those of its range
abbrev pub after_call : Counted → Call → Counted
after_call c (Write file offset bytes) = record {
  bytes = overwritten c.bytes offset bytes;
  summary = record c.summary { calls = c.summary.calls + 1; ok = c.summary.ok + 1; writes = c.summary.writes + 1 };
}
after_call c (Read file offset count) = record c {
  summary = record c.summary {
    calls = c.summary.calls + 1;
    ok = c.summary.ok + 1;
    reads = c.summary.reads + 1;
    read_bytes = c.summary.read_bytes + length (range_of c.bytes offset count);
    read_sum = c.summary.read_sum + sum_by (λ (b : ℕ). b) (range_of c.bytes offset count);
  };
}

abbrev pub after_event : Counted → Event → Counted
after_event c (Do client x) = after_call c x
after_event c e = c

-- no byte and no call
abbrev pub no_count : Counted
no_count = record { bytes = []; summary = no_summary }

-- what the events come to, from an empty file on
abbrev pub plain_summary : List Event → Summary
plain_summary events = (fold after_event no_count events).summary

-- ---- the scenario

-- A summary is that of the scenario on one list of bytes, and each of its calls ended in ok.
pub record IsPlainSum (seed calls : ℕ) (s : Summary) : Type 0 where
  pub sum : s ≡ plain_summary (scenario_of seed calls)
  pub all_ok : s.ok ≡ calls + 1

-- so it is of its history, if it is calm and has few messages
abbrev pub SummaryIsPlain : Type 0
SummaryIsPlain =
    (seed calls : ℕ) (w : World) (h : List Line) → Plays (scenario_of seed calls) w h → AreFew h → calm h ≡ true
    → IsPlainSum seed calls (summary_of h)
