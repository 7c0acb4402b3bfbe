-- What a history comes to, in numbers.
use Rattle.std.specs.Prelude.{◌+◌, List, length}
use Rattle.std.specs.List.{fold, sum_by}
use Rattle.scenario_text.specs.declared.event.Call.{Call}
use Rattle.scenario_text.specs.declared.event.Call.TheVariants as call
use Rattle.scenario_text.specs.declared.event.Event.{Event}
use Rattle.scenario_text.specs.declared.event.Event.TheVariants as event
use Rattle.scenario_text.specs.declared.line.Outcome.{Outcome}
use Rattle.scenario_text.specs.declared.line.Outcome.TheVariants as outcome
use Rattle.scenario_text.specs.declared.line.Line.{Line}
use Rattle.scenario_text.specs.declared.line.Line.TheVariants as line
use Rattle.world_history.specs.declared.summary.Summary.{Summary}

abbrev pub no_summary : Summary
no_summary = record { calls = 0; ok = 0; writes = 0; reads = 0; read_bytes = 0; read_sum = 0 }

-- a call more
abbrev pub counts_call : Summary → Call → Summary
counts_call s (call.Write f offset bytes) = record s { calls = s.calls + 1; writes = s.writes + 1 }
counts_call s (call.Read f offset count) = record s { calls = s.calls + 1; reads = s.reads + 1 }

abbrev pub counts_event : Summary → Event → Summary
counts_event s (event.Do c x) = counts_call s x
counts_event s (event.Call c x) = counts_call s x
counts_event s e = s

-- a call that ended
abbrev pub counts_outcome : Summary → Outcome → Summary
counts_outcome s (outcome.WriteOk count) = record s { ok = s.ok + 1 }
counts_outcome s (outcome.ReadOk bytes) =
    record s { ok = s.ok + 1; read_bytes = s.read_bytes + length bytes; read_sum = s.read_sum + sum_by (λ b. b) bytes }
counts_outcome s o = s

abbrev pub counts_line : Summary → Line → Summary
counts_line s (line.Event e) = counts_event s e
counts_line s (line.Ended c o) = counts_outcome s o
counts_line s l = s

-- of all lines of a history
abbrev pub summary_of : List Line → Summary
summary_of h = fold counts_line no_summary h
