-- An answered read has what was read of the drives in its call, in the words of the lines.
use Rattle.std.specs.Prelude.{◌≡◌, ◌≢◌, ℕ, ◌==◌, ◌&&◌, not, if◌then◌else◌, List, [], ◌∷◌, ◌++◌, map, Some}
use Rattle.std.specs.List.{range_with_len}
use Rattle.stripe_plan.specs.Laws.{AreBytes, Agrees}
use Rattle.client_rules.specs.declared.limits.TheConstants.{PERFORMED}
use Rattle.world_history.specs.ClientNames.{CallOp, Held, Span, Column}
use Rattle.client_rules.specs.Calls.{file_of, span_of}
use Rattle.client_rules.specs.Grants.{clipped, held_of}
use Rattle.client_rules.specs.Io.{got_of}
use Rattle.scenario_text.specs.declared.line.Outcome.TheVariants.{ReadOk}
use Rattle.scenario_text.specs.declared.line.Line.{Line}
use Rattle.scenario_text.specs.declared.line.Line.TheVariants as line
use Rattle.world_history.specs.History.{Lawful}
use Rattle.history_law.specs.Safe.{AtEachLine}
use Rattle.cause_law.specs.Met.{Met, Answered, Replied, TimedOut}
use Rattle.cause_law.specs.ReadCalls.{LastStep, call_seen}

-- what the performed READs gave whose replies a call took, the first first
unfoldable pub read_in : List Met → List Column
read_in [] = []
read_in (Answered r a ∷ ms) = read_in ms
read_in (Replied a r ∷ ms) =
    if (r.verdict == PERFORMED) && not a.write then read_in ms ++ got_of a r ∷ [] else read_in ms
read_in (TimedOut h k ∷ ms) = read_in ms

-- the call's range as far as it lies below the size that its client knows
abbrev pub range_under : Held → CallOp → Span
range_under h op = clipped h.size (span_of op)

-- The call of a client's last step took a reply to a READ that was performed. For any file whose codewords have, wherever
-- something was read in the call, what was read there, the answer is the file's bytes in the call's range.
pub record IsOfReplies (t : LastStep) (bytes : List ℕ) : Type 0 where
  pub op : CallOp
  pub call : t.call ≡ Some op
  pub held : Held
  pub holds : held_of t.held (file_of op) ≡ Some held
  pub some : read_in t.met ≢ []
  pub right : (d : ℕ → ℕ) → AreBytes d → Agrees held.map (read_in t.met) d
      → bytes ≡ map d (range_with_len (range_under held op).offset (range_under held op).length)

-- so it is where a line tells that a read was answered
abbrev pub AnswersAt : List Line → Line → Type 0
AnswersAt before (line.Ended c (ReadOk bytes)) = IsOfReplies (call_seen c before).last bytes
AnswersAt before l = Unit {0}

-- in each lawful history
abbrev pub AnswersAreOfReplies : Type 0
AnswersAreOfReplies = (h : List Line) → Lawful h → AtEachLine AnswersAt h
