-- How the calls of a history end, in the words of its lines.
use Rattle.std.specs.Prelude.{◌≡◌, ℕ, List, Some}
use Rattle.scenario_text.specs.declared.line.Ending.TheVariants as ending
use Rattle.scenario_text.specs.declared.line.Outcome.{Outcome as ToldOutcome}
use Rattle.scenario_text.specs.declared.line.Outcome.TheVariants.{Failed}
use Rattle.scenario_text.specs.declared.line.Line.{Line}
use Rattle.scenario_text.specs.declared.line.Line.TheVariants as line
use Rattle.world_history.specs.ClientNames.{CallOp, Outcome}
use Rattle.world_history.specs.State.{World, at_number}
use Rattle.world_history.specs.Told.{kind_of, told_outcome}
use Rattle.world_history.specs.History.{StandsFor, Lawful}
use Rattle.history_law.specs.Safe.{AtEachLine}
use Rattle.cause_law.specs.Met.{grant_under, failure_in}
use Rattle.cause_law.specs.Caused.{failure_of, WritesAll}
use Rattle.cause_law.specs.ReadClients.{client_after}
use Rattle.cause_law.specs.ReadCalls.{LastStep, call_seen}

-- The clients that are read off a history are those of each world that stands for it.
abbrev pub ClientsAreRead : Type 0
ClientsAreRead = (w : World) (h : List Line) → StandsFor w h → (c : ℕ) → client_after h c ≡ at_number w.clients c

-- The call of a client's last step ended so there, and by all that it met.
pub record EndsBy (t : LastStep) (told : ToldOutcome) : Type 0 where
  pub op : CallOp
  pub call : t.call ≡ Some op
  pub outcome : Outcome
  pub ended : t.outcome ≡ Some outcome
  pub is : told ≡ told_outcome (kind_of op) outcome
  pub cause : failure_in (grant_under t.held op t.met) op t.met ≡ failure_of outcome
  pub whole : WritesAll op outcome

-- The line of a call that ends tells how it ended in the step that the lines before it began. That a call is left pending
-- ends none.
abbrev pub CausedAt : List Line → Line → Type 0
CausedAt before (line.Ended c (Failed kind ending.Pending)) = Unit {0}
CausedAt before (line.Ended c told) = EndsBy (call_seen c before).last told
CausedAt before l = Unit {0}

-- so it is at each line of a lawful history
abbrev pub EndsAreCaused : Type 0
EndsAreCaused = (h : List Line) → Lawful h → AtEachLine CausedAt h
