-- Which drive gave the verdict with which a call is refused.
use Rattle.std.specs.Prelude.{◌≡◌, ℕ, ◌%◌, ◌^◌, List, ◌∷◌, ◌++◌, slice_get, Some}
use Rattle.scenario_text.specs.declared.line.Delivery.TheVariants.{Judged}
use Rattle.scenario_text.specs.declared.line.Verdict.{Verdict}
use Rattle.scenario_text.specs.declared.line.Verdict.TheVariants.{Perform, Tag, NoSpace, Stale}
use Rattle.scenario_text.specs.declared.line.Ending.TheVariants.{Refused}
use Rattle.scenario_text.specs.declared.line.Outcome.TheVariants.{Failed}
use Rattle.scenario_text.specs.declared.line.Party.TheVariants as party
use Rattle.scenario_text.specs.declared.line.Line.{Line}
use Rattle.scenario_text.specs.declared.line.Line.TheVariants as line
use Rattle.world_history.specs.declared.messages.Sent.{Sent}
use Rattle.world_history.specs.Reading.{sent_in}
use Rattle.world_history.specs.History.{Lawful}
use Rattle.history_law.specs.Safe.{AtEachLine}

-- a verdict as a reply carries it, which has 64 bits for what a verdict names
abbrev pub carried : Verdict → Verdict
carried (Tag current) = Tag (current % 2 ^ 64)
carried (NoSpace free) = NoSpace (free % 2 ^ 64)
carried (Stale last) = Stale (last % 2 ^ 64)
carried v = v

-- In these lines a message of the client is delivered to the drive, which judges it so and doesn't perform it.
pub record WasJudged (h : List Line) (client drive : ℕ) (v : Verdict) : Type 0 where
  pub before : List Line
  pub number : ℕ
  pub found : Verdict
  pub after : List Line
  pub lines_are : h ≡ before ++ line.Delivered number (Judged found) ∷ after
  pub same : v ≡ carried found
  pub refuses : found ≡ Perform → ⊥
  pub message : Sent
  pub sent : slice_get (sent_in before) number ≡ Some message
  pub sender : message.from ≡ party.Client client
  pub receiver : message.to ≡ party.Drive drive

-- a call that ends as refused was refused so before
abbrev pub JudgedAt : List Line → Line → Type 0
JudgedAt before (line.Ended c (Failed kind (Refused d v))) = WasJudged before c d v
JudgedAt before l = Unit {0}

-- in each lawful history, at each line
abbrev pub RefusalsWereJudged : Type 0
RefusalsWereJudged = (h : List Line) → Lawful h → AtEachLine JudgedAt h
