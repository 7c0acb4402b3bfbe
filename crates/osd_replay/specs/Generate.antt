-- What is promised of a scenario that is made from a seed.
use Rattle.std.specs.Prelude.{◌≡◌, ℕ, ◌<◌, true, List, [], ◌∷◌, ◌++◌, length, take, codes, ⊤, Some}
use Rattle.std.specs.Io.KnownBytes.{Appends}
use Rattle.std.specs.Fmt.{decimal}
use Rattle.hex.specs.Hex.{encode_lower}
use Rattle.sha1.specs.Sha1.{sha1, Holds}
use Rattle.osd_bytes.specs.Causes.{Rose}
use Rattle.scenario_text.specs.declared.event.Event.{Event}
use Rattle.scenario_text.specs.declared.line.Line.{Line}
use Rattle.scenario_text.specs.declared.line.Line.TheVariants.{Last}
use Rattle.scenario_text.specs.LineSpelling.{lines_text}
use Rattle.world_history.specs.declared.err.WorldErr.{WorldErr}
use Rattle.world_history.specs.declared.summary.Summary.{Summary}
use Rattle.world_history.specs.State.{World}
use Rattle.world_history.specs.Refusals.{refusal}
use Rattle.world_history.specs.Runs.{FillsUp}
use Rattle.world_history.specs.Summing.{summary_of}
use Rattle.world_watch.specs.Capping.{capped_summary}
use Rattle.scenario_text.specs.Spelling.{Fits}
use Rattle.history_law.specs.Read.{AreWritten}
use Rattle.exchange_law.specs.Text.{AreOfText, AreFew}
use Rattle.calm_law.specs.Watching.{WatchesAll}
use Rattle.layout_world.specs.State.{Shows}
use Rattle.history_claims.specs.Sound.{IsSound}
use Rattle.osd_replay.specs.Ends.{Ends, PutsError}
use Rattle.osd_replay.specs.Errors.{error_line}
use Rattle.generate_law.specs.Counts.{HasCounts}
use Rattle.generate_law.specs.Scenario.{scenario_of}
use Rattle.generate_law.specs.Sums.{IsPlainSum, plain_summary}
use Rattle.osd_replay.specs.Transcript.{Tells, EndsWith, final_text}
use Rattle.osd_replay.specs.declared.generate.Digested.{Digested}
use Rattle.osd_replay.specs.declared.status.Quantity.{Quantity}
use Rattle.osd_replay.specs.declared.status.Quantity.TheVariants.{Input, Line as LineQuantity, Kept}
use Rattle.osd_replay.specs.declared.status.ScenarioKind.{ScenarioKind}
use Rattle.osd_replay.specs.declared.status.ScenarioKind.TheVariants.{World as WorldKind}
use Rattle.osd_replay.specs.declared.status.Status.{Status}
use Rattle.osd_replay.specs.declared.status.Status.TheVariants.{Done, BadWords, BadScenario, ReadFault, WriteFault}
use Rattle.osd_replay.specs.declared.status.Status.TheVariants.{Memory, Full}
use Rattle.osd_replay.specs.declared.stop.Stop.{Stop}
use Rattle.osd_replay.specs.declared.stop.Stop.TheVariants.{Refused, Read, Memory as WantsMemory, Full as StopsFull}

-- ---- what is told

-- `NAME COUNT`
abbrev pub count_line : List ℕ → ℕ → List ℕ
count_line name n = name ++ (32 ∷ (decimal n ++ (10 ∷ [])))

-- the six counts
unfoldable pub counts_text : Summary → List ℕ
counts_text s =
    count_line (codes "calls") s.calls
    ++ (count_line (codes "ok") s.ok
    ++ (count_line (codes "writes") s.writes
    ++ (count_line (codes "reads") s.reads
    ++ (count_line (codes "read-bytes") s.read_bytes ++ count_line (codes "read-sum") s.read_sum))))

-- the digest of a transcript
abbrev pub digest_line : List ℕ → List ℕ
digest_line transcript = codes "transcript " ++ (encode_lower (sha1 transcript) ++ (10 ∷ []))

-- the counts, the digest of the whole transcript, and its last line
abbrev pub result_text : Summary → List Line → Line → List ℕ
result_text s h last = counts_text s ++ (digest_line (final_text h last) ++ lines_text (last ∷ []))

-- ---- events carried out one after another

-- these events were carried out, and the digest has the lines of their history
pub record Made (events : List Event) (d : Digested) : Type 0 where
  pub world : World
  pub history : List Line
  pub shows : Shows d.world.parties world
  pub tells : Tells events world history
  pub watches : WatchesAll history d.world.watch
  pub holds : Holds d.digest (lines_text history)

-- behind these events the next one is refused, for that cause
pub record RefusesBehind (events : List Event) (e : Event) (kind : ScenarioKind) : Type 0 where
  pub world : World
  pub history : List Line
  pub tells : Tells events world history
  pub cause : WorldErr
  pub kind_is : kind ≡ WorldKind cause
  pub refused : refusal world e ≡ Some cause

-- behind these events the next one stops just before what would pass the limit of kept bytes
pub record FillsBehind (events : List Event) (e : Event) : Type 0 where
  pub world : World
  pub history : List Line
  pub tells : Tells events world history
  pub cut : List Line
  pub fills : FillsUp world e cut

abbrev pub FullBehind : List Event → Event → Quantity → Type 0
FullBehind events e Kept = FillsBehind events e
FullBehind events e Input = ⊥
FullBehind events e LineQuantity = ⊥

-- why the next event isn't carried out
abbrev pub StopsBehind : List Event → Event → Stop → Type 0
StopsBehind events e (Refused kind) = RefusesBehind events e kind
StopsBehind events e Read = ⊥
StopsBehind events e WantsMemory = ⊤
StopsBehind events e (StopsFull quantity) = FullBehind events e quantity

-- one event more was carried out, which a text may have
abbrev pub MakesMore : Event → (old new : Digested) → Type 0
MakesMore e old new = Fits e → (front : List Event) → Made front old → Made (front ++ e ∷ []) new

abbrev pub StopsMaking : Event → Digested → Stop → Type 0
StopsMaking e old stop = (front : List Event) → Made front old → StopsBehind front e stop

-- one of these events isn't carried out
pub record StopsAt (all : List Event) (stop : Stop) : Type 0 where
  pub events : List Event
  pub next : Event
  pub rest : List Event
  pub all_are : all ≡ events ++ next ∷ rest
  pub stops : StopsBehind events next stop

-- that, or there is no memory
abbrev pub StopsAmong : List Event → Stop → Type 0
StopsAmong all WantsMemory = ⊤
StopsAmong all stop = StopsAt all stop

-- ---- what each status promises

-- this is the text of the history whose lines the digest has
abbrev pub IsToldOf : Digested → List ℕ → Type 0
IsToldOf d text =
    (h : List Line) → Holds d.digest (lines_text h)
    → text ≡ result_text d.world.watch.summary h (Last d.world.watch.moments.calm d.world.watch.guesses.unguessed)

-- All events of the scenario were carried out: this is their history, of which holds what holds of every one.
pub record Outcome (seed calls : ℕ) : Type 0 where
  pub world : World
  pub history : List Line
  pub tells : Tells (scenario_of seed calls) world history
  pub sound : IsSound history
  pub written : AreWritten history
  pub text : AreOfText history
  pub few : AreFew history
  -- it has one call more than are asked for: a write, and then each second one is a write
  pub counted : HasCounts calls (summary_of history)
  -- each of them ended in ok, and its summary is that of the same calls on one plain list of bytes
  pub plain : IsPlainSum seed calls (summary_of history)
  -- it was calm, and nothing in it was guessed, as its last line says
  pub ends : EndsWith history (Last true true)

-- what is told of it: the summary of the same calls on one plain list of bytes, the digest of the history's transcript, and its
-- last line, `calm yes unguessed yes`
abbrev pub outcome_text : (seed calls : ℕ) → Outcome seed calls → List ℕ
outcome_text seed calls o =
    result_text (capped_summary (plain_summary (scenario_of seed calls))) o.history (Last true true)

-- its text
pub record ComesTo (seed calls : ℕ) (text : List ℕ) : Type 0 where
  pub outcome : Outcome seed calls
  pub text_is : text ≡ outcome_text seed calls outcome

-- it went out whole
pub record IsDone (seed calls : ℕ) (before after : Ends) : Type 0 where
  pub outcome : Outcome seed calls
  pub out : Appends before.taken after.taken (outcome_text seed calls outcome)
  pub writes : after.writes_failed ≡ before.writes_failed

-- the sink failed: a part of it went out
pub record IsWriteFault (seed calls : ℕ) (before after : Ends) : Type 0 where
  pub outcome : Outcome seed calls
  pub upto : ℕ
  pub short : upto < length (outcome_text seed calls outcome)
  pub out : Appends before.taken after.taken (take upto (outcome_text seed calls outcome))
  pub rose : Rose before.writes_failed after.writes_failed

-- there was no memory, and only the error line went out, which has no number
pub record IsMemory (before after : Ends) : Type 0 where
  pub puts : PutsError before after [] (error_line 0 (codes "memory"))

-- No event of the scenario is refused, and none would pass the limit of kept bytes.
abbrev pub Promises : (seed calls : ℕ) → Ends → Ends → Status → Type 0
Promises seed calls before after Done = IsDone seed calls before after
Promises seed calls before after BadWords = ⊥
Promises seed calls before after (BadScenario number kind) = ⊥
Promises seed calls before after ReadFault = ⊥
Promises seed calls before after WriteFault = IsWriteFault seed calls before after
Promises seed calls before after Memory = IsMemory before after
Promises seed calls before after (Full quantity) = ⊥

-- nothing was read
pub record ReadsNothing (before after : Ends) : Type 0 where
  pub left : after.left ≡ before.left
  pub reads : after.reads_failed ≡ before.reads_failed
