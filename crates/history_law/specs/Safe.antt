-- What holds of every lawful history, in the words of its lines.
use Rattle.std.specs.Prelude.{◌≡◌, ℕ, List, ◌∷◌, ◌++◌, Some}
use Rattle.server_rules.specs.Laws.{Apart, NoneBeside}
use Rattle.scenario_text.specs.declared.line.Line.{Line}
use Rattle.world_history.specs.ServerNames.{File}
use Rattle.world_history.specs.Book.{book_of, live_in}
use Rattle.world_history.specs.History.{Lawful}
use Rattle.history_law.specs.Judging.{JudgesAt}
use Rattle.history_law.specs.Sources.{ComesAt}
use Rattle.history_law.specs.Spent.{Spends}
use Rattle.history_law.specs.Tags.{RefusesOldTags}

-- ---- at each moment, and at each line

-- so it is of the lines up to each place
abbrev pub AtEachMoment : (List Line → Type 0) → List Line → Type 0
AtEachMoment P h = (before after : List Line) → h ≡ before ++ after → P before

-- so it is of each line and the lines before it
abbrev pub AtEachLine : (List Line → Line → Type 0) → List Line → Type 0
AtEachLine P h = (before : List Line) (l : Line) (after : List Line) → h ≡ before ++ l ∷ after → P before l

-- ---- grants

-- of the live grants of each file no two conflict, and a client has at most one
abbrev pub AreGrantsApart : List Line → Type 0
AreGrantsApart h = (file : ℕ) → Apart (live_in (book_of h file))

-- while a job runs on a file no grant of it is live
abbrev pub AreJobsAlone : List Line → Type 0
AreJobsAlone h = (file : ℕ) (f : File) → book_of h file ≡ Some f → NoneBeside f.job f.kept.grants

-- ---- a history

-- At each moment no two live grants of a file conflict, a client has at most one, and none is live while a job runs on
-- the file. Each drive judges what comes to it
-- by its rules, so it performs exactly the commands that have no first fault, each of which touches its own object and
-- range alone; and each message of a drive is a reply, which tells of a READ bytes of its range alone. As far as nothing
-- was guessed, each performed command was sent to its drive by the server or a client. What is spent stays so and isn't
-- performed: no change is performed twice, and from then on that an object has a tag, nothing of an older one is
-- performed on it.
pub record IsSafe (h : List Line) : Type 0 where
  pub grants : AtEachMoment AreGrantsApart h
  pub jobs : AtEachMoment AreJobsAlone h
  pub commands : AtEachLine JudgesAt h
  pub sources : AtEachLine ComesAt h
  pub spent : Spends h
  pub tags : RefusesOldTags h

-- so is each lawful history, whatever its events name
abbrev pub HistoriesAreSafe : Type 0
HistoriesAreSafe = (h : List Line) → Lawful h → IsSafe h
