-- Fencing: where a fence is over, each component's object has the new tag, and from then on nothing older is performed
-- on it.
use Rattle.std.specs.Prelude.{◌≡◌, ℕ, true, false, ◌≤◌, ◌<◌, ◌^◌, List, ◌∷◌, ◌++◌, Some, Ok}
use Rattle.osd_commands.specs.declared.commands.Command.{Command}
use Rattle.osd_commands.specs.Commands.{reading}
use Rattle.server_rules.specs.Laws.{In}
use Rattle.scenario_text.specs.declared.line.Note.TheVariants.{Fenced}
use Rattle.scenario_text.specs.declared.line.Verdict.TheVariants.{Perform}
use Rattle.scenario_text.specs.declared.line.Line.{Line}
use Rattle.scenario_text.specs.declared.line.Line.TheVariants as line
use Rattle.world_history.specs.ServerNames.{File, Component}
use Rattle.world_history.specs.State.{World}
use Rattle.world_history.specs.Plans.{due}
use Rattle.world_history.specs.Sending.{Move, move}
use Rattle.world_history.specs.Book.{server_after}
use Rattle.world_history.specs.History.{Lawful}
use Rattle.history_law.specs.Judging.{Judges}
use Rattle.history_law.specs.StepEnds.{BehindStep}
use Rattle.history_law.specs.Fencing.{AllRaised}
use Rattle.history_law.specs.BookMoments.{IsMoment, plan_at, lines_in}
use Rattle.history_law.specs.Reaching.{reached_in, HolderIsServer}
use Rattle.history_law.specs.Unforged.{AreUnforged}

-- ---- the end of a fence

-- Behind these lines the file of that number has that tag, and so has each of its objects: of each component that isn't
-- missing the object has this tag or a later one, or its drive has failed.
pub record IsFenced (files : List File) (h : List Line) (number tag : ℕ) : Type 0 where
  pub file : File
  pub there : In file files
  pub number_is : file.kept.number ≡ number
  pub tag_is : file.kept.tag ≡ tag
  pub raised : AllRaised (reached_in h) file tag

-- So it is behind each move in whose lines a fence is over, as far as what is performed under the server's holder is
-- its own.
abbrev pub FencesEnd : Type 0
FencesEnd =
    (w : World) (h : List Line) (k : IsMoment w h) (m : Move) → due (plan_at k) w ≡ Some m.action →
    HolderIsServer (h ++ lines_in w m) → (number tag : ℕ) → In (line.Note number (Fenced tag)) (lines_in w m) →
    IsFenced (move w m).world.server.files (h ++ lines_in w m) number tag

-- the lines up to the note that a fence is over, and some behind it
abbrev pub noted : (before : List Line) → (number tag : ℕ) → (rest : List Line) → List Line
noted before number tag rest = before ++ line.Note number (Fenced tag) ∷ rest

-- Behind the step of the note the file is so, by the server and the drives that are read off the lines, if nothing is forged up
-- to there.
abbrev pub FencedBehind : (before after : List Line) (number tag : ℕ) → Type 0
FencedBehind before after number tag =
    BehindStep (λ lines h. AreUnforged h → IsFenced (server_after h).files h number tag) before (line.Note number (Fenced tag))
    after

-- ---- from then on

-- where an object has reached a tag, no command of an earlier one is performed on it from then on
abbrev pub ReachedRefuses : Type 0
ReachedRefuses =
    (h : List Line) → Lawful h → (first middle after : List Line) (l : Line) → h ≡ first ++ (middle ++ l ∷ after) →
    (drive object tag : ℕ) → object < 2 ^ 64 → tag < 2 ^ 32 → reached_in first drive object tag ≡ true →
    (bytes : List ℕ) (c : Command) → Judges (first ++ middle) l drive bytes Perform → reading bytes ≡ Ok c →
    c.object ≡ object → tag ≤ c.capability.tag

-- nothing is forged up to the end of the note's step
abbrev pub UnforgedTo : (before after : List Line) (number tag : ℕ) → FencedBehind before after number tag → Type 0
UnforgedTo before after number tag f = AreUnforged (noted before number tag f.rest)

-- From there on no command of an earlier tag is performed on the object of any component of the file that isn't missing
-- there, whatever is forged behind it.
abbrev pub RefusesOlder :
    (before after : List Line) (number tag : ℕ) (f : FencedBehind before after number tag)
    → UnforgedTo before after number tag f → Type 0
RefusesOlder before after number tag f fair =
    (at : Component) → In at (f.holds fair).file.kept.components → at.missing ≡ false → at.object < 2 ^ 64 →
    (middle later : List Line) (l : Line) → f.more ≡ middle ++ l ∷ later → (bytes : List ℕ) (c : Command) →
    Judges (noted before number tag f.rest ++ middle) l at.drive bytes Perform → reading bytes ≡ Ok c →
    c.object ≡ at.object → tag ≤ c.capability.tag

-- A fence that is over lasts: both are so behind the step of each note that says that it is over.
abbrev pub FencesLast : List Line → Type 0
FencesLast h =
    (before after : List Line) (number tag : ℕ) → h ≡ noted before number tag after →
    (f : FencedBehind before after number tag)
    × (tag < 2 ^ 32 → (fair : UnforgedTo before after number tag f) → RefusesOlder before after number tag f fair)
