-- The headline, in the words of the lines: what a calm and unguessed history says of each file.
use Rattle.std.specs.Prelude.{◌≡◌, ℕ, ◌/◌, ◌<◌, true, false, List, [], ◌∷◌, ◌++◌, length, slice_get, get_or, Option, Some, None, Contains, find, ◌==◌}
use Rattle.std.specs.List.{fold}
use Rattle.data_map.specs.Striping.{replicas, group_width, position_of, offset_of}
use Rattle.stripe_plan.specs.Laws.{word_of}
use Rattle.osd_objects.specs.Store.{bytes_at}
use Rattle.server_rules.specs.Files.{file_at}
use Rattle.server_rules.specs.Grants.{merged, count_stripes}
use Rattle.server_rules.specs.Laws.{In}
use Rattle.file_log.specs.Judge.{Accepts, candidates}
use Rattle.scenario_text.specs.declared.line.Line.{Line}
use Rattle.scenario_text.specs.declared.line.Line.TheVariants as line
use Rattle.scenario_text.specs.declared.line.Note.TheVariants as note
use Rattle.world_history.specs.ServerNames.{File, Component, Mended}
use Rattle.world_history.specs.State.{DriveAt}
use Rattle.world_history.specs.History.{Lawful}
use Rattle.world_history.specs.Reading.{Step, steps_of}
use Rattle.world_history.specs.ReadDrives.{drive_after}
use Rattle.world_history.specs.ReadLog.{log_of}
use Rattle.world_history.specs.Book.{server_step, sees_server, server_at_first}
use Rattle.world_history.specs.Stripes.{is_lost, is_disturbed, is_worked}
use Rattle.world_history.specs.Calm.{calm, moment_of, mended_in}
use Rattle.world_history.specs.Guesses.{unguessed}
use Rattle.history_law.specs.Read.{AreWritten}
use Rattle.exchange_law.specs.Text.{AreOfText, AreFew}

-- ---- histories

-- a history of a scenario's text with few messages
pub record IsOfScenario (h : List Line) : Type 0 where
  pub written : AreWritten h
  pub text : AreOfText h
  pub few : AreFew h

-- one that moreover is calm, and in which nothing was guessed
pub record IsCalmHistory (h : List Line) : Type 0 where
  pub scenario : IsOfScenario h
  pub is_calm : calm h ≡ true
  pub is_unguessed : unguessed h ≡ true

-- ---- a stripe that is whole

-- the byte at an offset of an object on a drive, 0 behind the object's end
abbrev pub byte_stored : Option DriveAt → (object offset : ℕ) → ℕ
byte_stored None object z = 0
byte_stored (Some a) object z = get_or (bytes_at a.state.store object) z 0

-- Each component that isn't lost holds the stripe's codeword of data d: at column b of unit c the byte that d gives there.
abbrev pub HoldsStripe : List Line → File → (stripe : ℕ) → (d : ℕ → ℕ) → Type 0
HoldsStripe h f s d =
    (c b k : ℕ) (at : Component) → c < group_width f.kept.map → b < f.kept.map.unit →
    slice_get f.kept.components k ≡ Some at → k / replicas f.kept.map ≡ position_of f.kept.map s c →
    is_lost (moment_of h) at ≡ false →
    byte_stored (drive_after h at.drive) at.object (offset_of f.kept.map s b) ≡ word_of f.kept.map d s b c

-- A stripe of a file is whole: there are data bytes, each among the values that the judge leaves for its position, and what
-- isn't lost holds their codeword.
pub record IsWhole (h : List Line) (file stripe : ℕ) : Type 0 where
  pub bytes : ℕ → ℕ
  pub among : (l : ℕ) → Contains ((candidates (log_of h file)).values l) (bytes l)
  pub held : (f : File) → file_at (moment_of h).server.files file ≡ Some f → HoldsStripe h f stripe bytes

-- ---- the claim

-- The judge accepts the log of each file, and each stripe that isn't disturbed is whole.
pub record IsRight (h : List Line) : Type 0 where
  pub accepted : (file : ℕ) → Accepts (log_of h file)
  pub whole : (file s : ℕ) → is_disturbed (moment_of h) file s ≡ false → IsWhole h file s

-- it is so if the history is calm and nothing was guessed
abbrev pub IsRightIfCalm : List Line → Type 0
IsRightIfCalm h = IsCalmHistory h → IsRight h

-- Each lawful history of a scenario's text with few messages that is calm and unguessed is right, also one that is cut inside a
-- move: the headline.
abbrev pub HeadlineHolds : Type 0
HeadlineHolds = (h : List Line) → Lawful h → IsRightIfCalm h

-- ---- repairs

-- what the last step of some lines says of the repair of a file that it ends
pub record EndsRepair (h : List Line) (file : ℕ) (r : Mended) : Type 0 where
  pub earlier : List Step
  pub last : Step
  pub steps : steps_of h ≡ earlier ++ last ∷ []
  pub found : find (λ (x : Mended). x.file == file) (mended_in (server_step (fold sees_server server_at_first earlier) last))
      ≡ Some r

-- Right behind a note that a repair is over and left no stripe short, no stripe that the repair counted is disturbed.
abbrev pub RepairsLeaveNoneDisturbed : Type 0
RepairsLeaveNoneDisturbed =
    (before : List Line) (file stripes : ℕ) (r : Mended) → Lawful (before ++ line.Note file (note.Repaired stripes 0) ∷ []) →
    AreWritten (before ++ line.Note file (note.Repaired stripes 0) ∷ []) →
    EndsRepair (before ++ line.Note file (note.Repaired stripes 0) ∷ []) file r →
    (s : ℕ) → is_worked s r.worked ≡ true →
    is_disturbed (moment_of (before ++ line.Note file (note.Repaired stripes 0) ∷ [])) file s ≡ false

-- the file before a step that stands behind these
abbrev pub IsBefore : List Step → (file : ℕ) → File → Type 0
IsBefore earlier n f = file_at (fold sees_server server_at_first earlier).server.files n ≡ Some f

-- The last step of some lines ends a repair of the file. It counted the stripes of the grants for writing that fences ended since
-- the last repair: those that the book before the step has as ended, and those that are live there, which a fence of the step
-- itself ends. These are so many stripes, and it left so many of them short. If it left none, no stripe that it counted is
-- disturbed.
pub record IsRepaired (h : List Line) (file stripes short : ℕ) : Type 0 where
  pub repair : Mended
  pub ends : EndsRepair h file repair
  pub before : File
  pub there : IsBefore ends.earlier file before
  pub worked : repair.worked ≡ merged (before.kept.ended ++ before.kept.grants)
  pub counted : count_stripes repair.worked ≡ stripes
  pub left : length repair.short ≡ short
  pub undisturbed : short ≡ 0 → (s : ℕ) → is_worked s repair.worked ≡ true → is_disturbed (moment_of h) file s ≡ false

-- So it is right behind a note that a repair is over, if the events up to there are such as a text has them.
abbrev pub RepairedAt : List Line → Line → Type 0
RepairedAt before (line.Note file (note.Repaired stripes short)) =
    AreWritten (before ++ line.Note file (note.Repaired stripes short) ∷ []) →
    IsRepaired (before ++ line.Note file (note.Repaired stripes short) ∷ []) file stripes short
RepairedAt before l = Unit {0}

-- so it is of each line of a lawful history
abbrev pub EachRepairLeavesNone : Type 0
EachRepairLeavesNone = (before : List Line) (l : Line) → Lawful (before ++ l ∷ []) → RepairedAt before l

-- ---- audits

-- no audit of it found a bad stripe, if it is calm and nothing was guessed
abbrev pub HasNoBadAudit : List Line → Type 0
HasNoBadAudit h =
    IsCalmHistory h → (file stripes short bad bytes : ℕ) →
    In (line.Note file (note.Audited stripes short bad bytes)) h → bad ≡ 0

-- Each audit of a calm and unguessed history finds no bad stripe.
abbrev pub AuditsFindNone : Type 0
AuditsFindNone = (h : List Line) → Lawful h → HasNoBadAudit h
