-- What is kept follows the moments of a history step by step.
use Rattle.std.specs.Prelude.{◌≡◌, ℕ, true, false, List, [], ◌∷◌, slice_get, Option, Some, None, if◌then◌else◌}
use Rattle.std.specs.List.{list_any}
use Rattle.scenario_text.specs.declared.event.Event.{Event}
use Rattle.scenario_text.specs.declared.line.Line.TheVariants as line
use Rattle.server_rules.specs.Files.{Step as ServerStep, file_at}
use Rattle.server_rules.specs.Numbers.{among}
use Rattle.world_history.specs.declared.messages.Sent.{Sent}
use Rattle.world_history.specs.ServerNames.{File, Mended}
use Rattle.world_history.specs.Reading.{Step}
use Rattle.world_history.specs.Stripes.{is_short_stripe}
use Rattle.world_history.specs.Book.{server_step, server_behind}
use Rattle.world_history.specs.Calm.{Seen, sees, first_seen, returned_at, is_told_taken, takes_loss, mended_in, through, performed_at, Performed as PerformedThere}
use Rattle.world_calm.specs.declared.calm.Performed.{Performed}
use Rattle.world_calm.specs.declared.files.SeenFile.{SeenFile}
use Rattle.world_calm.specs.Seeing.{CalmState, KeptOf, calm_at_first, sees as sees_step}
use Rattle.calm_law.specs.Words.{seen_in, IsKeptOf}
use Rattle.component_law.specs.Words.{is_there}
use Rattle.calm_law.specs.Files.{KeepsFiles}
use Rattle.component_law.specs.ShownFiles.{shows_file}
use Rattle.calm_law.specs.Logs.{KeepsLog}
use Rattle.calm_law.specs.Marks.{KeepsMarks, HaveMaps}
use Rattle.calm_law.specs.Harms.{AreLeft}
use Rattle.component_law.specs.Distinct.{AreDistinct, HaveComponents}
use Rattle.calm_law.specs.Flagging.{IsQuiet}
use Rattle.component_law.specs.Bounds.{IsWithin}
use Rattle.component_law.specs.Opening.{is_opening}

-- What is kept stands for what was seen of a history: the files, the drives that failed and the clients that were
-- stopped, the log, the marks, which writes are left, and whether all was calm.
pub record Follows (s : Seen) (c : CalmState) : Type 0 where
  pub server : s.moment.server ≡ s.server.server
  pub files : KeepsFiles s.moment.server.files s.moment.server.files s.moment.failed c.files
  pub stopped : (d : ℕ) → among d c.stopped ≡ among d s.moment.stopped
  pub log : KeepsLog s.moment.log c.log
  pub marks : KeepsMarks s.moment.server.files c.log.entries s.moment.marks c.marks
  pub left : (kept : KeptOf) → IsKeptOf s.moment.server.files kept → AreLeft kept c.stopped c.marks
  pub calm : c.calm ≡ s.calm
  pub quiet : IsQuiet c

-- ---- what the rules of the server and the world give of a step

abbrev pub bytes_in : Option Sent → Option (List ℕ)
bytes_in None = None
bytes_in (Some s) = Some s.bytes

-- the bytes of the same message are performed, here and there
abbrev pub PerformsAs : (there here : List Sent) → Option PerformedThere → Option Performed → Type 0
PerformsAs ss ms None None = Unit {0}
PerformsAs ss ms (Some a) (Some b) = record {
  drive : b.drive ≡ a.drive;
  message : b.message ≡ a.message;
  bytes : bytes_in (slice_get ms a.message) ≡ bytes_in (slice_get ss a.message);
  within : IsWithin (bytes_in (slice_get ss a.message));
}
PerformsAs ss ms a b = ⊥

-- what is kept of file n at the last note of a step
abbrev pub seen_then : (before noted : List File) → (n : ℕ) → Option SeenFile
seen_then before noted n = if is_there before n then seen_in (file_at noted n) else None

pub record StepFacts (s : Seen) (t : Step) (did : Option ServerStep) (kept : KeptOf) (rs : List Mended) (ms : List Sent)
    (p : Option Performed) : Type 0 where
  -- what the server keeps is as the step leaves it, and these repairs ended in it
  pub keeps : IsKeptOf (server_behind s.server.server did).files kept
  pub mended : rs ≡ mended_in did
  -- an answer that takes a loss stands among the lines
  pub told : takes_loss did ≡ true → is_told_taken t.rest ≡ true
  -- files stay, each with its map; no two have one number, and none more components than its map
  pub maps : HaveMaps s.moment.server.files (server_behind s.server.server did).files
  pub distinct : AreDistinct s.moment.server.files
  pub components : HaveComponents s.moment.server.files
  -- the network tells of the messages what the lines before tell
  pub returned : returned_at ms t.head ≡ returned_at s.server.sent t.head
  pub performed : PerformsAs s.server.sent ms (performed_at s.server.sent s.injected t.head) p
  -- the lines show each file whose components are others than its notes told
  pub shown : (n : ℕ)
      → list_any (shows_file (is_there s.moment.server.files n) (server_behind s.server.server did).files n) (t.head ∷ t.rest)
      ≡ false
      → seen_in (file_at (server_behind s.server.server did).files n)
      ≡ seen_then s.moment.server.files (through s t did).moment.server.files n
  -- and behind the notes the same stripes are short
  pub steady : (n stripe : ℕ) (f g : File) → is_there s.moment.server.files n ≡ true
      → file_at (through s t did).moment.server.files n ≡ Some f
      → file_at (server_behind s.server.server did).files n ≡ Some g
      → is_short_stripe (through s t did).moment g stripe ≡ is_short_stripe (through s t did).moment f stripe

-- ---- the law

-- before the first line
abbrev pub FollowsFirst : Type 0
FollowsFirst = Follows first_seen calm_at_first

-- and with each step of which these facts hold
abbrev pub FollowsOn : Type 0
FollowsOn =
    (s : Seen) (t : Step) (kept : KeptOf) (rs : List Mended) (ms : List Sent) (p : Option Performed) (c : CalmState)
    → Follows s c → StepFacts s t (server_step s.server t) kept rs ms p
    → Follows (sees s t) (sees_step kept rs c ms t.head t.rest p)

-- its own line is a step in which nothing changes
abbrev pub FollowsEvents : Type 0
FollowsEvents =
    (s : Seen) (c : CalmState) (e : Event) → is_opening e ≡ true → Follows s c
    → Follows (sees s (record { head = line.Event e; rest = [] })) c
