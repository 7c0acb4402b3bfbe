-- How the job that makes a component anew goes on in a step of the server.
use Rattle.std.specs.Prelude.{◌≡◌, ◌⊎◌, ℕ, ◌≤◌, true, false, nat_lt, List, [], ◌∷◌, replicate, Some}
use Rattle.osd_lists.specs.declared.node.Node.TheVariants as node
use Rattle.osd_commands.specs.declared.replies.Reply.{Reply}
use Rattle.server_rules.specs.Columns.{end_of}
use Rattle.server_rules.specs.Files.{file_at}
use Rattle.server_rules.specs.History.{Input, Hears, step}
use Rattle.server_rules.specs.Laws.{In, AreSafe}
use Rattle.server_rules.specs.Maps.{group_with, pieces_in}
use Rattle.server_rules.specs.Messages.{Replies}
use Rattle.server_rules.specs.Rebuild.{made, sources, to_fill}
use Rattle.server_rules.specs.Replies.{Done, answers, hearing, others, heard_with}
use Rattle.world_history.specs.ServerNames.{Server, File, Kept, Awaited, Piece, Target, Job, Targets, Gathers, Fills, Still}
use Rattle.component_law.specs.Objects.{NoneIs, objects_of, target_in, target_of}
use Rattle.component_law.specs.Distinct.{AreDistinct}
use Rattle.headline_law.specs.TargetLaws.{IsAskedOrHeard}

-- ---- what comes

-- the reply that comes is to the only command that the job awaits, and says that it is done
pub record IsLastReply (i : Input) (f : File) (j : Job) : Type 0 where
  pub now : ℕ
  pub drive : ℕ
  pub reply : Reply
  pub awaited : Awaited
  pub hears : i ≡ Hears now (node.Drive drive) (Replies reply)
  pub awaits : In awaited j.awaited
  pub answer : answers drive reply awaited ≡ true
  pub is_done : hearing f.kept awaited reply ≡ Done
  pub last : others j.awaited awaited.command.nonce ≡ []

-- what is made of the rows that were heard then
abbrev pub made_of : {i : Input} → {f : File} → {j : Job} → IsLastReply i f j → Target → Piece → List ℕ
made_of {i} {f} {j} r t p = made f.kept t p (heard_with j r.awaited r.reply)

-- ---- how the job goes on

-- a command that asks what another asked, perhaps under another nonce and in another format
pub record AsksAgain (a b : Awaited) : Type 0 where
  pub component : b.component ≡ a.component
  pub drive : b.drive ≡ a.drive
  pub action : b.command.action ≡ a.command.action
  pub object : b.command.object ≡ a.command.object
  pub offset : b.command.offset ≡ a.command.offset
  pub count : b.command.length ≡ a.command.length
  pub payload : b.command.payload ≡ a.command.payload

-- the job waits on for what it asked
pub record WaitsOn (f g : File) (j l : Job) : Type 0 where
  pub work : l.work ≡ j.work
  pub awaited : (b : Awaited) → In b l.awaited → (a : Awaited) × In a j.awaited × AsksAgain a b
  pub asked : (k : ℕ) → IsAskedOrHeard j k → IsAskedOrHeard l k
  pub present : (t : Target) (todo : List Piece) → j.work ≡ Gathers t todo → g.kept.components ≡ f.kept.components

-- these pieces are to be done next
pub data AreNext (i : Input) (f : File) (j : Job) (t : Target) (todo : List Piece) : Type 0 where
  -- the target's object was made
  Begun : j.work ≡ Targets t → todo ≡ pieces_in f.kept.map (group_with f.kept.map t.component) f.kept.high →
      IsLastReply i f j → AreNext i f j t todo
  -- the piece under way begins again
  Again : (j.work ≡ Gathers t todo) ⊎ (j.work ≡ Fills t todo) → AreNext i f j t todo
  -- the piece before was of zeros, or was written
  PastZeros : (p : Piece) → j.work ≡ Gathers t (p ∷ todo) → (r : IsLastReply i f j) →
      nat_lt 0 (end_of (made_of r t p) (replicate p.count 0)) ≡ false → AreNext i f j t todo
  PastWritten : (p : Piece) → j.work ≡ Fills t (p ∷ todo) → IsLastReply i f j → AreNext i f j t todo

-- how job j goes on as l
pub data JobGoes (i : Input) (f g : File) (j l : Job) (t : Target) : Type 0 where
  Waits : WaitsOn f g j l → JobGoes i f g j l t
  Reads : (p : Piece) (ps : List Piece) (nonce : ℕ) → l.work ≡ Gathers t (p ∷ ps) → l.heard ≡ [] →
      l.awaited ≡ sources g.kept t p nonce → (sources g.kept t p nonce ≡ [] → ⊥) → AreNext i f j t (p ∷ ps) →
      JobGoes i f g j l t
  Writes : (p : Piece) (ps : List Piece) (nonce : ℕ) → j.work ≡ Gathers t (p ∷ ps) → l.work ≡ Fills t (p ∷ ps) →
      (r : IsLastReply i f j) → nat_lt 0 (end_of (made_of r t p) (replicate p.count 0)) ≡ true →
      l.awaited ≡ to_fill f.kept t p (made_of r t p) nonce ∷ [] → JobGoes i f g j l t

-- ---- a step

-- the file is the same but for its components and its format
pub record IsSameStill (f g : Kept) : Type 0 where
  pub map : g.map ≡ f.map
  pub high : g.high ≡ f.high
  pub tag : g.tag ≡ f.tag
  pub phase : g.phase ≡ f.phase

-- A target behind a step is new: its object has a new number; or the file's job had it, and goes on so.
pub data TargetGoes (next : ℕ) (i : Input) (f g : File) (l : Job) (t : Target) : Type 0 where
  New : l.work ≡ Targets t → next ≤ t.object → TargetGoes next i f g l t
  Old : (j : Job) → f.job ≡ Some j → target_in j.work ≡ Some t → IsSameStill f.kept g.kept → JobGoes i f g j l t →
      TargetGoes next i f g l t

-- What is known of the file before the step and behind it: what is made anew is so while the file is still, and its object is
-- no component's; and no two commands that the job awaits have one nonce.
pub record MayGo (f g : File) : Type 0 where
  pub still : (t : Target) → target_of f.job ≡ Some t → f.kept.phase ≡ Still
  pub alone : (j : Job) → f.job ≡ Some j → (a b : Awaited) → In a j.awaited → In b j.awaited →
      a.command.nonce ≡ b.command.nonce → a ≡ b
  pub apart : (t : Target) → target_of g.job ≡ Some t → NoneIs t.object (objects_of g.kept.components)

-- So it is of each target in each step.
abbrev pub TargetsGo : Type 0
TargetsGo =
    (s : Server) (chosen : List ℕ) (i : Input) → AreDistinct s.files → AreSafe s.files → (f g : File) →
    file_at s.files f.kept.number ≡ Some f → file_at (step s chosen i).state.files f.kept.number ≡ Some g → MayGo f g →
    (l : Job) (t : Target) → g.job ≡ Some l → target_in l.work ≡ Some t → TargetGoes s.next_object i f g l t
