-- What a server has whose files, drives and clients lines can name, and what its steps send and note.
use Rattle.std.specs.Prelude.{◌≡◌, ℕ, ◌<◌, true, List, Option, Some, None}
use Rattle.scenario_text.specs.declared.names.TheConstants.{CLIENTS, DRIVES, FILES}
use Rattle.server_rules.specs.Envelopes.{receiver}
use Rattle.server_rules.specs.Files.{Step}
use Rattle.server_rules.specs.History.{Input, step}
use Rattle.server_rules.specs.Laws.{In}
use Rattle.server_rules.specs.Messages.{awaited_by}
use Rattle.world_history.specs.Names.{is_named, note_line, known_note_line}
use Rattle.world_history.specs.ServerNames.{Server, File, Component, Grant, Slot, Awaited, Target, Note, Outgoing}
use Rattle.history_law.specs.Placed.{AreNamed as AreNamedDrives}
use Rattle.component_law.specs.Naming.{IsNamedInput}
use Rattle.component_law.specs.Objects.{target_of}

-- ---- a file

-- a line can name the drive of each component, the holder of each grant, and each drive that is waited for
abbrev pub AreOnNamed : List Component → Type 0
AreOnNamed cs = (at : Component) → In at cs → at.drive < DRIVES

abbrev pub AreOfNamed : List Grant → Type 0
AreOfNamed gs = (g : Grant) → In g gs → g.client < CLIENTS

abbrev pub AreForNamed : List Awaited → Type 0
AreForNamed cs = (a : Awaited) → In a cs → a.drive < DRIVES

-- and the drive on which a component is made anew
abbrev pub IsNamedTarget : Option Target → Type 0
IsNamedTarget None = Unit {0}
IsNamedTarget (Some t) = t.drive < DRIVES

-- Lines can name a file, the drives of its components, the holders of its grants, and each drive that its job waits for or
-- makes a component on.
pub record IsNamedFile (f : File) : Type 0 where
  pub number : f.kept.number < FILES
  pub components : AreOnNamed f.kept.components
  pub grants : AreOfNamed f.kept.grants
  pub awaited : AreForNamed (awaited_by f.job)
  pub target : IsNamedTarget (target_of f.job)

-- ---- the server

-- They can name its drives, all this of its files, and the clients whose answers it keeps.
pub record IsNamedServer (s : Server) : Type 0 where
  pub drives : AreNamedDrives s.drives
  pub files : (f : File) → In f s.files → IsNamedFile f
  pub slots : (x : Slot) → In x s.slots → x.kept.client < CLIENTS

-- They can name each party to which a step sends, and tell each note of it.
pub record SendsToNamed (t : Step) : Type 0 where
  pub receivers : (o : Outgoing) → In o t.sends → is_named (receiver o) ≡ true
  pub notes : (n : Note) → In n t.notes → known_note_line n ≡ Some (note_line n)

-- So it is of each step of such a server, and the server is such a one behind it, where lines can name the file or the
-- drive that comes to it, if any.
abbrev pub EachServerStepIsNamed : Type 0
EachServerStepIsNamed =
    (s : Server) (chosen : List ℕ) (i : Input) → IsNamedServer s → IsNamedInput i →
    IsNamedServer (step s chosen i).state × SendsToNamed (step s chosen i)
