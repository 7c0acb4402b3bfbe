-- The server's files in order of their numbers, and what a step leaves.
use Rattle.std.specs.Prelude.{ℕ, List, [], ◌∷◌, Option, Some, None, ◌==◌, nat_lt, if◌then◌else◌, map}
use Rattle.server_rules.specs.State.{Server, File, Awaited, Drive, Effects, Note, Mended, Outgoing, ToDrive}
use Rattle.server_rules.specs.Commands.{sealed}
use Rattle.server_rules.specs.Going.{Going}

-- ---- the list of files

-- the file with that number
unfoldable pub file_at : List File → (number : ℕ) → Option File
file_at [] n = None
file_at (f ∷ fs) n = if f.kept.number == n then Some f else file_at fs n

-- in the place of the file with that number
unfoldable pub put_file : List File → (number : ℕ) → File → List File
put_file [] n g = []
put_file (f ∷ fs) n g = if f.kept.number == n then g ∷ fs else f ∷ put_file fs n g

-- a new file, before those with greater numbers
unfoldable pub add_file : List File → File → List File
add_file [] g = g ∷ []
add_file (f ∷ fs) g = if nat_lt f.kept.number g.kept.number then f ∷ add_file fs g else g ∷ f ∷ fs

-- ---- a step

-- what a step leaves: the state, what it sends in order, its notes, and the repairs that are over
pub record Step : Type 0 where
  pub state : Server
  pub sends : List Outgoing
  pub notes : List Note
  pub mended : List Mended

-- nothing happens
abbrev pub still : Server → Step
still s = record { state = s; sends = []; notes = []; mended = [] }

-- a step begins, and nothing is sent yet
abbrev pub begins : Server → Effects
begins s = record { nonce = s.next_nonce; object = s.next_object; sent = []; notes = []; mended = [] }

-- a step at a file begins
abbrev pub at_file : Server → (chosen : List ℕ) → File → Going
at_file s chosen f = record { file = f; effects = begins s; drives = s.drives; chosen = chosen }

-- a command goes to its drive, sealed
abbrev pub to_drive : List Drive → Awaited → Outgoing
to_drive ds a = ToDrive a.drive (sealed ds a)

-- several of them
abbrev pub to_drives : List Drive → List Awaited → List Outgoing
to_drives ds cs = map (to_drive ds) cs

-- the server after a step at a file
abbrev pub after_going : Server → (number : ℕ) → Going → Server
after_going s n g = record s {
  files = put_file s.files n g.file;
  next_nonce = g.effects.nonce;
  next_object = g.effects.object;
}

-- the step of a file that sends to drives alone
abbrev pub step_at : Server → (number : ℕ) → Going → Step
step_at s n g = record {
  state = after_going s n g;
  sends = to_drives s.drives g.effects.sent;
  notes = g.effects.notes;
  mended = g.effects.mended;
}
