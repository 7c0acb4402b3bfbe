-- How the tag of a file goes on in a step of the server.
use Rattle.std.specs.Prelude.{◌≡◌, ◌≤◌, ◌<◌, ℕ, List, Some}
use Rattle.world_history.specs.ServerNames.{Server, File, Note, Fenced}
use Rattle.server_rules.specs.Files.{file_at}
use Rattle.server_rules.specs.History.{Input, step}
use Rattle.server_rules.specs.Laws.{In}
use Rattle.component_law.specs.Sound.{IsSound}

-- a fence of the file is over, and this is its tag
abbrev pub fence_note : (file tag : ℕ) → Note
fence_note n tag = record { file = n; kind = Fenced tag }

-- File n is there still, and its tag doesn't fall. Where a fence of it is over in these notes, the note tells a later tag
-- than it had before.
pub record TagRises (n : ℕ) (f : File) (files : List File) (notes : List Note) : Type 0 where
  pub behind : File
  pub there : file_at files n ≡ Some behind
  pub rises : f.kept.tag ≤ behind.kept.tag
  pub later : (tag : ℕ) → In (fence_note n tag) notes → f.kept.tag < tag

-- so it is of each file in each step
abbrev pub EachStepRaisesTags : Type 0
EachStepRaisesTags =
    (s : Server) (chosen : List ℕ) (i : Input) → IsSound s → (n : ℕ) (f : File) → file_at s.files n ≡ Some f
    → TagRises n f (step s chosen i).state.files (step s chosen i).notes
