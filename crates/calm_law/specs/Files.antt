-- The files that are kept, and those that a moment shows.
use Rattle.std.specs.Prelude.{◌≡◌, ℕ, true, false, ◌&&◌, nat_lt, List, [], ◌∷◌, Some, None, is_some}
use Rattle.std.specs.List.{fold, list_any}
use Rattle.data_map.specs.Striping.{parities}
use Rattle.scenario_text.specs.declared.line.Note.{Note}
use Rattle.scenario_text.specs.declared.line.Line.{Line}
use Rattle.server_rules.specs.Files.{file_at}
use Rattle.server_rules.specs.Numbers.{among}
use Rattle.world_history.specs.ServerNames.{File, Mended}
use Rattle.world_history.specs.State.{at_number}
use Rattle.world_history.specs.Stripes.{Moment, is_short_stripe}
use Rattle.world_history.specs.Calm.{noted_in}
use Rattle.world_calm.specs.Files.{FilesState, no_files, is_short_at}
use Rattle.world_calm.specs.Seeing.{CalmState, KeptOf, fails, noted, follows}
use Rattle.component_law.specs.Words.{IsSorted, is_there}
use Rattle.calm_law.specs.Words.{seen_in, IsKeptOf}
use Rattle.component_law.specs.ShownFiles.{shows_file}

-- ---- what stands for what

-- The files that are kept are those of a moment: each that was there when its step began, and no other. The same drives
-- failed. The files stand by rising numbers.
pub record KeepsFiles (there now : List File) (fallen : List ℕ) (t : FilesState) : Type 0 where
  pub files : (n : ℕ) → is_there there n ≡ true → at_number t.files n ≡ seen_in (file_at now n)
  pub others : (n : ℕ) → is_there there n ≡ false → at_number t.files n ≡ None
  pub failed : (d : ℕ) → among d t.failed ≡ among d fallen
  pub sorted : IsSorted t.files

-- ---- which files the lines of a step show anew

-- Of what else a step changes of components, its notes told: any other file is behind the step as it is kept.
abbrev pub IsTold : FilesState → (behind : List File) → List Line → Type 0
IsTold t behind lines =
    (n : ℕ) → list_any (shows_file (is_some (at_number t.files n)) behind n) lines ≡ false
    → seen_in (file_at behind n) ≡ at_number t.files n

-- ---- what holds of them

-- a stripe is short
abbrev pub ShortAlike : Type 0
ShortAlike =
    (there : List File) (m : Moment) (t : FilesState) (n s : ℕ) (f : File) → KeepsFiles there m.server.files m.failed t
    → is_there there n ≡ true → file_at m.server.files n ≡ Some f
    → is_short_at t n s ≡ (nat_lt 0 (parities f.kept.map) && is_short_stripe m f s)

-- a drive fails
abbrev pub FailsAlike : Type 0
FailsAlike =
    (there now : List File) (failed : List ℕ) (c : CalmState) (d : ℕ) → KeepsFiles there now failed c.files
    → KeepsFiles there now (d ∷ failed) (fails c d).files

-- a note
abbrev pub NotesAlike : Type 0
NotesAlike =
    (rs : List Mended) (there now : List File) (failed : List ℕ) (c : CalmState) (n : ℕ) (what : Note)
    → KeepsFiles there now failed c.files
    → KeepsFiles there (noted_in now n what (file_at now n)) failed (noted rs c n what).files

-- the lines of a step behind its moments
abbrev pub StepsAlike : Type 0
StepsAlike =
    (kept : KeptOf) (there now behind : List File) (failed : List ℕ) (c : CalmState) (lines : List Line)
    → KeepsFiles there now failed c.files → IsKeptOf behind kept → IsTold c.files behind lines
    → KeepsFiles behind behind failed (fold (follows kept) c lines).files

pub record FilesAreKept : Type 0 where
  pub first : KeepsFiles [] [] [] no_files
  pub short : ShortAlike
  pub fails : FailsAlike
  pub notes : NotesAlike
  pub steps : StepsAlike
