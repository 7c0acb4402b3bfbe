-- The marks that are kept, and those of the moments.
use Rattle.std.specs.Prelude.{◌≡◌, ℕ, Bool, false, true, ◌==◌, ◌&&◌, ◌<◌, not, nat_lt, List, [], find, length, slice_get, Option, Some, None}
use Rattle.std.specs.List.{list_any}
use Rattle.data_map.specs.Striping.{parities}
use Rattle.scenario_text.specs.declared.line.Note.{Note}
use Rattle.scenario_text.specs.declared.line.Line.{Line}
use Rattle.server_rules.specs.Files.{file_at}
use Rattle.server_rules.specs.Numbers.{among}
use Rattle.world_history.specs.ServerNames.{File, Mended}
use Rattle.world_history.specs.Stripes.{Mark, is_in}
use Rattle.world_history.specs.Calm.{marks_behind}
use Rattle.world_calm.specs.declared.calls.LogEntry.{LogEntry}
use Rattle.world_calm.specs.declared.marks.Marked.{Marked}
use Rattle.world_calm.specs.Marking.{is_of}
use Rattle.world_calm.specs.Seeing.{CalmState, noted, logs, taken_by}
use Rattle.component_law.specs.Words.{Each, is_there}

-- ---- marks of an entry in a stripe

abbrev pub any_mark : (file stripe entry : ℕ) → List Mark → Bool
any_mark f s n ks = list_any (λ (k : Mark). is_in f s k && (k.entry == n)) ks

abbrev pub any_marked : (file stripe entry : ℕ) → List Marked → Bool
any_marked f s n ms = list_any (λ (m : Marked). is_of n f m && among s m.stripes) ms

-- ---- entries that aren't finished

abbrev pub is_open : Option LogEntry → Bool
is_open None = false
is_open (Some e) = not e.finished

abbrev pub open_at : List LogEntry → (n : ℕ) → Bool
open_at es n = is_open (slice_get es n)

-- marks are of such an entry
abbrev pub IsReal : List LogEntry → Marked → Type 0
IsReal es m = slice_get es m.write ≡ Some (record { client = m.client; grant = m.grant; finished = false })

-- ---- files with parity

abbrev pub has_parity_in : Option File → Bool
has_parity_in None = false
has_parity_in (Some f) = nat_lt 0 (parities f.kept.map)

abbrev pub has_parity : List File → (n : ℕ) → Bool
has_parity fs n = has_parity_in (file_at fs n)

-- ---- what stands for what

-- Of a file with parity and an entry that isn't finished the same stripes are marked. What is marked is of a file that was
-- there, and of an entry of the log; what is kept is of one that isn't finished.
pub record KeepsMarks (there : List File) (es : List LogEntry) (ks : List Mark) (ms : List Marked) : Type 0 where
  pub same : (f s n : ℕ) → has_parity there f ≡ true → open_at es n ≡ true → any_mark f s n ks ≡ any_marked f s n ms
  pub known : (f s n : ℕ) → any_mark f s n ks ≡ true → (is_there there f ≡ true) × (n < length es)
  pub real : Each (λ m. IsReal es m × (is_there there m.file ≡ true)) ms

-- ---- what holds of them

-- a line
abbrev pub LinesMark : Type 0
LinesMark =
    (there : List File) (ks : List Mark) (c : CalmState) (x : Line) → KeepsMarks there c.log.entries ks c.marks
    → KeepsMarks there (logs c x).log.entries ks (logs c x).marks

-- a report that is taken as a loss
abbrev pub TakenMarks : Type 0
TakenMarks =
    (there : List File) (ks : List Mark) (c : CalmState) (rest : List Line) (returned : Option ℕ)
    → KeepsMarks there c.log.entries ks c.marks
    → KeepsMarks there (taken_by c rest returned).log.entries ks (taken_by c rest returned).marks

-- files of a moment have the maps that they had when its step began
abbrev pub HaveMaps : (there now : List File) → Type 0
HaveMaps there now =
    (n : ℕ) (f : File) → file_at there n ≡ Some f → (g : File) × (file_at now n ≡ Some g) × (g.kept.map ≡ f.kept.map)

-- a note
abbrev pub NotesMark : Type 0
NotesMark =
    (rs : List Mended) (there now : List File) (ks : List Mark) (c : CalmState) (n : ℕ) (what : Note)
    → HaveMaps there now → KeepsMarks there c.log.entries ks c.marks
    → KeepsMarks there (noted rs c n what).log.entries
    (marks_behind ks what (file_at now n) (find (λ (r : Mended). r.file == n) rs)) (noted rs c n what).marks

pub record MarksAreKept : Type 0 where
  pub first : KeepsMarks [] [] [] []
  pub lines : LinesMark
  pub taken : TakenMarks
  pub notes : NotesMark
