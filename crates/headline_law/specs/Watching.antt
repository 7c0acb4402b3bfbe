-- How the moments inside a step of the server go, note by note, beside the machine of a file.
use Rattle.std.specs.Prelude.{◌≡◌, ℕ, Bool, true, false, length, slice_get, List, [], ◌∷◌, Some}
use Rattle.server_rules.specs.Files.{file_at}
use Rattle.world_history.specs.ServerNames.{File, Component, Grant}
use Rattle.world_history.specs.Stripes.{Moment, is_lost}
use Rattle.scenario_text.specs.declared.line.Note.{Note as ToldNote}
use Rattle.scenario_text.specs.declared.line.Note.TheVariants as note
use Rattle.scenario_text.specs.declared.line.Line.{Line}
use Rattle.scenario_text.specs.declared.line.Line.TheVariants as line
use Rattle.world_history.specs.Calm.{noted}
use Rattle.fence_law.specs.State.{State}
use Rattle.fence_law.specs.Columns.{Disturbed}
use Rattle.plan_law.specs.FileLayout.{layout_of}
use Rattle.file_simulation.specs.Showing.{Pairs, HasMark}

-- The same log, failed drives and stopped clients.
pub record IsBeside (m n : Moment) : Type 0 where
  pub log : n.log ≡ m.log
  pub failed : n.failed ≡ m.failed
  pub stopped : n.stopped ≡ m.stopped

-- What disturbs a column of machine t disturbed one of machine s before, as the same entry.
abbrev pub CameFrom : (s t : State) → Type 0
CameFrom s t =
    (x : ℕ) (d : Disturbed t x) → (b : Disturbed s x) × (b.0 ≡ d.0) × (t.start d.0 ≡ s.start d.0)

-- Behind machine s and moment m, the moment n shows machine t. `f` is the file before the step, and its grants are these
-- through the step's notes.
pub record IsSeen (s : State) (m : Moment) (f : File) (grants : List Grant) (pairs : Pairs) (t : State) (n : Moment) : Type 0
  where
    pub file : File
    pub there : file_at n.server.files f.kept.number ≡ Some file
    pub number : file.kept.number ≡ f.kept.number
    pub map : file.kept.map ≡ f.kept.map
    pub granted : file.kept.grants ≡ grants
    pub long : length file.kept.components ≡ f.kept.map.comps
    pub beside : IsBeside m n
    pub layout : t.layout ≡ layout_of f.kept.map f.kept.first_tag
    pub came : CameFrom s t
    pub lost : (k : ℕ) (at : Component) → slice_get file.kept.components k ≡ Some at → t.lost k ≡ true → is_lost n at ≡ true
    pub marks : (x : ℕ) (d : Disturbed t x) → HasMark t n file pairs d.0 x
    -- no fence and no repair begins in the notes
    pub rests : s.fencing ≡ false → s.repairing ≡ false → (t.fencing ≡ false) × (t.repairing ≡ false)

-- ---- lines that change no moment

-- the note tells of no repair
abbrev pub is_no_repair : ToldNote → Bool
is_no_repair (note.Repaired stripes short) = false
is_no_repair what = true

-- a line that leaves the files and the marks of a moment
abbrev pub Leaves : Line → Type 0
Leaves (line.Note n what) = (is_no_repair what ≡ true) × ((cs : List Component) → noted cs what ≡ cs)
Leaves l = Unit {0}

abbrev pub AllLeave : List Line → Type 0
AllLeave [] = Unit {0}
AllLeave (l ∷ ls) = Leaves l × AllLeave ls
