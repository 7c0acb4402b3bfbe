-- A WRITE that is performed marks the same stripes here and there.
use Rattle.std.specs.Prelude.{◌≤◌, ◌<◌, ℕ, List, ◌++◌, length, slice_get}
use Rattle.osd_commands.specs.declared.commands.Command.{Command}
use Rattle.world_history.specs.ServerNames.{File}
use Rattle.world_history.specs.Stripes.{Mark, marks_of}
use Rattle.osd_drive.specs.declared.limits.TheConstants.{MAX_END}
use Rattle.world_calm.specs.Seeing.{CalmState, KeptOf, marks_for}
use Rattle.calm_law.specs.Files.{KeepsFiles}
use Rattle.calm_law.specs.Marks.{KeepsMarks}
use Rattle.component_law.specs.Distinct.{AreDistinct, HaveComponents}

-- a WRITE of entry number n of the log is performed on a drive
abbrev pub WritesMark : Type 0
WritesMark =
    (kept : KeptOf) (fs : List File) (fallen : List ℕ) (ks : List Mark) (c : CalmState) (d : ℕ) (x : Command) (n : ℕ)
    → AreDistinct fs → HaveComponents fs → x.offset ≤ MAX_END → n < length c.log.entries
    → KeepsFiles fs fs fallen c.files → KeepsMarks fs c.log.entries ks c.marks
    → KeepsMarks fs c.log.entries (ks ++ marks_of fs d x.object x.offset n)
    (marks_for kept c d x n (slice_get c.log.entries n)).marks
