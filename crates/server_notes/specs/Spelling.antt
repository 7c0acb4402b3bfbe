-- Remarks as XDR spells them.
use Rattle.std.specs.Prelude.{◌<◌, ◌^◌, ℕ, List, [], ◌++◌}
use Rattle.xdr_codec.specs.Items.{u32_item, u64_item}
use Rattle.layout_types.specs.Grammar.{list_item}
use Rattle.layout_types.specs.Spelling.{ListFits}
use Rattle.server_rules.specs.declared.notes.NoteKind.{NoteKind}
use Rattle.server_rules.specs.declared.notes.NoteKind.TheVariants.{Repaired, NoDrive, Lost, Audit}
use Rattle.server_notes.specs.declared.remark.Remark.{Remark}
use Rattle.server_notes.specs.declared.remark.Remark.TheVariants.{Asks, Dealt}
use Rattle.server_notes.specs.declared.remark.TheConstants.{NOTED}

-- a kind of note that may ask for something, and what it announces; the others have no spelling
abbrev pub kind_item : NoteKind → List ℕ
kind_item (Repaired stripes short) = u32_item 1 ++ (u64_item stripes ++ u64_item short)
kind_item (NoDrive component) = u32_item 2 ++ u32_item component
kind_item (Lost component positions) = u32_item 3 ++ (u32_item component ++ list_item u32_item positions)
kind_item (Audit stripes short bad bytes) =
    u32_item 4 ++ (u64_item stripes ++ (u64_item short ++ (u64_item bad ++ u64_item bytes)))
kind_item other = []

abbrev pub KindFits : NoteKind → Type 0
KindFits (Repaired stripes short) = (stripes < 2 ^ 64) × (short < 2 ^ 64)
KindFits (NoDrive component) = component < 2 ^ 32
KindFits (Lost component positions) = (component < 2 ^ 32) × ListFits (λ n. n < 2 ^ 32) positions
KindFits (Audit stripes short bad bytes) = (stripes < 2 ^ 64) × (short < 2 ^ 64) × (bad < 2 ^ 64) × (bytes < 2 ^ 64)
KindFits other = ⊥

-- a number that no list of entries has, the file, and the note's kind or 0
abbrev pub remark_item : Remark → List ℕ
remark_item (Asks n) = u32_item NOTED ++ (u32_item n.file ++ kind_item n.kind)
remark_item (Dealt file) = u32_item NOTED ++ (u32_item file ++ u32_item 0)

abbrev pub RemarkFits : Remark → Type 0
RemarkFits (Asks n) = (n.file < 2 ^ 32) × KindFits n.kind
RemarkFits (Dealt file) = file < 2 ^ 32
