-- The words of the program's commands.
use Rattle.std.specs.Prelude.{ℕ, if◌then◌else◌, List, [], ◌∷◌, Option, Some, None, codes, nat_le}
use Rattle.std.specs.Str.{bytes_eq}
use Rattle.scenario_text.specs.Keywords.{word_in}
use Rattle.scenario_text.specs.Reading.{decimal_of}
use Rattle.layout_types.specs.declared.kind.Kind.{Kind}
use Rattle.layout_types.specs.declared.kind.Kind.TheVariants.{Map, Cred, Layout, DeviceAddr, Update, IoErrs, Hint}
use Rattle.osd_replay.specs.declared.command.Inspection.{Inspection}
use Rattle.osd_replay.specs.declared.command.Inspection.TheVariants.{Show, Check}
use Rattle.osd_replay.specs.declared.command.Command.{Command}
use Rattle.osd_replay.specs.declared.command.Command.TheVariants.{Replay, Generate, Inspect}
use Rattle.osd_replay.specs.declared.command.TheConstants.{MAX_CALLS}

unfoldable pub kind_of : List ℕ → Option Kind
kind_of word = word_in (
    (codes "map", Map)
    ∷ (codes "cred", Cred)
    ∷ (codes "layout", Layout)
    ∷ (codes "deviceaddr", DeviceAddr)
    ∷ (codes "update", Update)
    ∷ (codes "ioerrs", IoErrs)
    ∷ (codes "hint", Hint) ∷ []
    ) word

unfoldable pub inspection_of : List ℕ → Option Inspection
inspection_of word = word_in ((codes "show", Show) ∷ (codes "check", Check) ∷ []) word

abbrev pub inspects : Option Inspection → Option Kind → Option Command
inspects None kind = None
inspects (Some inspection) None = None
inspects (Some inspection) (Some kind) = Some (Inspect inspection kind)

abbrev pub generates : Option ℕ → Option ℕ → Option Command
generates None calls = None
generates (Some seed) None = None
generates (Some seed) (Some calls) = if nat_le calls MAX_CALLS then Some (Generate seed calls) else None

-- `replay`, `generate N K`, `show KIND` and `check KIND`; numbers are decimal, of 64 bits, without leading zeros
abbrev pub command_of : List (List ℕ) → Option Command
command_of [] = None
command_of (word ∷ []) = if bytes_eq word (codes "replay") then Some Replay else None
command_of (word ∷ kind ∷ []) = inspects (inspection_of word) (kind_of kind)
command_of (word ∷ seed ∷ calls ∷ []) =
    if bytes_eq word (codes "generate") then generates (decimal_of seed) (decimal_of calls) else None
command_of (word ∷ seed ∷ calls ∷ more ∷ words) = None
