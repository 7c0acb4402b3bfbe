-- WRITEs that begin within what a drive performs.
use Rattle.std.specs.Prelude.{◌≡◌, ◌≤◌, ℕ, true, List, Option, Some, Ok}
use Rattle.osd_commands.specs.declared.commands.Command.{Command}
use Rattle.osd_commands.specs.Commands.{reading}
use Rattle.osd_drive.specs.Table.{is_write}
use Rattle.osd_drive.specs.declared.limits.TheConstants.{MAX_END}

-- a WRITE among the bytes of a message is within what a drive performs
abbrev pub IsWithin : Option (List ℕ) → Type 0
IsWithin bytes =
    (b : List ℕ) (x : Command) → bytes ≡ Some b → reading b ≡ Ok x → is_write x.action ≡ true → x.offset ≤ MAX_END
