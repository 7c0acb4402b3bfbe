-- Whose commands the server sends: they are under its own holder.
use Rattle.std.specs.Prelude.{◌≡◌, ℕ, List}
use Rattle.osd_commands.specs.declared.commands.Command.{Command}
use Rattle.server_rules.specs.declared.limits.TheConstants.{SERVER_HOLDER}
use Rattle.history_law.specs.Names.{Server, File, Awaited, ToDrive}
use Rattle.server_rules.specs.Files.{Step}
use Rattle.server_rules.specs.History.{Input, step}
use Rattle.server_rules.specs.Laws.{In}
use Rattle.history_law.specs.Numbered.{Awaits}

-- it names the server's holder
abbrev pub IsOwned : Awaited → Type 0
IsOwned a = a.command.capability.holder ≡ SERVER_HOLDER

-- so does what the jobs of these files await
abbrev pub AreOwned : List File → Type 0
AreOwned fs = (a : Awaited) → Awaits fs a → IsOwned a

-- a step keeps that, and so is what it sends to drives
pub record Owns (s : Server) (t : Step) : Type 0 where
  pub waits : AreOwned s.files → AreOwned t.state.files
  pub sends : AreOwned s.files → (drive : ℕ) (c : Command) → In (ToDrive drive c) t.sends →
      c.capability.holder ≡ SERVER_HOLDER

-- so does each step
abbrev pub EachStepOwns : Type 0
EachStepOwns = (s : Server) (chosen : List ℕ) (i : Input) → Owns s (step s chosen i)
