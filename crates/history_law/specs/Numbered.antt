-- The nonces of the commands that the server sends: no two have the same.
use Rattle.std.specs.Prelude.{◌≡◌, ◌⊎◌, ℕ, ◌+◌, List, [], ◌∷◌, length}
use Rattle.osd_commands.specs.declared.commands.Command.{Command}
use Rattle.history_law.specs.Names.{Server, File, Awaited, ToDrive}
use Rattle.server_rules.specs.Files.{Step, to_drive}
use Rattle.server_rules.specs.Messages.{awaited_by}
use Rattle.server_rules.specs.History.{Input, Act, step, state_after}
use Rattle.server_rules.specs.Laws.{In}

-- the nonces are those from n on, in order
abbrev pub Numbered : (n : ℕ) → List Awaited → Type 0
Numbered n [] = Unit {0}
Numbered n (a ∷ ws) = (a.command.nonce ≡ n) × Numbered (n + 1) ws

-- the job of one of these files awaits the command
abbrev pub Awaits : List File → Awaited → Type 0
Awaits fs a = (f : File) × In f fs × In a (awaited_by f.job)

-- what goes to the drive is this command, under some check value
abbrev pub IsOf : (drive : ℕ) → Command → Awaited → Type 0
IsOf drive c a = (a.drive ≡ drive) × (c ≡ record a.command { check = c.check })

-- A step numbers its new commands from the server's next nonce on, and that rises by as many. What jobs await behind it
-- was awaited before or is new, and so is each command that is sent. Each new one is sent, under its drive's key.
pub record NumbersOn (s : Server) (t : Step) : Type 0 where
  pub fresh : List Awaited
  pub numbered : Numbered s.next_nonce fresh
  pub rises : t.state.next_nonce ≡ s.next_nonce + length fresh
  pub waits : (a : Awaited) → Awaits t.state.files a → Awaits s.files a ⊎ In a fresh
  pub sends : (drive : ℕ) (c : Command) → In (ToDrive drive c) t.sends →
      (a : Awaited) × IsOf drive c a × (Awaits s.files a ⊎ In a fresh)
  pub goes_out : (a : Awaited) → In a fresh → In (to_drive t.state.drives a) t.sends

-- so does each step
abbrev pub EachStepNumbers : Type 0
EachStepNumbers = (s : Server) (chosen : List ℕ) (i : Input) → NumbersOn s (step s chosen i)

-- What the steps of a run send anew, one after another, has the nonces from the server's next one on: none comes twice.
pub record RunNumbers (s : Server) (acts : List Act) : Type 0 where
  pub fresh : List Awaited
  pub numbered : Numbered s.next_nonce fresh
  pub rises : (state_after s acts).next_nonce ≡ s.next_nonce + length fresh
  pub waits : (a : Awaited) → Awaits (state_after s acts).files a → Awaits s.files a ⊎ In a fresh

abbrev pub EachRunNumbers : Type 0
EachRunNumbers = (s : Server) (acts : List Act) → RunNumbers s acts
