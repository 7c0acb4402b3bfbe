-- What is shown in the machine of a file, and what drives replied: how both grow.
use Rattle.std.specs.Prelude.{◌≡◌, ◌⊎◌, ℕ, List}
use Rattle.server_rules.specs.Laws.{In}
use Rattle.client_rules.specs.Io.{got_of}
use Rattle.osd_commands.specs.declared.replies.Reply.{Reply}
use Rattle.world_history.specs.ClientNames.{Awaited}
use Rattle.world_history.specs.State.{World}
use Rattle.fence_law.specs.State.{State, ReadReply}
use Rattle.fence_law.specs.Words.{In as InRun}
use Rattle.file_simulation.specs.Messages.{HasReplied, WasPerformed, WasShown}

-- the machine keeps its layout, and what was shown
pub record ShownGrows (s t : State) : Type 0 where
  pub layout : t.layout ≡ s.layout
  pub shown : (r : ReadReply) → InRun r s.shown → InRun r t.shown

-- each such reply that a later world has to one of these commands was there before, or is shown to entry j
abbrev pub NewAreShown : (w v : World) → State → (c j : ℕ) → List Awaited → Type 0
NewAreShown w v t c j awaited =
    (a : Awaited) (r : Reply) → In a awaited → WasPerformed v c a r →
    HasReplied w a.drive c r ⊎ WasShown t j a.ask.component (got_of a r)
