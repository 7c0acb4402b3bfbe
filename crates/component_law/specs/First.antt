-- No command goes to an object under an earlier tag than its CREATE.
use Rattle.std.specs.Prelude.{◌≡◌, ◌≤◌, ℕ, true, false, List, []}
use Rattle.osd_commands.specs.declared.actions.Action.TheVariants.{Create}
use Rattle.server_rules.specs.Laws.{In}
use Rattle.server_rules.specs.Making.{new_server}
use Rattle.server_rules.specs.Messages.{awaited_by, counters_have_room}
use Rattle.server_rules.specs.History.{Act, state_after}
use Rattle.history_law.specs.Names.{File, Awaited, Command, ToDrive}
use Rattle.component_law.specs.Tagged.{sent_over}
use Rattle.component_law.specs.Turns.{AreInTurn}

-- While the CREATE of an object is awaited, all that was sent to the object so far has the file's tag or a later one, over
-- each run in turn whose counters had room.
abbrev pub CreatesAreFirst : Type 0
CreatesAreFirst =
    (acts : List Act) → AreInTurn false acts → counters_have_room (state_after (new_server []) acts) ≡ true →
    (f : File) → In f (state_after (new_server []) acts).files →
    (a : Awaited) → In a (awaited_by f.job) → a.command.action ≡ Create →
    (drive : ℕ) (c : Command) → In (ToDrive drive c) (sent_over (new_server []) acts) →
    c.object ≡ a.command.object → f.kept.tag ≤ c.capability.tag
