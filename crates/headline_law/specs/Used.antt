-- The numbers of objects that were used: what parties sent and drives have is of these.
use Rattle.std.specs.Prelude.{◌≡◌, ℕ, ◌<◌, List, Some}
use Rattle.osd_commands.specs.declared.commands.Command.{Command}
use Rattle.osd_objects.specs.declared.object.StoredObject.{StoredObject}
use Rattle.scenario_text.specs.declared.line.Line.{Line}
use Rattle.world_history.specs.State.{World, at_number}
use Rattle.history_law.specs.BookMoments.{IsMoment}
use Rattle.exchange_law.specs.Sent.{HasSent}
use Rattle.file_simulation.specs.Claim.{IsCalmHistory}
use Rattle.file_simulation.specs.Components.{object_on}
use Rattle.file_simulation.specs.Messages.{HasCommanded}

-- Each object that a client or the server named in a command, and each that a drive has, has a number that the server used.
pub record ObjectsAreUsed (w : World) : Type 0 where
  pub sent : (c d : ℕ) (x : Command) → HasSent w c d x → x.object < w.server.next_object
  pub commanded : (d : ℕ) (x : Command) → HasCommanded w d x → x.object < w.server.next_object
  pub stored : (d n : ℕ) (o : StoredObject) → object_on (at_number w.drives d) n ≡ Some o → n < w.server.next_object

-- so it is at each moment of a calm history
abbrev pub EachObjectIsUsed : Type 0
EachObjectIsUsed = (w : World) (h : List Line) → IsMoment w h → IsCalmHistory h → ObjectsAreUsed w
