-- What a call awaits of the drives, and what it has queued, at each moment: in every history, whatever came to its client.
use Rattle.std.specs.Prelude.{◌≡◌, ◌<◌, Bool, false, List, Option, Some, None}
use Rattle.client_rules.specs.Calls.{file_of}
use Rattle.client_rules.specs.Commands.{nonce_at}
use Rattle.client_rules.specs.Grants.{held_of}
use Rattle.client_rules.specs.Io.{awaited_in}
use Rattle.client_rules.specs.Laws.{nonce_of}
use Rattle.server_rules.specs.Laws.{In}
use Rattle.world_history.specs.ClientNames.{Awaited, Call, Client, Done, Held, Moved, Phase, Scatters, Turn, Goes, Ends, Forgets}
use Rattle.file_simulation.specs.Messages.{is_scatter}
use Rattle.gather_law.specs.Ready.{AreBelow}
use Rattle.osd_drive.specs.Table.{is_write as is_write_action}
use Rattle.relation_law.specs.CallsTurns.{IsQueueBehind, IsWorking}
use Rattle.relation_law.specs.ReadsDrive.{IsReadOf}

-- a command of this kind, at the offset that is asked; one that reads is a READ of just what is asked
pub record IsOne (write : Bool) (a : Awaited) : Type 0 where
  pub action : is_write_action a.command.action ≡ write
  pub offset : a.command.offset ≡ a.ask.offset
  pub read : write ≡ false → IsReadOf a

-- what is queued stands behind what is awaited of its component
abbrev pub QueueIn : Phase → Type 0
QueueIn (Scatters io queue) = IsQueueBehind io.awaited queue
QueueIn p = Unit {0}

-- What a phase awaits is of its kind, with nonces that differ, and none that the grant has still to give.
pub record WorksUnder (h : Held) (p : Phase) : Type 0 where
  pub ones : (a : Awaited) → In a (awaited_in p) → IsOne (is_scatter p) a
  pub nonces : AreBelow (nonce_at h h.count) (awaited_in p)
  pub queue : QueueIn p

-- A call that works with the drives holds a grant on its file, and what it awaits is so under that.
abbrev pub CallWorks : List Held → Option Call → Type 0
CallWorks hs None = Unit {0}
CallWorks hs (Some call) =
    (IsWorking call.phase → (h : Held) × (held_of hs (file_of call.op) ≡ Some h))
    × ((h : Held) → held_of hs (file_of call.op) ≡ Some h → WorksUnder h call.phase)

abbrev pub ClientWorks : Client → Type 0
ClientWorks x = CallWorks x.held x.call

-- ---- in a turn

-- what is sent is awaited
abbrev pub SentIn : List Awaited → Option Call → Type 0
SentIn cs None = Unit {0}
SentIn cs (Some call) = (a : Awaited) → In a cs → In a (awaited_in call.phase)

pub record DoneWorks (d : Done) : Type 0 where
  pub call : CallWorks d.client.held d.client.call
  pub sent : SentIn d.commands d.client.call

-- by how a call goes on
unfoldable pub TurnWorks : Held → List Awaited → Turn → Type 0
TurnWorks h sent (Goes p) = WorksUnder h p × ((a : Awaited) → In a sent → In a (awaited_in p))
TurnWorks h sent (Ends u) = Unit {0}
TurnWorks h sent (Forgets u) = Unit {0}

-- what it sends is above what grant h had given
pub record MovedWorks (h : Held) (m : Moved) : Type 0 where
  pub turn : TurnWorks m.held m.sent m.turn
  pub above : (a : Awaited) → In a m.sent → nonce_at h h.count < nonce_of a
