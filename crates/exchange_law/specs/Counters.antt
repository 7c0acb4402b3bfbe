-- How far the numbers have risen with which parties count.
use Rattle.std.specs.Prelude.{◌≡◌, ℕ, ◌+◌, ◌≤◌, true, List, length, Some}
use Rattle.scenario_text.specs.declared.line.Line.{Line}
use Rattle.server_rules.specs.declared.limits.TheConstants.{FIRST_OBJECT}
use Rattle.client_rules.specs.declared.limits.TheConstants.{GREATEST_SEQUENCE}
use Rattle.server_rules.specs.Laws.{In}
use Rattle.server_rules.specs.Messages.{counters_have_room}
use Rattle.world_history.specs.ServerNames.{Server}
use Rattle.world_history.specs.ClientNames.{Client, Held}
use Rattle.world_history.specs.State.{ClientAt, World, at_number}
use Rattle.history_law.specs.HistoryMoments.{IsReached}
use Rattle.history_law.specs.BookMoments.{IsMoment}
use Rattle.exchange_law.specs.Text.{AreOfText, AreFew}

-- Where so many messages were sent, the server has used no more grant numbers, nonces, counts of recalls and object
-- numbers: each is in a message of its own.
pub record ServerCounts (s : Server) (sent : ℕ) : Type 0 where
  pub grants : s.next_grant ≤ sent + 1
  pub nonces : s.next_nonce ≤ sent + 1
  pub recalls : s.next_recall ≤ sent + 1
  pub objects : s.next_object ≤ sent + FIRST_OBJECT

-- A client has used no more sequence numbers, and sent no more commands under any grant. It has none left only where it
-- used all.
pub record ClientCounts (c : Client) (sent : ℕ) : Type 0 where
  pub requests : c.next ≤ sent + 1
  pub spent : c.next ≡ 0 → GREATEST_SEQUENCE ≤ sent
  pub commands : (h : Held) → In h c.held → h.count ≤ sent

-- so it is of each client, at each moment
abbrev pub ClientsAreCounted : Type 0
ClientsAreCounted =
    (w : World) → IsReached w → (client : ℕ) (a : ClientAt) → at_number w.clients client ≡ Some a →
    ClientCounts a.state (length w.network.messages)

-- and of the server, at each moment of a history of a scenario's text
abbrev pub ServerIsCounted : Type 0
ServerIsCounted =
    (w : World) (h : List Line) → IsMoment w h → AreOfText h → ServerCounts w.server (length w.network.messages)

-- So its counters have room wherever few messages were sent: it takes what comes, and an opening opens its files.
abbrev pub CountersStayLow : Type 0
CountersStayLow =
    (w : World) (h : List Line) → IsMoment w h → AreOfText h → AreFew h → counters_have_room w.server ≡ true

-- the same of the lines up to a place
abbrev pub HaveRoomAt : List Line → Type 0
HaveRoomAt h = (w : World) → IsMoment w h → AreOfText h → AreFew h → counters_have_room w.server ≡ true
