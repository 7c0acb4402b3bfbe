-- What the clients of the code do is what the world does.
use Rattle.std.specs.Prelude.{ℕ, ◌≡◌}
use Rattle.world_history.specs.ClientNames.{CallOp}
use Rattle.world_history.specs.declared.messages.Message.{Message}
use Rattle.world_history.specs.State.{World, at_number}
use Rattle.world_history.specs.Spelled.{spelled}
use Rattle.world_history.specs.Handed.{client_hears}
use Rattle.world_history.specs.Moves.{Act as Move, calls_at, times_out as times_out_at, resends as resends_at, leaves as leaves_at, pends as pends_at, stops}
use Rattle.world_network.specs.declared.acts.Act.{Act}
use Rattle.world_network.specs.Acts.{IsDone, IsHanded}
use Rattle.world_parties.specs.Client.{called, timed_out, resends, left}
use Rattle.world_parties.specs.Clients.{Table, Did, did, Heard, heard_in, pends_in, stopped}

-- the world with these clients
abbrev pub with_clients : World → Table → World
with_clients w t = record w { clients = t }

-- ---- a message

-- what a client did with the bytes of a message is what the world's does with the message
abbrev pub IsHeard : World → (client : ℕ) → Message → Heard → Type 0
IsHeard w c m h = IsHanded (client_hears w c m (at_number w.clients c)) (with_clients w h.clients) h.handed

abbrev pub ClientsHear : Type 0
ClientsHear = (w : World) (c : ℕ) (m : Message)
    → IsHeard w c m (heard_in w.clients c m.from (spelled m.body))

-- ---- calls, timeouts, and what else comes

-- what a client did is that
abbrev pub IsDid : World → Move → Did → Type 0
IsDid w m d = IsDone m (with_clients w d.clients) d.act

abbrev pub ClientsCall : Type 0
ClientsCall = (w : World) (c : ℕ) (op : CallOp)
    → IsDid w (calls_at w c op) (did w.clients c (called c op))

abbrev pub ClientsTimeOut : Type 0
ClientsTimeOut = (w : World) (c k : ℕ)
    → IsDid w (times_out_at w c k) (did w.clients c (timed_out c k))

abbrev pub ClientsResend : Type 0
ClientsResend = (w : World) (c : ℕ)
    → IsDid w (resends_at w c) (did w.clients c (resends c))

abbrev pub ClientsLeave : Type 0
ClientsLeave = (w : World) (c : ℕ)
    → IsDid w (leaves_at w c) (did w.clients c (left c))

abbrev pub ClientsPend : Type 0
ClientsPend = (w : World) (c : ℕ) → IsDone (pends_at w c) w (pends_in c (at_number w.clients c))

abbrev pub ClientsStop : Type 0
ClientsStop = (w : World) (c : ℕ) → stops w c (at_number w.clients c) ≡ with_clients w (stopped w.clients c)
