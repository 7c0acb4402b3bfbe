-- The clients by number: what the world does with a named one.
use Rattle.std.specs.Prelude.{ℕ, Bool, true, List, ◌≡◌, Option, Some, None, is_some, if◌then◌else◌}
use Rattle.osd_lists.specs.declared.node.Node.{Node}
use Rattle.scenario_text.specs.declared.line.Delivery.TheVariants as delivery
use Rattle.world_network.specs.declared.acts.Act.{Act}
use Rattle.world_network.specs.declared.acts.Handed.{Handed}
use Rattle.world_network.specs.Acts.{nothing}
use Rattle.world_history.specs.State.{ClientAt, at_number, with_number}
use Rattle.world_history.specs.Handed.{pending_op}
use Rattle.world_parties.specs.Client.{Acted, heard, pending_told}

-- clients by rising numbers
abbrev pub Table : Type 0
Table = List (ℕ × ClientAt)

-- ---- an act of one client

-- the clients then, and what one tells and sends
pub record Did : Type 0 where
  pub clients : Table
  pub act : Act

abbrev pub did_at : Table → (client : ℕ) → Acted → Did
did_at t c e = record { clients = with_number t c e.client; act = e.act }

-- where there is no such client nothing happens
abbrev pub did_by : Table → (client : ℕ) → (ClientAt → Acted) → Option ClientAt → Did
did_by t c does None = record { clients = t; act = nothing }
did_by t c does (Some a) = did_at t c (does a)

abbrev pub did : Table → (client : ℕ) → (ClientAt → Acted) → Did
did t c does = did_by t c does (at_number t c)

-- the code does that
pub record Does (e : Did) (new : Table) (act : Act) : Type 0 where
  pub clients : new ≡ e.clients
  pub act_is : act ≡ e.act

-- what is told of a call that is still pending
abbrev pub pends_in : (client : ℕ) → Option ClientAt → Act
pends_in c None = nothing
pends_in c (Some a) = pending_told c (pending_op a.state)

-- ---- a message

-- one client then, and what became of the message
pub record HeardOne : Type 0 where
  pub client : ClientAt
  pub handed : Handed

-- it is deaf
abbrev pub is_deaf : Handed
is_deaf = record { receipt = delivery.Deaf; act = nothing }

abbrev pub takes : Acted → HeardOne
takes e = record { client = e.client; handed = record { receipt = delivery.Taken; act = e.act } }

-- one that was stopped is deaf
abbrev pub heard_one : (client : ℕ) → Node → List ℕ → ClientAt → HeardOne
heard_one c from bytes a = if a.stopped then record { client = a; handed = is_deaf } else takes (heard c from bytes a)

-- the code does that
pub record HearsOne (e : HeardOne) (new : ClientAt) (handed : Handed) : Type 0 where
  pub client : new ≡ e.client
  pub handed_is : handed ≡ e.handed

-- the clients then, and what became of the message
pub record Heard : Type 0 where
  pub clients : Table
  pub handed : Handed

abbrev pub heard_at : Table → (client : ℕ) → HeardOne → Heard
heard_at t c one = record { clients = with_number t c one.client; handed = one.handed }

-- one that there isn't is deaf
abbrev pub heard_by : Table → (client : ℕ) → Node → List ℕ → Option ClientAt → Heard
heard_by t c from bytes None = record { clients = t; handed = is_deaf }
heard_by t c from bytes (Some a) = heard_at t c (heard_one c from bytes a)

-- a message comes to a client
abbrev pub heard_in : Table → (client : ℕ) → Node → List ℕ → Heard
heard_in t c from bytes = heard_by t c from bytes (at_number t c)

-- the code does that
pub record Hears (e : Heard) (new : Table) (handed : Handed) : Type 0 where
  pub clients : new ≡ e.clients
  pub handed_is : handed ≡ e.handed

-- ---- a client that is stopped

abbrev pub stopped_if : Table → (client : ℕ) → Option ClientAt → Table
stopped_if t c None = t
stopped_if t c (Some a) = with_number t c (record a { stopped = true })

abbrev pub stopped : Table → (client : ℕ) → Table
stopped t c = stopped_if t c (at_number t c)
