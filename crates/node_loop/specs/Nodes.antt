-- Nodes, and what is kept of the connections with them.
use Rattle.std.specs.Prelude.{◌≡◌, ℕ, Bool, true, false, nat_eq, if◌then◌else◌, List, [], Option, Some}
use Rattle.std.specs.BTreeMap.{BTreeMap, get}
use Rattle.std.specs.Ordering.{nat_cmp}
use Rattle.osd_bytes.specs.Records.{Begun, fresh}
use Rattle.osd_lists.specs.declared.node.Node.{Node}
use Rattle.node_loop.specs.declared.ways.Ways.{Ways}
use Rattle.osd_lists.specs.declared.node.Node.TheVariants.{Server, Drive, Client}

abbrev pub is_node : Node → Node → Bool
is_node Server Server = true
is_node (Drive d) (Drive e) = nat_eq d e
is_node (Client c) (Client d) = nat_eq c d
is_node n m = false

abbrev pub is_drive : Node → Bool
is_drive (Drive d) = true
is_drive n = false

-- the same but for one number
pub record Sets {A : Type 0} (k : ℕ) (x : Option A) (at now : ℕ → Option A) : Type 0 where
  pub here : now k ≡ x
  pub there : (q : ℕ) → nat_eq k q ≡ false → now q ≡ at q

-- the same connections of nodes but for one node
abbrev pub Leads : Node → ℕ → (ways now : Node → Option ℕ) → Type 0
Leads n p ways now = (m : Node) → now m ≡ (if is_node n m then Some p else ways m)

-- What is kept of an open connection: what came of its next record, unless one was too long; the bytes that are still to be put;
-- the node towards which it was opened, if it was; whether the last put didn't take all, and there was no room since; and whether
-- a message was posted on it, and no byte came since.
pub record Held : Type 0 where
  pub begun : Option Begun
  pub unsent : List ℕ
  pub to : Option Node
  pub is_full : Bool
  pub is_awaited : Bool

abbrev pub held : Option Node → Held
held to = record { begun = Some fresh; unsent = []; to = to; is_full = false; is_awaited = false }

-- by the connections of drives, of clients and of the server
abbrev pub way_of : BTreeMap ℕ ℕ → BTreeMap ℕ ℕ → Option ℕ → Node → Option ℕ
way_of drives clients server Server = server
way_of drives clients server (Drive d) = get nat_cmp drives d
way_of drives clients server (Client c) = get nat_cmp clients c

-- on which connection a node is reached
abbrev pub way_in : Ways → Node → Option ℕ
way_in w = way_of w.drives w.clients w.server
