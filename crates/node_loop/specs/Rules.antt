-- What a party does with records.
use Rattle.std.specs.Prelude.{ℕ, List}
use Rattle.osd_lists.specs.declared.node.Node.{Node}
use Rattle.node_loop.specs.declared.party.Message.{Message}
use Rattle.node_loop.specs.declared.party.Party.{Ghosts}

-- the messages that a record of a node gives at a time, as the party chooses; what that leaves; to which messages it awaits
-- answers; and whom a record names as its sender
pub record Rules (S C : Type 0) : Type 0 where
  pub given : S → C → ℕ → Node → List ℕ → List Message
  pub after : S → C → ℕ → Node → List ℕ → S
  pub awaited : S → List Message
  pub names : List ℕ → Node

abbrev pub rules_of : {H : Type 0} (v : Ghosts H) → Rules v.State v.Choice
rules_of v = record { given = v.given; after = v.state_after; awaited = v.awaited; names = v.sender_of }
