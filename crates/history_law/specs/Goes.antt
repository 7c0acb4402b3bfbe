-- What a move is: a step of one party, and what it sends.
use Rattle.std.specs.Prelude.{◌≡◌, ℕ, Bool, false, List, [], ◌∷◌, map, filter, Some}
use Rattle.osd_lists.specs.declared.node.Node.{Node}
use Rattle.osd_lists.specs.declared.node.Node.TheVariants as node
use Rattle.osd_commands.specs.declared.replies.Reply.{Reply}
use Rattle.server_rules.specs.History.{Input as ServerInput, Hears as ServerHears, step as server_step}
use Rattle.client_rules.specs.Steps.{new_client}
use Rattle.client_rules.specs.History.{Input, step}
use Rattle.scenario_text.specs.declared.event.Event.TheVariants as event
use Rattle.world_history.specs.declared.messages.Body.TheVariants.{Reply as OfReply}
use Rattle.world_history.specs.State.{World, ClientAt, at_number, with_number, and_number}
use Rattle.world_history.specs.Handed.{Post, is_addressed, plain, server_post, client_posts}
use Rattle.world_history.specs.Moves.{Act, Action, Opens, acts}
use Rattle.history_law.specs.Said.{said, IsHeardByServer, IsHeardByClient}
use Rattle.history_law.specs.Moves.{down_behind}

-- ---- a step of one party

-- nothing, or a drive's reply
pub data AreReplies (ps : List Post) : Type 0 where
  Nothing : ps ≡ [] → AreReplies ps
  OneReply : (d : ℕ) (to : Node) (r : Reply) → ps ≡ plain (node.Drive d) to (OfReply r) ∷ [] → AreReplies ps

-- neither the server nor a client goes on
pub record OthersGo (w : World) (a : Act) : Type 0 where
  pub server : a.world.server ≡ w.server
  pub clients : a.world.clients ≡ w.clients
  pub down : a.world.down ≡ w.down
  pub posts : AreReplies a.posts

-- a message reaches the server only while it is up
abbrev pub IsAwake : World → ServerInput → Type 0
IsAwake w (ServerHears now from m) = w.down ≡ false
IsAwake w i = Unit {0}

-- the server takes a step
pub record ServerGoes (w : World) (chosen : List ℕ) (a : Act) : Type 0 where
  pub input : ServerInput
  pub heard : IsHeardByServer w input
  pub awake : IsAwake w input
  pub down : a.world.down ≡ down_behind w.down input
  pub server : a.world.server ≡ (server_step w.server chosen input).state
  pub clients : a.world.clients ≡ w.clients
  pub posts : a.posts ≡ filter is_addressed (map server_post (server_step w.server chosen input).sends)

-- a client takes a step
pub record ClientGoes (w : World) (a : Act) : Type 0 where
  pub client : ℕ
  pub before : ClientAt
  pub found : at_number w.clients client ≡ Some before
  pub input : Input
  pub heard : IsHeardByClient w client input
  pub after : ClientAt
  pub state : after.state ≡ (step before.state input).client
  pub server : a.world.server ≡ w.server
  pub down : a.world.down ≡ w.down
  pub clients : a.world.clients ≡ with_number w.clients client after
  pub wrote : Bool
  pub logged : ℕ
  pub posts : a.posts ≡ filter is_addressed (client_posts client wrote logged (step before.state input).sends)

-- a client is stopped, and stays as it is
pub record ClientStops (w : World) (a : Act) : Type 0 where
  pub client : ℕ
  pub before : ClientAt
  pub found : at_number w.clients client ≡ Some before
  pub after : ClientAt
  pub state : after.state ≡ before.state
  pub server : a.world.server ≡ w.server
  pub down : a.world.down ≡ w.down
  pub clients : a.world.clients ≡ with_number w.clients client after
  pub posts : a.posts ≡ []

-- there is a new client
pub record ClientComes (w : World) (action : Action) (a : Act) : Type 0 where
  pub client : ℕ
  pub action_is : action ≡ Opens (event.Client client)
  pub after : ClientAt
  pub state : after.state ≡ new_client client 1
  pub server : a.world.server ≡ w.server
  pub down : a.world.down ≡ w.down
  pub clients : a.world.clients ≡ and_number w.clients client after
  pub posts : a.posts ≡ []

-- one of these
pub data Goes (w : World) (chosen : List ℕ) (action : Action) (a : Act) : Type 0 where
  Others : OthersGo w a → Goes w chosen action a
  AServer : ServerGoes w chosen a → Goes w chosen action a
  AClient : ClientGoes w a → Goes w chosen action a
  Stops : ClientStops w a → Goes w chosen action a
  Comes : ClientComes w action a → Goes w chosen action a

-- a move is a step of one party, and changes no message that was sent
pub record IsOneStep (w : World) (chosen : List ℕ) (action : Action) (a : Act) : Type 0 where
  pub goes : Goes w chosen action a
  pub said : said a.world.network.messages ≡ said w.network.messages

-- so is each
abbrev pub MovesAreSteps : Type 0
MovesAreSteps = (w : World) (chosen : List ℕ) (action : Action) → IsOneStep w chosen action (acts w chosen action)
