-- The events that each party's moves can have, and what of the machine these leave as it was.
use Rattle.std.specs.Prelude.{◌≡◌, ℕ, ◌<◌, ◌≤◌, Bool, List, [], ◌∷◌, filter, length, Option, Some, None}
use Rattle.server_rules.specs.History.{Input}
use Rattle.client_rules.specs.History.{step}
use Rattle.world_history.specs.ServerNames.{File}
use Rattle.world_history.specs.State.{World, ClientAt, at_number}
use Rattle.world_history.specs.Handed.{is_addressed, client_posts}
use Rattle.world_history.specs.Moves.{Act, Action}
use Rattle.history_law.specs.Said.{said}
use Rattle.history_law.specs.Moves.{IsForClient}
use Rattle.exchange_law.specs.InStep.{state_of}
use Rattle.fence_law.specs.Words.{In}
use Rattle.fence_law.specs.State.{State, Event, Request, Answer, Write}
use Rattle.fence_law.specs.State.Event.{Asks, Grants, Refuses, Takes, AsksOther, ServesOther, TakesOther, GivesBack, Reports, Forgets, Frees, Fences, SetsTag, Fenced, Refenced, StartsWrite, Sends, Performs, Learns, Acknowledges, Breaks, StartsRead, Shows, Answers, EndsRead, Fails, Drops, Declares, Loses, Leaves, Tells, AsksCommit, Commits, RefusesCommit, TakesCommit, TakesRefusal, Repairs, Repaired, Rebuilds}
use Rattle.file_simulation.specs.EventLists.{Lines}
use Rattle.file_simulation.specs.ClientEvents.{Going}
use Rattle.file_simulation.specs.ServerEvents.{asker}

-- ---- lists

-- each of these events is so
abbrev pub AreAll : (Event → Type 0) → List Event → Type 0
AreAll P [] = Unit {0}
AreAll P (e ∷ es) = P e × AreAll P es

-- each of these lines has only events that are so
abbrev pub LinesAre : (Event → Type 0) → Lines → Type 0
LinesAre P [] = Unit {0}
LinesAre P (es ∷ rest) = AreAll P es × LinesAre P rest

-- ---- whose events

-- an event of a move of client c
abbrev pub IsOfClient : (c : ℕ) → Event → Type 0
IsOfClient c (Asks d rw) = d ≡ c
IsOfClient c (Takes d o size) = d ≡ c
IsOfClient c (AsksOther d) = d ≡ c
IsOfClient c (TakesOther d) = d ≡ c
IsOfClient c (GivesBack d g) = d ≡ c
IsOfClient c (Reports d g) = d ≡ c
IsOfClient c (Forgets d) = d ≡ c
IsOfClient c (StartsWrite d g i bytes touch hit seen past part) = d ≡ c
IsOfClient c (Sends d k g j i v) = d ≡ c
IsOfClient c (Learns d k j v i) = d ≡ c
IsOfClient c (Acknowledges d j) = d ≡ c
IsOfClient c (Breaks d j) = d ≡ c
IsOfClient c (StartsRead d g lo hi reach) = d ≡ c
IsOfClient c (Answers d j bytes) = d ≡ c
IsOfClient c (EndsRead d j) = d ≡ c
IsOfClient c (Tells j) = Unit {0}
IsOfClient c (AsksCommit d j) = d ≡ c
IsOfClient c (TakesCommit d j) = d ≡ c
IsOfClient c (TakesRefusal d j) = d ≡ c
IsOfClient c e = ⊥

-- an event of a step of the server, which may be on a request of this client
abbrev pub IsOfServer : (asker : Option ℕ) → Event → Type 0
IsOfServer asker (Grants c number rw range extending) = asker ≡ Some c
IsOfServer asker (Refuses c kind) = asker ≡ Some c
IsOfServer asker (ServesOther c) = asker ≡ Some c
IsOfServer asker (Frees c) = asker ≡ Some c
IsOfServer asker Fences = Unit {0}
IsOfServer asker Fenced = Unit {0}
IsOfServer asker Refenced = Unit {0}
IsOfServer asker (Fails k) = Unit {0}
IsOfServer asker (Drops k) = Unit {0}
IsOfServer asker (Declares k) = Unit {0}
IsOfServer asker (Loses c k) = asker ≡ Some c
IsOfServer asker (Leaves c g) = asker ≡ Some c
IsOfServer asker (Acknowledges c j) = asker ≡ Some c
IsOfServer asker (Commits c j g) = asker ≡ Some c
IsOfServer asker (RefusesCommit c j) = asker ≡ Some c
IsOfServer asker (Repaired done e) = Unit {0}
IsOfServer asker (Rebuilds k cells) = Unit {0}
IsOfServer asker e = ⊥

-- the client whose request comes to the server, if one does
abbrev pub asker_in : Option Input → Option ℕ
asker_in None = None
asker_in (Some i) = asker i

-- an event of a drive
abbrev pub IsOfDrive : Event → Type 0
IsOfDrive (SetsTag k) = Unit {0}
IsOfDrive (Performs m) = Unit {0}
IsOfDrive (Shows j k) = Unit {0}
IsOfDrive (Fails k) = Unit {0}
IsOfDrive (Repairs k cells e) = Unit {0}
IsOfDrive e = ⊥

-- ---- what stays

-- events of clients leave all that the server and the drives have
abbrev pub ServerStays : (s : State) → (t : State) → Type 0
ServerStays s t = record {
  layout : t.layout ≡ s.layout;
  object_tag : t.object_tag ≡ s.object_tag;
  last_nonce : t.last_nonce ≡ s.last_nonce;
  cell : t.cell ≡ s.cell;
  lost : t.lost ≡ s.lost;
  gone : t.gone ≡ s.gone;
  dropped : t.dropped ≡ s.dropped;
  missing : t.missing ≡ s.missing;
  fencing : t.fencing ≡ s.fencing;
  repairing : t.repairing ≡ s.repairing;
  ended_tag : t.ended_tag ≡ s.ended_tag;
  repaired_at : t.repaired_at ≡ s.repaired_at;
  tag : t.tag ≡ s.tag;
  outstanding : t.outstanding ≡ s.outstanding;
  next : t.next ≡ s.next;
  granted_since : t.granted_since ≡ s.granted_since;
  slot : t.slot ≡ s.slot;
  kept_grant : t.kept_grant ≡ s.kept_grant;
  kept_size : t.kept_size ≡ s.kept_size;
  size : t.size ≡ s.size;
  answers : t.answers ≡ s.answers;
  replies : t.replies ≡ s.replies;
  shown : t.shown ≡ s.shown;
  set_tags : t.set_tags ≡ s.set_tags;
  tag_replies : t.tag_replies ≡ s.tag_replies;
}

-- events of others leave what client d has
abbrev pub ClientStays : (d : ℕ) → (s : State) → (t : State) → Type 0
ClientStays d s t = record {
  sequence : t.sequence d ≡ s.sequence d;
  waiting : t.waiting d ≡ s.waiting d;
  away : t.away d ≡ s.away d;
  asked : t.asked d ≡ s.asked d;
  held : t.held d ≡ s.held d;
  nonce : t.nonce d ≡ s.nonce d;
  call : t.call d ≡ s.call d;
  known_size : t.known_size d ≡ s.known_size d;
  commit : t.commit d ≡ s.commit d;
  out : t.out d ≡ s.out d;
}

-- and the server's slot for it
abbrev pub SlotStays : (d : ℕ) → (s : State) → (t : State) → Type 0
SlotStays d s t = record {
  slot : t.slot d ≡ s.slot d;
  kept_grant : t.kept_grant d ≡ s.kept_grant d;
  kept_size : t.kept_size d ≡ s.kept_size d;
}

-- events of drives and of the server leave what clients sent and asked
abbrev pub ClientsStay : (s : State) → (t : State) → Type 0
ClientsStay s t = record {
  sequence : t.sequence ≡ s.sequence;
  waiting : t.waiting ≡ s.waiting;
  away : t.away ≡ s.away;
  asked : t.asked ≡ s.asked;
  nonce : t.nonce ≡ s.nonce;
  known_size : t.known_size ≡ s.known_size;
  out : t.out ≡ s.out;
  requests : t.requests ≡ s.requests;
  writes : t.writes ≡ s.writes;
  told_client : t.told_client ≡ s.told_client;
}

-- events of drives leave what the server keeps and what clients are at
abbrev pub KeptStays : (s : State) → (t : State) → Type 0
KeptStays s t = record {
  layout : t.layout ≡ s.layout;
  gone : t.gone ≡ s.gone;
  dropped : t.dropped ≡ s.dropped;
  missing : t.missing ≡ s.missing;
  fencing : t.fencing ≡ s.fencing;
  repairing : t.repairing ≡ s.repairing;
  ended_tag : t.ended_tag ≡ s.ended_tag;
  repaired_at : t.repaired_at ≡ s.repaired_at;
  tag : t.tag ≡ s.tag;
  outstanding : t.outstanding ≡ s.outstanding;
  next : t.next ≡ s.next;
  granted_since : t.granted_since ≡ s.granted_since;
  slot : t.slot ≡ s.slot;
  kept_grant : t.kept_grant ≡ s.kept_grant;
  kept_size : t.kept_size ≡ s.kept_size;
  size : t.size ≡ s.size;
  answers : t.answers ≡ s.answers;
  set_tags : t.set_tags ≡ s.set_tags;
  held : t.held ≡ s.held;
  call : t.call ≡ s.call;
  commit : t.commit ≡ s.commit;
}

-- events of the server leave what drives have told and performed of clients' commands
abbrev pub RepliesStay : (s : State) → (t : State) → Type 0
RepliesStay s t = record {
  layout : t.layout ≡ s.layout;
  last_nonce : t.last_nonce ≡ s.last_nonce;
  replies : t.replies ≡ s.replies;
  shown : t.shown ≡ s.shown;
  tag_replies : t.tag_replies ≡ s.tag_replies;
}

-- Whatever happens, entries of the log stay as they started, and what was sent stays sent.
abbrev pub LogGrows : (s : State) → (t : State) → Type 0
LogGrows s t = record {
  count : s.count ≤ t.count;
  start : (j : ℕ) → j < s.count → t.start j ≡ s.start j;
  requests : (r : Request) → In r s.requests → In r t.requests;
  answers : (a : Answer) → In a s.answers → In a t.answers;
  writes : (m : Write) → In m s.writes → In m t.writes;
}

-- ---- the world

-- the client goes on by its input: it takes that step, sends what that sends, and nobody else goes on
pub record ByClient (w : World) (action : Action) (g : Going) (a : Act) : Type 0 where
  pub before : ClientAt
  pub found : at_number w.clients g.client ≡ Some before
  pub state_is : g.state ≡ before.state
  pub input_is : IsForClient w action g.client before g.input
  pub after : ClientAt
  pub mine : at_number a.world.clients g.client ≡ Some after
  pub behind : after.state ≡ (step g.state g.input).client
  pub others : (d : ℕ) → (d ≡ g.client → ⊥) → at_number a.world.clients d ≡ at_number w.clients d
  pub server : a.world.server ≡ w.server
  pub drives : a.world.drives ≡ w.drives
  pub down : a.world.down ≡ w.down
  pub said : said a.world.network.messages ≡ said w.network.messages
  pub wrote : Bool
  pub logged : ℕ
  pub posts : a.posts ≡ filter is_addressed (client_posts g.client wrote logged (step g.state g.input).sends)

-- no client goes on: each is as it was, or as it will begin
pub record ByNone (w : World) (a : Act) : Type 0 where
  pub states : (d : ℕ) → state_of d (at_number a.world.clients d) ≡ state_of d (at_number w.clients d)

-- by whether a client goes on
abbrev pub ByGoing : World → Action → Option Going → Act → Type 0
ByGoing w action None a = ByNone w a
ByGoing w action (Some g) a = ByClient w action g a

-- ---- a file

-- a file is the same still
abbrev pub IsSameFile : File → File → Type 0
IsSameFile f g = record {
  number : g.kept.number ≡ f.kept.number;
  map : g.kept.map ≡ f.kept.map;
  first_tag : g.kept.first_tag ≡ f.kept.first_tag;
}

-- and has as many components
pub record FileStays (f g : File) : Type 0 where
  pub same : IsSameFile f g
  pub components : length g.kept.components ≡ length f.kept.components
