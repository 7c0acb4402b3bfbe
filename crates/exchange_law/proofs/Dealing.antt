-- Each move is a step of one client, which then sends what its rules say, or another party's, and then no client sends
-- anything.
use Rattle.std.proofs.Common.{◌≡◌, ◌≢◌, ℕ, zero, suc, ◌∷◌, [], List, Bool, true, false, Some, IsSome, filter, map, slice_get, refl, sym, ap, subst, ◌∙◌, inl, inr}
use Rattle.std.proofs.lemmas.Bool.{cases_eq}
use Rattle.osd_lists.specs.declared.node.Node.{Node}
use Rattle.osd_lists.specs.declared.node.Node.TheVariants as node
use Rattle.osd_objects.proofs.Entries.{lookup_inserted, lookup_beside, lookup_set, lookup_set_beside}
use Rattle.server_rules.specs.History as server_input
use Rattle.server_rules.specs.Laws.{In}
use Rattle.client_rules.specs.Envelopes.{receiver}
use Rattle.client_rules.specs.Steps.{new_client}
use Rattle.client_rules.specs.History.{Input, Hears, step}
use Rattle.world_history.specs.ServerNames as server_rules
use Rattle.world_history.specs.ClientNames as client_rules
use Rattle.world_history.specs.declared.messages.Message.{Message}
use Rattle.world_history.specs.declared.messages.Posted.{Posted}
use Rattle.world_history.specs.declared.messages.Body.{Body}
use Rattle.world_history.specs.State.{ClientAt, World, at_number, with_number, with_client}
use Rattle.world_history.specs.Handed.{Post, plain, is_addressed, server_post, client_posts, client_body, for_client}
use Rattle.world_history.specs.Moves.{Act, Action, adds_client, acts}
use Rattle.server_rules.proofs.Members.{in_mapped, in_filtered}
use Rattle.history_law.proofs.FencingMoves.{messages_in}
use Rattle.history_law.specs.Moves.{IsForClient, MoveCases}
use Rattle.history_law.proofs.Moves.{each_act}

-- ---- what an action does of clients

-- a client's message, by what it sends
abbrev pub message_by : (client : ℕ) → client_rules.Outgoing → Message
message_by c o = record { from = node.Client c; to = receiver o; body = client_body o }

-- none of these is of a client
abbrev pub NoneOfClients : List Post → Type 0
NoneOfClients ps = (p : Post) (n : ℕ) → In p ps → p.message.from ≡ node.Client n → ⊥

-- where a message comes to a client, it was sent to it
abbrev pub IsHeard : World → (client : ℕ) → Input → Type 0
IsHeard w c (Hears from m) =
    (x : Message) × In x (messages_in w) × (x.from ≡ from) × (x.to ≡ node.Client c) × (for_client x ≡ Some m)
IsHeard w c i = Unit {0}

-- the state of each client was one before
abbrev pub StatesStay : (w v : World) → Type 0
StatesStay w v =
    (c : ℕ) (b : ClientAt) → at_number v.clients c ≡ Some b →
    (a : ClientAt) × (at_number w.clients c ≡ Some a) × (b.state ≡ a.state)

-- so it is of all but one
abbrev pub OthersStay : (w v : World) → (client : ℕ) → Type 0
OthersStay w v c =
    (n : ℕ) (b : ClientAt) → n ≢ c → at_number v.clients n ≡ Some b → at_number w.clients n ≡ Some b

-- that one has this state
abbrev pub IsState : (v : World) → (client : ℕ) → client_rules.Client → Type 0
IsState v c s = (b : ClientAt) → at_number v.clients c ≡ Some b → b.state ≡ s

-- what is sent is of these
abbrev pub AreSends : (client : ℕ) → List client_rules.Outgoing → List Post → Type 0
AreSends c os ps = (p : Post) → In p ps → (o : client_rules.Outgoing) × In o os × (p.message ≡ message_by c o)

pub data Acts (w v : World) (ps : List Post) : Type 0 where
  Others : StatesStay w v → messages_in v ≡ messages_in w → NoneOfClients ps → Acts w v ps
  Goes : (c : ℕ) (a : ClientAt) (i : Input) → at_number w.clients c ≡ Some a → IsHeard w c i
      → IsState v c (step a.state i).client → OthersStay w v c → messages_in v ≡ messages_in w
      → AreSends c (step a.state i).sends ps → Acts w v ps
  Makes : (c : ℕ) → IsState v c (new_client c 1) → OthersStay w v c → messages_in v ≡ messages_in w
      → NoneOfClients ps → Acts w v ps

abbrev pub ActsIn : World → Act → Type 0
ActsIn w a = Acts w a.world a.posts

none_sent : NoneOfClients []
none_sent p n i e = i

same_states : (w v : World) → v.clients ≡ w.clients → StatesStay w v
same_states w v e c b there = (b, ap (λ xs. at_number xs c) (sym e) ∙ there, refl)

others : (w v : World) (ps : List Post) → v.clients ≡ w.clients → messages_in v ≡ messages_in w → NoneOfClients ps
    → Acts w v ps
others w v ps clients messages none = Others (same_states w v clients) messages none

quiet_act : (w v : World) → v.clients ≡ w.clients → messages_in v ≡ messages_in w → Acts w v []
quiet_act w v clients messages = Others (same_states w v clients) messages none_sent

-- ---- a step of a client

module _ (xs : List (ℕ × ClientAt)) (c : ℕ) (a b : ClientAt) where
  put_own : at_number xs c ≡ Some a → (x : ClientAt) → at_number (with_number xs c b) c ≡ Some x → x ≡ b
  put_own found x there = cc (sym there ∙ lookup_set xs c b (subst IsSome (sym found) refl))

  put_others : (n : ℕ) (x : ClientAt) → n ≢ c → at_number (with_number xs c b) n ≡ Some x → at_number xs n ≡ Some x
  put_others n x other there = sym (lookup_set_beside xs c n b other) ∙ there

clients_send : (c : ℕ) (wrote : Bool) (logged : ℕ) (os : List client_rules.Outgoing)
    → AreSends c os (client_posts c wrote logged os)
clients_send c wrote logged [] p i = absurd i
clients_send c wrote logged (o ∷ os) p (inl e) = (o, inl refl, ap (λ (x : Post). x.message) e)
clients_send c wrote logged (o ∷ os) p (inr i) = let r = clients_send c _ logged os p i in (r.0, inr r.1, r.2)

addressed : (c : ℕ) (os : List client_rules.Outgoing) (ps : List Post) → AreSends c os ps
    → AreSends c os (filter is_addressed ps)
addressed c os ps sends p i = sends p (in_filtered is_addressed p ps i).0

-- ---- what others send

server_none : (os : List server_rules.Outgoing) → NoneOfClients (filter is_addressed (map server_post os))
server_none os p n i e =
    let r = in_mapped server_post p os (in_filtered is_addressed p (map server_post os) i).0 in
    absurd (cc (sym e ∙ ap (λ (x : Post). x.message.from) r.2))

reply_none : (d : ℕ) (to : Node) (body : Body) → NoneOfClients (plain (node.Drive d) to body ∷ [])
reply_none d to body p n (inl same) e = cc (sym e ∙ ap (λ (x : Post). x.message.from) same)
reply_none d to body p n (inr i) e = i

-- ---- a message that comes to a client

same_some : (x y : Posted) → Some x ≡ Some y → x ≡ y
same_some x y e = cc e

in_messages : (ps : List Posted) (n : ℕ) (p : Posted) → slice_get ps n ≡ Some p
    → In p.message (map (λ (x : Posted). x.message) ps)
in_messages [] n p there = absurd (cc there)
in_messages (x ∷ ps) zero p there = inl (ap (λ (y : Posted). y.message) (sym (same_some x p there)))
in_messages (x ∷ ps) (suc n) p there = inr (in_messages ps n p there)

heard_by : (w : World) (action : Action) (c : ℕ) (a : ClientAt) (i : Input) → IsForClient w action c a i → IsHeard w c i
heard_by w action c a (Hears from m) (d, from_is, read, number, awake) =
    (d.posted.message, in_messages w.network.messages d.number d.posted d.there, sym from_is, d.receiver, read)
heard_by w action c a i is = tt

-- ---- each action

-- a client that is stopped, and one that comes
module _ (w : World) (c : ℕ) where
  stopped : (a : ClientAt) → at_number w.clients c ≡ Some a
      → StatesStay w (with_client w c (record a { stopped = true }))
  stopped a found n b there = elim (cases_eq n c) [
    | inl it ↦
        let own : b ≡ record a { stopped = true } =
        put_own w.clients c a _ found b
        (ap (at_number (with_client w c (record a { stopped = true })).clients) (sym it) ∙ there) in
        (a, ap (at_number w.clients) it ∙ found, ap (λ (x : ClientAt). x.state) own)
    | inr other ↦ (b, put_others w.clients c a _ n b other there, refl)
  ]

  new_state : IsState (adds_client w c) c (new_client c 1)
  new_state b there =
      let it : record { state = new_client c 1; stopped = false; wrote = false } ≡ b =
      cc (sym (lookup_inserted w.clients c (record { state = new_client c 1; stopped = false; wrote = false })) ∙ there) in
      sym (ap (λ (x : ClientAt). x.state) it)

cases : (w : World) (chosen : List ℕ) (action : Action) → MoveCases w chosen action (ActsIn w)
cases w chosen action = record {
  rests = λ ms said told quiet. quiet_act w _ refl said;
  refused = λ c a found op is e why. quiet_act w _ refl refl;
  clock = λ time. quiet_act w _ refl refl;
  serves = λ ms said i is. others w _ _ refl said (server_none (server_input.step w.server chosen i).sends);
  goes = λ ms said c a found i is.
      Goes c a i found (heard_by w action c a i is)
      (λ x there. ap (λ (y : ClientAt). y.state) (put_own w.clients c a _ found x there))
      (λ n x other there. put_others w.clients c a _ n x other there) said
      (addressed c (step a.state i).sends _ (clients_send c _ _ (step a.state i).sends));
  comes = λ c is.
      Makes c (new_state w c) (λ n b other there. sym (lookup_beside w.clients c n _ other) ∙ there) refl none_sent;
  stops = λ c a found. Others (stopped w c a found) refl none_sent;
  judged = λ ms said d a found hears m number.
      others w _ _ refl said (reply_none d m.posted.message.from _);
  injected = λ d bytes is a found. quiet_act w _ refl refl;
  turns = λ d a b found turns. quiet_act w _ refl refl;
  known = λ d key capacity stored is knows. quiet_act w _ refl refl;
  adds = λ d key capacity stored is knows. quiet_act w _ refl refl;
}

pub each_acts : (w : World) (chosen : List ℕ) (action : Action) → ActsIn w (acts w chosen action)
each_acts w chosen action = each_act w chosen (ActsIn w) action (cases w chosen action)
