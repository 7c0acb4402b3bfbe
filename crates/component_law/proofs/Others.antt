-- No message goes from the server to itself, at any moment.
use Rattle.std.proofs.Common.{◌≡◌, ℕ, zero, suc, ◌++◌, ◌∷◌, [], List, Bool, true, false, Some, map, filter, slice_get, sym, ap, subst, ◌∙◌, if◌then◌else◌}
use Rattle.osd_lists.specs.declared.node.Node.{Node}
use Rattle.osd_lists.specs.declared.node.Node.TheVariants as node
use Rattle.server_rules.specs.History.{Input, Hears, step}
use Rattle.client_rules.specs.Messages.{Step as ClientStep}
use Rattle.client_rules.specs.History as client
use Rattle.scenario_text.specs.declared.line.Party.TheVariants as party
use Rattle.world_history.specs.ServerNames as server_rules
use Rattle.world_history.specs.ClientNames as client_rules
use Rattle.world_history.specs.declared.messages.Message.{Message}
use Rattle.world_history.specs.declared.messages.Posted.{Posted}
use Rattle.world_history.specs.declared.messages.Sent.{Sent}
use Rattle.world_history.specs.State.{ClientAt, World, empty_world}
use Rattle.world_history.specs.Spelled.{party_of}
use Rattle.world_history.specs.Laws.{shown}
use Rattle.world_history.specs.Handed.{Post, is_addressed, server_post, client_posts, client_did, wrote_in, op_in, data_in}
use Rattle.world_history.specs.Moves.{Act, Action, acts}
use Rattle.world_history.specs.Sending.{Move, move, fresh}
use Rattle.world_history.specs.Runs.{world_after}
use Rattle.world_history.specs.History.{Step, AreCarried, end_of}
use Rattle.history_law.specs.Said.{said}
use Rattle.history_law.specs.Moves.{MoveCases, IsForServer}
use Rattle.history_law.proofs.Moves.{each_act}
use Rattle.component_law.specs.Words.{Each}
use Rattle.component_law.specs.Moments.{ServerWritesToOthers}
use Rattle.component_law.proofs.Outgoing.{IsOther, GoOut, out_step}

-- ---- messages

-- the server writes to others
abbrev pub IsOut : (from to : Node) → Type 0
IsOut node.Server to = IsOther to
IsOut from to = Unit {0}

abbrev pub ArePosts : List Post → Type 0
ArePosts ps = Each (λ (p : Post). IsOut p.message.from p.message.to) ps

abbrev AllOut : List Message → Type 0
AllOut ms = Each (λ (m : Message). IsOut m.from m.to) ms

abbrev pub AreSent : List Posted → Type 0
AreSent ps = AllOut (said ps)

kept_one : (b : Bool) (p : Post) (ps : List Post) → IsOut p.message.from p.message.to → ArePosts ps
    → ArePosts (if b then p ∷ ps else ps)
kept_one true p ps h hs = (h, hs)
kept_one false p ps h hs = hs

kept : (ps : List Post) → ArePosts ps → ArePosts (filter is_addressed ps)
kept [] h = tt
kept (p ∷ ps) h = kept_one (is_addressed p) p (filter is_addressed ps) h.0 (kept ps h.1)

posts_out : (os : List server_rules.Outgoing) → GoOut os → ArePosts (map server_post os)
posts_out [] h = tt
posts_out (o ∷ os) h = (h.0, posts_out os h.1)

client_out : (c : ℕ) (wrote : Bool) (logged : ℕ) (os : List client_rules.Outgoing) → ArePosts (client_posts c wrote logged os)
client_out c wrote logged [] = tt
client_out c wrote logged (o ∷ os) = (tt, client_out c _ logged os)

goes_out : (w : World) (c : ℕ) (a : ClientAt) (i : client.Input) (s : ClientStep) → ArePosts (client_did w c a i s).posts
goes_out w c a i s =
    kept (client_posts c (wrote_in a i) (data_in (op_in a.state i)) s.sends)
    (client_out c (wrote_in a i) (data_in (op_in a.state i)) s.sends)

sent_at : (ps : List Posted) (n : ℕ) (p : Posted) → AreSent ps → slice_get ps n ≡ Some p
    → IsOut p.message.from p.message.to
sent_at [] n p h e = absurd (cc e)
sent_at (x ∷ ps) zero p h e =
    let s : x ≡ p = cc e in subst (λ (y : Posted). IsOut y.message.from y.message.to) s h.0
sent_at (x ∷ ps) (suc n) p h e = sent_at ps n p h.1 e

sent_more : (ps : List Posted) (qs : List Post) → AreSent ps → ArePosts qs → AreSent (ps ++ map fresh qs)
sent_more [] [] h i = tt
sent_more [] (q ∷ qs) h i = (i.0, sent_more [] qs tt i.1)
sent_more (p ∷ ps) qs h i = (h.0, sent_more ps qs h.1 i)

-- ---- each move

abbrev Out : Act → Type 0
Out a = ArePosts a.posts × AreSent a.world.network.messages

another : (from : Node) → IsOut from node.Server → IsOther from
another node.Server h = h
another (node.Drive d) h = tt
another (node.Client c) h = tt

module _ (w : World) (chosen : List ℕ) (action : Action) (h : AreSent w.network.messages) where
  served : (i : Input) → IsForServer w action i → GoOut (step w.server chosen i).sends
  served (Hears now from m) (d, time, sender, read, number, up) =
      out_step w.server chosen (Hears now from m) (subst IsOther (sym sender) (another d.posted.message.from
      (subst (IsOut d.posted.message.from) d.receiver (sent_at w.network.messages d.number d.posted h d.there))))
  served i is = out_step w.server chosen i tt

  still : (ms : List Posted) → said ms ≡ said w.network.messages → AreSent ms
  still ms same = subst AllOut (sym same) h

  cases : MoveCases w chosen action Out
  cases = record {
    rests = λ ms said told quiet. (tt, still ms said);
    refused = λ c a found op is e why. (tt, h);
    clock = λ time. (tt, h);
    serves = λ ms said i is. (kept _ (posts_out (step w.server chosen i).sends (served i is)), still ms said);
    goes = λ ms said c a found i is. (goes_out w c a i (client.step a.state i), still ms said);
    comes = λ c is. (tt, h);
    stops = λ c a found. (tt, h);
    judged = λ ms said d a found hears m number. ((tt, tt), still ms said);
    injected = λ d bytes is a found. (tt, h);
    turns = λ d a b found turns. (tt, h);
    known = λ d key capacity stored is knows. (tt, h);
    adds = λ d key capacity stored is knows. (tt, h);
  }

acts_out : (w : World) (chosen : List ℕ) (action : Action) → AreSent w.network.messages → Out (acts w chosen action)
acts_out w chosen action h = each_act w chosen Out action (cases w chosen action h)

-- ---- histories

moved : (w : World) (m : Move) → AreSent w.network.messages → AreSent (move w m).world.network.messages
moved w m h =
    let a : Act = acts w m.chosen m.action in
    let o : Out a = acts_out w m.chosen m.action h in
    sent_more a.world.network.messages a.posts o.1 o.0

after_moves : (w : World) (ms : List Move) → AreSent w.network.messages → AreSent (world_after w ms).network.messages
after_moves w [] h = h
after_moves w (m ∷ ms) h = after_moves (move w m).world ms (moved w m h)

after_steps : (w : World) (steps : List Step) → AreCarried w steps → AreSent w.network.messages
    → AreSent (end_of w steps).network.messages
after_steps w [] c h = h
after_steps w (s ∷ steps) c h =
    after_steps s.after steps c.1
    (subst (λ (v : World). AreSent v.network.messages) (sym c.0.world_is) (after_moves w c.0.moves h))

-- as the lines show them
to_itself : (p : Posted) → IsOut p.message.from p.message.to → (shown p).from ≡ party.Server → (shown p).to ≡ party.Server → ⊥
to_itself p h e q = between p.message.from p.message.to h e q
  where
    between : (from to : Node) → IsOut from to → party_of from ≡ party.Server → party_of to ≡ party.Server → ⊥
    between node.Server node.Server i x y = i
    between node.Server (node.Drive d) i x y = absurd (cc y)
    between node.Server (node.Client c) i x y = absurd (cc y)
    between (node.Drive d) to i x y = absurd (cc x)
    between (node.Client c) to i x y = absurd (cc x)

shown_out : (ps : List Posted) (n : ℕ) (m : Sent) → AreSent ps → slice_get (map shown ps) n ≡ Some m
    → m.from ≡ party.Server → m.to ≡ party.Server → ⊥
shown_out [] n m h e x y = absurd (cc e)
shown_out (p ∷ ps) zero m h e x y =
    let s : shown p ≡ m = cc e in
    to_itself p h.0 (ap (λ (z : Sent). z.from) s ∙ x) (ap (λ (z : Sent). z.to) s ∙ y)
shown_out (p ∷ ps) (suc n) m h e x y = shown_out ps n m h.1 e x y

pub server_writes_to_others : ServerWritesToOthers
server_writes_to_others w h ms s n m e x y =
    shown_out (world_after w ms).network.messages n m
    (after_moves w ms
    (subst (λ (v : World). AreSent v.network.messages) (sym s.world_is) (after_steps empty_world s.steps s.carried tt)))
    e x y
