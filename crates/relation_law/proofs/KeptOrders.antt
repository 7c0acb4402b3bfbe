-- Nobody sends the server an order: orders are given at the server alone.
-- Towards `KeptGoesOn` (`specs/Steps.antt`).
use Rattle.std.proofs.Common.{◌≡◌, ◌||◌, ℕ, zero, suc, Bool, List, [], ◌∷◌, ◌++◌, map, filter, slice_get, Some, sym, ap, subst, ◌∙◌, inl, inr}
use Rattle.osd_lists.specs.declared.node.Node.{Node}
use Rattle.osd_lists.specs.declared.node.Node.TheVariants as node
use Rattle.layout_ops.specs.declared.envelope.Envelope.TheVariants as envelope
use Rattle.layout_ops.proofs.Whole.{all_again}
use Rattle.client_rules.specs.History.{step as client_step}
use Rattle.server_rules.specs.Envelopes as server_bytes
use Rattle.server_rules.specs.Envelopes.{message_in}
use Rattle.server_rules.specs.History.{Input, Hears, step as server_step}
use Rattle.server_rules.specs.Laws.{In}
use Rattle.server_rules.specs.Messages.{Message as ServerMessage, Orders}
use Rattle.server_rules.proofs.Members.{in_either, in_map, in_mapped, in_filtered}
use Rattle.world_history.specs.ClientNames as client_rules
use Rattle.world_history.specs.ServerNames as server_rules
use Rattle.world_history.specs.declared.messages.Body.{Body}
use Rattle.world_history.specs.declared.messages.Body.TheVariants.{Command as OfCommand, Reply as OfReply, Envelope as OfEnvelope}
use Rattle.world_history.specs.declared.messages.Message.{Message}
use Rattle.world_history.specs.declared.messages.Posted.{Posted}
use Rattle.world_history.specs.Handed.{Post, is_addressed, is_write_out, server_post, client_posts}
use Rattle.world_history.specs.Moves.{Act, acts}
use Rattle.world_history.specs.Sending.{Move, move}
use Rattle.world_history.specs.Spelled.{spelled}
use Rattle.world_history.specs.State.{World}
use Rattle.history_law.specs.Goes.{Goes, Others, AServer, AClient, Stops, Comes, IsOneStep, AreReplies, Nothing, OneReply}
use Rattle.history_law.specs.Moments.{IsReached}
use Rattle.history_law.specs.Said.{said, posted, IsHeardByServer}
use Rattle.history_law.proofs.Goes.{moves_are_steps}
use Rattle.history_law.proofs.Reached.{always}
use Rattle.exchange_law.proofs.SlotLists.{said_more}
use Rattle.relation_law.specs.KeptSteps.{HearsNoOrder}

-- ---- what the server sends itself

-- the answer to an order
abbrev IsToldOrder : Body → Type 0
IsToldOrder (OfEnvelope (envelope.OrderAnswer a)) = Unit {0}
IsToldOrder b = ⊥

abbrev IsOwnMail : Message → Type 0
IsOwnMail m = m.from ≡ node.Server → m.to ≡ node.Server → IsToldOrder m.body

abbrev AreOwnMail : List Message → Type 0
AreOwnMail ms = (m : Message) → In m ms → IsOwnMail m

server_mail : (o : server_rules.Outgoing) → IsOwnMail (server_post o).message
server_mail (server_rules.ToDrive d c) from to = absurd (cc to)
server_mail (server_rules.Recalls r) from to = absurd (cc to)
server_mail (server_rules.Answers a) from to = absurd (cc to)
server_mail (server_rules.AnswersOrder a) from to = tt

-- ---- posts

in_posted : (ps : List Post) (m : Message) → In m (posted ps) → (p : Post) × In p ps × (m ≡ p.message)
in_posted ps m i = in_mapped (λ (p : Post). p.message) m ps i

server_posts : (os : List server_rules.Outgoing) → AreOwnMail (posted (filter is_addressed (map server_post os)))
server_posts os m i =
    let p = in_posted (filter is_addressed (map server_post os)) m i in
    let q = in_filtered is_addressed p.0 (map server_post os) p.1 in
    let o = in_mapped server_post p.0 os q.0 in
    subst IsOwnMail (sym (p.2 ∙ ap (λ (x : Post). x.message) o.2)) (server_mail o.0)

from_client : (c : ℕ) (wrote : Bool) (logged : ℕ) (os : List client_rules.Outgoing) (p : Post)
    → In p (client_posts c wrote logged os) → p.message.from ≡ node.Client c
from_client c wrote logged [] p i = absurd i
from_client c wrote logged (o ∷ os) p (inl e) = ap (λ (x : Post). x.message.from) e
from_client c wrote logged (o ∷ os) p (inr i) = from_client c (wrote || is_write_out o) logged os p i

client_mail : (c : ℕ) (wrote : Bool) (logged : ℕ) (os : List client_rules.Outgoing)
    → AreOwnMail (posted (filter is_addressed (client_posts c wrote logged os)))
client_mail c wrote logged os m i from to =
    let p = in_posted (filter is_addressed (client_posts c wrote logged os)) m i in
    let q = in_filtered is_addressed p.0 (client_posts c wrote logged os) p.1 in
    let is : m.from ≡ node.Client c = ap (λ (x : Message). x.from) p.2 ∙ from_client c wrote logged os p.0 q.0 in
    absurd (cc (sym is ∙ from))

replies_mail : (ps : List Post) → AreReplies ps → AreOwnMail (posted ps)
replies_mail ps (Nothing e) m i from to = absurd (subst (λ (x : List Post). In m (posted x)) e i)
replies_mail ps (OneReply d party r e) m i from to =
    elim (subst (λ (x : List Post). In m (posted x)) e i) [
      | inl same ↦ absurd (cc (sym (ap (λ (x : Message). x.from) same) ∙ from))
      | inr none ↦ absurd none
    ]

none_mail : (ps : List Post) → ps ≡ [] → AreOwnMail (posted ps)
none_mail ps e m i from to = absurd (subst (λ (x : List Post). In m (posted x)) e i)

goes_mail : (w : World) (m : Move) → Goes w m.chosen m.action (acts w m.chosen m.action)
    → AreOwnMail (posted (acts w m.chosen m.action).posts)
goes_mail w m (Others g) = replies_mail (acts w m.chosen m.action).posts g.posts
goes_mail w m (AServer g) =
    subst (λ (ps : List Post). AreOwnMail (posted ps)) (sym g.posts)
    (server_posts (server_step w.server m.chosen g.input).sends)
goes_mail w m (AClient g) =
    subst (λ (ps : List Post). AreOwnMail (posted ps)) (sym g.posts)
    (client_mail g.client g.wrote g.logged (client_step g.before.state g.input).sends)
goes_mail w m (Stops g) = none_mail (acts w m.chosen m.action).posts g.posts
goes_mail w m (Comes g) = none_mail (acts w m.chosen m.action).posts g.posts

-- ---- at each moment

abbrev Mail : World → Type 0
Mail w = AreOwnMail (said w.network.messages)

move_mail : (w : World) (m : Move) → Mail w → Mail (move w m).world
move_mail w m h x i =
    let a : Act = acts w m.chosen m.action in
    let one : IsOneStep w m.chosen m.action a = moves_are_steps w m.chosen m.action in
    let all : said (move w m).world.network.messages ≡ said w.network.messages ++ posted a.posts =
    said_more a.world.network.messages a.posts ∙ ap (λ (l : List Message). l ++ posted a.posts) one.said in
    elim (in_either x (said w.network.messages) (posted a.posts) (subst (In x) all i)) [
      | inl old ↦ h x old
      | inr new ↦ goes_mail w m one.goes x new
    ]

pub own_mail : (w : World) → IsReached w → Mail w
own_mail w r = always Mail (record { starts = λ m i. absurd i; moves = move_mail }) w r

-- ---- an order isn't read in it

told_read : (b : Body) (m : ServerMessage) → IsToldOrder b → message_in node.Server (spelled b) ≡ Some m → ⊥
unfolding message_in
told_read (OfEnvelope (envelope.OrderAnswer a)) m is e =
    absurd (cc (sym (ap server_bytes.by_envelope (all_again (envelope.OrderAnswer a) tt)) ∙ e))
told_read (OfEnvelope (envelope.Order a)) m is e = absurd is
told_read (OfEnvelope (envelope.Request a)) m is e = absurd is
told_read (OfEnvelope (envelope.Answer a)) m is e = absurd is
told_read (OfEnvelope (envelope.Recall a)) m is e = absurd is
told_read (OfEnvelope (envelope.RecallAnswer a)) m is e = absurd is
told_read (OfCommand c) m is e = absurd is
told_read (OfReply r) m is e = absurd is

found_said : (ps : List Posted) (n : ℕ) (p : Posted) → slice_get ps n ≡ Some p → In p.message (said ps)
found_said ps n p e = in_map (λ (x : Posted). x.message) p ps (found_in ps n p e)
  where
    found_in : (xs : List Posted) (k : ℕ) (x : Posted) → slice_get xs k ≡ Some x → In x xs
    found_in [] k x is = absurd (cc is)
    found_in (y ∷ ys) zero x is = let same : y ≡ x = cc is in inl (sym same)
    found_in (y ∷ ys) (suc k) x is = inr (found_in ys k x is)

-- At each moment no order comes to the server in a message.
pub no_order_is_heard : (w : World) → IsReached w → (i : Input) → IsHeardByServer w i → HearsNoOrder i
no_order_is_heard w r i heard now o is =
    let k : IsHeardByServer w (Hears now node.Server (Orders o)) = subst (IsHeardByServer w) is heard in
    let m : Message = k.0.posted.message in
    let mine : IsToldOrder m.body =
    own_mail w r m (found_said w.network.messages k.0.number k.0.posted k.0.there) (sym k.2) k.0.receiver in
    told_read m.body (Orders o) mine (ap (λ (n : Node). message_in n (spelled m.body)) k.2 ∙ k.3)
