-- What clients send to drives is placed, and what they take of the server is its own.
use Rattle.std.proofs.Common.{◌≡◌, ℕ, ◌∷◌, [], List, Bool, true, false, Some, IsSome, map, filter, slice_get, refl, sym, ap, subst, ◌∙◌, inl, inr, if◌then◌else◌}
use Rattle.std.proofs.lemmas.Bool.{cases_eq}
use Rattle.osd_lists.specs.declared.node.Node.{Node}
use Rattle.osd_lists.specs.declared.node.Node.TheVariants as node
use Rattle.layout_ops.specs.Reading.{envelope_of}
use Rattle.osd_objects.proofs.Entries.{lookup_inserted, lookup_beside, lookup_set, lookup_set_beside}
use Rattle.client_rules.specs.Envelopes.{message_in}
use Rattle.client_rules.specs.Messages.{Message as ClientMessage, Answers}
use Rattle.world_history.specs.ServerNames as server_rules
use Rattle.world_history.specs.ClientNames as client_rules
use Rattle.world_history.specs.declared.messages.Body.{Body}
use Rattle.world_history.specs.declared.messages.Body.TheVariants.{Command as OfCommand}
use Rattle.world_history.specs.declared.messages.Sent.{Sent}
use Rattle.world_history.specs.State.{ClientAt, at_number, with_number, and_number}
use Rattle.world_history.specs.Spelled.{party_of}
use Rattle.world_history.specs.Handed.{Post, is_addressed, server_post, client_posts}
use Rattle.world_history.specs.Moves.{Act}
use Rattle.history_law.proofs.Issuing.{answer_read}
use Rattle.exchange_law.specs.PlaceAnswers.{SpellsFitting, AnswersFit}
use Rattle.exchange_law.proofs.Commands.{MaySend}
use Rattle.exchange_law.proofs.PlaceGoing.{ClientFits, SendsPlaced}
use Rattle.exchange_law.proofs.PlaceSteps.{HeardOwn}
use Rattle.exchange_law.proofs.PlaceTaken.{taken_own}

-- ---- what holds at a moment

abbrev pub Clients : Type 0
Clients = List (ℕ × ClientAt)

-- each client sends placed commands alone, under grants that the server gave it
abbrev pub ClientsFit : Clients → Type 0
ClientsFit xs = (c : ℕ) (a : ClientAt) → at_number xs c ≡ Some a → ClientFits c a.state

-- so is a message of a client to a drive
abbrev pub PostPlaced : (from to : Node) → Body → Type 0
PostPlaced (node.Client c) (node.Drive d) (OfCommand x) = MaySend d x
PostPlaced (node.Client c) (node.Drive d) body = ⊥
PostPlaced from to body = Unit {0}

abbrev pub PostsPlaced : List Post → Type 0
PostsPlaced [] = Unit {0}
PostsPlaced (p ∷ ps) = PostPlaced p.message.from p.message.to p.message.body × PostsPlaced ps

pub record ActFits (a : Act) : Type 0 where
  pub clients : ClientsFit a.world.clients
  pub posts : PostsPlaced a.posts

-- ---- what is sent

one_placed : (b : Bool) (p : Post) (ps : List Post) → PostPlaced p.message.from p.message.to p.message.body
    → PostsPlaced ps → PostsPlaced (if b then p ∷ ps else ps)
one_placed true p ps k l = (k, l)
one_placed false p ps k l = l

addressed_placed : (ps : List Post) → PostsPlaced ps → PostsPlaced (filter is_addressed ps)
addressed_placed [] k = tt
addressed_placed (p ∷ ps) k = one_placed (is_addressed p) p (filter is_addressed ps) k.0 (addressed_placed ps k.1)

server_posts_placed : (os : List server_rules.Outgoing) → PostsPlaced (map server_post os)
server_posts_placed [] = tt
server_posts_placed (server_rules.ToDrive d x ∷ os) = (tt, server_posts_placed os)
server_posts_placed (server_rules.Recalls r ∷ os) = (tt, server_posts_placed os)
server_posts_placed (server_rules.Answers a ∷ os) = (tt, server_posts_placed os)
server_posts_placed (server_rules.AnswersOrder a ∷ os) = (tt, server_posts_placed os)

pub from_server : (os : List server_rules.Outgoing) → PostsPlaced (filter is_addressed (map server_post os))
from_server os = addressed_placed (map server_post os) (server_posts_placed os)

client_posts_placed : (c : ℕ) (wrote : Bool) (logged : ℕ) (os : List client_rules.Outgoing) → SendsPlaced os
    → PostsPlaced (client_posts c wrote logged os)
client_posts_placed c wrote logged [] k = tt
client_posts_placed c wrote logged (client_rules.ToDrive d x ∷ os) k = (k.0, client_posts_placed c _ logged os k.1)
client_posts_placed c wrote logged (client_rules.Asks r ∷ os) k = (tt, client_posts_placed c _ logged os k)
client_posts_placed c wrote logged (client_rules.AnswersRecall a ∷ os) k = (tt, client_posts_placed c _ logged os k)

pub from_client : (c : ℕ) (wrote : Bool) (logged : ℕ) (os : List client_rules.Outgoing) → SendsPlaced os
    → PostsPlaced (filter is_addressed (client_posts c wrote logged os))
from_client c wrote logged os k =
    addressed_placed (client_posts c wrote logged os) (client_posts_placed c wrote logged os k)

-- ---- one client changes

pub put_client : (xs : Clients) (c : ℕ) (a b : ClientAt) → ClientsFit xs → at_number xs c ≡ Some a
    → ClientFits c b.state → ClientsFit (with_number xs c b)
put_client xs c a b k found now d x there = elim (cases_eq d c) [
  | inl it ↦ let here : Some x ≡ Some b =
      sym there ∙ ap (λ (n : ℕ). at_number (with_number xs c b) n) it
      ∙ lookup_set xs c b (subst IsSome (sym found) refl) in
      let same : b ≡ x = cc (sym here) in
      subst (λ (y : ClientAt). ClientFits d y.state) same
      (subst (λ (n : ℕ). ClientFits n b.state) (sym it) now)
  | inr other ↦ k d x (sym (lookup_set_beside xs c d b other) ∙ there)
]

pub add_client : (xs : Clients) (c : ℕ) (b : ClientAt) → ClientsFit xs → ClientFits c b.state
    → ClientsFit (and_number xs c b)
add_client xs c b k now d x there = elim (cases_eq d c) [
  | inl it ↦ let here : Some x ≡ Some b =
      sym there ∙ ap (λ (n : ℕ). at_number (and_number xs c b) n) it ∙ lookup_inserted xs c b in
      let same : b ≡ x = cc (sym here) in
      subst (λ (y : ClientAt). ClientFits d y.state) same
      (subst (λ (n : ℕ). ClientFits n b.state) (sym it) now)
  | inr other ↦ k d x (sym (lookup_beside xs c d b other) ∙ there)
]

-- ---- an answer that is delivered is the server's

pub heard_own : (ss : List Sent) (n : ℕ) (m : Sent) → slice_get ss n ≡ Some m → AnswersFit ss → (c : ℕ) (from : Node)
    (bytes : List ℕ) (x : ClientMessage) → m.from ≡ party_of from → m.to ≡ party_of (node.Client c) → m.bytes ≡ bytes
    → message_in from bytes ≡ Some x → HeardOwn c from x
unfolding message_in
heard_own ss n m there fit c node.Server bytes (Answers a) from to is e =
    let spells : SpellsFitting c bytes = subst (SpellsFitting c) is (fit n c m there from to) in
    λ op h taken. taken_own c bytes a op h spells (answer_read bytes (envelope_of bytes) a refl e) taken
heard_own ss n m there fit c from bytes x is to same e = tt
