-- What is sent between a client and the server in a move, one message at a time.
use Rattle.std.proofs.Common.{◌≡◌, ◌⊎◌, ℕ, Bool, true, List, [], ◌∷◌, map, filter, Option, Some, None, refl, sym, ap, subst, ◌∙◌, inl, inr}
use Rattle.std.proofs.lemmas.Bool.{cases_eq}
use Rattle.osd_lists.specs.declared.node.Node.TheVariants as node
use Rattle.osd_objects.proofs.Entries.{lookup_inserted, lookup_beside}
use Rattle.layout_ops.specs.declared.envelope.Envelope.TheVariants as envelope
use Rattle.layout_ops.specs.declared.messages.Answer.{Answer}
use Rattle.server_rules.specs.Laws.{In}
use Rattle.server_rules.proofs.Members.{in_map, in_filter}
use Rattle.client_rules.specs.History.{Input, Calls, Hears, TimesOut, Leaves, Resends, step}
use Rattle.client_rules.specs.Messages.{Taken, TakesAnswer, TakesReply, TakesRecall, takes}
use Rattle.world_history.specs.ClientNames.{Client, Request, Outgoing, AnswersRecall, Asks, ToDrive}
use Rattle.world_history.specs.ServerNames as server_rules
use Rattle.world_history.specs.declared.messages.Body.TheVariants.{Envelope as OfEnvelope}
use Rattle.world_history.specs.declared.messages.Message.{Message}
use Rattle.world_history.specs.State.{World, ClientAt, at_number}
use Rattle.world_history.specs.Names.{is_named}
use Rattle.world_history.specs.Handed.{Post, is_addressed, server_post, client_post, client_posts}
use Rattle.world_history.specs.Moves.{Act, Action, acts}
use Rattle.history_law.specs.Said.{posted}
use Rattle.history_law.specs.Goes.{ClientGoes, Goes, Others, AServer, AClient, Stops, Comes}
use Rattle.history_law.proofs.Goes.{moves_are_steps}
use Rattle.exchange_law.specs.InStep.{state_of}
use Rattle.exchange_law.specs.Requests.{requests_in, requests_at, left_by, outstanding_at, OneRequest}
use Rattle.exchange_law.proofs.Each.{put_same, put_other, stopped_same}

-- ---- messages

abbrev pub request_message : (client : ℕ) → Request → Message
request_message c r = record { from = node.Client c; to = node.Server; body = OfEnvelope (envelope.Request r) }

abbrev pub answer_message : (client : ℕ) → Answer → Message
answer_message c a = record { from = node.Server; to = node.Client c; body = OfEnvelope (envelope.Answer a) }

-- a post for a party that a line can name is sent
in_sent : (m : Message) (p : Post) (ps : List Post) → In p ps → p.message ≡ m → is_named m.to ≡ true
    → In m (posted (filter is_addressed ps))
in_sent m p ps i is named =
    subst (λ (x : Message). In x (posted (filter is_addressed ps))) is
    (in_map (λ (x : Post). x.message) p (filter is_addressed ps)
    (in_filter is_addressed p ps i (ap (λ (x : Message). is_named x.to) is ∙ named)))

-- what the server answers
pub answer_sent : (c : ℕ) (a : Answer) (os : List server_rules.Outgoing) → In (server_rules.Answers a) os → a.client ≡ c
    → is_named (node.Client c) ≡ true → In (answer_message c a) (posted (filter is_addressed (map server_post os)))
answer_sent c a os i is named =
    in_sent (answer_message c a) (server_post (server_rules.Answers a)) (map server_post os)
    (in_map server_post (server_rules.Answers a) os i) (ap (λ (n : ℕ). answer_message n a) is) named

-- what a client asks
record IsPosted (c : ℕ) (r : Request) (ps : List Post) : Type 0 where
  post : Post
  there : In post ps
  is : post.message ≡ request_message c r

posted_later : (c : ℕ) (r : Request) (p : Post) (ps : List Post) → IsPosted c r ps → IsPosted c r (p ∷ ps)
posted_later c r p ps x = record { post = x.post; there = inr x.there; is = x.is }

asks_posted : (c : ℕ) (r : Request) (wrote : Bool) (logged : ℕ) (os : List Outgoing) → In (Asks r) os
    → IsPosted c r (client_posts c wrote logged os)
asks_posted c r wrote logged [] i = absurd i
asks_posted c r wrote logged (o ∷ os) (inl e) = record {
  post = client_post c _ o;
  there = inl refl;
  is = ap (λ (x : Outgoing). (client_post c 0 x).message) (sym e);
}
asks_posted c r wrote logged (o ∷ os) (inr i) = posted_later c r _ _ (asks_posted c r _ logged os i)

pub request_sent : (c : ℕ) (r : Request) (wrote : Bool) (logged : ℕ) (os : List Outgoing) → In (Asks r) os
    → In (request_message c r) (posted (filter is_addressed (client_posts c wrote logged os)))
request_sent c r wrote logged os i =
    let x = asks_posted c r wrote logged os i in
    in_sent (request_message c r) x.post (client_posts c wrote logged os) x.there x.is refl

-- ---- a client's step

asks_in : (r : Request) (os : List Outgoing) → In r (requests_in os) → In (Asks r) os
asks_in r [] i = absurd i
asks_in r (Asks q ∷ os) (inl e) = inl (ap (λ (x : Request). Asks x) e)
asks_in r (Asks q ∷ os) (inr i) = inr (asks_in r os i)
asks_in r (ToDrive d c ∷ os) i = inr (asks_in r os i)
asks_in r (AnswersRecall a ∷ os) i = inr (asks_in r os i)

asked_at : (x : Client) (i : Input) (r : Request) → In r (requests_at x i) → In (Asks r) (step x i).sends
asked_at x (Calls op) r j = asks_in r (step x (Calls op)).sends j
asked_at x (Hears from m) r j = asks_in r (step x (Hears from m)).sends j
asked_at x (TimesOut k) r j = asks_in r (step x (TimesOut k)).sends j
asked_at x Leaves r j = asks_in r (step x Leaves).sends j
asked_at x Resends r j = absurd j

-- what is outstanding behind a step was asked in it, or is left of what was outstanding
pub step_asks : OneRequest → (x : Client) (i : Input) (r : Request) → (step x i).client.outstanding ≡ Some r
    → In (Asks r) (step x i).sends ⊎ (outstanding_at x i ≡ Some r)
step_asks one x i r e = elim (one x i) [
  | inl k ↦ inr (sym k.1 ∙ e)
  | inr k ↦
      let same : k.1 ≡ r = same_request k.1 (k.3) in
      inl (asked_at x i r (subst (In r) (sym k.2) (inl (sym same))))
]
  where
    same_request : (q : Request) → (step x i).client.outstanding ≡ Some q → q ≡ r
    same_request q f = cc (sym f ∙ e)

left_some : (t : Option Taken) (o : Option Request) (r : Request) → left_by t o ≡ Some r → o ≡ Some r
left_some None o r e = e
left_some (Some (TakesAnswer a)) o r e = absurd (cc e)
left_some (Some (TakesReply a q)) o r e = e
left_some (Some (TakesRecall q)) o r e = e

pub was_outstanding : (x : Client) (i : Input) (r : Request) → outstanding_at x i ≡ Some r → x.outstanding ≡ Some r
was_outstanding x (Calls op) r e = e
was_outstanding x (Hears from m) r e = left_some (takes x from m) x.outstanding r e
was_outstanding x (TimesOut k) r e = e
was_outstanding x Leaves r e = e
was_outstanding x Resends r e = e

-- ---- a move

abbrev pub outstanding_of : World → (client : ℕ) → Option Request
outstanding_of w c = (state_of c (at_number w.clients c)).outstanding

module _ (one : OneRequest) (w : World) (chosen : List ℕ) (action : Action) (c : ℕ) (r : Request) where
  abbrev a : Act
  a = acts w chosen action

  abbrev Goal : Type 0
  Goal = outstanding_of a.world c ≡ Some r
      → In (request_message c r) (posted a.posts) ⊎ (outstanding_of w c ≡ Some r)

  stays : a.world.clients ≡ w.clients → Goal
  stays same e = inr (ap (λ (xs : List (ℕ × ClientAt)). (state_of c (at_number xs c)).outstanding) (sym same) ∙ e)

  its_own : (g : ClientGoes w a) → c ≡ g.client → Goal
  its_own g is e =
      let there : at_number a.world.clients c ≡ Some g.after =
      ap (λ (n : ℕ). at_number a.world.clients n) is ∙ ap (λ (xs : List (ℕ × ClientAt)). at_number xs g.client) g.clients
      ∙ put_same w.clients g.client g.before g.after g.found in
      let behind : (step g.before.state g.input).client.outstanding ≡ Some r =
      ap (λ (x : Client). x.outstanding) (sym g.state)
      ∙ ap (λ (o : Option ClientAt). (state_of c o).outstanding) (sym there) ∙ e in
      elim (step_asks one g.before.state g.input r behind) [
        | inl i ↦
            inl (subst (λ (ps : List Post). In (request_message c r) (posted ps)) (sym g.posts)
            (subst (λ (n : ℕ). In (request_message n r) (posted (filter is_addressed
            (client_posts g.client g.wrote g.logged (step g.before.state g.input).sends)))) (sym is)
            (request_sent g.client r g.wrote g.logged (step g.before.state g.input).sends i)))
        | inr o ↦
            inr (ap (λ (n : ℕ). (state_of c (at_number w.clients n)).outstanding) is
            ∙ ap (λ (x : Option ClientAt). (state_of c x).outstanding) g.found
            ∙ was_outstanding g.before.state g.input r o)
      ]

  by_goes : Goes w chosen action a → Goal
  by_goes (Others g) e = stays g.clients e
  by_goes (AServer g) e = stays g.clients e
  by_goes (AClient g) e = elim (cases_eq c g.client) [
    | inl is ↦ its_own g is e
    | inr other ↦
        inr (ap (λ (o : Option ClientAt). (state_of c o).outstanding)
        (sym (put_other w.clients g.client c g.after other)
        ∙ ap (λ (xs : List (ℕ × ClientAt)). at_number xs c) (sym g.clients)) ∙ e)
  ]
  by_goes (Stops g) e =
      inr (ap (λ (x : Client). x.outstanding)
      (sym (stopped_same w.clients g.client c g.before g.after g.found g.state))
      ∙ ap (λ (xs : List (ℕ × ClientAt)). (state_of c (at_number xs c)).outstanding) (sym g.clients) ∙ e)
  by_goes (Comes g) e = elim (cases_eq c g.client) [
    | inl is ↦
        let there : at_number a.world.clients c ≡ Some g.after =
        ap (λ (n : ℕ). at_number a.world.clients n) is ∙ ap (λ (xs : List (ℕ × ClientAt)). at_number xs g.client) g.clients
        ∙ lookup_inserted w.clients g.client g.after in
        absurd (cc (ap (λ (x : Client). x.outstanding) (sym g.state)
        ∙ ap (λ (o : Option ClientAt). (state_of c o).outstanding) (sym there) ∙ e))
    | inr other ↦
        inr (ap (λ (o : Option ClientAt). (state_of c o).outstanding)
        (sym (lookup_beside w.clients g.client c g.after other)
        ∙ ap (λ (xs : List (ℕ × ClientAt)). at_number xs c) (sym g.clients)) ∙ e)
  ]

  -- what is outstanding behind a move was asked in it, or before
  pub move_asks : Goal
  move_asks = by_goes (moves_are_steps w chosen action).goes
