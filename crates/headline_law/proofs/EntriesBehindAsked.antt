-- The requests that a move sends, and that an outstanding request was sent.
-- Towards `CutsKeepEntries` (`specs/EntriesTied.antt`).
use Rattle.std.proofs.Common.{◌≡◌, ◌⊎◌, ℕ, ◌||◌, ◌&&◌, not, Bool, List, [], ◌∷◌, ◌++◌, map, filter, IsSome, Option, Some, None, refl, sym, ap, subst, ◌∙◌, inl, inr, if◌then◌else◌}
use Rattle.std.proofs.lemmas.Bool.{cases_eq}
use Rattle.layout_ops.specs.declared.envelope.Envelope.TheVariants as envelope
use Rattle.osd_lists.specs.declared.node.Node.TheVariants as node
use Rattle.osd_objects.proofs.Entries.{lookup_inserted, lookup_beside, lookup_set, lookup_set_beside}
use Rattle.server_rules.specs.Laws.{In}
use Rattle.server_rules.specs.History.{step as server_step}
use Rattle.server_rules.proofs.Members.{in_either, in_front, in_behind, in_map, in_mapped, in_filtered, in_filter}
use Rattle.client_rules.specs.Commands.{in_order}
use Rattle.client_rules.specs.History.{Input, Calls, Hears, TimesOut, Leaves, Resends, step}
use Rattle.client_rules.specs.Messages.{Taken, TakesAnswer, TakesReply, TakesRecall, takes, awaited_of, to_drive}
use Rattle.client_rules.specs.Steps.{new_client, outstanding_sends, resent}
use Rattle.world_history.specs.ClientNames.{Client, Awaited, Request, Outgoing, AnswersRecall, Asks, ToDrive}
use Rattle.world_history.specs.ServerNames as server_rules
use Rattle.world_history.specs.declared.messages.Body.TheVariants.{Envelope as OfEnvelope}
use Rattle.world_history.specs.declared.messages.Message.{Message}
use Rattle.world_history.specs.Names.{is_named}
use Rattle.world_history.specs.Handed.{Post, is_addressed, is_write_out, server_post, client_post, client_posts}
use Rattle.world_history.specs.Moves.{Act, acts}
use Rattle.world_history.specs.Sending.{Move, move}
use Rattle.world_history.specs.State.{World, ClientAt, at_number}
use Rattle.history_law.specs.Goes.{Goes, Others, AServer, AClient, Stops, Comes, ClientGoes, AreReplies, Nothing, OneReply}
use Rattle.history_law.specs.Moments.{IsReached}
use Rattle.history_law.specs.Said.{said, posted}
use Rattle.history_law.proofs.Goes.{moves_are_steps}
use Rattle.history_law.proofs.Reached.{always}
use Rattle.exchange_law.specs.InStep.{state_of}
use Rattle.exchange_law.specs.Requests.{OneRequest, IsAsked, requests_in, requests_at, left_by, outstanding_at}
use Rattle.exchange_law.proofs.SlotLists.{said_more}
use Rattle.file_simulation.specs.Relation.{client_of}
use Rattle.file_simulation.specs.Tied.{HasAsked}

-- ---- a step of a client

in_requests : (q : Request) (os : List Outgoing) → In (Asks q) os → In q (requests_in os)
in_requests q [] i = absurd i
in_requests q (Asks r ∷ os) (inl e) = let same : q ≡ r = cc e in inl same
in_requests q (Asks r ∷ os) (inr i) = inr (in_requests q os i)
in_requests q (ToDrive d x ∷ os) (inl e) = absurd (cc e)
in_requests q (ToDrive d x ∷ os) (inr i) = in_requests q os i
in_requests q (AnswersRecall a ∷ os) (inl e) = absurd (cc e)
in_requests q (AnswersRecall a ∷ os) (inr i) = in_requests q os i

in_sends : (q : Request) (os : List Outgoing) → In q (requests_in os) → In (Asks q) os
in_sends q [] i = absurd i
in_sends q (Asks r ∷ os) (inl e) = inl (ap Asks e)
in_sends q (Asks r ∷ os) (inr i) = inr (in_sends q os i)
in_sends q (ToDrive d x ∷ os) i = inr (in_sends q os i)
in_sends q (AnswersRecall a ∷ os) i = inr (in_sends q os i)

-- A request that a step sends is outstanding behind it. It was outstanding before, or has the client's next number.
pub record SendsOne (x : Client) (y : Client) (q : Request) : Type 0 where
  pub outstanding : y.outstanding ≡ Some q
  pub from : (x.outstanding ≡ Some q) ⊎ (q.sequence ≡ x.next)

asked_one : (x y : Client) (before : Option Request) (sent : List Request) (q : Request) →
    IsAsked x.next before y.outstanding sent → In q sent → SendsOne x y q
asked_one x y before sent q (inl k) i = absurd (subst (In q) k.0 i)
asked_one x y before sent q (inr k) i = elim (subst (In q) k.2 i) [
  | inl e ↦ record {
    outstanding = k.3 ∙ ap (λ (r : Request). Some r) (sym e);
    from = inr (ap (λ (r : Request). r.sequence) e ∙ k.4);
  }
  | inr none ↦ absurd none
]

none_driven : (q : Request) (xs : List Awaited) → In (Asks q) (map to_drive xs) → ⊥
none_driven q [] i = i
none_driven q (a ∷ xs) (inl e) = cc e
none_driven q (a ∷ xs) (inr i) = none_driven q xs i

sends_again : (q : Request) (o : Option Request) (xs : List Awaited) → In (Asks q) (outstanding_sends o ++ map to_drive xs) →
    o ≡ Some q
sends_again q None xs i = absurd (none_driven q xs i)
sends_again q (Some r) xs (inl e) = let same : q ≡ r = cc e in ap (λ (z : Request). Some z) (sym same)
sends_again q (Some r) xs (inr i) = absurd (none_driven q xs i)

module _ (one : OneRequest) where
  pub step_sends : (x : Client) (i : Input) (q : Request) → In (Asks q) (step x i).sends → SendsOne x (step x i).client q
  unfolding resent
  step_sends x (Calls op) q i =
      asked_one x (step x (Calls op)).client x.outstanding (requests_at x (Calls op)) q (one x (Calls op))
      (in_requests q (step x (Calls op)).sends i)
  step_sends x (Hears from m) q i =
      asked_one x (step x (Hears from m)).client (outstanding_at x (Hears from m)) (requests_at x (Hears from m)) q
      (one x (Hears from m)) (in_requests q (step x (Hears from m)).sends i)
  step_sends x (TimesOut k) q i =
      asked_one x (step x (TimesOut k)).client x.outstanding (requests_at x (TimesOut k)) q (one x (TimesOut k))
      (in_requests q (step x (TimesOut k)).sends i)
  step_sends x Leaves q i =
      asked_one x (step x Leaves).client x.outstanding (requests_at x Leaves) q (one x Leaves)
      (in_requests q (step x Leaves).sends i)
  step_sends x Resends q i =
      let had : x.outstanding ≡ Some q = sends_again q x.outstanding (in_order (awaited_of x.call)) i in
      record { outstanding = had; from = inl had }

  -- What is outstanding behind a step was so before, or the step sends it.
  left_is : (t : Option Taken) (o : Option Request) (q : Request) → left_by t o ≡ Some q → o ≡ Some q
  left_is None o q e = e
  left_is (Some (TakesAnswer a)) o q e = absurd (cc e)
  left_is (Some (TakesReply a r)) o q e = e
  left_is (Some (TakesRecall r)) o q e = e

  stood_or_sent : (x : Client) (y : Client) (before : Option Request) (os : List Outgoing) (q : Request) →
      IsAsked x.next before y.outstanding (requests_in os) → (before ≡ Some q → x.outstanding ≡ Some q) →
      y.outstanding ≡ Some q → (x.outstanding ≡ Some q) ⊎ In (Asks q) os
  stood_or_sent x y before os q (inl k) back is = inl (back (sym k.1 ∙ is))
  stood_or_sent x y before os q (inr k) back is =
      let same : k.1 ≡ q = cc (sym k.3 ∙ is) in
      inr (in_sends q os (subst (In q) (sym k.2) (inl (sym same))))

  pub step_leaves : (x : Client) (i : Input) (q : Request) → (step x i).client.outstanding ≡ Some q →
      (x.outstanding ≡ Some q) ⊎ In (Asks q) (step x i).sends
  step_leaves x (Calls op) q is =
      stood_or_sent x (step x (Calls op)).client x.outstanding (step x (Calls op)).sends q (one x (Calls op)) (λ e. e) is
  step_leaves x (Hears from m) q is =
      stood_or_sent x (step x (Hears from m)).client (outstanding_at x (Hears from m)) (step x (Hears from m)).sends q
      (one x (Hears from m)) (left_is (takes x from m) x.outstanding q) is
  step_leaves x (TimesOut k) q is =
      stood_or_sent x (step x (TimesOut k)).client x.outstanding (step x (TimesOut k)).sends q (one x (TimesOut k)) (λ e. e) is
  step_leaves x Leaves q is =
      stood_or_sent x (step x Leaves).client x.outstanding (step x Leaves).sends q (one x Leaves) (λ e. e) is
  step_leaves x Resends q is = inl is

-- ---- its messages

abbrev pub request_of : (c : ℕ) → Request → Message
request_of c q = record { from = node.Client c; to = node.Server; body = OfEnvelope (envelope.Request q) }

is_request : (c d : ℕ) (q : Request) (logged : ℕ) (o : Outgoing) → request_of c q ≡ (client_post d logged o).message →
    (d ≡ c) × (o ≡ Asks q)
is_request c d q logged (Asks r) e =
    let client : node.Client c ≡ node.Client d = ap (λ (m : Message). m.from) e in
    let same : c ≡ d = cc client in
    let body : OfEnvelope (envelope.Request q) ≡ OfEnvelope (envelope.Request r) = ap (λ (m : Message). m.body) e in
    let one : q ≡ r = cc body in
    (sym same, ap Asks (sym one))
is_request c d q logged (AnswersRecall a) e =
    let body : OfEnvelope (envelope.Request q) ≡ OfEnvelope (envelope.RecallAnswer a) = ap (λ (m : Message). m.body) e in
    absurd (cc body)
is_request c d q logged (ToDrive n x) e =
    let to : node.Server ≡ node.Drive n = ap (λ (m : Message). m.to) e in absurd (cc to)

in_posts : (c d : ℕ) (q : Request) (wrote : Bool) (logged : ℕ) (os : List Outgoing) (p : Post) →
    In p (client_posts d wrote logged os) → request_of c q ≡ p.message → (d ≡ c) × In (Asks q) os
in_posts c d q wrote logged [] p i e = absurd i
in_posts c d q wrote logged (o ∷ os) p (inl same) e =
    let k = is_request c d q (if is_write_out o && not wrote then logged else 0) o
    (e ∙ ap (λ (x : Post). x.message) same) in (k.0, inl (sym k.1))
in_posts c d q wrote logged (o ∷ os) p (inr i) e =
    let k = in_posts c d q (wrote || is_write_out o) logged os p i e in (k.0, inr k.1)

posts_it : (c : ℕ) (q : Request) (wrote : Bool) (logged : ℕ) (os : List Outgoing) → In (Asks q) os →
    (p : Post) × In p (client_posts c wrote logged os) × (p.message ≡ request_of c q)
posts_it c q wrote logged [] i = absurd i
posts_it c q wrote logged (o ∷ os) (inl e) =
    let size : ℕ = if is_write_out o && not wrote then logged else 0 in
    (client_post c size o, inl refl, ap (λ (x : Outgoing). (client_post c size x).message) (sym e))
posts_it c q wrote logged (o ∷ os) (inr i) =
    let k = posts_it c q (wrote || is_write_out o) logged os i in (k.0, inr k.1, k.2)

-- ---- a move

module _ (one : OneRequest) (w : World) (m : Move) where
  abbrev a : Act
  a = acts w m.chosen m.action

  abbrev goes : Goes w m.chosen m.action (acts w m.chosen m.action)
  goes = (moves_are_steps w m.chosen m.action).goes

  all_said : said (move w m).world.network.messages ≡ said w.network.messages ++ posted (acts w m.chosen m.action).posts
  all_said =
      said_more (acts w m.chosen m.action).world.network.messages (acts w m.chosen m.action).posts
      ∙ ap (λ (l : List Message). l ++ posted (acts w m.chosen m.action).posts) (moves_are_steps w m.chosen m.action).said

  -- what was asked before was asked
  pub asked_stays : (c : ℕ) (q : Request) → HasAsked w c q → HasAsked (move w m).world c q
  asked_stays c q i =
      subst (In (request_of c q)) (sym all_said)
      (in_front (request_of c q) (said w.network.messages) (posted (acts w m.chosen m.action).posts) i)

  abbrev Sends : (c : ℕ) → Request → Type 0
  Sends c q = SendsOne (client_of w c) (client_of (move w m).world c) q

  by_replies : (ps : List Post) (c : ℕ) (q : Request) → AreReplies ps → In (request_of c q) (posted ps) → ⊥
  by_replies ps c q (Nothing e) i = subst (λ (xs : List Post). In (request_of c q) (posted xs)) e i
  by_replies ps c q (OneReply d to r e) i = elim (subst (λ (xs : List Post). In (request_of c q) (posted xs)) e i) [
    | inl same ↦
        let from : node.Client c ≡ node.Drive d = ap (λ (x : Message). x.from) same in cc from
    | inr none ↦ none
  ]

  by_server : (c : ℕ) (q : Request) (os : List server_rules.Outgoing) →
      In (request_of c q) (posted (filter is_addressed (map server_post os))) → ⊥
  by_server c q os i =
      let p = in_mapped (λ (x : Post). x.message) (request_of c q) (filter is_addressed (map server_post os)) i in
      let z = in_filtered is_addressed p.0 (map server_post os) p.1 in
      let o = in_mapped server_post p.0 os z.0 in
      let from : node.Client c ≡ (server_post o.0).message.from =
      ap (λ (x : Message). x.from) (p.2 ∙ ap (λ (x : Post). x.message) o.2) in
      by o.0 from
    where
      by : (x : server_rules.Outgoing) → node.Client c ≡ (server_post x).message.from → ⊥
      by (server_rules.ToDrive d y) e = cc e
      by (server_rules.Recalls r) e = cc e
      by (server_rules.Answers y) e = cc e
      by (server_rules.AnswersOrder y) e = cc e

  none_said : (ps : List Post) (c : ℕ) (q : Request) → ps ≡ [] → In (request_of c q) (posted ps) → ⊥
  none_said ps c q e i = subst (λ (xs : List Post). In (request_of c q) (posted xs)) e i

  by_client : (g : ClientGoes w (acts w m.chosen m.action)) (c : ℕ) (q : Request) →
      In (request_of c q) (posted (acts w m.chosen m.action).posts) → Sends c q
  by_client g c q i =
      let os : List Outgoing = (step g.before.state g.input).sends in
      let j = subst (λ (ps : List Post). In (request_of c q) (posted ps)) g.posts i in
      let p = in_mapped (λ (x : Post). x.message) (request_of c q) (filter is_addressed
      (client_posts g.client g.wrote g.logged os)) j in
      let z = in_filtered is_addressed p.0 (client_posts g.client g.wrote g.logged os) p.1 in
      let k = in_posts c g.client q g.wrote g.logged os p.0 z.0 p.2 in
      let now : at_number (acts w m.chosen m.action).world.clients g.client ≡ Some g.after =
      ap (λ (xs : List (ℕ × ClientAt)). at_number xs g.client) g.clients
      ∙ lookup_set w.clients g.client g.after (subst IsSome (sym g.found) refl) in
      let sent = step_sends one g.before.state g.input q k.1 in
      subst (λ (n : ℕ). Sends n q) k.0
      (subst (λ (x : Client). SendsOne x (client_of (move w m).world g.client) q) (sym (ap (state_of g.client) g.found))
      (subst (λ (y : Client). SendsOne g.before.state y q) (sym (ap (state_of g.client) now ∙ g.state)) sent))

  -- A request that was sent behind a move was sent before, or the move sends it.
  pub asked_or_sent : (c : ℕ) (q : Request) → HasAsked (move w m).world c q → HasAsked w c q ⊎ Sends c q
  asked_or_sent c q i =
      elim (in_either (request_of c q) (said w.network.messages) (posted (acts w m.chosen m.action).posts)
      (subst (In (request_of c q)) all_said i)) [
        | inl old ↦ inl old
        | inr new ↦ inr (by goes new)
      ]
    where
      by : Goes w m.chosen m.action (acts w m.chosen m.action) →
          In (request_of c q) (posted (acts w m.chosen m.action).posts) → Sends c q
      by (Others g) new = absurd (by_replies (acts w m.chosen m.action).posts c q g.posts new)
      by (AServer g) new =
          absurd (by_server c q (server_step w.server m.chosen g.input).sends
          (subst (λ (ps : List Post). In (request_of c q) (posted ps)) g.posts new))
      by (AClient g) new = by_client g c q new
      by (Stops g) new = absurd (none_said (acts w m.chosen m.action).posts c q g.posts new)
      by (Comes g) new = absurd (none_said (acts w m.chosen m.action).posts c q g.posts new)

-- ---- what is outstanding was sent

abbrev pub OutstandingIsAsked : World → Type 0
OutstandingIsAsked w = (c : ℕ) (q : Request) → (client_of w c).outstanding ≡ Some q → HasAsked w c q

module _ (one : OneRequest) where
  goes_asked : (w : World) (m : Move) → OutstandingIsAsked w → OutstandingIsAsked (move w m).world
  goes_asked w m h c q is = by (moves_are_steps w m.chosen m.action).goes
    where
      same : at_number (acts w m.chosen m.action).world.clients c ≡ at_number w.clients c → HasAsked (move w m).world c q
      same e =
          asked_stays one w m c q
          (h c q (ap (λ (o : Option ClientAt). (state_of c o).outstanding) (sym e) ∙ is))

      went : (g : ClientGoes w (acts w m.chosen m.action)) → (d : ℕ) → d ≡ g.client →
          (client_of (move w m).world d).outstanding ≡ Some q → HasAsked (move w m).world d q
      went g d e out =
          let now : at_number (acts w m.chosen m.action).world.clients d ≡ Some g.after =
          ap (at_number (acts w m.chosen m.action).world.clients) e
          ∙ ap (λ (xs : List (ℕ × ClientAt)). at_number xs g.client) g.clients
          ∙ lookup_set w.clients g.client g.after (subst IsSome (sym g.found) refl) in
          let left : (step g.before.state g.input).client.outstanding ≡ Some q =
          ap (λ (x : Client). x.outstanding) (sym g.state)
          ∙ ap (λ (o : Option ClientAt). (state_of d o).outstanding) (sym now) ∙ out in
          elim (step_leaves one g.before.state g.input q left) [
            | inl old ↦
                asked_stays one w m d q
                (h d q (ap (λ (o : Option ClientAt). (state_of d o).outstanding) (ap (at_number w.clients) e ∙ g.found) ∙ old))
            | inr sent ↦
                let p = posts_it g.client q g.wrote g.logged (step g.before.state g.input).sends sent in
                let there = in_filter is_addressed p.0
                (client_posts g.client g.wrote g.logged (step g.before.state g.input).sends) p.1
                (ap (λ (x : Message). is_named x.to) p.2) in
                let new : In p.0.message (posted (acts w m.chosen m.action).posts) =
                in_map (λ (x : Post). x.message) p.0 (acts w m.chosen m.action).posts
                (subst (In p.0) (sym g.posts) there) in
                subst (λ (n : ℕ). HasAsked (move w m).world n q) (sym e)
                (subst (In (request_of g.client q)) (sym (all_said one w m))
                (in_behind (request_of g.client q) (said w.network.messages) (posted (acts w m.chosen m.action).posts)
                (subst (λ (x : Message). In x (posted (acts w m.chosen m.action).posts)) p.2 new)))
          ]

      by : Goes w m.chosen m.action (acts w m.chosen m.action) → HasAsked (move w m).world c q
      by (Others g) = same (ap (λ (xs : List (ℕ × ClientAt)). at_number xs c) g.clients)
      by (AServer g) = same (ap (λ (xs : List (ℕ × ClientAt)). at_number xs c) g.clients)
      by (AClient g) = elim (cases_eq c g.client) [
        | inl e ↦ went g c e is
        | inr other ↦
            same (ap (λ (xs : List (ℕ × ClientAt)). at_number xs c) g.clients
            ∙ lookup_set_beside w.clients g.client c g.after other)
      ]
      by (Stops g) = elim (cases_eq c g.client) [
        | inl e ↦
            let now : at_number (acts w m.chosen m.action).world.clients c ≡ Some g.after =
            ap (at_number (acts w m.chosen m.action).world.clients) e
            ∙ ap (λ (xs : List (ℕ × ClientAt)). at_number xs g.client) g.clients
            ∙ lookup_set w.clients g.client g.after (subst IsSome (sym g.found) refl) in
            let old : (client_of w c).outstanding ≡ Some q =
            ap (λ (o : Option ClientAt). (state_of c o).outstanding) (ap (at_number w.clients) e ∙ g.found)
            ∙ ap (λ (x : Client). x.outstanding) (sym g.state)
            ∙ ap (λ (o : Option ClientAt). (state_of c o).outstanding) (sym now) ∙ is in
            asked_stays one w m c q (h c q old)
        | inr other ↦
            same (ap (λ (xs : List (ℕ × ClientAt)). at_number xs c) g.clients
            ∙ lookup_set_beside w.clients g.client c g.after other)
      ]
      by (Comes g) = elim (cases_eq c g.client) [
        | inl e ↦
            let now : at_number (acts w m.chosen m.action).world.clients c ≡ Some g.after =
            ap (at_number (acts w m.chosen m.action).world.clients) e
            ∙ ap (λ (xs : List (ℕ × ClientAt)). at_number xs g.client) g.clients
            ∙ lookup_inserted w.clients g.client g.after in
            let none : (new_client g.client 1).outstanding ≡ Some q =
            ap (λ (x : Client). x.outstanding) (sym g.state)
            ∙ ap (λ (o : Option ClientAt). (state_of c o).outstanding) (sym now) ∙ is in
            absurd (cc none)
        | inr other ↦
            same (ap (λ (xs : List (ℕ × ClientAt)). at_number xs c) g.clients
            ∙ lookup_beside w.clients g.client c g.after other)
      ]

  -- So it is at each moment.
  pub outstanding_is_asked : (w : World) → IsReached w → OutstandingIsAsked w
  outstanding_is_asked w r =
      always OutstandingIsAsked (record { starts = λ c q is. absurd (cc is); moves = goes_asked }) w r
