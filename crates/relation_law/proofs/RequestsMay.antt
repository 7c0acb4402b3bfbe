-- What a move of a calm history gives for the events of requests: the client waits for nothing where it asks, the answer that
-- it takes is the server's, and what the server carries out is the client's outstanding request.
-- Towards `EventsAreLawful` (`specs/Steps.antt`).
use Rattle.std.proofs.Common.{◌≡◌, ◌<◌, ◌==◌, ◌-◌, ℕ, Bool, true, false, List, [], ◌∷◌, Option, Some, None, take, refl, sym, ap, subst, ◌∙◌, inl, inr, arith, if◌then◌else◌}
use Rattle.std.proofs.lemmas.Bool.{cases_eq, eq-eqb, ne_eqb}
use Rattle.std.proofs.lemmas.List.{append-nil}
use Rattle.scenario_text.specs.declared.line.Line.{Line}
use Rattle.scenario_text.specs.declared.names.TheConstants.{CLIENTS}
use Rattle.layout_ops.specs.declared.args.Args.{Args}
use Rattle.layout_ops.specs.declared.args.Args.TheVariants as args
use Rattle.layout_ops.specs.declared.messages.Answer.{Answer}
use Rattle.layout_ops.specs.declared.statuses.TheConstants.{NFS4_OK}
use Rattle.osd_lists.specs.declared.node.Node.{Node}
use Rattle.osd_lists.specs.declared.node.Node.TheVariants as node
use Rattle.server_rules.specs.History.{Hears as ServerHears}
use Rattle.server_rules.specs.Messages.{Asks}
use Rattle.server_rules.specs.Slots.{slot_of}
use Rattle.server_rules.specs.Laws.{last_of}
use Rattle.client_rules.specs.declared.limits.TheConstants.{GREATEST_SEQUENCE}
use Rattle.client_rules.specs.Answers.{is_loss_taken}
use Rattle.client_rules.specs.Messages.{Message, TakesAnswer, takes}
use Rattle.client_rules.specs.History.{Hears, Resends, step}
use Rattle.client_rules.specs.Results.{status_of}
use Rattle.world_history.specs.ServerNames.{File, Slot, ClientRequest}
use Rattle.world_history.specs.ClientNames.{Client, Request, Done}
use Rattle.world_history.specs.State.{World}
use Rattle.world_history.specs.Handed.{op_in}
use Rattle.world_history.specs.Moves.{acts}
use Rattle.world_history.specs.Sending.{Move}
use Rattle.history_law.specs.BookMoments.{lines_in}
use Rattle.history_law.specs.Doing.{input_in}
use Rattle.exchange_law.specs.Meeting.{IsReadable, IsReadableThrough}
use Rattle.exchange_law.specs.Messages.{last_before}
use Rattle.exchange_law.specs.Taking.{TakesOwn}
use Rattle.exchange_law.proofs.CountGrowing.{fewer, text_front}
use Rattle.exchange_law.proofs.Knowing.{lawful_at}
use Rattle.history_law.specs.Moves.{IsForClient}
use Rattle.fence_law.specs.State.{State}
use Rattle.fence_law.specs.State.{Event as event}
use Rattle.fence_law.specs.Machine.{Allowed}
use Rattle.fence_law.specs.State.RequestKind.{Get, Return}
use Rattle.file_simulation.specs.EventLists.{entry_of}
use Rattle.file_simulation.specs.Relation.{client_of}
use Rattle.file_simulation.specs.Requests.{RequestClass, Own, Other, phase_of, return_class, class_by, class_of, kept_by, AwaitsNothing, IsOutstanding, RequestIs, RequestsAgree}
use Rattle.file_simulation.specs.ClientEvents as table
use Rattle.file_simulation.specs.ClientEvents.{Going, going_in}
use Rattle.relation_law.specs.Frames.{ByClient}
use Rattle.relation_law.specs.Requests.{Turned, NothingAsked, OneAsked, HasTurned, AskingStays, FirstMay}
use Rattle.relation_law.specs.RequestsGoing.{first_behind, ended_behind, IsItsRequest, MayLaws, TakesOwnAnswer, CarriesOut}
use Rattle.relation_law.specs.Steps.{Follows}
use Rattle.relation_law.proofs.FramesParties as parties
use Rattle.relation_law.proofs.RequestsAsked.{return_no_get}
use Rattle.relation_law.proofs.RequestsGuards.{takes_other_may, takes_get_may, takes_return_may}
use Rattle.relation_law.proofs.RequestsHeard.{heard_in, its_request}
use Rattle.relation_law.proofs.RequestsOn.{IsServed}
use Rattle.relation_law.proofs.RequestsPlain.{asking_more, asking_stays_all, first_plain, ended_plain}
use Rattle.relation_law.proofs.RequestsSteps.{step_turned}

-- the last number isn't the next one
last_other : (n : ℕ) → last_before n ≡ n → ⊥
last_other n e = elim (cases_eq n 0) [
  | inl zero_ ↦ absurd (omega (
    arith,
    sym (ap (λ (b : Bool). if b then GREATEST_SEQUENCE else n - 1)
        (eq-eqb n 0 zero_)) ∙ e,
    zero_,
  ))
  | inr some ↦ absurd (omega (arith, sym (ap (λ (b : Bool). if b then GREATEST_SEQUENCE else n - 1) (ne_eqb n 0 some)) ∙ e, some))
]

module _ (laws : MayLaws) (w : World) (h : List Line) (m : Move) (count : ℕ) (f g : File) (s : State)
    (k : Follows w h m count f g s) where
  abbrev file : ℕ
  file = f.kept.number

  pub through : IsReadableThrough h
  through =
      laws.readable h (lawful_at w h k.moment) (text_front h (take count (lines_in w m)) k.calm.scenario.text)
      (fewer h (take count (lines_in w m)) k.calm.scenario.few)

  pub readable : IsReadable w
  readable = through w h [] k.moment (sym (append-nil h))

  before : (c : ℕ) → c < CLIENTS → RequestsAgree file f.kept.map s w.server c (client_of w c)
  before c low = (k.related.clients c low).slot

  -- ---- a client goes on

  module _ (j : Going) (goes : going_in w m.action ≡ Some j) (low : j.client < CLIENTS) where
    by : ByClient w m.action j (acts w m.chosen m.action)
    by = parties.client_goes w h k.moment m k.is_due j goes

    pub agrees : RequestsAgree file f.kept.map s w.server j.client j.state
    agrees =
        subst (RequestsAgree file f.kept.map s w.server j.client)
        (parties.client_before w m.action j (acts w m.chosen m.action) by) (before j.client low)

    abbrev p : Option Slot
    p = slot_of w.server.slots j.client

    module _ (from : Node) (b : Message) (a : Answer) (is : j.input ≡ Hears from b)
        (took : takes j.state from b ≡ Some (TakesAnswer a)) where
      pub own_is : TakesOwnAnswer w j.client j.state a
      own_is =
          let heard : IsForClient w m.action j.client by.before (Hears from b) =
          subst (IsForClient w m.action j.client by.before) is by.input_is in
          let d = heard.0 in
          let took_it : takes by.before.state d.posted.message.from b ≡ Some (TakesAnswer a) =
          ap (λ (n : Node). takes by.before.state n b) (sym heard.1)
          ∙ ap (λ (z : Client). takes z from b) (sym by.state_is) ∙ took in
          let own : TakesOwn w h j.client by.before.state d.posted a =
          laws.own w h k.moment j.client by.before by.found d.number d.posted d.there d.receiver b a heard.2 took_it in
          record {
            request = own.request;
            outstanding = ap (λ (z : Client). z.outstanding) by.state_is ∙ own.outstanding;
            served = ap last_of own.kept ∙ own.last;
            kept = ap (λ (o : Option Slot). kept_by o own.request) own.kept
                ∙ ap (λ (z : Bool). if z then Some own.slot.kept else None) (eq-eqb own.slot.last own.request.sequence own.last)
                ∙ ap (λ (z : Answer). Some z) (sym (own.exact (readable.answers j.client own.slot own.kept)));
          }

      abbrev r : Request
      r = own_is.request

      its : IsOutstanding file f.kept.map s p j.client j.state r
      its = subst (RequestIs file f.kept.map s p j.client j.state) own_is.outstanding agrees.request

      other_may : class_of file j.state r ≡ Other → Allowed s (event.TakesOther j.client)
      other_may class = takes_other_may file f.kept.map s j.client j.state p r agrees.slot its own_is.served class

      commit_first : class_of file j.state r ≡ Other → FirstMay s (table.commit_answered s j.client a)
      commit_first class = either (status_of a.results == NFS4_OK)
        where
          either : (z : Bool) → FirstMay s (if z
              then event.TakesOther j.client ∷ (event.TakesCommit j.client (entry_of s j.client) ∷ [])
              else event.TakesOther j.client ∷ (event.TakesRefusal j.client (entry_of s j.client) ∷ []))
          either true = other_may class
          either false = other_may class

      report_first : class_of file j.state r ≡ Other → FirstMay s (table.report_answered s j.client a)
      report_first class = either (is_loss_taken a)
        where
          either : (z : Bool) → FirstMay s (if z then event.TakesOther j.client ∷ []
              else event.TakesOther j.client ∷ (event.Breaks j.client (entry_of s j.client) ∷ (event.Forgets j.client ∷ [])))
          either true = other_may class
          either false = other_may class

      return_first : (o : RequestClass) → class_of file j.state r ≡ o → ((z : Bool) → o ≡ Own (Get z) → ⊥)
          → FirstMay s (table.return_answered s j.client a o)
      return_first Other class none = report_first class
      return_first (Own (Return z)) class none =
          takes_return_may file f.kept.map s j.client j.state p r agrees.slot its own_is.served a own_is.kept k.run z class
      return_first (Own (Get z)) class none = absurd (none z refl)

      here_first : (z : Args) → class_of file j.state r ≡ class_by (phase_of j.state.call) z
          → FirstMay s (table.answered_here s j.client a (phase_of j.state.call) z)
      here_first (args.LayoutGet y) class =
          takes_get_may file f.kept.map s j.client j.state p r agrees.slot its own_is.served a own_is.kept k.run _ class
      here_first (args.LayoutCommit y) class = commit_first class
      here_first (args.LayoutReturn y) class =
          return_first (return_class (phase_of j.state.call)) class (return_no_get (phase_of j.state.call))

      by_file : FirstMay s (table.answered s file j.client j.state a (Some r))
      unfolding class_of
      by_file = elim (cases_eq r.file file) [
        | inl here ↦
            subst (λ (z : Bool). FirstMay s (if z
            then table.answered_here s j.client a (phase_of j.state.call) r.args
            else event.TakesOther j.client ∷ [])) (sym (eq-eqb r.file file here))
            (here_first r.args (ap (λ (z : Bool). if z then class_by (phase_of j.state.call) r.args else Other)
            (eq-eqb r.file file here)))
        | inr there ↦
            subst (λ (z : Bool). FirstMay s (if z
            then table.answered_here s j.client a (phase_of j.state.call) r.args
            else event.TakesOther j.client ∷ [])) (sym (ne_eqb r.file file there))
            (other_may (ap (λ (z : Bool). if z then class_by (phase_of j.state.call) r.args else Other)
            (ne_eqb r.file file there)))
      ]

      -- the first event of the answer can happen: Takes, or TakesOther
      pub answer_may : FirstMay s (table.answered s file j.client j.state a j.state.outstanding)
      answer_may =
          subst (λ (o : Option Request). FirstMay s (table.answered s file j.client j.state a o)) (sym own_is.outstanding) by_file

    -- ---- it asks

    pub rests_on : (t u : State) → AskingStays t u → AwaitsNothing t j.client → AwaitsNothing u j.client
    rests_on t u e rests = record {
      waiting = ap (λ (z : ℕ → Bool). z j.client) e.waiting ∙ rests.waiting;
      away = ap (λ (z : ℕ → Bool). z j.client) e.away ∙ rests.away;
      served = ap (λ (z : ℕ → ℕ). z j.client) e.slot ∙ rests.served ∙ sym (ap (λ (z : ℕ → ℕ). z j.client) e.sequence);
    }

    ends : AskingStays (first_behind s file j) (ended_behind s file j)
    ends =
        asking_stays_all (first_behind s file j)
        (table.ended (first_behind s file j) file j.client (op_in j.state j.input) (step j.state j.input).outcome)
        (ended_plain file j.client (first_behind s file j) (op_in j.state j.input) (step j.state j.input).outcome)

    module _ (r : Request) (out : (step j.state j.input).client.outstanding ≡ Some r) (new : r.sequence ≡ j.state.next) where
      -- the request is new, so none was outstanding
      none_before : (none : (a : Answer) (from : Node) (b : Message) → j.input ≡ Hears from b
          → takes j.state from b ≡ Some (TakesAnswer a) → ⊥) → (j.input ≡ Resends → ⊥) → j.state.outstanding ≡ None
      none_before none fresh =
          let t : HasTurned j.state (step j.state j.input) = step_turned j.state j.input none fresh in
          by_turn t.done t.turned (ap (λ (z : Client). z.outstanding) (sym t.client) ∙ out)
        where
          old : (z : Option Request) → z ≡ Some r
              → RequestIs file f.kept.map s p j.client j.state z → j.state.outstanding ≡ None
          old None e x = absurd (cc e)
          old (Some q) e x =
              let same : q ≡ r = cc e in
              absurd (last_other j.state.next (sym agrees.sequence ∙ sym x.sequence
              ∙ ap (λ (z : Request). z.sequence) same ∙ new))

          by_turn : (d : Done) → Turned j.state d → d.client.outstanding ≡ Some r → j.state.outstanding ≡ None
          by_turn d (NothingAsked nothing same next before_) e =
              old j.state.outstanding (sym same ∙ e) agrees.request
          by_turn d (OneAsked q one out_ none_ number next) e = none_

      unanswered : (none : (a : Answer) (from : Node) (b : Message) → j.input ≡ Hears from b
          → takes j.state from b ≡ Some (TakesAnswer a) → ⊥) → (j.input ≡ Resends → ⊥)
          → AwaitsNothing (ended_behind s file j) j.client
      unanswered none fresh =
          rests_on s (ended_behind s file j)
          (asking_more s (first_behind s file j) (ended_behind s file j)
          (asking_stays_all s (table.at_first s file j.client j.state j.input) (first_plain file j.client s j.state j.input none))
          ends)
          (subst (RequestIs file f.kept.map s p j.client j.state) (none_before none fresh) agrees.request)

  -- ---- the server carries out a request

  -- the request is its client's outstanding one, and the next one for the server
  pub carries_out : (now c : ℕ) (q : ClientRequest) → input_in w m.action ≡ Some (ServerHears now (node.Client c) (Asks q))
      → c < CLIENTS → IsServed w.server c q → CarriesOut w s f c q
  carries_out now c q comes low is =
      let its : IsItsRequest w c q =
      its_request w h c k.moment (laws.in_step w h k.moment c) readable now q is.named
      (heard_in w m.action (ServerHears now (node.Client c) (Asks q)) comes) is.new in
      record {
        request = its.request;
        outstanding = its.outstanding;
        reads = its.reads;
        slot = (before c low).slot;
        next = sym its.next ∙ its.reads.sequence;
        waits = subst (RequestIs file f.kept.map s (slot_of w.server.slots c) c (client_of w c)) its.outstanding
            (before c low).request;
      }
