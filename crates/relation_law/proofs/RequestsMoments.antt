-- Each move keeps what the machine has of the requests of clients.
use Rattle.std.proofs.Common.{◌≡◌, ◌<◌, ℕ, Bool, true, false, List, [], ◌∷◌, ◌++◌, Option, Some, None, take, length, refl, sym, ap, subst, ◌∙◌, inl, inr, arith, if◌then◌else◌}
use Rattle.std.proofs.lemmas.Bool.{cases_eq, true≢false}
use Rattle.scenario_text.specs.declared.line.Line.{Line}
use Rattle.scenario_text.specs.declared.names.TheConstants.{CLIENTS}
use Rattle.layout_ops.specs.declared.messages.Answer.{Answer}
use Rattle.osd_lists.specs.declared.node.Node.{Node}
use Rattle.server_rules.specs.History.{Input as ServerInput}
use Rattle.server_rules.specs.Slots.{slot_of}
use Rattle.server_rules.specs.Laws.{last_of}
use Rattle.client_rules.specs.Messages.{Message, Taken, TakesAnswer, TakesReply, TakesRecall, takes}
use Rattle.client_rules.specs.History.{Input, Calls, Hears, TimesOut, Leaves, Resends, step}
use Rattle.world_history.specs.ServerNames.{Server, File, Slot}
use Rattle.world_history.specs.ClientNames.{Client, Call, Phase, Starts, Needs, Waits, Reads, Probes, Gathers, Scatters, Held, Request}
use Rattle.world_history.specs.State.{World}
use Rattle.world_history.specs.Moves as moves
use Rattle.world_history.specs.Moves.{acts}
use Rattle.world_history.specs.Sending.{Move, move}
use Rattle.history_law.specs.BookMoments.{lines_in}
use Rattle.history_law.specs.Doing.{input_in}
use Rattle.history_law.specs.Read.{leads}
use Rattle.exchange_law.specs.Calls.{IsNoGet, Knows, CallFine, PhaseFine}
use Rattle.data_map.specs.declared.check.RawMap.{RawMap}
use Rattle.history_law.specs.Moves.{IsForClient}
use Rattle.exchange_law.specs.InStep.{StandsAt}
use Rattle.exchange_law.specs.Taking.{TakesOwn}
use Rattle.exchange_law.specs.Meeting.{KeptGood, IsMet, IsReadableThrough}
use Rattle.exchange_law.specs.Messages.{last_before}
use Rattle.exchange_law.proofs.CountGrowing.{fewer, text_front}
use Rattle.exchange_law.proofs.HeldWorlds.{next_moment}
use Rattle.exchange_law.proofs.Knowing.{lawful_at}
use Rattle.fence_law.specs.State.{State}
use Rattle.fence_law.specs.Machine.{after_all}
use Rattle.file_simulation.specs.EventLists.{Lines}
use Rattle.file_simulation.specs.Events.{joined, events_of, events_at, led_by}
use Rattle.file_simulation.specs.Relation.{client_of}
use Rattle.file_simulation.specs.Requests.{RequestsAgree}
use Rattle.file_simulation.specs.ClientEvents.{Going, going_in, client_goes}
use Rattle.file_simulation.specs.ServerEvents.{asker}
use Rattle.relation_law.specs.Frames.{ByClient, IsSameFile}
use Rattle.client_rules.specs.Calls.{file_of}
use Rattle.client_rules.specs.Grants.{held_of}
use Rattle.fence_law.specs.State.{Event}
use Rattle.relation_law.specs.Requests.{waits_in, WorksCall, AsksWell}
use Rattle.relation_law.specs.RequestsGoing.{ended_behind, RequestsLaws}
use Rattle.relation_law.specs.Steps.{FollowsWhole, whole_behind, owed, AreRequests, RequestsGoOn}
use Rattle.relation_law.proofs.FramesFiles.{file_stays}
use Rattle.relation_law.proofs.FramesParties as parties
use Rattle.relation_law.proofs.FramesStay.{all_joined}
use Rattle.relation_law.proofs.RequestsAgree.{agree_same}
use Rattle.relation_law.proofs.RequestsClient.{asks_kept, answer_kept}
use Rattle.relation_law.proofs.RequestsOthers.{slot_other, stayed_by_client, stayed_by_server, stayed_by_drive}

-- ---- a call that works has asked for no grant

fine_works : (K : Knows) (hs : List Held) (r : Request) (o : Option Call) → CallFine K hs (Some r) o → WorksCall o
    → IsNoGet r.args
fine_works K hs r None x works = x
fine_works K hs r (Some call) x works = by_phase call.phase x.1 works
  where
    by_phase : (p : Phase) → PhaseFine K (held_of hs (file_of call.op)) (Some r) call.op p → waits_in p ≡ false
        → IsNoGet r.args
    by_phase Starts x w = x
    by_phase (Needs n) x w = x.1
    by_phase (Waits n) x w = absurd (true≢false w)
    by_phase (Reads io) x w = x.1
    by_phase (Probes io) x w = x.1
    by_phase (Gathers io) x w = x.1
    by_phase (Scatters io queue) x w = x.1

pub joined_led : (a : moves.Action) (lines : Lines) → joined (led_by a lines) ≡ joined lines
joined_led (moves.Opens e) lines = either (leads e)
  where
    either : (b : Bool) → joined (if b then [] ∷ lines else lines) ≡ joined lines
    either true = refl
    either false = refl
joined_led (moves.Delivers n) lines = refl
joined_led (moves.TimesOut c k) lines = refl
joined_led (moves.Pends c) lines = refl

-- the number of an outstanding request isn't 0
some_number : (h : List Line) (c : ℕ) (o : Option Slot) (last : ℕ) (p : Option Request) (r : Request) → p ≡ Some r
    → StandsAt h c o last p → r.sequence ≡ 0 → ⊥
some_number h c o last None r is stands zero = cc is
some_number h c o last (Some q) r is stands zero =
    let same : q ≡ r = cc is in absurd (omega (arith, stands.first, zero, ap (λ (x : Request). x.sequence) same))

module _ (laws : RequestsLaws) (w : World) (h : List Line) (m : Move) (f g : File) (s : State)
    (k : FollowsWhole w h m f g s) where
  abbrev v : World
  v = (move w m).world

  abbrev file : ℕ
  file = f.kept.number

  abbrev t : State
  t = whole_behind k

  abbrev AgreesBehind : ℕ → Type 0
  AgreesBehind c = RequestsAgree file f.kept.map t v.server c (client_of v c)

  -- ---- the world

  readable : IsReadableThrough h
  readable =
      laws.readable h (lawful_at w h k.follows.moment)
      (text_front h (take (length (lines_in w m)) (lines_in w m)) k.follows.calm.scenario.text)
      (fewer h (take (length (lines_in w m)) (lines_in w m)) k.follows.calm.scenario.few)

  no_get : (c : ℕ) (r : Request) → (client_of w c).outstanding ≡ Some r → WorksCall (client_of w c).call → IsNoGet r.args
  no_get c r out works =
      let met : IsMet w.server c (client_of w c) = laws.agree w h k.follows.moment readable c in
      fine_works (KeptGood w.server c) (client_of w c).held r (client_of w c).call
      (subst (λ (o : Option Request). CallFine (KeptGood w.server c) (client_of w c).held o
      (client_of w c).call) out met.call) works

  numbered : (c : ℕ) (r : Request) → (client_of v c).outstanding ≡ Some r → r.sequence ≡ 0 → ⊥
  numbered c r out =
      let next = next_moment w h k.follows.moment m k.follows.is_due in
      some_number (h ++ lines_in w m) c (slot_of v.server.slots c) (last_before (client_of v c).next)
      (client_of v c).outstanding r out (laws.in_step v (h ++ lines_in w m) next c).stands

  before : (c : ℕ) → c < CLIENTS → RequestsAgree file f.kept.map s w.server c (client_of w c)
  before c low = (k.follows.related.clients c low).slot

  -- ---- a client goes on

  module _ (j : Going) (goes : going_in w m.action ≡ Some j) where
    by : ByClient w m.action j (acts w m.chosen m.action)
    by = parties.client_goes w h k.follows.moment m k.follows.is_due j goes

    server_same : v.server ≡ w.server
    server_same = parties.server_rests w m (parties.client_alone w m.action j goes)

    lines : joined (events_of s w (owed k.follows.related) f m) ≡ joined (client_goes s file j.client j.state j.input)
    lines =
        ap (λ (o : Option Going). joined (led_by m.action (events_at s w (owed k.follows.related) f m o))) goes
        ∙ joined_led m.action (client_goes s file j.client j.state j.input)

    client_now : client_of v j.client ≡ (step j.state j.input).client
    client_now = parties.client_behind w m j by

    client_then : client_of w j.client ≡ j.state
    client_then = parties.client_before w m.action j (acts w m.chosen m.action) by

    other_goes : (c : ℕ) → c < CLIENTS → (c ≡ j.client → ⊥) → AgreesBehind c
    other_goes c low other =
        agree_same file f.kept.map s t c (client_of w c) (client_of v c)
        (stayed_by_client c j.client other s (joined (events_of s w (owed k.follows.related) f m))
        (all_joined _ _ (parties.by_client_lines s w (owed k.follows.related) f m j goes)))
        w.server v.server (ap (λ (z : Server). slot_of z.slots c) server_same) (parties.client_beside w m j by c other)
        (before c low)

    -- its own requests
    abbrev Own : List Event → Type 0
    Own es = RequestsAgree file f.kept.map (after_all s es) w.server j.client (step j.state j.input).client

    own_to : Own (joined (client_goes s file j.client j.state j.input)) → AgreesBehind j.client
    own_to x =
        subst (λ (z : Client). RequestsAgree file f.kept.map t v.server j.client z) (sym client_now)
        (subst (λ (z : Server). RequestsAgree file f.kept.map t z j.client (step j.state j.input).client) (sym server_same)
        (subst Own (sym lines) x))

    own_before : j.client < CLIENTS → RequestsAgree file f.kept.map s w.server j.client j.state
    own_before low =
        subst (λ (z : Client). RequestsAgree file f.kept.map s w.server j.client z) client_then (before j.client low)

    own_no_get : (r : Request) → j.state.outstanding ≡ Some r → WorksCall j.state.call → IsNoGet r.args
    own_no_get r out works =
        no_get j.client r (ap (λ (z : Client). z.outstanding) client_then ∙ out)
        (subst (λ (z : Client). WorksCall z.call) (sym client_then) works)

    well : (r : Request) → (step j.state j.input).client.outstanding ≡ Some r → r.sequence ≡ j.state.next
        → AsksWell file (ended_behind s file j) j.client (step j.state j.input).client r
    well r out number = record {
      some = numbered j.client r (ap (λ (z : Client). z.outstanding) client_now ∙ out);
      holds = laws.held w h m f g s k j goes r out number;
    }

    -- by what comes to it
    resent : RequestsAgree file f.kept.map s w.server j.client j.state → j.input ≡ Resends
        → Own (joined (client_goes s file j.client j.state j.input))
    resent x is =
        subst (λ (i : Input). RequestsAgree file f.kept.map
        (after_all s (joined (client_goes s file j.client j.state i))) w.server j.client (step j.state i).client) (sym is) x

    asked : (i : Input) → j.input ≡ i
        → ((a : Answer) (from : Node) (b : Message) → i ≡ Hears from b → takes j.state from b ≡ Some (TakesAnswer a) → ⊥)
        → (i ≡ Resends → ⊥) → RequestsAgree file f.kept.map s w.server j.client j.state
        → Own (joined (client_goes s file j.client j.state j.input))
    asked i is none fresh x =
        subst (λ (q : Input). RequestsAgree file f.kept.map
        (after_all s (joined (client_goes s file j.client j.state q))) w.server j.client (step j.state q).client) (sym is)
        (by_input i is none fresh)
      where
        well_at : (q : Input) → j.input ≡ q → (r : Request) → (step j.state q).client.outstanding ≡ Some r
            → r.sequence ≡ j.state.next → AsksWell file
            (ended_behind s file (record { client = j.client; state = j.state; input = q }))
            j.client (step j.state q).client r
        well_at q e = subst (λ (z : Input). (r : Request) → (step j.state z).client.outstanding ≡ Some r
            → r.sequence ≡ j.state.next
            → AsksWell file (ended_behind s file (record { client = j.client; state = j.state; input = z }))
            j.client (step j.state z).client r) e well

        by_input : (q : Input) → j.input ≡ q
            → ((a : Answer) (from : Node) (b : Message) → q ≡ Hears from b → takes j.state from b ≡ Some (TakesAnswer a) → ⊥)
            → (q ≡ Resends → ⊥)
            → RequestsAgree file f.kept.map (after_all s (joined (client_goes s file j.client j.state q))) w.server
            j.client (step j.state q).client
        by_input (Calls op) e none fresh =
            asks_kept file f.kept.map w.server j.client s j.state (Calls op) none fresh x k.follows.run own_no_get
            (well_at (Calls op) e)
        by_input (Hears from b) e none fresh =
            asks_kept file f.kept.map w.server j.client s j.state (Hears from b) none fresh x k.follows.run own_no_get
            (well_at (Hears from b) e)
        by_input (TimesOut n) e none fresh =
            asks_kept file f.kept.map w.server j.client s j.state (TimesOut n) none fresh x k.follows.run own_no_get
            (well_at (TimesOut n) e)
        by_input Leaves e none fresh =
            asks_kept file f.kept.map w.server j.client s j.state Leaves none fresh x k.follows.run own_no_get (well_at Leaves e)
        by_input Resends e none fresh = absurd (fresh refl)

    answered_own : (from : Node) (b : Message) (a : Answer) → j.input ≡ Hears from b
        → takes j.state from b ≡ Some (TakesAnswer a) → (r : Request) → j.state.outstanding ≡ Some r
        → last_of (slot_of w.server.slots j.client) ≡ r.sequence
    answered_own from b a is took r out =
        let heard : IsForClient w m.action j.client by.before (Hears from b) =
        subst (IsForClient w m.action j.client by.before) is by.input_is in
        let d = heard.0 in
        let took_it : takes by.before.state d.posted.message.from b ≡ Some (TakesAnswer a) =
        ap (λ (n : Node). takes by.before.state n b) (sym heard.1) ∙ ap (λ (z : Client). takes z from b) (sym by.state_is)
        ∙ took in
        let own : TakesOwn w h j.client by.before.state d.posted a =
        laws.own w h k.follows.moment j.client by.before by.found d.number d.posted d.there d.receiver b a heard.2 took_it in
        let same : own.request ≡ r =
        cc (sym own.outstanding ∙ ap (λ (z : Client). z.outstanding) (sym by.state_is) ∙ out) in
        ap last_of own.kept ∙ own.last ∙ ap (λ (z : Request). z.sequence) same

    answered : (from : Node) (b : Message) (a : Answer) → j.input ≡ Hears from b → takes j.state from b ≡ Some (TakesAnswer a)
        → RequestsAgree file f.kept.map s w.server j.client j.state
        → Own (joined (client_goes s file j.client j.state j.input))
    answered from b a is took x =
        subst (λ (q : Input). RequestsAgree file f.kept.map
        (after_all s (joined (client_goes s file j.client j.state q))) w.server j.client (step j.state q).client) (sym is)
        (answer_kept file f.kept.map w.server j.client s j.state from b a took x (answered_own from b a is took)
        (subst (λ (q : Input). (r : Request) → (step j.state q).client.outstanding ≡ Some r → r.sequence ≡ j.state.next
        → AsksWell file (ended_behind s file (record { client = j.client; state = j.state; input = q })) j.client
        (step j.state q).client r) is well))

    own_goes : j.client < CLIENTS → AgreesBehind j.client
    own_goes low = own_to (by_input j.input refl)
      where
        quiet : (from : Node) (b : Message) (o : Option Taken) → takes j.state from b ≡ o
            → ((a : Answer) → o ≡ Some (TakesAnswer a) → ⊥) → (a : Answer) (n : Node) (d : Message)
            → Hears from b ≡ Hears n d → takes j.state n d ≡ Some (TakesAnswer a) → ⊥
        quiet from b o took none a n d e q =
            let node_is : from ≡ n = cc e in
            let message_is : b ≡ d = cc e in
            none a (sym took ∙ ap (λ (z : Message). takes j.state from z) message_is
            ∙ ap (λ (z : Node). takes j.state z d) node_is ∙ q)

        by_taken : (from : Node) (b : Message) → j.input ≡ Hears from b → (o : Option Taken) → takes j.state from b ≡ o
            → Own (joined (client_goes s file j.client j.state j.input))
        by_taken from b is None took = asked (Hears from b) is (quiet from b None took (λ a q. cc q)) (λ q. cc q) (own_before low)
        by_taken from b is (Some (TakesAnswer a)) took = answered from b a is took (own_before low)
        by_taken from b is (Some (TakesReply x q)) took =
            asked (Hears from b) is (quiet from b (Some (TakesReply x q)) took (λ a z. cc z)) (λ z. cc z) (own_before low)
        by_taken from b is (Some (TakesRecall q)) took =
            asked (Hears from b) is (quiet from b (Some (TakesRecall q)) took (λ a z. cc z)) (λ z. cc z) (own_before low)

        by_input : (i : Input) → j.input ≡ i → Own (joined (client_goes s file j.client j.state j.input))
        by_input (Calls op) is = asked (Calls op) is (λ a e y q t. cc q) (λ q. cc q) (own_before low)
        by_input (Hears from b) is = by_taken from b is (takes j.state from b) refl
        by_input (TimesOut n) is = asked (TimesOut n) is (λ a e y q t. cc q) (λ q. cc q) (own_before low)
        by_input Leaves is = asked Leaves is (λ a e y q t. cc q) (λ q. cc q) (own_before low)
        by_input Resends is = resent (own_before low) is

  -- ---- the server takes a step

  server_goes : (i : ServerInput) → input_in w m.action ≡ Some i → (c : ℕ) → c < CLIENTS → AgreesBehind c
  server_goes i comes c low = by_asker (asker i) refl
    where
      same : client_of v c ≡ client_of w c
      same =
          parties.clients_rest w h k.follows.moment m k.follows.is_due (parties.server_alone w m.action i comes) c

      another : (asker i ≡ Some c → ⊥) → AgreesBehind c
      another other =
          agree_same file f.kept.map s t c (client_of w c) (client_of v c)
          (stayed_by_server c (asker i) other s (joined (events_of s w (owed k.follows.related) f m))
          (all_joined _ _ (parties.by_server_lines s w (owed k.follows.related) f m i comes)))
          w.server v.server
          (ap (λ (z : Server). slot_of z.slots c) (parties.server_steps w m i comes) ∙ slot_other w.server m.chosen c i other)
          same (before c low)

      by_asker : (o : Option ℕ) → asker i ≡ o → AgreesBehind c
      by_asker None is = another (λ e. cc (sym is ∙ e))
      by_asker (Some d) is = elim (cases_eq d c) [
        | inl e ↦ laws.served w h m f g s k i comes c low (is ∙ ap Some e)
        | inr ne ↦ another (λ e. ne (cc (sym is ∙ e)))
      ]

  -- ---- neither

  drive_goes : going_in w m.action ≡ None → input_in w m.action ≡ None → (c : ℕ) → c < CLIENTS → AgreesBehind c
  drive_goes none nothing c low =
      agree_same file f.kept.map s t c (client_of w c) (client_of v c)
      (stayed_by_drive c s (joined (events_of s w (owed k.follows.related) f m))
      (all_joined _ _ (parties.by_drive_lines s w (owed k.follows.related) f m none nothing)))
      w.server v.server (ap (λ (z : Server). slot_of z.slots c) (parties.server_rests w m nothing))
      (parties.clients_rest w h k.follows.moment m k.follows.is_due none c) (before c low)

  each_goes : (c : ℕ) → c < CLIENTS → AgreesBehind c
  each_goes c low = by_going (going_in w m.action) refl
    where
      by_comes : going_in w m.action ≡ None → (o : Option ServerInput) → input_in w m.action ≡ o → AgreesBehind c
      by_comes none None is = drive_goes none is c low
      by_comes none (Some i) is = server_goes i is c low

      by_going : (o : Option Going) → going_in w m.action ≡ o → AgreesBehind c
      by_going None is = by_comes is (input_in w m.action) refl
      by_going (Some j) is = elim (cases_eq c j.client) [
        | inl e ↦ subst AgreesBehind (sym e) (own_goes j is (subst (λ (n : ℕ). n < CLIENTS) e low))
        | inr ne ↦ other_goes j is c low ne
      ]

  pub requests_go : AreRequests t v g
  requests_go c low =
      let same : IsSameFile f g =
      (file_stays w h k.follows.moment m k.follows.is_due file f g k.follows.there k.follows.goes).same in
      subst (λ (n : ℕ). RequestsAgree n g.kept.map t v.server c (client_of v c)) (sym same.number)
      (subst (λ (x : RawMap). RequestsAgree file x t v.server c (client_of v c)) (sym same.map) (each_goes c low))

-- Each move of a calm history keeps what the machine has of the requests of clients.
pub requests_go_on : RequestsLaws → RequestsGoOn
requests_go_on laws w h m f g s k = requests_go laws w h m f g s k
