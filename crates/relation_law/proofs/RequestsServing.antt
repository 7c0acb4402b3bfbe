-- A step of the server on a client's request keeps what the machine has of this client's requests.
use Rattle.std.proofs.Common.{◌≡◌, ◌<◌, ℕ, Bool, true, false, List, Some, refl, sym, ap, subst, ◌∙◌}
use Rattle.std.proofs.lemmas.Bool.{true≢false}
use Rattle.osd_lists.specs.declared.node.Node.{Node}
use Rattle.osd_lists.specs.declared.node.Node.TheVariants as node
use Rattle.scenario_text.specs.declared.line.Line.{Line}
use Rattle.scenario_text.specs.declared.names.TheConstants.{CLIENTS}
use Rattle.server_rules.specs.History.{Input, Hears, Makes, Obeys, Adds, Zones, Formats, Resends, Crashes, Opens, step as server_step}
use Rattle.server_rules.specs.Messages.{Message, Asks, Replies, Orders}
use Rattle.server_rules.specs.Slots.{slot_of}
use Rattle.world_history.specs.ServerNames.{Server, File}
use Rattle.world_history.specs.ClientNames.{Client}
use Rattle.world_history.specs.State.{World}
use Rattle.world_history.specs.Sending.{Move, move}
use Rattle.history_law.specs.Doing.{input_in}
use Rattle.exchange_law.specs.Taking.{AnswersAreOwn}
use Rattle.fence_law.specs.State.{State, Event}
use Rattle.fence_law.specs.Machine.{after_all}
use Rattle.file_simulation.specs.Events.{joined}
use Rattle.file_simulation.specs.Relation.{client_of}
use Rattle.file_simulation.specs.Requests.{RequestsAgree}
use Rattle.file_simulation.specs.ServerEvents as table
use Rattle.relation_law.specs.Requests.{IsSteady, AskingStays}
use Rattle.relation_law.specs.RequestsGoing.{is_served_in, OwnLaws, OwnRequestsGoOn, ReturnsAreHeld}
use Rattle.relation_law.specs.Steps.{FollowsWhole, whole_behind, RequestsGoOn}
use Rattle.relation_law.proofs.FramesParties as parties
use Rattle.relation_law.proofs.FramesStay.{all_joined}
use Rattle.relation_law.proofs.RequestsAgree.{agree_same}
use Rattle.relation_law.proofs.RequestsClient.{as_stayed}
use Rattle.relation_law.proofs.RequestsEach.{each_request}
use Rattle.relation_law.proofs.RequestsLines.{server_plain, steady_stays}
use Rattle.relation_law.proofs.RequestsMoments.{requests_go_on}
use Rattle.relation_law.proofs.RequestsOn.{served_is, slot_unserved}
use Rattle.relation_law.proofs.RequestsOwn.{lines_are, server_is}

module _ (laws : OwnLaws) (w : World) (h : List Line) (m : Move) (f g : File) (s : State) (k : FollowsWhole w h m f g s)
    (i : Input) (comes : input_in w m.action ≡ Some i) (c : ℕ) (low : c < CLIENTS) (asks : table.asker i ≡ Some c) where
  abbrev v : World
  v = (move w m).world

  abbrev AgreesAs : State → (x : Client) → Type 0
  AgreesAs t x = RequestsAgree f.kept.number f.kept.map t v.server c x

  client_same : client_of v c ≡ client_of w c
  client_same = parties.clients_rest w h k.follows.moment m k.follows.is_due (parties.server_alone w m.action i comes) c

  -- no request is carried out
  unserved : is_served_in w.server i ≡ false → AgreesAs (whole_behind k) (client_of w c)
  unserved no_ =
      let es : List Event = joined (table.server_goes s w (server_step w.server m.chosen i) i (Some f) (Some g)) in
      let stays : AskingStays s (after_all s es) =
      (steady_stays s es (all_joined IsSteady (table.server_goes s w (server_step w.server m.chosen i) i (Some f) (Some g))
      (server_plain s w (server_step w.server m.chosen i) i (Some f) (Some g) no_))).asking in
      subst (λ (t : State). AgreesAs t (client_of w c))
      (sym (ap (λ (l : List Event). after_all s l) (lines_are w h m f g s k i comes)))
      (agree_same f.kept.number f.kept.map s (after_all s es) c (client_of w c) (client_of w c)
      (as_stayed c s (after_all s es) stays) w.server v.server
      (ap (λ (z : Server). slot_of z.slots c) (server_is w h m f g s k i comes) ∙ slot_unserved w.server m.chosen c i no_) refl
      (k.follows.related.clients c low).slot)

  -- one is
  by_message : (now : ℕ) (from : Node) (b : Message) → i ≡ Hears now from b → is_served_in w.server i ≡ true
      → AgreesAs (whole_behind k) (client_of w c)
  by_message now (node.Client d) (Asks q) is yes_ =
      let served : table.is_served w.server d q ≡ true = ap (is_served_in w.server) (sym is) ∙ yes_ in
      let k_d = served_is w.server d q served in
      let here : q.client ≡ c = cc (ap table.asker (sym is) ∙ asks) in
      let same : d ≡ c = sym k_d.client ∙ here in
      let served_c : table.is_served w.server c q ≡ true =
      subst (λ (n : ℕ). table.is_served w.server n q ≡ true) same served in
      each_request laws w h m f g s k now c q
      (comes ∙ ap Some is ∙ ap (λ (n : ℕ). Some (Hears now (node.Client n) (Asks q))) same) low
      (served_is w.server c q served_c) served_c
  by_message now (node.Client d) (Replies b) is yes_ = absurd (true≢false (sym yes_ ∙ ap (is_served_in w.server) is))
  by_message now (node.Client d) (Orders b) is yes_ = absurd (true≢false (sym yes_ ∙ ap (is_served_in w.server) is))
  by_message now node.Server b is yes_ = absurd (true≢false (sym yes_ ∙ ap (is_served_in w.server) is))
  by_message now (node.Drive d) b is yes_ = absurd (true≢false (sym yes_ ∙ ap (is_served_in w.server) is))

  by_input : (j : Input) → i ≡ j → is_served_in w.server i ≡ true → AgreesAs (whole_behind k) (client_of w c)
  by_input (Hears now from b) is yes_ = by_message now from b is yes_
  by_input (Obeys kind n) is yes_ = absurd (true≢false (sym yes_ ∙ ap (is_served_in w.server) is))
  by_input Opens is yes_ = absurd (true≢false (sym yes_ ∙ ap (is_served_in w.server) is))
  by_input (Makes n x tag zoned) is yes_ = absurd (true≢false (sym yes_ ∙ ap (is_served_in w.server) is))
  by_input (Adds d) is yes_ = absurd (true≢false (sym yes_ ∙ ap (is_served_in w.server) is))
  by_input (Zones d zone) is yes_ = absurd (true≢false (sym yes_ ∙ ap (is_served_in w.server) is))
  by_input (Formats n) is yes_ = absurd (true≢false (sym yes_ ∙ ap (is_served_in w.server) is))
  by_input Resends is yes_ = absurd (true≢false (sym yes_ ∙ ap (is_served_in w.server) is))
  by_input Crashes is yes_ = absurd (true≢false (sym yes_ ∙ ap (is_served_in w.server) is))

  own_goes : AgreesAs (whole_behind k) (client_of v c)
  own_goes = subst (AgreesAs (whole_behind k)) (sym client_same) (either (is_served_in w.server i) refl)
    where
      either : (b : Bool) → is_served_in w.server i ≡ b → AgreesAs (whole_behind k) (client_of w c)
      either true e = by_input i refl e
      either false e = unserved e

-- A step of the server on a client's request keeps what the machine has of this client's requests.
pub own_requests_go_on : OwnLaws → OwnRequestsGoOn
own_requests_go_on laws w h m f g s k i comes c low asks = own_goes laws w h m f g s k i comes c low asks

-- So each move of a calm history keeps what the machine has of the requests of clients.
pub requests_kept : OwnLaws → AnswersAreOwn → ReturnsAreHeld → RequestsGoOn
requests_kept laws own held = requests_go_on (record {
  in_step = laws.in_step;
  agree = laws.agree;
  readable = laws.readable;
  own = own;
  held = held;
  served = own_requests_go_on laws;
})
