-- At each moment each grant that a client ever returned has a number that the server has given: `ReturnsAreLow` holds.
use Rattle.std.specs.Option.{option_map}
use Rattle.std.proofs.Common.{◌≡◌, ◌≤◌, ◌<◌, ℕ, List, [], Option, Some, None, Ok, refl, sym, ap, subst, ◌∙◌, arith, inl, inr}
use Rattle.std.proofs.lemmas.Bool.{cases_eq}
use Rattle.std.proofs.lemmas.Nat.{from_be_bytes-to_be_bytes_4}
use Rattle.osd_lists.specs.declared.node.Node.{Node}
use Rattle.osd_lists.specs.declared.node.Node.TheVariants as node
use Rattle.layout_ops.specs.declared.messages.Answer.{Answer}
use Rattle.layout_ops.specs.declared.results.LayoutGetOk.{LayoutGetOk}
use Rattle.scenario_text.specs.declared.line.Line.{Line}
use Rattle.server_rules.specs.History.{Input as ServerInput, step as server_step}
use Rattle.server_rules.specs.Laws.{In}
use Rattle.server_rules.proofs.Members.{in_either}
use Rattle.client_rules.specs.History.{Hears, step}
use Rattle.client_rules.specs.Layouts.{taken}
use Rattle.client_rules.specs.Messages.{TakesAnswer, takes}
use Rattle.client_rules.specs.Requests.{grant_in, stateid_of}
use Rattle.world_history.specs.Book.{server_behind, step_by}
use Rattle.world_history.specs.ClientNames.{Client, CallOp, Held, Request}
use Rattle.world_history.specs.Handed.{Post}
use Rattle.world_history.specs.Moves.{Act, Action, acts}
use Rattle.world_history.specs.Plans.{due}
use Rattle.world_history.specs.Sending.{Move, move}
use Rattle.world_history.specs.ServerNames.{Server}
use Rattle.world_history.specs.State.{World, at_number, empty_world}
use Rattle.world_history.specs.declared.messages.Message.{Message}
use Rattle.history_law.specs.BookMoments.{IsMoment, plan_at, lines_in}
use Rattle.history_law.specs.Doing.{input_in}
use Rattle.history_law.specs.Turns.{AnswerComes}
use Rattle.history_law.proofs.Doing.{server_moves}
use Rattle.history_law.proofs.Goes.{moves_are_steps}
use Rattle.exchange_law.specs.Doing.{said, posted, IsHeardByClient, AreReplies, Nothing, OneReply, OthersGo, ServerGoes, ClientGoes, ClientStops, ClientComes, Goes, Others, AServer, AClient, Stops, Comes}
use Rattle.exchange_law.specs.InStep.{state_of}
use Rattle.exchange_law.specs.Meeting.{IsReadable, IsReadableThrough}
use Rattle.exchange_law.specs.Taking.{AnswersAreOwn, TakesOwn}
use Rattle.exchange_law.specs.Text.{AreFew}
use Rattle.exchange_law.proofs.Awaited.{few_at}
use Rattle.exchange_law.proofs.ClientGiven.{taken_given}
use Rattle.exchange_law.proofs.CountGrowing.{fewer}
use Rattle.exchange_law.proofs.Each.{put_same, put_other, stopped_same, come_same}
use Rattle.exchange_law.proofs.Gives.{KeepsGrant}
use Rattle.exchange_law.proofs.HeldWorlds.{readable_fronts, readable_there}
use Rattle.exchange_law.proofs.Knowing.{lawful_at}
use Rattle.exchange_law.proofs.RefusalClients.{Known, grants_few}
use Rattle.exchange_law.proofs.RefusalTelling.{named}
use Rattle.exchange_law.proofs.Replied.{from_server}
use Rattle.exchange_law.proofs.SlotMoments.{comes_new, always}
use Rattle.exchange_law.proofs.Turns.{messages_behind}
use Rattle.cause_law.specs.Readable.{FilesAndAnswersAreReadable}
use Rattle.cause_law.proofs.Giving.{grants_rise}
use Rattle.cause_law.proofs.Sends.{request_message}
use Rattle.file_simulation.specs.Relation.{client_of}
use Rattle.file_simulation.specs.Tied.{HasAsked}
use Rattle.relation_law.proofs.ComponentsWorld.{ran}
use Rattle.headline_law.specs.Returned.{ReturnsAreLow}
use Rattle.headline_law.proofs.ReturnedSends.{request_posted, sent_outstanding}
use Rattle.headline_law.proofs.ReturnedTurn.{IsKnown, ReturnsSo, known_on, step_known}

-- what is known of the world
pub record ReturnedLaws : Type 0 where
  pub known : Known
  pub own : AnswersAreOwn
  pub readable : FilesAndAnswersAreReadable

-- the server has given the number
abbrev IsLow : World → ℕ → Type 0
IsLow w n = n < w.server.next_grant

-- so it is of the grants that clients hold, and of those that their requests return
record AreLow (w : World) : Type 0 where
  clients : (c : ℕ) → IsKnown (IsLow w) (client_of w c)
  asked : (c : ℕ) (q : Request) → HasAsked w c q → ReturnsSo (IsLow w) q.args

-- ---- a move

module _ (laws : ReturnedLaws) (w : World) (h : List Line) (k : IsMoment w h) (m : Move)
    (d : due (plan_at k) w ≡ Some m.action) (t : IsReadableThrough h) (few : AreFew h) (before : AreLow w) where
  abbrev a : Act
  a = acts w m.chosen m.action

  abbrev v : World
  v = (move w m).world

  -- the next number doesn't fall
  rises : w.server.next_grant ≤ v.server.next_grant
  rises = subst (λ (s : Server). w.server.next_grant ≤ s.next_grant) (sym (server_moves w m).server) (by (input_in w m.action))
    where
      by : (o : Option ServerInput) → w.server.next_grant ≤ (server_behind w.server (step_by w.server m.chosen o)).next_grant
      by None = omega arith
      by (Some i) = grants_rise w.server m.chosen i

  later : (n : ℕ) → IsLow w n → IsLow v n
  later n low = omega (arith, low, rises)

  -- a name has the number, which fits
  named_low : (n : ℕ) → IsLow w n → IsLow w (grant_in (stateid_of n))
  named_low n low =
      let fits : w.server.next_grant < 4294967296 = grants_few laws.known w h k (few_at w h k (omega (arith, few))) in
      subst (IsLow w) (sym (from_be_bytes-to_be_bytes_4 n (omega (arith, low, fits)))) low

  as_before : (c : ℕ) → client_of v c ≡ client_of w c → IsKnown (IsLow v) (client_of v c)
  as_before c same =
      subst (λ (x : Client). IsKnown (IsLow v) x) (sym same)
      (known_on (IsLow w) (IsLow v) later (client_of w c) (before.clients c))

  -- what was asked before, or is asked now
  asked_so : (c : ℕ) (q : Request) → HasAsked v c q →
      (In (request_message c q) (posted a.posts) → ReturnsSo (IsLow v) q.args) → ReturnsSo (IsLow v) q.args
  asked_so c q has new =
      elim (in_either (request_message c q) (said w.network.messages) (posted a.posts)
      (subst (In (request_message c q)) (messages_behind w m) has)) [
        | inl old ↦ λ n e. later n (before.asked c q old n e)
        | inr now ↦ new now
      ]

  -- where no client goes on
  idle : ((c : ℕ) → client_of v c ≡ client_of w c) →
      ((c : ℕ) (q : Request) → In (request_message c q) (posted a.posts) → ⊥) → AreLow v
  idle same none = record {
    clients = λ c. as_before c (same c);
    asked = λ c q has. asked_so c q has (λ now. absurd (none c q now));
  }

  posts_none : a.posts ≡ [] → (c : ℕ) (q : Request) → In (request_message c q) (posted a.posts) → ⊥
  posts_none none c q i = subst (λ (ps : List Post). In (request_message c q) (posted ps)) none i

  others : OthersGo w a → AreLow v
  others g = idle (λ c. ap (λ (xs : _). state_of c (at_number xs c)) g.clients) (by g.posts)
    where
      by : AreReplies a.posts → (c : ℕ) (q : Request) → In (request_message c q) (posted a.posts) → ⊥
      by (Nothing e) = posts_none e
      by (OneReply n to r e) = λ c q i.
          elim (subst (λ (ps : List Post). In (request_message c q) (posted ps)) e i) [
            | inl is ↦ cc (ap (λ (x : Message). x.from) is)
            | inr none ↦ none
          ]

  server : ServerGoes w m.chosen a → AreLow v
  server g = idle (λ c. ap (λ (xs : _). state_of c (at_number xs c)) g.clients) (λ c q i.
      let from : node.Client c ≡ node.Server =
      from_server (request_message c q) (server_step w.server m.chosen g.input).sends
      (subst (λ (ps : List Post). In (request_message c q) (posted ps)) g.posts i) in
      cc from)

  stops : ClientStops w a → AreLow v
  stops g =
      idle (λ c. ap (λ (xs : _). state_of c (at_number xs c)) g.clients
      ∙ stopped_same w.clients g.client c g.before g.after g.found g.state) (posts_none g.posts)

  comes : ClientComes w m.action a → AreLow v
  comes g =
      let none = comes_new w h k g.client (d ∙ ap (λ (x : Action). Some x) g.action_is) in
      idle (λ c. ap (λ (xs : _). state_of c (at_number xs c)) g.clients
      ∙ come_same w.clients g.client c g.after none g.state) (posts_none g.posts)

  -- ---- a client goes on

  module _ (g : ClientGoes w a) where
    abbrev x : Client
    x = g.before.state

    -- a grant that it is given now is one that the server keeps the answer of
    given : (b : Answer) → AnswerComes x g.input b → (op : CallOp) (j : Held) → taken b op ≡ Ok j → IsLow w j.number
    given b q op j e =
        let heard : IsHeardByClient w g.client (Hears q.from q.message) = subst (IsHeardByClient w g.client) q.is g.heard in
        let it = heard.0 in
        let takes_it : takes x it.posted.message.from q.message ≡ Some (TakesAnswer b) =
        subst (λ (n : Node). takes x n q.message ≡ Some (TakesAnswer b)) heard.1 q.takes_it in
        let its : TakesOwn w h g.client x it.posted b =
        laws.own w h k g.client g.before g.found it.number it.posted it.there it.receiver q.message b heard.2 takes_it in
        let readable : IsReadable w = readable_there w h k t in
        let exact : b ≡ its.slot.kept = its.exact (readable.answers g.client its.slot its.kept) in
        let gives = taken_given b op j e in
        let told : named b.results ≡ Some j.number =
        ap (λ (o : Option LayoutGetOk). option_map (λ (ok : LayoutGetOk). grant_in ok.stateid) o) gives.given
        ∙ ap (λ (n : ℕ). Some n) (sym gives.fresh.number) in
        let keeps : KeepsGrant w.server.slots g.client its.slot.last j.number = record {
          slot = its.slot;
          found = its.kept;
          last = refl;
          gives = ap (λ (y : Answer). named y.results) (sym exact) ∙ told;
        } in
        (ran laws.known w h k few).ordered.numbers g.client its.slot.last j.number (inl keeps)

    was : client_of w g.client ≡ x
    was = ap (state_of g.client) g.found

    behind : client_of v g.client ≡ (step x g.input).client
    behind =
        ap (λ (xs : _). state_of g.client (at_number xs g.client)) g.clients
        ∙ ap (state_of g.client) (put_same w.clients g.client g.before g.after g.found) ∙ g.state

    stepped : IsKnown (IsLow v) (step x g.input).client
    stepped =
        known_on (IsLow w) (IsLow v) later (step x g.input).client
        (step_known (IsLow w) named_low x g.input
        (subst (λ (y : Client). IsKnown (IsLow w) y) was (before.clients g.client)) given)

    goes : AreLow v
    goes = record {
      clients = λ c. elim (cases_eq c g.client) [
        | inl same ↦
            subst (λ (n : ℕ). IsKnown (IsLow v) (client_of v n)) (sym same)
            (subst (λ (y : Client). IsKnown (IsLow v) y) (sym behind) stepped)
        | inr other ↦
            as_before c
            (ap (λ (xs : _). state_of c (at_number xs c)) g.clients
            ∙ ap (state_of c) (put_other w.clients g.client c g.after other))
      ];
      asked = λ c q has. asked_so c q has (λ now.
          let it = request_posted c g.client q g.wrote g.logged (step x g.input).sends
          (subst (λ (ps : List Post). In (request_message c q) (posted ps)) g.posts now) in
          stepped.outstanding q (sent_outstanding laws.known.one x g.input q it.1));
    }

  by_goes : Goes w m.chosen m.action a → AreLow v
  by_goes (Others g) = others g
  by_goes (AServer g) = server g
  by_goes (AClient g) = goes g
  by_goes (Stops g) = stops g
  by_goes (Comes g) = comes g

  move_low : AreLow v
  move_low = by_goes (moves_are_steps w m.chosen m.action).goes

-- ---- at each moment

abbrev StayLow : World → List Line → Type 0
StayLow w h = IsReadableThrough h → AreFew h → AreLow w

none_low : AreLow empty_world
none_low = record {
  clients = λ c. record { helds = tt; outstanding = λ r out. absurd (cc out) };
  asked = λ c q has. absurd has;
}

module _ (laws : ReturnedLaws) where
  stay_low : (w : World) (h : List Line) → IsMoment w h → StayLow w h
  stay_low w h k =
      always StayLow (record {
        starts = λ t few. none_low;
        moves = λ u g j m d before t few.
            let front : IsReadableThrough g = readable_fronts g (lines_in u m) t in
            let less : AreFew g = fewer g (lines_in u m) few in
            move_low laws u g j m d front less (before front less);
      }) laws.known.further w h k

  pub returns_are_low : ReturnsAreLow
  returns_are_low w h k scenario c number q has e =
      (stay_low w h k (laws.readable h (lawful_at w h k) scenario.text scenario.few) scenario.few).asked c q has number e
