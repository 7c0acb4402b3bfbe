-- Each WRITE that a client newly sends to an object of a file has a nonce above all that the machine's client had used.
-- Towards `ComponentsGoOn` (`specs/Steps.antt`).
use Rattle.std.proofs.Common.{◌≡◌, ◌⊎◌, ◌++◌, ◌+◌, ◌*◌, ◌<◌, ◌≤◌, ℕ, Bool, List, [], filter, option_map, slice_get, nat_eq, bit_and, Option, Some, None, Ok, refl, sym, ap, subst, ◌∙◌, inl, inr, arith, eq-eqb, if◌then◌else◌}
use Rattle.std.proofs.lemmas.List.{append-nil}
use Rattle.layout_ops.specs.declared.messages.Answer.{Answer}
use Rattle.osd_commands.specs.Actions.{right_of}
use Rattle.osd_commands.specs.declared.commands.Command.{Command}
use Rattle.osd_lists.specs.declared.node.Node.{Node}
use Rattle.osd_lists.specs.declared.node.Node.TheVariants as node
use Rattle.scenario_text.specs.declared.line.Line.{Line}
use Rattle.server_rules.specs.Files.{file_at}
use Rattle.server_rules.specs.History.{Act as ServerAct, state_after}
use Rattle.server_rules.specs.Laws.{In}
use Rattle.server_rules.specs.Making.{new_server}
use Rattle.server_rules.specs.Slots.{slot_of}
use Rattle.server_rules.proofs.Members.{in_either, in_filtered, in_map, in_mapped}
use Rattle.client_rules.specs.declared.limits.TheConstants.{NONCES}
use Rattle.client_rules.specs.Calls.{file_of}
use Rattle.client_rules.specs.Commands.{nonce_at}
use Rattle.client_rules.specs.Grants.{held_of}
use Rattle.client_rules.specs.History.{Hears, step}
use Rattle.client_rules.specs.Layouts.{taken}
use Rattle.client_rules.specs.Messages.{Message as ClientMessage, TakesAnswer, takes, awaited_of}
use Rattle.client_rules.specs.Requests.{get_args}
use Rattle.client_rules.specs.Results.{layouts_in}
use Rattle.world_history.specs.ClientNames.{Client, Call, Held, Get, Waits, Awaited, Request, ToDrive}
use Rattle.world_history.specs.ServerNames.{Server, File, Component, Slot}
use Rattle.world_history.specs.Handed.{Post, is_addressed, client_posts, pending_op}
use Rattle.world_history.specs.History.{OneEventMore}
use Rattle.world_history.specs.Moves.{acts}
use Rattle.world_history.specs.State.{World}
use Rattle.world_history.specs.Sending.{Move, move}
use Rattle.world_history.specs.declared.messages.Message.{Message}
use Rattle.world_history.specs.declared.messages.Posted.{Posted}
use Rattle.history_law.specs.BookMoments.{IsMoment, lines_in}
use Rattle.history_law.proofs.IssuedLaw.{nothing_allowed}
use Rattle.history_law.proofs.Files.{in_at}
use Rattle.history_law.specs.Moves.{IsForClient}
use Rattle.history_law.specs.Said.{said, posted}
use Rattle.history_law.specs.Turns.{AnswerComes}
use Rattle.component_law.specs.Objects.{AreOwned}
use Rattle.component_law.specs.Sent.{IsSentByRun}
use Rattle.component_law.proofs.ObjectRuns.{each_object_is_owned}
use Rattle.component_law.proofs.Given.{taken_gives}
use Rattle.exchange_law.specs.Awaited.{AreFewerThanNonces}
use Rattle.exchange_law.specs.Calls.{IsAsking, CallFine, PhaseFine as CallPhaseFine}
use Rattle.exchange_law.specs.Given.{CanTake}
use Rattle.exchange_law.specs.Meeting.{KeptGood}
use Rattle.exchange_law.specs.Sent.{HasSent, IsBacked, Names, message_of}
use Rattle.exchange_law.proofs.Commands.{MaySend}
use Rattle.exchange_law.proofs.Fine.{ClientFine}
use Rattle.exchange_law.proofs.Granted.{taken_covers}
use Rattle.exchange_law.proofs.Knowing.{lawful_at}
use Rattle.exchange_law.proofs.LaneMoves.{PhaseFine}
use Rattle.exchange_law.proofs.LatestLaw.{fine_at, answered, IsAnswered as IsFromServer}
use Rattle.exchange_law.proofs.RefusalSending.{command_posted}
use Rattle.exchange_law.proofs.Turns.{messages_behind}
use Rattle.cause_law.specs.Fresh.{GrantsAreFresh}
use Rattle.cause_law.specs.Readable.{AnswersAreFit}
use Rattle.cause_law.proofs.Fresh.{owner_is, new_held}
use Rattle.cause_law.proofs.Moments.{Stands, stands}
use Rattle.cause_law.proofs.Objects.{placed_there}
use Rattle.fence_law.specs.State.{State}
use Rattle.fence_law.specs.State.RequestKind.{Get as AskedGet}
use Rattle.fence_law.specs.Words.{In as InRun}
use Rattle.file_simulation.specs.Calls.{HeldIs, IsHolding, IsClient}
use Rattle.file_simulation.specs.Claim.{IsOfScenario}
use Rattle.file_simulation.specs.ClientEvents.{Going, going_in}
use Rattle.file_simulation.specs.Components.{AreComponents}
use Rattle.file_simulation.specs.Requests.{Own, Other, phase_of, class_by, class_of, kept_by, kept_for, GivesIn, IsWaiting, ClassIs}
use Rattle.relation_law.specs.ComponentsFacts.{OfClients}
use Rattle.relation_law.specs.Frames.{ByClient}
use Rattle.relation_law.specs.Steps.{FollowsWhole}
use Rattle.relation_law.proofs.ComponentsTurns.{AreOver, turn_sends}
use Rattle.relation_law.proofs.DriveMoves.{got_in}
use Rattle.relation_law.proofs.RequestsReturns.{HeldLaws, by, then_, through, is_client, met, outstanding_is, kept_it}

-- what is addressed is posted
pub addressed : (m : Message) (ps : List Post) → In m (posted (filter is_addressed ps)) → In m (posted ps)
addressed m ps i =
    let r = in_mapped (λ (p : Post). p.message) m (filter is_addressed ps) i in
    subst (λ (y : Message). In y (posted ps)) (sym r.2)
    (in_map (λ (p : Post). p.message) r.0 ps (in_filtered is_addressed r.0 ps r.1).0)

phase_of_call : (S : Command → Type 0) (hs : List Held) (o : Option Call) (call : Call) → o ≡ Some call → ClientFine S hs o →
    PhaseFine call.phase
phase_of_call S hs None call e k = absurd (cc e)
phase_of_call S hs (Some x) call e k =
    let same : x ≡ call = cc e in subst (λ (y : Call). PhaseFine y.phase) same k.call.fine

-- a grant that is to be given is above all that was used
new_low : (used number g count : ℕ) → used < g * NONCES → g ≡ number → used ≤ number * NONCES + count
new_low used number g count less same = omega (arith, less, same)

-- what a client sent is backed by a capability
pub backed_there : AnswersAreFit → (w : World) (h : List Line) → IsMoment w h → IsOfScenario h → (d e : ℕ) (y : Command) →
    HasSent w d e y → IsBacked y
backed_there answers w h moment scenario d e y i none =
    let fit = answers h (lawful_at w h moment) scenario.text scenario.few in
    let may : MaySend e y = placed_there w h moment fit (message_of d e y) i in
    cc (sym (ap (λ q. nat_eq (bit_and q.rights (right_of y.action)) 0) none ∙ nothing_allowed y.action) ∙ may.placed.right)

module _ (laws : HeldLaws) (given : GrantsAreFresh) (answers : AnswersAreFit) (w : World) (h : List Line) (m : Move) (f g : File)
    (s : State) (k : FollowsWhole w h m f g s) (next : IsMoment (move w m).world (h ++ lines_in w m))
    (later : IsOfScenario (h ++ lines_in w m)) (few : AreFewerThanNonces h) (run : IsSentByRun w)
    (there : file_at w.server.files f.kept.number ≡ Some f) (j : Going) (goes : going_in w m.action ≡ Some j) where
  abbrev c : ℕ
  c = j.client

  abbrev x : Client
  x = j.state

  abbrev file : ℕ
  file = f.kept.number

  abbrev t : Option Slot
  t = slot_of w.server.slots j.client

  its : ByClient w m.action j (acts w m.chosen m.action)
  its = by laws w h m f g s k j goes

  its_client : IsClient file f.kept.map s c x (kept_for t x.outstanding)
  its_client = is_client laws w h m f g s k j goes

  abbrev more : OneEventMore
  more = laws.right.world.more

  abbrev its_run : Stands w
  its_run = stands more laws.own laws.right.world.agree w h k.follows.moment (through laws w h m f g s k j goes)

  owns : (owner : ℕ → ℕ) × ((before after : List ServerAct) → its_run.run ≡ before ++ after →
      AreOwned owner (state_after (new_server []) before))
  owns = each_object_is_owned its_run.run

  abbrev owner : ℕ → ℕ
  owner = owns.0

  -- the grants that it holds are over what the machine's client has used, and name their files' objects
  are_over : AreOver f.kept.number (s.nonce j.client) owns.0 j.state.held
  are_over = record {
    over = λ n e.
        let holding : IsHolding f.kept.map s c n =
        subst (HeldIs file f.kept.map s c x (kept_for t x.outstanding)) e its_client.held in
        holding.nonce;
    owned = λ n a e i o names.
        owner_is its_run.run owns.0 owns.1 n a
        (its_run.helds c n a (ap (λ (z : Client). held_of z.held n) (then_ laws w h m f g s k j goes) ∙ e)) i o names;
  }

  module _ (a : Answer) (is : AnswerComes j.state j.input a) (call : Call) (tries : ℕ) (n : Held)
      (at : j.state.call ≡ Some call) (waits : call.phase ≡ Waits (Get tries)) (grant : taken a call.op ≡ Ok n) where
    asking : IsAsking (KeptGood w.server c call.op (Get tries)) x.outstanding (file_of call.op) (get_args call.op)
    asking =
        let met_ = met laws w h m f g s k j goes in
        let fine = (subst (CallFine (KeptGood w.server c) x.held x.outstanding) at met_.call).1 in
        (subst (CallPhaseFine (KeptGood w.server c) (held_of x.held (file_of call.op)) x.outstanding call.op) waits fine).1

    same_request : asking.request ≡ is.request
    same_request = cc (sym asking.outstanding ∙ is.outstanding)

    number_of : n.file ≡ f.kept.number → s.nonce j.client ≤ nonce_at n n.count
    unfolding class_of
    number_of here =
        let r : Request = is.request in
        let r_file : r.file ≡ file =
        ap (λ (q : Request). q.file) (sym same_request) ∙ asking.file_is ∙ sym (taken_covers a call.op n grant).0 ∙ here in
        let r_args : r.args ≡ get_args call.op = ap (λ (q : Request). q.args) (sym same_request) ∙ asking.args_are in
        let out = outstanding_is laws w h m f g s k j goes r is.outstanding in
        let kept = kept_it laws w h m f g s k j goes is.from is.message a is.is is.takes_it r is.outstanding in
        let class : (b : Bool) × (class_of file x r ≡ Own (AskedGet b)) = (
          _,
          ap (λ (q : Bool). if q then class_by (phase_of x.call) r.args else Other) (eq-eqb r.file file r_file)
              ∙ ap (class_by (phase_of x.call)) r_args,
        ) in
        let waiting : IsWaiting f.kept.map s c x (AskedGet class.0) (Some a) =
        subst (λ q. ClassIs f.kept.map s c x q (Own (AskedGet class.0))) kept
        (subst (ClassIs f.kept.map s c x (kept_by t r)) class.1 out.waits) in
        let pending : pending_op x ≡ Some call.op = ap (λ (q : Option Call). option_map (λ (y : Call). y.op) q) at in
        let gave = taken_gives a call.op n grant in
        let gives : GivesIn f.kept.map a (Some call.op) (Some gave.0) waiting.answer.grant =
        subst (λ q. GivesIn f.kept.map a (Some call.op) q waiting.answer.grant) (ap layouts_in gave.1)
        (subst (λ q. GivesIn f.kept.map a q (layouts_in a.results) waiting.answer.grant) pending waiting.answer.gives) in
        let same : gives.1 ≡ n = cc (sym gives.3 ∙ grant) in
        let less = its_client.fresh gives.0 a.size waiting.waiting
        (subst (λ q. InRun (record { client = c; sequence = s.sequence c; grant = q; size = a.size }) s.answers) gives.2
        waiting.answer.sent) in
        new_low (s.nonce c) n.number gives.0.number n.count less
        (gives.4.same.number ∙ sym gives.4.agrees.number ∙ ap (λ (y : Held). y.number) same)

    heard : IsForClient w m.action c its.before (Hears is.from is.message)
    heard = subst (IsForClient w m.action c its.before) is.is its.input_is

    from_server : IsFromServer is.from is.message a
    from_server = answered x is.from is.message a is.takes_it

    can : CanTake w c its.before n
    can = record {
      message = heard.0.posted.message;
      sent = in_map (λ (p : Posted). p.message) heard.0.posted w.network.messages
          (got_in w.network.messages heard.0.number heard.0.posted heard.0.there);
      sender = sym heard.1 ∙ from_server.server;
      receiver = heard.0.receiver;
      answer = a;
      read = heard.2 ∙ ap (λ (y : ClientMessage). Some y) from_server.message;
      takes =
          subst (λ (y : ClientMessage). takes its.before.state node.Server y ≡ Some (TakesAnswer a)) from_server.message
          (subst (λ (q : Node). takes its.before.state q is.message ≡ Some (TakesAnswer a)) from_server.server
          (ap (λ (y : Client). takes y is.from is.message) (sym its.state_is) ∙ is.takes_it));
      op = call.op;
      asks =
          ap pending_op (sym its.state_is) ∙ ap (λ (q : Option Call). option_map (λ (y : Call). y.op) q) at;
      grant = grant;
    }

    named : (i o : ℕ) → Names n i o → owns.0 o ≡ n.file
    named i o names =
        owner_is its_run.run owns.0 owns.1 n.file n
        (new_held more laws.own laws.right.world.agree w h k.follows.moment (through laws w h m f g s k j goes) c its.before
        its.found n can) i o names

  fine : (call : Call) → j.state.call ≡ Some call → PhaseFine call.phase
  fine call is =
      let all = fine_at more h (given h (through laws w h m f g s k j goes) few) w k.follows.moment in
      phase_of_call _ its.before.state.held its.before.state.call call (ap (λ (y : Client). y.call) (sym its.state_is) ∙ is)
      (all c its.before its.found)

  -- what was sent is sent before, or in the step
  pub sent_either : (d e : ℕ) (y : Command) → HasSent (move w m).world d e y →
      HasSent w d e y ⊎ ((d ≡ j.client) × In (ToDrive e y) (step j.state j.input).sends)
  sent_either d e y i =
      elim (in_either (message_of d e y) (said w.network.messages) (posted (acts w m.chosen m.action).posts)
      (subst (In (message_of d e y)) (messages_behind w m) i)) [
        | inl old ↦ inl old
        | inr new ↦
            let r = command_posted (message_of d e y) c its.wrote its.logged (step x j.input).sends
            (addressed (message_of d e y) (client_posts c its.wrote its.logged (step x j.input).sends)
            (subst (λ (ps : List Post). In (message_of d e y) (posted ps)) its.posts new)) y refl in
            inr (
              cc (ap (λ (q : Message). q.from) r.2),
              subst (λ (n : ℕ). In (ToDrive n y) (step x j.input).sends) (cc (sym (ap (λ (q : Message). q.to) r.2))) r.1,
            )
      ]

  -- each client's command is backed
  pub backed : (d e : ℕ) (y : Command) → HasSent (move w m).world d e y → IsBacked y
  backed = backed_there answers (move w m).world (h ++ lines_in w m) next later

  -- the object is the file's
  is_its : (i : ℕ) (at : Component) → slice_get f.kept.components i ≡ Some at → owns.0 at.object ≡ file
  is_its i at found =
      let mine = owns.1 its_run.run [] (sym (append-nil its_run.run)) f
      (subst (λ (y : Server). In f y.files) its_run.is (in_at w.server.files file f there)) in
      (mine.components at.object
      (in_map (λ (y : Component). y.object) at f.kept.components (got_in f.kept.components i at found))).1

  pub sends_above : AreComponents s w f →
      ((a : Awaited) → In a (awaited_of j.state.call) → HasSent w j.client a.drive a.command) →
      OfClients s w (move w m).world f
  sends_above components awaits i at found stands d e y below has write object =
      elim (sent_either d e y has) [
        | inl old ↦ inl old
        | inr now ↦
            let over = turn_sends file (s.nonce c) owns.0 x j.input are_over fine
            (λ a is call tries n at_ waits grant. (
              number_of a is call tries n at_ waits grant,
              named a is call tries n at_ waits grant,
            )) in
            elim (over e y now.1) [
              | inl was ↦
                  inl (subst (λ (q : ℕ). HasSent w q e y) (sym now.0)
                  (subst (λ (z : Command). HasSent w c e z) was.3
                  (subst (λ (q : ℕ). HasSent w c q was.0.command) was.2 (awaits was.0 was.1))))
              | inr above ↦
                  let high = above (backed d e y has) (ap owns.0 object ∙ is_its i at found) in
                  let low_ = (components i at found).nonces d below in
                  inr (omega (arith, high, low_, ap s.nonce now.0))
            ]
      ]
