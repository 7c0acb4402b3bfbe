-- A line can tell each outcome of a call, at each moment of a history.
use Rattle.std.proofs.Common.{◌≡◌, ◌<◌, ◌^◌, ◌%◌, ◌==◌, ℕ, Bool, true, false, List, [], ◌∷◌, ◌++◌, Some, Result, Ok, Err, IsSome, nat_lt, inl, inr, arith, refl, sym, ap, subst, ◌∙◌, if◌then◌else◌}
use Rattle.std.proofs.lemmas.Bool.{cases_eq, lt-ltb, eqb-true}
use Rattle.std.proofs.lemmas.Option.{same_Some}
use Rattle.osd_lists.specs.declared.node.Node.{Node}
use Rattle.osd_lists.specs.declared.node.Node.TheVariants as node
use Rattle.layout_ops.specs.declared.err.OpErr.{OpErr}
use Rattle.layout_ops.specs.declared.messages.Answer.{Answer}
use Rattle.layout_ops.specs.declared.envelope.Envelope.{Envelope}
use Rattle.layout_ops.specs.declared.envelope.Envelope.TheVariants as envelope
use Rattle.layout_ops.specs.Reading.{envelope_of}
use Rattle.osd_commands.specs.declared.replies.Reply.{Reply}
use Rattle.osd_objects.proofs.Entries.{lookup_inserted, lookup_beside, lookup_set, lookup_set_beside}
use Rattle.scenario_text.specs.declared.names.TheConstants.{CLIENTS, DRIVES}
use Rattle.scenario_text.specs.declared.event.Event.TheVariants as event
use Rattle.scenario_text.specs.declared.line.Line.{Line}
use Rattle.scenario_text.specs.declared.line.Line.TheVariants as line
use Rattle.client_rules.specs.Envelopes.{by_envelope, in_envelope, message_in}
use Rattle.client_rules.specs.History.{Input, Calls, Hears, TimesOut, Leaves, Resends}
use Rattle.client_rules.specs.Messages.{Message as ClientMessage, Answers, TakesAnswer, takes}
use Rattle.client_rules.specs.Results.{status_of}
use Rattle.history_law.specs.State.{Awaited, Outcome, WriteOk, ReadOk, NoFile, HeldBy, Fencing, Degraded, Spent, Status, Refused, Silent, Lost, BadLayout}
use Rattle.world_history.specs.State.{World, ClientAt, at_number, with_number, and_number}
use Rattle.world_history.specs.Spelled.{spelled}
use Rattle.world_history.specs.Names.{has_tag, is_tellable}
use Rattle.world_history.specs.Drives.{judges, command_in}
use Rattle.world_history.specs.Moves.{Act, Action, acts}
use Rattle.world_history.specs.Sending.{Move}
use Rattle.world_history.specs.Plans.{due}
use Rattle.world_history.specs.History.{OneEventMore}
use Rattle.history_law.specs.Said.{IsDelivered}
use Rattle.history_law.specs.Moves.{IsForClient}
use Rattle.history_law.proofs.Moves.{each_act}
use Rattle.history_law.specs.Grants.{GrantsAreSafe}
use Rattle.history_law.specs.BookMoments.{IsMoment, lines_in}
use Rattle.exchange_law.specs.Awaited.{IsBehind}
use Rattle.exchange_law.specs.Text.{AreOfText}
use Rattle.exchange_law.proofs.CountGrowing.{text_front}
use Rattle.exchange_law.specs.Taking.{AnswersAreOwn, TakesOwn}
use Rattle.exchange_law.proofs.Judging.{Took, took}
use Rattle.exchange_law.proofs.SlotMoments.{always}
use Rattle.exchange_law.proofs.SlotTaken.{is_taken}
use Rattle.exchange_law.proofs.Turning.{WasPosted, ComesTo, body_in}
use Rattle.name_law.specs.ClientTells.{OutcomesOfTextAreTold}
use Rattle.name_law.proofs.ClientOutcomes.{OutcomeTold, CallTold, EndTold, Names}
use Rattle.name_law.proofs.ClientSteps.{InputSays, step_told}
use Rattle.name_law.proofs.ClientAnswers.{answer_read}
use Rattle.cause_law.proofs.Holders.{AnswerNames, grants_named, answer_names}
use Rattle.name_law.proofs.DriveTags.{SaysLow, reply_low}
use Rattle.name_law.proofs.DriveWorlds.{tags_low, to_drives}

-- ---- an outcome

pub is_told : (o : Outcome) → OutcomeTold o → is_tellable o ≡ true
is_told (Refused d n e) k = k
is_told (HeldBy c) k = k
is_told (WriteOk n) k = refl
is_told (ReadOk bytes) k = refl
is_told NoFile k = refl
is_told (Fencing n) k = refl
is_told (Degraded n) k = refl
is_told Spent k = refl
is_told (Status status detail) k = refl
is_told (Silent n) k = refl
is_told (Lost ps) k = refl
is_told (BadLayout w) k = refl

-- ---- a reply

tag_told : (n e : ℕ) → (n ≡ 9 → e < 2 ^ 32) → has_tag n e ≡ true
tag_told n e low = by (n == 9) refl
  where
    by : (b : Bool) → (n == 9) ≡ b → (if b then nat_lt e (2 ^ 32) else true) ≡ true
    by true is = lt-ltb e (2 ^ 32) (low (eqb-true n 9 is))
    by false is = refl

refusal_told : (d n e : ℕ) → d < DRIVES → (n ≡ 9 → e < 2 ^ 32) → is_tellable (Refused d n e) ≡ true
refusal_told d n e drive tag = rw (lt-ltb d DRIVES drive) (tag_told n e tag)

low_too : (m n : ℕ) → m ≡ n % 2 ^ 64 → n < 2 ^ 32 → m < 2 ^ 32
low_too m n is low = omega (arith, is, low)

-- the lines of an earlier moment are of a text too
text_there : (h before lines after : List Line) (number : ℕ) → IsBehind before lines number → h ≡ before ++ after
    → AreOfText h → AreOfText lines
text_there h before lines after number (inl same) is text =
    text_front lines after (subst AreOfText (is ∙ ap (λ (l : List Line). l ++ after) same) text)
text_there h before lines after number (inr same) is text =
    text_front lines (line.Event (event.Deliver number) ∷ [])
    (text_front (lines ++ line.Event (event.Deliver number) ∷ []) after
    (subst AreOfText (is ∙ ap (λ (l : List Line). l ++ after) same) text))

drive_says : OneEventMore → (h : List Line) → AreOfText h → (c : ℕ) (a : Awaited) (r : Reply) → Took h c a r
    → is_tellable (Refused a.drive r.verdict r.detail) ≡ true
unfolding judges
drive_says more h text c a r t =
    let k = t.replied in
    let there = to_drives more k.world k.lines k.moment k.message.message
    (body_in k.world.network.messages k.number k.message k.found) a.drive k.receiver in
    let low : SaysLow t.sent =
    subst SaysLow (sym k.reply)
    (reply_low k.device.state k.device.clock (command_in k.message.message.body)
    (tags_low more k.world k.lines k.moment
    (text_there h k.before k.lines _ k.number k.behind k.lines_are text) a.drive k.device k.stands)) in
    refusal_told a.drive r.verdict r.detail there.named
    (λ is. low_too r.detail t.sent.detail t.read.detail (low (sym t.read.verdict ∙ is)))

-- ---- an answer

answer_in_envelope : (e : Envelope) (a : Answer) → in_envelope e ≡ Some (Answers a) → e ≡ envelope.Answer a
answer_in_envelope (envelope.Answer b) a e =
    let both : Answers b ≡ Answers a = cc e in
    let same : b ≡ a = cc both in
    ap (λ (x : Answer). envelope.Answer x) same
answer_in_envelope e a is = absurd (cc is)

answer_of : (o : Result Envelope OpErr) (a : Answer) → by_envelope o ≡ Some (Answers a) → o ≡ Ok (envelope.Answer a)
answer_of (Ok e) a is = ap (λ (x : Envelope). Ok x) (answer_in_envelope e a is)
answer_of (Err e) a is = absurd (cc is)

server_says : (bytes : List ℕ) (a : Answer) → message_in node.Server bytes ≡ Some (Answers a)
    → envelope_of bytes ≡ Ok (envelope.Answer a)
unfolding message_in
server_says bytes a is = answer_of (envelope_of bytes) a is

module _ (more : OneEventMore) (own : AnswersAreOwn) (safe : GrantsAreSafe) where
  module _ (w : World) (h : List Line) (k : IsMoment w h) (c : ℕ) (x : ClientAt) (found : at_number w.clients c ≡ Some x)
      (d : IsDelivered w (node.Client c)) (m : ClientMessage) where
    answer_says : (from : Node) → from ≡ d.posted.message.from
        → message_in d.posted.message.from (spelled d.posted.message.body) ≡ Some m
        → (a : Answer) → takes x.state from m ≡ Some (TakesAnswer a) → Names (status_of a.results) a.detail
    answer_says from is read a taken later =
        let took_it : takes x.state d.posted.message.from m ≡ Some (TakesAnswer a) =
        ap (λ (n : Node). takes x.state n m) (sym is) ∙ taken in
        let t : TakesOwn w h c x.state d.posted a =
        own w h k c x found d.number d.posted d.there d.receiver m a read took_it in
        let made = t.made in
        let named = subst AnswerNames (sym made.answer)
        (answer_names made.world.server made.world.clock made.next.chosen made.request
        (grants_named safe more made.world made.before made.moment)) in
        let it = is_taken x.state d.posted.message.from m a took_it in
        let bytes : message_in node.Server (spelled d.posted.message.body) ≡ Some (Answers a) =
        ap (λ (n : Node). message_in n (spelled d.posted.message.body)) (sym it.sender) ∙ read
        ∙ ap (λ (y : ClientMessage). Some y) it.message in
        let reads = answer_read t.slot.kept (spelled d.posted.message.body) a named.low (ap spelled t.body)
        (server_says (spelled d.posted.message.body) a bytes) in
        let holder : t.slot.kept.detail < CLIENTS = named.holder (reads.later later) in
        let same : a.detail ≡ t.slot.kept.detail = reads.detail (omega (arith, holder)) in
        lt-ltb a.detail CLIENTS (omega (arith, same, holder))

  -- ---- what comes to a client

  input_says : (w : World) (h : List Line) → IsMoment w h → AreOfText h → (action : Action) (c : ℕ) (x : ClientAt)
      → at_number w.clients c ≡ Some x → (i : Input) → IsForClient w action c x i → InputSays x.state i
  input_says w h k text action c x found (Hears from m) is =
      let d = is.0 in
      let posted : WasPosted w from (node.Client c) (spelled d.posted.message.body) = record {
        message = d.posted.message;
        there = body_in w.network.messages d.number d.posted d.there;
        sender = sym is.1;
        receiver = d.receiver;
        bytes_are = refl;
      } in
      let comes : ComesTo w c (Hears from m) = (
        spelled d.posted.message.body,
        posted,
        ap (λ (n : Node). message_in n (spelled d.posted.message.body)) is.1 ∙ is.2,
      ) in
      record {
        reply = λ a r taken other.
            drive_says more h text c a r (took more w h k c x.state from m comes a r taken);
        answer = λ a taken. answer_says w h k c x found d m from is.1 is.2 a taken;
      }
  input_says w h k text action c x found (Calls op) is = tt
  input_says w h k text action c x found (TimesOut j) is = tt
  input_says w h k text action c x found Leaves is = tt
  input_says w h k text action c x found Resends is = tt

  -- ---- at each moment

  abbrev AllTold : List (ℕ × ClientAt) → Type 0
  AllTold xs = (c : ℕ) (a : ClientAt) → at_number xs c ≡ Some a → CallTold a.state.call

  put_told : (xs : List (ℕ × ClientAt)) (k : ℕ) (a b : ClientAt) → at_number xs k ≡ Some a → AllTold xs
      → CallTold b.state.call → AllTold (with_number xs k b)
  put_told xs k a b there all told c x e = elim (cases_eq c k) [
    | inl same ↦
        let it : b ≡ x =
        same_Some b x
        (sym (lookup_set xs k b (subst IsSome (sym there) refl))
        ∙ ap (λ (n : ℕ). at_number (with_number xs k b) n) (sym same) ∙ e) in
        subst (λ (y : ClientAt). CallTold y.state.call) it told
    | inr other ↦ all c x (sym (lookup_set_beside xs k c b other) ∙ e)
  ]

  more_told : (xs : List (ℕ × ClientAt)) (k : ℕ) (b : ClientAt) → AllTold xs → CallTold b.state.call
      → AllTold (and_number xs k b)
  more_told xs k b all told c x e = elim (cases_eq c k) [
    | inl same ↦
        let it : b ≡ x =
        same_Some b x
        (sym (lookup_inserted xs k b) ∙ ap (λ (n : ℕ). at_number (and_number xs k b) n) (sym same) ∙ e) in
        subst (λ (y : ClientAt). CallTold y.state.call) it told
    | inr other ↦ all c x (sym (lookup_beside xs k c b other) ∙ e)
  ]

  move_told : (w : World) (h : List Line) → IsMoment w h → AreOfText h → (m : Move) → AllTold w.clients
      → AllTold (acts w m.chosen m.action).world.clients
  move_told w h k text m all = each_act w m.chosen (λ (a : Act). AllTold a.world.clients) m.action (record {
    rests = λ ms said told quiet. all;
    refused = λ c a found op is e why. all;
    clock = λ time. all;
    serves = λ ms said i is. all;
    goes = λ ms said c a found i is.
        put_told w.clients c a _ found all
        (step_told a.state i (all c a found) (input_says w h k text m.action c a found i is)).call;
    comes = λ c is. more_told w.clients c _ all tt;
    stops = λ c a found. put_told w.clients c a (record a { stopped = true }) found all (all c a found);
    judged = λ ms said d a found hears n number. all;
    injected = λ d bytes is a found. all;
    turns = λ d a b found t. all;
    known = λ d key capacity stored is knows. all;
    adds = λ d key capacity stored is knows. all;
  })

  calls_told : (w : World) (h : List Line) → IsMoment w h → AreOfText h → AllTold w.clients
  calls_told w h k =
      always (λ w h. AreOfText h → AllTold w.clients) (record {
        starts = λ text c a e. absurd (cc e);
        moves = λ v g j m d x text.
            let before : AreOfText g = text_front g (lines_in v m) text in
            move_told v g j before m (x before);
      }) more w h k

pub outcomes_are_told : OneEventMore → AnswersAreOwn → GrantsAreSafe → OutcomesOfTextAreTold
outcomes_are_told more own safe w h k text m due c a found i is o e =
    let told = step_told a.state i (calls_told more own safe w h k text c a found)
    (input_says more own safe w h k text m.action c a found i is) in
    is_told o (subst EndTold e told.outcome)
