-- Each return that is outstanding is of a grant on a file that there is: a client returns only what it held.
-- Towards `EachFileIsCreated` (`file_simulation/specs/Simulation.antt`).
use Rattle.std.proofs.Common.{◌≡◌, ◌==◌, ℕ, Bool, true, false, List, [], Option, Some, None, Result, Ok, Err, refl, sym, ap, subst, ◌∙◌, inl, inr, if◌then◌else◌}
use Rattle.std.proofs.lemmas.Bool.{cases_eq}
use Rattle.layout_ops.specs.declared.messages.Answer.{Answer}
use Rattle.layout_ops.specs.declared.statuses.TheConstants.{NFS4_OK}
use Rattle.scenario_text.specs.declared.line.Line.{Line}
use Rattle.server_rules.specs.Files.{file_at}
use Rattle.client_rules.specs.Answers.{not_granted, on_commit}
use Rattle.client_rules.specs.Calls.{file_of}
use Rattle.client_rules.specs.Going.{quiet, moved, by_turn}
use Rattle.client_rules.specs.Grants.{held_of}
use Rattle.client_rules.specs.History.{Input, Hears, step}
use Rattle.client_rules.specs.Layouts.{taken}
use Rattle.client_rules.specs.Messages.{TakesAnswer, takes, finished, on_call, on_phase, on_need, answered_get, commit_under, obeys, no_match}
use Rattle.client_rules.specs.Replies.{replied, timed_out}
use Rattle.client_rules.specs.Results.{status_of}
use Rattle.client_rules.specs.Steps.{all_due}
use Rattle.world_history.specs.ClientNames.{Client, Call, CallOp, Held, Need, First, Get, Commit, Report, Close, Phase, Starts, Needs, Waits, Reads, Probes, Gathers, Scatters, Turn, Goes, Ends, Forgets, Moved, Done, Request, TimedOut, Why}
use Rattle.world_history.specs.History.{OneEventMore}
use Rattle.world_history.specs.Moves.{acts}
use Rattle.world_history.specs.Plans.{due}
use Rattle.world_history.specs.Sending.{Move, move}
use Rattle.world_history.specs.ServerNames.{Server, File}
use Rattle.world_history.specs.State.{World}
use Rattle.history_law.specs.BookMoments.{IsMoment, plan_at, lines_in}
use Rattle.history_law.specs.Moves.{IsForClient}
use Rattle.history_law.specs.Turns.{with_start, AnswerComes, TurnCases}
use Rattle.history_law.proofs.Turns.{each_turn}
use Rattle.exchange_law.proofs.ClientKeeping.{put_read, without_read}
use Rattle.exchange_law.proofs.CountMoments.{reached}
use Rattle.exchange_law.proofs.HeldWorlds.{readable_fronts, readable_there}
use Rattle.exchange_law.proofs.SlotMoments.{always}
use Rattle.exchange_law.specs.Calls.{CallFine, IsAsking}
use Rattle.exchange_law.specs.Meeting.{ClientsAgree, KeptGood, IsMet, IsReadable, IsReadableThrough}
use Rattle.exchange_law.specs.Taking.{AnswersAreOwn, TakesOwn}
use Rattle.exchange_law.proofs.HeldHearing.{made_file}
use Rattle.cause_law.proofs.Moments.{stands, taken_held, Stands}
use Rattle.file_simulation.specs.ClientEvents.{Going, going_in}
use Rattle.file_simulation.specs.Relation.{client_of}
use Rattle.relation_law.specs.Frames.{ByClient}
use Rattle.relation_law.specs.Requests.{IsReturning}
use Rattle.relation_law.proofs.CallsTaken.{taken_file}
use Rattle.relation_law.proofs.FramesFiles.{move_stays, files_distinct}
use Rattle.relation_law.proofs.FramesParties as parties
use Rattle.relation_law.proofs.RequestsClients.{commit_file}
use Rattle.relation_law.proofs.RequestsDealt.{file_of_moved, replied_file, timed_out_file}
use Rattle.relation_law.proofs.RequestsHeld.{moved_before, moved_same, finished_returns}
use Rattle.relation_law.proofs.RequestsReturns.{answered_asked}
use Rattle.headline_law.proofs.LoggedFiles.{held_file, was_there}

-- ---- a step of a client

-- a LAYOUTGET is answered, and gives the client this grant
pub record TakesGrant (x : Client) (a : Answer) (h : Held) : Type 0 where
  pub op : CallOp
  pub tries : ℕ
  pub call_is : x.call ≡ Some (record { op = op; phase = Waits (Get tries) })
  pub takes_it : taken a op ≡ Ok h

-- What is known of a client to which something comes: E holds of each file of which it returns or holds a grant, or is given one.
pub record KnownOf (E : ℕ → Type 0) (x : Client) (i : Input) : Type 0 where
  pub returning : (r : Request) → x.outstanding ≡ Some r → IsReturning r.args → E r.file
  pub holding : (n : ℕ) (h : Held) → held_of x.held n ≡ Some h → E n
  pub given : (a : Answer) → AnswerComes x i a → (h : Held) → TakesGrant x a h → E h.file

module _ (E : ℕ → Type 0) (x : Client) (i : Input) (k : KnownOf E x i) where
  -- E holds of each file of which a grant is held in the middle of a turn
  abbrev pub Holds : Done → Type 0
  Holds d = (n : ℕ) (h : Held) → held_of d.client.held n ≡ Some h → E n

  abbrev Returns : Client → Type 0
  Returns y = (r : Request) → y.outstanding ≡ Some r → IsReturning r.args → E r.file

  finish : (d : Done) → d.requests ≡ [] → Returns d.client → Holds d → Returns (finished d).client
  finish d none old held r out back = elim (finished_returns d none r out back) [
    | inl before ↦ old r before back
    | inr it ↦ held r.file it.0 it.1
  ]

  dealt : (op : CallOp) (h : Held) → held_of x.held (file_of op) ≡ Some h → (m : Moved) → m.held.file ≡ h.file →
      Returns (finished (moved (quiet x) op m)).client
  dealt op h has m same =
      let both = moved_same (quiet x) op h has m same 0 in
      finish (moved (quiet x) op m) both.0 (λ r out. k.returning r (sym both.1 ∙ out))
      (λ n j e. let b = moved_before (quiet x) op h has m same n j e in k.holding n b.0 b.1)

  -- ---- an answer

  module _ (a : Answer) (q : AnswerComes x i a) where
    abbrev freed : Done
    freed = quiet (record x { outstanding = None })

    turn_held : (op : CallOp) (t : Turn) → Holds (by_turn freed op t)
    turn_held op (Goes p) = k.holding
    turn_held op (Ends o) = k.holding
    turn_held op (Forgets o) = λ n h e. k.holding n h (without_read x.held (file_of op) n h e)

    got : (op : CallOp) (tries : ℕ) (r : Result Held Why) → x.call ≡ Some (record { op = op; phase = Waits (Get tries) }) →
        taken a op ≡ r → Holds (answered_get freed op r)
    got op tries (Err why) is takes_it = k.holding
    got op tries (Ok h) is takes_it = λ n j e. elim (put_read x.held h n j e) [
      | inl it ↦
          subst E it.0
          (k.given a q h (record { op = op; tries = tries; call_is = is; takes_it = takes_it }))
      | inr other ↦ k.holding n j other.1
    ]

    get : (op : CallOp) (tries : ℕ) → x.call ≡ Some (record { op = op; phase = Waits (Get tries) }) → (b : Bool) →
        Holds (if b then answered_get freed op (taken a op) else by_turn freed op (not_granted a tries))
    get op tries is true = got op tries (taken a op) is refl
    get op tries is false = turn_held op (not_granted a tries)

    commit : (op : CallOp) (timed : List TimedOut) (o : Option Held) → held_of x.held (file_of op) ≡ o →
        Holds (commit_under freed op a (Commit timed) o)
    commit op timed None held = k.holding
    commit op timed (Some h) held = λ n j e.
        let b = moved_before freed op h held (on_commit h op a timed) (file_of_moved h (on_commit h op a timed)
        (commit_file h op a timed)) n j e in
        k.holding n b.0 b.1

    by_need : (op : CallOp) (n : Need) → x.call ≡ Some (record { op = op; phase = Waits n }) → Holds (on_need freed op n a)
    by_need op First is = k.holding
    by_need op (Get tries) is = get op tries is (status_of a.results == NFS4_OK)
    by_need op (Commit timed) is = commit op timed (held_of x.held (file_of op)) refl
    by_need op (Report timed) is = k.holding
    by_need op (Close u report) is = k.holding

    by_phase : (op : CallOp) (p : Phase) → x.call ≡ Some (record { op = op; phase = p }) → Holds (on_phase freed op p a)
    by_phase op (Waits n) is = by_need op n is
    by_phase op Starts is = k.holding
    by_phase op (Needs n) is = k.holding
    by_phase op (Reads io) is = k.holding
    by_phase op (Probes io) is = k.holding
    by_phase op (Gathers io) is = k.holding
    by_phase op (Scatters io queue) is = k.holding

    pub answered_held : (o : Option Call) → x.call ≡ o → Holds (on_call freed o a)
    answered_held None is = k.holding
    answered_held (Some call) is = by_phase call.op call.phase is

  -- ---- each step

  cases : TurnCases x i (λ t. Returns t.client)
  cases = record {
    rests = k.returning;
    nothing = λ op is empty. k.returning;
    called = λ op is none can. finish (quiet (with_start x op)) refl k.returning k.holding;
    answered = λ a q.
        finish (on_call (quiet (record x { outstanding = None })) x.call a) (answered_asked x a x.call).0
        (λ r out. absurd (cc (sym (answered_asked x a x.call).1 ∙ out))) (answered_held a q x.call refl);
    replied = λ drive q call h a r.
        dealt call.op h r.held (replied h call.op call.phase a q)
        (file_of_moved h (replied h call.op call.phase a q) (replied_file h call.op call.phase a q));
    unheld = finish (quiet x) refl k.returning k.holding;
    recalled = λ q is. finish (obeys x q) refl k.returning k.holding;
    unmatched = λ q is. finish (no_match x q) refl k.returning k.holding;
    timed = λ n call h a xs r.
        dealt call.op h r.held (timed_out h call.op call.phase n a xs)
        (file_of_moved h (timed_out h call.op call.phase n a xs) (timed_out_file h call.op call.phase n a xs));
    leaves = λ is. finish (quiet (record x { due = all_due x.due x.held })) refl k.returning k.holding;
    resends = λ is. k.returning;
  }

  step_returns : Returns (step x i).client
  step_returns = each_turn x i (λ t. Returns t.client) cases

-- ---- at each moment

-- the server has the file
abbrev pub IsThere : World → (file : ℕ) → Type 0
IsThere w n = (g : File) × (file_at w.server.files n ≡ Some g)

-- each return that is outstanding is of one that it has
abbrev pub ReturnsAreThere : World → Type 0
ReturnsAreThere w =
    (c : ℕ) (r : Request) → (client_of w c).outstanding ≡ Some r → IsReturning r.args → IsThere w r.file

-- the request of a LAYOUTGET is on the call's file
asked_file : (Q : CallOp → Need → Request → Type 0) (hs : List Held) (o : Option Request) (op : CallOp) (tries : ℕ)
    (r : Request) →
    o ≡ Some r → CallFine Q hs o (Some (record { op = op; phase = Waits (Get tries) })) → r.file ≡ file_of op
asked_file Q hs o op tries r out fine =
    let it : IsAsking (Q op (Get tries)) o (file_of op) _ = fine.1.1 in
    let same : it.request ≡ r = cc (sym it.outstanding ∙ out) in
    ap (λ (q : Request). q.file) (sym same) ∙ it.file_is

module _ (more : OneEventMore) (own : AnswersAreOwn) (agree : ClientsAgree) where
  module _ (w : World) (h : List Line) (k : IsMoment w h) (m : Move) (d : due (plan_at k) w ≡ Some m.action)
      (before : ReturnsAreThere w) (t : IsReadableThrough h) where
    abbrev v : World
    v = (move w m).world

    pub later : (n : ℕ) → IsThere w n → IsThere v n
    later n there = (move_stays w m (files_distinct w (reached w h k))).2 n there.0 there.1

    module _ (g : Going) (by : ByClient w m.action g (acts w m.chosen m.action)) where
      then_ : client_of w g.client ≡ g.state
      then_ = parties.client_before w m.action g (acts w m.chosen m.action) by

      met : IsMet w.server g.client g.state
      met = subst (IsMet w.server g.client) then_ (agree w h k t g.client)

      given : (a : Answer) → AnswerComes g.state g.input a → (x : Held) → TakesGrant g.state a x → IsThere v x.file
      given a q x takes_grant =
          let heard : IsForClient w m.action g.client by.before (Hears q.from q.message) =
          subst (IsForClient w m.action g.client by.before) q.is by.input_is in
          let it = heard.0 in
          let took : takes by.before.state it.posted.message.from q.message ≡ Some (TakesAnswer a) =
          ap (λ n. takes by.before.state n q.message) (sym heard.1)
          ∙ ap (λ (z : Client). takes z q.from q.message) (sym by.state_is) ∙ q.takes_it in
          let its : TakesOwn w h g.client by.before.state it.posted a =
          own w h k g.client by.before by.found it.number it.posted it.there it.receiver q.message a heard.2 took in
          let out : g.state.outstanding ≡ Some its.request = ap (λ (z : Client). z.outstanding) by.state_is ∙ its.outstanding in
          let readable : IsReadable w = readable_there w h k t in
          let exact : a ≡ its.slot.kept = its.exact (readable.answers g.client its.slot its.kept) in
          let s : Stands w = stands more own agree w h k t in
          let held = taken_held s.run its.slot.kept takes_grant.op x (s.slots g.client its.slot its.kept)
          (ap (λ (z : Answer). taken z takes_grant.op) (sym exact) ∙ takes_grant.takes_it) in
          let fits = readable.requests g.client its.request
          (ap (λ (z : Client). z.outstanding) then_ ∙ out) in
          let file : its.slot.kept.file ≡ x.file =
          made_file h g.client its.request its.slot.kept fits its.made
          ∙ asked_file (KeptGood w.server g.client) g.state.held g.state.outstanding takes_grant.op takes_grant.tries its.request
          out (subst (CallFine (KeptGood w.server g.client) g.state.held g.state.outstanding) takes_grant.call_is met.call)
          ∙ sym (taken_file a takes_grant.op x takes_grant.takes_it) in
          let at = held.there in
          let there = was_there s.run at.before at.after its.slot.kept.file held.file at.run at.found in
          later x.file (subst (IsThere w) file (there.0, ap (λ (y : Server). file_at y.files its.slot.kept.file) s.is ∙ there.1))

      pub known : KnownOf (IsThere v) g.state g.input
      known = record {
        returning = λ r out back. later r.file (before g.client r (ap (λ (z : Client). z.outstanding) then_ ∙ out) back);
        holding = λ n x e.
            later n (held_file more own agree w h k t g.client n x (ap (λ (z : Client). held_of z.held n) then_ ∙ e));
        given = given;
      }

      goes : ReturnsAreThere v
      goes c r out back = elim (cases_eq c g.client) [
        | inl same ↦
            step_returns (IsThere v) g.state g.input known r
            (ap (λ (z : Client). z.outstanding) (sym (parties.client_behind w m g by))
            ∙ subst (λ (n : ℕ). (client_of v n).outstanding ≡ Some r) same out) back
        | inr other ↦
            later r.file
            (before c r (ap (λ (z : Client). z.outstanding) (sym (parties.client_beside w m g by c other)) ∙ out) back)
      ]

    by_going : (o : Option Going) → going_in w m.action ≡ o → ReturnsAreThere v
    by_going None none = λ c r out back.
        later r.file (before c r (ap (λ (z : Client). z.outstanding) (sym (parties.clients_rest w h k m d none c)) ∙ out) back)
    by_going (Some g) is = goes g (parties.client_goes w h k m d g is)

    move_returns : ReturnsAreThere v
    move_returns = by_going (going_in w m.action) refl

  abbrev AreThere : World → List Line → Type 0
  AreThere w h = IsReadableThrough h → ReturnsAreThere w

  pub returns_are_there : (w : World) (h : List Line) → IsMoment w h → AreThere w h
  returns_are_there w h k =
      always AreThere (record {
        starts = λ t c r out. absurd (cc out);
        moves = λ u g j m d before t. move_returns u g j m d (before (readable_fronts g (lines_in u m) t))
            (readable_fronts g (lines_in u m) t);
      }) more w h k
