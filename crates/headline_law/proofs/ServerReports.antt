-- Where a client's call waits for the answer to a report of what timed out, it waited for it before the step, or the report is
-- by the grant that was held before.
use Rattle.std.proofs.Common.{◌≡◌, ◌==◌, ℕ, Bool, true, false, find, List, [], ◌∷◌, Option, Some, None, Result, Ok, Err, refl, sym, ap, subst, ◌∙◌, if◌then◌else◌}
use Rattle.std.proofs.lemmas.Bool.{true≢false}
use Rattle.std.proofs.lemmas.Option.{same_Some}
use Rattle.layout_ops.specs.declared.messages.Answer.{Answer}
use Rattle.layout_ops.specs.declared.statuses.TheConstants.{NFS4_OK, NFS4ERR_BADLAYOUT}
use Rattle.client_rules.specs.Answers.{not_granted, refused_with, on_commit, committed, not_committed}
use Rattle.client_rules.specs.Calls.{file_of}
use Rattle.client_rules.specs.Going.{quiet, moved, phased, by_turn, with_held, begins, begun, starts_with, starts_under, starts_at, starts_call, progressed, asks_under, returns, requests}
use Rattle.client_rules.specs.Grants.{covers, held_of}
use Rattle.client_rules.specs.History.{Input, step}
use Rattle.client_rules.specs.Commands.{of_component}
use Rattle.client_rules.specs.Io.{awaited_in}
use Rattle.client_rules.specs.Layouts.{taken}
use Rattle.client_rules.specs.Messages.{finished, on_call, on_phase, on_need, answered_get, commit_under, obeys, no_match}
use Rattle.client_rules.specs.Replies.{answers, replied, timed_out}
use Rattle.client_rules.specs.Requests.{get_args, return_args, report_of, args_of}
use Rattle.client_rules.specs.Results.{status_of}
use Rattle.client_rules.specs.Steps.{all_due}
use Rattle.client_rules.specs.Turns.{turned}
use Rattle.client_rules.proofs.HeldGrants.{held_file, put_at}
use Rattle.client_rules.proofs.ReadSteps.{Refuses, refused_with_refuses}
use Rattle.world_history.specs.ClientNames.{Client, Call, CallOp, Held, Due, Awaited, TimedOut, Request, Need, First, Get, Commit, Report, Close, Phase, Starts, Needs, Waits, Reads, Probes, Gathers, Scatters, Turn, Goes, Ends, Forgets, Moved, Done, Why, Status}
use Rattle.history_law.specs.Turns.{with_start, TurnCases}
use Rattle.history_law.proofs.Turns.{each_turn, each_progress}
use Rattle.cause_law.specs.Met.{last_busy, first_refusal, first_beyond, timed_in}
use Rattle.cause_law.proofs.Working.{GoodPhase, GoodTurn, begins_good}
use Rattle.exchange_law.specs.Calls.{Knows, PhaseFine, CallFine}
use Rattle.exchange_law.proofs.HeldMoving.{IsWorking, replied_fine, timed_fine}
use Rattle.relation_law.specs.Requests.{Works}
use Rattle.relation_law.proofs.RequestsMoves.{WorksTurn, ends, forgets, turn_of, accounted_works, replied_works, timed_out_works}

-- a phase in which no report is to be sent, and none waits for its answer
abbrev IsApart : Phase → Type 0
IsApart p = ((timed : List TimedOut) → p ≡ Waits (Report timed) → ⊥) × ((timed : List TimedOut) → p ≡ Needs (Report timed) → ⊥)

-- a call that begins has no report to send
begins_apart : (h : Held) (op : CallOp) (p : Phase) → GoodPhase h op p [] → IsApart p
unfolding timed_in
begins_apart h op (Needs (Report [])) w = absurd w
begins_apart h op (Needs (Report (t ∷ ts))) w = absurd (cc w.works.silent)
begins_apart h op (Waits n) w = absurd w
begins_apart h op p w = (λ timed e. cc e, λ timed e. cc e)

abbrev call_at : CallOp → Phase → Option Call
call_at op p = Some (record { op = op; phase = p })

same_phase : (op op2 : CallOp) (p q : Phase) → call_at op p ≡ call_at op2 q → p ≡ q
same_phase op op2 p q e =
    ap (λ (y : Call). y.phase) (same_Some (record { op = op; phase = p }) (record { op = op2; phase = q }) e)

same_op : (op op2 : CallOp) (p q : Phase) → call_at op p ≡ call_at op2 q → op ≡ op2
same_op op op2 p q e =
    ap (λ (y : Call). y.op) (same_Some (record { op = op; phase = p }) (record { op = op2; phase = q }) e)

args_by : (q r : Request) → Some q ≡ Some r → r.args ≡ q.args
args_by q r e = ap (λ (z : Request). z.args) (sym (same_Some q r e))

waited : (n m : Need) → Waits n ≡ Waits m → n ≡ m
waited n m e = cc e

waits_no_need : (n m : Need) → Waits n ≡ Needs m → ⊥
waits_no_need n m e = cc e

-- a phase that awaits replies
module _ (K : Knows) (out : Option Request) where
  working : (p : Phase) (a : Awaited) → (o : Option Awaited) → o ≡ Some a → (awaited_in p ≡ [] → o ≡ None) → IsWorking K out p
  working Starts a o e none = absurd (cc (sym e ∙ none refl))
  working (Needs n) a o e none = absurd (cc (sym e ∙ none refl))
  working (Waits n) a o e none = absurd (cc (sym e ∙ none refl))
  working (Reads io) a o e none = tt
  working (Probes io) a o e none = tt
  working (Gathers io) a o e none = tt
  working (Scatters io queue) a o e none = tt

  timing : (p : Phase) (j : ℕ) (a : Awaited) (xs : List Awaited) → of_component j (awaited_in p) ≡ a ∷ xs → IsWorking K out p
  unfolding of_component
  timing Starts j a xs e = absurd (cc e)
  timing (Needs n) j a xs e = absurd (cc e)
  timing (Waits n) j a xs e = absurd (cc e)
  timing (Reads io) j a xs e = tt
  timing (Probes io) j a xs e = tt
  timing (Gathers io) j a xs e = tt
  timing (Scatters io queue) j a xs e = tt

  works_on : (p : Phase) → IsWorking K out p → Works p
  works_on Starts w = refl
  works_on (Needs n) w = refl
  works_on (Waits n) w = absurd w
  works_on (Reads io) w = refl
  works_on (Probes io) w = refl
  works_on (Gathers io) w = refl
  works_on (Scatters io queue) w = refl

module _ (x : Client) where
  -- a grant that was held before the step, whatever was sent under it since
  pub record IsFrom (file : ℕ) (hh : Held) : Type 0 where
    pub held : Held
    pub was : held_of x.held file ≡ Some held
    pub number : hh.number ≡ held.number
    pub components : hh.components ≡ held.components

  -- how a call's report was asked
  pub data Asked (op : CallOp) (timed : List TimedOut) (r : Request) : Type 0 where
    Before : x.call ≡ Some (record { op = op; phase = Waits (Report timed) }) → x.outstanding ≡ Some r → Asked op timed r
    Now : (hh : Held) → IsFrom (file_of op) hh → r.args ≡ return_args hh.number (report_of hh timed) → Asked op timed r
    NoReturn : r.args ≡ get_args op → Asked op timed r

  abbrev pub Reporting : Client → Type 0
  Reporting y =
      (op : CallOp) (timed : List TimedOut) (r : Request) → y.call ≡ Some (record { op = op; phase = Waits (Report timed) }) →
      y.outstanding ≡ Some r → Asked op timed r

  abbrev Needing : Client → Type 0
  Needing y =
      (op : CallOp) (timed : List TimedOut) → y.call ≡ Some (record { op = op; phase = Needs (Report timed) }) → (hh : Held) →
      held_of y.held (file_of op) ≡ Some hh → IsFrom (file_of op) hh

  record Fine (d : Done) : Type 0 where
    waits : Reporting d.client
    needs : Needing d.client

  -- ---- simple cases

  as_before : (d : Done) → d.client.call ≡ x.call → d.client.outstanding ≡ x.outstanding → d.client.held ≡ x.held → Fine d
  as_before d call out held = record {
    waits = λ op timed r c o. Before (sym call ∙ c) (sym out ∙ o);
    needs = λ op timed c hh h. record {
      held = hh;
      was = ap (λ (hs : List Held). held_of hs (file_of op)) (sym held) ∙ h;
      number = refl;
      components = refl;
    };
  }

  none : (d : Done) → d.client.call ≡ None → Fine d
  none d is = record {
    waits = λ op timed r c o. absurd (cc (sym is ∙ c));
    needs = λ op timed c hh h. absurd (cc (sym is ∙ c));
  }

  at : (d : Done) (op : CallOp) (p : Phase) → d.client.call ≡ Some (record { op = op; phase = p }) → IsApart p → Fine d
  at d op p is apart = record {
    waits = λ op2 timed r c o. absurd (apart.0 timed (same_phase op op2 p (Waits (Report timed)) (sym is ∙ c)));
    needs = λ op2 timed c hh h. absurd (apart.1 timed (same_phase op op2 p (Needs (Report timed)) (sym is ∙ c)));
  }

  -- ---- dealings with the drives, under a grant that was held before

  module _ (d : Done) (base : d.client.held ≡ x.held) (op : CallOp) (h : Held) (held : held_of x.held (file_of op) ≡ Some h)
      (m : Moved) (file : m.held.file ≡ h.file) (number : m.held.number ≡ h.number)
      (components : m.held.components ≡ h.components) where
    here : m.held.file ≡ file_of op
    here = file ∙ held_file x.held (file_of op) h held

    from_ : IsFrom (file_of op) m.held
    from_ = record { held = h; was = held; number = number; components = components }

    by_ : (t : Turn) → WorksTurn t → Fine (by_turn (record (with_held d m.held) { commands = m.sent }) op t)
    unfolding WorksTurn
    by_ (Goes p) w = record {
      waits = λ op2 timed r c o.
          absurd (true≢false (subst Works (same_phase op op2 p (Waits (Report timed)) c) w));
      needs = λ op2 timed c hh h2.
          let same : op ≡ op2 = same_op op op2 p (Needs (Report timed)) c in
          let put : held_of (with_held d m.held).client.held (file_of op) ≡ Some m.held =
          put_at d.client.held m.held (file_of op) here in
          let it : m.held ≡ hh =
          cc (sym put ∙ ap (λ (o : CallOp). held_of (with_held d m.held).client.held (file_of o)) same ∙ h2) in
          subst (λ (o : CallOp). IsFrom (file_of o) hh) same (subst (IsFrom (file_of op)) it from_);
    }
    by_ (Ends o) w = none (by_turn (record (with_held d m.held) { commands = m.sent }) op (Ends o)) refl
    by_ (Forgets o) w = none (by_turn (record (with_held d m.held) { commands = m.sent }) op (Forgets o)) refl

    moves : WorksTurn m.turn → Fine (moved d op m)
    moves w = by_ m.turn w

  -- ---- a call begins

  begins_fine : (d : Done) (op : CallOp) (h : Held) → Fine (moved d op (begins h op))
  unfolding last_busy first_refusal first_beyond timed_in GoodTurn
  begins_fine d op h =
      by (begins h op).turn
      (begins_good h op [] (record { busy = refl; refusal = refl; beyond = refl; silent = refl }) refl tt).turn
    where
      by : (t : Turn) → GoodTurn h (begins h op).held op t []
          → Fine (by_turn (record (with_held d (begins h op).held) { commands = (begins h op).sent }) op t)
      by (Goes p) w = at _ op p refl (begins_apart (begins h op).held op p w)
      by (Ends o) w = none _ refl
      by (Forgets o) w = none _ refl

  module _ (d : Done) (k : Fine d) where
    with_need : (op : CallOp) (n : Need) → IsApart (Needs n) → (o : Option Request) → Fine (starts_with d op n o)
    with_need op n apart None = at (phased d op (Needs n)) op (Needs n) refl apart
    with_need op n apart (Some q) = k

    covering : (op : CallOp) (h : Held) (b : Bool)
        → Fine (if b then moved d op (begins h op) else starts_with d op First d.client.outstanding)
    covering op h true = begins_fine d op h
    covering op h false = with_need op First (λ timed e. cc e, λ timed e. cc e) d.client.outstanding

    under : (op : CallOp) (o : Option Held) → Fine (starts_under d op o)
    under op None = with_need op (Get 0) (λ timed e. cc e, λ timed e. cc e) d.client.outstanding
    under op (Some h) = covering op h (covers h op)

    at_phase : (op : CallOp) (p : Phase) → Fine (starts_at d op p)
    at_phase op Starts = under op (held_of d.client.held (file_of op))
    at_phase op (Needs n) = k
    at_phase op (Waits n) = k
    at_phase op (Reads io) = k
    at_phase op (Probes io) = k
    at_phase op (Gathers io) = k
    at_phase op (Scatters io queue) = k

    at_call : (o : Option Call) → Fine (starts_call d o)
    at_call None = k
    at_call (Some call) = at_phase call.op call.phase

    begun_fine : Fine (begun d)
    unfolding begun
    begun_fine = at_call d.client.call

  -- ---- requests

  module _ (d : Done) (k : Fine d) where
    asks : (op : CallOp) (n : Need) (o : Option Held) → d.client.call ≡ Some (record { op = op; phase = Needs n })
        → held_of d.client.held (file_of op) ≡ o → Fine (asks_under d op n o)
    unfolding requests args_of
    asks op n None is held = record {
      waits = λ op2 timed r c o.
          let same : op ≡ op2 = same_op op op2 (Waits n) (Waits (Report timed)) c in
          let asked : r.args ≡ get_args op = args_by _ r o in
          NoReturn (asked ∙ ap get_args same);
      needs = λ op2 timed c hh h. absurd (waits_no_need n (Report timed) (same_phase op op2 (Waits n) (Needs (Report timed)) c));
    }
    asks op n (Some h) is held = record {
      waits = λ op2 timed r c o.
          let same : op ≡ op2 = same_op op op2 (Waits n) (Waits (Report timed)) c in
          let need : n ≡ Report timed = waited n (Report timed) (same_phase op op2 (Waits n) (Waits (Report timed)) c) in
          let asked : r.args ≡ args_of h op n = args_by _ r o in
          let from : IsFrom (file_of op) h =
          k.needs op timed (is ∙ ap (λ (y : Need). Some (record { op = op; phase = Needs y })) need) h held in
          Now h (subst (λ (y : CallOp). IsFrom (file_of y) h) same from) (asked ∙ ap (λ (y : Need). args_of h op y) need);
      needs = λ op2 timed c hh h2. absurd (waits_no_need n (Report timed) (same_phase op op2 (Waits n) (Needs (Report timed)) c));
    }

    gives_back : (u : Option Due) → d.client.call ≡ None → Fine (returns d u)
    unfolding requests
    gives_back None is = none (returns d None) is
    gives_back (Some u) is = none (returns d (Some u)) is

    progressed_fine : Fine (progressed d)
    progressed_fine = each_progress d Fine (record {
      waits = λ r out. k;
      works = λ call is out. k;
      spent = λ no_ out z. k;
      asks = λ op n h is out held. asks op n h is held;
      gives_back = λ u no_ out left is. gives_back u no_;
    })

  finished_fine : (d : Done) → Fine d → Reporting (finished d).client
  unfolding finished
  finished_fine d k = (progressed_fine (begun d) (begun_fine d k)).waits

  -- ---- answers

  module _ (a : Answer) where
    abbrev freed : Done
    freed = quiet (record x { outstanding = None })

    freed_fine : Fine freed
    freed_fine = record {
      waits = λ op timed r c o. absurd (cc o);
      needs = λ op timed c hh h. record { held = hh; was = h; number = refl; components = refl };
    }

    given : (op : CallOp) (r : Result Held Why) → Fine (answered_get freed op r)
    given op (Err w) = none (answered_get freed op (Err w)) refl
    given op (Ok h) = at (answered_get freed op (Ok h)) op Starts refl (λ timed e. cc e, λ timed e. cc e)

    again : (op : CallOp) (t : Turn) → Refuses t → Fine (by_turn freed op t)
    again op (Goes (Needs (Get tries))) r =
        at (phased freed op (Needs (Get tries))) op (Needs (Get tries)) refl (λ timed e. cc e, λ timed e. cc e)
    again op (Ends o) r = none (by_turn freed op (Ends o)) refl
    again op t r = absurd r

    got : (op : CallOp) (tries : ℕ) (b : Bool)
        → Fine (if b then answered_get freed op (taken a op) else by_turn freed op (not_granted a tries))
    unfolding not_granted
    got op tries true = given op (taken a op)
    got op tries false =
        again op (refused_with (status_of a.results) a.detail tries) (refused_with_refuses (status_of a.results) a.detail tries)

    not_ok : WorksTurn (not_committed (status_of a.results) a.detail)
    unfolding not_committed
    not_ok = by (status_of a.results == NFS4ERR_BADLAYOUT)
      where
        by : (b : Bool) → WorksTurn (if b then Forgets (Status (status_of a.results) a.detail)
            else Ends (Status (status_of a.results) a.detail))
        by true = forgets _
        by false = ends _

    commit : (op : CallOp) (timed : List TimedOut) (o : Option Held) → held_of x.held (file_of op) ≡ o
        → Fine (commit_under freed op a (Commit timed) o)
    unfolding on_commit
    commit op timed None held = freed_fine
    commit op timed (Some h) held = by (status_of a.results == NFS4_OK)
      where
        by : (b : Bool) → Fine (moved freed op (if b then committed h op a timed
            else turned h (not_committed (status_of a.results) a.detail)))
        by true = moves freed refl op h held (committed h op a timed) refl refl refl (accounted_works op timed)
        by false = moves freed refl op h held (turned h (not_committed (status_of a.results) a.detail)) refl refl refl not_ok

    by_need : (op : CallOp) (n : Need) → Fine (on_need freed op n a)
    by_need op First = at (phased freed op Starts) op Starts refl (λ timed e. cc e, λ timed e. cc e)
    by_need op (Get tries) = got op tries (status_of a.results == NFS4_OK)
    by_need op (Commit timed) = commit op timed (held_of x.held (file_of op)) refl
    by_need op (Report timed) = none (on_need freed op (Report timed) a) refl
    by_need op (Close u report) = none (on_need freed op (Close u report) a) refl

    by_phase : (op : CallOp) (p : Phase) → Fine (on_phase freed op p a)
    by_phase op (Waits n) = by_need op n
    by_phase op Starts = freed_fine
    by_phase op (Needs n) = freed_fine
    by_phase op (Reads io) = freed_fine
    by_phase op (Probes io) = freed_fine
    by_phase op (Gathers io) = freed_fine
    by_phase op (Scatters io queue) = freed_fine

    answered_fine : (o : Option Call) → Fine (on_call freed o a)
    answered_fine None = freed_fine
    answered_fine (Some call) = by_phase call.op call.phase

  -- ---- each step

  module _ (K : Knows) (fine : CallFine K x.held x.outstanding x.call) where
    phase_fine : (call : Call) (h : Held) → x.call ≡ Some call → held_of x.held (file_of call.op) ≡ Some h
        → PhaseFine K (Some h) x.outstanding call.op call.phase
    phase_fine call h is held =
        subst (λ (o : Option Held). PhaseFine K o x.outstanding call.op call.phase) held
        (subst (CallFine K x.held x.outstanding) is fine).1

    cases : (i : Input) → TurnCases x i (λ t. Reporting t.client)
    cases i = record {
      rests = λ op timed r c o. Before c o;
      nothing = λ op is empty. λ op2 timed r c o. Before c o;
      called = λ op is no_ can.
          finished_fine (quiet (with_start x op))
          (at (quiet (with_start x op)) op Starts refl (λ timed e. cc e, λ timed e. cc e));
      answered = λ a q. finished_fine (on_call (quiet (record x { outstanding = None })) x.call a) (answered_fine a x.call);
      replied = λ drive q call h a r.
          let w : IsWorking K x.outstanding call.phase =
          working K x.outstanding call.phase a (find (answers drive q) (awaited_in call.phase)) r.awaits
          (λ e. ap (find (answers drive q)) e) in
          let f = replied_fine K x.outstanding h call.op call.phase a q w (phase_fine call h r.call_is r.held) in
          let m : Moved = replied h call.op call.phase a q in
          finished_fine (moved (quiet x) call.op m)
          (moves (quiet x) refl call.op h r.held m f.same.file f.same.number f.same.components
          (turn_of m (replied_works h call.op call.phase a q (works_on K x.outstanding call.phase w))));
      unheld = finished_fine (quiet x) (as_before (quiet x) refl refl refl);
      recalled = λ q is. finished_fine (obeys x q) (as_before (obeys x q) refl refl refl);
      unmatched = λ q is. finished_fine (no_match x q) (as_before (no_match x q) refl refl refl);
      timed = λ j call h a xs r.
          let w : IsWorking K x.outstanding call.phase = timing K x.outstanding call.phase j a xs r.awaits in
          let f = timed_fine K x.outstanding h call.op call.phase j a xs w (phase_fine call h r.call_is r.held) in
          let m : Moved = timed_out h call.op call.phase j a xs in
          finished_fine (moved (quiet x) call.op m)
          (moves (quiet x) refl call.op h r.held m f.same.file f.same.number f.same.components
          (turn_of m (timed_out_works h call.op call.phase j a xs (works_on K x.outstanding call.phase w))));
      leaves = λ is.
          finished_fine (quiet (record x { due = all_due x.due x.held }))
          (as_before (quiet (record x { due = all_due x.due x.held })) refl refl refl);
      resends = λ is. λ op timed r c o. Before c o;
    }

    pub reports_asked : (i : Input) → Reporting (step x i).client
    reports_asked i = each_turn x i (λ t. Reporting t.client) (cases i)
