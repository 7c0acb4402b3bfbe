-- A client in the middle of its turn, tied to the entries of a file: behind that its call may begin, and a request may go out.
-- Towards `CutsShowEntries` (`specs/Parts.antt`).
use Rattle.std.proofs.Common.{◌≡◌, ◌⊎◌, ◌==◌, ℕ, Bool, true, false, List, [], find, Option, Some, None, refl, sym, ap, subst, ◌∙◌, inl, inr, if◌then◌else◌}
use Rattle.client_rules.specs.Calls.{file_of, is_write}
use Rattle.client_rules.specs.Going.{begins, begun, by_turn, moved, with_held, starts_with, starts_under, starts_at, starts_call, asks_under, requests, returns, returns_due, is_held, progress_phase, progress_call, progress_free, progressed}
use Rattle.client_rules.specs.Grants.{held_of, covers}
use Rattle.client_rules.specs.Messages.{finished}
use Rattle.server_rules.specs.Laws.{In}
use Rattle.world_history.specs.ClientNames.{Client, Call, CallOp, Held, Due, Awaited, Request, Done, Need, First, Get, Phase, Starts, Needs, Waits, Reads, Probes, Gathers, Scatters, Outcome, Turn, Goes, Ends, Forgets}
use Rattle.fence_law.specs.State.{State, Grant}
use Rattle.headline_law.proofs.EntriesSends.{CommandIs}
use Rattle.fence_law.specs.State.Call.{Idle}
use Rattle.file_simulation.specs.Showing.{Pairs}
use Rattle.relation_law.specs.CallsTurns.{IsWorking, WritesSome, ReadsWait}
use Rattle.file_simulation.specs.Tied.{PhaseTied}
use Rattle.headline_law.proofs.EntriesBegun.{begins_to}
use Rattle.headline_law.proofs.EntriesCalls.{CallAs}
use Rattle.headline_law.proofs.EntriesEnds.{OutcomeTied}
use Rattle.headline_law.proofs.EntriesMoved.{TurnTo}
use Rattle.headline_law.proofs.EntriesTurns.{TurnTied}

module _ (file c : ℕ) (t : State) (pairs : Pairs) (o : Option ℕ) (op : Option CallOp) where
  -- a call is tied by its phase, and sends nothing; or it sends commands from where the machine's client is
  abbrev pub CallGoes : Call → List Awaited → Type 0
  CallGoes call commands =
      ((commands ≡ []) × PhaseTied t c pairs o call.phase)
      ⊎ (CallAs pairs (is_write call.op) o (t.call c) × IsWorking call.phase)

  -- a client in the middle of its turn, before a request goes out
  pub record DoneTied (d : Done) : Type 0 where
    pub ended : (u : Outcome) (p : CallOp) → d.outcome ≡ Some u → op ≡ Some p → (file_of p == file) ≡ true →
        OutcomeTied t c p pairs o u
    pub over : (u : Outcome) → d.outcome ≡ Some u → d.client.call ≡ None
    pub about : (u : Outcome) → d.outcome ≡ Some u → (p : CallOp) × (op ≡ Some p)
    pub unasked : d.requests ≡ []
    pub goes : (call : Call) → d.client.call ≡ Some call → (file_of call.op == file) ≡ true → CallGoes call d.commands

  -- before its call may begin
  pub record MayBegin (d : Done) : Type 0 where
    pub tied : DoneTied d
    pub call_op : (call : Call) → d.client.call ≡ Some call → op ≡ Some call.op
    pub idle : (call : Call) → d.client.call ≡ Some call → (file_of call.op == file) ≡ true → call.phase ≡ Starts →
        (t.call c ≡ Idle) × (o ≡ None)
    pub quiet : (call : Call) → d.client.call ≡ Some call → call.phase ≡ Starts → d.outcome ≡ None
    pub begins : (call_op : CallOp) (h : Held) → d.client.call ≡ Some (record { op = call_op; phase = Starts }) →
        held_of d.client.held (file_of call_op) ≡ Some h → covers h call_op ≡ true →
        (is_write call_op ≡ true → WritesSome h call_op []) × ReadsWait h call_op

  -- ---- what became of a call

  -- by what its dealings with the drives did
  pub turn_done : (d : Done) (call_op : CallOp) (turn : Turn) → op ≡ Some call_op → d.outcome ≡ None → d.requests ≡ [] →
      ((file_of call_op == file) ≡ true → TurnTo t c call_op pairs o d.commands turn) → DoneTied (by_turn d call_op turn)
  turn_done d call_op (Goes p) is none quiet z = record {
    ended = λ u q e f here. absurd (cc (sym none ∙ e));
    over = λ u e. absurd (cc (sym none ∙ e));
    about = λ u e. absurd (cc (sym none ∙ e));
    unasked = quiet;
    goes = λ call e here.
        let one : record { op = call_op; phase = p } ≡ call = cc e in
        subst (λ (y : Call). CallGoes y d.commands) one
        (goes_as (z (ap (λ (y : Call). file_of y.op == file) one ∙ here)));
  }
    where
      goes_as : TurnTo t c call_op pairs o d.commands (Goes p) → CallGoes (record { op = call_op; phase = p }) d.commands
      goes_as (inl y) = inl (y.0, y.1)
      goes_as (inr y) = inr y
  turn_done d call_op (Ends u) is none quiet z = record {
    ended = λ v q e f here.
        let one : u ≡ v = cc e in
        let two : call_op ≡ q = cc (sym is ∙ f) in
        subst (λ (y : Outcome). OutcomeTied t c q pairs o y) one
        (subst (λ (y : CallOp). OutcomeTied t c y pairs o u) two
        (z (ap (λ (y : CallOp). file_of y == file) two ∙ here)));
    over = λ v e. refl;
    about = λ v e. (call_op, is);
    unasked = quiet;
    goes = λ call e here. absurd (cc e);
  }
  turn_done d call_op (Forgets u) is none quiet z = record {
    ended = λ v q e f here.
        let one : u ≡ v = cc e in
        let two : call_op ≡ q = cc (sym is ∙ f) in
        subst (λ (y : Outcome). OutcomeTied t c q pairs o y) one
        (subst (λ (y : CallOp). OutcomeTied t c y pairs o u) two
        (z (ap (λ (y : CallOp). file_of y == file) two ∙ here)));
    over = λ v e. refl;
    about = λ v e. (call_op, is);
    unasked = quiet;
    goes = λ call e here. absurd (cc e);
  }

  -- ---- the call begins

  -- it needs the server first
  needs_done : (d : Done) (call_op : CallOp) (n : Need) → op ≡ Some call_op → d.outcome ≡ None → DoneTied d →
      d.client.call ≡ Some (record { op = call_op; phase = Starts }) →
      ((file_of call_op == file) ≡ true → (d.commands ≡ []) × PhaseTied t c pairs o (Needs n)) → (r : Option Request) →
      DoneTied (starts_with d call_op n r)
  needs_done d call_op n is none k there z (Some r) = k
  needs_done d call_op n is none k there z None = record {
    ended = k.ended;
    over = λ u e. absurd (cc (sym none ∙ e));
    about = k.about;
    unasked = k.unasked;
    goes = λ call e here.
        let one : record { op = call_op; phase = Needs n } ≡ call = cc e in
        subst (λ (y : Call). CallGoes y d.commands) one (inl (z (ap (λ (y : Call). file_of y.op == file) one ∙ here)));
  }

  module _ (d : Done) (k : MayBegin d) where
    -- a call that hasn't begun has sent nothing
    starting : (call_op : CallOp) → d.client.call ≡ Some (record { op = call_op; phase = Starts }) →
        (file_of call_op == file) ≡ true → d.commands ≡ []
    starting call_op is here = by (k.tied.goes (record { op = call_op; phase = Starts }) is here)
      where
        by : CallGoes (record { op = call_op; phase = Starts }) d.commands → d.commands ≡ []
        by (inl z) = z.0
        by (inr z) = absurd z.1

    starts_so : (call_op : CallOp) → d.client.call ≡ Some (record { op = call_op; phase = Starts }) → (h : Option Held) →
        held_of d.client.held (file_of call_op) ≡ h → DoneTied (starts_under d call_op h)
    starts_so call_op is None held =
        needs_done d call_op (Get 0) (k.call_op _ is) (k.quiet _ is refl) k.tied is
        (λ here. (starting call_op is here, (k.idle _ is here refl).1)) d.client.outstanding
    starts_so call_op is (Some h) held = by (covers h call_op) refl
      where
        by : (b : Bool) → covers h call_op ≡ b → DoneTied
            (if b then moved d call_op (begins h call_op) else starts_with d call_op First d.client.outstanding)
        by true cover =
            let z = k.begins call_op h is held cover in
            turn_done (record (with_held d (begins h call_op).held) { commands = (begins h call_op).sent }) call_op
            (begins h call_op).turn (k.call_op _ is) (k.quiet _ is refl) k.tied.unasked
            (λ here. begins_to t c h call_op pairs o (k.idle _ is here refl).0 (k.idle _ is here refl).1 z.0 z.1)
        by false cover =
            needs_done d call_op First (k.call_op _ is) (k.quiet _ is refl) k.tied is
            (λ here. (starting call_op is here, (k.idle _ is here refl).1)) d.client.outstanding

    begun_by : (call : Option Call) → d.client.call ≡ call → DoneTied (starts_call d call)
    begun_by None is = k.tied
    begun_by (Some call) is = at_ call.phase refl
      where
        at_ : (p : Phase) → call.phase ≡ p → DoneTied (starts_at d call.op p)
        at_ Starts e =
            starts_so call.op (is ∙ ap (λ (p : Phase). Some (record { op = call.op; phase = p })) e)
            (held_of d.client.held (file_of call.op)) refl
        at_ (Needs n) e = k.tied
        at_ (Waits n) e = k.tied
        at_ (Reads io) e = k.tied
        at_ (Probes io) e = k.tied
        at_ (Gathers io) e = k.tied
        at_ (Scatters io queue) e = k.tied

    begun_tied : DoneTied (begun d)
    unfolding begun
    begun_tied = begun_by d.client.call refl

  -- ---- a request goes out

  -- behind it the turn is over
  abbrev EndsSo : Done → Type 0
  EndsSo d =
      DoneTied (record d { requests = [] })
      × ((call : Call) → d.client.call ≡ Some call → (file_of call.op == file) ≡ true → IsWorking call.phase → d.requests ≡ [])

  -- with the same call and commands
  same_done : (d e : Done) → e.outcome ≡ d.outcome → e.client.call ≡ d.client.call → e.commands ≡ d.commands → DoneTied d →
      DoneTied (record e { requests = [] })
  same_done d e outcome call commands k = record {
    ended = λ u p q f here. k.ended u p (sym outcome ∙ q) f here;
    over = λ u q. call ∙ k.over u (sym outcome ∙ q);
    about = λ u q. k.about u (sym outcome ∙ q);
    unasked = refl;
    goes = λ y q here.
        subst (λ (cs : List Awaited). CallGoes y cs) (sym commands) (k.goes y (sym call ∙ q) here);
  }

  ends_as_it_is : (d : Done) → DoneTied d → EndsSo d
  ends_as_it_is d k = (same_done d d refl refl refl k, λ call is here works. k.unasked)

  -- a call that needs the server waits for it
  asks_tied : (d : Done) (call_op : CallOp) (n : Need) → d.client.call ≡ Some (record { op = call_op; phase = Needs n }) →
      DoneTied d → (h : Option Held) → EndsSo (asks_under d call_op n h)
  unfolding requests
  asks_tied d call_op n is k h = by h
    where
      waiting : (call : Call) → Some (record { op = call_op; phase = Waits n }) ≡ Some call →
          (file_of call.op == file) ≡ true → CallGoes call d.commands
      waiting call e here =
          let one : record { op = call_op; phase = Waits n } ≡ call = cc e in
          subst (λ (y : Call). CallGoes y d.commands) one
          (by_goes (k.goes (record { op = call_op; phase = Needs n }) is
          (ap (λ (y : Call). file_of y.op == file) one ∙ here)))
        where
          by_goes : CallGoes (record { op = call_op; phase = Needs n }) d.commands →
              CallGoes (record { op = call_op; phase = Waits n }) d.commands
          by_goes (inl z) = inl z
          by_goes (inr z) = absurd z.1

      none_works : (call : Call) → Some (record { op = call_op; phase = Waits n }) ≡ Some call → IsWorking call.phase → ⊥
      none_works call e works =
          let one : record { op = call_op; phase = Waits n } ≡ call = cc e in
          subst (λ (y : Call). IsWorking y.phase) (sym one) works

      over_none : (u : Outcome) → d.outcome ≡ Some u → ⊥
      over_none u e = cc (sym (k.over u e) ∙ is)

      by : (h : Option Held) → EndsSo (asks_under d call_op n h)
      by None = (
        record {
          ended = k.ended;
          over = λ u e. absurd (over_none u e);
          about = k.about;
          unasked = refl;
          goes = waiting;
        },
        λ call e here works. absurd (none_works call e works),
      )
      by (Some g) = (
        record {
          ended = k.ended;
          over = λ u e. absurd (over_none u e);
          about = k.about;
          unasked = refl;
          goes = waiting;
        },
        λ call e here works. absurd (none_works call e works),
      )

  returns_tied : (d : Done) → d.client.call ≡ None → DoneTied d → (u : Option Due) → EndsSo (returns d u)
  unfolding requests
  returns_tied d none k None =
      (same_done d (returns d None) refl refl refl k, λ call is here works. absurd (cc (sym none ∙ is)))
  returns_tied d none k (Some u) =
      (same_done d (returns d (Some u)) refl refl refl k, λ call is here works. absurd (cc (sym none ∙ is)))

  due_tied : (d : Done) → d.client.call ≡ None → DoneTied d → EndsSo (returns_due d)
  unfolding returns_due
  due_tied d none k = by (d.client.next == 0)
    where
      by : (b : Bool) → EndsSo (if b then d else returns d (find (is_held d.client.held) d.client.due))
      by true = ends_as_it_is d k
      by false = returns_tied d none k (find (is_held d.client.held) d.client.due)

  phase_tied : (d : Done) (call : Call) → d.client.call ≡ Some call → DoneTied d → (p : Phase) → call.phase ≡ p →
      EndsSo (progress_phase d call.op p)
  phase_tied d call is k (Needs n) e =
      asks_tied d call.op n (is ∙ ap (λ (p : Phase). Some (record { op = call.op; phase = p })) e) k
      (held_of d.client.held (file_of call.op))
  phase_tied d call is k Starts e = ends_as_it_is d k
  phase_tied d call is k (Waits n) e = ends_as_it_is d k
  phase_tied d call is k (Reads io) e = ends_as_it_is d k
  phase_tied d call is k (Probes io) e = ends_as_it_is d k
  phase_tied d call is k (Gathers io) e = ends_as_it_is d k
  phase_tied d call is k (Scatters io queue) e = ends_as_it_is d k

  call_tied : (d : Done) → DoneTied d → (call : Option Call) → d.client.call ≡ call → EndsSo (progress_call d call)
  call_tied d k None is = due_tied d is k
  call_tied d k (Some call) is = phase_tied d call is k call.phase refl

  progressed_tied : (d : Done) → DoneTied d → EndsSo (progressed d)
  unfolding progressed
  progressed_tied d k = by d.client.outstanding
    where
      by : (r : Option Request) → EndsSo (progress_free d r)
      by None = call_tied d k d.client.call refl
      by (Some r) = ends_as_it_is d k

  -- the commands of a call go out under the grant that the machine's client holds
  pub record HoldsFor (x : Client) (call : Call) (commands : List Awaited) : Type 0 where
    pub held : Held
    pub holds : held_of x.held file ≡ Some held
    pub grant : Grant
    pub has : t.held c ≡ Some grant
    pub each : (a : Awaited) → In a commands → CommandIs grant (is_write call.op) a.command

  -- So a turn is tied.
  pub finish_tied : (d : Done) → MayBegin d →
      ((call : Call) → (finished d).client.call ≡ Some call → (file_of call.op == file) ≡ true → IsWorking call.phase →
      HoldsFor (finished d).client call (progressed (begun d)).commands) →
      TurnTied file c t pairs o op (finished d)
  unfolding finished
  finish_tied d k commands =
      let r = progressed_tied (begun d) (begun_tied d k) in
      record {
        ended = r.0.ended;
        recalls = (progressed (begun d)).recalls;
        requests = (progressed (begun d)).requests;
        commands = (progressed (begun d)).commands;
        sends = refl;
        over = r.0.over;
        about = r.0.about;
        goes = λ call is here. elim (r.0.goes call is here) [
          | inl z ↦ inl (z.0, z.1, r.1 call is here)
          | inr z ↦
              let u = commands call is here z.1 in
              inr (record {
                alone = r.1 call is here z.1;
                works = z.1;
                at_ = z.0;
                held = u.held;
                holds = u.holds;
                grant = u.grant;
                has = u.has;
                each = u.each;
              })
        ];
      }
