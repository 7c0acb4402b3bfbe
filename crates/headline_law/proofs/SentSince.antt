-- Behind a turn a call that reads goes on from what it had, or has begun in the turn; and without a call nothing was sent.
-- Towards `SentGoesOn` and `ReadsFollow` (`relation_law/specs/Steps.antt`, `headline_law/specs/Parts.antt`).
use Rattle.std.proofs.Common.{◌≡◌, ◌⊎◌, ◌==◌, ℕ, List, [], Option, Some, None, Result, Ok, Err, refl, sym, ap, subst, ◌∙◌, inl, inr}
use Rattle.std.proofs.lemmas.Bool.{cases_Bool, eqb-true}
use Rattle.osd_commands.specs.declared.replies.Reply.{Reply}
use Rattle.layout_ops.specs.declared.messages.Answer.{Answer}
use Rattle.layout_ops.specs.declared.statuses.TheConstants.{NFS4_OK}
use Rattle.server_rules.specs.Laws.{In}
use Rattle.client_rules.specs.declared.limits.TheConstants.{PERFORMED}
use Rattle.client_rules.specs.Answers.{not_granted, on_commit, refused_with}
use Rattle.client_rules.proofs.ReadSteps.{Refuses, refused_with_refuses}
use Rattle.client_rules.specs.Calls.{file_of}
use Rattle.client_rules.specs.Going.{quiet, moved, with_held, by_turn, phased, begins, begun, progressed, requests, asks_under, returns}
use Rattle.client_rules.specs.Grants.{held_of}
use Rattle.client_rules.specs.History.{Input}
use Rattle.client_rules.specs.Io.{awaited_in, got_of}
use Rattle.client_rules.specs.Layouts.{taken}
use Rattle.client_rules.specs.Messages.{awaited_of, answered_get, on_get, commit_under, on_need, on_phase, on_call}
use Rattle.client_rules.specs.Replies.{replied, performed, timed_out}
use Rattle.client_rules.specs.Results.{status_of}
use Rattle.client_rules.specs.Turns.{turned}
use Rattle.world_history.specs.ClientNames.{Awaited, Call, CallOp, Client, Column, Done, Due, Held, Io, Moved, Need, First, Get, Commit, Report, Close, Outcome, Phase, Starts, Needs, Waits, Reads, Probes, Gathers, Scatters, TimedOut, Turn, Goes, Ends, Forgets, Why}
use Rattle.history_law.specs.Turns.{IsReplied, FinishCases}
use Rattle.history_law.proofs.Turns.{each_finish}
use Rattle.headline_law.proofs.SentMoved.{ReadsNow, PhaseFrom, TurnFrom, MovedFrom, WasGot, phase_of, performed_reads, performed_scatters, refused_from, timed_reads, timed_scatters, begins_from, committed_from}

-- what ends sends nothing
none_sent : (R B : Type 0) (P : Column → Type 0) (sent : List Awaited) (u : Outcome) → TurnFrom R B P sent (Ends u) → sent ≡ []
unfolding TurnFrom
none_sent R B P sent u e = e

none_left : (R B : Type 0) (P : Column → Type 0) (sent : List Awaited) (u : Outcome) → TurnFrom R B P sent (Forgets u) →
    sent ≡ []
unfolding TurnFrom
none_left R B P sent u e = e

-- of client x, to whom input i comes; `Quiet` is what is so of a call that goes on
module _ (x : Client) (i : Input) (Quiet : Call → Type 0) where
  -- a performed reply gave this
  pub record IsGiven (call : Call) (col : Column) : Type 0 where
    pub drive : ℕ
    pub reply : Reply
    pub held : Held
    pub awaited : Awaited
    pub is : IsReplied x i drive reply call held awaited
    pub performed : reply.verdict ≡ PERFORMED
    pub column : col ≡ got_of awaited reply

  abbrev pub GotSince : Call → Column → Type 0
  GotSince call col = WasGot call.phase col ⊎ IsGiven call col

  -- the call read before the turn
  pub record Continues (op : CallOp) (io : Io) : Type 0 where
    pub old : Call
    pub was : x.call ≡ Some old
    pub same : old.op ≡ op
    pub reads : ReadsNow old.phase
    pub quiet : Quiet old
    pub got : (col : Column) → In col io.got → GotSince old col

  -- or has begun in the turn, where nothing was awaited before it
  pub record IsNew (io : Io) : Type 0 where
    pub none : awaited_of x.call ≡ []
    pub got : (col : Column) → In col io.got → ⊥

  abbrev pub IoSince : CallOp → Io → Type 0
  IoSince op io = Continues op io ⊎ IsNew io

  abbrev pub PhaseSince : CallOp → Phase → Type 0
  PhaseSince op (Reads io) = IoSince op io
  PhaseSince op (Probes io) = IoSince op io
  PhaseSince op (Gathers io) = IoSince op io
  PhaseSince op Starts = awaited_of x.call ≡ []
  PhaseSince op p = Unit {0}

  pub record DoneSince (d : Done) : Type 0 where
    pub ended : d.client.call ≡ None → d.commands ≡ []
    pub since : (call : Call) → d.client.call ≡ Some call → PhaseSince call.op call.phase

  -- of a call in this phase
  pub at_phase : (d : Done) (op : CallOp) (p : Phase) → d.client.call ≡ Some (record { op = op; phase = p }) →
      PhaseSince op p → DoneSince d
  at_phase d op p is w = record {
    ended = λ none. absurd (cc (sym none ∙ is));
    since = λ call e.
        let both : Some (record { op = op; phase = p }) ≡ Some call = sym is ∙ e in
        let same : record { op = op; phase = p } ≡ call = cc both in
        subst (λ (y : Call). PhaseSince y.op y.phase) same w;
  }

  -- ---- what a call does with the drives

  moved_since : (R B : Type 0) (P : Column → Type 0) (d : Done) (op : CallOp) (m : Moved) → MovedFrom R B P m →
      ((p : Phase) → m.turn ≡ Goes p → PhaseFrom R B P p → PhaseSince op p) → DoneSince (moved d op m)
  moved_since R B P d op m from since = by m.turn refl from
    where
      by : (t : Turn) → m.turn ≡ t → TurnFrom R B P m.sent t →
          DoneSince (by_turn (record (with_held d m.held) { commands = m.sent }) op t)
      by (Goes p) e w =
          at_phase (by_turn (record (with_held d m.held) { commands = m.sent }) op (Goes p)) op p refl
          (since p e (phase_of R B P m.sent p w))
      by (Ends u) e w = record { ended = λ none. none_sent R B P m.sent u w; since = λ call is. absurd (cc is) }
      by (Forgets u) e w = record { ended = λ none. none_left R B P m.sent u w; since = λ call is. absurd (cc is) }

  -- that reads nothing
  unread : (op : CallOp) (p : Phase) → PhaseFrom ⊥ ⊥ (λ col. ⊥) p → PhaseSince op p
  unread op (Reads io) w = absurd w.0
  unread op (Probes io) w = absurd w.0
  unread op (Gathers io) w = absurd w.0
  unread op (Scatters io queue) w = tt
  unread op Starts w = absurd w
  unread op (Needs n) w = tt
  unread op (Waits n) w = tt

  unread_since : (d : Done) (op : CallOp) (m : Moved) → MovedFrom ⊥ ⊥ (λ col. ⊥) m → DoneSince (moved d op m)
  unread_since d op m w = moved_since ⊥ ⊥ (λ col. ⊥) d op m w (λ p e k. unread op p k)

  -- that begins
  new_io : (io : Io) → (awaited_of x.call ≡ []) × ((col : Column) → In col io.got → ⊥) → IsNew io
  new_io io w = record { none = w.0; got = w.1 }

  all_new : (op : CallOp) (p : Phase) → PhaseFrom (awaited_of x.call ≡ []) ⊥ (λ col. ⊥) p → PhaseSince op p
  all_new op (Reads io) w = inr (new_io io w)
  all_new op (Probes io) w = inr (new_io io w)
  all_new op (Gathers io) w = inr (new_io io w)
  all_new op (Scatters io queue) w = tt
  all_new op Starts w = absurd w
  all_new op (Needs n) w = tt
  all_new op (Waits n) w = tt

  -- that stays as it is
  same_since : (d : Done) (op : CallOp) (h : Held) (p : Phase) → PhaseSince op p → DoneSince (moved d op (turned h (Goes p)))
  same_since d op h p w = at_phase (moved d op (turned h (Goes p))) op p refl w

  -- that goes on
  module _ (op : CallOp) (before : Phase) (is : x.call ≡ Some (record { op = op; phase = before })) (reads_ : ReadsNow before)
      (P : Column → Type 0) (less : (col : Column) → P col → GotSince (record { op = op; phase = before }) col) where
    on_io : (io : Io) → Quiet (record { op = op; phase = before }) → ((col : Column) → In col io.got → P col) → Continues op io
    on_io io silent w = record {
      old = record { op = op; phase = before };
      was = is;
      same = refl;
      reads = reads_;
      quiet = silent;
      got = λ col there. less col (w col there);
    }

    goes_on : (p : Phase) → (ReadsNow p → Quiet (record { op = op; phase = before })) → PhaseFrom (Unit {0}) ⊥ P p →
        PhaseSince op p
    goes_on (Reads io) silent w = inl (on_io io (silent tt) w.1)
    goes_on (Probes io) silent w = inl (on_io io (silent tt) w.1)
    goes_on (Gathers io) silent w = inl (on_io io (silent tt) w.1)
    goes_on (Scatters io queue) silent w = tt
    goes_on Starts silent w = absurd w
    goes_on (Needs n) silent w = tt
    goes_on (Waits n) silent w = tt

  -- nothing was awaited where the call hadn't begun, or asks
  none_awaited : (op : CallOp) (p : Phase) → x.call ≡ Some (record { op = op; phase = p }) → awaited_in p ≡ [] →
      awaited_of x.call ≡ []
  none_awaited op p is none = ap awaited_of is ∙ none

  -- ---- a reply

  module _ (op : CallOp) (drive : ℕ) (q : Reply) (h : Held) (a : Awaited) where
    got_since : (p : Phase) → IsReplied x i drive q (record { op = op; phase = p }) h a → q.verdict ≡ PERFORMED →
        (col : Column) → WasGot p col ⊎ (col ≡ got_of a q) → GotSince (record { op = op; phase = p }) col
    got_since p n done col (inl old) = inl old
    got_since p n done col (inr new) = inr (record {
      drive = drive;
      reply = q;
      held = h;
      awaited = a;
      is = n;
      performed = done;
      column = new;
    })

    reads_since : (p : Phase) → ReadsNow p → IsReplied x i drive q (record { op = op; phase = p }) h a →
        q.verdict ≡ PERFORMED → Quiet (record { op = op; phase = p }) → DoneSince (moved (quiet x) op (performed h op p a q))
    reads_since p now n done silent =
        moved_since (Unit {0}) ⊥ (λ col. WasGot p col ⊎ (col ≡ got_of a q)) (quiet x) op _ (performed_reads h op p a q now)
        (λ z e w. goes_on op p n.call_is now _ (got_since p n done) z (λ r. silent) w)

    performed_since : (p : Phase) → IsReplied x i drive q (record { op = op; phase = p }) h a → q.verdict ≡ PERFORMED →
        (ReadsNow p → Quiet (record { op = op; phase = p })) → DoneSince (moved (quiet x) op (performed h op p a q))
    performed_since (Reads io) n done silent = reads_since (Reads io) tt n done (silent tt)
    performed_since (Probes io) n done silent = reads_since (Probes io) tt n done (silent tt)
    performed_since (Gathers io) n done silent = reads_since (Gathers io) tt n done (silent tt)
    performed_since (Scatters io queue) n done silent = unread_since (quiet x) op _ (performed_scatters h op io queue a q)
    performed_since Starts n done silent = same_since (quiet x) op h Starts (none_awaited op Starts n.call_is refl)
    performed_since (Needs need) n done silent = same_since (quiet x) op h (Needs need) tt
    performed_since (Waits need) n done silent = same_since (quiet x) op h (Waits need) tt

    pub replied_since : (p : Phase) → IsReplied x i drive q (record { op = op; phase = p }) h a →
        (q.verdict ≡ PERFORMED → ReadsNow p → Quiet (record { op = op; phase = p })) →
        DoneSince (moved (quiet x) op (replied h op p a q))
    unfolding replied
    replied_since p n silent = elim (cases_Bool (q.verdict == PERFORMED)) [
      | inl t ↦
          let done : q.verdict ≡ PERFORMED = eqb-true q.verdict PERFORMED t in
          rw t (performed_since p n done (silent done))
      | inr f ↦ rw f (unread_since (quiet x) op _ (refused_from h op p a q))
    ]

  -- ---- a timeout

  module _ (op : CallOp) (h : Held) (k : ℕ) (a : Awaited) (xs : List Awaited) where
    late_since : (p : Phase) → ReadsNow p → x.call ≡ Some (record { op = op; phase = p }) →
        ((z : Phase) → (timed_out h op p k a xs).turn ≡ Goes z → ReadsNow z → Quiet (record { op = op; phase = p })) →
        DoneSince (moved (quiet x) op (timed_out h op p k a xs))
    late_since p now is silent =
        moved_since (Unit {0}) ⊥ (WasGot p) (quiet x) op _ (timed_reads h op p k a xs now)
        (λ z e w. goes_on op p is now (WasGot p) (λ col j. inl j) z (silent z e) w)

    pub timed_since : (p : Phase) → x.call ≡ Some (record { op = op; phase = p }) →
        ((z : Phase) → (timed_out h op p k a xs).turn ≡ Goes z → ReadsNow z → Quiet (record { op = op; phase = p })) →
        DoneSince (moved (quiet x) op (timed_out h op p k a xs))
    timed_since (Reads io) is silent = late_since (Reads io) tt is silent
    timed_since (Probes io) is silent = late_since (Probes io) tt is silent
    timed_since (Gathers io) is silent = late_since (Gathers io) tt is silent
    timed_since (Scatters io queue) is silent = unread_since (quiet x) op _ (timed_scatters h op io queue k a xs)
    timed_since Starts is silent = same_since (quiet x) op h Starts (none_awaited op Starts is refl)
    timed_since (Needs n) is silent = same_since (quiet x) op h (Needs n) tt
    timed_since (Waits n) is silent = same_since (quiet x) op h (Waits n) tt

  -- ---- the begin, and the end of the turn

  finishes : FinishCases DoneSince
  unfolding requests
  finishes = record {
    needs = λ d op n q is out first. at_phase (phased d op (Needs n)) op (Needs n) refl tt;
    begun = λ d op h q is held cover.
        moved_since _ ⊥ (λ col. ⊥) d op (begins h op)
        (begins_from h op (awaited_of x.call ≡ []) (q.since (record { op = op; phase = Starts }) is))
        (λ p e w. all_new op p w);
    asks = λ d op n h q is out held. asked d op n h;
    gives_back = λ d u q none out. back d u q none;
  }
    where
      asked : (d : Done) (op : CallOp) (n : Need) (h : Option Held) → DoneSince (asks_under d op n h)
      asked d op n None = at_phase (asks_under d op n None) op (Waits n) refl tt
      asked d op n (Some h) = at_phase (asks_under d op n (Some h)) op (Waits n) refl tt

      back : (d : Done) (u : Option Due) → DoneSince d → d.client.call ≡ None → DoneSince (returns d u)
      back d None q none = record { ended = λ e. q.ended none; since = λ call e. absurd (cc (sym none ∙ e)) }
      back d (Some u) q none = record { ended = λ e. q.ended none; since = λ call e. absurd (cc (sym none ∙ e)) }

  pub finished_since : (d : Done) → DoneSince d → DoneSince (progressed (begun d))
  finished_since d q = each_finish DoneSince finishes d q

  -- ---- what stays, and a call that begins

  pub stays_since : (d : Done) → d.client.call ≡ x.call → d.commands ≡ [] →
      ((call : Call) → x.call ≡ Some call → ReadsNow call.phase → Quiet call) → DoneSince d
  stays_since d same none silent = record {
    ended = λ e. none;
    since = λ call is. by call.phase (sym same ∙ is) (silent call (sym same ∙ is));
  }
    where
      by : {op : CallOp} (p : Phase) → x.call ≡ Some (record { op = op; phase = p }) →
          (ReadsNow p → Quiet (record { op = op; phase = p })) → PhaseSince op p
      by (Reads io) is q = inl (on_io _ (Reads io) is tt _ (λ col j. inl j) io (q tt) (λ col j. j))
      by (Probes io) is q = inl (on_io _ (Probes io) is tt _ (λ col j. inl j) io (q tt) (λ col j. j))
      by (Gathers io) is q = inl (on_io _ (Gathers io) is tt _ (λ col j. inl j) io (q tt) (λ col j. j))
      by (Scatters io queue) is q = tt
      by Starts is q = none_awaited _ Starts is refl
      by (Needs n) is q = tt
      by (Waits n) is q = tt

  -- ---- an answer

  module _ (a : Answer) (silent : (call : Call) → x.call ≡ Some call → ReadsNow call.phase → Quiet call) where
    abbrev freed : Done
    freed = quiet (record x { outstanding = None })

    as_it_is : DoneSince freed
    as_it_is = stays_since freed refl refl silent

    over_since : (d : Done) → d.client.call ≡ None → d.commands ≡ [] → DoneSince d
    over_since d none sent = record { ended = λ e. sent; since = λ call e. absurd (cc (sym none ∙ e)) }

    refusal_since : (op : CallOp) (t : Turn) → Refuses t → DoneSince (by_turn freed op t)
    refusal_since op (Goes (Needs (Get tries))) r = at_phase (phased freed op (Needs (Get tries))) op (Needs (Get tries)) refl tt
    refusal_since op (Ends u) r = over_since (by_turn freed op (Ends u)) refl refl
    refusal_since op t r = absurd r

    given_since : awaited_of x.call ≡ [] → (op : CallOp) (r : Result Held Why) → DoneSince (answered_get freed op r)
    given_since none op (Err why) = over_since (answered_get freed op (Err why)) refl refl
    given_since none op (Ok h) = at_phase (answered_get freed op (Ok h)) op Starts refl none

    get_since : awaited_of x.call ≡ [] → (op : CallOp) (tries : ℕ) → DoneSince (on_get freed op tries a)
    unfolding not_granted
    get_since none op tries = elim (cases_Bool (status_of a.results == NFS4_OK)) [
      | inl t ↦ rw t (given_since none op (taken a op))
      | inr f ↦ rw f (refusal_since op (refused_with (status_of a.results) a.detail tries)
          (refused_with_refuses (status_of a.results) a.detail tries))
    ]

    commit_since : (op : CallOp) (timed : List TimedOut) (o : Option Held) → DoneSince (commit_under freed op a (Commit timed) o)
    commit_since op timed None = as_it_is
    commit_since op timed (Some h) = unread_since freed op (on_commit h op a timed) (committed_from ⊥ ⊥ (λ col. ⊥) h op a timed)

    need_since : awaited_of x.call ≡ [] → (op : CallOp) (n : Need) → DoneSince (on_need freed op n a)
    need_since none op First = at_phase (on_need freed op First a) op Starts refl none
    need_since none op (Get tries) = get_since none op tries
    need_since none op (Commit timed) = commit_since op timed (held_of freed.client.held (file_of op))
    need_since none op (Report timed) = over_since (on_need freed op (Report timed) a) refl refl
    need_since none op (Close u report) = over_since (on_need freed op (Close u report) a) refl refl

    phase_since : (op : CallOp) (p : Phase) → x.call ≡ Some (record { op = op; phase = p }) → DoneSince (on_phase freed op p a)
    phase_since op (Waits n) is = need_since (none_awaited op (Waits n) is refl) op n
    phase_since op Starts is = as_it_is
    phase_since op (Needs n) is = as_it_is
    phase_since op (Reads io) is = as_it_is
    phase_since op (Probes io) is = as_it_is
    phase_since op (Gathers io) is = as_it_is
    phase_since op (Scatters io queue) is = as_it_is

    pub answered_since : (o : Option Call) → x.call ≡ o → DoneSince (on_call freed o a)
    answered_since None is = as_it_is
    answered_since (Some call) is = phase_since call.op call.phase is
