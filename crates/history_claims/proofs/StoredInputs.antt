-- So it is whatever comes to the client: an answer, a reply, a timeout, or anything else.
use Rattle.std.proofs.Common.{◌≡◌, ◌==◌, ℕ, Bool, true, false, List, [], ◌∷◌, is_some, Option, Some, None, Ok, Err, refl, sym, ap, subst, ◌∙◌, inl, inr, find, if◌then◌else◌}
use Rattle.std.specs.Prelude.{option_map}
use Rattle.std.proofs.lemmas.Bool.{cases_Bool}
use Rattle.osd_lists.specs.declared.node.Node.{Node}
use Rattle.osd_lists.specs.declared.node.Node.TheVariants.{Server as FromServer, Drive as FromDrive, Client as FromClient}
use Rattle.layout_ops.specs.declared.statuses.TheConstants.{NFS4_OK, NFS4ERR_BADLAYOUT}
use Rattle.server_rules.specs.Laws.{In}
use Rattle.server_rules.proofs.Members.{in_filtered}
use Rattle.client_rules.specs.Answers.{committed, on_commit, not_committed, is_loss_taken, on_report}
use Rattle.client_rules.specs.Calls.{file_of, span_of}
use Rattle.client_rules.specs.Commands.{of_component, is_of}
use Rattle.client_rules.specs.Going.{quiet, moved}
use Rattle.client_rules.specs.Grants.{held_of}
use Rattle.client_rules.specs.History.{Input, Calls, Hears, TimesOut, Leaves, Resends, unless_refused, step}
use Rattle.client_rules.specs.Io.{awaited_in}
use Rattle.client_rules.specs.Messages.{Message, Replies, Answers, Recalls, Taken, TakesAnswer, TakesRecall, Step, is_awaited, awaited_of, answer_taken, reply_taken, reply_under, reply_call, takes, by_taken, hears, still, finished, commit_under, on_need, on_phase, on_call, obeys, no_match}
use Rattle.client_rules.specs.Replies.{answers, replied, timed_out}
use Rattle.client_rules.specs.Results.{status_of}
use Rattle.client_rules.specs.Steps.{is_bad_range, is_spent, writes_nothing, calls, timeout_under, timeout_call, times_out, all_due}
use Rattle.client_rules.specs.Turns.{turned}
use Rattle.client_rules.specs.Writes.{lowest}
use Rattle.history_law.specs.Turns.{TurnCases, IsReplied, IsTimed, with_start}
use Rattle.history_law.proofs.Turns.{each_turn}
use Rattle.world_history.specs.ClientNames.{Client, Call, CallOp, Busy, BadRange, SlotSpent, Held, Awaited, TimedOut, Request, Answer, Recall, Reply, Need, First, Get, Commit, Report, Close, Phase, Starts, Needs, Waits, Reads, Probes, Gathers, Scatters, WriteOk, Status, Silent, Ends, Forgets, Done}
use Rattle.cause_law.specs.Met as met
use Rattle.cause_law.specs.Met.{Met, Answered, Replied, since, with_answer, with_taken, with_timeout, with_silence, met_after, timed_in}
use Rattle.cause_law.specs.Caused.{call_in}
use Rattle.cause_law.specs.Read.{read_in}
use Rattle.cause_law.proofs.Fetching.{nonce_is}
use Rattle.relation_law.proofs.MessagesAlways.{Any, found_one, on_call_fine, quiet_fine, has_bytes, replied_done, timed_done}
use Rattle.relation_law.proofs.MessagesRun.{FineDone, CallFits, call_bytes}
use Rattle.relation_law.proofs.MessagesClients.{IsFit}
use Rattle.relation_law.proofs.OwnFacts.{replied_fits, timed_fits}
use Rattle.relation_law.proofs.RequestsDealt.{file_of_moved, replied_file, timed_out_file}
use Rattle.history_claims.proofs.StoredParts.{IsMore, more_none, more_answered, scattering_more}
use Rattle.history_claims.proofs.StoredDealings.{IsQuiet, PhaseUnder, IsOwn, IsEnd, MovedStored, accounted_stored, replied_stored, timed_stored}
use Rattle.history_claims.proofs.StoredCalls.{WaitStored, PhaseStored, CallStored, quiet_more, call_more, report_ends}
use Rattle.history_claims.proofs.StoredSteps.{EndsStored, Stored, StepStored, no_ok, moved_stored, finished_stored, get_stored}
use Rattle.history_claims.proofs.Wrote.{IsNoOk, IsSound, CallSo, HasScattered}

-- a phase that awaits something works under the grant on its file
held_phase : (hs : List Held) (out : Option Request) (op : CallOp) (h : Held) (ms : List Met) (a : Awaited) (p : Phase) →
    held_of hs (file_of op) ≡ Some h → In a (awaited_in p) → PhaseStored hs out op ms p → PhaseUnder op h ms p
held_phase hs out op h ms a Starts e i x = absurd i
held_phase hs out op h ms a (Needs n) e i x = absurd i
held_phase hs out op h ms a (Waits n) e i x = absurd i
held_phase hs out op h ms a (Reads io) e i x = tt
held_phase hs out op h ms a (Probes io) e i x = tt
held_phase hs out op h ms a (Gathers io) e i x =
    let same : x.0 ≡ h = cc (sym x.1 ∙ e) in subst (λ (y : Held). PhaseUnder op y ms (Gathers io)) same x.2
held_phase hs out op h ms a (Scatters io queue) e i x =
    let same : x.0 ≡ h = cc (sym x.1 ∙ e) in subst (λ (y : Held). PhaseUnder op y ms (Scatters io queue)) same x.2

-- the first that is awaited of a component is awaited
first_awaited : (k : ℕ) (all : List Awaited) (a : Awaited) (xs : List Awaited) → of_component k all ≡ a ∷ xs → In a all
unfolding of_component
first_awaited k all a xs e = (in_filtered (is_of k) a all (subst (In a) (sym e) (inl refl))).0

nothing_met : (ms : List Met) → ms ≡ [] → IsQuiet ms
unfolding timed_in read_in
nothing_met ms e = rw e (refl, refl, tt)

module _ (x : Client) (ms : List Met) (s : IsSound x) (y : CallStored x.held x.outstanding (since x.call ms) x.call) where
  abbrev mine : Option CallOp
  mine = option_map (λ (call : Call). call.op) x.call

  -- what the pending call had met
  abbrev older : List Met
  older = since x.call ms

  stored_at : (call : Call) → x.call ≡ Some call → PhaseStored x.held x.outstanding call.op older call.phase
  stored_at call is = subst (CallStored x.held x.outstanding older) is y

  its_op : (call : Call) → x.call ≡ Some call → mine ≡ Some call.op
  its_op call is = ap (option_map (λ (c : Call). c.op)) is

  its_fit : (call : Call) (h : Held) → x.call ≡ Some call → held_of x.held (file_of call.op) ≡ Some h →
      IsFit h call.op call.phase
  its_fit call h is held = (subst (CallFits x.held) is s.fine.call).1 h held

  its_own : (call : Call) (h : Held) → x.call ≡ Some call → held_of x.held (file_of call.op) ≡ Some h →
      IsOwn x.held mine call.op h
  its_own call h is held = record {
    call = its_op call is;
    held = held;
    checked = (s.fine.usable (file_of call.op) h held).checked;
    some = (call_bytes x.held x.call call is s.fine.call).some;
  }

  -- ---- an answer

  module _ (r : Request) (a : Answer) (out : x.outstanding ≡ Some r) where
    abbrev answered : List Met
    answered = Answered r a ∷ older

    m : IsMore older answered
    m = more_answered r a older

    abbrev d : Done
    d = quiet (record x { outstanding = None })

    abbrev Lasts : Done → Type 0
    Lasts e = Stored x.held mine answered e

    its_quiet : (op : CallOp) → IsQuiet older → IsQuiet answered
    its_quiet op z = quiet_more x.held op older answered m z

    commit_stored : (op : CallOp) (timed : List TimedOut) → x.call ≡ Some (record { op = op; phase = Waits (Commit timed) }) →
        WaitStored x.held (Some r) op older (Commit timed) →
        Lasts (commit_under d op a (Commit timed) (held_of x.held (file_of op)))
    unfolding on_commit not_committed
    commit_stored op timed is (h, held, z) =
        subst (λ (o : Option Held). Lasts (commit_under d op a (Commit timed) o)) (sym held)
        (by (status_of a.results == NFS4_OK) (status_of a.results == NFS4ERR_BADLAYOUT))
      where
        refused : (f : Bool) → MovedStored x.held mine answered op (turned h (if f
            then Forgets (Status (status_of a.results) a.detail) else Ends (Status (status_of a.results) a.detail)))
        refused true = tt
        refused false = tt

        by : (b f : Bool) → Lasts (moved d op (if b then committed h op a timed
            else turned h (if f then Forgets (Status (status_of a.results) a.detail)
            else Ends (Status (status_of a.results) a.detail))))
        by true f =
            moved_stored x.held mine answered d op h (committed h op a timed) held refl tt
            (accounted_stored x.held mine answered op h (its_own (record { op = op; phase = Waits (Commit timed) }) h is held)
            h.count a.size timed (scattering_more op h older answered timed [] [] m z))
        by false f = moved_stored x.held mine answered d op h _ held refl tt (refused f)

    report_stored : (op : CallOp) (timed : List TimedOut) → x.call ≡ Some (record { op = op; phase = Waits (Report timed) }) →
        WaitStored x.held (Some r) op older (Report timed) → IsEnd x.held mine answered (on_report op a timed)
    unfolding on_report
    report_stored op timed is (h, z, asks) = by (is_loss_taken a) refl
      where
        by : (b : Bool) → is_loss_taken a ≡ b →
            IsEnd x.held mine answered (if b then WriteOk (span_of op).length else Silent (lowest timed))
        by true took =
            inr (report_ends x.held mine op h older timed r a (its_op (record { op = op; phase = Waits (Report timed) }) is)
            (call_bytes x.held x.call (record { op = op; phase = Waits (Report timed) }) is s.fine.call).some z asks took)
        by false took = tt

    need_stored : (op : CallOp) (n : Need) → x.call ≡ Some (record { op = op; phase = Waits n }) →
        WaitStored x.held (Some r) op older n → Lasts (on_need d op n a)
    need_stored op First is z = (its_quiet op z, tt)
    need_stored op (Get tries) is z = get_stored x.held mine answered d op tries a (its_quiet op z) tt
    need_stored op (Commit timed) is z = commit_stored op timed is z
    need_stored op (Report timed) is z = (tt, report_stored op timed is z)
    need_stored op (Close u report) is z =
        let k : IsNoOk u = subst (CallSo (HasScattered x)) is s.so in (tt, no_ok x.held mine answered u k)

    -- a call that doesn't wait goes on
    stays : (op : CallOp) (p : Phase) → x.call ≡ Some (record { op = op; phase = p }) →
        PhaseStored x.held None op older p → Lasts d
    stays op p is z = (
      subst (CallStored x.held None answered) (sym is) (call_more x.held None older answered m (Some (record {
        op = op;
        phase = p;
      })) z),
      tt,
    )

    phase_stored : (op : CallOp) (p : Phase) → x.call ≡ Some (record { op = op; phase = p }) →
        PhaseStored x.held (Some r) op older p → Lasts (on_phase d op p a)
    phase_stored op (Waits n) is z = need_stored op n is z
    phase_stored op Starts is z = stays op Starts is z
    phase_stored op (Needs n) is z = stays op (Needs n) is z
    phase_stored op (Reads io) is z = stays op (Reads io) is z
    phase_stored op (Probes io) is z = stays op (Probes io) is z
    phase_stored op (Gathers io) is z = stays op (Gathers io) is z
    phase_stored op (Scatters io queue) is z = stays op (Scatters io queue) is z

    call_stored : (o : Option Call) → x.call ≡ o → Lasts (on_call d o a)
    call_stored None is = (rw is tt, tt)
    call_stored (Some call) is =
        phase_stored call.op call.phase is
        (subst (λ (q : Option Request). PhaseStored x.held q call.op older call.phase) out (stored_at call is))

    answer_stored : StepStored x.held mine answered (finished (on_call d x.call a))
    answer_stored =
        finished_stored x.held mine answered (on_call d x.call a) (call_stored x.call refl)
        (on_call_fine d x.call a refl (record { usable = s.fine.usable; call = s.fine.call; outcome = tt }))

  -- ---- a reply

  reply_stored : (i : Input) (drive : ℕ) (q : Reply) (call : Call) (h : Held) (a : Awaited) → IsReplied x i drive q call h a →
      StepStored x.held mine (Replied a q ∷ older) (finished (moved (quiet x) call.op (replied h call.op call.phase a q)))
  reply_stored i drive q call h a k =
      let there = found_one (answers drive q) (awaited_in call.phase) a k.awaits in
      let nonce = nonce_is drive q (awaited_in call.phase) a k.awaits in
      finished_stored x.held mine (Replied a q ∷ older) _
      (moved_stored x.held mine (Replied a q ∷ older) (quiet x) call.op h (replied h call.op call.phase a q) k.held
      (file_of_moved h _ (replied_file h call.op call.phase a q)) tt
      (replied_stored x.held mine call.op h (its_own call h k.call_is k.held) older a q nonce call.phase there
      (held_phase x.held x.outstanding call.op h older a call.phase k.held there (stored_at call k.call_is))
      (its_fit call h k.call_is k.held)
      (replied_fits x i s.fine s.works drive q call h a k call.phase refl)))
      (replied_done x i s.fine Any drive q call h a k (λ bytes z. tt))

  rests : StepStored x.held mine older (still x)
  rests = record { call = y; outcome = tt }

  -- one that the call awaits, but under no grant, changes nothing
  unheld_phase : (op : CallOp) (a : Awaited) (q : Reply) (p : Phase) → held_of x.held (file_of op) ≡ None →
      In a (awaited_in p) → PhaseStored x.held x.outstanding op older p →
      PhaseStored x.held x.outstanding op (Replied a q ∷ older) p
  unheld_phase op a q Starts e i z = absurd i
  unheld_phase op a q (Needs n) e i z = absurd i
  unheld_phase op a q (Waits n) e i z = absurd i
  unheld_phase op a q (Reads io) e i z = tt
  unheld_phase op a q (Probes io) e i z = tt
  unheld_phase op a q (Gathers io) e i z = absurd (cc (sym z.1 ∙ e))
  unheld_phase op a q (Scatters io queue) e i z = absurd (cc (sym z.1 ∙ e))

  module _ (drive : ℕ) (q : Reply) where
    reply_under_stored : (call : Call) → x.call ≡ Some call → (a : Awaited) →
        find (answers drive q) (awaited_in call.phase) ≡ Some a → (o : Option Held) → held_of x.held (file_of call.op) ≡ o →
        StepStored x.held mine (Replied a q ∷ older) (finished (reply_under x call a q o))
    reply_under_stored call is a awaits (Some h) held =
        reply_stored (Hears (FromDrive drive) (Replies q)) drive q call h a
        (record { is = refl; call_is = is; held = held; awaits = awaits })
    reply_under_stored call is a awaits None held =
        finished_stored x.held mine (Replied a q ∷ older) (quiet x) (
          subst (CallStored x.held x.outstanding (Replied a q ∷ older)) (sym is)
              (unheld_phase call.op a q call.phase held (found_one (answers drive q) (awaited_in call.phase) a awaits)
              (stored_at call is)),
          tt,
        )
        (quiet_fine Any x s.fine)

    found_stored : (o : Option Call) → x.call ≡ o → (a : Option Awaited) → find (answers drive q) (awaited_of o) ≡ a →
        StepStored x.held mine (with_taken x (reply_taken q a) older) (by_taken x (reply_taken q a))
    found_stored o is None awaits = rests
    found_stored None is (Some a) awaits = absurd (cc awaits)
    found_stored (Some call) is (Some a) awaits =
        subst (λ (o : Option Call). StepStored x.held mine (Replied a q ∷ older) (finished (reply_call x a q o))) (sym is)
        (reply_under_stored call is a awaits (held_of x.held (file_of call.op)) refl)

    heard_stored : StepStored x.held mine (with_taken x (takes x (FromDrive drive) (Replies q)) older)
        (hears x (FromDrive drive) (Replies q))
    unfolding hears takes
    heard_stored = found_stored x.call refl (find (answers drive q) (awaited_of x.call)) refl

  -- ---- a timeout

  silent_stored : (k : ℕ) → StepStored x.held mine (with_silence x k x.call older) (times_out x k)
  unfolding times_out
  silent_stored k = by_call x.call refl
    where
      timed : (call : Call) (h : Held) (a : Awaited) (xs : List Awaited) → IsTimed x (TimesOut k) k call h a xs →
          StepStored x.held mine (met.TimedOut h k ∷ older)
          (finished (moved (quiet x) call.op (timed_out h call.op call.phase k a xs)))
      timed call h a xs t =
          finished_stored x.held mine (met.TimedOut h k ∷ older) _
          (moved_stored x.held mine (met.TimedOut h k ∷ older) (quiet x) call.op h (timed_out h call.op call.phase k a xs) t.held
          (file_of_moved h _ (timed_out_file h call.op call.phase k a xs)) tt
          (timed_stored x.held mine call.op h (its_own call h t.call_is t.held) older k a xs call.phase t.awaits
          (held_phase x.held x.outstanding call.op h older a call.phase t.held
          (first_awaited k (awaited_in call.phase) a xs t.awaits)
          (stored_at call t.call_is)) (its_fit call h t.call_is t.held)
          (timed_fits x (TimesOut k) s.fine s.works k call h a xs t call.phase refl)))
          (timed_done x (TimesOut k) s.fine Any k call h a xs t (λ bytes z. tt))

      under : (call : Call) → x.call ≡ Some call → (o : Option Held) → held_of x.held (file_of call.op) ≡ o →
          (xs : List Awaited) → of_component k (awaited_in call.phase) ≡ xs →
          StepStored x.held mine (with_timeout k o xs older) (timeout_under x call k o xs)
      under call is None held xs e = rests
      under call is (Some h) held [] e = rests
      under call is (Some h) held (a ∷ xs) e =
          timed call h a xs (record { is = refl; call_is = is; held = held; awaits = e })

      by_call : (o : Option Call) → x.call ≡ o → StepStored x.held mine (with_silence x k o older) (timeout_call x k o)
      by_call None is = rests
      by_call (Some call) is =
          under call is (held_of x.held (file_of call.op)) refl (of_component k (awaited_in call.phase)) refl

  -- ---- anything else

  -- no timeout, and no reply of a drive
  record IsOther (i : Input) : Type 0 where
    timeout : (k : ℕ) → i ≡ TimesOut k → ⊥
    reply : (drive : ℕ) (q : Reply) → i ≡ Hears (FromDrive drive) (Replies q) → ⊥

  answer_more : (o : Option Request) (a : Answer) → IsMore older (with_answer o a older)
  answer_more None a = more_none older
  answer_more (Some r) a = more_answered r a older

  answer_taken_more : (a : Answer) (o : Option Request) → IsMore older (with_taken x (answer_taken x a o) older)
  answer_taken_more a None = more_none older
  answer_taken_more a (Some r) = by (is_awaited x a r)
    where
      by : (b : Bool) → IsMore older (with_taken x (if b then Some (TakesAnswer a) else None) older)
      by true = answer_more x.outstanding a
      by false = more_none older

  recall_more : (q : Recall) (b : Bool) → IsMore older (with_taken x (if b then Some (TakesRecall q) else None) older)
  recall_more q true = more_none older
  recall_more q false = more_none older

  heard_more : (from : Node) (b : Message) → IsOther (Hears from b) → IsMore older (with_taken x (takes x from b) older)
  unfolding takes
  heard_more (FromDrive d) (Replies q) other = absurd (other.reply d q refl)
  heard_more (FromDrive d) (Answers a) other = more_none older
  heard_more (FromDrive d) (Recalls q) other = more_none older
  heard_more FromServer (Answers a) other = answer_taken_more a x.outstanding
  heard_more FromServer (Recalls q) other = recall_more q (q.client == x.number)
  heard_more FromServer (Replies q) other = more_none older
  heard_more (FromClient n) (Replies q) other = more_none older
  heard_more (FromClient n) (Answers a) other = more_none older
  heard_more (FromClient n) (Recalls q) other = more_none older

  met_more : (i : Input) → IsOther i → IsMore older (met_after x ms i)
  met_more (Calls op) other = more_none older
  met_more (Hears from b) other = heard_more from b other
  met_more (TimesOut k) other = absurd (other.timeout k refl)
  met_more Leaves other = more_none older
  met_more Resends other = more_none older

  module _ (i : Input) (other : IsOther i) where
    abbrev now : List Met
    now = met_after x ms i

    abbrev So : Step → Type 0
    So t = StepStored x.held (call_in x i) now t

    later_call : CallStored x.held x.outstanding now x.call
    later_call = call_more x.held x.outstanding older now (met_more i other) x.call y

    rests_so : So (still x)
    rests_so = record { call = later_call; outcome = tt }

    -- where the grants stay
    ends_so : (d : Done) → CallStored d.client.held d.client.outstanding now d.client.call → FineDone Any d →
        EndsStored x.held (call_in x i) now d.outcome → So (finished d)
    ends_so d c f o = finished_stored x.held (call_in x i) now d (c, o) f

    -- a call of no byte is over at once
    empty_so : (op : CallOp) → writes_nothing op ≡ true → So (step x (Calls op))
    unfolding calls
    empty_so op e = by (is_some x.call) (is_bad_range (span_of op)) (is_spent x.next) (writes_nothing op) e
      where
        by : (a b t w : Bool) → w ≡ true → So
            (unless_refused x (if a then Err Busy else if b then Err BadRange else if t then Err SlotSpent
            else Ok (if w then record (still x) { outcome = Some (WriteOk 0) } else finished (quiet (with_start x op)))))
        by true b t w e = rests_so
        by false true t w e = rests_so
        by false false true w e = rests_so
        by false false false true e = record { call = later_call; outcome = inl refl }
        by false false false false e = absurd (cc e)

    cases : TurnCases x i (λ t. t ≡ step x i → So t)
    cases = record {
      rests = λ e. rests_so;
      nothing = λ op is empty e. record { call = later_call; outcome = inl refl };
      called = λ op is free can e. elim (cases_Bool (writes_nothing op)) [
        | inl empty ↦ subst So (sym (e ∙ ap (step x) is)) (empty_so op empty)
        | inr some ↦ ends_so (quiet (with_start x op))
            (nothing_met now (ap (met_after x ms) is ∙ ap (λ (o : Option Call). since o ms) free))
            (record { usable = s.fine.usable; call = (has_bytes op some, λ h there. tt); outcome = tt }) tt
      ];
      answered = λ a k e.
          let is_now : now ≡ Answered k.request a ∷ older =
          ap (met_after x ms) k.is ∙ ap (λ (t : Option Taken). with_taken x t older) k.takes_it
          ∙ ap (λ (o : Option Request). with_answer o a older) k.outstanding in
          let own : call_in x i ≡ mine = ap (call_in x) k.is in
          rw (is_now, own) (answer_stored k.request a k.outstanding);
      replied = λ drive q call h a k e. absurd (other.reply drive q k.is);
      unheld = λ e. ends_so (quiet x) later_call (quiet_fine Any x s.fine) tt;
      recalled = λ q is e. ends_so (obeys x q) later_call
          (record { usable = s.fine.usable; call = s.fine.call; outcome = tt }) tt;
      unmatched = λ q is e. ends_so (no_match x q) later_call
          (record { usable = s.fine.usable; call = s.fine.call; outcome = tt }) tt;
      timed = λ k call h a xs t e. absurd (other.timeout k t.is);
      leaves = λ is e. ends_so (quiet (record x { due = all_due x.due x.held })) later_call
          (record { usable = s.fine.usable; call = s.fine.call; outcome = tt }) tt;
      resends = λ is e. record { call = later_call; outcome = tt };
    }

    any_stored : So (step x i)
    any_stored = each_turn x i (λ t. t ≡ step x i → So t) cases refl

  -- What a step makes of it.
  pub step_stored : (i : Input) → StepStored x.held (call_in x i) (met_after x ms i) (step x i)
  step_stored (TimesOut k) = silent_stored k
  step_stored (Calls op) =
      any_stored (Calls op) (record { timeout = λ k e. absurd (cc e); reply = λ d q e. absurd (cc e) })
  step_stored (Hears from b) = by_message from b
    where
      other : (from : Node) (b : Message) → ((d : ℕ) (q : Reply) → Hears from b ≡ Hears (FromDrive d) (Replies q) → ⊥) →
          StepStored x.held (call_in x (Hears from b)) (met_after x ms (Hears from b)) (step x (Hears from b))
      other from b none = any_stored (Hears from b) (record { timeout = λ k e. absurd (cc e); reply = none })

      by_message : (from : Node) (b : Message) →
          StepStored x.held (call_in x (Hears from b)) (met_after x ms (Hears from b)) (step x (Hears from b))
      by_message (FromDrive d) (Replies q) = heard_stored d q
      by_message (FromDrive d) (Answers a) = other (FromDrive d) (Answers a) (λ k q e. absurd (cc e))
      by_message (FromDrive d) (Recalls q) = other (FromDrive d) (Recalls q) (λ k r e. absurd (cc e))
      by_message FromServer b = other FromServer b (λ k q e. absurd (cc e))
      by_message (FromClient n) b = other (FromClient n) b (λ k q e. absurd (cc e))
  step_stored Leaves =
      any_stored Leaves (record { timeout = λ k e. absurd (cc e); reply = λ d q e. absurd (cc e) })
  step_stored Resends =
      any_stored Resends (record { timeout = λ k e. absurd (cc e); reply = λ d q e. absurd (cc e) })
