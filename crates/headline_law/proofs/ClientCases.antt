-- Each turn of a client, by cases: the events of all its lines can happen.
use Rattle.std.proofs.Common.{◌≡◌, ◌==◌, ◌++◌, ◌≤◌, ℕ, Bool, true, false, List, [], ◌∷◌, Option, Some, None, Ok, Err, refl, sym, ap, subst, ◌∙◌, inl, inr, if◌then◌else◌}
use Rattle.std.specs.Prelude.{is_some}
use Rattle.std.proofs.lemmas.Bool.{cases_Bool, eqb-true}
use Rattle.data_map.specs.declared.check.RawMap.{RawMap}
use Rattle.layout_ops.specs.declared.messages.Answer.{Answer}
use Rattle.osd_commands.specs.declared.replies.Reply.{Reply}
use Rattle.server_rules.specs.Laws.{In, last_of}
use Rattle.client_rules.specs.declared.limits.TheConstants.{PERFORMED}
use Rattle.client_rules.specs.Calls.{file_of, span_of}
use Rattle.client_rules.specs.Commands.{nonce_at}
use Rattle.client_rules.specs.Going.{by_turn, moved, quiet, with_held}
use Rattle.client_rules.specs.Grants.{held_of}
use Rattle.client_rules.specs.History.{Input, Calls, Resends, unless_refused, step}
use Rattle.client_rules.specs.Io.{awaited_in, got_of}
use Rattle.client_rules.specs.Messages.{Step, finished, no_match, obeys, on_call, still}
use Rattle.client_rules.specs.Replies.{answers, replied, timed_out}
use Rattle.client_rules.specs.Steps.{all_due, calls, is_bad_range, is_spent, writes_nothing}
use Rattle.history_law.specs.Turns.{AnswerComes, IsReplied, IsTimed, with_start}
use Rattle.world_history.specs.ServerNames.{Slot}
use Rattle.world_history.specs.ClientNames.{Awaited, BadRange, Busy, Call, CallOp, Client, Done, Held, Io, Moved, Phase, Reads, Probes, Gathers, Scatters, Request, SlotSpent, Starts, Store, Turn, Goes, Ends, Forgets, WriteOk}
use Rattle.world_history.specs.Handed.{op_in, pending_op}
use Rattle.world_history.specs.State.{World}
use Rattle.exchange_law.specs.Calls.{CallFine, Knows, PhaseFine}
use Rattle.exchange_law.specs.Meeting.{KeptGood}
use Rattle.exchange_law.proofs.HeldMoving.{IsWorking as IsWorkingIn, replied_fine, timed_fine}
use Rattle.fence_law.specs.Machine.{Allowed, Lawful, after_all}
use Rattle.fence_law.specs.State.{State, Event}
use Rattle.fence_law.specs.State.{Event as event}
use Rattle.fence_law.proofs.Safe.{Safe}
use Rattle.file_simulation.specs.Calls.{CallAt, CallIs, CallOn, HeldIs, IsClient, IsHolding, IsReading}
use Rattle.file_simulation.specs.ClientEvents as table
use Rattle.file_simulation.specs.EventLists.{entry_of, where_so}
use Rattle.file_simulation.specs.Events.{joined}
use Rattle.file_simulation.specs.Requests.{AwaitsNothing, IsOutstanding, kept_by, kept_for}
use Rattle.relation_law.specs.CallsCases.{EventCases, IsUnheld, Answered, Begins, Replied, Stays, Timed}
use Rattle.relation_law.specs.CallsFits.{AnswerFits}
use Rattle.relation_law.specs.CallsTurns.{IsMid, IsWorking}
use Rattle.relation_law.specs.MessagesSending.{RiseFrom}
use Rattle.relation_law.specs.Requests.{FirstMay, IsPlain}
use Rattle.relation_law.specs.Working.{CallWorks, ClientWorks}
use Rattle.file_simulation.specs.Messages.{is_scatter}
use Rattle.relation_law.proofs.CallsHeard.{call_out, found_working, moved_out, reply_any, time_any, timed_working}
use Rattle.relation_law.proofs.CallsOwn.{HasNeeds, as_it_is, starts}
use Rattle.relation_law.proofs.CallsReceived.{answered_mid}
use Rattle.relation_law.proofs.CallsWalk.{each_event_turn}
use Rattle.relation_law.proofs.FramesClient.{where_all}
use Rattle.relation_law.proofs.MessagesAlways.{found_one, has_bytes, replied_done, timed_done}
use Rattle.relation_law.proofs.MessagesBehind.{rise_lower}
use Rattle.relation_law.proofs.MessagesClients.{ReadEnds}
use Rattle.relation_law.proofs.MessagesRun.{IsFine}
use Rattle.relation_law.proofs.MessagesTurns.{got_by}
use Rattle.relation_law.proofs.OwnFacts.{replied_fits, timed_fits}
use Rattle.relation_law.proofs.Plans.{PlanFacts, answer_sends}
use Rattle.relation_law.proofs.ReadsAnswers.{IsTold}
use Rattle.relation_law.proofs.RequestsPlain.{asking_stays_all, taken_reply, turned}
use Rattle.relation_law.proofs.RequestsTaken.{answer_taken_rests}
use Rattle.relation_law.proofs.Scatters.{replied_performed}
use Rattle.relation_law.proofs.WorksRun.{answered_works, free_call, none_sent, replied_done as replied_works, timed_done as timed_works}
use Rattle.headline_law.proofs.ClientAnswered.{answered_lawful}
use Rattle.headline_law.proofs.ClientFirst.{replied_lawful, timed_lawful}
use Rattle.headline_law.proofs.ClientGets.{answered_gets, moved_gets, resting_gets, starting}
use Rattle.headline_law.proofs.ClientReads.{Never, answered_never, reply_answers, time_answers}
use Rattle.headline_law.proofs.ClientRises.{Rises, replied_rises, timed_rises}
use Rattle.headline_law.proofs.ClientTurn.{MidKnown, WritesRise, end_lawful, still_rests}

-- ---- what a call sends

-- a phase that scatters
scatter_is : (p : Phase) → is_scatter p ≡ true → (io : Io) × (queue : List Store) × (p ≡ Scatters io queue)
scatter_is (Scatters io queue) e = (io, queue, refl)
scatter_is p e = absurd (cc e)

call_op : (p q : Call) → Some p ≡ Some q → p.op ≡ q.op
call_op p q e = cc e

call_phase : (p q : Call) → Some p ≡ Some q → p.phase ≡ q.phase
call_phase p q e = cc e

-- where its WRITEs rise above the nonces that the grant had given, they rise above the machine's last one
moved_rise : (file c : ℕ) (s t : State) (x : Client) (op : CallOp) (h : Held) (mv : Moved) → Rises h mv →
    ((file_of op == file) ≡ true → s.nonce c ≤ nonce_at h h.count) →
    ((io : Io) (queue : List Store) → (file_of op == file) ≡ true → mv.turn ≡ Goes (Scatters io queue) → t.nonce c ≡ s.nonce c) →
    WritesRise file c t (moved (quiet x) op mv)
moved_rise file c s t x op h mv rises low same call at here scatter = by_turn_is mv.turn refl call at here scatter
  where
    by_turn_is : (u : Turn) → mv.turn ≡ u → (call : Call) →
        (by_turn (record (with_held (quiet x) mv.held) { commands = mv.sent }) op u).client.call ≡ Some call →
        (file_of call.op == file) ≡ true → is_scatter call.phase ≡ true →
        RiseFrom (t.nonce c) (by_turn (record (with_held (quiet x) mv.held) { commands = mv.sent }) op u).commands
    by_turn_is (Goes p) e call at here scatter =
        let mine : (file_of op == file) ≡ true =
        ap (λ (z : CallOp). file_of z == file) (call_op (record { op = op; phase = p }) call at) ∙ here in
        let phase : p ≡ call.phase = call_phase (record { op = op; phase = p }) call at in
        let z = scatter_is p (ap is_scatter phase ∙ scatter) in
        subst (λ (n : ℕ). RiseFrom n mv.sent) (sym (same z.0 z.1 mine (e ∙ ap (λ (q : Phase). Goes q) z.2)))
        (rise_lower (nonce_at h h.count) (s.nonce c) mv.sent (low mine) rises.rise)
    by_turn_is (Ends v) e call at here scatter = absurd (cc at)
    by_turn_is (Forgets v) e call at here scatter = absurd (cc at)

performed_nonce : (s : State) (c : ℕ) (a : Awaited) (p : Phase) → (after_all s (table.performed s c a p)).nonce ≡ s.nonce
performed_nonce s c a (Scatters io queue) = refl
performed_nonce s c a p = refl

-- a phase that works does so in either words
working_as : (K : Knows) (out : Option Request) (p : Phase) → IsWorking p → IsWorkingIn K out p
working_as K out (Reads io) z = tt
working_as K out (Probes io) z = tt
working_as K out (Gathers io) z = tt
working_as K out (Scatters io queue) z = tt
working_as K out p z = absurd z

-- What is known of the answer to a client's request, which the server keeps.
pub record AnswerKnown (file : ℕ) (m : RawMap) (c : ℕ) (s : State) (x : Client) (slot : Option Slot) (a : Answer) (r : Request) :
    Type 0
  where
    pub kept : kept_by slot r ≡ Some a
    pub waits : IsOutstanding file m s slot c x r
    pub slot_is : s.slot c ≡ last_of slot
    pub served : last_of slot ≡ r.sequence
    pub fits : AnswerFits file x a r
    pub may : FirstMay s (table.answered s file c x a (Some r))

module _ (file : ℕ) (m : RawMap) (c : ℕ) (s : State) (x : Client) (slot : Option Slot)
    (k : IsClient file m s c x (kept_for slot x.outstanding)) (i : Input) (w : World) where
  abbrev o : Option Answer
  o = kept_for slot x.outstanding

  -- what is known of the server's answers
  abbrev K : Knows
  K = KeptGood w.server c

  -- what is known of the client and the machine before the turn
  pub record TurnKnown : Type 0 where
    pub safe : Safe s
    pub fine : IsFine x
    pub works : ClientWorks x
    pub met : CallFine (KeptGood w.server c) x.held x.outstanding x.call
    pub has : HasNeeds file m c s x slot k i
    pub rests : x.outstanding ≡ None → AwaitsNothing s c
    pub told : (drive : ℕ) (q : Reply) (call : Call) (h : Held) (a : Awaited) → IsReplied x i drive q call h a →
        (file_of call.op == file) ≡ true → (q.verdict == PERFORMED) ≡ true → is_scatter call.phase ≡ true → IsTold s c a
    pub answered : (a : Answer) (r : Request) → AnswerComes x i a → x.outstanding ≡ Some r → AnswerKnown file m c s x slot a r
    pub facts : Lawful s (table.at_first s file c x i) → PlanFacts file m c s x slot k i w

  module _ (known : TurnKnown) where
    abbrev pub AreLawful_ : List Event → Step → Type 0
    AreLawful_ es t = Lawful s es × Lawful (after_all s es) (joined (table.at_end (after_all s es) file c (op_in x i) t))

    -- it is what the client does, and nothing is sent again
    abbrev pub Goes_ : List Event → Step → Type 0
    Goes_ es t = (i ≡ Resends → ⊥) → table.at_first s file c x i ≡ es → step x i ≡ t → AreLawful_ es t

    finish : (Fit : List ℕ → Type 0) (es : List Event) (d : Done) → Lawful s es →
        (PlanFacts file m c s x slot k i w → MidKnown file m c s x slot i Fit es d) → Goes_ es (finished d)
    finish Fit es d lawful mid none at is =
        let facts : PlanFacts file m c s x slot k i w = known.facts (subst (Lawful s) (sym at) lawful) in
        let z : Lawful (after_all s (table.at_first s file c x i))
        (joined (table.at_end (after_all s (table.at_first s file c x i)) file c (op_in x i) (finished d))) =
        end_lawful file m c s x slot k i w facts known.safe Fit d
        (subst (λ (l : List Event). MidKnown file m c s x slot i Fit l d) (sym at) (mid facts)) in (
          lawful,
          subst (λ (l : List Event). Lawful (after_all s l) (joined (table.at_end (after_all s l) file c (op_in x i)
              (finished d)))) at z,
        )

    -- ---- by what comes

    -- the machine's answer is the same where the outstanding request is
    as_out : (es : List Event) (op : Option CallOp) (d : Done) (q : Option Answer) → kept_for slot d.client.outstanding ≡ q →
        op ≡ op_in x i → IsMid file m (after_all s es) c q op d →
        IsMid file m (after_all s es) c (kept_for slot d.client.outstanding) (op_in x i) d
    as_out es op d q e f y =
        subst (λ z. IsMid file m (after_all s es) c z (op_in x i) d) (sym e)
        (subst (λ p. IsMid file m (after_all s es) c q p d) f y)

    about_call : (call : Call) → x.call ≡ Some call → pending_op x ≡ Some call.op
    about_call call is = rw is refl

    called_op : (op : CallOp) → i ≡ Calls op → Some op ≡ op_in x i
    called_op op is = rw is refl

    -- a call begins
    begins_goes : (op : CallOp) → i ≡ Calls op → x.call ≡ None → writes_nothing op ≡ false →
        Goes_ [] (finished (quiet (with_start x op)))
    begins_goes op is none some =
        finish Never [] (quiet (with_start x op)) tt (λ facts. record {
          turn = Begins op is none some refl refl;
          there = as_out [] (Some op) (quiet (with_start x op)) o refl (called_op op is) (starts file m c s x slot k i op none);
          fine = record { usable = known.fine.usable; call = (has_bytes op some, λ h there. tt); outcome = tt };
          works = record { call = free_call x.held op Starts refl (λ z. z) tt; sent = λ b j. j };
          gets = starting (with_start x op) op refl;
          rise = λ call e here scatter. tt;
          rests = known.rests;
          answers = λ p bytes about here never j r. absurd never;
        })

    -- nothing comes to the call
    rests_goes : (d : Done) → pending_op x ≡ op_in x i → d.client.call ≡ x.call → d.client.held ≡ x.held →
        d.client.outstanding ≡ x.outstanding → d.client.next ≡ x.next → d.commands ≡ [] → d.outcome ≡ None → d.requests ≡ [] →
        Goes_ [] (finished d)
    rests_goes d about call held out next sent none asked =
        finish Never [] d tt (λ facts. record {
          turn = Stays refl call held out next sent none;
          there =
              as_out [] (pending_op x) d o (ap (kept_for slot) out) about
              (as_it_is file m c s x slot k i known.has d call out held none asked sent);
          fine = record { usable = rw held known.fine.usable; call = rw (held, call) known.fine.call; outcome = rw none tt };
          works = record { call = rw (held, call) known.works; sent = none_sent d.commands d.client.call sent };
          gets = resting_gets K x d.client call held known.met;
          rise = λ z e here scatter. subst (RiseFrom (s.nonce c)) (sym sent) tt;
          rests = λ z. known.rests (sym out ∙ z);
          answers = λ p bytes at here never j r. absurd never;
        })

    -- an answer is taken
    answer_goes : (a : Answer) → AnswerComes x i a → Goes_ (table.answered s file c x a x.outstanding)
        (finished (on_call (quiet (record x { outstanding = None })) x.call a))
    answer_goes a n =
        let r : Request = n.request in
        let q : AnswerKnown file m c s x slot a r = known.answered a r n n.outstanding in
        let es : List Event = table.answered s file c x a (Some r) in
        let d : Done = on_call (quiet (record x { outstanding = None })) x.call a in
        let client : IsClient file m s c x (Some a) =
        subst (λ (z : Option Answer). IsClient file m s c x z) (ap (kept_for slot) n.outstanding ∙ q.kept) k in
        let there : IsMid file m (after_all s es) c None (pending_op x) d =
        answered_mid file m c s known.safe.slots known.safe.holds known.safe.calls x slot a r q.kept client q.waits q.slot_is
        q.fits in
        let out : kept_for slot d.client.outstanding ≡ None =
        ap (kept_for slot) (call_out (quiet (record x { outstanding = None })) a x.call) in
        let about : pending_op x ≡ op_in x i = rw n.is refl in
        subst (λ (z : Option Request). Goes_ (table.answered s file c x a z) (finished d)) (sym n.outstanding)
        (finish Never es d (answered_lawful file m c s known.safe.calls x a r client q.fits q.may) (λ facts. record {
          turn = Answered a n (ap (table.answered s file c x a) (sym n.outstanding)) refl;
          there = as_out es (pending_op x) d None out about there;
          fine =
              answered_never file s c x a r q.fits x.call refl
              (record { usable = known.fine.usable; call = known.fine.call; outcome = tt });
          works = answered_works x a known.works x.call;
          gets = answered_gets K x a x.call refl known.met;
          rise = λ z e here scatter. subst (RiseFrom ((after_all s es).nonce c)) (sym (answer_sends x a x.call)) tt;
          rests = λ z. (answer_taken_rests file m s c x slot r q.slot_is q.served q.waits a).rests;
          answers = λ p bytes at here never j y. absurd never;
        }))

    -- ---- dealings with the drives

    call_here : (call : Call) → x.call ≡ Some call → (file_of call.op == file) ≡ true → CallIs m s c call.op o call.phase
    call_here call is here =
        subst (λ (b : Bool). CallOn b m s c call o) here (subst (λ (z : Option Call). CallAt file m s c o z) is k.call)

    holding_here : (call : Call) (h : Held) → held_of x.held (file_of call.op) ≡ Some h → (file_of call.op == file) ≡ true →
        IsHolding m s c h
    holding_here call h held here =
        subst (λ (z : Option Held). HeldIs file m s c x o z)
        (ap (held_of x.held) (sym (eqb-true (file_of call.op) file here)) ∙ held) k.held

    phase_fine : (call : Call) (h : Held) → x.call ≡ Some call → held_of x.held (file_of call.op) ≡ Some h →
        PhaseFine K (Some h) x.outstanding call.op call.phase
    phase_fine call h is held =
        subst (λ (z : Option Held). PhaseFine K z x.outstanding call.op call.phase) held
        (subst (CallFine K x.held x.outstanding) is known.met).1

    -- the call is the one that the turn is about
    about_is : (call : Call) (p : CallOp) → x.call ≡ Some call → pending_op x ≡ op_in x i → op_in x i ≡ Some p → call.op ≡ p
    about_is call p is about at =
        op_same call.op p (sym (about_call call is) ∙ about ∙ at)
      where
        op_same : (y z : CallOp) → Some y ≡ Some z → y ≡ z
        op_same y z e = cc e

    module _ (drive : ℕ) (q : Reply) (call : Call) (h : Held) (a : Awaited) (n : IsReplied x i drive q call h a) where
      abbrev reply_mv : Moved
      reply_mv = replied h call.op call.phase a q

      abbrev reply_d : Done
      reply_d = moved (quiet x) call.op (replied h call.op call.phase a q)

      abbrev reply_es : List Event
      reply_es = where_so (file_of call.op == file) (table.replied s c a q call.phase)

      reply_works : IsWorking call.phase
      reply_works = found_working call.phase (answers drive q) a n.awaits

      reply_there : In a (awaited_in call.phase)
      reply_there = found_one (answers drive q) (awaited_in call.phase) a n.awaits

      reply_about : pending_op x ≡ op_in x i
      reply_about = rw n.is refl

      reply_lawful : (b : Bool) → (file_of call.op == file) ≡ b → Lawful s (where_so b (table.replied s c a q call.phase))
      reply_lawful true e =
          replied_lawful m s c call.op o known.safe.calls call.phase a q reply_works (call_here call n.call_is e) reply_there
          (known.told drive q call h a n e)
      reply_lawful false e = tt

      reply_nonce : (io : Io) (queue : List Store) → (file_of call.op == file) ≡ true →
          (replied h call.op call.phase a q).turn ≡ Goes (Scatters io queue) →
          (after_all s (where_so (file_of call.op == file) (table.replied s c a q call.phase))).nonce c ≡ s.nonce c
      reply_nonce io queue here goes =
          rw (here, replied_performed h call.op call.phase a q io queue goes)
          (ap (λ (f : ℕ → ℕ). f c) (performed_nonce s c a call.phase))

      reply_answered : PlanFacts file m c s x slot k i w → (b : Bool) → (file_of call.op == file) ≡ b → b ≡ true →
          (bytes : List ℕ) → ReadEnds h call.op (got_by call.phase ++ got_of a q ∷ []) bytes → (j : ℕ) →
          IsReading (after_all s (where_so b (table.replied s c a q call.phase))) c call.op j →
          Allowed (after_all s (where_so b (table.replied s c a q call.phase)))
          (event.Answers c (entry_of (after_all s (where_so b (table.replied s c a q call.phase))) c)
          (table.answer_from (span_of call.op).offset bytes))
      reply_answered facts true e yes_ bytes ends j r =
          reply_answers m facts.tag s c h call.op w facts.layout facts.checked known.safe (holding_here call h n.held e) a q o
          call.phase reply_works (call_here call n.call_is e) reply_there
          (λ z reads. facts.shown call z n.call_is (eqb-true (file_of call.op) file e) reads)
          (λ done. facts.heard drive q call h a n (eqb-true q.verdict PERFORMED done)) bytes ends j r
      reply_answered facts false e yes_ bytes ends j r = absurd (cc yes_)

      reply_goes : Goes_ (where_so (file_of call.op == file) (table.replied s c a q call.phase))
          (finished (moved (quiet x) call.op (replied h call.op call.phase a q)))
      reply_goes =
          finish (ReadEnds h call.op (got_by call.phase ++ got_of a q ∷ [])) reply_es reply_d
          (reply_lawful (file_of call.op == file) refl) (λ facts. record {
            turn = Replied drive q call h a n refl refl;
            there =
                as_out reply_es (Some call.op) reply_d o (ap (kept_for slot) (moved_out x call.op reply_mv))
                (sym (about_call call n.call_is) ∙ reply_about)
                (reply_any file m c s x slot k call n.call_is h n.held reply_works a q
                (λ here. replied_fits x i known.fine known.works drive q call h a n call.phase refl) (file_of call.op == file)
                refl);
            fine =
                replied_done x i known.fine (ReadEnds h call.op (got_by call.phase ++ got_of a q ∷ [])) drive q call h a n
                (λ bytes z. z);
            works = replied_works x known.works i drive q call h a n;
            gets =
                moved_gets K x.outstanding (quiet x) call.op h reply_mv
                (replied_fine K x.outstanding h call.op call.phase a q (working_as K x.outstanding call.phase reply_works)
                (phase_fine call h n.call_is n.held));
            rise =
                moved_rise file c s (after_all s reply_es) x call.op h reply_mv (replied_rises h call.op call.phase a q)
                (λ here. (holding_here call h n.held here).nonce) reply_nonce;
            rests = λ z.
                still_rests s (after_all s reply_es) c
                (asking_stays_all s reply_es (taken_reply file c s a q (Some call)))
                (known.rests (sym (moved_out x call.op reply_mv) ∙ z));
            answers = λ p bytes at here ends j r.
                (let same : call.op ≡ p = about_is call p n.call_is reply_about at in
                subst (λ (z : CallOp). Allowed (after_all s reply_es)
                (event.Answers c (entry_of (after_all s reply_es) c) (table.answer_from (span_of z).offset bytes))) same
                (reply_answered facts (file_of call.op == file) refl
                (ap (λ (z : CallOp). file_of z == file) same ∙ here) bytes ends j
                (subst (λ (z : CallOp). IsReading (after_all s reply_es) c z j) (sym same) r)));
          })

    module _ (n : ℕ) (call : Call) (h : Held) (a : Awaited) (xs : List Awaited) (t : IsTimed x i n call h a xs) where
      abbrev time_mv : Moved
      time_mv = timed_out h call.op call.phase n a xs

      abbrev time_d : Done
      time_d = moved (quiet x) call.op (timed_out h call.op call.phase n a xs)

      abbrev time_es : List Event
      time_es = where_so (file_of call.op == file) (table.turned s c (timed_out h call.op call.phase n a xs).turn)

      time_works : IsWorking call.phase
      time_works = timed_working call.phase n a xs t.awaits

      time_about : pending_op x ≡ op_in x i
      time_about = rw t.is refl

      time_lawful : (b : Bool) → (file_of call.op == file) ≡ b →
          Lawful s (where_so b (table.turned s c (timed_out h call.op call.phase n a xs).turn))
      time_lawful true e =
          timed_lawful m s c call.op o known.safe.calls h call.phase n a xs time_works (call_here call t.call_is e)
      time_lawful false e = tt

      time_nonce : (io : Io) (queue : List Store) → (file_of call.op == file) ≡ true →
          (timed_out h call.op call.phase n a xs).turn ≡ Goes (Scatters io queue) →
          (after_all s
          (where_so (file_of call.op == file) (table.turned s c (timed_out h call.op call.phase n a xs).turn))).nonce c
          ≡ s.nonce c
      time_nonce io queue here goes = rw (here, goes) refl

      time_answered : PlanFacts file m c s x slot k i w → (b : Bool) → (file_of call.op == file) ≡ b → b ≡ true →
          (bytes : List ℕ) → ReadEnds h call.op (got_by call.phase) bytes → (j : ℕ) →
          IsReading (after_all s (where_so b (table.turned s c time_mv.turn))) c call.op j →
          Allowed (after_all s (where_so b (table.turned s c time_mv.turn)))
          (event.Answers c (entry_of (after_all s (where_so b (table.turned s c time_mv.turn))) c)
          (table.answer_from (span_of call.op).offset bytes))
      time_answered facts true e yes_ bytes ends j r =
          time_answers m facts.tag s c h call.op w facts.layout facts.checked known.safe (holding_here call h t.held e) o
          call.phase time_works (call_here call t.call_is e)
          (λ z reads. facts.shown call z t.call_is (eqb-true (file_of call.op) file e) reads) time_mv.turn bytes ends j r
      time_answered facts false e yes_ bytes ends j r = absurd (cc yes_)

      time_goes : Goes_ (where_so (file_of call.op == file) (table.turned s c (timed_out h call.op call.phase n a xs).turn))
          (finished (moved (quiet x) call.op (timed_out h call.op call.phase n a xs)))
      time_goes =
          finish (ReadEnds h call.op (got_by call.phase)) time_es time_d (time_lawful (file_of call.op == file) refl)
          (λ facts. record {
            turn = Timed n call h a xs t refl refl;
            there =
                as_out time_es (Some call.op) time_d o (ap (kept_for slot) (moved_out x call.op time_mv))
                (sym (about_call call t.call_is) ∙ time_about)
                (time_any file m c s x slot k call t.call_is h t.held time_works n a xs t.awaits
                (λ here. timed_fits x i known.fine known.works n call h a xs t call.phase refl) (file_of call.op == file) refl);
            fine = timed_done x i known.fine (ReadEnds h call.op (got_by call.phase)) n call h a xs t (λ bytes z. z);
            works = timed_works x known.works i n call h a xs t;
            gets =
                moved_gets K x.outstanding (quiet x) call.op h time_mv
                (timed_fine K x.outstanding h call.op call.phase n a xs (working_as K x.outstanding call.phase time_works)
                (phase_fine call h t.call_is t.held));
            rise =
                moved_rise file c s (after_all s time_es) x call.op h time_mv (timed_rises h call.op call.phase n a xs)
                (λ here. (holding_here call h t.held here).nonce) time_nonce;
            rests = λ z.
                still_rests s (after_all s time_es) c
                (asking_stays_all s time_es (where_all IsPlain (file_of call.op == file) (table.turned s c time_mv.turn)
                (turned file c s time_mv.turn)))
                (known.rests (sym (moved_out x call.op time_mv) ∙ z));
            answers = λ p bytes at here ends j r.
                (let same : call.op ≡ p = about_is call p t.call_is time_about at in
                subst (λ (z : CallOp). Allowed (after_all s time_es)
                (event.Answers c (entry_of (after_all s time_es) c) (table.answer_from (span_of z).offset bytes))) same
                (time_answered facts (file_of call.op == file) refl
                (ap (λ (z : CallOp). file_of z == file) same ∙ here) bytes ends j
                (subst (λ (z : CallOp). IsReading (after_all s time_es) c z j) (sym same) r)));
          })

    -- ---- nothing is done

    -- a write of no byte is over, and has no event
    nothing_told : (p : Option CallOp) → table.ended s file c p (Some (WriteOk 0)) ≡ []
    nothing_told None = refl
    nothing_told (Some op) = elim (cases_Bool (file_of op == file)) [
      | inl t ↦ rw t refl
      | inr f ↦ rw f refl
    ]

    still_lawful : AreLawful_ [] (still x)
    unfolding table.sends_all
    still_lawful = (tt, tt)

    nothing_lawful : AreLawful_ [] (record (still x) { outcome = Some (WriteOk 0) })
    unfolding table.sends_all
    nothing_lawful = (tt, rw (nothing_told (op_in x i)) tt)

    -- so it is whether such a call is refused or not
    empty_lawful : (op : CallOp) → i ≡ Calls op → writes_nothing op ≡ true → AreLawful_ [] (step x i)
    unfolding calls
    empty_lawful op is e =
        subst (AreLawful_ []) (sym (ap (step x) is))
        (by_tests (is_some x.call) (is_bad_range (span_of op)) (is_spent x.next) (writes_nothing op) e)
      where
        by_tests : (a b z n : Bool) → n ≡ true → AreLawful_ []
            (unless_refused x (if a then Err Busy else if b then Err BadRange else if z then Err SlotSpent
            else Ok (if n then record (still x) { outcome = Some (WriteOk 0) } else finished (quiet (with_start x op)))))
        by_tests true b z n t = still_lawful
        by_tests false true z n t = still_lawful
        by_tests false false true n t = still_lawful
        by_tests false false false true t = nothing_lawful
        by_tests false false false false t = absurd (cc t)

    unheld : IsUnheld x i → ⊥
    unheld u =
        let w_ : CallWorks x.held (Some u.call) = subst (CallWorks x.held) u.call_is known.works in
        let z = w_.0 (found_working u.call.phase (answers u.drive u.reply) u.awaited u.awaits) in
        cc (sym u.held ∙ z.1)

    cases : EventCases file s c x i Goes_
    cases = record {
      rests = λ none at is. still_lawful;
      nothing = λ op is empty none at z. nothing_lawful;
      called = λ op is none. elim (cases_Bool (writes_nothing op)) [
        | inl empty ↦ λ fresh at z. subst (AreLawful_ []) z (empty_lawful op is empty)
        | inr some ↦ begins_goes op is none some
      ];
      answered = answer_goes;
      replied = reply_goes;
      unheld = λ u es t. absurd (unheld u);
      recalled = λ q is. rests_goes (obeys x q) (rw is refl) refl refl refl refl refl refl refl;
      unmatched = λ q is. rests_goes (no_match x q) (rw is refl) refl refl refl refl refl refl refl;
      timed = time_goes;
      leaves = λ is.
          rests_goes (quiet (record x { due = all_due x.due x.held })) (rw is refl) refl refl refl refl refl refl refl;
      resends = λ is es t none. absurd (none is);
    }

    -- All events of the turn can happen.
    pub turn_lawful : (i ≡ Resends → ⊥) → AreLawful_ (table.at_first s file c x i) (step x i)
    turn_lawful none = each_event_turn file s c x i Goes_ cases none refl refl
