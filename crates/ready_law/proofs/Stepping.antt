-- The steps of a client whose call goes well.
use Rattle.std.proofs.Common.{◌≡◌, ◌≢◌, ℕ, ◌+◌, ◌==◌, Bool, true, false, List, [], ◌∷◌, map, nat_lt, Option, Some, None, Ok, Err, find, is_some, refl, sym, ap, subst, ◌∙◌, inl, inr, if◌then◌else◌}
use Rattle.std.proofs.lemmas.Bool.{cases_Bool, eq-eqb, ne_eqb}
use Rattle.osd_lists.specs.declared.node.Node.TheVariants.{Server as FromServer, Drive as FromDrive}
use Rattle.layout_ops.specs.declared.statuses.TheConstants.{NFS4_OK, NFS4ERR_LAYOUTTRYLATER}
use Rattle.server_rules.specs.Laws.{In}
use Rattle.client_rules.specs.declared.limits.TheConstants.{MAX_TRIES}
use Rattle.client_rules.specs.Answers.{busy, refused_with, not_granted, on_commit, is_loss_taken, on_report}
use Rattle.client_rules.specs.Calls.{file_of, span_of}
use Rattle.client_rules.specs.Commands.{of_component}
use Rattle.client_rules.specs.Going.{quiet, phased, over, with_held, moved, by_turn, begins, starts_with, starts_under, begun, requests, asks_under, is_held, returns, returns_due, progress_free, progressed}
use Rattle.client_rules.specs.Grants.{covers, held_of}
use Rattle.client_rules.specs.History.{Calls, Hears, TimesOut, unless_refused, step}
use Rattle.client_rules.specs.Io.{awaited_in}
use Rattle.client_rules.specs.Laws.{nonce_of}
use Rattle.client_rules.specs.Layouts.{taken}
use Rattle.client_rules.specs.Messages.{Replies, Answers, TakesAnswer, still, closed, finished, answered_get, commit_under, on_need, on_call, answer_taken, reply_taken, awaited_of, reply_under, reply_call, takes, by_taken, hears}
use Rattle.client_rules.specs.Replies.{answers, replied, timed_out}
use Rattle.client_rules.specs.Requests.{get_args, return_args, args_of, report_of, object_of, error_at}
use Rattle.client_rules.specs.Results.{status_of}
use Rattle.client_rules.specs.Steps.{is_bad_range, is_spent, writes_nothing, starts, calls, timeout_under, timeout_call, times_out}
use Rattle.client_rules.specs.Turns.{turned, needing}
use Rattle.client_rules.specs.Writes.{accounted}
use Rattle.client_rules.proofs.HeldGrants.{held_file, put_at}
use Rattle.exchange_law.specs.ClientNonces.{NoneIs, AllDiffer}
use Rattle.cause_law.proofs.Given.{taken_covers}
use Rattle.world_history.specs.ClientNames.{Client, Call, CallOp, Busy, BadRange, SlotSpent, Held, Due, Awaited, TimedOut, Need, First, Get, Commit, Report, Phase, Starts, Needs, Waits, Reads, Probes, Gathers, Scatters, Outcome, WriteOk, HeldBy, Turn, Ends, Moved, Done, Request, Answer, Reply}
use Rattle.ready_law.specs.Reacting.{IsGood, IsPhaseOf, TurnsWell, WorksOn as WorksOnSo, IsDone as IsDoneSo, Commits as CommitsSo, Reports as ReportsSo}
use Rattle.ready_law.specs.Stepping.{holding, in_phase, unasked, asks_step, ends_step, StepsWell, WorksOn, IsDone, Commits, Reports, IsWorkingAt, RepliesStepWell, TimeoutsStepWell, TakesCall, CallsStep, IsAnsweredAt, AnswersStep}
use Rattle.ready_law.proofs.Reacting.{begins_well, replied_well, timed_out_well}

-- ---- to the end of a step

-- a call that works with the drives asks the server nothing
rests : (d : Done) (h : Held) (op : CallOp) (p : Phase) → IsPhaseOf h op p → d.client.outstanding ≡ None
    → progressed (phased d op p) ≡ phased d op p
unfolding progressed
rests d h op (Reads io) is free = ap (progress_free (phased d op (Reads io))) free
rests d h op (Probes io) is free = ap (progress_free (phased d op (Probes io))) free
rests d h op (Gathers io) is free = ap (progress_free (phased d op (Gathers io))) free
rests d h op (Scatters io queue) is free = ap (progress_free (phased d op (Scatters io queue))) free
rests d h op Starts is free = absurd is
rests d h op (Needs n) is free = absurd is
rests d h op (Waits n) is free = absurd is

-- where nothing is due nothing goes back
nothing_due : (d : Done) → d.client.due ≡ [] → returns_due d ≡ d
unfolding returns_due
nothing_due d none = elim (cases_Bool (d.client.next == 0)) [
  | inl t ↦ rw t refl
  | inr f ↦ rw f
      (ap (λ (us : List Due). returns d (find (is_held d.client.held) us)) none
      ∙ ap (λ (us : List Due). record d { client = record d.client { due = us } }) (sym none))
]

is_over : (d : Done) (o : Outcome) → d.client.outstanding ≡ None → d.client.due ≡ []
    → progressed (over d o) ≡ over d o
unfolding progressed
is_over d o free none = ap (progress_free (over d o)) free ∙ nothing_due (over d o) none

-- what a call needs of the server is asked
asks_it : (d : Done) (op : CallOp) (n : Need) (o : Option Held) → d.client.outstanding ≡ None
    → held_of d.client.held (file_of op) ≡ o → progressed (phased d op (Needs n)) ≡ asks_under (phased d op (Needs n)) op n o
unfolding progressed
asks_it d op n o free held =
    ap (progress_free (phased d op (Needs n))) free ∙ ap (asks_under (phased d op (Needs n)) op n) held

-- ---- a turn of the call

module _ (c : Client) (o : Option Call) (h : Held) (op : CallOp) (lost : List ℕ) (rest : List Awaited)
    (free : c.outstanding ≡ None) (none : c.due ≡ []) (file : h.file ≡ file_of op) where
  abbrev start : Done
  start = quiet (record c { call = o })

  -- what the call needs is all that is sent
  needs_well : (n : Need) → closed (progressed (moved start op (turned h (needing n))))
      ≡ asks_step (holding c h) op n (args_of h op n)
  unfolding requests
  needs_well n =
      ap closed (asks_it (with_held start h) op n (Some h) free (put_at c.held h (file_of op) file))

  turn_well : (m : Moved) → TurnsWell h op lost rest m → StepsWell c h op lost rest m (closed (progressed (moved start op m)))
  unfolding args_of
  turn_well m (WorksOnSo p is goes) =
      WorksOn p is goes
      (ap (λ (t : Turn). closed (progressed (by_turn (record (with_held start m.held) { commands = m.sent }) op t))) is
      ∙ ap closed (rests (record (with_held start m.held) { commands = m.sent }) m.held op p goes.works.kind free))
  turn_well m (IsDoneSo u is done well low) =
      IsDone u done well low
      (ap (λ (x : Moved). closed (progressed (moved start op x))) is ∙ ap closed (is_over (with_held start h) u free none))
  turn_well m (CommitsSo timed is past well) =
      Commits timed past well
      (ap (λ (x : Moved). closed (progressed (moved start op x))) is ∙ needs_well (Commit timed))
  turn_well m (ReportsSo t timed is low well) =
      Reports t timed (ap (λ (x : Moved). x.turn) is) low well
      (ap (λ (x : Moved). closed (progressed (moved start op x))) is ∙ needs_well (Report (t ∷ timed)))

-- no call begins behind it
begun_phase : (d : Done) (h : Held) (op : CallOp) (p : Phase) → IsPhaseOf h op p → begun (phased d op p) ≡ phased d op p
unfolding begun
begun_phase d h op (Reads io) is = refl
begun_phase d h op (Probes io) is = refl
begun_phase d h op (Gathers io) is = refl
begun_phase d h op (Scatters io queue) is = refl
begun_phase d h op Starts is = absurd is
begun_phase d h op (Needs n) is = absurd is
begun_phase d h op (Waits n) is = absurd is

begun_already : (d : Done) (h : Held) (op : CallOp) (lost : List ℕ) (rest : List Awaited) (m : Moved)
    → TurnsWell h op lost rest m → begun (moved d op m) ≡ moved d op m
unfolding begun
begun_already d h op lost rest m (WorksOnSo p is goes) =
    let e : Done = record (with_held d m.held) { commands = m.sent } in
    ap (λ (t : Turn). begun (by_turn e op t)) is ∙ begun_phase e m.held op p goes.works.kind ∙ ap (by_turn e op) (sym is)
begun_already d h op lost rest m (IsDoneSo u is done well low) =
    ap (λ (x : Moved). begun (moved d op x)) is ∙ ap (moved d op) (sym is)
begun_already d h op lost rest m (CommitsSo timed is past well) =
    ap (λ (x : Moved). begun (moved d op x)) is ∙ ap (moved d op) (sym is)
begun_already d h op lost rest m (ReportsSo t timed is low well) =
    ap (λ (x : Moved). begun (moved d op x)) is ∙ ap (moved d op) (sym is)

-- so a step ends that makes this of a call
turn_finished : (c : Client) (h : Held) (op : CallOp) (lost : List ℕ) (rest : List Awaited) (p : Phase) (m : Moved)
    → IsWorkingAt c h op p → TurnsWell h op lost rest m → StepsWell c h op lost rest m (finished (moved (quiet c) op m))
unfolding finished
turn_finished c h op lost rest p m at well =
    subst (λ (d : Done). StepsWell c h op lost rest m (closed (progressed d)))
    (sym (begun_already (quiet c) h op lost rest m well))
    (turn_well c c.call h op lost rest at.free at.none_due (held_file c.held (file_of op) h at.holds) m well)

-- ---- a reply

none_is : (n : ℕ) (xs : List Awaited) (a : Awaited) → NoneIs n (map nonce_of xs) → In a xs → n ≢ nonce_of a
none_is n [] a none i = absurd i
none_is n (x ∷ xs) a none (inl e) = λ s. none.0 (s ∙ ap nonce_of e)
none_is n (x ∷ xs) a none (inr i) = none_is n xs a none.1 i

-- it finds the command that it answers
found : (r : Reply) (a : Awaited) (xs : List Awaited) → AllDiffer (map nonce_of xs) → In a xs → nonce_of a ≡ r.nonce
    → find (answers a.drive r) xs ≡ Some a
found r a [] differ i its = absurd i
found r a (x ∷ xs) differ (inl e) its =
    subst (λ (y : Awaited). find (answers a.drive r) (y ∷ xs) ≡ Some a) e
    (rw (eq-eqb (nonce_of a) r.nonce its, eq-eqb a.drive a.drive refl) refl)
found r a (x ∷ xs) differ (inr i) its =
    rw (ne_eqb (nonce_of x) r.nonce (λ s. none_is (nonce_of x) xs a differ.0 i (s ∙ sym its)))
    (found r a xs differ.1 i its)

pub replies_step : RepliesStepWell
unfolding hears takes
replies_step c h op lost p good works at a there r done its =
    let call : Call = record { op = op; phase = p } in
    let is : step c (Hears (FromDrive a.drive) (Replies r)) ≡ finished (moved (quiet c) op (replied h op p a r)) =
    ap (λ (o : Option Call). by_taken c (reply_taken r (find (answers a.drive r) (awaited_of o)))) at.pending
    ∙ ap (λ (o : Option Awaited). by_taken c (reply_taken r o)) (found r a (awaited_in p) works.differ there its)
    ∙ ap (λ (o : Option Call). finished (reply_call c a r o)) at.pending
    ∙ ap (λ (o : Option Held). finished (reply_under c call a r o)) at.holds in
    subst (StepsWell c h op lost _ (replied h op p a r)) (sym is)
    (turn_finished c h op lost _ p (replied h op p a r) at (replied_well h op lost p good works a there r done))

-- ---- a timeout

pub timeouts_step : TimeoutsStepWell
unfolding times_out
timeouts_step c h op lost p good works at k gone a xs some =
    let call : Call = record { op = op; phase = p } in
    let is : step c (TimesOut k) ≡ finished (moved (quiet c) op (timed_out h op p k a xs)) =
    ap (timeout_call c k) at.pending
    ∙ ap (λ (o : Option Held). timeout_under c call k o (of_component k (awaited_in p))) at.holds
    ∙ ap (timeout_under c call k (Some h)) some in
    subst (StepsWell c h op lost _ (timed_out h op p k a xs)) (sym is)
    (turn_finished c h op lost _ p (timed_out h op p k a xs) at
    (timed_out_well h op lost p good works k gone a xs some))

-- ---- a call begins

module _ (c : Client) (op : CallOp) (free : c.outstanding ≡ None) (none : c.due ≡ []) where
  -- under a grant that covers it
  starts_covered : (h : Held) (lost : List ℕ) → held_of c.held (file_of op) ≡ Some h → covers h op ≡ true → IsGood h op lost
      → StepsWell c h op lost [] (begins h op) (finished (quiet (in_phase c op Starts)))
  unfolding finished begun
  starts_covered h lost held covered good =
      let d : Done = quiet (in_phase c op Starts) in
      let is : begun d ≡ moved d op (begins h op) =
      ap (starts_under d op) held
      ∙ ap (λ (b : Bool). if b then moved d op (begins h op) else starts_with d op First c.outstanding) covered in
      subst (λ (e : Done). StepsWell c h op lost [] (begins h op) (closed (progressed e))) (sym is)
      (turn_well c (Some (record { op = op; phase = Starts })) h op lost [] free none
      (held_file c.held (file_of op) h held) (begins h op) (begins_well h op lost good))

  -- another grant goes back
  starts_returning : (h : Held) → held_of c.held (file_of op) ≡ Some h → covers h op ≡ false
      → finished (quiet (in_phase c op Starts)) ≡ asks_step c op First (return_args h.number [])
  unfolding finished begun requests args_of
  starts_returning h held other =
      let d : Done = quiet (in_phase c op Starts) in
      let is : begun d ≡ phased d op (Needs First) =
      ap (starts_under d op) held
      ∙ ap (λ (b : Bool). if b then moved d op (begins h op) else starts_with d op First c.outstanding) other
      ∙ ap (starts_with d op First) free in
      ap (λ (e : Done). closed (progressed e)) is ∙ ap closed (asks_it d op First (Some h) free held)

  -- without one it asks
  starts_asking : held_of c.held (file_of op) ≡ None
      → finished (quiet (in_phase c op Starts)) ≡ asks_step c op (Get 0) (get_args op)
  unfolding finished begun requests
  starts_asking held =
      let d : Done = quiet (in_phase c op Starts) in
      let is : begun d ≡ phased d op (Needs (Get 0)) =
      ap (starts_under d op) held ∙ ap (starts_with d op (Get 0)) free in
      ap (λ (e : Done). closed (progressed e)) is ∙ ap closed (asks_it d op (Get 0) None free held)

calls_it : (c : Client) (op : CallOp) → TakesCall c op → step c (Calls op) ≡ starts c op
unfolding calls
calls_it c op t =
    ap (λ (o : Option Call). unless_refused c (if is_some o then Err Busy else if is_bad_range (span_of op) then Err BadRange
    else if is_spent c.next then Err SlotSpent else Ok (starts c op))) t.idle
    ∙ ap (λ (b : Bool). unless_refused c (if b then Err BadRange else if is_spent c.next then Err SlotSpent
    else Ok (starts c op))) t.range
    ∙ ap (λ (b : Bool). unless_refused c (if b then Err SlotSpent else Ok (starts c op))) t.numbers

starts_by : (c : Client) (op : CallOp) (b : Bool) → TakesCall c op → writes_nothing op ≡ b
    → step c (Calls op) ≡ (if b then record (still c) { outcome = Some (WriteOk 0) } else finished (quiet (in_phase c op Starts)))
starts_by c op b t e =
    calls_it c op t
    ∙ ap (λ (x : Bool). if x then record (still c) { outcome = Some (WriteOk 0) } else finished (quiet (in_phase c op Starts))) e

pub calls_step : CallsStep
calls_step = record {
  nothing = λ c op t e. starts_by c op true t e;
  covered = λ c h op lost t e held covered good.
      subst (StepsWell c h op lost [] (begins h op)) (sym (starts_by c op false t e))
      (starts_covered c op t.free t.none_due h lost held covered good);
  uncovered = λ c h op t e held other. starts_by c op false t e ∙ starts_returning c op t.free t.none_due h held other;
  unheld = λ c op t e held. starts_by c op false t e ∙ starts_asking c op t.free t.none_due held;
}

-- ---- answers

answers_it : (c : Client) (op : CallOp) (n : Need) (a : Answer) → IsAnsweredAt c op n a
    → step c (Hears FromServer (Answers a)) ≡ finished (on_need (quiet (unasked c)) op n a)
unfolding hears takes
answers_it c op n a at =
    ap (λ (o : Option Request). by_taken c (answer_taken c a o)) at.asked
    ∙ ap (λ (b : Bool). by_taken c (if b then Some (TakesAnswer a) else None)) at.its
    ∙ ap (λ (o : Option Call). finished (on_call (quiet (unasked c)) o a)) at.pending

module _ (c : Client) (op : CallOp) (a : Answer) where
  given : (tries : ℕ) (h : Held) (lost : List ℕ) → IsAnsweredAt c op (Get tries) a → status_of a.results ≡ NFS4_OK
      → taken a op ≡ Ok h → IsGood h op lost
      → StepsWell (holding (unasked c) h) h op lost [] (begins h op) (step c (Hears FromServer (Answers a)))
  given tries h lost at ok took good =
      let d : Done = quiet (unasked c) in
      let covers_it = taken_covers a op h took in
      let is : step c (Hears FromServer (Answers a)) ≡ finished (quiet (in_phase (holding (unasked c) h) op Starts)) =
      answers_it c op (Get tries) a at
      ∙ ap (λ (b : Bool). finished (if b then answered_get d op (taken a op) else by_turn d op (not_granted a tries)))
      (eq-eqb (status_of a.results) NFS4_OK ok)
      ∙ ap (λ o. finished (answered_get d op o)) took in
      subst (StepsWell (holding (unasked c) h) h op lost [] (begins h op)) (sym is)
      (starts_covered (holding (unasked c) h) op refl at.none_due h lost (put_at c.held h (file_of op) covers_it.0)
      covers_it.1 good)

  later : (tries : ℕ) → IsAnsweredAt c op (Get tries) a → status_of a.results ≡ NFS4ERR_LAYOUTTRYLATER
      → nat_lt (tries + 1) MAX_TRIES ≡ true
      → step c (Hears FromServer (Answers a)) ≡ asks_step (unasked c) op (Get (tries + 1)) (get_args op)
  unfolding not_granted busy finished begun requests args_of
  later tries at busy_ more =
      let d : Done = quiet (unasked c) in
      let is : step c (Hears FromServer (Answers a)) ≡ finished (phased d op (Needs (Get (tries + 1)))) =
      answers_it c op (Get tries) a at
      ∙ ap (λ (s : ℕ). finished (if s == NFS4_OK then answered_get d op (taken a op)
      else by_turn d op (refused_with s a.detail tries)))
      busy_
      ∙ ap (λ (b : Bool). finished (by_turn d op (if b then needing (Get (tries + 1)) else Ends (HeldBy a.detail)))) more in
      is ∙ asked (held_of c.held (file_of op)) refl
    where
      asked : (o : Option Held) → held_of c.held (file_of op) ≡ o
          → closed (progressed (phased (quiet (unasked c)) op (Needs (Get (tries + 1)))))
          ≡ asks_step (unasked c) op (Get (tries + 1)) (get_args op)
      asked None held = ap closed (asks_it (quiet (unasked c)) op (Get (tries + 1)) None refl held)
      asked (Some h) held = ap closed (asks_it (quiet (unasked c)) op (Get (tries + 1)) (Some h) refl held)

  commits : (h : Held) (timed : List TimedOut) → IsAnsweredAt c op (Commit timed) a → held_of c.held (file_of op) ≡ Some h
      → status_of a.results ≡ NFS4_OK
      → step c (Hears FromServer (Answers a))
      ≡ finished (moved (quiet (unasked c)) op (turned (record h { size = a.size }) (accounted op timed)))
  unfolding on_commit
  commits h timed at held ok =
      let d : Done = quiet (unasked c) in
      answers_it c op (Commit timed) a at
      ∙ ap (λ (o : Option Held). finished (commit_under d op a (Commit timed) o)) held
      ∙ ap (λ (m : Moved). finished (moved d op m))
      (rw (eq-eqb (status_of a.results) NFS4_OK ok) refl)

  committed_all : (h : Held) → IsAnsweredAt c op (Commit []) a → held_of c.held (file_of op) ≡ Some h
      → status_of a.results ≡ NFS4_OK
      → step c (Hears FromServer (Answers a))
      ≡ ends_step (holding (unasked c) (record h { size = a.size })) (WriteOk (span_of op).length)
  unfolding finished begun
  committed_all h at held ok =
      commits h [] at held ok
      ∙ ap closed (is_over (with_held (quiet (unasked c)) (record h { size = a.size })) (WriteOk (span_of op).length)
      refl at.none_due)

  committed_but : (h : Held) (t : TimedOut) (timed : List TimedOut) → IsAnsweredAt c op (Commit (t ∷ timed)) a
      → held_of c.held (file_of op) ≡ Some h → status_of a.results ≡ NFS4_OK
      → step c (Hears FromServer (Answers a))
      ≡ asks_step (holding (unasked c) (record h { size = a.size })) op (Report (t ∷ timed))
      (args_of (record h { size = a.size }) op (Report (t ∷ timed)))
  unfolding finished begun
  committed_but h t timed at held ok =
      commits h (t ∷ timed) at held ok
      ∙ needs_well (unasked c) c.call (record h { size = a.size }) op [] [] refl at.none_due
      (held_file c.held (file_of op) h held) (Report (t ∷ timed))

  reported : (timed : List TimedOut) → IsAnsweredAt c op (Report timed) a → is_loss_taken a ≡ true
      → step c (Hears FromServer (Answers a)) ≡ ends_step (unasked c) (WriteOk (span_of op).length)
  unfolding on_report finished begun
  reported timed at loss =
      answers_it c op (Report timed) a at
      ∙ ap (λ (o : Outcome). finished (over (quiet (unasked c)) o)) (rw loss refl)
      ∙ ap closed (is_over (quiet (unasked c)) (WriteOk (span_of op).length) refl at.none_due)

pub answers_step : AnswersStep
unfolding args_of report_of object_of error_at
answers_step = record {
  returned = λ c op a at none. answers_it c op First a at ∙ starts_asking (unasked c) op refl at.none_due none;
  later = λ c op tries a at status more. later c op a tries at status more;
  given = λ c op tries a h lost at ok took good. given c op a tries h lost at ok took good;
  committed = λ c h op a at held ok. committed_all c op a h at held ok;
  committed_but = λ c h op t timed a at held ok. committed_but c op a h t timed at held ok;
  reported = λ c op timed a at loss. reported c op a timed at loss;
}
