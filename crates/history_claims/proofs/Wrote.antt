-- A call scatters with a WRITE that is awaited, and one that writes some bytes ends in ok only once it has scattered: whatever
-- comes to its client.
use Rattle.std.proofs.Common.{◌≡◌, ◌⊎◌, ◌==◌, ◌+◌, nat_lt, ℕ, Bool, true, false, List, [], ◌∷◌, is_some, Option, Some, None, Result, Ok, Err, refl, sym, ap, subst, ◌∙◌, inl, inr, if◌then◌else◌}
use Rattle.std.proofs.lemmas.Bool.{cases_Bool}
use Rattle.layout_ops.specs.declared.messages.Answer.{Answer}
use Rattle.layout_ops.specs.declared.statuses.TheConstants.{NFS4_OK, NFS4ERR_NOENT, NFS4ERR_BADLAYOUT, NFS4ERR_LAYOUTTRYLATER, NFS4ERR_LAYOUTUNAVAILABLE, NFS4ERR_RECALLCONFLICT}
use Rattle.osd_commands.specs.declared.replies.Reply.{Reply}
use Rattle.server_rules.specs.Laws.{In}
use Rattle.stripe_plan.specs.Plans.{stores}
use Rattle.client_rules.specs.declared.limits.TheConstants.{PERFORMED, OTHER_TAG, MAX_TRIES, NO_COMPONENT}
use Rattle.client_rules.specs.Answers.{busy, unavailable, refused_with, not_granted, committed, not_committed, on_commit, is_loss_taken, on_report}
use Rattle.client_rules.specs.Calls.{file_of, span_of, bytes_of, is_write}
use Rattle.client_rules.specs.Commands.{write_commands, not_of}
use Rattle.client_rules.specs.Going.{quiet, with_held, by_turn, moved, begins, begun, requests, asks_under, returns}
use Rattle.client_rules.specs.Grants.{clipped, covers, held_of}
use Rattle.client_rules.specs.History.{Input, Calls, unless_refused, step, state_after}
use Rattle.client_rules.specs.Io.{awaited_in, outs}
use Rattle.client_rules.specs.Laws.{Awaiting}
use Rattle.client_rules.specs.Layouts.{taken}
use Rattle.client_rules.specs.Messages.{Step, awaited_of, still, finished, answered_get, on_get, commit_under, on_need, on_phase, on_call, obeys, no_match}
use Rattle.client_rules.specs.Reads.{reads_on, reads_unless, reads, probes_sent, probes_on, probes_by, probes, is_probe_lost}
use Rattle.client_rules.specs.Replies.{performed, refusal, refused_report, refused, replied, timed_after, gather_timed, scatter_timed, timed_out}
use Rattle.client_rules.specs.Requests.{report_of}
use Rattle.client_rules.specs.Results.{status_of}
use Rattle.client_rules.specs.Steps.{is_bad_range, is_spent, writes_nothing, calls, all_due, new_client}
use Rattle.client_rules.specs.Turns.{turned, ended, needing, closing}
use Rattle.client_rules.specs.Writes.{accounted, is_past_size, written, firsts, laters, scatters_on, scatters, scatters_next, gathers_on, gathers, is_too_short, without_component, lowest}
use Rattle.history_law.specs.Turns.{TurnCases, with_start, IsBeginning, IsFirstNeed}
use Rattle.history_law.proofs.Turns.{each_turn, each_begin, each_progress}
use Rattle.world_history.specs.ClientNames.{Client, Call, CallOp, Busy, BadRange, SlotSpent, Held, Due, Awaited, TimedOut, Store, Column, Span, Moved, Why, Need, First, Get, Commit, Report, Close, Phase, Starts, Needs, Waits, Reads, Probes, Gathers, Scatters, Outcome, WriteOk, ReadOk, NoFile, HeldBy, Fencing, Spent, Degraded, Status, Silent, Lost, Turn, Goes, Ends, Forgets, Done}
use Rattle.relation_law.specs.CallsTurns.{WritesSome, ReadsWait, ReplyFits, TimeFits}
use Rattle.relation_law.specs.Working.{ClientWorks}
use Rattle.relation_law.proofs.CallsMoved.{first_sent}
use Rattle.relation_law.proofs.MessagesAlways.{Any, on_call_fine, quiet_fine, has_bytes, replied_done, timed_done, turn_is_fine, new_fine}
use Rattle.relation_law.proofs.MessagesClients.{IsFit}
use Rattle.relation_law.proofs.MessagesRun.{IsFine, FineDone, CallFits, finishes, call_bytes}
use Rattle.relation_law.proofs.OwnFacts.{replied_fits, timed_fits}
use Rattle.relation_law.proofs.TurnEnds.{writes_some, reads_wait}
use Rattle.relation_law.proofs.WorksRun.{step_works}
use Rattle.file_simulation.specs.Messages.{is_scatter}

-- ---- what a call has done

-- it has scattered: all that it still needs of the server is a commit, or that a report is taken
abbrev pub IsLateNeed : Need → Type 0
IsLateNeed First = ⊥
IsLateNeed (Get tries) = ⊥
IsLateNeed (Commit timed) = Unit {0}
IsLateNeed (Report timed) = Unit {0}
IsLateNeed (Close outcome report) = ⊥

abbrev pub IsLate : Phase → Type 0
IsLate Starts = ⊥
IsLate (Needs need) = IsLateNeed need
IsLate (Waits need) = IsLateNeed need
IsLate (Reads io) = ⊥
IsLate (Probes io) = ⊥
IsLate (Gathers io) = ⊥
IsLate (Scatters io queue) = Unit {0}

-- so has the pending call of a client
pub record HasScattered (x : Client) : Type 0 where
  pub call : Call
  pub pending : x.call ≡ Some call
  pub late : IsLate call.phase

-- it reads
abbrev pub IsReader : Phase → Type 0
IsReader (Reads io) = Unit {0}
IsReader (Probes io) = Unit {0}
IsReader p = ⊥

-- the pending call is a read
pub record HasRead (x : Client) : Type 0 where
  pub call : Call
  pub pending : x.call ≡ Some call
  pub read : is_write call.op ≡ false

-- a call that is given up ends in no ok
abbrev pub IsNoOk : Outcome → Type 0
IsNoOk (WriteOk count) = ⊥
IsNoOk (ReadOk bytes) = ⊥
IsNoOk o = Unit {0}

-- ---- what becomes of a call, which had scattered before, or was a read, if so

module _ (was : Type 0) where
  abbrev pub NeedSo : Need → Type 0
  NeedSo First = Unit {0}
  NeedSo (Get tries) = Unit {0}
  NeedSo (Commit timed) = was
  NeedSo (Report timed) = was
  NeedSo (Close outcome report) = IsNoOk outcome

  -- one that scatters awaits something
  abbrev pub PhaseSo : Phase → Type 0
  PhaseSo Starts = Unit {0}
  PhaseSo (Needs need) = NeedSo need
  PhaseSo (Waits need) = NeedSo need
  PhaseSo (Reads io) = Unit {0}
  PhaseSo (Probes io) = Unit {0}
  PhaseSo (Gathers io) = Unit {0}
  PhaseSo (Scatters io queue) = Awaiting io.awaited

  abbrev pub CallSo : Option Call → Type 0
  CallSo None = Unit {0}
  CallSo (Some call) = PhaseSo call.phase

module _ (was reads_it : Type 0) where
  abbrev pub OutcomeSo : Outcome → Type 0
  OutcomeSo (WriteOk count) = (count ≡ 0) ⊎ was
  OutcomeSo (ReadOk bytes) = reads_it
  OutcomeSo o = Unit {0}

  abbrev pub EndsSo : Option Outcome → Type 0
  EndsSo None = Unit {0}
  EndsSo (Some o) = OutcomeSo o

  abbrev pub TurnSo : Turn → Type 0
  TurnSo (Goes p) = PhaseSo was p
  TurnSo (Ends o) = OutcomeSo o
  TurnSo (Forgets o) = IsNoOk o

  -- in the middle of a turn
  pub record DoneSo (d : Done) : Type 0 where
    pub call : CallSo was d.client.call
    pub outcome : EndsSo d.outcome
    pub fine : FineDone Any d

  pub record StepSo (s : Step) : Type 0 where
    pub call : CallSo was s.client.call
    pub outcome : EndsSo s.outcome

  no_ok : (o : Outcome) → IsNoOk o → OutcomeSo o
  no_ok (WriteOk count) k = absurd k
  no_ok (ReadOk bytes) k = absurd k
  no_ok o k = tt

  -- ---- its dealings with the drives

  module _ (h : Held) (op : CallOp) where
    abbrev So : Moved → Type 0
    So m = TurnSo m.turn

    -- one that is answered read
    abbrev Told : Moved → Type 0
    Told m = (bytes : List ℕ) → m.turn ≡ Ends (ReadOk bytes) → reads_it

    reads_on_so : (r : Span) (got : List Column) (timed : List TimedOut) (sent awaited : List Awaited) →
        Told (reads_on h r got timed sent awaited) → So (reads_on h r got timed sent awaited)
    unfolding reads_on
    reads_on_so r got timed sent [] k = k _ refl
    reads_on_so r got timed sent (a ∷ xs) k = tt

    reads_so : (r : Span) (got : List Column) (timed : List TimedOut) (awaited : List Awaited) →
        Told (reads h r got timed awaited) → So (reads h r got timed awaited)
    unfolding reads
    reads_so r got timed awaited k = by_lost _ k
      where
        by_lost : (ps : Option (List ℕ)) → Told (reads_unless h r got timed awaited ps) →
            So (reads_unless h r got timed awaited ps)
        by_lost (Some ps) k = tt
        by_lost None k = reads_on_so r got timed _ _ k

    probes_on_so : (got : List Column) (timed : List TimedOut) (sent awaited : List Awaited) →
        Told (probes_on h got timed sent awaited) → So (probes_on h got timed sent awaited)
    unfolding probes_on
    probes_on_so got timed sent [] k = k [] refl
    probes_on_so got timed sent (a ∷ xs) k = tt

    probes_so : (got : List Column) (timed : List TimedOut) (awaited : List Awaited) → Told (probes h got timed awaited) →
        So (probes h got timed awaited)
    unfolding probes
    probes_so got timed awaited k = by_present _ k
      where
        at_place : (b : Bool) (ps : List ℕ) (p : ℕ) →
            Told (if b then ended h (Lost ps) else probes_sent h got timed awaited p) →
            So (if b then ended h (Lost ps) else probes_sent h got timed awaited p)
        at_place true ps p k = tt
        at_place false ps p k = probes_on_so got timed _ _ k

        by_present : (n : Option ℕ) → Told (probes_by h got timed awaited n) → So (probes_by h got timed awaited n)
        by_present None k = tt
        by_present (Some n) k = at_place (is_probe_lost h.map (outs h timed) _) _ _ k

    scatters_so : (got : List Column) (timed : List TimedOut) → WritesSome h op timed → So (scatters h op got timed)
    unfolding scatters scatters_on
    scatters_so got timed some =
        by_first (write_commands h (firsts [] (stores h.map (span_of op) (bytes_of op) got (outs h timed))))
        (first_sent h (stores h.map (span_of op) (bytes_of op) got (outs h timed)) (some got))
      where
        by_first : (cs : List Awaited) → Awaiting cs →
            So (scatters_on h op timed (laters [] (stores h.map (span_of op) (bytes_of op) got (outs h timed))) cs cs)
        by_first [] z = absurd z
        by_first (a ∷ cs) z = tt

    gathers_on_so : (got : List Column) (timed : List TimedOut) (sent awaited : List Awaited) → WritesSome h op timed →
        So (gathers_on h op got timed sent awaited)
    unfolding gathers_on
    gathers_on_so got timed sent [] some = scatters_so got timed some
    gathers_on_so got timed sent (a ∷ xs) some = tt

    gathers_so : (got : List Column) (timed : List TimedOut) (awaited : List Awaited) → WritesSome h op timed →
        So (gathers h op got timed awaited)
    unfolding gathers
    gathers_so got timed awaited some = gathers_on_so got timed _ _ some

    accounted_so : (timed : List TimedOut) → was → TurnSo (accounted op timed)
    accounted_so [] k = inr k
    accounted_so (t ∷ ts) k = k

    written_so : (timed : List TimedOut) → was → TurnSo (written h op timed)
    unfolding written
    written_so timed k = by (is_past_size h op)
      where
        by : (b : Bool) → TurnSo (if b then needing (Commit timed) else accounted op timed)
        by true = k
        by false = accounted_so timed k

    scatters_on_so : (timed : List TimedOut) (queue : List Store) (sent awaited : List Awaited) → was →
        So (scatters_on h op timed queue sent awaited)
    unfolding scatters_on
    scatters_on_so timed queue sent [] k = written_so timed k
    scatters_on_so timed queue sent (a ∷ xs) k = tt

    scatters_next_so : (timed : List TimedOut) (queue : List Store) (k : ℕ) (awaited : List Awaited) → was →
        So (scatters_next h op timed queue k awaited)
    unfolding scatters_next
    scatters_next_so timed queue k awaited z = scatters_on_so timed _ _ _ z

    -- ---- a reply, and a timeout

    performed_so : (p : Phase) → PhaseSo was p → (IsLate p → was) → (IsReader p → reads_it) → (a : Awaited) (q : Reply) →
        ReplyFits h op p a → So (performed h op p a q)
    performed_so (Reads io) x late kind a q fits = reads_on_so _ _ _ _ _ (λ bytes e. kind tt)
    performed_so (Probes io) x late kind a q fits = probes_on_so _ _ _ _ (λ bytes e. kind tt)
    performed_so (Gathers io) x late kind a q fits = gathers_on_so _ _ _ _ fits
    performed_so (Scatters io queue) x late kind a q fits = scatters_next_so _ _ _ _ (late tt)
    performed_so Starts x late kind a q fits = tt
    performed_so (Needs n) x late kind a q fits = x
    performed_so (Waits n) x late kind a q fits = x

    refused_so : (p : Phase) (a : Awaited) (q : Reply) → So (refused h p a q)
    unfolding refused
    refused_so p a q = by (q.verdict == OTHER_TAG)
      where
        by : (b : Bool) → So (if b then turned h (Forgets (refusal a q)) else turned h (closing (refusal a q)
            (refused_report h p a q)))
        by true = tt
        by false = tt

    replied_so : (p : Phase) → PhaseSo was p → (IsLate p → was) → (IsReader p → reads_it) → (a : Awaited) (q : Reply) →
        ReplyFits h op p a → So (replied h op p a q)
    unfolding replied
    replied_so p x late kind a q fits = by (q.verdict == PERFORMED)
      where
        by : (b : Bool) → So (if b then performed h op p a q else refused h p a q)
        by true = performed_so p x late kind a q fits
        by false = refused_so p a q

    timed_so : (p : Phase) → PhaseSo was p → (IsLate p → was) → (IsReader p → reads_it) → (k : ℕ) (a : Awaited)
        (xs : List Awaited) → TimeFits h op p a xs → So (timed_out h op p k a xs)
    unfolding gather_timed scatter_timed
    timed_so (Reads io) x late kind k a xs fits = reads_so _ _ _ _ (λ bytes e. kind tt)
    timed_so (Probes io) x late kind k a xs fits = probes_so _ _ _ (λ bytes e. kind tt)
    timed_so (Gathers io) x late kind k a xs fits = by (is_too_short h op (timed_after io.timed a xs)) fits
      where
        by : (b : Bool) → (b ≡ false → WritesSome h op (timed_after io.timed a xs)) →
            So (if b then ended h (Silent k) else gathers h op io.got (timed_after io.timed a xs) (not_of k io.awaited))
        by true some = tt
        by false some = gathers_so _ _ _ (some refl)
    timed_so (Scatters io queue) x late kind k a xs fits = by (is_too_short h op (timed_after io.timed a xs))
      where
        by : (b : Bool) → So
            (if b then turned h (closing (Silent k) (report_of h (timed_after io.timed a xs)))
            else scatters_on h op (timed_after io.timed a xs) (without_component k queue) [] (not_of k io.awaited))
        by true = tt
        by false = scatters_on_so _ _ _ _ (late tt)
    timed_so Starts x late kind k a xs fits = tt
    timed_so (Needs n) x late kind k a xs fits = x
    timed_so (Waits n) x late kind k a xs fits = x

    -- ---- its begin

    -- where it isn't answered
    begins_so : (is_write op ≡ true → WritesSome h op []) → ReadsWait h op → So (begins h op)
    unfolding begins
    begins_so some wait =
        by (is_write op) ((clipped h.size (span_of op)).length == 0) some (λ bytes e. absurd (wait bytes e))
      where
        by : (b n : Bool) → (b ≡ true → WritesSome h op []) → Told
            (if b then gathers h op [] [] []
            else if n then probes h [] [] [] else reads h (clipped h.size (span_of op)) [] [] []) →
            So (if b then gathers h op [] [] []
            else if n then probes h [] [] [] else reads h (clipped h.size (span_of op)) [] [] [])
        by true n some k = gathers_so [] [] [] (some refl)
        by false true some k = probes_so [] [] [] k
        by false false some k = reads_so (clipped h.size (span_of op)) [] [] [] k

  -- ---- what has become of it

  turn_so : (d : Done) (op : CallOp) (t : Turn) → EndsSo d.outcome → TurnSo t →
      CallSo was (by_turn d op t).client.call × EndsSo (by_turn d op t).outcome
  turn_so d op (Goes p) o x = (x, o)
  turn_so d op (Ends u) o x = (tt, x)
  turn_so d op (Forgets u) o x = (tt, no_ok u x)

  moved_so : (d : Done) (op : CallOp) (m : Moved) → EndsSo d.outcome → TurnSo m.turn → FineDone Any (moved d op m) →
      DoneSo (moved d op m)
  moved_so d op m o x fine =
      let t = turn_so (record (with_held d m.held) { commands = m.sent }) op m.turn o x in
      record { call = t.0; outcome = t.1; fine = fine }

  -- ---- answers of the server

  busy_so : (tries : ℕ) (o : Outcome) → IsNoOk o → TurnSo (busy tries o)
  unfolding busy
  busy_so tries o k = by (nat_lt (tries + 1) MAX_TRIES)
    where
      by : (b : Bool) → TurnSo (if b then needing (Get (tries + 1)) else Ends o)
      by true = tt
      by false = no_ok o k

  lacked_so : (detail : ℕ) → OutcomeSo (unavailable detail)
  lacked_so detail = by (detail == NO_COMPONENT)
    where
      by : (b : Bool) → OutcomeSo (if b then Spent else Degraded detail)
      by true = tt
      by false = tt

  refused_with_so : (status detail tries : ℕ) → TurnSo (refused_with status detail tries)
  refused_with_so status detail tries =
      by (status == NFS4ERR_NOENT) (status == NFS4ERR_LAYOUTTRYLATER) (status == NFS4ERR_RECALLCONFLICT)
      (status == NFS4ERR_LAYOUTUNAVAILABLE)
    where
      by : (a b c e : Bool) → TurnSo
          (if a then Ends NoFile
          else if b then busy tries (HeldBy detail)
          else if c then busy tries (Fencing detail)
          else if e then Ends (unavailable detail)
          else Ends (Status status detail))
      by true b c e = tt
      by false true c e = busy_so tries (HeldBy detail) tt
      by false false true e = busy_so tries (Fencing detail) tt
      by false false false true = lacked_so detail
      by false false false false = tt

  get_so : (d : Done) (op : CallOp) (tries : ℕ) (a : Answer) → EndsSo d.outcome →
      CallSo was (on_get d op tries a).client.call × EndsSo (on_get d op tries a).outcome
  unfolding not_granted
  get_so d op tries a o = by (status_of a.results == NFS4_OK)
    where
      given : (r : Result Held Why) → CallSo was (answered_get d op r).client.call × EndsSo (answered_get d op r).outcome
      given (Err w) = (tt, tt)
      given (Ok h) = (tt, o)

      by : (b : Bool) →
          CallSo was (if b then answered_get d op (taken a op)
          else by_turn d op (refused_with (status_of a.results) a.detail tries)).client.call
          × EndsSo (if b then answered_get d op (taken a op)
          else by_turn d op (refused_with (status_of a.results) a.detail tries)).outcome
      by true = given (taken a op)
      by false = turn_so d op _ o (refused_with_so (status_of a.results) a.detail tries)

  commit_so : (h : Held) (op : CallOp) (a : Answer) (timed : List TimedOut) → was → TurnSo (on_commit h op a timed).turn
  unfolding on_commit not_committed
  commit_so h op a timed k = by (status_of a.results == NFS4_OK) (status_of a.results == NFS4ERR_BADLAYOUT)
    where
      by : (b f : Bool) → TurnSo
          (if b then committed h op a timed
          else turned h (if f then Forgets (Status (status_of a.results) a.detail)
          else Ends (Status (status_of a.results) a.detail))).turn
      by true f = accounted_so h op timed k
      by false true = tt
      by false false = tt

  report_so : (op : CallOp) (a : Answer) (timed : List TimedOut) → was → OutcomeSo (on_report op a timed)
  unfolding on_report
  report_so op a timed k = by (is_loss_taken a)
    where
      by : (b : Bool) → OutcomeSo (if b then WriteOk (span_of op).length else Silent (lowest timed))
      by true = inr k
      by false = tt

  need_so : (d : Done) (op : CallOp) (n : Need) (a : Answer) → CallSo was d.client.call → EndsSo d.outcome → NeedSo was n →
      CallSo was (on_need d op n a).client.call × EndsSo (on_need d op n a).outcome
  need_so d op First a c o x = (tt, o)
  need_so d op (Get tries) a c o x = get_so d op tries a o
  need_so d op (Commit timed) a c o x = by (held_of d.client.held (file_of op))
    where
      by : (g : Option Held) → CallSo was (commit_under d op a (Commit timed) g).client.call
          × EndsSo (commit_under d op a (Commit timed) g).outcome
      by None = (c, o)
      by (Some h) =
          let m : Moved = on_commit h op a timed in
          turn_so (record (with_held d m.held) { commands = m.sent }) op m.turn o (commit_so h op a timed x)
  need_so d op (Report timed) a c o x = (tt, report_so op a timed x)
  need_so d op (Close u report) a c o x = (tt, no_ok u x)

  phase_so : (d : Done) (op : CallOp) (p : Phase) (a : Answer) → CallSo was d.client.call → EndsSo d.outcome → PhaseSo was p →
      CallSo was (on_phase d op p a).client.call × EndsSo (on_phase d op p a).outcome
  phase_so d op (Waits n) a c o x = need_so d op n a c o x
  phase_so d op Starts a c o x = (c, o)
  phase_so d op (Needs n) a c o x = (c, o)
  phase_so d op (Reads io) a c o x = (c, o)
  phase_so d op (Probes io) a c o x = (c, o)
  phase_so d op (Gathers io) a c o x = (c, o)
  phase_so d op (Scatters io queue) a c o x = (c, o)

  answer_so : (d : Done) (o : Option Call) (a : Answer) → CallSo was d.client.call → EndsSo d.outcome → CallSo was o →
      CallSo was (on_call d o a).client.call × EndsSo (on_call d o a).outcome
  answer_so d None a c e x = (c, e)
  answer_so d (Some call) a c e x = phase_so d call.op call.phase a c e x

  -- ---- to the end of a turn

  first_so : (op : CallOp) (n : Need) (o : Option Held) → IsFirstNeed op n o → NeedSo was n
  first_so op First o first = tt
  first_so op (Get tries) o first = tt
  first_so op (Commit timed) o first = absurd first
  first_so op (Report timed) o first = absurd first
  first_so op (Close outcome report) o first = absurd first

  begins_now : (d : Done) (op : CallOp) (h : Held) → DoneSo d → IsBeginning d.client op →
      held_of d.client.held (file_of op) ≡ Some h → covers h op ≡ true → DoneSo (moved d op (begins h op))
  begins_now d op h g is held cover =
      let has = call_bytes d.client.held d.client.call (record { op = op; phase = Starts }) is g.fine.call in
      moved_so d op (begins h op) g.outcome
      (begins_so h op (λ w. writes_some h op (g.fine.usable (file_of op) h held) has cover w)
      (reads_wait h op (g.fine.usable (file_of op) h held) has cover))
      ((finishes Any).begun d op h g.fine is held cover)

  begun_so : (d : Done) → DoneSo d → DoneSo (begun d)
  begun_so d g =
      each_begin d DoneSo (record {
        stays = g;
        needs = λ op n is out first. record {
          call = first_so op n (held_of d.client.held (file_of op)) first;
          outcome = g.outcome;
          fine = (finishes Any).needs d op n g.fine is out first;
        };
        begun = λ op h is held cover. begins_now d op h g is held cover;
      })

  asks_so : (d : Done) (op : CallOp) (n : Need) (h : Option Held) → EndsSo d.outcome → NeedSo was n →
      CallSo was (asks_under d op n h).client.call × EndsSo (asks_under d op n h).outcome
  unfolding requests
  asks_so d op n None o x = (x, o)
  asks_so d op n (Some h) o x = (x, o)

  returns_so : (d : Done) (u : Option Due) → CallSo was d.client.call → EndsSo d.outcome →
      CallSo was (returns d u).client.call × EndsSo (returns d u).outcome
  unfolding requests
  returns_so d None c o = (c, o)
  returns_so d (Some u) c o = (c, o)

  finished_so : (d : Done) → DoneSo d → StepSo (finished d)
  unfolding finished
  finished_so d g =
      let b : DoneSo (begun d) = begun_so d g in
      let p = each_progress (begun d) (λ (e : Done). CallSo was e.client.call × EndsSo e.outcome) (record {
        waits = λ r out. (b.call, b.outcome);
        works = λ call is out. (b.call, b.outcome);
        spent = λ none out z. (b.call, b.outcome);
        asks = λ op n h is out held. asks_so (begun d) op n h b.outcome (subst (CallSo was) is b.call);
        gives_back = λ u none out left is. returns_so (begun d) u b.call b.outcome;
      }) in
      record { call = p.0; outcome = p.1 }

-- ---- a turn

-- a client whose call scatters awaits something, and one whose call is given up doesn't acknowledge it
abbrev pub IsSo : Client → Type 0
IsSo x = CallSo (HasScattered x) x.call

-- whatever came to it
pub record IsSound (x : Client) : Type 0 where
  pub fine : IsFine x
  pub works : ClientWorks x
  pub so : IsSo x

module _ (x : Client) (i : Input) (s : IsSound x) where
  abbrev pub Ended : Step → Type 0
  Ended t = StepSo (HasScattered x) (HasRead x) t

  late_was : (call : Call) → x.call ≡ Some call → IsLate call.phase → HasScattered x
  late_was call is late = record { call = call; pending = is; late = late }

  fit : (call : Call) (h : Held) → x.call ≡ Some call → held_of x.held (file_of call.op) ≡ Some h → IsFit h call.op call.phase
  fit call h is held = (subst (CallFits x.held) is s.fine.call).1 h held

  read_was : (call : Call) (h : Held) → x.call ≡ Some call → held_of x.held (file_of call.op) ≡ Some h → (p : Phase) →
      call.phase ≡ p → IsReader p → HasRead x
  read_was call h is held (Reads io) e k = record { call = call; pending = is; read = (rw e at (fit call h is held)).is }
  read_was call h is held (Probes io) e k = record { call = call; pending = is; read = (rw e at (fit call h is held)).is }
  read_was call h is held Starts e k = absurd k
  read_was call h is held (Needs n) e k = absurd k
  read_was call h is held (Waits n) e k = absurd k
  read_was call h is held (Gathers io) e k = absurd k
  read_was call h is held (Scatters io queue) e k = absurd k

  phase_was : (call : Call) → x.call ≡ Some call → PhaseSo (HasScattered x) call.phase
  phase_was call is = subst (CallSo (HasScattered x)) is s.so

  rests_so : Ended (still x)
  rests_so = record { call = s.so; outcome = tt }

  -- where the grants stay
  ends_so : (d : Done) → CallSo (HasScattered x) d.client.call → EndsSo (HasScattered x) (HasRead x) d.outcome → FineDone Any d →
      Ended (finished d)
  ends_so d c o f = finished_so (HasScattered x) (HasRead x) d (record { call = c; outcome = o; fine = f })

  -- a call of no byte is over at once
  empty_so : (op : CallOp) → writes_nothing op ≡ true → Ended (step x (Calls op))
  unfolding calls
  empty_so op e = by_tests (is_some x.call) (is_bad_range (span_of op)) (is_spent x.next) (writes_nothing op) e
    where
      by_tests : (a b t w : Bool) → w ≡ true → Ended
          (unless_refused x (if a then Err Busy else if b then Err BadRange else if t then Err SlotSpent
          else Ok (if w then record (still x) { outcome = Some (WriteOk 0) } else finished (quiet (with_start x op)))))
      by_tests true b t w e = rests_so
      by_tests false true t w e = rests_so
      by_tests false false true w e = rests_so
      by_tests false false false true e = record { call = s.so; outcome = inl refl }
      by_tests false false false false e = absurd (cc e)

  cases : TurnCases x i (λ t. t ≡ step x i → Ended t)
  cases = record {
    rests = λ e. rests_so;
    nothing = λ op is none e. record { call = s.so; outcome = inl refl };
    called = λ op is free can e. elim (cases_Bool (writes_nothing op)) [
      | inl none ↦ subst Ended (sym (e ∙ ap (step x) is)) (empty_so op none)
      | inr some ↦ ends_so (quiet (with_start x op)) tt tt
          (record { usable = s.fine.usable; call = (has_bytes op some, λ h there. tt); outcome = tt })
    ];
    answered = λ a k e.
        let d : Done = quiet (record x { outstanding = None }) in
        let y = answer_so (HasScattered x) (HasRead x) d x.call a s.so tt s.so in
        ends_so (on_call d x.call a) y.0 y.1
        (on_call_fine d x.call a refl (record { usable = s.fine.usable; call = s.fine.call; outcome = tt }));
    replied = λ drive q call h a k e.
        let f = replied_done x i s.fine Any drive q call h a k (λ bytes z. tt) in
        let m : Moved = replied h call.op call.phase a q in
        finished_so (HasScattered x) (HasRead x) (moved (quiet x) call.op m)
        (moved_so (HasScattered x) (HasRead x) (quiet x) call.op m tt
        (replied_so (HasScattered x) (HasRead x) h call.op call.phase (phase_was call k.call_is) (late_was call k.call_is)
        (read_was call h k.call_is k.held call.phase refl) a q
        (replied_fits x i s.fine s.works drive q call h a k call.phase refl)) f);
    unheld = λ e. ends_so (quiet x) s.so tt (quiet_fine Any x s.fine);
    recalled = λ q is e. ends_so (obeys x q) s.so tt
        (record { usable = s.fine.usable; call = s.fine.call; outcome = tt });
    unmatched = λ q is e. ends_so (no_match x q) s.so tt
        (record { usable = s.fine.usable; call = s.fine.call; outcome = tt });
    timed = λ n call h a xs k e.
        let f = timed_done x i s.fine Any n call h a xs k (λ bytes z. tt) in
        let m : Moved = timed_out h call.op call.phase n a xs in
        finished_so (HasScattered x) (HasRead x) (moved (quiet x) call.op m)
        (moved_so (HasScattered x) (HasRead x) (quiet x) call.op m tt
        (timed_so (HasScattered x) (HasRead x) h call.op call.phase (phase_was call k.call_is) (late_was call k.call_is)
        (read_was call h k.call_is k.held call.phase refl) n a xs
        (timed_fits x i s.fine s.works n call h a xs k call.phase refl)) f);
    leaves = λ is e. ends_so (quiet (record x { due = all_due x.due x.held })) s.so tt
        (record { usable = s.fine.usable; call = s.fine.call; outcome = tt });
    resends = λ is e. record { call = s.so; outcome = tt };
  }

  -- What becomes of the call in a step of its client.
  pub step_so : Ended (step x i)
  step_so = each_turn x i (λ t. t ≡ step x i → Ended t) cases refl

  -- So a write of some bytes is acknowledged only once it has scattered, and only a read is answered with bytes.
  pub written_late : (count : ℕ) → (step x i).outcome ≡ Some (WriteOk count) → (count ≡ 0) ⊎ HasScattered x
  written_late count e = subst (EndsSo (HasScattered x) (HasRead x)) e step_so.outcome

  pub answered_read : (bytes : List ℕ) → (step x i).outcome ≡ Some (ReadOk bytes) → HasRead x
  answered_read bytes e = subst (EndsSo (HasScattered x) (HasRead x)) e step_so.outcome

-- ---- behind a turn

phase_behind : (was : Type 0) (y : Client) (call : Call) → y.call ≡ Some call → PhaseSo was call.phase → IsSo y
phase_behind was y call is x = subst (CallSo (HasScattered y)) (sym is) (by call.phase refl x)
  where
    late : (p : Phase) → call.phase ≡ p → IsLate p → HasScattered y
    late p e k = record { call = call; pending = is; late = subst IsLate (sym e) k }

    by_need : (n : Need) → (IsLateNeed n → HasScattered y) → NeedSo was n → NeedSo (HasScattered y) n
    by_need First l x = tt
    by_need (Get tries) l x = tt
    by_need (Commit timed) l x = l tt
    by_need (Report timed) l x = l tt
    by_need (Close o report) l x = x

    by : (p : Phase) → call.phase ≡ p → PhaseSo was p → PhaseSo (HasScattered y) p
    by Starts e x = tt
    by (Needs n) e x = by_need n (late (Needs n) e) x
    by (Waits n) e x = by_need n (late (Waits n) e) x
    by (Reads io) e x = tt
    by (Probes io) e x = tt
    by (Gathers io) e x = tt
    by (Scatters io queue) e x = x

so_behind : (was : Type 0) (y : Client) → CallSo was y.call → IsSo y
so_behind was y x = by y.call refl x
  where
    by : (o : Option Call) → y.call ≡ o → CallSo was o → IsSo y
    by None e x = subst (CallSo (HasScattered y)) (sym e) tt
    by (Some call) e x = phase_behind was y call e x

-- a call that scatters awaits this
pub record AwaitsWrite (y : Client) (call : Call) : Type 0 where
  pub scatters : is_scatter call.phase ≡ true
  pub awaited : Awaited
  pub there : In awaited (awaited_of y.call)

-- Behind a step a call had scattered before, or it scatters, and awaits something.
pub late_behind : (x : Client) (i : Input) → IsSound x → (k : HasScattered (step x i).client) →
    HasScattered x ⊎ AwaitsWrite (step x i).client k.call
late_behind x i s k = by k.call.phase refl k.late (subst (CallSo (HasScattered x)) k.pending (step_so x i s).call)
  where
    by_need : (n : Need) → IsLateNeed n → NeedSo (HasScattered x) n → HasScattered x
    by_need First l z = absurd l
    by_need (Get tries) l z = absurd l
    by_need (Commit timed) l z = z
    by_need (Report timed) l z = z
    by_need (Close o report) l z = absurd l

    first : (xs : List Awaited) → Awaiting xs → (a : Awaited) × In a xs
    first [] z = absurd z
    first (a ∷ xs) z = (a, inl refl)

    by : (p : Phase) → k.call.phase ≡ p → IsLate p → PhaseSo (HasScattered x) p →
        HasScattered x ⊎ AwaitsWrite (step x i).client k.call
    by Starts e l z = absurd l
    by (Needs n) e l z = inl (by_need n l z)
    by (Waits n) e l z = inl (by_need n l z)
    by (Reads io) e l z = absurd l
    by (Probes io) e l z = absurd l
    by (Gathers io) e l z = absurd l
    by (Scatters io queue) e l z =
        let f = first io.awaited z in
        inr (record {
          scatters = ap is_scatter e;
          awaited = f.0;
          there = subst (λ (o : Option Call). In f.0 (awaited_of o)) (sym k.pending)
              (subst (λ (q : Phase). In f.0 (awaited_in q)) (sym e) f.1);
        })

-- ---- any inputs

pub sound_step : (x : Client) (i : Input) → IsSound x → IsSound (step x i).client
sound_step x i s = record {
  fine = turn_is_fine x i s.fine;
  works = step_works x s.works i;
  so = so_behind (HasScattered x) (step x i).client (step_so x i s).call;
}

all_sound : (x : Client) (is : List Input) → IsSound x → IsSound (state_after x is)
all_sound x [] s = s
all_sound x (i ∷ is) s = all_sound (step x i).client is (sound_step x i s)

-- after any inputs to a new client
pub always_sound : (number sequence : ℕ) (is : List Input) → IsSound (state_after (new_client number sequence) is)
always_sound number sequence is =
    all_sound (new_client number sequence) is (record { fine = new_fine number sequence; works = tt; so = tt })
