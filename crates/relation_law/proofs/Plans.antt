-- The plan of a write that starts in a client's turn is that of its entry.
-- Towards `CallsGoOn` (`relation_law/specs/Steps.antt`).
use Rattle.std.proofs.Common.{◌≡◌, ◌==◌, ◌<◌, ◌+◌, ◌++◌, ◌⊎◌, ℕ, Bool, true, false, List, [], ◌∷◌, length, Option, Some, None, refl, sym, ap, subst, ◌∙◌, inl, inr, if◌then◌else◌}
use Rattle.std.specs.List.{All}
use Rattle.std.proofs.lemmas.Bool.{cases_Bool, eqb-true}
use Rattle.data_map.specs.declared.check.RawMap.{RawMap}
use Rattle.data_map.specs.Check.{IsChecked}
use Rattle.file_log.specs.Judge.{byte_for}
use Rattle.layout_ops.specs.declared.messages.Answer.{Answer}
use Rattle.layout_ops.specs.declared.statuses.TheConstants.{NFS4_OK}
use Rattle.osd_commands.specs.declared.replies.Reply.{Reply}
use Rattle.server_rules.specs.Laws.{In}
use Rattle.server_rules.proofs.Members.{in_either}
use Rattle.client_rules.specs.declared.limits.TheConstants.{PERFORMED}
use Rattle.client_rules.specs.Answers.{on_commit}
use Rattle.client_rules.specs.Calls.{file_of, span_of, bytes_of}
use Rattle.client_rules.specs.Going.{quiet, by_turn, begun, with_held}
use Rattle.client_rules.specs.Grants.{held_of}
use Rattle.client_rules.specs.History.{Input}
use Rattle.client_rules.specs.Io.{awaited_in, got_of, outs}
use Rattle.client_rules.specs.Layouts.{taken}
use Rattle.client_rules.specs.Messages.{answered_get, commit_under, on_call, on_need, on_phase}
use Rattle.client_rules.specs.Answers.{not_granted}
use Rattle.client_rules.specs.Replies.{answers, replied, timed_out}
use Rattle.client_rules.specs.Results.{status_of}
use Rattle.client_rules.specs.Writes.{firsts, laters}
use Rattle.history_law.specs.Turns.{IsReplied}
use Rattle.history_law.proofs.Turns.{each_begin}
use Rattle.world_history.specs.ServerNames.{Slot}
use Rattle.world_history.specs.ClientNames.{Awaited, Call, CallOp, Client, Column, Done, Held, Io, Need, First, Get, Commit, Report, Close, Phase, Starts, Needs, Waits, Reads, Probes, Gathers, Scatters, Store, TimedOut, Turn, Goes, Ends, Forgets, Why}
use Rattle.std.specs.Prelude.{Result, Ok, Err}
use Rattle.world_history.specs.Handed.{op_in}
use Rattle.world_history.specs.State.{World}
use Rattle.fence_law.specs.Law.{IsCode, IsWholeAt, byte_before}
use Rattle.fence_law.specs.Machine.{Allowed, Lawful, after_all}
use Rattle.fence_law.specs.Starts.{written_start}
use Rattle.fence_law.specs.State.{State, Event, Grant, Start}
use Rattle.fence_law.specs.State.{Event as event}
use Rattle.fence_law.specs.State.Call.{Idle, Reads as AtRead, Writes as AtWrite}
use Rattle.plan_law.specs.FileLayout.{layout_of}
use Rattle.plan_law.specs.Sending.{MayScatter}
use Rattle.plan_law.specs.Writes.{touches_column, hits_cell, part_of}
use Rattle.file_simulation.specs.Calls.{CallAt, CallIs, CallOn, IsClient, IsGathering, IsHolding, IsIdle, IsScattering}
use Rattle.file_simulation.specs.ClientEvents as table
use Rattle.file_simulation.specs.EventLists.{entry_in, entry_of, where_so}
use Rattle.file_simulation.specs.Messages.{AreShown, HasReplied, ShownIn, WasShown, is_scatter}
use Rattle.file_simulation.specs.Requests.{kept_for}
use Rattle.file_simulation.specs.Showing.{IsRun}
use Rattle.relation_law.specs.CallsCases.{IsTurn, Begins, Answered, Replied, Timed, Stays}
use Rattle.relation_law.specs.CallsTurns.{IsStarting, stores_of as sent_stores}
use Rattle.relation_law.specs.Frames.{AreAll, IsOfClient}
use Rattle.relation_law.proofs.CallsSends.{IsPlanned, gather_starts}
use Rattle.relation_law.proofs.CallsStarts.{IsPlannedAt, PlanFits, gathered_none}
use Rattle.relation_law.proofs.FramesStay.{server_stays_all}
use Rattle.relation_law.proofs.MessagesAlways.{Any, found_one}
use Rattle.relation_law.proofs.MessagesClients.{IsFit, IsUsable}
use Rattle.relation_law.proofs.MessagesContent.{stores_of}
use Rattle.relation_law.proofs.MessagesRun.{CallFits, FineDone, IsFine, finishes}
use Rattle.relation_law.proofs.MessagesScatter.{Begins as ScatterBegins, plan_is}
use Rattle.relation_law.proofs.ReadsShown.{AllShown}
use Rattle.relation_law.proofs.ReadsStarts.{gather_may_start}
use Rattle.relation_law.proofs.CalmRuns.{client_run, whole_now}
use Rattle.relation_law.proofs.Scatters.{Scattered, HasPlan, MovesSo, moved_plan, none_plan, begun_plan, replied_so, replied_performed, timed_so}
use Rattle.relation_law.proofs.Splits.{planned_split, command_stores}
use Rattle.relation_law.proofs.TurnEnds.{PlansFit}

-- ---- at a machine that is behind the call's gather

module _ (m : RawMap) (tag c : ℕ) (h : Held) (op : CallOp) (got : List Column) (io : Io) (queue : List Store) (cs : List Awaited)
    (scat : Scattered h op got io queue cs) (long : length h.components ≡ m.comps)
    (small : All (λ v. v < 256) (bytes_of op)) where
  -- a machine in which the call has gathered what its write needs
  abbrev pub begins_at : (z : State) (j : ℕ) → z.layout ≡ layout_of m tag → IsHolding m z c h → IsGathering m z c op j →
      AllShown z j got → IsWholeAt z → ScatterBegins m tag z c h op got io.timed j
  begins_at z j lay k gathering shown whole = record {
    layout = lay;
    holding = k;
    long = long;
    covers = scat.covers;
    bytes = record { is = scat.is; long = scat.some.long; some = scat.some.some; small = small };
    gathered = record {
      gathering = gathering;
      may = subst (λ (n : RawMap). MayScatter n (span_of op) (bytes_of op) got (outs h io.timed)) k.same.agrees.map scat.may;
      shown = shown;
    };
    whole = whole;
  }

module _ (m : RawMap) (tag c : ℕ) (h : Held) (op : CallOp) (got : List Column) (io : Io) (queue : List Store) (cs : List Awaited)
    (scat : Scattered h op got io queue cs) (long : length h.components ≡ m.comps)
    (small : All (λ v. v < 256) (bytes_of op)) (g : Grant) where
  -- what the write writes down, by its grant and its gather
  abbrev StartBy : State → Grant → ℕ → Start
  StartBy z y n =
      written_start z c y (byte_for (span_of op).offset (bytes_of op)) (touches_column h.map (span_of op))
      (hits_cell h.map (span_of op) y.left) (byte_before z n) ((span_of op).offset + (span_of op).length)
      (part_of h.map (span_of op))

  lists : firsts [] (stores_of h op got io.timed) ++ laters [] (stores_of h op got io.timed) ≡ sent_stores cs ++ queue
  lists =
      ap (λ (l : List Store). l ++ laters [] (stores_of h op got io.timed))
      (sym (command_stores scat.before (firsts [] (stores_of h op got io.timed))))
      ∙ ap (λ (a : List Awaited). sent_stores a ++ laters [] (stores_of h op got io.timed)) (sym scat.first)
      ∙ ap (λ (l : List Store). sent_stores cs ++ l) (sym scat.rest)

  planned_at : (z : State) (j : ℕ) → z.layout ≡ layout_of m tag → (k : IsHolding m z c h) → z.held c ≡ Some g →
      IsGathering m z c op j → AllShown z j got → IsWholeAt z → IsPlannedAt z c h op g io queue cs
  planned_at z j lay k has gathering shown whole =
      let b : ScatterBegins m tag z c h op got io.timed j =
      begins_at m tag c h op got io queue cs scat long small z j lay k gathering shown whole in
      let plan : IsPlanned (StartBy z k.grant j) io.timed (stores_of h op got io.timed) =
      plan_is m tag z c h op got io.timed j b in
      let both : Some k.grant ≡ Some g = sym k.held ∙ has in
      let grant_is : k.grant ≡ g = cc both in
      let entry_is : entry_of z c ≡ j = ap entry_in gathering.at_ in
      let start : StartBy z k.grant j ≡ StartBy z g (entry_of z c) =
      ap (λ (y : Grant). StartBy z y j) grant_is ∙ ap (λ (n : ℕ). StartBy z g n) (sym entry_is) in
      subst (λ (x : Start). IsPlanned x io.timed (sent_stores cs ++ queue)) start
      (subst (IsPlanned (StartBy z k.grant j) io.timed) lists
      (planned_split (StartBy z k.grant j) io.timed (stores_of h op got io.timed) plan))

  -- behind a gather, or where nothing was gathered
  pub plans_at : (u : State) → u.layout ≡ layout_of m tag → IsChecked m → IsRun u → IsCode u.layout → IsHolding m u c h →
      u.held c ≡ Some g → ((i : ℕ) → IsGathering m u c op i → AllShown u i got) → (IsIdle u c → got ≡ []) →
      ((i : ℕ) → IsGathering m u c op i → IsPlannedAt u c h op g io queue cs)
      × (IsIdle u c → IsPlannedAt (gathered_none u c h op g) c h op g io queue cs)
  plans_at u lay checked run code k has shown none = (
    λ i gathering. planned_at u i lay k has gathering (shown i gathering) (whole_now u run code),
    λ idle.
        let both : Some k.grant ≡ Some g = sym k.held ∙ has in
        let grant_is : k.grant ≡ g = cc both in
        let allowed : Allowed u (event.StartsRead c g 0 0 (touches_column h.map (span_of op))) =
        subst (λ (y : Grant). Allowed u (event.StartsRead c y 0 0 (touches_column h.map (span_of op)))) grant_is
        (gather_may_start m tag u c h op checked lay k idle.at_ scat.is scat.covers) in
        let z : State = gathered_none u c h op g in
        let run_there : IsRun (gathered_none u c h op g) =
        client_run c u run (event.StartsRead c g 0 0 (touches_column h.map (span_of op)) ∷ []) (refl, tt) (allowed, tt) in
        let gathering : IsGathering m (gathered_none u c h op g) c op u.count =
        subst (λ (n : RawMap). IsGathering n (gathered_none u c h op g) c op u.count) k.same.agrees.map
        (gather_starts h.map u c op g idle has) in
        let holding : IsHolding m (gathered_none u c h op g) c h = record {
          grant = k.grant;
          held = k.held;
          same = k.same;
          size = k.size;
          nonce = k.nonce;
        } in
        planned_at (gathered_none u c h op g) u.count lay holding has gathering
        (λ col n. absurd (subst (In col) (none idle) n)) (whole_now (gathered_none u c h op g) run_there code),
  )

-- ---- an answer sends no command

by_turn_sends : (d : Done) (op : CallOp) (t : Turn) → (by_turn d op t).commands ≡ d.commands
by_turn_sends d op (Goes p) = refl
by_turn_sends d op (Ends u) = refl
by_turn_sends d op (Forgets u) = refl

module _ (x : Client) (a : Answer) where
  abbrev freed : Done
  freed = quiet (record x { outstanding = None })

  get_sends : (op : CallOp) (tries : ℕ) (b : Bool) (r : Result Held Why) →
      (if b then answered_get freed op r else by_turn freed op (not_granted a tries)).commands ≡ []
  get_sends op tries true (Ok h) = refl
  get_sends op tries true (Err w) = refl
  get_sends op tries false r = by_turn_sends freed op (not_granted a tries)

  commit_sent : (h : Held) (op : CallOp) (timed : List TimedOut) → (on_commit h op a timed).sent ≡ []
  unfolding on_commit
  commit_sent h op timed = elim (cases_Bool (status_of a.results == NFS4_OK)) [ inl t ↦ rw t refl | inr f ↦ rw f refl ]

  commit_sends : (op : CallOp) (timed : List TimedOut) (o : Option Held) →
      (commit_under freed op a (Commit timed) o).commands ≡ []
  commit_sends op timed None = refl
  commit_sends op timed (Some h) =
      by_turn_sends (record (with_held freed (on_commit h op a timed).held) { commands = (on_commit h op a timed).sent }) op
      (on_commit h op a timed).turn ∙ commit_sent h op timed

  need_sends : (op : CallOp) (n : Need) → (on_need freed op n a).commands ≡ []
  need_sends op First = refl
  need_sends op (Get tries) = get_sends op tries (status_of a.results == NFS4_OK) (taken a op)
  need_sends op (Commit timed) = commit_sends op timed (held_of x.held (file_of op))
  need_sends op (Report timed) = refl
  need_sends op (Close u report) = refl

  phase_sends : (op : CallOp) (p : Phase) → (on_phase freed op p a).commands ≡ []
  phase_sends op (Waits n) = need_sends op n
  phase_sends op Starts = refl
  phase_sends op (Needs n) = refl
  phase_sends op (Reads io) = refl
  phase_sends op (Probes io) = refl
  phase_sends op (Gathers io) = refl
  phase_sends op (Scatters io queue) = refl

  pub answer_sends : (o : Option Call) → (on_call freed o a).commands ≡ []
  answer_sends None = refl
  answer_sends (Some call) = phase_sends call.op call.phase

-- ---- a turn

performed_call : (s : State) (c : ℕ) (a : Awaited) (p : Phase) → (after_all s (table.performed s c a p)).call ≡ s.call
performed_call s c a (Scatters io queue) = refl
performed_call s c a Starts = refl
performed_call s c a (Needs n) = refl
performed_call s c a (Waits n) = refl
performed_call s c a (Reads io) = refl
performed_call s c a (Probes io) = refl
performed_call s c a (Gathers io) = refl

-- A reply that a client takes is one that its drive sent, with the bytes that it takes of it.
pub record WasHeard (w : World) (c : ℕ) (a : Awaited) (q : Reply) : Type 0 where
  pub reply : Reply
  pub replied : HasReplied w a.drive c reply
  pub answers : answers a.drive reply a ≡ true
  pub performed : reply.verdict ≡ PERFORMED
  pub got : got_of a reply ≡ got_of a q

module _ (file : ℕ) (m : RawMap) (c : ℕ) (s : State) (x : Client) (slot : Option Slot)
    (k : IsClient file m s c x (kept_for slot x.outstanding)) (i : Input) (w : World) where
  -- what is known of the client and the machine before the turn
  pub record PlanFacts : Type 0 where
    pub tag : ℕ
    pub layout : s.layout ≡ layout_of m tag
    pub checked : IsChecked m
    pub run : IsRun s
    pub code : IsCode s.layout
    pub fine : IsFine x
    pub owned : AreAll (IsOfClient c) (table.at_first s file c x i)
    pub lawful : Lawful s (table.at_first s file c x i)
    pub small : (op : CallOp) → op_in x i ≡ Some op → All (λ v. v < 256) (bytes_of op)
    pub shown : (call : Call) (j : ℕ) → x.call ≡ Some call → file_of call.op ≡ file → s.call c ≡ AtRead j →
        ShownIn s w c j call.phase
    pub heard : (drive : ℕ) (q : Reply) (call : Call) (h : Held) (a : Awaited) → IsReplied x i drive q call h a →
        q.verdict ≡ PERFORMED → WasHeard w c a q

  module _ (facts : PlanFacts) (es : List Event) (d : Done) (at : table.at_first s file c x i ≡ es) where
    -- what was got before the turn was shown, and so was what the turn takes
    pub record GotBefore (got : List Column) : Type 0 where
      pub same : after_all s es ≡ s
      pub busy : s.call c ≡ Idle → ⊥
      pub shown : (j : ℕ) → s.call c ≡ AtRead j → AllShown s j got

    abbrev pub Source : List Column → Type 0
    Source got = (got ≡ []) ⊎ GotBefore got

    -- the phase of the client's call, as the machine has it
    at_phase : (call : Call) → x.call ≡ Some call → (file_of call.op == file) ≡ true → (p : Phase) → call.phase ≡ p →
        CallIs m s c call.op (kept_for slot x.outstanding) p
    at_phase call is here p e =
        let one : CallOn (file_of call.op == file) m s c call (kept_for slot x.outstanding) =
        subst (CallAt file m s c (kept_for slot x.outstanding)) is k.call in
        let two : CallIs m s c call.op (kept_for slot x.outstanding) call.phase =
        subst (λ (b : Bool). CallOn b m s c call (kept_for slot x.outstanding)) here one in
        subst (CallIs m s c call.op (kept_for slot x.outstanding)) e two

    -- a scatter is a write
    at_write : (call : Call) → x.call ≡ Some call → (file_of call.op == file) ≡ true → (p : Phase) → call.phase ≡ p →
        is_scatter p ≡ true → (j : ℕ) × (s.call c ≡ AtWrite j)
    at_write call is here (Scatters io queue) e t =
        let z : (j : ℕ) × IsScattering s c call.op io queue j = at_phase call is here (Scatters io queue) e in
        (z.0, z.1.writing.at_)
    at_write call is here Starts e t = absurd (cc t)
    at_write call is here (Needs n) e t = absurd (cc t)
    at_write call is here (Waits n) e t = absurd (cc t)
    at_write call is here (Reads io) e t = absurd (cc t)
    at_write call is here (Probes io) e t = absurd (cc t)
    at_write call is here (Gathers io) e t = absurd (cc t)

    -- a gather is a read
    at_read : (call : Call) → x.call ≡ Some call → (file_of call.op == file) ≡ true → (io : Io) → call.phase ≡ Gathers io →
        s.call c ≡ Idle → ⊥
    at_read call is here io e idle =
        let z : (j : ℕ) × IsGathering m s c call.op j = at_phase call is here (Gathers io) e in cc (sym idle ∙ z.1.at_)

    shown_in : (call : Call) → x.call ≡ Some call → (file_of call.op == file) ≡ true → (io : Io) → call.phase ≡ Gathers io →
        (j : ℕ) → s.call c ≡ AtRead j → AreShown s w c j io
    shown_in call is here io e j reads =
        subst (ShownIn s w c j) e (facts.shown call j is (eqb-true (file_of call.op) file here) reads)

    fit : (call : Call) (h : Held) → x.call ≡ Some call → held_of x.held (file_of call.op) ≡ Some h → IsFit h call.op call.phase
    fit call h is held = let z : CallFits x.held (Some call) = subst (CallFits x.held) is facts.fine.call in z.1 h held

    pub turn_plan : IsTurn file s c x i es d → ((j : ℕ) → (after_all s es).call c ≡ AtWrite j → ⊥) → HasPlan file Source d
    turn_plan (Begins op is none some none_es e) free = none_plan file Source d (ap (λ (y : Done). y.commands) e)
    turn_plan (Answered a n es_is e) free =
        none_plan file Source d (ap (λ (y : Done). y.commands) e ∙ answer_sends x a x.call)
    turn_plan (Stays es_is call held out next sent none) free = none_plan file Source d sent
    turn_plan (Replied drive q call h a n es_is e) free =
        subst (HasPlan file Source) (sym e)
        (moved_plan file Source (quiet x) call.op h (replied h call.op call.phase a q) n.held so)
      where
        so : MovesSo file Source h call.op (replied h call.op call.phase a q)
        so io queue here goes =
            let done : (q.verdict == PERFORMED) ≡ true = replied_performed h call.op call.phase a q io queue goes in
            let row : table.replied s c a q call.phase ≡ table.performed s c a call.phase = rw done refl in
            let events : es ≡ table.performed s c a call.phase =
            es_is ∙ ap (λ (b : Bool). where_so b (table.replied s c a q call.phase)) here ∙ row in
            let call_same : (after_all s es).call c ≡ s.call c =
            ap (λ (l : List Event). (after_all s l).call c) events
            ∙ ap (λ (f : ℕ → _). f c) (performed_call s c a call.phase) in
            let no_scatter : is_scatter call.phase ≡ false = elim (cases_Bool (is_scatter call.phase)) [
              | inl t ↦ let z = at_write call n.call_is here call.phase refl t in absurd (free z.0 (call_same ∙ z.1))
              | inr f ↦ f
            ] in
            let there : In a (awaited_in call.phase) = found_one (answers drive q) (awaited_in call.phase) a n.awaits in
            let r = replied_so h call.op call.phase a q (facts.fine.usable (file_of call.op) h n.held) there
            (fit call h n.call_is n.held) no_scatter io queue goes in
            let heard = facts.heard drive q call h a n r.performed in
            let awaited : In a r.gathered.awaited = subst (λ (p : Phase). In a (awaited_in p)) r.phase there in (
              r.gathered.got ++ got_of a q ∷ [],
              inr (record {
                same = ap (after_all s) (events ∙ ap (table.performed s c a) r.phase);
                busy = at_read call n.call_is here r.gathered r.phase;
                shown = λ j reads col there_.
                    (let sh = shown_in call n.call_is here r.gathered r.phase j reads in
                    elim (in_either col r.gathered.got (got_of a q ∷ []) there_) [
                      | inl old ↦ sh.got col old
                      | inr new ↦ elim new [
                        | inl is ↦ (
                          a.ask.component,
                          subst (WasShown s j a.ask.component) (heard.got ∙ sym is)
                              (sh.replied a heard.reply awaited heard.replied heard.answers heard.performed),
                        )
                        | inr none ↦ absurd none
                      ]
                    ]);
              }),
              r.scatters,
            )
    turn_plan (Timed n call h a xs r es_is e) free =
        subst (HasPlan file Source) (sym e)
        (moved_plan file Source (quiet x) call.op h (timed_out h call.op call.phase n a xs) r.held so)
      where
        so : MovesSo file Source h call.op (timed_out h call.op call.phase n a xs)
        so io queue here goes =
            let events : es ≡ [] =
            es_is ∙ ap (λ (b : Bool). where_so b (table.turned s c (timed_out h call.op call.phase n a xs).turn)) here
            ∙ ap (λ (t : Turn). table.turned s c t) goes in
            let same : after_all s es ≡ s = ap (after_all s) events in
            let no_scatter : is_scatter call.phase ≡ false = elim (cases_Bool (is_scatter call.phase)) [
              | inl t ↦
                  let z = at_write call r.call_is here call.phase refl t in
                  absurd (free z.0 (ap (λ (y : State). y.call c) same ∙ z.1))
              | inr f ↦ f
            ] in
            let v = timed_so h call.op call.phase n a xs (facts.fine.usable (file_of call.op) h r.held)
            (fit call h r.call_is r.held) no_scatter io queue goes in (
              v.gathered.got,
              inr (record {
                same = same;
                busy = at_read call r.call_is here v.gathered v.phase;
                shown = λ j reads col there_. (shown_in call r.call_is here v.gathered v.phase j reads).got col there_;
              }),
              v.scatters,
            )

    module _ (turn : IsTurn file s c x i es d) (fine_done : FineDone Any d) (call : Call) (io : Io) (queue : List Store)
        (h : Held)
        (is : (begun d).client.call ≡ Some call) (phase : call.phase ≡ Scatters io queue)
        (here : (file_of call.op == file) ≡ true) (holds : held_of (begun d).client.held file ≡ Some h) (g : Grant)
        (has : (after_all s es).held c ≡ Some g) (about : op_in x i ≡ Some call.op) (holding : IsHolding m (after_all s es) c h)
        (starts : IsStarting m (after_all s es) c call.op io queue (begun d).commands) where
      abbrev u : State
      u = after_all s es

      owned : AreAll (IsOfClient c) es
      owned = subst (AreAll (IsOfClient c)) at facts.owned

      run_there : IsRun (after_all s es)
      run_there = client_run c s facts.run es owned (subst (Lawful s) at facts.lawful)

      layout_same : (after_all s es).layout ≡ s.layout
      layout_same = (server_stays_all c s es owned).layout

      free_there : (j : ℕ) → (after_all s es).call c ≡ AtWrite j → ⊥
      free_there j writes = elim starts.from [
        | inl r ↦ cc (sym writes ∙ r.1.at_)
        | inr idle ↦ cc (sym writes ∙ idle.at_)
      ]

      begun_fine : FineDone Any (begun d)
      begun_fine = each_begin d (FineDone Any) (record {
        stays = fine_done;
        needs = λ op n is_ out first. (finishes Any).needs d op n fine_done is_ out first;
        begun = λ op k_ is_ held cover. (finishes Any).begun d op k_ fine_done is_ held cover;
      })

      pub plan_fits : PlanFits file c (begun d).client call is here h holds m (after_all s es) g io queue (begun d).commands
      plan_fits =
          let at_file : held_of (begun d).client.held (file_of call.op) ≡ Some h =
          ap (held_of (begun d).client.held) (eqb-true (file_of call.op) file here) ∙ holds in
          let plan =
          begun_plan file Source d (inl refl) fine_done (turn_plan turn free_there) call io queue h is phase here at_file
          starts.some in
          let usable : IsUsable h = begun_fine.usable (file_of call.op) h at_file in
          plans_at m facts.tag c h call.op plan.got io queue (begun d).commands plan.scattered
          (usable.long ∙ ap (λ (n : RawMap). n.comps) holding.same.agrees.map) (facts.small call.op about) g u
          (layout_same ∙ facts.layout) facts.checked run_there (subst IsCode (sym layout_same) facts.code) holding has
          (λ j gathering. elim plan.source [
            | inl none ↦ λ col n. absurd (subst (In col) none n)
            | inr b ↦
                subst (λ (z : State). AllShown z j plan.got) (sym b.same)
                (b.shown j (ap (λ (z : State). z.call c) (sym b.same) ∙ gathering.at_))
          ])
          (λ idle. elim plan.source [
            | inl none ↦ none
            | inr b ↦ absurd (b.busy (ap (λ (z : State). z.call c) (sym b.same) ∙ idle.at_))
          ])

  -- The plan of each write that starts in the turn is that of its entry.
  pub plans_fit : PlanFacts → PlansFit file m c s x slot k i
  plans_fit facts es d at turn fine_done call io queue h is phase here holds g has about holding starts =
      plan_fits facts es d at turn fine_done call io queue h is phase here holds g has about holding starts
