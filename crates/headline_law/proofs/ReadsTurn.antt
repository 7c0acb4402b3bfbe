-- A client's turn: where its call reads behind it, the call read before, at the same entry, or has begun.
-- Towards `ReadsFollow` (`headline_law/specs/Parts.antt`).
use Rattle.std.proofs.Common.{◌≡◌, ◌==◌, ℕ, Bool, true, false, List, [], ◌∷◌, map, Option, Some, refl, sym, ap, subst, ◌∙◌, eq-eqb, if◌then◌else◌}
use Rattle.data_map.specs.declared.check.RawMap.{RawMap}
use Rattle.layout_ops.specs.declared.args.Args.{Args}
use Rattle.layout_ops.specs.declared.args.Args.TheVariants as args
use Rattle.layout_ops.specs.declared.messages.Answer.{Answer}
use Rattle.osd_commands.specs.declared.replies.Reply.{Reply}
use Rattle.client_rules.specs.declared.limits.TheConstants.{PERFORMED}
use Rattle.client_rules.specs.Calls.{file_of}
use Rattle.client_rules.specs.Going.{quiet, begun, progressed}
use Rattle.client_rules.specs.Grants.{held_of}
use Rattle.client_rules.specs.History.{Input, Resends, step}
use Rattle.client_rules.specs.Messages.{Step, finished, to_drive}
use Rattle.history_law.specs.Turns.{AnswerComes}
use Rattle.world_history.specs.ServerNames.{Slot}
use Rattle.world_history.specs.ClientNames.{Awaited, Call, Client, CallOp, Done, Held, Need, Phase, Starts, Needs, Waits, Reads, Probes, Gathers, Scatters, Request, Goes}
use Rattle.world_history.specs.Handed.{op_in}
use Rattle.fence_law.specs.State.{State, Event}
use Rattle.fence_law.specs.State.Call.{Reads as AtRead}
use Rattle.fence_law.specs.State.Event.{TakesOther}
use Rattle.fence_law.specs.Machine.{after_all}
use Rattle.file_simulation.specs.Calls.{IsClient, IsHolding}
use Rattle.file_simulation.specs.EventLists.{where_so}
use Rattle.file_simulation.specs.ClientEvents as table
use Rattle.file_simulation.specs.Requests.{kept_for, phase_of}
use Rattle.relation_law.specs.CallsCases.{IsTurn}
use Rattle.relation_law.specs.CallsFits.{IsReturn}
use Rattle.relation_law.specs.CallsTurns.{IsMid, IsWorking}
use Rattle.relation_law.proofs.CallsOwn.{OwnFits, nothing_told}
use Rattle.relation_law.proofs.CallsSettled.{WorkFits}
use Rattle.relation_law.proofs.CallsTells.{CommandsFit, reads_on, told}
use Rattle.relation_law.proofs.TurnEnds.{TurnFacts}
use Rattle.headline_law.proofs.SentMids.{MidCases, each_mid}
use Rattle.headline_law.proofs.SentMoved.{ReadsNow}
use Rattle.headline_law.proofs.SentSilent.{IsSilent, turn_since}
use Rattle.headline_law.proofs.SentSince.{DoneSince, PhaseSince, finished_since, stays_since}
use Rattle.headline_law.proofs.SentTurn.{turn_behind, behind_is, call_is, holding, work_fits}

reads_work : (p : Phase) → ReadsNow p → IsWorking p
reads_work (Reads io) now = tt
reads_work (Probes io) now = tt
reads_work (Gathers io) now = tt
reads_work (Scatters io queue) now = absurd now
reads_work Starts now = absurd now
reads_work (Needs n) now = absurd now
reads_work (Waits n) now = absurd now

module _ (file : ℕ) (m : RawMap) (c : ℕ) (s : State) (x : Client) (slot : Option Slot)
    (k : IsClient file m s c x (kept_for slot x.outstanding)) (i : Input) where
  -- the machine's client is where it was
  abbrev pub StaysAt : List Event → Call → Type 0
  StaysAt es call = (file_of call.op == file) ≡ true → (after_all s es).call c ≡ s.call c

  -- where the call reads behind the turn, it is as it went on; and the machine's client is at the entry at which it was
  pub record ReadsOn (es : List Event) (t : Step) (call : Call) : Type 0 where
    pub since : PhaseSince x i (StaysAt es) call.op call.phase
    pub entry : (n : ℕ) → s.call c ≡ AtRead n → (after_all s es).call c ≡ s.call c →
        (turn_behind file m c s x slot k i es t).call c ≡ AtRead n

  abbrev pub TurnReads : List Event → Step → Type 0
  TurnReads es t =
      (call : Call) → t.client.call ≡ Some call → (file_of call.op == file) ≡ true → ReadsNow call.phase → ReadsOn es t call

  module _ (facts : TurnFacts file m c s x slot k i) (fits : OwnFits file m c s x slot k i) where
    -- ---- the first line

    -- a return that was due
    due_stays : (a : Answer) (p : Phase) (r : Args) → ReadsNow p → IsReturn r →
        (after_all s (table.answered_here s c a (Some p) r)).call c ≡ s.call c
    due_stays a (Reads io) (args.LayoutReturn y) now ret = refl
    due_stays a (Probes io) (args.LayoutReturn y) now ret = refl
    due_stays a (Gathers io) (args.LayoutReturn y) now ret = refl
    due_stays a (Scatters io queue) (args.LayoutReturn y) now ret = absurd now
    due_stays a Starts (args.LayoutReturn y) now ret = absurd now
    due_stays a (Needs n) (args.LayoutReturn y) now ret = absurd now
    due_stays a (Waits n) (args.LayoutReturn y) now ret = absurd now
    due_stays a p (args.LayoutGet y) now ret = absurd ret
    due_stays a p (args.LayoutCommit y) now ret = absurd ret

    reads_wait_none : (call : Call) → x.call ≡ Some call → ReadsNow call.phase → (op : CallOp) (n : Need) →
        x.call ≡ Some (record { op = op; phase = Waits n }) → ⊥
    reads_wait_none call is now op n e =
        let both : Some call ≡ Some (record { op = op; phase = Waits n }) = sym is ∙ e in
        let same : call ≡ record { op = op; phase = Waits n } = cc both in
        subst (λ (y : Call). ReadsNow y.phase) same now

    answered_stays : (a : Answer) → AnswerComes x i a → (call : Call) → x.call ≡ Some call → ReadsNow call.phase →
        (after_all s (table.answered s file c x a x.outstanding)).call c ≡ s.call c
    answered_stays a n call is now =
        subst (λ (o : Option Request). (after_all s (table.answered s file c x a o)).call c ≡ s.call c) (sym n.outstanding)
        (by (n.request.file == file))
      where
        return_ : IsReturn n.request.args
        return_ =
            (fits.answered a n.request n n.outstanding).3.due (λ op need e. reads_wait_none call is now op need e)

        here : (after_all s (table.answered_here s c a (phase_of x.call) n.request.args)).call c ≡ s.call c
        here =
            subst (λ (o : Option Call). (after_all s (table.answered_here s c a (phase_of o) n.request.args)).call c ≡ s.call c)
            (sym is) (due_stays a call.phase n.request.args now return_)

        by : (b : Bool) → (after_all s (if b then table.answered_here s c a (phase_of x.call) n.request.args
            else TakesOther c ∷ [])).call c ≡ s.call c
        by true = here
        by false = refl

    performed_stays : (b : Bool) (a : Awaited) (p : Phase) → ReadsNow p →
        (after_all s (where_so b (table.performed s c a p))).call c ≡ s.call c
    performed_stays false a p now = refl
    performed_stays true a (Reads io) now = refl
    performed_stays true a (Probes io) now = refl
    performed_stays true a (Gathers io) now = refl
    performed_stays true a (Scatters io queue) now = absurd now
    performed_stays true a Starts now = absurd now
    performed_stays true a (Needs n) now = absurd now
    performed_stays true a (Waits n) now = absurd now

    replied_stays : (b : Bool) (q : Reply) (a : Awaited) (p : Phase) → q.verdict ≡ PERFORMED → ReadsNow p →
        (after_all s (where_so b (table.replied s c a q p))).call c ≡ s.call c
    replied_stays b q a p done now = rw (eq-eqb q.verdict PERFORMED done) (performed_stays b a p now)

    turned_stays : (b : Bool) (z : Phase) → ReadsNow z → (after_all s (where_so b (table.turned s c (Goes z)))).call c ≡ s.call c
    turned_stays false z now = refl
    turned_stays true (Reads io) now = refl
    turned_stays true (Probes io) now = refl
    turned_stays true (Gathers io) now = refl
    turned_stays true (Scatters io queue) now = absurd now
    turned_stays true Starts now = absurd now
    turned_stays true (Needs n) now = absurd now
    turned_stays true (Waits n) now = absurd now

    silent : (es : List Event) (d : Done) → IsSilent file s c x i es d (StaysAt es)
    silent es d = record {
      answered = λ a is n call at now here. rw is (answered_stays a n call at now);
      replied = λ q call a is done now here. rw is (replied_stays (file_of call.op == file) q a call.phase done now);
      timed = λ call t z is at now here. rw (is, at) (turned_stays (file_of call.op == file) z now);
      stays = λ is call here. rw is refl;
    }

    -- ---- the turn

    module _ (es : List Event) (d : Done) (first : table.at_first s file c x i ≡ es) (is : step x i ≡ finished d)
        (turn : IsTurn file s c x i es d)
        (w : IsMid file m (after_all s es) c (kept_for slot d.client.outstanding) (op_in x i) d) where
      since : DoneSince x i (StaysAt es) d
      since = turn_since file s c x i es d (StaysAt es) (silent es d) turn

      plain : DoneSince x i (λ call. Unit {0}) d
      plain = turn_since file s c x i es d (λ call. Unit {0}) (record {
        answered = λ a e n call is now. tt;
        replied = λ q call a e done now. tt;
        timed = λ call t z e at now. tt;
        stays = λ e call. tt;
      }) turn

      module _ (call : Call) (at : (progressed (begun d)).client.call ≡ Some call) (here : (file_of call.op == file) ≡ true)
          (now : ReadsNow call.phase) where
        work : IsWorking call.phase
        work = reads_work call.phase now

        abbrev s1 : State
        s1 = after_all s es

        told_same : (n : ℕ) → s1.call c ≡ AtRead n → (h : Held) → held_of (begun d).client.held file ≡ Some h →
            CommandsFit (begun d).client h false (begun d).commands →
            told s1 file c (begun d).client (map to_drive (begun d).commands) ≡ s1
        told_same n runs h held f =
            let z : IsHolding m s1 c h =
            holding file m c s x slot k i facts fits es d first is turn w plain call at work here h held in
            reads_on file c (begun d).client call
            (call_is file m c s x slot k i facts fits es d first is turn w plain call at work here) here h held s1 z.grant
            (begun d).commands n z.held runs f

        by_phase : (p : Phase) → ReadsNow p → WorkFits file m s1 c (begun d).client call.op (begun d).commands p → (n : ℕ) →
            s1.call c ≡ AtRead n → told s1 file c (begun d).client (map to_drive (begun d).commands) ≡ s1
        by_phase (Reads io) j f n runs = told_same n runs f.0 f.1 f.3
        by_phase (Probes io) j f n runs = told_same n runs f.0 f.1 f.3
        by_phase (Gathers io) j f n runs = told_same n runs f.0 f.1 f.3
        by_phase (Scatters io queue) j f n runs = absurd j
        by_phase Starts j f n runs = absurd j
        by_phase (Needs need) j f n runs = absurd j
        by_phase (Waits need) j f n runs = absurd j

        entry : (n : ℕ) → s.call c ≡ AtRead n → (after_all s es).call c ≡ s.call c →
            (turn_behind file m c s x slot k i es (finished d)).call c ≡ AtRead n
        entry n runs stays =
            let at_first : s1.call c ≡ AtRead n = stays ∙ runs in
            ap (λ (t : State). t.call c)
            (behind_is file m c s x slot k i facts fits es d first is turn w plain call at work here
            ∙ by_phase call.phase now
            (work_fits file m c s x slot k i facts fits es d first is turn w plain call at work here) n at_first)
            ∙ at_first

      done_reads : TurnReads es (finished d)
      unfolding finished
      done_reads call at here now = record {
        since = (finished_since x i (StaysAt es) d since).since call at;
        entry = entry call at here now;
      }

    -- ---- each turn

    rests_reads : (call : Call) → x.call ≡ Some call → PhaseSince x i (StaysAt []) call.op call.phase
    rests_reads call at =
        (stays_since x i (StaysAt []) (quiet x) refl refl (λ y is now here. refl)).since call at

    cases : MidCases file m c s x slot k i fits TurnReads
    unfolding table.sends_all
    cases = record {
      rests = λ call at here now. record { since = rests_reads call at; entry = λ n runs stays. runs };
      nothing = λ call at here now. record {
        since = rests_reads call at;
        entry = λ n runs stays. rw (nothing_told file m c s x slot k i fits (op_in x i)) runs;
      };
      done = λ es d first is turn w. done_reads es d first is turn w;
    }

    pub turn_reads : (i ≡ Resends → ⊥) → TurnReads (table.at_first s file c x i) (step x i)
    turn_reads none = each_mid file m c s x slot k i fits TurnReads cases none
