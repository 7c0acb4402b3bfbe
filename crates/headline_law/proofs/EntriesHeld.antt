-- Behind the first line of a turn in which a call works, the machine's client holds the grant that the client holds.
-- Towards `CutsShowEntries` (`specs/Parts.antt`).
use Rattle.std.proofs.Common.{◌≡◌, ◌==◌, ◌++◌, ℕ, false, List, [], ◌∷◌, Some, None, refl, sym, ap, subst, ◌∙◌, inl, inr}
use Rattle.std.proofs.lemmas.Bool.{cases_Bool, eqb-true}
use Rattle.layout_ops.specs.declared.messages.Answer.{Answer}
use Rattle.client_rules.specs.declared.limits.TheConstants.{PERFORMED, OTHER_TAG}
use Rattle.client_rules.specs.Calls.{file_of}
use Rattle.client_rules.specs.Going.{quiet, moved, by_turn, with_held, begins, begun, progressed}
use Rattle.client_rules.specs.Grants.{held_of, put_held}
use Rattle.client_rules.specs.History.{Input, Resends, step}
use Rattle.client_rules.specs.Messages.{Step, finished, on_call, obeys, no_match}
use Rattle.client_rules.specs.Replies.{replied, timed_out}
use Rattle.client_rules.specs.Steps.{all_due}
use Rattle.client_rules.proofs.Numbering.{nonces_rise}
use Rattle.client_rules.proofs.HeldGrants.{held_file}
use Rattle.world_history.specs.ClientNames.{Client, Call, CallOp, Held, Awaited, Reply, Phase, Starts, Needs, Waits, Reads, Probes, Gathers, Scatters, Turn, Goes, Ends, Forgets, Close, Silent, Lost, Moved, Done}
use Rattle.history_law.specs.Turns.{with_start, IsReplied, AnswerComes}
use Rattle.history_law.proofs.Turns.{each_begin}
use Rattle.exchange_law.proofs.ClientKeeping.{put_read, without_read}
use Rattle.fence_law.specs.State.{State, Event, Grant}
use Rattle.fence_law.specs.Machine.{after_all}
use Rattle.file_simulation.specs.ClientEvents as table
use Rattle.file_simulation.specs.EventLists.{where_so}
use Rattle.relation_law.specs.CallsCases.{IsUnheld, EventCases}
use Rattle.relation_law.specs.CallsTurns.{IsWorking}
use Rattle.relation_law.proofs.CallsWalk.{each_event_turn}
use Rattle.relation_law.proofs.RequestsDealt.{file_of_moved, begins_file, replied_file, timed_out_file}
use Rattle.relation_law.proofs.RequestsReturns.{forgotten}
use Rattle.headline_law.proofs.SentTurn.{working_same}

-- the machine's client holds the grant with this number
abbrev pub HoldsNumber : State → (c number : ℕ) → Type 0
HoldsNumber s c n = (g : Grant) × (s.held c ≡ Some g) × (g.number ≡ n)

-- ---- events that leave what is held

module _ (s : State) (c n : ℕ) (one : HoldsNumber s c n) where
  performed_holds : (a : Awaited) (p : Phase) → HoldsNumber (after_all s (table.performed s c a p)) c n
  performed_holds a (Scatters io queue) = one
  performed_holds a Starts = one
  performed_holds a (Needs m) = one
  performed_holds a (Waits m) = one
  performed_holds a (Reads io) = one
  performed_holds a (Probes io) = one
  performed_holds a (Gathers io) = one

  refused_holds : (p : Phase) → HoldsNumber (after_all s (table.refused s c p ++ [])) c n
  refused_holds (Scatters io queue) = one
  refused_holds Starts = one
  refused_holds (Needs m) = one
  refused_holds (Waits m) = one
  refused_holds (Reads io) = one
  refused_holds (Probes io) = one
  refused_holds (Gathers io) = one

  -- a reply that isn't of another tag
  replied_holds : (a : Awaited) (q : Reply) (p : Phase) →
      ((q.verdict == PERFORMED) ≡ false → (q.verdict == OTHER_TAG) ≡ false) →
      HoldsNumber (after_all s (table.replied s c a q p)) c n
  replied_holds a q p other = elim (cases_Bool (q.verdict == PERFORMED)) [
    | inl t ↦ rw t (performed_holds a p)
    | inr f ↦ rw (f, other f) (refused_holds p)
  ]

  turned_holds : (t : Turn) → HoldsNumber (after_all s (table.turned s c t)) c n
  turned_holds (Ends (Silent k)) = one
  turned_holds (Ends (Lost ps)) = one
  turned_holds (Goes (Needs (Close u (e ∷ es)))) = one
  turned_holds t = one

-- ---- what a client held before

-- it held a grant with that number
abbrev HadOne : (file : ℕ) → List Held → Held → Type 0
HadOne file hs j = (k : Held) × (held_of hs file ≡ Some k) × (j.number ≡ k.number)

module _ (d : Done) (op : CallOp) (h : Held) (held : held_of d.client.held (file_of op) ≡ Some h) (m : Moved)
    (same : m.held.file ≡ h.file) (number : m.held.number ≡ h.number) (file : ℕ) where
  put_had : (j : Held) → held_of (put_held d.client.held m.held) file ≡ Some j → HadOne file d.client.held j
  put_had j e = elim (put_read d.client.held m.held file j e) [
    | inl it ↦
        let here : file_of op ≡ file = sym (same ∙ held_file d.client.held (file_of op) h held) ∙ it.0 in
        (h, ap (held_of d.client.held) (sym here) ∙ held, sym (ap (λ (z : Held). z.number) it.1) ∙ number)
    | inr other ↦ (j, other.1, refl)
  ]

  turn_had : (t : Turn) (j : Held) →
      held_of (by_turn (record (with_held d m.held) { commands = m.sent }) op t).client.held file ≡ Some j →
      HadOne file d.client.held j
  turn_had (Goes p) j e = put_had j e
  turn_had (Ends o) j e = put_had j e
  turn_had (Forgets o) j e = put_had j (without_read (put_held d.client.held m.held) (file_of op) file j e)

  moved_had : (j : Held) → held_of (moved d op m).client.held file ≡ Some j → HadOne file d.client.held j
  moved_had = turn_had m.turn

begun_had : (file : ℕ) (d : Done) (j : Held) → held_of (begun d).client.held file ≡ Some j → HadOne file d.client.held j
begun_had file d = each_begin d (λ (e : Done). (j : Held) → held_of e.client.held file ≡ Some j → HadOne file d.client.held j)
    (record {
      stays = λ j e. (j, e, refl);
      needs = λ op n is out first j e. (j, e, refl);
      begun = λ op h is held cover j e.
          moved_had d op h held (begins h op) (file_of_moved h (begins h op) (begins_file h op))
          (nonces_rise.begun h op).same file j e;
    })

-- ---- a turn

-- what is known of a client and of what the machine has of it
pub record HeldFacts (file : ℕ) (s : State) (c : ℕ) (x : Client) (i : Input) : Type 0 where
  pub holding : (h : Held) → held_of x.held file ≡ Some h → HoldsNumber s c h.number
  pub unheld : IsUnheld x i → ⊥
  pub again : i ≡ Resends → ⊥
  pub answered : (a : Answer) → AnswerComes x i a → (h : Held) →
      held_of (on_call (quiet (record x { outstanding = None })) x.call a).client.held file ≡ Some h →
      HoldsNumber (after_all s (table.answered s file c x a x.outstanding)) c h.number

module _ (file : ℕ) (s : State) (c : ℕ) (x : Client) (i : Input) (facts : HeldFacts file s c x i) where
  -- where a call works behind the turn
  abbrev pub HoldsBehind : List Event → Step → Type 0
  HoldsBehind es t =
      (call : Call) → t.client.call ≡ Some call → IsWorking call.phase → (h : Held) → held_of t.client.held file ≡ Some h →
      HoldsNumber (after_all s es) c h.number

  finish : (es : List Event) (d : Done) →
      ((h : Held) → held_of d.client.held file ≡ Some h → HoldsNumber (after_all s es) c h.number) →
      HoldsBehind es (finished d)
  unfolding finished
  finish es d held call is works h has =
      let same : progressed (begun d) ≡ begun d = working_same (begun d) call works is in
      let had : HadOne file d.client.held h =
      begun_had file d h (subst (λ (e : Done). held_of e.client.held file ≡ Some h) same has) in
      let now : HoldsNumber (after_all s es) c had.0.number = held had.0 had.1 in
      (now.0, now.1, now.2 ∙ sym had.2)

  module _ (op : CallOp) (h : Held) (has : held_of x.held (file_of op) ≡ Some h) (m : Moved) (same : m.held.file ≡ h.file)
      (number : m.held.number ≡ h.number) where
    held_one : (k : Held) → held_of (moved (quiet x) op m).client.held file ≡ Some k → HoldsNumber s c k.number
    held_one k e =
        let b = moved_had (quiet x) op h has m same number file k e in
        let old : HoldsNumber s c b.0.number = facts.holding b.0 b.1 in (old.0, old.1, old.2 ∙ sym b.2)

  reply : (drive : ℕ) (q : Reply) (call : Call) (h : Held) (a : Awaited) → IsReplied x i drive q call h a →
      HoldsBehind (where_so (file_of call.op == file) (table.replied s c a q call.phase))
      (finished (moved (quiet x) call.op (replied h call.op call.phase a q)))
  reply drive q call h a k =
      let m : Moved = replied h call.op call.phase a q in
      let same : m.held.file ≡ h.file = file_of_moved h m (replied_file h call.op call.phase a q) in
      let number : m.held.number ≡ h.number = (nonces_rise.replied h call.op call.phase a q).same in
      elim (cases_Bool (file_of call.op == file)) [
        | inl t ↦ rw t (finish (table.replied s c a q call.phase) (moved (quiet x) call.op m) (λ j e.
            replied_holds s c j.number (held_one call.op h k.held m same number j e) a q call.phase (λ bad.
            elim (cases_Bool (q.verdict == OTHER_TAG)) [
              | inl tag ↦
                  absurd (cc (sym e ∙ forgotten x file call.op h call.phase a q (eqb-true (file_of call.op) file t) bad tag))
              | inr f ↦ f
            ])))
        | inr f ↦ rw f (finish [] (moved (quiet x) call.op m) (held_one call.op h k.held m same number))
      ]

  cases : EventCases file s c x i HoldsBehind
  cases = record {
    rests = λ call is works h has. facts.holding h has;
    nothing = λ op is empty call at works h has. facts.holding h has;
    called = λ op is none. finish [] (quiet (with_start x op)) facts.holding;
    answered = λ a k.
        finish (table.answered s file c x a x.outstanding) (on_call (quiet (record x { outstanding = None })) x.call a)
        (facts.answered a k);
    replied = reply;
    unheld = λ u es t. absurd (facts.unheld u);
    recalled = λ q is. finish [] (obeys x q) facts.holding;
    unmatched = λ q is. finish [] (no_match x q) facts.holding;
    timed = λ n call h a xs k.
        let m : Moved = timed_out h call.op call.phase n a xs in
        let same : m.held.file ≡ h.file = file_of_moved h m (timed_out_file h call.op call.phase n a xs) in
        let number : m.held.number ≡ h.number = (nonces_rise.timed h call.op call.phase n a xs).same in
        elim (cases_Bool (file_of call.op == file)) [
          | inl t ↦ rw t (finish (table.turned s c m.turn) (moved (quiet x) call.op m) (λ j e.
              turned_holds s c j.number (held_one call.op h k.held m same number j e) m.turn))
          | inr f ↦ rw f (finish [] (moved (quiet x) call.op m) (held_one call.op h k.held m same number))
        ];
    leaves = λ is. finish [] (quiet (record x { due = all_due x.due x.held })) facts.holding;
    resends = λ is es t. absurd (facts.again is);
  }

  -- The machine's client holds the grant under which the call works.
  pub turn_holds : HoldsBehind (table.at_first s file c x i) (step x i)
  turn_holds = each_event_turn file s c x i HoldsBehind cases
