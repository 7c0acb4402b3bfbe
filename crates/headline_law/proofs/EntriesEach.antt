-- Each turn of a client is tied to the entries of a file.
-- Towards `CutsShowEntries` (`specs/Parts.antt`).
use Rattle.std.proofs.Common.{◌≡◌, ℕ, Bool, true, false, [], Option, Some, Ok, Err, is_some, refl, sym, subst, inl, inr, if◌then◌else◌}
use Rattle.std.proofs.lemmas.Bool.{cases_Bool}
use Rattle.data_map.specs.declared.check.RawMap.{RawMap}
use Rattle.layout_ops.specs.declared.messages.Answer.{Answer}
use Rattle.client_rules.specs.Calls.{span_of}
use Rattle.client_rules.specs.Going.{quiet}
use Rattle.client_rules.specs.History.{Input, Calls, unless_refused, step}
use Rattle.client_rules.specs.Messages.{Step, still, finished, obeys, no_match}
use Rattle.client_rules.specs.Steps.{writes_nothing, all_due, calls, is_bad_range, is_spent}
use Rattle.history_law.specs.Turns.{with_start}
use Rattle.world_history.specs.ClientNames.{Client, CallOp, Busy, BadRange, SlotSpent, WriteOk}
use Rattle.world_history.specs.Handed.{op_in}
use Rattle.fence_law.specs.Machine.{after_all}
use Rattle.fence_law.specs.State.{State}
use Rattle.file_simulation.specs.ClientEvents as table
use Rattle.file_simulation.specs.Showing.{Pairs}
use Rattle.relation_law.specs.CallsCases.{EventCases}
use Rattle.relation_law.proofs.CallsWalk.{each_event_turn}
use Rattle.headline_law.proofs.EntriesTurns.{TurnTied}
use Rattle.headline_law.proofs.EntriesAnswered.{answered_goes}
use Rattle.headline_law.proofs.EntriesWalk.{WalkFacts, Tied_, finish, still_tied, nothing_done, new_call, as_it_is, replied_goes, timed_goes}

module _ (file : ℕ) (m : RawMap) (s : State) (c : ℕ) (x : Client) (i : Input) (pairs : Pairs) (o : Option ℕ)
    (answer : Option Answer) (facts : WalkFacts file m s c x i pairs o answer) where
  cases : EventCases file s c x i (Tied_ file m s c x i pairs o answer facts)
  unfolding calls
  cases = record {
    rests = λ is at_. still_tied file m s c x i pairs o answer facts;
    nothing = λ op is n first at_. nothing_done file m s c x i pairs o answer facts op is;
    called = λ op is none. elim (cases_Bool (writes_nothing op)) [
      | inl empty ↦ λ first at_. called_empty op is empty _ first
      | inr some ↦ finish file m s c x i pairs o answer facts [] (quiet (with_start x op))
          (new_call file m s c x i pairs o answer facts op is none some)
    ];
    answered = answered_goes file m s c x i pairs o answer facts;
    replied = replied_goes file m s c x i pairs o answer facts;
    unheld = λ u es t. absurd (facts.unheld u);
    recalled = λ q is. finish file m s c x i pairs o answer facts [] (obeys x q)
        (as_it_is file m s c x i pairs o answer facts (rw is refl) (obeys x q) refl refl refl refl refl);
    unmatched = λ q is. finish file m s c x i pairs o answer facts [] (no_match x q)
        (as_it_is file m s c x i pairs o answer facts (rw is refl) (no_match x q) refl refl refl refl refl);
    timed = timed_goes file m s c x i pairs o answer facts;
    leaves = λ is.
        finish file m s c x i pairs o answer facts [] (quiet (record x { due = all_due x.due x.held }))
        (as_it_is file m s c x i pairs o answer facts (rw is refl) (quiet
        (record x { due = all_due x.due x.held })) refl refl refl refl refl);
    resends = λ is es t. absurd (facts.again is);
  }
    where
      called_empty : (op : CallOp) → i ≡ Calls op → writes_nothing op ≡ true → (t : Step) → step x i ≡ t →
          TurnTied file c s pairs o (op_in x i) t
      called_empty op is empty t first =
          subst (TurnTied file c s pairs o (op_in x i)) first
          (subst (λ (j : Input). TurnTied file c s pairs o (op_in x i) (step x j)) (sym is)
          (by (is_some x.call) (is_bad_range (span_of op)) (is_spent x.next) (writes_nothing op) empty))
        where
          by : (a b u e : Bool) → e ≡ true → TurnTied file c s pairs o (op_in x i)
              (unless_refused x (if a then Err Busy else if b then Err BadRange else if u then Err SlotSpent
              else Ok (if e then record (still x) { outcome = Some (WriteOk 0) } else finished (quiet (with_start x op)))))
          by true b u e z = still_tied file m s c x i pairs o answer facts
          by false true u e z = still_tied file m s c x i pairs o answer facts
          by false false true e z = still_tied file m s c x i pairs o answer facts
          by false false false true z = nothing_done file m s c x i pairs o answer facts op is
          by false false false false z = absurd (cc z)

  pub turn_tied : TurnTied file c (after_all s (table.at_first s file c x i)) pairs o (op_in x i) (step x i)
  turn_tied = each_event_turn file s c x i (Tied_ file m s c x i pairs o answer facts) cases refl refl
