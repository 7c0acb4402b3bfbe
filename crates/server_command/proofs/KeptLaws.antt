-- What a metadata server leaves over many steps.
use Rattle.std.proofs.Common.{◌≡◌, ◌≤◌, ◌⊎◌, inl, inr, ⊎_elim, false, ℕ, List, [], ◌∷◌, ◌++◌, refl, ◌∙◌, sym, ap, subst, append_assoc, arith}
use Rattle.std.proofs.lemmas.List.{append-nil}
use Rattle.osd_bytes.specs.Causes.{Rose}
use Rattle.osd_disk.specs.Crashes.{LeavesOnly}
use Rattle.osd_disk.proofs.Moments.{leaves_then}
use Rattle.server_rules.specs.declared.server.Server.{Server}
use Rattle.server_command.specs.declared.metadata_server.MetadataServer.{Ghosts}
use Rattle.server_command.specs.Steps.{ServerStep, after_step, after_steps}
use Rattle.server_command.specs.Kept.{StandsForSome, StandsSince}
use Rattle.server_command.specs.GoesOn.{Broke, BrokeBy, CutsFrom, GoesFrom, HasDone, Went, WentBy}

after_steps-then : (s : Server) (xs ys : List ServerStep) → after_steps (after_steps s xs) ys ≡ after_steps s (xs ++ ys)
after_steps-then s [] ys = refl
after_steps-then s (x ∷ xs) ys = after_steps-then (after_step s x) xs ys

module _ {H : Type 0} (s : Ghosts H) where
  abbrev Some_of : Server → List ServerStep → List ℕ → Type 0
  Some_of v xs c = StandsForSome s.stands_for v xs c

  none_of : (v : Server) (xs : List ServerStep) (c : List ℕ) → s.stands_for v c → Some_of v xs c
  none_of v [] c stands = stands
  none_of v (x ∷ xs) c stands = inl stands

  -- some of these are some of more
  some_before : (v : Server) (xs ys cut_off : List ServerStep) (c : List ℕ) → Some_of v (xs ++ []) c →
      Some_of v ((xs ++ ys) ++ cut_off) c
  some_before v [] ys cut_off c stands = none_of v (ys ++ cut_off) c stands
  some_before v (x ∷ xs) ys cut_off c (inl stands) = inl stands
  some_before v (x ∷ xs) ys cut_off c (inr stands) = inr (some_before (after_step v x) xs ys cut_off c stands)

  -- and all of these with some behind them
  some_behind : (v : Server) (xs ys cut_off : List ServerStep) (c : List ℕ) → Some_of (after_steps v xs) (ys ++ cut_off) c →
      Some_of v ((xs ++ ys) ++ cut_off) c
  some_behind v [] ys cut_off c stands = stands
  some_behind v (x ∷ xs) ys cut_off c stands = inr (some_behind (after_step v x) xs ys cut_off c stands)

  since_then : (mid new : H) (v : Server) (xs ys cut_off : List ServerStep) (t : ℕ)
      → StandsSince s.stands_for (s.left_since mid) (s.moment mid) v xs [] t → t ≤ s.moment mid → s.moment mid ≤ s.moment new
      → ((u : ℕ) (c : List ℕ) → u ≤ s.moment mid → s.left_since new u c →
      s.left_since mid u c ⊎ Some_of (after_steps v xs) (ys ++ cut_off) c)
      → StandsSince s.stands_for (s.left_since new) (s.moment new) (after_steps v xs) ys cut_off (s.moment mid)
      → StandsSince s.stands_for (s.left_since new) (s.moment new) v (xs ++ ys) cut_off t
  since_then mid new v [] [] cut_off t first le later before behind =
      λ c left. ⊎_elim (λ past. none_of v cut_off c (first c past)) (λ here. here) (before t c le left)
  since_then mid new v [] (y ∷ ys) cut_off t first le later before behind = (
    λ c left. ⊎_elim (λ past. inl (first c past)) (λ here. here) (before t c le left),
    behind.1,
    omega (arith, le, behind.2),
    behind.3,
    behind.4,
  )
  since_then mid new v (x ∷ xs) ys cut_off t first le later before behind = (
    λ c left. ⊎_elim (λ past. some_before v (x ∷ xs) ys cut_off c (first.0 c past))
        (λ here. some_behind v (x ∷ xs) ys cut_off c here) (before t c le left),
    first.1,
    first.2,
    omega (arith, first.3, later),
    since_then mid new (after_step v x) xs ys cut_off first.1 first.4 first.3 later before behind,
  )

  joined : (xs ys cut_off : List ServerStep) (old mid new : H) → WentBy s xs old mid → HasDone s ys cut_off mid new →
      HasDone s (xs ++ ys) cut_off old new
  joined xs ys cut_off old mid new w y =
      let x = w.carries in record {
        few = y.few;
        crash = λ k. leaves_then s.moment s.left_since old mid new (Some_of (s.server old) (xs ++ []))
            (Some_of (after_steps (s.server old) xs) (ys ++ cut_off))
            (Some_of (s.server old) ((xs ++ ys) ++ cut_off)) (x.crash k)
            (subst (λ (v : Server). LeavesOnly s.moment s.left_since mid new (Some_of v (ys ++ cut_off))) w.state
            (y.crash (w.keeps_on k)))
            (some_before (s.server old) xs ys cut_off) (some_behind (s.server old) xs ys cut_off);
        since = λ k.
            let before =
            subst (λ (v : Server). LeavesOnly s.moment s.left_since mid new (Some_of v (ys ++ cut_off))) w.state
            (y.crash (w.keeps_on k)) in
            since_then mid new (s.server old) xs ys cut_off (s.moment old) (x.since k)
            (x.crash k).later before.later before.before
            (subst (λ (v : Server). StandsSince s.stands_for (s.left_since new) (s.moment new) v ys cut_off (s.moment mid))
            w.state (y.since (w.keeps_on k)));
      }

  -- ---- these steps

  -- before any step
  pub by_none : (h : H) → ((c : List ℕ) → s.keeps h → s.left_since h (s.moment h) c → s.stands_for (s.server h) c) →
      s.is_over h ≡ false → WentBy s [] h h
  by_none h stays on = record {
    state = refl;
    carries = record {
      few = omega arith;
      crash = λ k. record { later = omega arith; each = λ c left. stays c k left; before = λ t c le left. inl left };
      since = λ k c left. stays c k left;
    };
    keeps_on = λ k. k;
    goes_on = on;
    same = refl;
  }

  -- these and more
  by_then : (xs ys : List ServerStep) (old mid new : H) → WentBy s xs old mid → WentBy s ys mid new → WentBy s (xs ++ ys) old new
  by_then xs ys old mid new w v = record {
    state = v.state ∙ ap (λ (x : Server). after_steps x ys) w.state ∙ after_steps-then (s.server old) xs ys;
    carries = joined xs ys [] old mid new w v.carries;
    keeps_on = λ k. v.keeps_on (w.keeps_on k);
    goes_on = v.goes_on;
    same = v.same ∙ w.same;
  }

  -- these, and more, of which the last was cut off
  broke_by_then : (xs ys cut_off : List ServerStep) (failed : Type 0) (old mid new : H) → WentBy s xs old mid
      → BrokeBy s ys cut_off failed mid new → BrokeBy s (xs ++ ys) cut_off failed old new
  broke_by_then xs ys cut_off failed old mid new w b = record {
    carries = joined xs ys cut_off old mid new w b.carries;
    rose = λ f. subst (λ (n : ℕ). Rose n (s.faults new)) w.same (b.rose f);
  }

  -- it gave up behind these, and not for its disk
  broke_by_behind : (xs : List ServerStep) (failed : Type 0) (old new : H) → WentBy s xs old new → (failed → ⊥) →
      BrokeBy s xs [] failed old new
  broke_by_behind xs failed old new w never = record { carries = w.carries; rose = λ f. absurd (never f) }

  -- ---- some steps

  pub went_none : (h : H) → ((c : List ℕ) → s.keeps h → s.left_since h (s.moment h) c → s.stands_for (s.server h) c) →
      s.is_over h ≡ false → Went s h h
  went_none h stays on = record { done = []; went = by_none h stays on }

  pub went_then : (old mid new : H) → Went s old mid → Went s mid new → Went s old new
  went_then old mid new w v = record { done = w.done ++ v.done; went = by_then w.done v.done old mid new w.went v.went }

  pub broke_then : (failed : Type 0) (old mid new : H) → Went s old mid → Broke s failed mid new → Broke s failed old new
  broke_then failed old mid new w b = record {
    done = w.done ++ b.done;
    cut_off = b.cut_off;
    broke = broke_by_then w.done b.done b.cut_off failed old mid new w.went b.broke;
  }

  pub broke_behind : (failed : Type 0) (old new : H) → Went s old new → (failed → ⊥) → Broke s failed old new
  broke_behind failed old new w never =
      record { done = w.done; cut_off = []; broke = broke_by_behind w.done failed old new w.went never }

  -- the steps of a call
  pub went_by : (done : List ServerStep) (old new : H) → WentBy s done old new → Went s old new
  went_by done old new w = record { done = done; went = w }

  -- and of one that was cut off
  pub broke_by : (done cut_off : List ServerStep) (failed : Type 0) (old new : H) → BrokeBy s done cut_off failed old new
      → Broke s failed old new
  broke_by done cut_off failed old new b = record { done = done; cut_off = cut_off; broke = b }

  -- ---- steps behind those that it had done

  pub from_none : (had : List ServerStep) (h : H)
      → ((c : List ℕ) → s.keeps h → s.left_since h (s.moment h) c → s.stands_for (s.server h) c) → s.is_over h ≡ false
      → GoesFrom s had had h h
  from_none had h stays on = record { done = []; are = sym (append-nil had); went = by_none h stays on }

  pub from_by : (had xs : List ServerStep) (old new : H) → WentBy s xs old new → GoesFrom s had (had ++ xs) old new
  from_by had xs old new w = record { done = xs; are = refl; went = w }

  -- no step
  pub from_same : (had : List ServerStep) (old new : H) → WentBy s [] old new → GoesFrom s had had old new
  from_same had old new w = record { done = []; are = sym (append-nil had); went = w }

  pub from_then : (had mids has : List ServerStep) (old mid new : H) → GoesFrom s had mids old mid → GoesFrom s mids has mid new
      → GoesFrom s had has old new
  from_then had mids has old mid new w v = record {
    done = w.done ++ v.done;
    are = v.are ∙ ap (λ (xs : List ServerStep). xs ++ v.done) w.are ∙ append_assoc had w.done v.done;
    went = by_then w.done v.done old mid new w.went v.went;
  }

  -- those of a server that had done none
  pub went_from_none : (has : List ServerStep) (old new : H) → GoesFrom s [] has old new → WentBy s has old new
  went_from_none has old new w = subst (λ (xs : List ServerStep). WentBy s xs old new) (sym w.are) w.went

  -- some steps
  pub from_went : (had : List ServerStep) (old new : H) (w : Went s old new) → GoesFrom s had (had ++ w.done) old new
  from_went had old new w = record { done = w.done; are = refl; went = w.went }

  -- ---- where it was cut off

  -- behind steps that were served
  pub cuts_then : (failed : Type 0) (had mids served unserved : List ServerStep) (old mid new : H) → GoesFrom s had mids old mid
      → CutsFrom s failed mids served unserved mid new → CutsFrom s failed had served unserved old new
  cuts_then failed had mids served unserved old mid new w b = record {
    done = w.done ++ b.done;
    handled = b.handled;
    cut_off = b.cut_off;
    are_served = b.are_served ∙ ap (λ (xs : List ServerStep). xs ++ b.done) w.are ∙ append_assoc had w.done b.done;
    are_unserved = b.are_unserved;
    broke = subst (λ (xs : List ServerStep). BrokeBy s xs b.cut_off failed old new) (sym (append_assoc w.done b.done b.handled))
        (broke_by_then w.done (b.done ++ b.handled) b.cut_off failed old mid new w.went b.broke);
  }

  -- with no step in hand, and not for its disk
  pub cuts_here : (failed : Type 0) (had has : List ServerStep) (old new : H) → GoesFrom s had has old new → (failed → ⊥)
      → CutsFrom s failed had has [] old new
  cuts_here failed had has old new w never = record {
    done = w.done;
    handled = [];
    cut_off = [];
    are_served = w.are;
    are_unserved = refl;
    broke = subst (λ (xs : List ServerStep). BrokeBy s xs [] failed old new) (sym (append-nil w.done))
        (broke_by_behind w.done failed old new w.went never);
  }

  -- before it did anything
  pub cuts_none : (failed : Type 0) (had : List ServerStep) (h : H)
      → ((c : List ℕ) → s.keeps h → s.left_since h (s.moment h) c → s.stands_for (s.server h) c) → s.is_over h ≡ false
      → (failed → ⊥) → CutsFrom s failed had had [] h h
  cuts_none failed had h stays on never = cuts_here failed had had h h (from_none had h stays on) never

  -- behind these, which were done to their ends but not served
  pub cuts_behind : (failed : Type 0) (had xs : List ServerStep) (old new : H) → WentBy s xs old new → (failed → ⊥)
      → CutsFrom s failed had had xs old new
  cuts_behind failed had xs old new w never = record {
    done = [];
    handled = xs;
    cut_off = [];
    are_served = sym (append-nil had);
    are_unserved = sym (append-nil xs);
    broke = broke_by_behind xs failed old new w never;
  }

  -- in one of these
  pub cuts_in : (failed : Type 0) (had xs : List ServerStep) (old new : H) → BrokeBy s [] xs failed old new
      → CutsFrom s failed had had xs old new
  cuts_in failed had xs old new b = record {
    done = [];
    handled = [];
    cut_off = xs;
    are_served = sym (append-nil had);
    are_unserved = refl;
    broke = b;
  }

  -- behind some steps, or in the last of them
  pub cuts_broke : (failed : Type 0) (had : List ServerStep) (old new : H) (b : Broke s failed old new)
      → CutsFrom s failed had (had ++ b.done) b.cut_off old new
  cuts_broke failed had old new b = record {
    done = b.done;
    handled = [];
    cut_off = b.cut_off;
    are_served = refl;
    are_unserved = refl;
    broke = subst (λ (xs : List ServerStep). BrokeBy s xs b.cut_off failed old new) (sym (append-nil b.done)) b.broke;
  }

  -- the same, by another name of the error
  pub cuts_as : (failed called : Type 0) (had served unserved : List ServerStep) (old new : H) → (called → failed)
      → CutsFrom s failed had served unserved old new → CutsFrom s called had served unserved old new
  cuts_as failed called had served unserved old new same b = record {
    done = b.done;
    handled = b.handled;
    cut_off = b.cut_off;
    are_served = b.are_served;
    are_unserved = b.are_unserved;
    broke = record { carries = b.broke.carries; rose = λ f. b.broke.rose (same f) };
  }
