-- What a device server leaves over many records.
use Rattle.std.proofs.Common.{◌≡◌, ◌≤◌, ◌⊎◌, inl, inr, ⊎_elim, false, ℕ, List, [], ◌∷◌, ◌++◌, refl, ◌∙◌, sym, ap, subst, append_assoc, arith}
use Rattle.std.proofs.lemmas.List.{append-nil}
use Rattle.osd_disk.specs.Crashes.{LeavesOnly}
use Rattle.osd_disk.proofs.Moments.{leaves_then}
use Rattle.osd_drive.specs.State.{DriveState}
use Rattle.osd_drive.specs.Effects.{drive_after}
use Rattle.drive_command.specs.Records.{Handled, after_all}
use Rattle.drive_command.specs.declared.device_server.DeviceServer.{Ghosts}
use Rattle.drive_command.specs.Kept.{StandsForSome, StandsSince}
use Rattle.drive_command.specs.GoesOn.{HasHandled, WentOn}

pub after_all-then : (d : DriveState) (hs gs : List Handled) → after_all (after_all d hs) gs ≡ after_all d (hs ++ gs)
after_all-then d [] gs = refl
after_all-then d (h ∷ hs) gs = after_all-then (drive_after d h.time h.message) hs gs

module _ {H : Type 0} (s : Ghosts H) where
  abbrev Some_of : DriveState → List Handled → List ℕ → Type 0
  Some_of d hs c = StandsForSome s.stands_for d hs c

  none_of : (d : DriveState) (hs : List Handled) (c : List ℕ) → s.stands_for d c → Some_of d hs c
  none_of d [] c stands = stands
  none_of d (h ∷ hs) c stands = inl stands

  -- some of these are some of more
  some_before : (d : DriveState) (hs gs cut_off : List Handled) (c : List ℕ) → Some_of d (hs ++ []) c →
      Some_of d ((hs ++ gs) ++ cut_off) c
  some_before d [] gs cut_off c stands = none_of d (gs ++ cut_off) c stands
  some_before d (h ∷ hs) gs cut_off c (inl stands) = inl stands
  some_before d (h ∷ hs) gs cut_off c (inr stands) = inr (some_before (drive_after d h.time h.message) hs gs cut_off c stands)

  -- and all of these with some behind them
  some_behind : (d : DriveState) (hs gs cut_off : List Handled) (c : List ℕ) → Some_of (after_all d hs) (gs ++ cut_off) c →
      Some_of d ((hs ++ gs) ++ cut_off) c
  some_behind d [] gs cut_off c stands = stands
  some_behind d (h ∷ hs) gs cut_off c stands = inr (some_behind (drive_after d h.time h.message) hs gs cut_off c stands)

  since_then : (mid new : H) (d : DriveState) (hs gs cut_off : List Handled) (t : ℕ)
      → StandsSince s.stands_for (s.left_since mid) (s.moment mid) d hs [] t → t ≤ s.moment mid → s.moment mid ≤ s.moment new
      → ((u : ℕ) (c : List ℕ) → u ≤ s.moment mid → s.left_since new u c →
      s.left_since mid u c ⊎ Some_of (after_all d hs) (gs ++ cut_off) c)
      → StandsSince s.stands_for (s.left_since new) (s.moment new) (after_all d hs) gs cut_off (s.moment mid)
      → StandsSince s.stands_for (s.left_since new) (s.moment new) d (hs ++ gs) cut_off t
  since_then mid new d [] [] cut_off t first le later before behind =
      λ c left. ⊎_elim (λ past. none_of d cut_off c (first c past)) (λ here. here) (before t c le left)
  since_then mid new d [] (g ∷ gs) cut_off t first le later before behind = (
    λ c left. ⊎_elim (λ past. inl (first c past)) (λ here. here) (before t c le left),
    behind.1,
    omega (arith, le, behind.2),
    behind.3,
    behind.4,
  )
  since_then mid new d (h ∷ hs) gs cut_off t first le later before behind = (
    λ c left. ⊎_elim (λ past. some_before d (h ∷ hs) gs cut_off c (first.0 c past))
        (λ here. some_behind d (h ∷ hs) gs cut_off c here) (before t c le left),
    first.1,
    first.2,
    omega (arith, first.3, later),
    since_then mid new (drive_after d h.time h.message) hs gs cut_off first.1 first.4 first.3 later before behind,
  )

  pub joined : (hs gs cut_off : List Handled) (old mid new : H) → HasHandled s hs [] old mid → (s.keeps old → s.keeps mid)
      → HasHandled s gs cut_off mid new → HasHandled s (hs ++ gs) cut_off old new
  joined hs gs cut_off old mid new x kept y =
      let between : s.drive mid ≡ after_all (s.drive old) hs =
      x.state ∙ ap (λ (ks : List Handled). after_all (s.drive old) ks) (append-nil hs) in record {
        state = y.state ∙ ap (λ (d : DriveState). after_all d (gs ++ cut_off)) between
            ∙ after_all-then (s.drive old) hs (gs ++ cut_off)
            ∙ ap (λ (ks : List Handled). after_all (s.drive old) ks) (sym (append_assoc hs gs cut_off));
        few = y.few;
        crash = λ k. leaves_then s.moment s.left_since old mid new (Some_of (s.drive old) (hs ++ []))
            (Some_of (after_all (s.drive old) hs) (gs ++ cut_off))
            (Some_of (s.drive old) ((hs ++ gs) ++ cut_off)) (x.crash k)
            (subst (λ (d : DriveState). LeavesOnly s.moment s.left_since mid new (Some_of d (gs ++ cut_off))) between
            (y.crash (kept k)))
            (some_before (s.drive old) hs gs cut_off) (some_behind (s.drive old) hs gs cut_off);
        since = λ k.
            let before =
            subst (λ (d : DriveState). LeavesOnly s.moment s.left_since mid new (Some_of d (gs ++ cut_off))) between
            (y.crash (kept k)) in
            since_then mid new (s.drive old) hs gs cut_off (s.moment old) (x.since k) (x.crash k).later before.later before.before
            (subst (λ (d : DriveState). StandsSince s.stands_for (s.left_since new) (s.moment new) d gs cut_off (s.moment mid))
            between (y.since (kept k)));
      }

  -- before any record
  pub went-none : (h : H) → ((c : List ℕ) → s.keeps h → s.left_since h (s.moment h) c → s.stands_for (s.drive h) c) →
      s.is_over h ≡ false → WentOn s [] h h
  went-none h stays on = record {
    carries = record {
      state = refl;
      few = omega arith;
      crash = λ k. record { later = omega arith; each = λ c left. stays c k left; before = λ t c le left. inl left };
      since = λ k c left. stays c k left;
    };
    keeps = λ k. k;
    goes_on = on;
    same = refl;
  }

  -- some records behind others, all of them answered
  pub went-then : (hs gs : List Handled) (old mid new : H) → WentOn s hs old mid → WentOn s gs mid new
      → WentOn s (hs ++ gs) old new
  went-then hs gs old mid new w v = record {
    carries = joined hs gs [] old mid new w.carries w.keeps v.carries;
    keeps = λ k. v.keeps (w.keeps k);
    goes_on = v.goes_on;
    same = v.same ∙ w.same;
  }
