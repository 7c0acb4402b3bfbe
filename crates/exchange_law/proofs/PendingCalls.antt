-- At each moment the calls that are pending by the log are those of the world's clients.
use Rattle.std.proofs.Common.{◌≡◌, ℕ, Bool, true, false, Option, Some, None, Ok, Err, is_some, refl, sym, ap, subst, ◌∙◌, inl, inr, if◌then◌else◌}
use Rattle.std.specs.Prelude.{option_map}
use Rattle.std.specs.List.{fold}
use Rattle.std.proofs.lemmas.Bool.{cases_eq}
use Rattle.osd_objects.proofs.Entries.{lookup_inserted, lookup_beside, removed_again}
use Rattle.scenario_text.specs.declared.event.Call.{Call as ToldCall}
use Rattle.client_rules.specs.Messages.{Step as ClientStep}
use Rattle.client_rules.specs.Steps.{is_bad_range, is_spent, starts, calls}
use Rattle.client_rules.specs.Calls.{span_of}
use Rattle.world_history.specs.ClientNames.{Call, CallOp, CallErr, Busy, BadRange, SlotSpent, Outcome}
use Rattle.world_history.specs.State.{World, ClientAt, at_number, and_number, without_number, with_client}
use Rattle.world_history.specs.Names.{is_tellable}
use Rattle.world_history.specs.Told.{told_refusal}
use Rattle.world_history.specs.Handed.{pending_op, ended_by}
use Rattle.world_history.specs.Moves.{op_of}
use Rattle.world_history.specs.ReadLog.{Pending, Log, called, called_beside, refused, log_after}
use Rattle.exchange_law.specs.InStep.{state_of}
use Rattle.exchange_law.proofs.Each.{put_same, put_other}
use Rattle.exchange_law.specs.InStep.{client_of}
use Rattle.exchange_law.specs.Pending.{logged_op}
use Rattle.exchange_law.proofs.PendingEntries.{AreRising, rising_inserted, rising_removed, removed_there, removed_beside}
use Rattle.exchange_law.proofs.PendingLines.{Calls, end_takes}
use Rattle.exchange_law.proofs.PendingTurns.{EndsAs}

-- the pending calls are by rising clients, and are those of the world
abbrev pub Agree : World → Calls → Type 0
Agree w ps = AreRising ps × ((c : ℕ) → logged_op (at_number ps c) ≡ pending_op (client_of w c))

-- ---- a client goes on

-- but for client c, whose call is this one
abbrev pub AgreeBut : World → (client : ℕ) → Option CallOp → Calls → Type 0
AgreeBut w c o ps = AreRising ps × (logged_op (at_number ps c) ≡ o)
    × ((q : ℕ) → (q ≡ c → ⊥) → logged_op (at_number ps q) ≡ pending_op (client_of w q))

module _ (w : World) (c : ℕ) (a b : ClientAt) (found : at_number w.clients c ≡ Some a) where
  abbrev v : World
  v = with_client w c b

  there : client_of v c ≡ b.state
  there = ap (state_of c) (put_same w.clients c a b found)

  beside : (q : ℕ) → (q ≡ c → ⊥) → client_of v q ≡ client_of w q
  beside q other = ap (state_of q) (put_other w.clients c q b other)

  -- what client c has behind it, and the others as before
  behind_all : (ps : Calls) → AreRising ps → logged_op (at_number ps c) ≡ pending_op b.state →
      ((q : ℕ) → (q ≡ c → ⊥) → logged_op (at_number ps q) ≡ pending_op (client_of w q)) → Agree v ps
  behind_all ps r here others = (
    r,
    λ q. elim (cases_eq q c) [
      | inl same ↦
          ap (λ (n : ℕ). logged_op (at_number ps n)) same ∙ here ∙ sym (ap pending_op there)
          ∙ sym (ap (λ (n : ℕ). pending_op (client_of v n)) same)
      | inr other ↦ others q other ∙ sym (ap pending_op (beside q other))
    ],
  )

  pub going_agrees : (l : Log) (o : Option CallOp) (x : Option Outcome) → AgreeBut w c o l.pending →
      EndsAs o x b.state.call → ((y : Outcome) → x ≡ Some y → is_tellable y ≡ true) →
      Agree v (fold log_after l (ended_by c o x)).pending
  going_agrees l None None h e told = behind_all l.pending h.0 (h.1 ∙ sym e) h.2
  going_agrees l (Some op) None h e told = behind_all l.pending h.0 (h.1 ∙ sym e) h.2
  going_agrees l None (Some y) h e told =
      behind_all l.pending h.0 (h.1 ∙ sym (ap (option_map (λ (z : Call). z.op)) e)) h.2
  going_agrees l (Some op) (Some y) h e told =
      let less : (fold log_after l (ended_by c (Some op) (Some y))).pending ≡ without_number l.pending c =
      ap (λ (m : Log). m.pending) (end_takes l c op y (told y refl)) in
      subst (Agree v) (sym less)
      (behind_all (without_number l.pending c) (rising_removed c l.pending h.0)
      (ap logged_op (removed_there c l.pending h.0) ∙ sym (ap (option_map (λ (z : Call). z.op)) e))
      (λ q other. ap logged_op (removed_beside c q l.pending other) ∙ h.2 q other))

-- ---- a call

none_logged : (o : Option Pending) → logged_op o ≡ None → o ≡ None
none_logged None e = refl
none_logged (Some p) e = absurd (cc e)

some_logged : (o : Option Pending) (op : CallOp) → logged_op o ≡ Some op → (p : Pending) × (o ≡ Some p)
some_logged None op e = absurd (cc e)
some_logged (Some p) op e = (p, refl)

none_is : (o : Option Call) → is_some o ≡ false → o ≡ None
none_is None e = refl
none_is (Some call) e = absurd (cc e)

some_is : (o : Option Call) → is_some o ≡ true → (call : Call) × (o ≡ Some call)
some_is None e = absurd (cc e)
some_is (Some call) e = (call, refl)

-- a client without a call is called
new_call : (w : World) (l : Log) (c : ℕ) (x : ToldCall) → Agree w l.pending → at_number l.pending c ≡ None →
    AgreeBut w c (Some (op_of x)) (called l c x).pending
new_call w l c x h none =
    let new : Calls = and_number l.pending c (record { call = x; entry = None }) in
    subst (λ (o : Option Pending). AgreeBut w c (Some (op_of x)) (called_beside l c x o).pending) (sym none) (
      rising_inserted c _ l.pending h.0,
      ap logged_op (lookup_inserted l.pending c _),
      λ q other. ap logged_op (lookup_beside l.pending c q _ other) ∙ h.1 q,
    )

module _ (w : World) (l : Log) (c : ℕ) (a : ClientAt) (found : at_number w.clients c ≡ Some a) (x : ToldCall)
    (h : Agree w l.pending) where
  here : logged_op (at_number l.pending c) ≡ pending_op a.state
  here = h.1 c ∙ ap (λ (o : Option ClientAt). pending_op (state_of c o)) found

  free : a.state.call ≡ None → at_number l.pending c ≡ None
  free none = none_logged (at_number l.pending c) (here ∙ ap (option_map (λ (z : Call). z.op)) none)

  -- one that is refused is taken away again, unless it was refused beside a pending one
  taken_again : a.state.call ≡ None → without_number (called l c x).pending c ≡ l.pending
  taken_again none =
      subst (λ (o : Option Pending). without_number (called_beside l c x o).pending c ≡ l.pending) (sym (free none))
      (removed_again l.pending c _ (free none))

  busy_same : (call : Call) → a.state.call ≡ Some call → called l c x ≡ l
  busy_same call is =
      let p = some_logged (at_number l.pending c) call.op (here ∙ ap (option_map (λ (z : Call). z.op)) is) in
      ap (called_beside l c x) p.1

  pub refused_agrees : (e : CallErr) → calls a.state (op_of x) ≡ Err e →
      Agree w (refused (called l c x) c (told_refusal e)).pending
  unfolding calls
  refused_agrees e is =
      by (is_some a.state.call) (is_bad_range (span_of (op_of x))) (is_spent a.state.next) refl is
    where
      gone : (d : CallErr) → d ≡ e → refused (called l c x) c (told_refusal d) ≡ record (called l c x) {
        pending = without_number (called l c x).pending c;
      } → a.state.call ≡ None → Agree w (refused (called l c x) c (told_refusal e)).pending
      gone d same taken none =
          subst (λ (d : CallErr). Agree w (refused (called l c x) c (told_refusal d)).pending) same
          (subst (Agree w) (sym (ap (λ (m : Log). m.pending) taken ∙ taken_again none)) h)

      by : (u b d : Bool) → is_some a.state.call ≡ u →
          (if u then Err Busy else if b then Err BadRange else if d then Err SlotSpent else Ok (starts a.state (op_of x)))
          ≡ Err e → Agree w (refused (called l c x) c (told_refusal e)).pending
      by true b d some q =
          let same : Busy ≡ e = cc q in
          let call = some_is a.state.call some in
          subst (λ (d : CallErr). Agree w (refused (called l c x) c (told_refusal d)).pending) same
          (subst (Agree w) (sym (ap (λ (m : Log). m.pending) (busy_same call.0 call.1))) h)
      by false true d none q = gone BadRange (cc q) refl (none_is a.state.call none)
      by false false true none q = gone SlotSpent (cc q) refl (none_is a.state.call none)
      by false false false none q = absurd (cc q)

  pub called_agrees : (s : ClientStep) → calls a.state (op_of x) ≡ Ok s →
      AgreeBut w c (Some (op_of x)) (called l c x).pending
  unfolding calls
  called_agrees s is = by (is_some a.state.call) (is_bad_range (span_of (op_of x))) (is_spent a.state.next) refl is
    where
      by : (u b d : Bool) → is_some a.state.call ≡ u →
          (if u then Err Busy else if b then Err BadRange else if d then Err SlotSpent else Ok (starts a.state (op_of x)))
          ≡ Ok s → AgreeBut w c (Some (op_of x)) (called l c x).pending
      by true b d some q = absurd (cc q)
      by false true d none q = absurd (cc q)
      by false false true none q = absurd (cc q)
      by false false false none q = new_call w l c x h (free (none_is a.state.call none))
