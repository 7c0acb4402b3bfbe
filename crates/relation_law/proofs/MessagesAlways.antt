-- Whatever comes to a client, its reads and gathers have what they need, and a read that a reply or a timeout ends is answered by
-- what it got.
-- Towards `SentGoesOn` (`specs/Steps.antt`).
use Rattle.std.proofs.Common.{◌≡◌, ℕ, ◌<◌, ◌==◌, Bool, true, false, List, [], ◌∷◌, ◌++◌, length, Option, Some, None, Ok, Err, refl, sym, ap, subst, ◌∙◌, inl, inr, arith}
use Rattle.std.specs.Prelude.{find, if◌then◌else◌, is_some}
use Rattle.std.proofs.lemmas.Bool.{cases_Bool}
use Rattle.layout_ops.specs.declared.messages.Answer.{Answer}
use Rattle.server_rules.specs.Laws.{In}
use Rattle.client_rules.specs.Calls.{file_of, span_of}
use Rattle.client_rules.specs.Grants.{held_of}
use Rattle.client_rules.specs.Io.{awaited_in, got_of}
use Rattle.client_rules.specs.Replies.{answers, replied, timed_out}
use Rattle.client_rules.specs.Answers.{on_report}
use Rattle.client_rules.specs.Going.{quiet, moved}
use Rattle.client_rules.specs.Messages.{still, finished, on_need, on_phase, on_call, obeys, no_match}
use Rattle.client_rules.specs.Steps.{new_client, writes_nothing, is_bad_range, is_spent, all_due, calls}
use Rattle.client_rules.specs.History.{Input, Calls, unless_refused, step, state_after}
use Rattle.client_rules.proofs.ReadSteps.{report_fits, any_fits}
use Rattle.world_history.specs.ClientNames.{Client, Call, CallOp, Busy, BadRange, SlotSpent, Held, Write, Read, Awaited, Reply, Need, First, Get, Commit, Report, Close, Phase, Starts, Needs, Waits, Reads, Probes, Gathers, Scatters, WriteOk, Done}
use Rattle.history_law.specs.Turns.{TurnCases, IsReplied, IsTimed, with_start}
use Rattle.history_law.proofs.Turns.{each_turn}
use Rattle.relation_law.proofs.MessagesClients.{IsFit, ReadEnds}
use Rattle.relation_law.proofs.MessagesGathers.{HasBytes}
use Rattle.relation_law.proofs.MessagesTurns.{got_by, replied_fits, timed_fits}
use Rattle.relation_law.proofs.MessagesRun.{CallFits, IsFine, FineDone, FineStep, phased_fine, over_fine, moved_fine, call_bytes, finished_fine, held_gives, on_get_fine}
use Rattle.relation_law.proofs.MessagesTaken.{taken_usable}

-- nothing is said of how a call ends
abbrev pub Any : List ℕ → Type 0
Any bytes = Unit {0}

-- ---- answers

on_need_fine : (d : Done) (op : CallOp) (n : Need) (a : Answer) → FineDone Any d → HasBytes op → FineDone Any (on_need d op n a)
on_need_fine d op First a f b = phased_fine Any d op Starts f b (λ h o. tt)
on_need_fine d op (Get tries) a f b = on_get_fine taken_usable Any d op tries a f b
on_need_fine d op (Commit timed) a f b = held_gives d op a timed Any (held_of d.client.held (file_of op)) refl f b
on_need_fine d op (Report timed) a f b = over_fine Any d (on_report op a timed) f (report_fits Any op a timed)
on_need_fine d op (Close outcome report) a f b = over_fine Any d outcome f (any_fits (Some outcome))

on_phase_fine : (d : Done) (op : CallOp) (p : Phase) (a : Answer) → FineDone Any d → HasBytes op →
    FineDone Any (on_phase d op p a)
on_phase_fine d op (Waits n) a f b = on_need_fine d op n a f b
on_phase_fine d op Starts a f b = f
on_phase_fine d op (Needs n) a f b = f
on_phase_fine d op (Reads io) a f b = f
on_phase_fine d op (Probes io) a f b = f
on_phase_fine d op (Gathers io) a f b = f
on_phase_fine d op (Scatters io queue) a f b = f

pub on_call_fine : (d : Done) (o : Option Call) (a : Answer) → d.client.call ≡ o → FineDone Any d → FineDone Any (on_call d o a)
on_call_fine d None a e f = f
on_call_fine d (Some call) a e f = on_phase_fine d call.op call.phase a f (call_bytes d.client.held d.client.call call e f.call)

-- ---- calls

-- a call that writes, and not nothing, writes some bytes
pub has_bytes : (op : CallOp) → writes_nothing op ≡ false → HasBytes op
has_bytes (Write file offset bytes) e = record { some = λ w. record { long = refl; some = some_length bytes e } }
  where
    some_length : (bs : List ℕ) → (length bs == 0) ≡ false → 0 < length bs
    some_length [] e = absurd (cc e)
    some_length (b ∷ bs) e = omega arith
has_bytes (Read file offset count) e = record { some = λ w. absurd (cc w) }

still_fine : (c : Client) → IsFine c → FineStep Any (still c)
still_fine c f = record { client = f; outcome = tt }

-- one of no byte leaves the client
empty_call : (c : Client) (op : CallOp) → IsFine c → writes_nothing op ≡ true → FineStep Any (step c (Calls op))
unfolding calls
empty_call c op f e = by_tests (is_some c.call) (is_bad_range (span_of op)) (is_spent c.next) (writes_nothing op) e
  where
    by_tests : (a b s w : Bool) → w ≡ true → FineStep Any
        (unless_refused c (if a then Err Busy else if b then Err BadRange else if s then Err SlotSpent
        else Ok (if w then record (still c) { outcome = Some (WriteOk 0) } else finished (quiet (with_start c op)))))
    by_tests true b s w e = still_fine c f
    by_tests false true s w e = still_fine c f
    by_tests false false true w e = still_fine c f
    by_tests false false false true e = record { client = f; outcome = tt }
    by_tests false false false false e = absurd (cc e)

-- ---- a turn

pub found_one : (p : Awaited → Bool) (xs : List Awaited) (a : Awaited) → find p xs ≡ Some a → In a xs
found_one p [] a e = absurd (cc e)
found_one p (x ∷ xs) a e = elim (cases_Bool (p x)) [
  | inl t ↦ let same : x ≡ a = cc (rw t at e) in inl (sym same)
  | inr f ↦ inr (found_one p xs a (rw f at e))
]

call_fit : (hs : List Held) (o : Option Call) (call : Call) (h : Held) → o ≡ Some call → CallFits hs o →
    held_of hs (file_of call.op) ≡ Some h → IsFit h call.op call.phase
call_fit hs None call h e x held = absurd (cc e)
call_fit hs (Some q) call h e x held = let same : q ≡ call = cc e in
    subst (λ (y : Call). IsFit h y.op y.phase) same (x.1 h (ap (λ (y : Call). held_of hs (file_of y.op)) same ∙ held))

pub quiet_fine : (Fit : List ℕ → Type 0) (c : Client) → IsFine c → FineDone Fit (quiet c)
quiet_fine Fit c f = record { usable = f.usable; call = f.call; outcome = tt }

module _ (c : Client) (i : Input) (f : IsFine c) where
  pub replied_done : (Fit : List ℕ → Type 0) (drive : ℕ) (q : Reply) (call : Call) (h : Held) (a : Awaited) →
      IsReplied c i drive q call h a →
      ((bytes : List ℕ) → ReadEnds h call.op (got_by call.phase ++ got_of a q ∷ []) bytes → Fit bytes) →
      FineDone Fit (moved (quiet c) call.op (replied h call.op call.phase a q))
  replied_done Fit drive q call h a k fit =
      moved_fine Fit (quiet c) call.op h (replied h call.op call.phase a q) (got_by call.phase ++ got_of a q ∷ [])
      (quiet_fine Fit c f)
      k.held (call_bytes c.held c.call call k.call_is f.call)
      (replied_fits h call.op call.phase a q (f.usable (file_of call.op) h k.held)
      (found_one (answers drive q) (awaited_in call.phase) a k.awaits)
      (call_fit c.held c.call call h k.call_is f.call k.held)) fit

  pub timed_done : (Fit : List ℕ → Type 0) (n : ℕ) (call : Call) (h : Held) (a : Awaited) (xs : List Awaited) →
      IsTimed c i n call h a xs →
      ((bytes : List ℕ) → ReadEnds h call.op (got_by call.phase) bytes → Fit bytes) →
      FineDone Fit (moved (quiet c) call.op (timed_out h call.op call.phase n a xs))
  timed_done Fit n call h a xs k fit =
      moved_fine Fit (quiet c) call.op h (timed_out h call.op call.phase n a xs) (got_by call.phase) (quiet_fine Fit c f)
      k.held (call_bytes c.held c.call call k.call_is f.call)
      (timed_fits h call.op call.phase n a xs (f.usable (file_of call.op) h k.held)
      (call_fit c.held c.call call h k.call_is f.call k.held)) fit

  cases : TurnCases c i (λ s. s ≡ step c i → FineStep Any s)
  cases = record {
    rests = λ e. still_fine c f;
    nothing = λ op is none e. record { client = f; outcome = tt };
    called = λ op is free can e. elim (cases_Bool (writes_nothing op)) [
      | inl none ↦ subst (FineStep Any) (sym (e ∙ ap (step c) is)) (empty_call c op f none)
      | inr some ↦ finished_fine Any (quiet (with_start c op))
          (record { usable = f.usable; call = (has_bytes op some, λ h there. tt); outcome = tt })
    ];
    answered = λ a k e. finished_fine Any _ (on_call_fine (quiet (record c { outstanding = None })) c.call a refl
        (record { usable = f.usable; call = f.call; outcome = tt }));
    replied = λ drive q call h a k e. finished_fine Any _ (replied_done Any drive q call h a k (λ bytes x. tt));
    unheld = λ e. finished_fine Any (quiet c) (quiet_fine Any c f);
    recalled = λ q is e. finished_fine Any (obeys c q) (record { usable = f.usable; call = f.call; outcome = tt });
    unmatched = λ q is e. finished_fine Any (no_match c q) (record { usable = f.usable; call = f.call; outcome = tt });
    timed = λ n call h a xs k e. finished_fine Any _ (timed_done Any n call h a xs k (λ bytes x. tt));
    leaves = λ is e. finished_fine Any (quiet (record c { due = all_due c.due c.held }))
        (record { usable = f.usable; call = f.call; outcome = tt });
    resends = λ is e. record { client = f; outcome = tt };
  }

  -- so is the client behind a turn
  pub turn_is_fine : IsFine (step c i).client
  turn_is_fine = (each_turn c i (λ s. s ≡ step c i → FineStep Any s) cases refl).client

-- ---- each run

all_fine : (c : Client) (is : List Input) → IsFine c → IsFine (state_after c is)
all_fine c [] f = f
all_fine c (i ∷ is) f = all_fine (step c i).client is (turn_is_fine c i f)

pub new_fine : (number sequence : ℕ) → IsFine (new_client number sequence)
unfolding held_of
new_fine number sequence = record { usable = λ file h e. absurd (cc e); call = tt }

-- after any inputs to a new client
pub always_fine : (number sequence : ℕ) (is : List Input) → IsFine (state_after (new_client number sequence) is)
always_fine number sequence is = all_fine (new_client number sequence) is (new_fine number sequence)
