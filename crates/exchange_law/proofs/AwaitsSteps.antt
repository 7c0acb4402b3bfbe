-- Whatever comes to a client, what its call awaits then it awaited before, or it is sent in this step.
use Rattle.std.proofs.Common.{◌≡◌, ◌⊎◌, ℕ, ◌+◌, List, [], ◌∷◌, ◌++◌, Option, Some, None, map, refl, sym, ap, subst, inl, inr}
use Rattle.server_rules.specs.Laws.{In}
use Rattle.history_law.specs.State.{Client, Call, CallOp, Held, Due, Awaited, Need, WriteOk, Turn, Goes, Ends, Forgets, Moved, Done, AnswersRecall, Asks, ToDrive, Answer}
use Rattle.client_rules.specs.Replies.{replied, timed_out}
use Rattle.client_rules.specs.Answers.{not_granted, on_commit}
use Rattle.client_rules.specs.Going.{quiet, with_held, by_turn, moved, begins, requests, asks_under, returns}
use Rattle.client_rules.specs.Messages.{Step, still, to_drive, closed, finished, on_call, no_match, obeys, awaited_of}
use Rattle.client_rules.specs.Steps.{resent, all_due}
use Rattle.client_rules.specs.History.{Input, step}
use Rattle.exchange_law.proofs.Awaits.{awaited_by, MovedAwaits, replied_awaits, timed_out_awaits, begins_awaits, on_commit_awaits}
use Rattle.client_rules.specs.Io.{awaited_in}
use Rattle.history_law.specs.Turns.{FinishCases, TurnCases}
use Rattle.history_law.proofs.Turns.{each_finish, each_refusal, each_answer, each_turn}

-- what is awaited behind a step
pub record StepAwaits (c : Client) (s : Step) : Type 0 where
  pub each : (x : Awaited) → In x (awaited_of s.client.call)
      → In x (awaited_of c.call) ⊎ In (ToDrive x.drive x.command) s.sends

-- and in its middle; where a call is to begin nothing was sent
record DoneAwaits (old : List Awaited) (d : Done) : Type 0 where
  each : (x : Awaited) → In x (awaited_of d.client.call) → In x old ⊎ In x d.commands

module _ (c : Client) where
  abbrev old : List Awaited
  old = awaited_of c.call

  by_turn_awaits : (d : Done) (op : CallOp) (t : Turn)
      → ((x : Awaited) → In x (awaited_by t) → In x old ⊎ In x d.commands) → DoneAwaits old (by_turn d op t)
  by_turn_awaits d op (Goes p) t = record { each = t }
  by_turn_awaits d op (Ends o) t = record { each = λ x i. absurd i }
  by_turn_awaits d op (Forgets o) t = record { each = λ x i. absurd i }

  moved_awaits : (d : Done) (op : CallOp) (m : Moved) → MovedAwaits old m → DoneAwaits old (moved d op m)
  moved_awaits d op m t = by_turn_awaits (record (with_held d m.held) { commands = m.sent }) op m.turn t.each

  none_awaited : (d : Done) → awaited_of d.client.call ≡ [] → DoneAwaits old d
  none_awaited d e = record { each = λ x i. absurd (subst (In x) e i) }

  -- ---- a request goes out

  asks_awaits : (d : Done) (op : CallOp) (n : Need) (o : Option Held) → DoneAwaits old (asks_under d op n o)
  unfolding requests
  asks_awaits d op n None = none_awaited _ refl
  asks_awaits d op n (Some h) = none_awaited _ refl

  returns_awaits : (d : Done) (o : Option Due) → DoneAwaits old d → DoneAwaits old (returns d o)
  unfolding requests
  returns_awaits d None k = record { each = k.each }
  returns_awaits d (Some u) k = record { each = k.each }

  kept : FinishCases (DoneAwaits old)
  kept = record {
    needs = λ d op n k is out first. none_awaited _ refl;
    begun = λ d op h k is held covered. moved_awaits d op (begins h op) (begins_awaits old h op);
    asks = λ d op n h k is out held. asks_awaits d op n h;
    gives_back = λ d u k none out. returns_awaits d u k;
  }

  -- ---- what is sent

  behind : {A : Type 0} (x : A) (xs ys : List A) → In x ys → In x (xs ++ ys)
  behind x [] ys i = i
  behind x (y ∷ xs) ys i = inr (behind x xs ys i)

  command_sent : (x : Awaited) (xs : List Awaited) → In x xs → In (ToDrive x.drive x.command) (map to_drive xs)
  command_sent x [] i = absurd i
  command_sent x (y ∷ xs) (inl e) = inl (ap (λ (z : Awaited). ToDrive z.drive z.command) e)
  command_sent x (y ∷ xs) (inr i) = inr (command_sent x xs i)

  closed_awaits : (d : Done) → DoneAwaits old d → StepAwaits c (closed d)
  closed_awaits d k = record {
    each =
        λ x i. elim (k.each x i) [
          | inl o ↦ inl o
          | inr s ↦ inr (behind (ToDrive x.drive x.command) (map AnswersRecall d.recalls) _
              (behind (ToDrive x.drive x.command) (map Asks d.requests) _ (command_sent x d.commands s)))
        ];
  }

  finished_awaits : (d : Done) → DoneAwaits old d → StepAwaits c (finished d)
  unfolding finished
  finished_awaits d k = closed_awaits _ (each_finish (DoneAwaits old) kept d k)

  same_awaits : (s : Step) → s.client.call ≡ c.call → StepAwaits c s
  same_awaits s e = record { each = λ x i. inl (subst (λ (o : Option Call). In x (awaited_of o)) e i) }

  kept_awaits : (d : Done) → d.client.call ≡ c.call → DoneAwaits old d
  kept_awaits d e = record { each = λ x i. inl (subst (λ (o : Option Call). In x (awaited_of o)) e i) }

  -- ---- answers

  refused_awaits : (a : Answer) (tries : ℕ) → awaited_by (not_granted a tries) ≡ []
  refused_awaits a tries =
      each_refusal a tries (λ t. awaited_by t ≡ []) (record {
        again = λ few. refl;
        no_file = refl;
        is_held = refl;
        is_fenced = refl;
        none_given = refl;
        other = refl;
      })

  answered_awaits : (d : Done) (a : Answer) → DoneAwaits old d → DoneAwaits old (on_call d d.client.call a)
  answered_awaits d a k =
      each_answer d a (DoneAwaits old) (record {
        stays = k;
        returned = λ op is. none_awaited _ refl;
        granted = λ op tries h is took. none_awaited _ refl;
        unusable = λ op tries w is took. none_awaited _ refl;
        refused = λ op tries is.
            by_turn_awaits d op (not_granted a tries) (λ x i. absurd (subst (In x) (refused_awaits a tries) i));
        committed = λ op timed h is held. moved_awaits d op (on_commit h op a timed) (on_commit_awaits old h op a timed);
        reported = λ op timed is. none_awaited _ refl;
        closed = λ op o report is. none_awaited _ refl;
      })

  -- ---- any step

  before_awaits : (call : Call) → c.call ≡ Some call → (x : Awaited) → In x (awaited_in call.phase) → In x old ⊎ In x []
  before_awaits call is x i = inl (subst (λ (o : Option Call). In x (awaited_of o)) (sym is) i)

  cases : (i : Input) → TurnCases c i (StepAwaits c)
  cases i = record {
    rests = same_awaits (still c) refl;
    nothing = λ op is e. same_awaits (record (still c) { outcome = Some (WriteOk 0) }) refl;
    called = λ op is none can. finished_awaits _ (none_awaited _ refl);
    answered = λ a is.
        finished_awaits _ (answered_awaits (quiet (record c { outstanding = None })) a (kept_awaits _ refl));
    replied = λ drive q call h a is.
        finished_awaits _ (moved_awaits (quiet c) call.op (replied h call.op call.phase a q)
        (replied_awaits old h call.op call.phase a q (before_awaits call is.call_is)));
    unheld = finished_awaits _ (kept_awaits (quiet c) refl);
    recalled = λ q is. finished_awaits _ (kept_awaits (obeys c q) refl);
    unmatched = λ q is. finished_awaits _ (kept_awaits (no_match c q) refl);
    timed = λ n call h a xs is.
        finished_awaits _ (moved_awaits (quiet c) call.op (timed_out h call.op call.phase n a xs)
        (timed_out_awaits old h call.op call.phase n a xs (before_awaits call is.call_is)));
    leaves = λ is. finished_awaits _ (kept_awaits (quiet (record c { due = all_due c.due c.held })) refl);
    resends = λ is. same_awaits (record (still c) { sends = resent c }) refl;
  }

  pub step_awaits : (i : Input) → StepAwaits c (step c i)
  step_awaits i = each_turn c i (StepAwaits c) (cases i)
