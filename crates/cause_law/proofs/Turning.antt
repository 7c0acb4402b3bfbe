-- In each turn of a client its call ends as only an answer says if the client takes that answer, and not else.
use Rattle.std.proofs.Common.{◌≡◌, ◌⊎◌, Option, Some, None, refl, subst, inl, inr}
use Rattle.layout_ops.specs.declared.messages.Answer.{Answer}
use Rattle.client_rules.specs.Calls.{file_of}
use Rattle.client_rules.specs.Going.{quiet, moved, begins, requests, asks_under, returns}
use Rattle.client_rules.specs.Grants.{held_of}
use Rattle.client_rules.specs.History.{Input, step}
use Rattle.client_rules.specs.Messages.{Step, finished, on_phase, on_call}
use Rattle.client_rules.specs.Replies.{replied, timed_out}
use Rattle.world_history.specs.ClientNames.{Client, CallOp, Call, Held, Due, Need, First, Get, Phase, Starts, Needs, Waits, Reads, Probes, Gathers, Scatters, Outcome, Done, Commit, Report, Close}
use Rattle.history_law.specs.Turns.{AnswerComes, IsFirstNeed, with_start, FinishCases, TurnCases}
use Rattle.history_law.proofs.Turns.{each_finish, each_turn}
use Rattle.cause_law.specs.Ends.{Says}
use Rattle.cause_law.proofs.Dealing.{IsOwn, NeedOwn, PhaseOwn, CallOwn, EndOwn, DoneOwn, replied_own, timed_out_own, begins_own, moved_own, need_own}

-- what a step leaves and tells
pub record StepOwn (T : Outcome → Type 0) (s : Step) : Type 0 where
  pub call : CallOwn s.client.call
  pub outcome : EndOwn T s.outcome

module _ (T : Outcome → Type 0) (own : (o : Outcome) → IsOwn o → T o) where
  -- ---- a request goes out

  asks_own : (d : Done) (op : CallOp) (n : Need) (o : Option Held) → NeedOwn n → DoneOwn T d
      → DoneOwn T (asks_under d op n o)
  unfolding requests
  asks_own d op n None t k = record { call = t; outcome = k.outcome }
  asks_own d op n (Some h) t k = record { call = t; outcome = k.outcome }

  returns_own : (d : Done) (o : Option Due) → DoneOwn T d → DoneOwn T (returns d o)
  unfolding requests
  returns_own d None k = record { call = k.call; outcome = k.outcome }
  returns_own d (Some u) k = record { call = k.call; outcome = k.outcome }

  first_own : (op : CallOp) (n : Need) (o : Option Held) → IsFirstNeed op n o → NeedOwn n
  first_own op First o first = tt
  first_own op (Get tries) o first = tt
  first_own op (Commit timed) o first = absurd first
  first_own op (Report timed) o first = absurd first
  first_own op (Close u report) o first = absurd first

  kept : FinishCases (DoneOwn T)
  kept = record {
    needs = λ d op n k is out first. record {
      call = first_own op n (held_of d.client.held (file_of op)) first;
      outcome = k.outcome;
    };
    begun = λ d op h k is held covered. moved_own T own d op (begins h op) k.outcome (begins_own T own h op);
    asks = λ d op n h k is out held. asks_own d op n h (subst CallOwn is k.call) k;
    gives_back = λ d u k none out. returns_own d u k;
  }

  finished_own : (d : Done) → DoneOwn T d → StepOwn T (finished d)
  unfolding finished
  finished_own d k =
      let all = each_finish (DoneOwn T) kept d k in
      record { call = all.call; outcome = all.outcome }

-- ---- any turn

-- the client takes an answer, for which its call waits, and which says so
pub record IsTold (c : Client) (i : Input) (o : Outcome) : Type 0 where
  pub op : CallOp
  pub need : Need
  pub answer : Answer
  pub call_is : c.call ≡ Some (record { op = op; phase = Waits need })
  pub answered : AnswerComes c i answer
  pub says : Says answer need o

abbrev pub Tells : Client → Input → Outcome → Type 0
Tells c i o = IsOwn o ⊎ IsTold c i o

module _ (c : Client) (i : Input) (k : CallOwn c.call) where
  abbrev T : Outcome → Type 0
  T = Tells c i

  own : (o : Outcome) → IsOwn o → T o
  own o x = inl x

  abbrev P : Step → Type 0
  P s = StepOwn T s

  ends : (d : Done) → DoneOwn T d → P (finished d)
  ends d x = finished_own T own d x

  at_phase : (a : Answer) → AnswerComes c i a → (op : CallOp) (p : Phase) → c.call ≡ Some (record { op = op; phase = p })
      → PhaseOwn p → DoneOwn T (on_phase (quiet (record c { outstanding = None })) op p a)
  at_phase a is op (Waits n) e t =
      need_own T own a n (λ o s. inr (record { op = op; need = n; answer = a; call_is = e; answered = is; says = s }))
      (quiet (record c { outstanding = None })) op n refl t (record { call = k; outcome = tt })
  at_phase a is op Starts e t = record { call = k; outcome = tt }
  at_phase a is op (Needs n) e t = record { call = k; outcome = tt }
  at_phase a is op (Reads io) e t = record { call = k; outcome = tt }
  at_phase a is op (Probes io) e t = record { call = k; outcome = tt }
  at_phase a is op (Gathers io) e t = record { call = k; outcome = tt }
  at_phase a is op (Scatters io queue) e t = record { call = k; outcome = tt }

  at_call : (a : Answer) → AnswerComes c i a → (o : Option Call) → c.call ≡ o
      → DoneOwn T (on_call (quiet (record c { outstanding = None })) o a)
  at_call a is None e = record { call = k; outcome = tt }
  at_call a is (Some call) e = at_phase a is call.op call.phase e (subst CallOwn e k)

  cases : TurnCases c i P
  cases = record {
    rests = record { call = k; outcome = tt };
    nothing = λ op is none. record { call = k; outcome = inl tt };
    called = λ op is none can. ends (quiet (with_start c op)) (record { call = tt; outcome = tt });
    answered = λ a is. ends (on_call (quiet (record c { outstanding = None })) c.call a) (at_call a is c.call refl);
    replied = λ drive q call h a is.
        ends (moved (quiet c) call.op (replied h call.op call.phase a q))
        (moved_own T own (quiet c) call.op (replied h call.op call.phase a q) tt
        (replied_own T own h call.op call.phase a q (subst CallOwn is.call_is k)));
    unheld = ends (quiet c) (record { call = k; outcome = tt });
    recalled = λ q is. ends _ (record { call = k; outcome = tt });
    unmatched = λ q is. ends _ (record { call = k; outcome = tt });
    timed = λ n call h a xs is.
        ends (moved (quiet c) call.op (timed_out h call.op call.phase n a xs))
        (moved_own T own (quiet c) call.op (timed_out h call.op call.phase n a xs) tt
        (timed_out_own T own h call.op call.phase n a xs (subst CallOwn is.call_is k)));
    leaves = λ is. ends _ (record { call = k; outcome = tt });
    resends = λ is. record { call = k; outcome = tt };
  }

  pub turn_own : StepOwn T (step c i)
  turn_own = each_turn c i P cases
