-- Whatever comes to a client, each refusal that it keeps or tells is one that a reply said.
use Rattle.std.proofs.Common.{◌≡◌, ℕ, Option, Some, None, subst}
use Rattle.history_law.specs.State.{Client, Call, CallOp, Held, Due, Awaited, Need, First, Get, Commit, Report, Close, Phase, Starts, Needs, Waits, Reads, Probes, Gathers, Scatters, Outcome, WriteOk, ReadOk, NoFile, HeldBy, Fencing, Degraded, Spent, Status, Refused, Silent, Lost, BadLayout, Turn, Goes, Ends, Forgets, Moved, Done, Answer, Reply}
use Rattle.client_rules.specs.Calls.{file_of}
use Rattle.client_rules.specs.Grants.{held_of}
use Rattle.client_rules.specs.Replies.{replied, timed_out}
use Rattle.client_rules.specs.Answers.{not_granted, on_commit, on_report}
use Rattle.client_rules.specs.Going.{quiet, over, with_held, by_turn, moved, begins, requests, asks_under, returns}
use Rattle.client_rules.specs.Messages.{Step, still, finished, on_call, TakesReply, takes}
use Rattle.client_rules.specs.History.{Input, Hears, step}
use Rattle.exchange_law.proofs.Told.{OutcomeTold, NeedTold, PhaseTold, CallTold, EndTold, TurnTold, MovedTold, Says, replied_told, timed_out_told, begins_told, on_commit_told, not_granted_told, on_report_told}
use Rattle.history_law.specs.Turns.{IsFirstNeed, FinishCases, TurnCases}
use Rattle.history_law.proofs.Turns.{reply_is_taken, each_finish, each_answer, each_turn}

-- what a step leaves and tells
pub record StepTold (Q : ℕ → ℕ → ℕ → Type 0) (s : Step) : Type 0 where
  pub call : CallTold Q s.client.call
  pub outcome : EndTold Q s.outcome

record DoneTold (Q : ℕ → ℕ → ℕ → Type 0) (d : Done) : Type 0 where
  pub call : CallTold Q d.client.call
  pub outcome : EndTold Q d.outcome

-- a reply that is taken says so
abbrev pub InputSays : (ℕ → ℕ → ℕ → Type 0) → Client → Input → Type 0
InputSays Q c (Hears from m) = (a : Awaited) (r : Reply) → takes c from m ≡ Some (TakesReply a r) → Says Q a r
InputSays Q c i = Unit {0}

module _ (Q : ℕ → ℕ → ℕ → Type 0) where
  quiet_told : (c : Client) → CallTold Q c.call → DoneTold Q (quiet c)
  quiet_told c k = record { call = k; outcome = tt }

  over_told : (d : Done) (o : Outcome) → OutcomeTold Q o → DoneTold Q (over d o)
  over_told d o k = record { call = tt; outcome = k }

  by_turn_told : (d : Done) (op : CallOp) (t : Turn) → EndTold Q d.outcome → TurnTold Q t → DoneTold Q (by_turn d op t)
  by_turn_told d op (Goes p) k t = record { call = t; outcome = k }
  by_turn_told d op (Ends o) k t = record { call = tt; outcome = t }
  by_turn_told d op (Forgets o) k t = record { call = tt; outcome = t }

  moved_told : (d : Done) (op : CallOp) (m : Moved) → EndTold Q d.outcome → MovedTold Q m → DoneTold Q (moved d op m)
  moved_told d op m k t = by_turn_told (record (with_held d m.held) { commands = m.sent }) op m.turn k t.turn

  -- ---- to the end of a step

  asks_told : (d : Done) (op : CallOp) (n : Need) (o : Option Held) → NeedTold Q n → DoneTold Q d
      → DoneTold Q (asks_under d op n o)
  unfolding requests
  asks_told d op n None t k = record { call = t; outcome = k.outcome }
  asks_told d op n (Some h) t k = record { call = t; outcome = k.outcome }

  returns_told : (d : Done) (o : Option Due) → DoneTold Q d → DoneTold Q (returns d o)
  unfolding requests
  returns_told d None k = record { call = k.call; outcome = k.outcome }
  returns_told d (Some u) k = record { call = k.call; outcome = k.outcome }

  first_told : (op : CallOp) (n : Need) (o : Option Held) → IsFirstNeed op n o → NeedTold Q n
  first_told op First o first = tt
  first_told op (Get tries) o first = tt
  first_told op (Commit timed) o first = absurd first
  first_told op (Report timed) o first = absurd first
  first_told op (Close u report) o first = absurd first

  kept : FinishCases (DoneTold Q)
  kept = record {
    needs = λ d op n k is out first. record {
      call = first_told op n (held_of d.client.held (file_of op)) first;
      outcome = k.outcome;
    };
    begun = λ d op h k is held covered. moved_told d op (begins h op) k.outcome (begins_told Q h op);
    asks = λ d op n h k is out held. asks_told d op n h (subst (CallTold Q) is k.call) k;
    gives_back = λ d u k none out. returns_told d u k;
  }

  finished_told : (d : Done) → DoneTold Q d → StepTold Q (finished d)
  unfolding finished
  finished_told d k =
      let all = each_finish (DoneTold Q) kept d k in
      record { call = all.call; outcome = all.outcome }

  still_told : (c : Client) → CallTold Q c.call → StepTold Q (still c)
  still_told c k = record { call = k; outcome = tt }

  -- ---- answers

  answered_told : (d : Done) (a : Answer) → DoneTold Q d → DoneTold Q (on_call d d.client.call a)
  answered_told d a k =
      each_answer d a (DoneTold Q) (record {
        stays = k;
        returned = λ op is. record { call = tt; outcome = k.outcome };
        granted = λ op tries h is took. record { call = tt; outcome = k.outcome };
        unusable = λ op tries w is took. over_told d (BadLayout w) tt;
        refused = λ op tries is. by_turn_told d op (not_granted a tries) k.outcome (not_granted_told Q a tries);
        committed = λ op timed h is held.
            moved_told d op (on_commit h op a timed) k.outcome (on_commit_told Q h op a timed);
        reported = λ op timed is. over_told d (on_report op a timed) (on_report_told Q op a timed);
        closed = λ op o report is. over_told d o (subst (CallTold Q) is k.call);
      })

  -- ---- any step

  cases : (c : Client) (i : Input) → CallTold Q c.call → InputSays Q c i → TurnCases c i (StepTold Q)
  cases c i k says = record {
    rests = still_told c k;
    nothing = λ op is e. record { call = k; outcome = tt };
    called = λ op is none can. finished_told _ (record { call = tt; outcome = tt });
    answered = λ a is.
        finished_told _ (answered_told (quiet (record c { outstanding = None })) a (record { call = k; outcome = tt }));
    replied = λ drive q call h a is.
        finished_told _ (moved_told (quiet c) call.op (replied h call.op call.phase a q) tt
        (replied_told Q h call.op call.phase a q (subst (CallTold Q) is.call_is k)
        (subst (InputSays Q c) is.is says a q (reply_is_taken c i drive q call h a is))));
    unheld = finished_told _ (quiet_told c k);
    recalled = λ q is. finished_told _ (record { call = k; outcome = tt });
    unmatched = λ q is. finished_told _ (record { call = k; outcome = tt });
    timed = λ n call h a xs is.
        finished_told _ (moved_told (quiet c) call.op (timed_out h call.op call.phase n a xs) tt
        (timed_out_told Q h call.op call.phase n a xs (subst (CallTold Q) is.call_is k)));
    leaves = λ is. finished_told _ (record { call = k; outcome = tt });
    resends = λ is. record { call = k; outcome = tt };
  }

  pub step_told : (c : Client) (i : Input) → CallTold Q c.call → InputSays Q c i → StepTold Q (step c i)
  step_told c i k says = each_turn c i (StepTold Q) (cases c i k says)

-- ---- what was said stays said

module _ (Q R : ℕ → ℕ → ℕ → Type 0) (wider : (d n e : ℕ) → Q d n e → R d n e) where
  wider_outcome : (o : Outcome) → OutcomeTold Q o → OutcomeTold R o
  wider_outcome (Refused d n e) k = wider d n e k
  wider_outcome (WriteOk n) k = tt
  wider_outcome (ReadOk bytes) k = tt
  wider_outcome NoFile k = tt
  wider_outcome (HeldBy c) k = tt
  wider_outcome (Fencing n) k = tt
  wider_outcome (Degraded n) k = tt
  wider_outcome Spent k = tt
  wider_outcome (Status status detail) k = tt
  wider_outcome (Silent n) k = tt
  wider_outcome (Lost ps) k = tt
  wider_outcome (BadLayout w) k = tt

  wider_need : (n : Need) → NeedTold Q n → NeedTold R n
  wider_need (Close o report) k = wider_outcome o k
  wider_need First k = tt
  wider_need (Get tries) k = tt
  wider_need (Commit timed) k = tt
  wider_need (Report timed) k = tt

  wider_phase : (p : Phase) → PhaseTold Q p → PhaseTold R p
  wider_phase (Needs n) k = wider_need n k
  wider_phase (Waits n) k = wider_need n k
  wider_phase Starts k = tt
  wider_phase (Reads io) k = tt
  wider_phase (Probes io) k = tt
  wider_phase (Gathers io) k = tt
  wider_phase (Scatters io queue) k = tt

  pub wider_call : (o : Option Call) → CallTold Q o → CallTold R o
  wider_call None k = tt
  wider_call (Some call) k = wider_phase call.phase k
