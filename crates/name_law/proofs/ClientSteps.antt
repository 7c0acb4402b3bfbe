-- Whatever comes to a client, a line can tell each outcome that it keeps or tells. The same of refusals alone stands in
-- `exchange_law` (`ToldSteps`).
use Rattle.std.proofs.Common.{◌≡◌, Option, Some, None, subst}
use Rattle.history_law.specs.State.{Client, CallOp, Held, Due, Awaited, Need, First, Get, Commit, Report, Close, Outcome, BadLayout, Turn, Goes, Ends, Forgets, Moved, Done, Answer, Reply}
use Rattle.client_rules.specs.Calls.{file_of}
use Rattle.client_rules.specs.Grants.{held_of}
use Rattle.client_rules.specs.Results.{status_of}
use Rattle.client_rules.specs.Replies.{replied, timed_out}
use Rattle.client_rules.specs.Answers.{not_granted, on_commit, on_report}
use Rattle.client_rules.specs.Going.{quiet, over, with_held, by_turn, moved, begins, requests, asks_under, returns}
use Rattle.client_rules.specs.Messages.{Step, still, finished, on_call, Taken, TakesAnswer, TakesReply, takes}
use Rattle.client_rules.specs.History.{Input, Hears, step}
use Rattle.name_law.proofs.ClientOutcomes.{OutcomeTold, NeedTold, CallTold, EndTold, TurnTold, MovedTold, Says, Names, replied_told, timed_out_told, begins_told, on_commit_told, not_granted_told, on_report_told}
use Rattle.history_law.specs.Turns.{IsFirstNeed, FinishCases, TurnCases}
use Rattle.history_law.proofs.Turns.{reply_is_taken, each_finish, each_answer, each_turn}

-- what a step leaves and tells
pub record StepTold (s : Step) : Type 0 where
  pub call : CallTold s.client.call
  pub outcome : EndTold s.outcome

record DoneTold (d : Done) : Type 0 where
  pub call : CallTold d.client.call
  pub outcome : EndTold d.outcome

-- a line can tell what a reply that is taken says, or an answer
pub record MessageSays (o : Option Taken) : Type 0 where
  pub reply : (a : Awaited) (r : Reply) → o ≡ Some (TakesReply a r) → Says a r
  pub answer : (a : Answer) → o ≡ Some (TakesAnswer a) → Names (status_of a.results) a.detail

abbrev pub InputSays : Client → Input → Type 0
InputSays c (Hears from m) = MessageSays (takes c from m)
InputSays c i = Unit {0}

quiet_told : (c : Client) → CallTold c.call → DoneTold (quiet c)
quiet_told c k = record { call = k; outcome = tt }

over_told : (d : Done) (o : Outcome) → OutcomeTold o → DoneTold (over d o)
over_told d o k = record { call = tt; outcome = k }

by_turn_told : (d : Done) (op : CallOp) (t : Turn) → EndTold d.outcome → TurnTold t → DoneTold (by_turn d op t)
by_turn_told d op (Goes p) k t = record { call = t; outcome = k }
by_turn_told d op (Ends o) k t = record { call = tt; outcome = t }
by_turn_told d op (Forgets o) k t = record { call = tt; outcome = t }

moved_told : (d : Done) (op : CallOp) (m : Moved) → EndTold d.outcome → MovedTold m → DoneTold (moved d op m)
moved_told d op m k t = by_turn_told (record (with_held d m.held) { commands = m.sent }) op m.turn k t.turn

-- ---- a request goes out

asks_told : (d : Done) (op : CallOp) (n : Need) (o : Option Held) → NeedTold n → DoneTold d
    → DoneTold (asks_under d op n o)
unfolding requests
asks_told d op n None t k = record { call = t; outcome = k.outcome }
asks_told d op n (Some h) t k = record { call = t; outcome = k.outcome }

returns_told : (d : Done) (o : Option Due) → DoneTold d → DoneTold (returns d o)
unfolding requests
returns_told d None k = record { call = k.call; outcome = k.outcome }
returns_told d (Some u) k = record { call = k.call; outcome = k.outcome }

-- ---- to the end of a step

first_told : (op : CallOp) (n : Need) (o : Option Held) → IsFirstNeed op n o → NeedTold n
first_told op First o first = tt
first_told op (Get tries) o first = tt
first_told op (Commit timed) o first = absurd first
first_told op (Report timed) o first = absurd first
first_told op (Close u report) o first = absurd first

kept : FinishCases DoneTold
kept = record {
  needs = λ d op n k is out first. record {
    call = first_told op n (held_of d.client.held (file_of op)) first;
    outcome = k.outcome;
  };
  begun = λ d op h k is held covered. moved_told d op (begins h op) k.outcome (begins_told h op);
  asks = λ d op n h k is out held. asks_told d op n h (subst CallTold is k.call) k;
  gives_back = λ d u k none out. returns_told d u k;
}

finished_told : (d : Done) → DoneTold d → StepTold (finished d)
unfolding finished
finished_told d k =
    let all = each_finish DoneTold kept d k in
    record { call = all.call; outcome = all.outcome }

still_told : (c : Client) → CallTold c.call → StepTold (still c)
still_told c k = record { call = k; outcome = tt }

-- ---- answers

answered_told : (d : Done) (a : Answer) → Names (status_of a.results) a.detail → DoneTold d
    → DoneTold (on_call d d.client.call a)
answered_told d a s k =
    each_answer d a DoneTold (record {
      stays = k;
      returned = λ op is. record { call = tt; outcome = k.outcome };
      granted = λ op tries h is took. record { call = tt; outcome = k.outcome };
      unusable = λ op tries w is took. over_told d (BadLayout w) tt;
      refused = λ op tries is. by_turn_told d op (not_granted a tries) k.outcome (not_granted_told a tries s);
      committed = λ op timed h is held. moved_told d op (on_commit h op a timed) k.outcome (on_commit_told h op a timed);
      reported = λ op timed is. over_told d (on_report op a timed) (on_report_told op a timed);
      closed = λ op o report is. over_told d o (subst CallTold is k.call);
    })

-- ---- any step

cases : (c : Client) (i : Input) → CallTold c.call → InputSays c i → TurnCases c i StepTold
cases c i k says = record {
  rests = still_told c k;
  nothing = λ op is e. record { call = k; outcome = tt };
  called = λ op is none can. finished_told _ (record { call = tt; outcome = tt });
  answered = λ a is.
      finished_told _ (answered_told (quiet (record c { outstanding = None })) a
      ((subst (InputSays c) is.is says).answer a is.takes_it) (record { call = k; outcome = tt }));
  replied = λ drive q call h a is.
      finished_told _ (moved_told (quiet c) call.op (replied h call.op call.phase a q) tt
      (replied_told h call.op call.phase a q (subst CallTold is.call_is k)
      ((subst (InputSays c) is.is says).reply a q (reply_is_taken c i drive q call h a is))));
  unheld = finished_told _ (quiet_told c k);
  recalled = λ q is. finished_told _ (record { call = k; outcome = tt });
  unmatched = λ q is. finished_told _ (record { call = k; outcome = tt });
  timed = λ n call h a xs is.
      finished_told _ (moved_told (quiet c) call.op (timed_out h call.op call.phase n a xs) tt
      (timed_out_told h call.op call.phase n a xs (subst CallTold is.call_is k)));
  leaves = λ is. finished_told _ (record { call = k; outcome = tt });
  resends = λ is. record { call = k; outcome = tt };
}

pub step_told : (c : Client) (i : Input) → CallTold c.call → InputSays c i → StepTold (step c i)
step_told c i k says = each_turn c i StepTold (cases c i k says)
