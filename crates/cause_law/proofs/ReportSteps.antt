-- Whatever comes to a client, its reports stay short.
use Rattle.std.proofs.Common.{◌≡◌, ℕ, Some, None, subst}
use Rattle.cause_law.specs.State.{Client, Call, Held, Outcome, BadLayout, Done, Answer}
use Rattle.client_rules.specs.Calls.{file_of}
use Rattle.client_rules.specs.Grants.{held_of}
use Rattle.client_rules.specs.Replies.{replied, timed_out}
use Rattle.client_rules.specs.Answers.{not_granted, on_commit, on_report}
use Rattle.client_rules.specs.Going.{quiet, over}
use Rattle.client_rules.specs.Messages.{on_call}
use Rattle.client_rules.specs.Steps.{new_client}
use Rattle.client_rules.specs.History.{Input, step}
use Rattle.exchange_law.proofs.PlaceGoing.{put_all}
use Rattle.cause_law.proofs.Moving.{HeldShort, TurnShort, replied_short}
use Rattle.cause_law.proofs.Timing.{timed_out_short, on_commit_short}
use Rattle.cause_law.proofs.Taken.{taken_short}
use Rattle.cause_law.proofs.Going.{CallShort, ClientShort, DoneShort, FoundShort, found_short, by_turn_short, moved_short, finished_short}
use Rattle.history_law.specs.Turns.{TurnCases}
use Rattle.history_law.proofs.Turns.{each_refusal, each_answer, each_turn}

-- ---- answers

over_short : (d : Done) (o : Outcome) → DoneShort d → DoneShort (over d o)
over_short d o k = record { helds = k.helds; call = tt; request = k.request }

not_granted_short : (a : Answer) (tries : ℕ) → TurnShort (not_granted a tries)
not_granted_short a tries =
    each_refusal a tries TurnShort (record {
      again = λ few. tt;
      no_file = tt;
      is_held = tt;
      is_fenced = tt;
      none_given = tt;
      other = tt;
    })

answered_short : (d : Done) (a : Answer) → DoneShort d → DoneShort (on_call d d.client.call a)
answered_short d a k =
    each_answer d a DoneShort (record {
      stays = k;
      returned = λ op is. record { helds = k.helds; call = tt; request = k.request };
      granted = λ op tries h is took. record {
        helds = put_all HeldShort d.client.held h k.helds (taken_short a op h took);
        call = tt;
        request = k.request;
      };
      unusable = λ op tries w is took. over_short d (BadLayout w) k;
      refused = λ op tries is. by_turn_short d op (not_granted a tries) k.helds k.request (not_granted_short a tries);
      committed = λ op timed h is held.
          moved_short d op (on_commit h op a timed) k
          (on_commit_short h (subst FoundShort held (found_short d.client.held (file_of op) k.helds)) op a timed
          (subst CallShort is k.call));
      reported = λ op timed is. over_short d (on_report op a timed) k;
      closed = λ op o report is. over_short d o k;
    })

-- ---- any step

held_short : (c : Client) (call : Call) (h : Held) → ClientShort c → held_of c.held (file_of call.op) ≡ Some h → HeldShort h
held_short c call h k held = subst FoundShort held (found_short c.held (file_of call.op) k.helds)

cases : (c : Client) (i : Input) → ClientShort c → TurnCases c i (λ s. ClientShort s.client)
cases c i k = record {
  rests = k;
  nothing = λ op is e. k;
  called = λ op is none can. finished_short _ (record { helds = k.helds; call = tt; request = k.request });
  answered = λ a is.
      finished_short _ (answered_short (quiet (record c { outstanding = None })) a
      (record { helds = k.helds; call = k.call; request = tt }));
  replied = λ drive q call h a is.
      finished_short _ (moved_short (quiet c) call.op (replied h call.op call.phase a q) k
      (replied_short h (held_short c call h k is.held) call.op call.phase a q (subst CallShort is.call_is k.call)));
  unheld = finished_short _ k;
  recalled = λ q is. finished_short _ (record { helds = k.helds; call = k.call; request = k.request });
  unmatched = λ q is. finished_short _ (record { helds = k.helds; call = k.call; request = k.request });
  timed = λ n call h a xs is.
      finished_short _ (moved_short (quiet c) call.op (timed_out h call.op call.phase n a xs) k
      (timed_out_short h (held_short c call h k is.held) call.op call.phase n a xs is.awaits
      (subst CallShort is.call_is k.call)));
  leaves = λ is. finished_short _ (record { helds = k.helds; call = k.call; request = k.request });
  resends = λ is. k;
}

pub step_short : (c : Client) (i : Input) → ClientShort c → ClientShort (step c i).client
step_short c i k = each_turn c i (λ s. ClientShort s.client) (cases c i k)

pub new_short : (number sequence : ℕ) → ClientShort (new_client number sequence)
new_short number sequence = record { helds = tt; call = tt; request = tt }
