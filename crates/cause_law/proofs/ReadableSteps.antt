-- Whatever comes to a client, the request whose answer it awaits fits, but for the length of a report.
use Rattle.std.proofs.Common.{◌≡◌, ◌||◌, ℕ, ◌+◌, ◌^◌, ◌<◌, Bool, true, false, None, nat_lt, refl, sym, subst, arith}
use Rattle.std.proofs.lemmas.Bool.Decides.{nat_tests}
use Rattle.data_map.specs.declared.ranges.TheConstants.{MAX_FILE_SIZE}
use Rattle.layout_ops.specs.declared.messages.Answer.{Answer}
use Rattle.client_rules.specs.declared.limits.TheConstants.{MAX_CALL}
use Rattle.client_rules.specs.Calls.{file_of, span_of}
use Rattle.client_rules.specs.Replies.{replied, timed_out}
use Rattle.client_rules.specs.Answers.{not_granted, on_report, on_commit}
use Rattle.client_rules.specs.Going.{quiet, with_held}
use Rattle.client_rules.specs.Messages.{on_call}
use Rattle.client_rules.specs.Steps.{new_client, is_bad_range}
use Rattle.client_rules.specs.History.{Input, step}
use Rattle.world_history.specs.ClientNames.{Client, CallOp, Starts, BadLayout, Done}
use Rattle.exchange_law.proofs.Granted.{taken_covers}
use Rattle.exchange_law.proofs.Kept.{on_commit_kept, replied_kept, timed_out_kept}
use Rattle.cause_law.proofs.Moves.{Asks}
use Rattle.cause_law.proofs.Asking.{IsSmall, CallSmall, HeldSmall, ClientSmall, phased_small, over_small, turn_small, held_small, moved_small, finished_small}
use Rattle.history_law.specs.Turns.{TurnCases}
use Rattle.history_law.proofs.Turns.{each_answer, each_turn}

-- the file of a call
abbrev pub HasFile : CallOp → Type 0
HasFile op = file_of op < 2 ^ 32

pub new_small : (number : ℕ) → ClientSmall (new_client number 1)
new_small number = record { helds = tt; call = tt; outstanding = tt }

-- ---- answers

answered_small : (d : Done) (a : Answer) → ClientSmall d.client → ClientSmall (on_call d d.client.call a).client
answered_small d a k =
    each_answer d a (λ e. ClientSmall e.client) (record {
      stays = k;
      returned = λ op is. phased_small d op Starts (subst CallSmall is k.call) k;
      granted = λ op tries h is took.
          let s : IsSmall op = subst CallSmall is k.call in
          let small : HeldSmall h = subst (λ (n : ℕ). n < 2 ^ 32) (sym (taken_covers a op h took).0) s.file in
          phased_small (with_held d h) op Starts s (held_small d h small k);
      unusable = λ op tries w is took. over_small d (BadLayout w) k;
      refused = λ op tries is. turn_small d op (not_granted a tries) (subst CallSmall is k.call) k;
      committed = λ op timed h is held.
          moved_small d op h (on_commit h op a timed) (subst CallSmall is k.call) held
          (on_commit_kept h op a timed).file k;
      reported = λ op timed is. over_small d (on_report op a timed) k;
      closed = λ op o report is. over_small d o k;
    })

-- ---- any step

range_small : (op : CallOp) → HasFile op → is_bad_range (span_of op) ≡ false → IsSmall op
range_small op file fine = either (nat_lt MAX_CALL (span_of op).length) _ refl refl fine
  where
    either : (a b : Bool) → nat_lt MAX_CALL (span_of op).length ≡ a
        → nat_lt MAX_FILE_SIZE ((span_of op).offset + (span_of op).length) ≡ b → (a || b) ≡ false → IsSmall op
    either true b is same e = absurd (cc e)
    either false true is same e = absurd (cc e)
    either false false is same e = record {
      file = file;
      long = grind (arith, is, nat_tests);
      end = grind (arith, same, nat_tests);
    }

cases : (c : Client) (i : Input) → ClientSmall c → Asks HasFile i → TurnCases c i (λ s. ClientSmall s.client)
cases c i k file = record {
  rests = k;
  nothing = λ op is e. k;
  called = λ op is none can.
      finished_small _ (record {
        helds = k.helds;
        call = range_small op (subst (Asks HasFile) is file) can.range;
        outstanding = k.outstanding;
      });
  answered = λ a is.
      finished_small _ (answered_small (quiet (record c { outstanding = None })) a
      (record { helds = k.helds; call = k.call; outstanding = tt }));
  replied = λ drive q call h a is.
      finished_small _ (moved_small (quiet c) call.op h (replied h call.op call.phase a q)
      (subst CallSmall is.call_is k.call) is.held (replied_kept h call.op call.phase a q).file k);
  unheld = finished_small _ k;
  recalled = λ q is. finished_small _ (record { helds = k.helds; call = k.call; outstanding = k.outstanding });
  unmatched = λ q is. finished_small _ (record { helds = k.helds; call = k.call; outstanding = k.outstanding });
  timed = λ j call h a xs is.
      finished_small _ (moved_small (quiet c) call.op h (timed_out h call.op call.phase j a xs)
      (subst CallSmall is.call_is k.call) is.held (timed_out_kept h call.op call.phase j a xs).file k);
  leaves = λ is. finished_small _ (record { helds = k.helds; call = k.call; outstanding = k.outstanding });
  resends = λ is. k;
}

pub step_small : (c : Client) (i : Input) → ClientSmall c → Asks HasFile i → ClientSmall (step c i).client
step_small c i k file = each_turn c i (λ s. ClientSmall s.client) (cases c i k file)
