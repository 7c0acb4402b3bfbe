-- Whatever comes to a client, it sends drives commands that are placed, under grants that the server gave it.
use Rattle.std.proofs.Common.{◌≡◌, ℕ, List, ◌++◌, ◌+◌, Option, Some, None, Ok, subst}
use Rattle.osd_lists.specs.declared.node.Node.{Node}
use Rattle.osd_lists.specs.declared.node.Node.TheVariants.{Server as FromServer}
use Rattle.exchange_law.specs.PlaceState.{Client, Call, CallOp, Held, Get, Starts, Outcome, Done, Moved, Outgoing, Request, Answer}
use Rattle.client_rules.specs.Calls.{file_of}
use Rattle.client_rules.specs.Grants.{held_of, put_held}
use Rattle.client_rules.specs.Layouts.{taken}
use Rattle.client_rules.specs.Commands.{in_order}
use Rattle.client_rules.specs.Replies.{replied, timed_out}
use Rattle.client_rules.specs.Answers.{not_granted, on_commit}
use Rattle.client_rules.specs.Going.{quiet, phased, over, by_turn, moved}
use Rattle.client_rules.specs.Messages.{Message, Answers, finished, on_call, awaited_of}
use Rattle.client_rules.specs.Steps.{outstanding_sends, resent}
use Rattle.client_rules.specs.History.{Input, Hears, step}
use Rattle.exchange_law.specs.Kept.{IsOwnGrant}
use Rattle.exchange_law.proofs.PlaceSending.{ArePlaced, PhaseFits, MovedFits, ordered_placed}
use Rattle.exchange_law.proofs.PlaceMoving.{replied_fits, timed_out_fits, on_commit_fits}
use Rattle.exchange_law.proofs.PlaceGoing.{CallFits, ClientFits, SendsPlaced, StepFits, DoneFits, under_any, put_all, found_all, phase_at, quiet_fits, needs_fits, moved_fits, commands_sent, finished_fits, still_fits}
use Rattle.client_rules.specs.Io.{awaited_in}
use Rattle.history_law.specs.Turns.{TurnCases}
use Rattle.history_law.proofs.Turns.{each_refusal, each_answer, each_turn}

-- ---- what comes

-- each grant that is taken from an answer is one that the server gave
abbrev pub AnswerOwn : (c : ℕ) → Answer → Type 0
AnswerOwn c a = (op : CallOp) (h : Held) → taken a op ≡ Ok h → IsOwnGrant c h

abbrev pub HeardOwn : (c : ℕ) → Node → Message → Type 0
HeardOwn c FromServer (Answers a) = AnswerOwn c a
HeardOwn c from m = Unit {0}

abbrev pub InputOwn : (c : ℕ) → Input → Type 0
InputOwn c (Hears from m) = HeardOwn c from m
InputOwn c i = Unit {0}

module _ (c : ℕ) where
  -- ---- answers

  over_fits : (d : Done) (o : Outcome) → DoneFits c d → DoneFits c (over d o)
  over_fits d o k = record { helds = k.helds; call = tt; commands = k.commands }

  starts_fits : (d : Done) (op : CallOp) → DoneFits c d → DoneFits c (phased d op Starts)
  starts_fits d op k = record {
    helds = k.helds;
    call = (tt, under_any (held_of d.client.held (file_of op)) op Starts (λ h. tt));
    commands = k.commands;
  }

  refused_fits : (d : Done) (op : CallOp) (a : Answer) (tries : ℕ) → DoneFits c d
      → DoneFits c (by_turn d op (not_granted a tries))
  refused_fits d op a tries k =
      each_refusal a tries (λ t. DoneFits c (by_turn d op t)) (record {
        again = λ few. needs_fits c d op (Get (tries + 1)) k;
        no_file = over_fits d _ k;
        is_held = over_fits d _ k;
        is_fenced = over_fits d _ k;
        none_given = over_fits d _ k;
        other = over_fits d _ k;
      })

  answered_fits : (d : Done) (a : Answer) → AnswerOwn c a → DoneFits c d → DoneFits c (on_call d d.client.call a)
  answered_fits d a t k =
      each_answer d a (DoneFits c) (record {
        stays = k;
        returned = λ op is. starts_fits d op k;
        granted = λ op tries h is took. record {
          helds = put_all (IsOwnGrant c) d.client.held h k.helds (t op h took);
          call = (tt, under_any (held_of (put_held d.client.held h) (file_of op)) op Starts (λ g. tt));
          commands = k.commands;
        };
        unusable = λ op tries w is took. over_fits d _ k;
        refused = λ op tries is. refused_fits d op a tries k;
        committed = λ op timed h is held.
            let own = found_all (IsOwnGrant c) d.client.held (file_of op) h k.helds held in
            moved_fits c d op h (on_commit h op a timed) k.helds own.1 (on_commit_fits c h own.0 op a timed);
        reported = λ op timed is. over_fits d _ k;
        closed = λ op o report is. over_fits d o k;
      })

  -- ---- what is sent again

  outstanding_sent : (o : Option Request) (os : List Outgoing) → SendsPlaced os
      → SendsPlaced (outstanding_sends o ++ os)
  outstanding_sent None os k = k
  outstanding_sent (Some r) os k = k

  call_placed : (hs : List Held) (o : Option Call) → CallFits hs o → ArePlaced (awaited_of o)
  call_placed hs None k = tt
  call_placed hs (Some call) k = k.0

  resent_placed : (x : Client) → ClientFits c x → SendsPlaced (resent x)
  unfolding resent
  resent_placed x k =
      outstanding_sent x.outstanding _
      (commands_sent c (in_order (awaited_of x.call)) (ordered_placed _ (call_placed x.held x.call k.call)))

  -- ---- any step

  -- what the call does with the drives under its grant
  under_grant : (x : Client) (call : Call) (h : Held) (m : Moved) → ClientFits c x → x.call ≡ Some call
      → held_of x.held (file_of call.op) ≡ Some h
      → (IsOwnGrant c h → ArePlaced (awaited_in call.phase) → PhaseFits h call.op call.phase → MovedFits c h call.op m)
      → StepFits c (finished (moved (quiet x) call.op m))
  under_grant x call h m k is held fits =
      let own = found_all (IsOwnGrant c) x.held (file_of call.op) h k.helds held in
      let w : CallFits x.held (Some call) = subst (CallFits x.held) is k.call in
      finished_fits c _ (moved_fits c (quiet x) call.op h m k.helds own.1
      (fits own.0 w.0 (phase_at x.held call h w held)))

  cases : (x : Client) (i : Input) → ClientFits c x → InputOwn c i → TurnCases x i (StepFits c)
  cases x i k t = record {
    rests = still_fits c x k;
    nothing = λ op is e. record { client = k; sends = tt };
    called = λ op is none can.
        finished_fits c _ (record {
          helds = k.helds;
          call = (tt, under_any (held_of x.held (file_of op)) op Starts (λ h. tt));
          commands = tt;
        });
    answered = λ a is.
        finished_fits c _ (answered_fits (quiet (record x { outstanding = None })) a (subst (InputOwn c) is.heard t)
        (record { helds = k.helds; call = k.call; commands = tt }));
    replied = λ drive q call h a is.
        under_grant x call h (replied h call.op call.phase a q) k is.call_is is.held
        (λ own placed fits. replied_fits c h own call.op call.phase a q placed fits);
    unheld = finished_fits c _ (quiet_fits c x k);
    recalled = λ q is. finished_fits c _ (record { helds = k.helds; call = k.call; commands = tt });
    unmatched = λ q is. finished_fits c _ (record { helds = k.helds; call = k.call; commands = tt });
    timed = λ n call h a xs is.
        under_grant x call h (timed_out h call.op call.phase n a xs) k is.call_is is.held
        (λ own placed fits. timed_out_fits c h own call.op call.phase n a xs placed fits);
    leaves = λ is. finished_fits c _ (record { helds = k.helds; call = k.call; commands = tt });
    resends = λ is. record { client = k; sends = resent_placed x k };
  }

  pub step_fits : (x : Client) (i : Input) → ClientFits c x → InputOwn c i → StepFits c (step x i)
  step_fits x i k t = each_turn x i (StepFits c) (cases x i k t)
