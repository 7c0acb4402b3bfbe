-- Whatever comes to a client, it sends to drives what may be sent under the grants that it took.
use Rattle.std.proofs.Common.{◌≡◌, ℕ, List, [], ◌∷◌, ◌++◌, Option, Some, None, Ok, subst}
use Rattle.osd_lists.specs.declared.node.Node.{Node}
use Rattle.osd_lists.specs.declared.node.Node.TheVariants.{Server as FromServer}
use Rattle.history_law.specs.State.{Client, Call, CallOp, Held, Awaited, Outcome, BadLayout, Done, Outgoing, Request, Answer, Command}
use Rattle.client_rules.specs.Calls.{file_of}
use Rattle.client_rules.specs.Layouts.{taken}
use Rattle.client_rules.specs.Io.{awaited_in}
use Rattle.client_rules.specs.Commands.{in_order}
use Rattle.client_rules.specs.Replies.{replied, timed_out}
use Rattle.client_rules.specs.Answers.{not_granted, on_commit, on_report}
use Rattle.client_rules.specs.Going.{quiet, over, by_turn}
use Rattle.client_rules.specs.Messages.{Message, Answers, on_call, awaited_of}
use Rattle.client_rules.specs.Steps.{outstanding_sends, resent}
use Rattle.client_rules.specs.History.{Input, Hears, step}
use Rattle.history_law.proofs.Known.{AreKnown, HeldKnown, TurnKnown, ordered_known, replied_known, timed_out_known, on_commit_known}
use Rattle.history_law.proofs.KnownGoing.{HeldsKnown, ClientKnown, SendsKnown, StepKnown, DoneKnown, put_known, held_known, quiet_known, by_turn_known, moved_known, commands_sent, finished_known, still_known}
use Rattle.history_law.specs.Turns.{TurnCases}
use Rattle.history_law.proofs.Turns.{each_turn, each_answer, each_refusal}

-- ---- what comes

-- each grant that is taken from an answer is known
abbrev pub AnswerKnown : (ℕ → Command → Type 0) → Answer → Type 0
AnswerKnown Q a = (op : CallOp) (h : Held) → taken a op ≡ Ok h → HeldKnown Q h

abbrev pub HeardKnown : (ℕ → Command → Type 0) → Node → Message → Type 0
HeardKnown Q FromServer (Answers a) = AnswerKnown Q a
HeardKnown Q from m = Unit {0}

abbrev pub InputKnown : (ℕ → Command → Type 0) → Input → Type 0
InputKnown Q (Hears from m) = HeardKnown Q from m
InputKnown Q i = Unit {0}

module _ (Q : ℕ → Command → Type 0) where
  -- ---- answers

  over_known : (d : Done) (o : Outcome) → DoneKnown Q d → DoneKnown Q (over d o)
  over_known d o k = record { helds = k.helds; call = tt; commands = k.commands }

  refused_known : (d : Done) (op : CallOp) (a : Answer) (tries : ℕ) → DoneKnown Q d
      → DoneKnown Q (by_turn d op (not_granted a tries))
  refused_known d op a tries k =
      by_turn_known Q d op (not_granted a tries) k.helds k.commands
      (each_refusal a tries (TurnKnown Q) (record {
        again = λ few. tt;
        no_file = tt;
        is_held = tt;
        is_fenced = tt;
        none_given = tt;
        other = tt;
      }))

  answered_known : (d : Done) (a : Answer) → AnswerKnown Q a → DoneKnown Q d → DoneKnown Q (on_call d d.client.call a)
  answered_known d a t k =
      each_answer d a (DoneKnown Q) (record {
        stays = k;
        returned = λ op is. record { helds = k.helds; call = tt; commands = k.commands };
        granted = λ op tries h is took. record {
          helds = put_known Q d.client.held h k.helds (t op h took);
          call = tt;
          commands = k.commands;
        };
        unusable = λ op tries w is took. over_known d (BadLayout w) k;
        refused = λ op tries is. refused_known d op a tries k;
        committed = λ op timed h is held.
            moved_known Q d op (on_commit h op a timed) k.helds
            (on_commit_known Q h op a timed (held_known Q d.client.held (file_of op) h k.helds held));
        reported = λ op timed is. over_known d (on_report op a timed) k;
        closed = λ op o report is. over_known d o k;
      })

  -- ---- what is sent again

  outstanding_known : (o : Option Request) (os : List Outgoing) → SendsKnown Q os
      → SendsKnown Q (outstanding_sends o ++ os)
  outstanding_known None os k = k
  outstanding_known (Some r) os k = k

  resent_known : (c : Client) → ClientKnown Q c → SendsKnown Q (resent c)
  unfolding resent
  resent_known c k =
      outstanding_known c.outstanding _ (commands_sent Q (in_order (awaited_of c.call)) (ordered_known Q _ k.call))

  -- ---- any step

  called_known : (c : Client) (call : Call) → ClientKnown Q c → c.call ≡ Some call → AreKnown Q (awaited_in call.phase)
  called_known c call k is = subst (λ (o : Option Call). AreKnown Q (awaited_of o)) is k.call

  cases : (c : Client) (i : Input) → ClientKnown Q c → InputKnown Q i → TurnCases c i (StepKnown Q)
  cases c i k t = record {
    rests = still_known Q c k;
    nothing = λ op is e. record { client = k; sends = tt };
    called = λ op is none can. finished_known Q _ (record { helds = k.helds; call = tt; commands = tt });
    answered = λ a is.
        finished_known Q _ (answered_known (quiet (record c { outstanding = None })) a (subst (InputKnown Q) is.heard t)
        (record { helds = k.helds; call = k.call; commands = tt }));
    replied = λ drive q call h a is.
        finished_known Q _ (moved_known Q (quiet c) call.op (replied h call.op call.phase a q) k.helds
        (replied_known Q h call.op call.phase a q (held_known Q c.held (file_of call.op) h k.helds is.held)
        (called_known c call k is.call_is)));
    unheld = finished_known Q _ (quiet_known Q c k);
    recalled = λ q is. finished_known Q _ (record { helds = k.helds; call = k.call; commands = tt });
    unmatched = λ q is. finished_known Q _ (record { helds = k.helds; call = k.call; commands = tt });
    timed = λ n call h a xs is.
        finished_known Q _ (moved_known Q (quiet c) call.op (timed_out h call.op call.phase n a xs) k.helds
        (timed_out_known Q h call.op call.phase n a xs (held_known Q c.held (file_of call.op) h k.helds is.held)
        (called_known c call k is.call_is)));
    leaves = λ is. finished_known Q _ (record { helds = k.helds; call = k.call; commands = tt });
    resends = λ is. record { client = k; sends = resent_known c k };
  }

  pub step_known : (c : Client) (i : Input) → ClientKnown Q c → InputKnown Q i → StepKnown Q (step c i)
  step_known c i k t = each_turn c i (StepKnown Q) (cases c i k t)

-- ---- what is known stays known

module _ (Q R : ℕ → Command → Type 0) (wider : (d : ℕ) (c : Command) → Q d c → R d c) where
  wider_list : (xs : List Awaited) → AreKnown Q xs → AreKnown R xs
  wider_list [] k = tt
  wider_list (a ∷ xs) k = (wider a.drive a.command k.0, wider_list xs k.1)

  wider_held : (h : Held) → HeldKnown Q h → HeldKnown R h
  wider_held h k j same write w nonce = wider _ _ (k j same write w nonce)

  wider_helds : (hs : List Held) → HeldsKnown Q hs → HeldsKnown R hs
  wider_helds [] k = tt
  wider_helds (h ∷ hs) k = (wider_held h k.0, wider_helds hs k.1)

  pub wider_client : (c : Client) → ClientKnown Q c → ClientKnown R c
  wider_client c k = record { helds = wider_helds c.held k.helds; call = wider_list (awaited_of c.call) k.call }
