-- Whatever comes to a client, the nonces of what it sends lie among those of its grants.
use Rattle.std.proofs.Common.{◌≡◌, ℕ, ◌+◌, List, [], ◌∷◌, Some, None, Ok, length, sym, ap, subst, arith, inl, inr}
use Rattle.osd_lists.specs.declared.node.Node.{Node}
use Rattle.osd_lists.specs.declared.node.Node.TheVariants.{Server as FromServer}
use Rattle.osd_commands.specs.declared.commands.Command.{Command}
use Rattle.server_rules.specs.Laws.{In}
use Rattle.client_rules.specs.Calls.{file_of}
use Rattle.client_rules.specs.Grants.{held_of}
use Rattle.client_rules.specs.Layouts.{taken}
use Rattle.client_rules.specs.Replies.{replied, timed_out}
use Rattle.client_rules.specs.Answers.{not_granted, on_commit}
use Rattle.client_rules.specs.Going.{quiet, over, phased, with_held, moved}
use Rattle.client_rules.specs.Messages.{Message, Answers, Step, still, finished, on_call, awaited_of}
use Rattle.client_rules.specs.Steps.{resent}
use Rattle.client_rules.specs.History.{Input, Hears, step}
use Rattle.client_rules.proofs.Numbering.{nonces_rise}
use Rattle.history_law.specs.State.{Client, Call, CallOp, Held, Awaited, TimedOut, Starts, Outcome, Done, Moved, Outgoing, AnswersRecall, Asks, ToDrive, Answer}
use Rattle.exchange_law.proofs.PlaceGoing.{put_all, found_all}
use Rattle.exchange_law.proofs.RefusalSending.{resent_awaited}
use Rattle.exchange_law.proofs.CountAsking.{HeldsCount, FoundCounts, found_counts, put_counts}
use Rattle.exchange_law.proofs.CountClients.{taken_new}
use Rattle.exchange_law.proofs.Settled.{IsSettled, replied_settled, timed_out_settled, on_commit_settled}
use Rattle.cause_law.proofs.Nonces.{IsLow, AreLow, IsNamed, AreNamed, DoneLow, turn_low, moved_low, SendsLow, StepLow, finished_low}
use Rattle.client_rules.specs.Laws.{IsNumbered}
use Rattle.history_law.specs.Turns.{TurnCases}
use Rattle.history_law.proofs.Turns.{each_answer, each_turn}

-- each grant that is taken from an answer has a number that fits its place
abbrev pub AnswerNamed : Answer → Type 0
AnswerNamed a = (op : CallOp) (h : Held) → taken a op ≡ Ok h → IsNamed h

abbrev pub HeardNamed : Node → Message → Type 0
HeardNamed FromServer (Answers a) = AnswerNamed a
HeardNamed from m = Unit {0}

abbrev pub InputNamed : Input → Type 0
InputNamed (Hears from m) = HeardNamed from m
InputNamed i = Unit {0}

module _ (n : ℕ) where
  quiet_low : (c : Client) → AreNamed c.held → HeldsCount n c.held → DoneLow n (quiet c)
  quiet_low c k counts = record { named = k; sent = tt; anew = λ x. counts }

  -- ---- answers, where nothing was sent yet

  module _ (d : Done) (k : AreNamed d.client.held) (counts : HeldsCount n d.client.held)
      (s : AreLow (n + length d.commands) d.commands) where
    over_low : (o : Outcome) → DoneLow n (over d o)
    over_low o = record { named = k; sent = s; anew = λ x. absurd x }

    granted_low : (op : CallOp) (h : Held) → IsNamed h → h.count ≡ 0 → DoneLow n (phased (with_held d h) op Starts)
    granted_low op h named none = record {
      named = put_all IsNamed d.client.held h k named;
      sent = s;
      anew = λ x. put_counts n d.client.held h counts (omega (arith, none));
    }

    commit_low : (op : CallOp) (a : Answer) (timed : List TimedOut) (h : Held) → held_of d.client.held (file_of op) ≡ Some h
        → DoneLow n (moved d op (on_commit h op a timed))
    commit_low op a timed h held =
        let own = found_all IsNamed d.client.held (file_of op) h k held in
        moved_low n d op h (on_commit h op a timed) k counts own.0
        (subst (FoundCounts n) held (found_counts n d.client.held (file_of op) counts))
        (nonces_rise.committed h op a timed) (on_commit_settled h op a timed)

    answered_low : (a : Answer) → AnswerNamed a → DoneLow n (on_call d d.client.call a)
    answered_low a t =
        each_answer d a (DoneLow n) (record {
          stays = record { named = k; sent = s; anew = λ x. counts };
          returned = λ op is. record { named = k; sent = s; anew = λ x. counts };
          granted = λ op tries h is took. granted_low op h (t op h took) (taken_new a op h took);
          unusable = λ op tries w is took. over_low _;
          refused = λ op tries is. turn_low n d op (not_granted a tries) k s (λ x. counts);
          committed = λ op timed h is held. commit_low op a timed h held;
          reported = λ op timed is. over_low _;
          closed = λ op o report is. over_low o;
        })

  -- ---- whatever comes

  module _ (c : Client) (k : AreNamed c.held) (counts : HeldsCount n c.held) where
    still_low : StepLow n (still c)
    still_low = record { named = k; sends = tt }

    -- what the call does with the drives under its grant
    under_grant : (call : Call) (h : Held) (m : Moved) → held_of c.held (file_of call.op) ≡ Some h → IsNumbered h m
        → IsSettled m → StepLow n (finished (moved (quiet c) call.op m))
    under_grant call h m held numbered settled =
        let own = found_all IsNamed c.held (file_of call.op) h k held in
        finished_low n _ (moved_low n (quiet c) call.op h m k counts own.0
        (subst (FoundCounts n) held (found_counts n c.held (file_of call.op) counts)) numbered settled)

    -- ---- any step

    in_sends : (m : ℕ) (os : List Outgoing) (d : ℕ) (x : Command) → SendsLow m os → In (ToDrive d x) os
        → IsLow m x.nonce
    in_sends m [] d x t i = absurd i
    in_sends m (ToDrive e y ∷ os) d x t (inl is) =
        let same : y ≡ x = cc (sym is) in subst (λ (z : Command). IsLow m z.nonce) same t.0
    in_sends m (ToDrive e y ∷ os) d x t (inr i) = in_sends m os d x t.1 i
    in_sends m (Asks r ∷ os) d x t (inl is) = absurd (cc is)
    in_sends m (Asks r ∷ os) d x t (inr i) = in_sends m os d x t i
    in_sends m (AnswersRecall r ∷ os) d x t (inl is) = absurd (cc is)
    in_sends m (AnswersRecall r ∷ os) d x t (inr i) = in_sends m os d x t i

    in_low : (m : ℕ) (xs : List Awaited) (a : Awaited) → AreLow m xs → In a xs → IsLow m a.command.nonce
    in_low m [] a t i = absurd i
    in_low m (x ∷ xs) a t (inl is) = subst (λ (y : Awaited). IsLow m y.command.nonce) (sym is) t.0
    in_low m (x ∷ xs) a t (inr i) = in_low m xs a t.1 i

    pub record StepKeeps (s : Step) : Type 0 where
      pub named : AreNamed s.client.held
      pub sends : (d : ℕ) (x : Command) → In (ToDrive d x) s.sends → IsLow (n + length s.sends) x.nonce

    keeps : (s : Step) → StepLow n s → StepKeeps s
    keeps s t = record { named = t.named; sends = λ d x i. in_sends (n + length s.sends) s.sends d x t.sends i }

    resends_keeps : AreLow n (awaited_of c.call) → StepKeeps (record (still c) { sends = resent c })
    resends_keeps low = record {
      named = k;
      sends =
          λ d x i.
          let of = resent_awaited c d x i in
          let it : IsLow n of.awaited.command.nonce = in_low n (awaited_of c.call) of.awaited low of.there in
          let same : of.awaited.command.nonce ≡ x.nonce = ap (λ (y : Command). y.nonce) of.command in
          omega (arith, it, same);
    }

    cases : (i : Input) → AreLow n (awaited_of c.call) → InputNamed i → TurnCases c i StepKeeps
    cases i low t = record {
      rests = keeps _ still_low;
      nothing = λ op is e. keeps _ (record { named = k; sends = tt });
      called = λ op is none can. keeps _ (finished_low n _ (record { named = k; sent = tt; anew = λ x. counts }));
      answered = λ a is.
          keeps _ (finished_low n _ (answered_low (quiet (record c { outstanding = None })) k counts tt a
          (subst InputNamed is.heard t)));
      replied = λ drive q call h a is.
          keeps _ (under_grant call h (replied h call.op call.phase a q) is.held
          (nonces_rise.replied h call.op call.phase a q) (replied_settled h call.op call.phase a q));
      unheld = keeps _ (finished_low n _ (quiet_low c k counts));
      recalled = λ q is. keeps _ (finished_low n _ (record { named = k; sent = tt; anew = λ x. counts }));
      unmatched = λ q is. keeps _ (finished_low n _ (record { named = k; sent = tt; anew = λ x. counts }));
      timed = λ j call h a xs is.
          keeps _ (under_grant call h (timed_out h call.op call.phase j a xs) is.held
          (nonces_rise.timed h call.op call.phase j a xs) (timed_out_settled h call.op call.phase j a xs));
      leaves = λ is. keeps _ (finished_low n _ (record { named = k; sent = tt; anew = λ x. counts }));
      resends = λ is. resends_keeps low;
    }

    pub step_keeps : (i : Input) → AreLow n (awaited_of c.call) → InputNamed i → StepKeeps (step c i)
    step_keeps i low t = each_turn c i StepKeeps (cases i low t)
