-- Whatever comes to a client: it goes on as it should, and its call ends fairly, where answers are good.
use Rattle.std.proofs.Common.{◌≡◌, ℕ, Bool, true, false, List, ◌∷◌, Option, Some, None, find, inl, inr, refl, sym, subst, if◌then◌else◌}
use Rattle.std.proofs.lemmas.Bool.{eq-eqb, ne_eqb}
use Rattle.osd_lists.specs.declared.node.Node.{Node}
use Rattle.layout_ops.specs.declared.messages.Answer.{Answer}
use Rattle.layout_ops.specs.declared.statuses.TheConstants.{NFS4_OK}
use Rattle.world_history.specs.ClientNames.{Client, Call, CallOp, Held, Awaited, TimedOut, Request, Recall, Need, First, Get, Commit, Report, Close, Phase, Starts, Needs, Waits, Reads, Probes, Gathers, Scatters, Outcome, Status, BadLayout, Turn, Goes, Ends, Forgets, Moved, Done}
use Rattle.client_rules.specs.Answers.{not_granted, is_loss_taken, on_report, on_commit}
use Rattle.client_rules.specs.Calls.{file_of}
use Rattle.client_rules.specs.Commands.{of_component}
use Rattle.client_rules.specs.Going.{quiet, over, moved}
use Rattle.client_rules.specs.Grants.{held_of}
use Rattle.client_rules.specs.History.{Input, Hears, step}
use Rattle.client_rules.specs.Io.{awaited_in}
use Rattle.client_rules.specs.Messages.{Message, TakesAnswer, still, finished, commit_under, on_need, on_phase, on_call, no_match, obeys, takes}
use Rattle.client_rules.specs.Replies.{answers, replied, timed_out}
use Rattle.client_rules.specs.Results.{status_of}
use Rattle.exchange_law.specs.Calls.{IsFair, IsPlain, WaitFine, Knows, PhaseFine, IsCall, CallFine, ClientFine, TurnFair, GoodAnswer}
use Rattle.exchange_law.proofs.HeldMoving.{IsWorking, none_asked, TurnFine, MoveFine, replied_fine, timed_fine, commit_fine}
use Rattle.exchange_law.proofs.HeldGoing.{StepFine, Rules, DoneFine, put_fine, turn_fine, moved_fine, finished_fine}
use Rattle.history_law.specs.Turns.{TurnCases}
use Rattle.history_law.proofs.Turns.{each_turn}

module _ (P : ℕ → Held → Type 0) (K : Knows) (n : ℕ) (r : Rules P K n) where
  still_fine : (c : Client) → ClientFine P K c → StepFine P K (still c)
  still_fine c k = record { client = k; outcome = tt }

  quiet_fine : (c : Client) → c.next ≡ n → ClientFine P K c → DoneFine P K n (quiet c)
  quiet_fine c next k = record { helds = k.helds; call = k.call; outcome = tt; next = next }

  -- ---- replies and timeouts

  working : (p : Phase) (f : Awaited → Bool) (a : Awaited) → find f (awaited_in p) ≡ Some a → IsWorking K None p
  working Starts f a e = absurd (cc e)
  working (Needs need) f a e = absurd (cc e)
  working (Waits need) f a e = absurd (cc e)
  working (Reads io) f a e = tt
  working (Probes io) f a e = tt
  working (Gathers io) f a e = tt
  working (Scatters io queue) f a e = tt

  timing : (p : Phase) (k : ℕ) (a : Awaited) (xs : List Awaited) → of_component k (awaited_in p) ≡ a ∷ xs
      → IsWorking K None p
  unfolding of_component
  timing Starts k a xs e = absurd (cc e)
  timing (Needs need) k a xs e = absurd (cc e)
  timing (Waits need) k a xs e = absurd (cc e)
  timing (Reads io) k a xs e = tt
  timing (Probes io) k a xs e = tt
  timing (Gathers io) k a xs e = tt
  timing (Scatters io queue) k a xs e = tt

  module _ (c : Client) (next : c.next ≡ n) (k : ClientFine P K c) where
    -- the phase of a call that works under a grant
    under : (op : CallOp) (p : Phase) (h : Held) (m : Moved) → held_of c.held (file_of op) ≡ Some h → IsCall op
        → IsWorking K None p → PhaseFine K (held_of c.held (file_of op)) c.outstanding op p
        → (PhaseFine K (Some h) c.outstanding op p → MoveFine K c.outstanding h op m)
        → DoneFine P K n (moved (quiet c) op m)
    under op p h m e is works x moves =
        moved_fine P K n r (quiet c) op h m k.helds is tt next
        (none_asked K c.outstanding (held_of c.held (file_of op)) op p works x) e
        (moves (subst (λ (o : Option Held). PhaseFine K o c.outstanding op p) e x))

    -- ---- answers

    abbrev free : Client
    free = record c { outstanding = None }

    turn_of : (o : Option Held) (op : CallOp) (t : Turn) → o ≡ None → TurnFair t → TurnFine K None o op t
    turn_of o op (Goes (Needs (Get tries))) e x = (e, tt)
    turn_of o op (Goes p) e x = absurd x
    turn_of o op (Ends u) e x = x
    turn_of o op (Forgets u) e x = absurd x

    plain_fair : (u : Outcome) → IsPlain u → IsFair u
    plain_fair (Status m detail) x = absurd x
    plain_fair (BadLayout why) x = absurd x
    plain_fair u x = x

    report_fair : (b : Bool) (u v : Outcome) → IsFair u → IsFair v → IsFair (if b then u else v)
    report_fair true u v x y = x
    report_fair false u v x y = y

    get_goes : (op : CallOp) (tries : ℕ) (a : Answer) → IsCall op → held_of c.held (file_of op) ≡ None
        → GoodAnswer P op (Get tries) a → DoneFine P K n (on_need (quiet free) op (Get tries) a)
    get_goes op tries a is none (inl g) = rw (eq-eqb (status_of a.results) NFS4_OK g.0, g.2) (record {
      helds = put_fine P K n c.held g.1 k.helds (subst (λ (f : ℕ). P f g.1) (sym g.3) g.4);
      call = (is, tt);
      outcome = tt;
      next = next;
    })
    get_goes op tries a is none (inr g) =
        rw (ne_eqb (status_of a.results) NFS4_OK g.0)
        (turn_fine P K n (quiet free) op (not_granted a tries) k.helds is tt next tt
        (turn_of (held_of c.held (file_of op)) op (not_granted a tries) none g.1))

    commit_goes : (op : CallOp) (timed : List TimedOut) (a : Answer) (h : Held) → IsCall op
        → held_of c.held (file_of op) ≡ Some h → GoodAnswer P op (Commit timed) a
        → DoneFine P K n (on_need (quiet free) op (Commit timed) a)
    commit_goes op timed a h is e good =
        subst (λ (o : Option Held). DoneFine P K n (commit_under (quiet free) op a (Commit timed) o)) (sym e)
        (moved_fine P K n r (quiet free) op h (on_commit h op a timed) k.helds is tt next tt e
        (commit_fine K None tt h op a timed good))

    over_goes : (u : Outcome) → IsFair u → DoneFine P K n (over (quiet free) u)
    over_goes u x = record { helds = k.helds; call = tt; outcome = x; next = next }

    -- the answer is good for what the call waits for
    abbrev pub GoodFor : Answer → Type 0
    GoodFor a =
        (op : CallOp) (need : Need) (q : Request) → c.call ≡ Some (record { op = op; phase = Waits need })
        → c.outstanding ≡ Some q → K op need q → GoodAnswer P op need a

    need_goes : (op : CallOp) (need : Need) (a : Answer) → IsCall op
        → c.call ≡ Some (record { op = op; phase = Waits need }) → GoodFor a
        → WaitFine K (held_of c.held (file_of op)) c.outstanding op need
        → DoneFine P K n (on_need (quiet free) op need a)
    unfolding on_report
    need_goes op First a is e good x = record { helds = k.helds; call = (is, tt); outcome = tt; next = next }
    need_goes op (Get tries) a is e good x =
        get_goes op tries a is x.0 (good op (Get tries) x.1.request e x.1.outstanding x.1.known)
    need_goes op (Commit timed) a is e good x =
        commit_goes op timed a x.held is x.holds
        (good op (Commit timed) x.asks.request e x.asks.outstanding x.asks.known)
    need_goes op (Report timed) a is e good x = over_goes _ (report_fair (is_loss_taken a) _ _ tt tt)
    need_goes op (Close u report) a is e good x = over_goes u (plain_fair u x.0)

    stays : (op : CallOp) (p : Phase) → c.call ≡ Some (record { op = op; phase = p }) → IsCall op
        → PhaseFine K (held_of c.held (file_of op)) None op p → DoneFine P K n (quiet free)
    stays op p e is x = record {
      helds = k.helds;
      call = subst (CallFine K c.held None) (sym e) (is, x);
      outcome = tt;
      next = next;
    }

    phase_goes : (op : CallOp) (p : Phase) (a : Answer) → c.call ≡ Some (record { op = op; phase = p }) → IsCall op
        → GoodFor a → PhaseFine K (held_of c.held (file_of op)) c.outstanding op p
        → DoneFine P K n (on_phase (quiet free) op p a)
    phase_goes op (Waits need) a e is good x = need_goes op need a is e good x
    phase_goes op Starts a e is good x = stays op Starts e is tt
    phase_goes op (Needs need) a e is good x = stays op (Needs need) e is (x.0, tt)
    phase_goes op (Reads io) a e is good x = stays op (Reads io) e is (x.0, tt)
    phase_goes op (Probes io) a e is good x = stays op (Probes io) e is (x.0, tt)
    phase_goes op (Gathers io) a e is good x = stays op (Gathers io) e is (x.0, tt)
    phase_goes op (Scatters io queue) a e is good x = stays op (Scatters io queue) e is (x.0, tt)

    answer_goes : (a : Answer) (o : Option Call) → c.call ≡ o → GoodFor a → CallFine K c.held c.outstanding o
        → DoneFine P K n (on_call (quiet free) o a)
    answer_goes a None e good x = record {
      helds = k.helds;
      call = subst (CallFine K c.held None) (sym e) (tt {0});
      outcome = tt;
      next = next;
    }
    answer_goes a (Some call) e good x = phase_goes call.op call.phase a e x.0 good x.1

    -- ---- recalls

    obeys_goes : (q : Recall) → DoneFine P K n (obeys c q)
    obeys_goes q = record { helds = k.helds; call = k.call; outcome = tt; next = next }

    refuses_goes : (q : Recall) → DoneFine P K n (no_match c q)
    refuses_goes q = record { helds = k.helds; call = k.call; outcome = tt; next = next }

    -- ---- whatever comes

    step_of : (d : Done) → DoneFine P K n d → StepFine P K (finished d)
    step_of d x = finished_fine P K n r d x

    -- where it would be taken, it is good
    abbrev pub IsGood : Node → Message → Type 0
    IsGood from m = (a : Answer) → takes c from m ≡ Some (TakesAnswer a) → GoodFor a

    -- in any step of it
    abbrev pub IsGoodInput : Input → Type 0
    IsGoodInput (Hears from m) = IsGood from m
    IsGoodInput i = Unit {0}

    -- what the call does with the drives under its grant
    under_grant : (call : Call) (h : Held) (m : Moved) → c.call ≡ Some call → held_of c.held (file_of call.op) ≡ Some h
        → IsWorking K None call.phase
        → (PhaseFine K (Some h) c.outstanding call.op call.phase → MoveFine K c.outstanding h call.op m)
        → StepFine P K (finished (moved (quiet c) call.op m))
    under_grant call h m is held works moves =
        let x : CallFine K c.held c.outstanding (Some call) = subst (CallFine K c.held c.outstanding) is k.call in
        step_of _ (under call.op call.phase h m held x.0 works x.1 moves)

    cases : (i : Input) → IsGoodInput i → TurnCases c i (StepFine P K)
    cases i good = record {
      rests = still_fine c k;
      nothing = λ op is e. record { client = k; outcome = tt };
      called = λ op is none can.
          step_of _ (record {
            helds = k.helds;
            call = (
              record { range = can.range; some = can.some },
              subst (CallFine K c.held c.outstanding) none k.call,
            );
            outcome = tt;
            next = next;
          });
      answered = λ a is. step_of _ (answer_goes a c.call refl (subst IsGoodInput is.is good a is.takes_it) k.call);
      replied = λ drive q call h a is.
          let works = working call.phase (answers drive q) a is.awaits in
          under_grant call h (replied h call.op call.phase a q) is.call_is is.held works
          (λ y. replied_fine K c.outstanding h call.op call.phase a q works y);
      unheld = step_of _ (quiet_fine c next k);
      recalled = λ q is. step_of _ (obeys_goes q);
      unmatched = λ q is. step_of _ (refuses_goes q);
      timed = λ j call h a xs is.
          let works = timing call.phase j a xs is.awaits in
          under_grant call h (timed_out h call.op call.phase j a xs) is.call_is is.held works
          (λ y. timed_fine K c.outstanding h call.op call.phase j a xs works y);
      leaves = λ is. step_of _ (record { helds = k.helds; call = k.call; outcome = tt; next = next });
      resends = λ is. record { client = k; outcome = tt };
    }

    pub step_fine : (i : Input) → IsGoodInput i → StepFine P K (step c i)
    step_fine i good = each_turn c i (StepFine P K) (cases i good)
