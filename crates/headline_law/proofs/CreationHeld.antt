-- What a client holds behind a move is on files that there are: it held that before, or was given it.
-- Towards `NoneIsLogged` (`file_simulation/specs/Conclusion.antt`).
use Rattle.std.proofs.Common.{◌≡◌, ℕ, List, Option, Some, None, refl, sym, ap, subst, ◌∙◌, inl, inr}
use Rattle.std.proofs.lemmas.Bool.{cases_eq}
use Rattle.layout_ops.specs.declared.args.Args.{Args}
use Rattle.layout_ops.specs.declared.args.Args.TheVariants as args
use Rattle.scenario_text.specs.declared.line.Line.{Line}
use Rattle.client_rules.specs.Calls.{file_of}
use Rattle.client_rules.specs.Going.{quiet, moved, begins, requests, asks_under, returns}
use Rattle.client_rules.specs.Grants.{held_of}
use Rattle.client_rules.specs.History.{Input, step}
use Rattle.client_rules.specs.Messages.{finished, on_call, obeys, no_match}
use Rattle.client_rules.specs.Replies.{replied, timed_out}
use Rattle.client_rules.specs.Requests.{args_of, get_args, return_args}
use Rattle.client_rules.specs.Steps.{all_due}
use Rattle.world_history.specs.ClientNames.{Client, CallOp, Done, Due, Held, Moved, Need}
use Rattle.world_history.specs.History.{OneEventMore}
use Rattle.world_history.specs.Moves.{acts}
use Rattle.world_history.specs.Plans.{due}
use Rattle.world_history.specs.Sending.{Move, move}
use Rattle.world_history.specs.State.{World}
use Rattle.history_law.specs.Moments.{IsMoment, plan_at}
use Rattle.history_law.specs.Turns.{FinishCases, TurnCases, with_start}
use Rattle.history_law.proofs.Turns.{each_finish, each_turn}
use Rattle.exchange_law.specs.Meeting.{ClientsAgree, IsReadableThrough}
use Rattle.exchange_law.specs.Taking.{AnswersAreOwn}
use Rattle.exchange_law.proofs.ClientKeeping.{without_read}
use Rattle.file_simulation.specs.ClientEvents.{Going, going_in}
use Rattle.file_simulation.specs.Relation.{client_of}
use Rattle.relation_law.specs.Frames.{ByClient}
use Rattle.relation_law.proofs.FramesParties as parties
use Rattle.relation_law.proofs.RequestsDealt.{begins_file, file_of_moved, replied_file, timed_out_file}
use Rattle.relation_law.proofs.RequestsHeld.{moved_before}
use Rattle.headline_law.proofs.BirthReturns.{IsThere, KnownOf, answered_held, known, later, returns_are_there}
use Rattle.headline_law.proofs.LoggedFiles.{held_file}

-- ---- a turn of a client

module _ (E : ℕ → Type 0) where
  -- E holds of each file on which a client holds a grant.
  abbrev Holds : Client → Type 0
  Holds y = (n : ℕ) (h : Held) → held_of y.held n ≡ Some h → E n

  -- a request goes out
  asked_holds : (d : Done) (file : ℕ) (a : Args) → Holds d.client → Holds (requests d file a).client
  unfolding requests
  asked_holds d file (args.LayoutGet a) held = held
  asked_holds d file (args.LayoutCommit a) held = held
  asked_holds d file (args.LayoutReturn a) held = λ n h e. held n h (without_read d.client.held file n h e)

  under_holds : (d : Done) (op : CallOp) (n : Need) (o : Option Held) → Holds d.client → Holds (asks_under d op n o).client
  under_holds d op n None held = asked_holds _ _ (get_args op) held
  under_holds d op n (Some h) held = asked_holds _ _ (args_of h op n) held

  back_holds : (d : Done) (u : Option Due) → Holds d.client → Holds (returns d u).client
  back_holds d None held = held
  back_holds d (Some u) held = asked_holds _ _ (return_args u.number _) held

  finish_cases : FinishCases (λ d. Holds d.client)
  finish_cases = record {
    needs = λ d op n held is out first. held;
    begun = λ d op h held is has cover n j e.
        let b = moved_before d op h has (begins h op) (file_of_moved h (begins h op) (begins_file h op)) n j e in
        held n b.0 b.1;
    asks = λ d op n o held is out has. under_holds d op n o held;
    gives_back = λ d u held none out. back_holds d u held;
  }

  finish : (d : Done) → Holds d.client → Holds (finished d).client
  unfolding finished
  finish d held = each_finish (λ e. Holds e.client) finish_cases d held

  module _ (x : Client) (i : Input) (k : KnownOf E x i) where
    dealt : (op : CallOp) (h : Held) → held_of x.held (file_of op) ≡ Some h → (m : Moved) → m.held.file ≡ h.file →
        Holds (finished (moved (quiet x) op m)).client
    dealt op h has m same =
        finish (moved (quiet x) op m) (λ n j e.
        let b = moved_before (quiet x) op h has m same n j e in k.holding n b.0 b.1)

    cases : TurnCases x i (λ t. Holds t.client)
    cases = record {
      rests = k.holding;
      nothing = λ op is empty. k.holding;
      called = λ op is none can. finish (quiet (with_start x op)) k.holding;
      answered = λ a q.
          finish (on_call (quiet (record x { outstanding = None })) x.call a) (answered_held E x i k a q x.call refl);
      replied = λ drive q call h a r.
          dealt call.op h r.held (replied h call.op call.phase a q)
          (file_of_moved h (replied h call.op call.phase a q) (replied_file h call.op call.phase a q));
      unheld = finish (quiet x) k.holding;
      recalled = λ q is. finish (obeys x q) k.holding;
      unmatched = λ q is. finish (no_match x q) k.holding;
      timed = λ n call h a xs r.
          dealt call.op h r.held (timed_out h call.op call.phase n a xs)
          (file_of_moved h (timed_out h call.op call.phase n a xs) (timed_out_file h call.op call.phase n a xs));
      leaves = λ is. finish (quiet (record x { due = all_due x.due x.held })) k.holding;
      resends = λ is. k.holding;
    }

    step_holds : Holds (step x i).client
    step_holds = each_turn x i (λ t. Holds t.client) cases

-- ---- a move

module _ (more : OneEventMore) (own : AnswersAreOwn) (agree : ClientsAgree) (w : World) (h : List Line) (k : IsMoment w h)
    (m : Move) (d : due (plan_at k) w ≡ Some m.action) (t : IsReadableThrough h) where
  abbrev v : World
  v = (move w m).world

  -- what a client held before is on a file that there is behind the move
  before : (c n : ℕ) (x : Held) → held_of (client_of w c).held n ≡ Some x → IsThere v n
  before c n x holds =
      later more own agree w h k m d (returns_are_there more own agree w h k t) t n
      (held_file more own agree w h k t c n x holds)

  goes : (g : Going) → ByClient w m.action g (acts w m.chosen m.action) → (c n : ℕ) (x : Held) →
      held_of (client_of v c).held n ≡ Some x → IsThere v n
  goes g by c n x holds = elim (cases_eq c g.client) [
    | inl same ↦
        step_holds (IsThere v) g.state g.input
        (known more own agree w h k m d (returns_are_there more own agree w h k t) t g by) n x
        (ap (λ (z : Client). held_of z.held n) (sym (parties.client_behind w m g by))
        ∙ subst (λ (i : ℕ). held_of (client_of v i).held n ≡ Some x) same holds)
    | inr other ↦
        before c n x (ap (λ (z : Client). held_of z.held n) (sym (parties.client_beside w m g by c other)) ∙ holds)
  ]

  by_going : (o : Option Going) → going_in w m.action ≡ o → (c n : ℕ) (x : Held) → held_of (client_of v c).held n ≡ Some x →
      IsThere v n
  by_going None none c n x holds =
      before c n x (ap (λ (z : Client). held_of z.held n) (sym (parties.clients_rest w h k m d none c)) ∙ holds)
  by_going (Some g) is c n x holds = goes g (parties.client_goes w h k m d g is) c n x holds

  -- what it holds behind the move is
  pub held_behind : (c n : ℕ) (x : Held) → held_of (client_of v c).held n ≡ Some x → IsThere v n
  held_behind = by_going (going_in w m.action) refl
