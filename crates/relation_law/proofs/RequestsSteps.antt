-- What a step of a client asks: without an answer as from the client before, and with one as if nothing had been outstanding.
use Rattle.std.proofs.Common.{◌≡◌, ◌==◌, ℕ, Bool, true, false, List, [], ◌∷◌, Option, Some, None, Result, Ok, Err, find, refl, sym, subst, ◌∙◌, inl, inr, if◌then◌else◌}
use Rattle.layout_ops.specs.declared.messages.Answer.{Answer}
use Rattle.layout_ops.specs.declared.statuses.TheConstants.{NFS4_OK}
use Rattle.osd_lists.specs.declared.node.Node.{Node}
use Rattle.client_rules.specs.Answers.{not_granted, on_commit}
use Rattle.client_rules.specs.Calls.{file_of}
use Rattle.client_rules.specs.Commands.{of_component}
use Rattle.client_rules.specs.Going.{quiet, moved, by_turn, with_held}
use Rattle.client_rules.specs.Grants.{held_of}
use Rattle.client_rules.specs.History.{Input, Hears, Resends, step}
use Rattle.client_rules.specs.Io.{awaited_in}
use Rattle.client_rules.specs.Layouts.{taken}
use Rattle.client_rules.specs.Messages.{Step, Message, TakesAnswer, takes, finished, still, on_call, on_phase, on_need, answered_get, commit_under, obeys, no_match, hears}
use Rattle.client_rules.specs.Replies.{answers, replied, timed_out}
use Rattle.client_rules.specs.Results.{status_of}
use Rattle.client_rules.specs.Steps.{all_due}
use Rattle.world_history.specs.ClientNames.{Client, Call, CallOp, Held, Awaited, Reply, Need, First, Get, Commit, Report, Close, Phase, Starts, Needs, Waits, Reads, Probes, Gathers, Scatters, Turn, Why, Done}
use Rattle.history_law.specs.Turns.{IsReplied, IsTimed, with_start, TurnCases}
use Rattle.history_law.proofs.Turns.{each_turn}
use Rattle.relation_law.specs.Requests.{Works, WorksCall, Turned, NothingAsked, HasTurned}
use Rattle.relation_law.proofs.RequestsMoves.{replied_works, timed_out_works}
use Rattle.relation_law.proofs.RequestsTurns.{turn_stays, moved_turned, finished_turned, quiet_turned}

-- ---- a phase that awaits a command waits for no answer

pub found_works : (f : Awaited → Bool) (p : Phase) (a : Awaited) → find f (awaited_in p) ≡ Some a → Works p
found_works f (Waits n) a is = absurd (cc is)
found_works f Starts a is = refl
found_works f (Needs n) a is = refl
found_works f (Reads io) a is = refl
found_works f (Probes io) a is = refl
found_works f (Gathers io) a is = refl
found_works f (Scatters io queue) a is = refl

pub awaits_works : (k : ℕ) (p : Phase) (a : Awaited) (xs : List Awaited) → of_component k (awaited_in p) ≡ a ∷ xs → Works p
unfolding of_component
awaits_works k (Waits n) a xs is = absurd (cc is)
awaits_works k Starts a xs is = refl
awaits_works k (Needs n) a xs is = refl
awaits_works k (Reads io) a xs is = refl
awaits_works k (Probes io) a xs is = refl
awaits_works k (Gathers io) a xs is = refl
awaits_works k (Scatters io queue) a xs is = refl

-- ---- no answer is taken

module _ (x : Client) where
  here : Turned x (quiet x)
  here = quiet_turned x x refl refl (λ r is. inl refl)

  rested : (t : Step) → t.client ≡ x → t.sends ≡ [] → HasTurned x t
  rested t same none = record { done = quiet x; turned = here; client = same; sends = none }

  called : (op : CallOp) → x.call ≡ None → HasTurned x (finished (quiet (with_start x op)))
  called op none =
      finished_turned x (quiet (with_start x op))
      (quiet_turned x (with_start x op) refl refl (λ r is. inr (subst WorksCall (sym none) tt, refl)))

  heard : (i : Input) (drive : ℕ) (q : Reply) (call : Call) (h : Held) (a : Awaited) → IsReplied x i drive q call h a
      → HasTurned x (finished (moved (quiet x) call.op (replied h call.op call.phase a q)))
  heard i drive q call h a k =
      let works : Works call.phase = found_works (answers drive q) call.phase a k.awaits in
      finished_turned x (moved (quiet x) call.op (replied h call.op call.phase a q))
      (moved_turned x (quiet x) call.op (replied h call.op call.phase a q) here (subst WorksCall (sym k.call_is) works)
      (replied_works h call.op call.phase a q works))

  timed : (i : Input) (j : ℕ) (call : Call) (h : Held) (a : Awaited) (xs : List Awaited) → IsTimed x i j call h a xs
      → HasTurned x (finished (moved (quiet x) call.op (timed_out h call.op call.phase j a xs)))
  timed i j call h a xs k =
      let works : Works call.phase = awaits_works j call.phase a xs k.awaits in
      finished_turned x (moved (quiet x) call.op (timed_out h call.op call.phase j a xs))
      (moved_turned x (quiet x) call.op (timed_out h call.op call.phase j a xs) here (subst WorksCall (sym k.call_is) works)
      (timed_out_works h call.op call.phase j a xs works))

  -- the client goes on as it is, but for what is due
  goes_on : (d : Done) → d.requests ≡ [] → d.client.outstanding ≡ x.outstanding → d.client.next ≡ x.next
      → d.client.call ≡ x.call → HasTurned x (finished d)
  goes_on d none out next call = finished_turned x d (NothingAsked none out next (λ r is. inl call))

  cases : (i : Input)
      → ((a : Answer) (from : Node) (m : Message) → i ≡ Hears from m → takes x from m ≡ Some (TakesAnswer a) → ⊥)
      → (i ≡ Resends → ⊥) → TurnCases x i (HasTurned x)
  cases i none fresh = record {
    rests = rested (still x) refl refl;
    nothing = λ op is empty. rested _ refl refl;
    called = λ op is idle can. called op idle;
    answered = λ a k. absurd (none a k.from k.message k.is k.takes_it);
    replied = λ drive q call h a k. heard i drive q call h a k;
    unheld = goes_on (quiet x) refl refl refl refl;
    recalled = λ q is. goes_on (obeys x q) refl refl refl refl;
    unmatched = λ q is. goes_on (no_match x q) refl refl refl refl;
    timed = λ j call h a xs k. timed i j call h a xs k;
    leaves = λ is. goes_on (quiet (record x { due = all_due x.due x.held })) refl refl refl refl;
    resends = λ is. absurd (fresh is);
  }

  pub step_turned : (i : Input)
      → ((a : Answer) (from : Node) (m : Message) → i ≡ Hears from m → takes x from m ≡ Some (TakesAnswer a) → ⊥)
      → (i ≡ Resends → ⊥) → HasTurned x (step x i)
  step_turned i none fresh = each_turn x i (HasTurned x) (cases i none fresh)

-- ---- an answer is taken

module _ (x : Client) (a : Answer) where
  -- the client, as if nothing had been outstanding
  abbrev pub freed : Client
  freed = record x { outstanding = None }

  free : (d : Done) → d.requests ≡ [] → d.client.outstanding ≡ None → d.client.next ≡ x.next → Turned freed d
  free d none out next = NothingAsked none out next (λ r is. absurd (cc is))

  by_turn_free : (d : Done) (op : CallOp) (t : Turn) → d.requests ≡ [] → d.client.outstanding ≡ None
      → d.client.next ≡ x.next → Turned freed (by_turn d op t)
  by_turn_free d op t none out next =
      let s = turn_stays d op t in free (by_turn d op t) (s.0 ∙ none) (s.1 ∙ out) (s.2 ∙ next)

  given : (op : CallOp) (r : Result Held Why) → Turned freed (answered_get (quiet freed) op r)
  given op (Err w) = free _ refl refl refl
  given op (Ok h) = free _ refl refl refl

  got : (op : CallOp) (tries : ℕ) (b : Bool)
      → Turned freed (if b then answered_get (quiet freed) op (taken a op) else by_turn (quiet freed) op (not_granted a tries))
  got op tries true = given op (taken a op)
  got op tries false = by_turn_free (quiet freed) op (not_granted a tries) refl refl refl

  commit : (op : CallOp) (n : Need) (o : Option Held) → Turned freed (commit_under (quiet freed) op a n o)
  commit op (Commit timed) (Some h) =
      by_turn_free
      (record (with_held (quiet freed) (on_commit h op a timed).held) { commands = (on_commit h op a timed).sent }) op
      (on_commit h op a timed).turn refl refl refl
  commit op (Commit timed) None = free _ refl refl refl
  commit op First o = free _ refl refl refl
  commit op (Get tries) o = free _ refl refl refl
  commit op (Report timed) o = free _ refl refl refl
  commit op (Close u report) o = free _ refl refl refl

  need : (op : CallOp) (n : Need) → Turned freed (on_need (quiet freed) op n a)
  need op First = free _ refl refl refl
  need op (Get tries) = got op tries (status_of a.results == NFS4_OK)
  need op (Commit timed) = commit op (Commit timed) (held_of freed.held (file_of op))
  need op (Report timed) = free _ refl refl refl
  need op (Close u report) = free _ refl refl refl

  phase : (op : CallOp) (p : Phase) → Turned freed (on_phase (quiet freed) op p a)
  phase op (Waits n) = need op n
  phase op Starts = free _ refl refl refl
  phase op (Needs n) = free _ refl refl refl
  phase op (Reads io) = free _ refl refl refl
  phase op (Probes io) = free _ refl refl refl
  phase op (Gathers io) = free _ refl refl refl
  phase op (Scatters io queue) = free _ refl refl refl

  call : (o : Option Call) → Turned freed (on_call (quiet freed) o a)
  call None = free _ refl refl refl
  call (Some c) = phase c.op c.phase

  pub answer_turned : (from : Node) (m : Message) → takes x from m ≡ Some (TakesAnswer a)
      → HasTurned freed (step x (Hears from m))
  unfolding hears
  answer_turned from m is = rw is (finished_turned freed (on_call (quiet freed) x.call a) (call x.call))
