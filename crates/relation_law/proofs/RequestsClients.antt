-- At each moment each client has asked what its call waits for, and holds no grant that it returns.
-- Towards `ReturnsAreHeld` (`specs/RequestsGoing.antt`).
use Rattle.std.proofs.Common.{◌≡◌, ◌==◌, ◌+◌, ℕ, Bool, true, false, List, [], ◌∷◌, Option, Some, None, Result, Ok, Err, refl, sym, ap, subst, ◌∙◌, if◌then◌else◌}
use Rattle.std.specs.Prelude.{nat_lt}
use Rattle.layout_ops.specs.declared.messages.Answer.{Answer}
use Rattle.layout_ops.specs.declared.statuses.TheConstants.{NFS4_OK, NFS4ERR_NOENT, NFS4ERR_BADLAYOUT, NFS4ERR_LAYOUTTRYLATER, NFS4ERR_LAYOUTUNAVAILABLE, NFS4ERR_RECALLCONFLICT}
use Rattle.client_rules.specs.Answers.{not_granted, busy, on_commit, committed, not_committed}
use Rattle.client_rules.specs.Calls.{file_of}
use Rattle.client_rules.specs.Going.{quiet, moved, by_turn}
use Rattle.client_rules.specs.Grants.{held_of}
use Rattle.client_rules.specs.History.{Input, step}
use Rattle.client_rules.specs.Layouts.{taken}
use Rattle.client_rules.specs.Messages.{on_call, on_phase, on_need, answered_get, commit_under, obeys, no_match}
use Rattle.client_rules.specs.Replies.{answers, replied, timed_out}
use Rattle.client_rules.specs.Results.{status_of}
use Rattle.client_rules.specs.Steps.{all_due, new_client}
use Rattle.client_rules.specs.Turns.{turned}
use Rattle.client_rules.specs.Writes.{accounted}
use Rattle.world_history.specs.ClientNames.{Client, Call, CallOp, Held, Need, First, Get, Commit, Report, Close, Phase, Starts, Needs, Waits, Reads, Probes, Gathers, Scatters, Turn, Goes, Ends, Forgets, Moved, TimedOut, Outcome, HeldBy, Fencing, Why}
use Rattle.world_history.specs.State.{ClientAt, at_number}
use Rattle.exchange_law.specs.Calls.{Has}
use Rattle.exchange_law.specs.InStep.{state_of}
use Rattle.exchange_law.proofs.ClientMoves.{IsKeptByClients, clients_always}
use Rattle.history_law.specs.Turns.{with_start, TurnCases}
use Rattle.history_law.proofs.Turns.{each_turn}
use Rattle.relation_law.specs.Requests.{Works}
use Rattle.relation_law.specs.RequestsClients.{NeedsHeld, AsksFor, ClientsAskFor}
use Rattle.relation_law.proofs.RequestsDealt.{KeepsFile, file_of_moved, same_file, replied_file, timed_out_file}
use Rattle.relation_law.proofs.RequestsMoves.{WorksTurn, WorksMoved, either_turn, turned_works, ends, forgets, needs, replied_works, timed_out_works}
use Rattle.relation_law.proofs.RequestsSteps.{found_works, awaits_works}
use Rattle.client_rules.specs.declared.limits.TheConstants.{MAX_TRIES}
use Rattle.relation_law.proofs.RequestsAsking.{some_none, no_call, works_on, works_due, alike, moved_asks, finished_asks}

-- ---- an answer

-- a LAYOUTGET that gives nothing is asked again, or the call ends
abbrev AsksAgain : Turn → Type 0
AsksAgain (Goes (Needs (Get tries))) = Unit {0}
AsksAgain (Goes p) = ⊥
AsksAgain (Ends o) = Unit {0}
AsksAgain (Forgets o) = ⊥

either_again : (b : Bool) (t u : Turn) → AsksAgain t → AsksAgain u → AsksAgain (if b then t else u)
either_again true t u x y = x
either_again false t u x y = y

busy_again : (tries : ℕ) (o : Outcome) → AsksAgain (busy tries o)
unfolding busy
busy_again tries o = either_again (nat_lt (tries + 1) MAX_TRIES) _ _ tt tt

granted_again : (a : Answer) (tries : ℕ) → AsksAgain (not_granted a tries)
unfolding not_granted
granted_again a tries =
    either_again (status_of a.results == NFS4ERR_NOENT) _ _ tt
    (either_again (status_of a.results == NFS4ERR_LAYOUTTRYLATER) _ _ (busy_again tries (HeldBy a.detail))
    (either_again (status_of a.results == NFS4ERR_RECALLCONFLICT) _ _ (busy_again tries (Fencing a.detail))
    (either_again (status_of a.results == NFS4ERR_LAYOUTUNAVAILABLE) _ _ tt tt)))

commit_works : (h : Held) (op : CallOp) (a : Answer) (timed : List TimedOut) → WorksMoved (on_commit h op a timed)
unfolding on_commit not_committed
commit_works h op a timed = either (status_of a.results == NFS4_OK)
  where
    accounts : (ts : List TimedOut) → WorksTurn (accounted op ts)
    accounts [] = ends _
    accounts (t ∷ ts) = needs _

    refuses : WorksTurn (not_committed (status_of a.results) a.detail)
    refuses = either_turn (status_of a.results == NFS4ERR_BADLAYOUT) _ _ (forgets _) (ends _)

    either : (b : Bool) → WorksMoved (if b then committed h op a timed
        else turned h (not_committed (status_of a.results) a.detail))
    either true = turned_works _ _ _ (accounts timed)
    either false = turned_works _ _ _ refuses

pub commit_file : (h : Held) (op : CallOp) (a : Answer) (timed : List TimedOut) → KeepsFile h (on_commit h op a timed)
unfolding on_commit
commit_file h op a timed = either (status_of a.results == NFS4_OK)
  where
    either : (b : Bool) → KeepsFile h (if b then committed h op a timed
        else turned h (not_committed (status_of a.results) a.detail))
    either true = same_file h _ refl
    either false = same_file h _ refl

-- a LAYOUTGET needs no grant
get_needs : (tries : ℕ) (n : Need) (o : Option Held) → Needs (Get tries) ≡ Needs n → NeedsHeld n o
get_needs tries n o e = let same : Get tries ≡ n = cc e in subst (λ (z : Need). NeedsHeld z o) same tt

module _ (x : Client) (a : Answer) (k : AsksFor x) where
  abbrev freed : Client
  freed = record x { outstanding = None }

  idle : (y : Client) → y.outstanding ≡ None → y.call ≡ None → AsksFor y
  idle y out none = no_call y none (λ r e. absurd (some_none e out)) (λ r e back. absurd (some_none e out))

  works : (y : Client) (op : CallOp) (p : Phase) → y.outstanding ≡ None → y.call ≡ Some (record { op = op; phase = p })
      → Works p → ((n : Need) → p ≡ Needs n → NeedsHeld n (held_of y.held (file_of op))) → AsksFor y
  works y op p out is w need =
      works_on y op p is w (λ r e. absurd (some_none e out)) (λ r e back. absurd (some_none e out)) need

  again : (op : CallOp) (t : Turn) → AsksAgain t → AsksFor (by_turn (quiet freed) op t).client
  again op (Goes (Needs (Get tries))) w =
      works _ op (Needs (Get tries)) refl refl refl (λ n e. get_needs tries n (held_of x.held (file_of op)) e)
  again op (Ends o) w = idle _ refl refl
  again op t w = absurd w

  given : (op : CallOp) (r : Result Held Why) → AsksFor (answered_get (quiet freed) op r).client
  given op (Err w) = idle _ refl refl
  given op (Ok h) = works _ op Starts refl refl refl (λ n e. absurd (cc e))

  got : (op : CallOp) (tries : ℕ) (b : Bool)
      → AsksFor (if b then answered_get (quiet freed) op (taken a op) else by_turn (quiet freed) op (not_granted a tries)).client
  got op tries true = given op (taken a op)
  got op tries false = again op (not_granted a tries) (granted_again a tries)

  commit : (op : CallOp) (timed : List TimedOut) → Has (held_of x.held (file_of op)) → (o : Option Held)
      → held_of x.held (file_of op) ≡ o → AsksFor (commit_under (quiet freed) op a (Commit timed) o).client
  commit op timed has None held = absurd (subst Has held has)
  commit op timed has (Some h) held =
      moved_asks (quiet freed) op h held (λ r e. absurd (cc e)) (λ r e back. absurd (cc e)) (on_commit h op a timed)
      (file_of_moved h (on_commit h op a timed) (commit_file h op a timed)) (commit_works h op a timed)

  by_need : (op : CallOp) (n : Need) → x.call ≡ Some (record { op = op; phase = Waits n })
      → AsksFor (on_need (quiet freed) op n a).client
  by_need op First is = works _ op Starts refl refl refl (λ n e. absurd (cc e))
  by_need op (Get tries) is = got op tries (status_of a.results == NFS4_OK)
  by_need op (Commit timed) is = commit op timed (k.commits op (Commit timed) is tt) (held_of x.held (file_of op)) refl
  by_need op (Report timed) is = idle _ refl refl
  by_need op (Close u report) is = idle _ refl refl

  as_it_was : (op : CallOp) (p : Phase) → x.call ≡ Some (record { op = op; phase = p }) → Works p → AsksFor freed
  as_it_was op p is w =
      works freed op p refl is w (λ n e. k.needs op n (is ∙ ap (λ (z : Phase). Some (record { op = op; phase = z })) e))

  answered_phase : (op : CallOp) (p : Phase) → x.call ≡ Some (record { op = op; phase = p })
      → AsksFor (on_phase (quiet freed) op p a).client
  answered_phase op (Waits n) is = by_need op n is
  answered_phase op Starts is = as_it_was op Starts is refl
  answered_phase op (Needs n) is = as_it_was op (Needs n) is refl
  answered_phase op (Reads io) is = as_it_was op (Reads io) is refl
  answered_phase op (Probes io) is = as_it_was op (Probes io) is refl
  answered_phase op (Gathers io) is = as_it_was op (Gathers io) is refl
  answered_phase op (Scatters io queue) is = as_it_was op (Scatters io queue) is refl

  answered_asks : (o : Option Call) → x.call ≡ o → AsksFor (on_call (quiet freed) o a).client
  answered_asks None is = idle freed refl is
  answered_asks (Some call) is = answered_phase call.op call.phase is

-- ---- each step

module _ (x : Client) (k : AsksFor x) where
  dealt : (op : CallOp) (p : Phase) (h : Held) (m : Moved) → x.call ≡ Some (record { op = op; phase = p }) → Works p
      → held_of x.held (file_of op) ≡ Some h → WorksMoved m → KeepsFile h m → AsksFor (moved (quiet x) op m).client
  dealt op p h m is works held w file =
      moved_asks (quiet x) op h held (works_due x op p is works k) k.gone m (file_of_moved h m file) w

  cases : (i : Input) → TurnCases x i (λ t. AsksFor t.client)
  cases i = record {
    rests = k;
    nothing = λ op is empty. k;
    called = λ op is none can. finished_asks (quiet (with_start x op))
        (works_on _ op Starts refl refl (k.due (λ b n at. cc (sym none ∙ at))) k.gone (λ n e. absurd (cc e)));
    answered =
        λ a q. finished_asks (on_call (quiet (record x { outstanding = None })) x.call a) (answered_asks x a k x.call refl);
    replied = λ drive q call h a r.
        let works : Works call.phase = found_works (answers drive q) call.phase a r.awaits in
        finished_asks (moved (quiet x) call.op (replied h call.op call.phase a q))
        (dealt call.op call.phase h (replied h call.op call.phase a q) r.call_is works r.held
        (replied_works h call.op call.phase a q works) (replied_file h call.op call.phase a q));
    unheld = finished_asks (quiet x) k;
    recalled = λ q is. finished_asks (obeys x q) (alike x _ refl refl refl k);
    unmatched = λ q is. finished_asks (no_match x q) k;
    timed = λ j call h a xs r.
        let works : Works call.phase = awaits_works j call.phase a xs r.awaits in
        finished_asks (moved (quiet x) call.op (timed_out h call.op call.phase j a xs))
        (dealt call.op call.phase h (timed_out h call.op call.phase j a xs) r.call_is works r.held
        (timed_out_works h call.op call.phase j a xs works) (timed_out_file h call.op call.phase j a xs));
    leaves = λ is. finished_asks (quiet (record x { due = all_due x.due x.held })) (alike x _ refl refl refl k);
    resends = λ is. k;
  }

  step_asks : (i : Input) → AsksFor (step x i).client
  step_asks i = each_turn x i (λ t. AsksFor t.client) (cases i)

-- ---- at each moment

new_asks : (number : ℕ) → AsksFor (new_client number 1)
new_asks number = no_call (new_client number 1) refl (λ r e. absurd (cc e)) (λ r e back. absurd (cc e))

always_asks : IsKeptByClients (λ n x. AsksFor x)
always_asks = record {
  more = λ n k x a. a;
  made = λ n number. new_asks number;
  steps = λ n x i number wrote logged a. step_asks x a i;
}

-- At each moment each client has asked what its call waits for.
pub clients_ask_for : ClientsAskFor
clients_ask_for w reached c = by_client (at_number w.clients c) refl
  where
    by_client : (o : Option ClientAt) → at_number w.clients c ≡ o → AsksFor (state_of c o)
    by_client None found = new_asks c
    by_client (Some a) found = clients_always (λ n x. AsksFor x) always_asks w reached c a found
