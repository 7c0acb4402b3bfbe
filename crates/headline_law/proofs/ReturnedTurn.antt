-- A turn of a client: what it returns is a grant that it held, or that it was given in the turn.
-- Towards `ReturnsAreLow` (`specs/Returned.antt`).
use Rattle.std.specs.List.{AllByRecursion}
use Rattle.std.proofs.Common.{◌≡◌, ◌==◌, ◌&&◌, ◌||◌, ℕ, Bool, true, false, List, [], ◌∷◌, Option, Some, None, Result, Ok, Err, find, refl, sym, ap, subst, ◌∙◌, inl, inr, if◌then◌else◌}
use Rattle.std.proofs.lemmas.Bool.{cases_Bool}
use Rattle.osd_lists.proofs.Tests.{same_number}
use Rattle.layout_ops.specs.declared.args.Args.{Args}
use Rattle.layout_ops.specs.declared.args.Args.TheVariants as args
use Rattle.layout_ops.specs.declared.messages.Answer.{Answer}
use Rattle.layout_ops.specs.declared.statuses.TheConstants.{NFS4_OK}
use Rattle.client_rules.specs.Answers.{not_granted, on_commit}
use Rattle.client_rules.specs.Calls.{file_of}
use Rattle.client_rules.specs.Going.{quiet, phased, moved, by_turn, with_held, begins, begun, held_after, requests, asks_under, is_held, returns, progressed}
use Rattle.client_rules.specs.Grants.{held_of, without_held}
use Rattle.client_rules.specs.History.{Input, step}
use Rattle.client_rules.specs.Layouts.{taken}
use Rattle.client_rules.specs.Messages.{finished, on_call, on_phase, on_need, answered_get, commit_under, obeys, no_match}
use Rattle.client_rules.specs.Replies.{replied, timed_out}
use Rattle.client_rules.specs.Requests.{args_of, get_args, return_args, grant_in, stateid_of}
use Rattle.client_rules.specs.Results.{status_of}
use Rattle.client_rules.specs.Steps.{all_due}
use Rattle.client_rules.proofs.Numbering.{nonces_rise}
use Rattle.world_history.specs.Calm.{returned_in}
use Rattle.world_history.specs.ClientNames.{Client, Call, CallOp, Held, Due, Need, First, Get, Commit, Report, Close, Phase, Starts, Needs, Waits, Reads, Probes, Gathers, Scatters, Turn, Goes, Ends, Forgets, Moved, Done, Request, TimedOut, Why}
use Rattle.history_law.specs.Turns.{with_start, AnswerComes, TurnCases}
use Rattle.history_law.proofs.Turns.{each_turn, each_begin, each_progress}
use Rattle.exchange_law.proofs.PlaceGoing.{put_all, found_all}

-- ---- what is known of a client

module _ (P : ℕ → Type 0) where
  -- P holds of the number of a grant
  abbrev HasNumber : Held → Type 0
  HasNumber h = P h.number

  -- P holds of the grant that is returned, if one is
  abbrev pub ReturnsSo : Args → Type 0
  ReturnsSo a = (n : ℕ) → returned_in a ≡ Some n → P n

  -- P holds of each grant that is held, and of what the outstanding request returns
  abbrev pub IsKnown : Client → Type 0
  IsKnown c = record {
    helds : AllByRecursion HasNumber c.held;
    outstanding : (r : Request) → c.outstanding ≡ Some r → ReturnsSo r.args;
  }

pub known_on : (P Q : ℕ → Type 0) → ((n : ℕ) → P n → Q n) → (c : Client) → IsKnown P c → IsKnown Q c
known_on P Q on c k = record {
  helds = all c.held k.helds;
  outstanding = λ r out n e. on n (k.outstanding r out n e);
}
  where
    all : (hs : List Held) → AllByRecursion (HasNumber P) hs → AllByRecursion (HasNumber Q) hs
    all [] a = tt
    all (h ∷ hs) a = (on h.number a.0, all hs a.1)

-- ---- what is due is held

due_number : (P : ℕ → Type 0) (hs : List Held) (u : Due) → AllByRecursion (HasNumber P) hs → is_held hs u ≡ true →
    P u.number
due_number P [] u k e = absurd (cc e)
due_number P (h ∷ hs) u k e =
    either (h.file == u.file) (h.number == u.number) refl (λ f. due_number P hs u k.1 f) e
  where
    either : (a b : Bool) → (h.number == u.number) ≡ b → (is_held hs u ≡ true → P u.number) →
        ((a && b) || is_held hs u) ≡ true → P u.number
    either true true is rest f = subst P (same_number h.number u.number is) k.0
    either true false is rest f = rest f
    either false b is rest f = rest f

found_due : (hs : List Held) (us : List Due) (u : Due) → find (is_held hs) us ≡ Some u → is_held hs u ≡ true
found_due hs [] u e = absurd (cc e)
found_due hs (x ∷ us) u e = elim (cases_Bool (is_held hs x)) [
  | inl there ↦ let same : x ≡ u = cc (rw there at e) in subst (λ (z : Due). is_held hs z ≡ true) same there
  | inr gone ↦ found_due hs us u (rw gone at e)
]

-- ---- a turn

-- P holds of a number that a LAYOUTRETURN names, where it holds of the grant's
module _ (P : ℕ → Type 0) (named : (n : ℕ) → P n → P (grant_in (stateid_of n))) where
  abbrev Known : Client → Type 0
  Known c = IsKnown P c

  abbrev AllHave : List Held → Type 0
  AllHave hs = AllByRecursion (HasNumber P) hs

  without_have : (hs : List Held) (file : ℕ) → AllHave hs → AllHave (without_held hs file)
  unfolding without_held
  without_have [] file k = tt
  without_have (h ∷ hs) file k = elim (cases_Bool (h.file == file)) [
    | inl here ↦ rw here (without_have hs file k.1)
    | inr other ↦ rw other (k.0, without_have hs file k.1)
  ]

  after_have : (hs : List Held) (file : ℕ) (a : Args) → AllHave hs → AllHave (held_after hs file a)
  after_have hs file (args.LayoutGet a) k = k
  after_have hs file (args.LayoutCommit a) k = k
  after_have hs file (args.LayoutReturn a) k = without_have hs file k

  -- ---- a request goes out

  it_names : (number n : ℕ) → P number → Some (grant_in (stateid_of number)) ≡ Some n → P n
  it_names number n p e =
      let same : grant_in (stateid_of number) ≡ n = cc e in
      subst P same (named number p)

  needs_known : (h : Held) (op : CallOp) (need : Need) → P h.number → ReturnsSo P (args_of h op need)
  unfolding args_of
  needs_known h op First p n e = it_names h.number n p e
  needs_known h op (Get tries) p n e = absurd (cc e)
  needs_known h op (Commit timed) p n e = absurd (cc e)
  needs_known h op (Report timed) p n e = it_names h.number n p e
  needs_known h op (Close outcome report) p n e = it_names h.number n p e

  requests_known : (d : Done) (file : ℕ) (a : Args) → ReturnsSo P a → Known d.client → Known (requests d file a).client
  unfolding requests
  requests_known d file a so k = record {
    helds = after_have d.client.held file a k.helds;
    outstanding = λ r out n e.
        let same : a ≡ r.args = own r out in
        so n (ap returned_in same ∙ e);
  }
    where
      own : (r : Request) → (requests d file a).client.outstanding ≡ Some r → a ≡ r.args
      own r out = cc out

  asks_known : (d : Done) (op : CallOp) (need : Need) (o : Option Held) → held_of d.client.held (file_of op) ≡ o →
      Known d.client → Known (asks_under d op need o).client
  asks_known d op need None held k =
      requests_known (phased d op (Waits need)) (file_of op) (get_args op) (λ n e. absurd (cc e)) k
  asks_known d op need (Some h) held k =
      requests_known (phased d op (Waits need)) (file_of op) (args_of h op need)
      (needs_known h op need (found_all (HasNumber P) d.client.held (file_of op) h k.helds held).0) k

  returns_known : (d : Done) (o : Option Due) → find (is_held d.client.held) d.client.due ≡ o → Known d.client →
      Known (returns d o).client
  returns_known d None found k = k
  returns_known d (Some u) found k =
      requests_known _ u.file (return_args u.number [])
      (λ n e. it_names u.number n
      (due_number P d.client.held u k.helds (found_due d.client.held d.client.due u found)) e) k

  progressed_known : (d : Done) → Known d.client → Known (progressed d).client
  progressed_known d k = each_progress d (λ e. Known e.client) (record {
    waits = λ r out. k;
    works = λ call is out. k;
    spent = λ idle out z. k;
    asks = λ op n o is out held. asks_known d op n o held k;
    gives_back = λ u idle out left found. returns_known d u found k;
  })

  -- ---- a call goes on

  turn_known : (d : Done) (op : CallOp) (t : Turn) → Known d.client → Known (by_turn d op t).client
  turn_known d op (Goes p) k = k
  turn_known d op (Ends o) k = k
  turn_known d op (Forgets o) k = record {
    helds = without_have d.client.held (file_of op) k.helds;
    outstanding = k.outstanding;
  }

  moved_known : (d : Done) (op : CallOp) (h : Held) (m : Moved) → held_of d.client.held (file_of op) ≡ Some h →
      m.held.number ≡ h.number → Known d.client → Known (moved d op m).client
  moved_known d op h m held same k =
      turn_known (record (with_held d m.held) { commands = m.sent }) op m.turn (record {
        helds = put_all (HasNumber P) d.client.held m.held k.helds
            (subst P (sym same) (found_all (HasNumber P) d.client.held (file_of op) h k.helds held).0);
        outstanding = k.outstanding;
      })

  begun_known : (d : Done) → Known d.client → Known (begun d).client
  begun_known d k = each_begin d (λ e. Known e.client) (record {
    stays = k;
    needs = λ op n is out first. k;
    begun = λ op h is held cover. moved_known d op h (begins h op) held (nonces_rise.begun h op).same k;
  })

  finished_known : (d : Done) → Known d.client → Known (finished d).client
  unfolding finished
  finished_known d k = progressed_known (begun d) (begun_known d k)

  -- ---- whatever comes

  -- P holds of what the client is given
  module _ (x : Client) (i : Input) (k : Known x)
      (given : (a : Answer) → AnswerComes x i a → (op : CallOp) (h : Held) → taken a op ≡ Ok h → P h.number) where
    module _ (a : Answer) (q : AnswerComes x i a) where
      abbrev freed : Done
      freed = quiet (record x { outstanding = None })

      free : Known freed.client
      free = record { helds = k.helds; outstanding = λ r out. absurd (cc out) }

      got : (op : CallOp) (r : Result Held Why) → taken a op ≡ r → Known (answered_get freed op r).client
      got op (Err why) is = free
      got op (Ok h) is = record {
        helds = put_all (HasNumber P) x.held h k.helds (given a q op h is);
        outstanding = free.outstanding;
      }

      get : (op : CallOp) (tries : ℕ) (b : Bool) →
          Known (if b then answered_get freed op (taken a op) else by_turn freed op (not_granted a tries)).client
      get op tries true = got op (taken a op) refl
      get op tries false = turn_known freed op (not_granted a tries) free

      commit : (op : CallOp) (timed : List TimedOut) (o : Option Held) → held_of x.held (file_of op) ≡ o →
          Known (commit_under freed op a (Commit timed) o).client
      commit op timed None held = free
      commit op timed (Some h) held =
          moved_known freed op h (on_commit h op a timed) held (nonces_rise.committed h op a timed).same free

      by_need : (op : CallOp) (need : Need) → Known (on_need freed op need a).client
      by_need op First = free
      by_need op (Get tries) = get op tries (status_of a.results == NFS4_OK)
      by_need op (Commit timed) = commit op timed (held_of x.held (file_of op)) refl
      by_need op (Report timed) = free
      by_need op (Close u report) = free

      by_phase : (op : CallOp) (p : Phase) → Known (on_phase freed op p a).client
      by_phase op (Waits need) = by_need op need
      by_phase op Starts = free
      by_phase op (Needs need) = free
      by_phase op (Reads io) = free
      by_phase op (Probes io) = free
      by_phase op (Gathers io) = free
      by_phase op (Scatters io queue) = free

      answered_known : (o : Option Call) → Known (on_call freed o a).client
      answered_known None = free
      answered_known (Some call) = by_phase call.op call.phase

    cases : TurnCases x i (λ t. Known t.client)
    cases = record {
      rests = k;
      nothing = λ op is empty. k;
      called = λ op is none can. finished_known (quiet (with_start x op)) k;
      answered = λ a q.
          finished_known (on_call (quiet (record x { outstanding = None })) x.call a) (answered_known a q x.call);
      replied = λ drive q call h a r.
          finished_known (moved (quiet x) call.op (replied h call.op call.phase a q))
          (moved_known (quiet x) call.op h (replied h call.op call.phase a q) r.held
          (nonces_rise.replied h call.op call.phase a q).same k);
      unheld = finished_known (quiet x) k;
      recalled = λ q is. finished_known (obeys x q) k;
      unmatched = λ q is. finished_known (no_match x q) k;
      timed = λ n call h a xs r.
          finished_known (moved (quiet x) call.op (timed_out h call.op call.phase n a xs))
          (moved_known (quiet x) call.op h (timed_out h call.op call.phase n a xs) r.held
          (nonces_rise.timed h call.op call.phase n a xs).same k);
      leaves = λ is. finished_known (quiet (record x { due = all_due x.due x.held })) k;
      resends = λ is. k;
    }

    pub step_known : Known (step x i).client
    step_known = each_turn x i (λ t. Known t.client) cases
