-- What a client's step does to the sizes that it knows, and to its LAYOUTCOMMIT.
use Rattle.std.proofs.Common.{◌≡◌, ◌≢◌, ℕ, Bool, List, ◌∷◌, Option, Some, None, find, inl, inr, refl, sym, ap, subst, ◌∙◌}
use Rattle.layout_ops.specs.declared.messages.Answer.{Answer}
use Rattle.world_history.specs.ClientNames.{Client, Call, CallOp, Held, Due, Awaited, TimedOut, Request, Need, First, Get, Commit, Report, Close, Phase, Starts, Needs, Waits, Reads, Probes, Gathers, Scatters, Turn, Goes, Ends, Forgets, Moved, Done}
use Rattle.client_rules.specs.Calls.{file_of}
use Rattle.client_rules.specs.Commands.{of_component}
use Rattle.client_rules.specs.Going.{quiet, by_turn, moved, begins, requests, asks_under, returns, with_held}
use Rattle.client_rules.specs.Grants.{held_of, put_held, without_held}
use Rattle.client_rules.specs.History.{Input, Hears, step}
use Rattle.client_rules.specs.Io.{awaited_in}
use Rattle.client_rules.specs.Messages.{Step, TakesAnswer, finished, on_call, takes}
use Rattle.client_rules.specs.Replies.{answers, replied, timed_out}
use Rattle.client_rules.specs.Requests.{args_of}
use Rattle.exchange_law.proofs.ClientKeeping.{put_read, without_read}
use Rattle.client_rules.proofs.HeldGrants.{held_file}
use Rattle.history_law.specs.Turns.{IsBeginning, TurnCases, FinishCases}
use Rattle.history_law.proofs.Turns.{each_turn, each_finish}
use Rattle.component_law.specs.Sizes.{IsCommit}
use Rattle.component_law.proofs.Kept.{IsKept, replied_kept, timed_out_kept, begins_kept}

-- ---- the outstanding LAYOUTCOMMIT

-- the call waits for it
pub record IsCommitting (r : Request) (o : Option Call) : Type 0 where
  pub op : CallOp
  pub timed : List TimedOut
  pub call : o ≡ Some (record { op = op; phase = Waits (Commit timed) })
  pub file : r.file ≡ file_of op

abbrev pub AskedFine : Option Request → Option Call → Type 0
AskedFine None o = Unit {0}
AskedFine (Some r) o = IsCommit r.args → IsCommitting r o

abbrev NoCommit : Option Request → Type 0
NoCommit None = Unit {0}
NoCommit (Some r) = IsCommit r.args → ⊥

asked_any : (out : Option Request) (o : Option Call) → NoCommit out → AskedFine out o
asked_any None o n = tt
asked_any (Some r) o n = λ is. absurd (n is)

abbrev NotWaiting : Phase → Type 0
NotWaiting (Waits (Commit timed)) = ⊥
NotWaiting p = Unit {0}

-- what is known of the call of a pending one
pub same_call : (a b : Call) → Some a ≡ Some b → a ≡ b
same_call a b e = cc e

none_asked : (out : Option Request) (op : CallOp) (p : Phase) → NotWaiting p
    → AskedFine out (Some (record { op = op; phase = p })) → NoCommit out
none_asked None op p n x = tt
none_asked (Some r) op p n x = λ is.
    let it : IsCommitting r (Some (record { op = op; phase = p })) = x is in
    subst NotWaiting (ap (λ (y : Call). y.phase) (same_call _ _ it.call)) n

none_without : (out : Option Request) → AskedFine out None → NoCommit out
none_without None x = tt
none_without (Some r) x = λ is. absurd (cc (x is).call)

-- ---- the sizes

module _ (P : (file size : ℕ) → Type 0) (o : Option Request) where
  abbrev pub AreSized : List Held → Type 0
  AreSized hs = (file : ℕ) (h : Held) → held_of hs file ≡ Some h → P file h.size

  abbrev pub Stays : Option Request → Type 0
  Stays out = (r : Request) → o ≡ Some r → out ≡ Some r

  pub record IsSized (c : Client) : Type 0 where
    pub helds : AreSized c.held
    pub asked : AskedFine c.outstanding c.call
    pub stays : Stays c.outstanding

  pub put_over : (hs : List Held) (k : Held)
      → ((file : ℕ) (h : Held) → k.file ≢ file → held_of hs file ≡ Some h → P file h.size)
      → P k.file k.size → AreSized (put_held hs k)
  put_over hs k all it f h e = elim (put_read hs k f h e) [
    | inl a ↦ subst (λ (x : Held). P f x.size) a.1 (subst (λ (n : ℕ). P n k.size) a.0 it)
    | inr b ↦ all f h b.0 b.1
  ]

  without_sized : (hs : List Held) (file : ℕ) → AreSized hs → AreSized (without_held hs file)
  without_sized hs file k f h e = k f h (without_read hs file f h e)

  pub turn_sized : (d : Done) (op : CallOp) (t : Turn) → AreSized d.client.held → NoCommit d.client.outstanding
      → Stays d.client.outstanding → IsSized (by_turn d op t).client
  turn_sized d op (Goes p) all none stays = record {
    helds = all;
    asked = asked_any d.client.outstanding _ none;
    stays = stays;
  }
  turn_sized d op (Ends u) all none stays = record {
    helds = all;
    asked = asked_any d.client.outstanding None none;
    stays = stays;
  }
  turn_sized d op (Forgets u) all none stays = record {
    helds = without_sized d.client.held (file_of op) all;
    asked = asked_any d.client.outstanding None none;
    stays = stays;
  }

  moved_sized : (d : Done) (op : CallOp) (h : Held) (m : Moved) → IsSized d.client → NoCommit d.client.outstanding
      → held_of d.client.held (file_of op) ≡ Some h → IsKept h m → IsSized (moved d op m).client
  moved_sized d op h m k none found kept =
      let file : m.held.file ≡ file_of op = kept.file ∙ held_file d.client.held (file_of op) h found in
      let it : P m.held.file m.held.size =
      subst (λ (n : ℕ). P n m.held.size) (sym file)
      (subst (P (file_of op)) (sym kept.size) (k.helds (file_of op) h found)) in
      turn_sized (record (with_held d m.held) { commands = m.sent }) op m.turn
      (put_over d.client.held m.held (λ f x other e. k.helds f x e) it) none k.stays

  -- ---- a request goes out

  new_stays : (out new : Option Request) → out ≡ None → Stays out → Stays new
  new_stays out new none stays r e = absurd (cc (sym none ∙ stays r e))

  asks_sized : (d : Done) (op : CallOp) (need : Need) (h : Option Held) → d.client.outstanding ≡ None
      → IsSized d.client → IsSized (asks_under d op need h).client
  unfolding requests args_of
  asks_sized d op need None e k = record {
    helds = k.helds;
    asked = λ is. absurd is;
    stays = new_stays d.client.outstanding _ e k.stays;
  }
  asks_sized d op First (Some h) e k = record {
    helds = without_sized d.client.held (file_of op) k.helds;
    asked = λ is. absurd is;
    stays = new_stays d.client.outstanding _ e k.stays;
  }
  asks_sized d op (Get tries) (Some h) e k = record {
    helds = k.helds;
    asked = λ is. absurd is;
    stays = new_stays d.client.outstanding _ e k.stays;
  }
  asks_sized d op (Commit timed) (Some h) e k = record {
    helds = k.helds;
    asked = λ is. record { op = op; timed = timed; call = refl; file = refl };
    stays = new_stays d.client.outstanding _ e k.stays;
  }
  asks_sized d op (Report timed) (Some h) e k = record {
    helds = without_sized d.client.held (file_of op) k.helds;
    asked = λ is. absurd is;
    stays = new_stays d.client.outstanding _ e k.stays;
  }
  asks_sized d op (Close u report) (Some h) e k = record {
    helds = without_sized d.client.held (file_of op) k.helds;
    asked = λ is. absurd is;
    stays = new_stays d.client.outstanding _ e k.stays;
  }

  returns_sized : (d : Done) (u : Option Due) → d.client.outstanding ≡ None → IsSized d.client
      → IsSized (returns d u).client
  unfolding requests
  returns_sized d None e k = record { helds = k.helds; asked = k.asked; stays = k.stays }
  returns_sized d (Some u) e k = record {
    helds = without_sized d.client.held u.file k.helds;
    asked = λ is. absurd is;
    stays = new_stays d.client.outstanding _ e k.stays;
  }

  -- ---- to the end of a turn

  none_beginning : (d : Done) (op : CallOp) → IsSized d.client → IsBeginning d.client op → NoCommit d.client.outstanding
  none_beginning d op k is =
      none_asked d.client.outstanding op Starts tt (subst (AskedFine d.client.outstanding) is k.asked)

  abbrev SizedDone : Done → Type 0
  SizedDone d = IsSized d.client

  kept : FinishCases SizedDone
  kept = record {
    needs = λ d op n k is out first. record {
      helds = k.helds;
      asked = asked_any d.client.outstanding _ (none_beginning d op k is);
      stays = k.stays;
    };
    begun = λ d op h k is held covered.
        moved_sized d op h (begins h op) k (none_beginning d op k is) held (begins_kept h op);
    asks = λ d op n h k is out held. asks_sized d op n h out k;
    gives_back = λ d u k none out. returns_sized d u out k;
  }

  pub finished_sized : (d : Done) → IsSized d.client → IsSized (finished d).client
  unfolding finished
  finished_sized d k = each_finish SizedDone kept d k

  -- ---- replies and timeouts

  working : (p : Phase) (f : Awaited → Bool) (a : Awaited) → find f (awaited_in p) ≡ Some a → NotWaiting p
  working (Waits (Commit timed)) f a e = absurd (cc e)
  working (Waits First) f a e = tt
  working (Waits (Get tries)) f a e = tt
  working (Waits (Report timed)) f a e = tt
  working (Waits (Close u report)) f a e = tt
  working Starts f a e = tt
  working (Needs need) f a e = tt
  working (Reads io) f a e = tt
  working (Probes io) f a e = tt
  working (Gathers io) f a e = tt
  working (Scatters io queue) f a e = tt

  timing : (p : Phase) (k : ℕ) (a : Awaited) (xs : List Awaited) → of_component k (awaited_in p) ≡ a ∷ xs
      → NotWaiting p
  unfolding of_component
  timing (Waits (Commit timed)) k a xs e = absurd (cc e)
  timing (Waits First) k a xs e = tt
  timing (Waits (Get tries)) k a xs e = tt
  timing (Waits (Report timed)) k a xs e = tt
  timing (Waits (Close u report)) k a xs e = tt
  timing Starts k a xs e = tt
  timing (Needs need) k a xs e = tt
  timing (Reads io) k a xs e = tt
  timing (Probes io) k a xs e = tt
  timing (Gathers io) k a xs e = tt
  timing (Scatters io queue) k a xs e = tt

-- ---- any step

-- R holds of the client behind a step in which it takes an answer, and of each with the sizes of P
module _ (P : (file size : ℕ) → Type 0) (R : Client → Type 0) (c : Client) (k : IsSized P c.outstanding c)
    (plain : (x : Client) → IsSized P c.outstanding x → R x) where
  -- the client behind an answer
  abbrev pub behind : Answer → Client
  behind a = (finished (on_call (quiet (record c { outstanding = None })) c.call a)).client

  abbrev pub IsGood : Input → Type 0
  IsGood (Hears from m) = (a : Answer) → takes c from m ≡ Some (TakesAnswer a) → R (behind a)
  IsGood i = Unit {0}

  abbrev Keeps : Step → Type 0
  Keeps t = R t.client

  done : (d : Done) → IsSized P c.outstanding d.client → R (finished d).client
  done d it = plain _ (finished_sized P c.outstanding d it)

  none_working : (call : Call) → c.call ≡ Some call → NotWaiting call.phase → NoCommit c.outstanding
  none_working call is n =
      none_asked c.outstanding call.op call.phase n (subst (AskedFine c.outstanding) is k.asked)

  cases : (i : Input) → IsGood i → TurnCases c i Keeps
  cases i good = record {
    rests = plain c k;
    nothing = λ op is e. plain c k;
    called = λ op is none can.
        done _ (record {
          helds = k.helds;
          asked =
              asked_any c.outstanding _ (none_without c.outstanding (subst (AskedFine c.outstanding) none k.asked));
          stays = k.stays;
        });
    answered = λ a is. subst IsGood is.is good a is.takes_it;
    replied = λ drive q call h a is.
        done _ (moved_sized P c.outstanding (quiet c) call.op h (replied h call.op call.phase a q) k
        (none_working call is.call_is (working P c.outstanding call.phase (answers drive q) a is.awaits)) is.held
        (replied_kept h call.op call.phase a q));
    unheld = done (quiet c) k;
    recalled = λ q is. done _ (record { helds = k.helds; asked = k.asked; stays = k.stays });
    unmatched = λ q is. done _ k;
    timed = λ j call h a xs is.
        done _ (moved_sized P c.outstanding (quiet c) call.op h (timed_out h call.op call.phase j a xs) k
        (none_working call is.call_is (timing P c.outstanding call.phase j a xs is.awaits)) is.held
        (timed_out_kept h call.op call.phase j a xs));
    leaves = λ is. done _ (record { helds = k.helds; asked = k.asked; stays = k.stays });
    resends = λ is. plain c k;
  }

  pub step_keeps : (i : Input) → IsGood i → R (step c i).client
  step_keeps i good = each_turn c i Keeps (cases i good)
