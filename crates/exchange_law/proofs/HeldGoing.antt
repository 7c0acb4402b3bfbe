-- A client in the middle of a step: its grants, its call and its outcome stay as they should be.
use Rattle.std.proofs.Common.{◌≡◌, ℕ, Bool, true, false, List, Option, Some, None, nat_lt, inl, inr, refl, sym, subst, ◌∙◌, if◌then◌else◌}
use Rattle.world_history.specs.ClientNames.{CallOp, Held, Due, Request, Need, First, Get, Commit, Report, Close, Phase, Needs, Turn, Goes, Ends, Forgets, Moved, Done}
use Rattle.client_rules.specs.declared.limits.TheConstants.{MAX_COUNT}
use Rattle.client_rules.specs.Calls.{file_of}
use Rattle.client_rules.specs.Going.{phased, with_held, by_turn, moved, begins, begun, requests, asks_under, returns, progressed}
use Rattle.client_rules.specs.Grants.{held_of, put_held, without_held, is_for, covers}
use Rattle.client_rules.specs.Messages.{Step, finished}
use Rattle.client_rules.specs.Requests.{args_of}
use Rattle.client_rules.proofs.HeldGrants.{held_file, put_found}
use Rattle.exchange_law.proofs.ClientKeeping.{put_read, without_read}
use Rattle.exchange_law.specs.Calls.{EndsFair, NoGet, NeedFine, Knows, Writes, Passes, PhaseFine, IsCall, CallFine, ClientFine}
use Rattle.exchange_law.proofs.HeldMoving.{IsSame, TurnFine, MoveFine, begins_fine}
use Rattle.history_law.specs.Turns.{IsBeginning, IsNeeding, IsFirstNeed}
use Rattle.history_law.proofs.Turns.{each_begin, each_progress}

pub record StepFine (P : ℕ → Held → Type 0) (K : Knows) (s : Step) : Type 0 where
  pub client : ClientFine P K s.client
  pub outcome : EndsFair s.outcome

-- P stays where a grant stays the same; and K holds of a request with number n, the next that is sent
module _ (P : ℕ → Held → Type 0) (K : Knows) (n : ℕ) where
  pub record Rules : Type 0 where
    pub keeps : (file : ℕ) (h k : Held) → IsSame h k → P file h → P file k
    pub new : (op : CallOp) (need : Need) (r : Request) → r.sequence ≡ n → K op need r

  abbrev pub AreFine : List Held → Type 0
  AreFine hs = (file : ℕ) (h : Held) → held_of hs file ≡ Some h → P file h

  pub record DoneFine (d : Done) : Type 0 where
    pub helds : AreFine d.client.held
    pub call : CallFine K d.client.held d.client.outstanding d.client.call
    pub outcome : EndsFair d.outcome
    pub next : d.client.next ≡ n

  pub without_fine : (hs : List Held) (file : ℕ) → AreFine hs → AreFine (without_held hs file)
  without_fine hs file k f h e = k f h (without_read hs file f h e)

  pub put_fine : (hs : List Held) (k : Held) → AreFine hs → P k.file k → AreFine (put_held hs k)
  put_fine hs k all it f h e = elim (put_read hs k f h e) [
    | inl a ↦ subst (λ (x : Held). P f x) a.1 (subst (λ (x : ℕ). P x k) a.0 it)
    | inr b ↦ all f h b.1
  ]

  -- ---- what becomes of a call

  pub turn_fine : (d : Done) (op : CallOp) (t : Turn) → AreFine d.client.held → IsCall op → EndsFair d.outcome
      → d.client.next ≡ n → NoGet d.client.outstanding
      → TurnFine K d.client.outstanding (held_of d.client.held (file_of op)) op t → DoneFine (by_turn d op t)
  turn_fine d op (Goes p) all is ends next none x = record { helds = all; call = (is, x); outcome = ends; next = next }
  turn_fine d op (Ends u) all is ends next none x = record { helds = all; call = none; outcome = x; next = next }
  turn_fine d op (Forgets u) all is ends next none x = record {
    helds = without_fine d.client.held (file_of op) all;
    call = none;
    outcome = x;
    next = next;
  }

  pub moved_fine : (r : Rules) (d : Done) (op : CallOp) (h : Held) (m : Moved) → AreFine d.client.held → IsCall op
      → EndsFair d.outcome → d.client.next ≡ n → NoGet d.client.outstanding
      → held_of d.client.held (file_of op) ≡ Some h → MoveFine K d.client.outstanding h op m → DoneFine (moved d op m)
  moved_fine r d op h m all is ends next none found x =
      let file : m.held.file ≡ file_of op = x.same.file ∙ held_file d.client.held (file_of op) h found in
      let there : held_of (put_held d.client.held m.held) (file_of op) ≡ Some m.held =
      subst (λ (f : ℕ). held_of (put_held d.client.held m.held) f ≡ Some m.held) file
      (put_found d.client.held m.held) in
      let it : P m.held.file m.held =
      subst (λ (f : ℕ). P f m.held) (sym file) (r.keeps (file_of op) h m.held x.same (all (file_of op) h found)) in
      turn_fine (record (with_held d m.held) { commands = m.sent }) op m.turn (put_fine d.client.held m.held all it) is
      ends next none
      (subst (λ (o : Option Held). TurnFine K d.client.outstanding o op m.turn) (sym there) x.turn)

  -- ---- a call begins

  module _ (r : Rules) where
    phased_fine : (d : Done) (op : CallOp) (p : Phase) → DoneFine d → IsCall op
        → PhaseFine K (held_of d.client.held (file_of op)) d.client.outstanding op p → DoneFine (phased d op p)
    phased_fine d op p k is x = record { helds = k.helds; call = (is, x); outcome = k.outcome; next = k.next }

    for_it : (a b : Bool) → (if a then false else b) ≡ true → b ≡ true
    for_it true b e = absurd (cc e)
    for_it false b e = e

    covered : (h : Held) (op : CallOp) → covers h op ≡ true → is_for h.reach h.size op ≡ true
    unfolding covers
    covered h op e = for_it (nat_lt MAX_COUNT h.count) (is_for h.reach h.size op) e

    first_fine : (op : CallOp) (need : Need) (o : Option Held) → IsFirstNeed op need o → NeedFine o op need
    first_fine op (Get tries) None first = refl
    first_fine op (Get tries) (Some h) first = absurd first
    first_fine op First None first = absurd first
    first_fine op First (Some h) first = tt
    first_fine op (Commit timed) o first = absurd first
    first_fine op (Report timed) o first = absurd first
    first_fine op (Close u report) o first = absurd first

    begins_as : (d : Done) (op : CallOp) → DoneFine d → IsBeginning d.client op → IsCall op × NoGet d.client.outstanding
    begins_as d op k is = subst (CallFine K d.client.held d.client.outstanding) is k.call

    begun_fine : (d : Done) → DoneFine d → DoneFine (begun d)
    begun_fine d k =
        each_begin d DoneFine (record {
          stays = k;
          needs = λ op need is out first.
              phased_fine d op (Needs need) k (begins_as d op k is).0
              (first_fine op need (held_of d.client.held (file_of op)) first, subst NoGet (sym out) tt);
          begun = λ op h is held covers_it.
              let it = begins_as d op k is in
              moved_fine r d op h (begins h op) k.helds it.0 k.outcome k.next it.1 held
              (begins_fine K d.client.outstanding it.1 h op (covered h op covers_it));
        })

    -- ---- a request goes out

    pub record LeftFine (d : Done) : Type 0 where
      pub client : ClientFine P K d.client
      pub outcome : EndsFair d.outcome

    left : (d : Done) → DoneFine d → LeftFine d
    left d k = record { client = record { helds = k.helds; call = k.call }; outcome = k.outcome }

    -- where no grant is held, only a LAYOUTGET is needed
    asks_none : (d : Done) (op : CallOp) (need : Need) → held_of d.client.held (file_of op) ≡ None → DoneFine d
        → IsCall op → NeedFine None op need → LeftFine (asks_under d op need None)
    unfolding requests
    asks_none d op (Get tries) e k is x = record {
      client = record {
        helds = k.helds;
        call = (
          is,
          (
            e,
            record {
              request = _;
              outstanding = refl;
              file_is = refl;
              args_are = refl;
              known = r.new op (Get tries) _ k.next;
            },
          ),
        );
      };
      outcome = k.outcome;
    }
    asks_none d op First e k is x = absurd x
    asks_none d op (Commit timed) e k is x = absurd x.0
    asks_none d op (Report timed) e k is x = absurd x
    asks_none d op (Close u report) e k is x = absurd x.0

    asks_some : (d : Done) (op : CallOp) (need : Need) (h : Held) → held_of d.client.held (file_of op) ≡ Some h
        → DoneFine d → IsCall op → NeedFine (Some h) op need → LeftFine (asks_under d op need (Some h))
    unfolding requests args_of
    asks_some d op First h e k is x = record {
      client = record { helds = without_fine d.client.held (file_of op) k.helds; call = (is, tt) };
      outcome = k.outcome;
    }
    asks_some d op (Get tries) h e k is x = absurd (cc x)
    asks_some d op (Commit timed) h e k is x = record {
      client = record {
        helds = k.helds;
        call = (
          is,
          record {
            writes = subst (λ (o : Option Held). Writes o op) (sym e) x.0;
            passes = subst (λ (o : Option Held). Passes o op) (sym e) x.1;
            held = h;
            holds = e;
            asks = record {
              request = _;
              outstanding = refl;
              file_is = refl;
              args_are = refl;
              known = r.new op (Commit timed) _ k.next;
            };
          },
        );
      };
      outcome = k.outcome;
    }
    asks_some d op (Report timed) h e k is x = record {
      client = record { helds = without_fine d.client.held (file_of op) k.helds; call = (is, tt) };
      outcome = k.outcome;
    }
    asks_some d op (Close u report) h e k is x = record {
      client = record { helds = without_fine d.client.held (file_of op) k.helds; call = (is, (x.1, tt)) };
      outcome = k.outcome;
    }

    asks_fine : (d : Done) (op : CallOp) (need : Need) (o : Option Held) → held_of d.client.held (file_of op) ≡ o
        → DoneFine d → IsCall op → NeedFine o op need → LeftFine (asks_under d op need o)
    asks_fine d op need None e k is x = asks_none d op need e k is x
    asks_fine d op need (Some h) e k is x = asks_some d op need h e k is x

    returns_fine : (d : Done) (o : Option Due) → d.client.call ≡ None → DoneFine d → LeftFine (returns d o)
    unfolding requests
    returns_fine d None e k = record { client = record { helds = k.helds; call = k.call }; outcome = k.outcome }
    returns_fine d (Some u) e k = record {
      client = record {
        helds = without_fine d.client.held u.file k.helds;
        call =
            subst (CallFine K (returns d (Some u)).client.held (returns d (Some u)).client.outstanding) (sym e)
            (tt {0});
      };
      outcome = k.outcome;
    }

    needs_as : (d : Done) (op : CallOp) (need : Need) (o : Option Held) → held_of d.client.held (file_of op) ≡ o
        → DoneFine d → IsNeeding d.client op need → IsCall op × NeedFine o op need
    needs_as d op need o held k is =
        let x : CallFine K d.client.held d.client.outstanding (Some (record { op = op; phase = Needs need })) =
        subst (CallFine K d.client.held d.client.outstanding) is k.call in
        (x.0, subst (λ (h : Option Held). NeedFine h op need) held x.1.0)

    progressed_fine : (d : Done) → DoneFine d → LeftFine (progressed d)
    progressed_fine d k =
        each_progress d LeftFine (record {
          waits = λ q out. left d k;
          works = λ call is out. left d k;
          spent = λ none out zero. left d k;
          asks = λ op need h is out held.
              let x = needs_as d op need h held k is in asks_fine d op need h held k x.0 x.1;
          gives_back = λ u none out some due. returns_fine d u none k;
        })

    pub finished_fine : (d : Done) → DoneFine d → StepFine P K (finished d)
    unfolding finished
    finished_fine d k =
        let l = progressed_fine (begun d) (begun_fine d k) in
        record { client = l.client; outcome = l.outcome }
