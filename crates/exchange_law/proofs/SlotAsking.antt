-- A step of a client sends at most one request, with the next number, once none is outstanding.
use Rattle.std.proofs.Common.{◌≡◌, ◌≢◌, ◌≤◌, ◌+◌, ◌⊎◌, ℕ, zero, suc, Bool, true, List, [], ◌∷◌, ◌++◌, Option, Some, None, refl, sym, ap, subst, ◌∙◌, arith, inl, inr, ne_eqb, if◌then◌else◌}
use Rattle.layout_ops.specs.declared.args.Args.{Args}
use Rattle.client_rules.specs.declared.limits.TheConstants.{GREATEST_SEQUENCE}
use Rattle.history_law.specs.State.{Client, Call, CallOp, Held, Due, Need, First, Get, Commit, Report, Close, Phase, Starts, Needs, Waits, Reads, Probes, Gathers, Scatters, Turn, Goes, Ends, Forgets, Moved, Done, Request}
use Rattle.client_rules.specs.Calls.{file_of}
use Rattle.client_rules.specs.Grants.{covers, held_of, without_held}
use Rattle.client_rules.specs.Requests.{get_args, args_of, return_args}
use Rattle.client_rules.specs.Going.{phased, with_held, by_turn, moved, begins, begun, after_number, request_of, held_after, requests, asks_under, returns, due_behind, progressed}
use Rattle.exchange_law.proofs.Few.{rank_behind, IsLate, FewTurn, FewMoved, turn_few, begins_few}
use Rattle.exchange_law.proofs.ClientKeeping.{none_left}
use Rattle.history_law.specs.Turns.{IsBeginning, IsFirstNeed}
use Rattle.history_law.proofs.Turns.{each_begin, each_progress}

-- ---- numbers that are left

-- so many numbers are left from the next one on
abbrev pub HasRoom : (next count : ℕ) → Type 0
HasRoom n k = 1 ≤ k → (1 ≤ n) × (n + k ≤ GREATEST_SEQUENCE + 1)

pub room_less : (n k j : ℕ) → j ≤ k → HasRoom n k → HasRoom n j
room_less n k j less h some =
    let x = h (omega (arith, less, some)) in (x.0, omega (arith, less, x.1))

room_after : (n k : ℕ) → HasRoom n (k + 1) → HasRoom (after_number n) k
room_after n k h some =
    let x = h (omega arith) in
    let below : n ≡ GREATEST_SEQUENCE → ⊥ = λ e. absurd (omega (arith, e, x.1, some)) in
    rw (ne_eqb n GREATEST_SEQUENCE below) (omega arith, omega (arith, x.1))

-- ---- those that a call may need

-- one that begins
abbrev pub rank_at : CallOp → Option Held → ℕ
rank_at op None = 5
rank_at op (Some h) = if covers h op then 2 else 6

-- where the grant goes back that didn't cover the call, none is held
abbrev pub IsGone : List Held → CallOp → Need → Type 0
IsGone hs op First = held_of hs (file_of op) ≡ None
IsGone hs op n = Unit {0}

abbrev pub RoomPhase : List Held → CallOp → (next : ℕ) → Phase → Type 0
RoomPhase hs op n Starts = HasRoom n (rank_at op (held_of hs (file_of op)))
RoomPhase hs op n (Needs need) = HasRoom n (rank_behind need + 1)
RoomPhase hs op n (Waits need) = IsGone hs op need × HasRoom n (rank_behind need)
RoomPhase hs op n p = HasRoom n 2

abbrev pub RoomCall : List Held → (next : ℕ) → Option Call → Type 0
RoomCall hs n None = Unit {0}
RoomCall hs n (Some call) = RoomPhase hs call.op n call.phase

-- ---- a client in the middle of a step

-- it has asked nothing so far
abbrev pub Unasked : (own first : ℕ) → Option Request → Done → Type 0
Unasked own first o d = record {
  number : d.client.number ≡ own;
  next : d.client.next ≡ first;
  outstanding : d.client.outstanding ≡ o;
  requests : d.requests ≡ [];
}

abbrev pub HasRoomFor : Done → Type 0
HasRoomFor d = RoomCall d.client.held d.client.next d.client.call

-- and what its call may still need has numbers
abbrev pub Calm : (own first : ℕ) → Option Request → Done → Type 0
Calm own first o d = Unasked own first o d × HasRoomFor d

-- what it asks: nothing, or one request
abbrev pub AsksNone : (first : ℕ) → Option Request → Client → Type 0
AsksNone first o c = (c.next ≡ first) × (c.outstanding ≡ o)

abbrev pub AsksOne : (own first : ℕ) → Option Request → Client → Type 0
AsksOne own first o c =
    (r : Request) × (o ≡ None) × (1 ≤ first) × (r.client ≡ own) × (r.sequence ≡ first) × (c.next ≡ after_number first)
    × (c.outstanding ≡ Some r)

-- each of these is outstanding then
abbrev pub AreOutstanding : Option Request → List Request → Type 0
AreOutstanding o [] = Unit {0}
AreOutstanding o (r ∷ rs) = (o ≡ Some r) × AreOutstanding o rs

abbrev pub Asked : (own first : ℕ) → Option Request → Done → Type 0
Asked own first o d = record {
  number : d.client.number ≡ own;
  asks : AsksNone first o d.client ⊎ AsksOne own first o d.client;
  requests : AreOutstanding d.client.outstanding d.requests;
  room : HasRoomFor d;
}

-- ---- held grants

module _ (own first : ℕ) (o : Option Request) where
  abbrev U : Done → Type 0
  U d = Unasked own first o d

  abbrev C : Done → Type 0
  C d = Calm own first o d

  abbrev A : Done → Type 0
  A d = Asked own first o d

  -- ---- what becomes of a call

  -- the turn leaves room
  abbrev pub RoomTurn : (n : ℕ) → Turn → Type 0
  RoomTurn n (Goes p) = (hs : List Held) (op : CallOp) → RoomPhase hs op n p
  RoomTurn n t = Unit {0}

  pub by_turn_calm : (d : Done) (op : CallOp) (t : Turn) → U d → RoomTurn d.client.next t → C (by_turn d op t)
  by_turn_calm d op (Goes p) u r = (u, r d.client.held op)
  by_turn_calm d op (Ends x) u r = (u, tt)
  by_turn_calm d op (Forgets x) u r = (u, tt)

  -- two numbers are enough behind what it does with the drives
  late_room : (n : ℕ) (p : Phase) → IsLate p → HasRoom n 2 → (hs : List Held) (op : CallOp) → RoomPhase hs op n p
  late_room n Starts l h hs op = absurd l
  late_room n (Waits need) l h hs op = absurd l
  late_room n (Needs need) l h hs op = room_less n 2 (rank_behind need + 1) (omega (arith, l)) h
  late_room n (Reads io) l h hs op = h
  late_room n (Probes io) l h hs op = h
  late_room n (Gathers io) l h hs op = h
  late_room n (Scatters io queue) l h hs op = h

  few_room : (n : ℕ) (t : Turn) → FewTurn t → HasRoom n 2 → RoomTurn n t
  unfolding FewTurn
  few_room n (Goes p) f h = late_room n p f h
  few_room n (Ends x) f h = tt
  few_room n (Forgets x) f h = tt

  -- the same client but for its call and what it holds
  pub moved_calm : (d : Done) (op : CallOp) (m : Moved) → U d → FewMoved m → HasRoom d.client.next 2 → C (moved d op m)
  moved_calm d op m u f h =
      by_turn_calm (record (with_held d m.held) { commands = m.sent }) op m.turn u
      (few_room d.client.next m.turn (turn_few m f) h)

  -- ---- a call begins

  -- of the numbers that a call needs that begins
  first_room : (n : ℕ) (op : CallOp) (need : Need) (h : Option Held) → IsFirstNeed op need h → HasRoom n (rank_at op h)
      → HasRoom n (rank_behind need + 1)
  first_room n op (Get tries) None first room = subst (λ (k : ℕ). HasRoom n (rank_behind (Get k) + 1)) (sym first) room
  first_room n op (Get tries) (Some h) first room = absurd first
  first_room n op First None first room = absurd first
  first_room n op First (Some h) first room = subst (λ (b : Bool). HasRoom n (if b then 2 else 6)) first room
  first_room n op (Commit timed) h first room = absurd first
  first_room n op (Report timed) h first room = absurd first
  first_room n op (Close u report) h first room = absurd first

  covered_room : (n : ℕ) (op : CallOp) (h : Held) (o : Option Held) → o ≡ Some h → covers h op ≡ true
      → HasRoom n (rank_at op o) → HasRoom n 2
  covered_room n op h o held covered room =
      subst (λ (b : Bool). HasRoom n (if b then 2 else 6)) covered
      (subst (λ (x : Option Held). HasRoom n (rank_at op x)) held room)

  begins_room : (d : Done) (op : CallOp) → C d → IsBeginning d.client op
      → HasRoom d.client.next (rank_at op (held_of d.client.held (file_of op)))
  begins_room d op c is = subst (RoomCall d.client.held d.client.next) is c.1

  begun_calm : (d : Done) → C d → C (begun d)
  begun_calm d c =
      each_begin d C (record {
        stays = c;
        needs = λ op n is out first.
            (c.0, first_room d.client.next op n (held_of d.client.held (file_of op)) first (begins_room d op c is));
        begun = λ op h is held covered.
            moved_calm d op (begins h op) c.0 (begins_few h op)
            (covered_room d.client.next op h (held_of d.client.held (file_of op)) held covered (begins_room d op c is));
      })

  -- ---- a request goes out

  one_request : (d : Done) (file : ℕ) (a : Args) → U d → o ≡ None → 1 ≤ first
      → HasRoomFor (requests d file a) → A (requests d file a)
  unfolding requests
  one_request d file a u free some room = record {
    number = u.number;
    asks =
        inr (request_of d.client file a, free, some, u.number, u.next, ap after_number u.next, refl);
    requests =
        subst (λ (rs : List Request). AreOutstanding (Some (request_of d.client file a)) (rs
        ++ request_of d.client file a ∷ [])) (sym u.requests) (refl, tt);
    room = room;
  }

  none_asked : (d : Done) → C d → A d
  none_asked d c = record {
    number = c.0.number;
    asks = inl (c.0.next, c.0.outstanding);
    requests = subst (AreOutstanding d.client.outstanding) (sym c.0.requests) tt;
    room = c.1;
  }

  gone_behind : (hs : List Held) (op : CallOp) (n : Need) (h : Held)
      → IsGone (held_after hs (file_of op) (args_of h op n)) op n
  unfolding args_of without_held
  gone_behind hs op First h = none_left hs (file_of op)
  gone_behind hs op (Get tries) h = tt
  gone_behind hs op (Commit timed) h = tt
  gone_behind hs op (Report timed) h = tt
  gone_behind hs op (Close outcome report) h = tt

  gone_before : (hs : List Held) (op : CallOp) (n : Need) → held_of hs (file_of op) ≡ None → IsGone hs op n
  gone_before hs op First e = e
  gone_before hs op (Get tries) e = tt
  gone_before hs op (Commit timed) e = tt
  gone_before hs op (Report timed) e = tt
  gone_before hs op (Close outcome report) e = tt

  asks_under_asked : (d : Done) (op : CallOp) (n : Need) (h : Option Held) → held_of d.client.held (file_of op) ≡ h
      → U d
      → o ≡ None → HasRoom d.client.next (rank_behind n + 1) → A (asks_under d op n h)
  unfolding requests
  asks_under_asked d op n None is u free room =
      one_request (phased d op (Waits n)) (file_of op) (get_args op) u free (least d u room)
      (gone_before d.client.held op n is, room_after d.client.next (rank_behind n) room)
    where
      least : (d : Done) → U d → HasRoom d.client.next (rank_behind n + 1) → 1 ≤ first
      least d u room = omega (arith, (room (omega arith)).0, u.next)
  asks_under_asked d op n (Some h) is u free room =
      one_request (phased d op (Waits n)) (file_of op) (args_of h op n) u free (least d u room)
      (gone_behind d.client.held op n h, room_after d.client.next (rank_behind n) room)
    where
      least : (d : Done) → U d → HasRoom d.client.next (rank_behind n + 1) → 1 ≤ first
      least d u room = omega (arith, (room (omega arith)).0, u.next)

  returns_asked : (d : Done) (u : Option Due) → C d → d.client.call ≡ None → o ≡ None → 1 ≤ first → A (returns d u)
  unfolding requests
  returns_asked d None c idle free some = none_asked (record d { client = record d.client { due = [] } }) c
  returns_asked d (Some u) c idle free some =
      one_request (record d { client = record d.client { due = due_behind d.client.held d.client.due } }) u.file
      (return_args u.number []) c.0 free some (subst (RoomCall _ _) (sym idle) tt)

  some_left : (n : ℕ) → n ≢ 0 → n ≡ first → 1 ≤ first
  some_left zero left is = absurd (left refl)
  some_left (suc n) left is = omega (arith, is)

  asked_by : (d : Done) → C d → A (progressed d)
  asked_by d c =
      each_progress d A (record {
        waits = λ r out. none_asked d c;
        works = λ call is out. none_asked d c;
        spent = λ none out left. none_asked d c;
        asks = λ op n h is out held.
            asks_under_asked d op n h held c.0 (sym c.0.outstanding ∙ out)
            (subst (RoomCall d.client.held d.client.next) is c.1);
        gives_back = λ u none out left due.
            returns_asked d u c none (sym c.0.outstanding ∙ out) (some_left d.client.next left c.0.next);
      })

  pub progressed_asked : (d : Done) → C d → A (progressed (begun d))
  progressed_asked d c = asked_by (begun d) (begun_calm d c)
