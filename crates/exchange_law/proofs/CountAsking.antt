-- A client in the middle of a step has counted what it sends.
use Rattle.std.specs.List.{AllByRecursion}
use Rattle.std.proofs.Common.{◌≡◌, ◌==◌, ℕ, ◌+◌, ◌≤◌, ◌++◌, Bool, true, false, List, [], ◌∷◌, Option, Some, None, length, nat_lt, refl, ap, subst, arith, inl, inr, if◌then◌else◌, sym}
use Rattle.std.proofs.lemmas.Bool.{cases_Bool}
use Rattle.std.proofs.lemmas.Bool.Decides.{nat_tests}
use Rattle.osd_lists.proofs.Slices.{length_more}
use Rattle.layout_ops.specs.declared.args.Args.{Args}
use Rattle.layout_ops.specs.declared.args.Args.TheVariants as args
use Rattle.client_rules.specs.declared.limits.TheConstants.{GREATEST_SEQUENCE}
use Rattle.history_law.specs.State.{Call, CallOp, Held, Due, Awaited, Need, Turn, Goes, Ends, Forgets, Moved, Done}
use Rattle.client_rules.specs.Calls.{file_of}
use Rattle.client_rules.specs.Grants.{held_of, put_held, without_held}
use Rattle.client_rules.specs.Requests.{get_args, args_of, return_args}
use Rattle.client_rules.specs.Laws.{IsNumbered}
use Rattle.client_rules.specs.Going.{with_held, by_turn, moved, begins, after_number, request_of, held_after, requests, asks_under, returns}
use Rattle.client_rules.proofs.Numbering.{nonces_rise}
use Rattle.exchange_law.proofs.Settled.{BeginsAnew, IsSettled, begins_settled}
use Rattle.history_law.specs.Turns.{IsBeginning, FinishCases}

-- ---- held grants

-- no more commands were sent under any of them
abbrev pub HeldsCount : ℕ → List Held → Type 0
HeldsCount n hs = AllByRecursion (λ (h : Held). h.count ≤ n) hs

pub more_held : (m n : ℕ) (hs : List Held) → m ≤ n → HeldsCount m hs → HeldsCount n hs
more_held m n [] l k = tt
more_held m n (h ∷ hs) l k = (omega (arith, l, k.0), more_held m n hs l k.1)

pub put_counts : (n : ℕ) (hs : List Held) (h : Held) → HeldsCount n hs → h.count ≤ n → HeldsCount n (put_held hs h)
unfolding put_held
put_counts n [] h k l = (l, tt)
put_counts n (g ∷ gs) h k l = elim (cases_Bool (g.file == h.file)) [
  | inl t ↦ rw t (l, k.1)
  | inr f ↦ elim (cases_Bool (nat_lt h.file g.file)) [
    | inl u ↦ rw (f, u) (l, k)
    | inr v ↦ rw (f, v) (k.0, put_counts n gs h k.1 l)
  ]
]

pub without_counts : (n : ℕ) (hs : List Held) (file : ℕ) → HeldsCount n hs → HeldsCount n (without_held hs file)
unfolding without_held
without_counts n [] file k = tt
without_counts n (g ∷ gs) file k = elim (cases_Bool (g.file == file)) [
  | inl t ↦ rw t (without_counts n gs file k.1)
  | inr f ↦ rw f (k.0, without_counts n gs file k.1)
]

after_counts : (n : ℕ) (hs : List Held) (file : ℕ) (a : Args) → HeldsCount n hs → HeldsCount n (held_after hs file a)
after_counts n hs file (args.LayoutGet a) k = k
after_counts n hs file (args.LayoutCommit a) k = k
after_counts n hs file (args.LayoutReturn a) k = without_counts n hs file k

-- the grant on a file
abbrev pub FoundCounts : ℕ → Option Held → Type 0
FoundCounts n None = Unit {0}
FoundCounts n (Some h) = h.count ≤ n

pub found_counts : (n : ℕ) (hs : List Held) (file : ℕ) → HeldsCount n hs → FoundCounts n (held_of hs file)
unfolding held_of
found_counts n [] file k = tt
found_counts n (g ∷ gs) file k = elim (cases_Bool (g.file == file)) [
  | inl t ↦ rw t (k.0)
  | inr f ↦ rw f (found_counts n gs file k.1)
]

-- ---- in the middle of a step

-- the call begins anew
abbrev pub IsAnew : Option Call → Type 0
IsAnew None = ⊥
IsAnew (Some call) = BeginsAnew (Goes call.phase)

-- so many requests were numbered, and where the number is 0, all numbers are used
pub record Numbered (n next : ℕ) : Type 0 where
  pub few : next ≤ n + 1
  pub spent : next ≡ 0 → GREATEST_SEQUENCE ≤ n

-- Behind n messages it sends these requests and commands. Where its call begins anew, it sent no command yet.
pub record DoneCounts (n : ℕ) (d : Done) : Type 0 where
  pub requests : Numbered (n + length d.requests) d.client.next
  pub commands : HeldsCount (n + length d.commands) d.client.held
  pub anew : IsAnew d.client.call → d.commands ≡ []

by_turn_counts : (n : ℕ) (d : Done) (op : CallOp) (t : Turn) → Numbered (n + length d.requests) d.client.next
    → HeldsCount (n + length d.commands) d.client.held → (BeginsAnew t → d.commands ≡ [])
    → DoneCounts n (by_turn d op t)
by_turn_counts n d op (Goes p) r k s = record { requests = r; commands = k; anew = s }
by_turn_counts n d op (Ends o) r k s = record { requests = r; commands = k; anew = λ x. absurd x }
by_turn_counts n d op (Forgets o) r k s = record {
  requests = r;
  commands = without_counts (n + length d.commands) d.client.held (file_of op) k;
  anew = λ x. absurd x;
}

-- where no command was sent yet, and these are
pub moved_counts : (n : ℕ) (d : Done) (op : CallOp) (h : Held) (m : Moved)
    → Numbered (n + length d.requests) d.client.next → HeldsCount n d.client.held → h.count ≤ n → IsNumbered h m
    → IsSettled m → DoneCounts n (moved d op m)
moved_counts n d op h m r k l is s =
    by_turn_counts n (record (with_held d m.held) { commands = m.sent }) op m.turn r
    (put_counts (n + length m.sent) d.client.held m.held
    (more_held n (n + length m.sent) d.client.held (omega arith) k) (omega (arith, l, is.counted))) s.none

pub turned_counts : (n : ℕ) (d : Done) (op : CallOp) (t : Turn) → DoneCounts n d → (BeginsAnew t → ⊥)
    → DoneCounts n (by_turn d op t)
turned_counts n d op t k not = by_turn_counts n d op t k.requests k.commands (λ x. absurd (not x))

-- ---- a call begins

none_yet : (n : ℕ) (d : Done) → d.commands ≡ [] → HeldsCount (n + length d.commands) d.client.held
    → HeldsCount n d.client.held
none_yet n d none k =
    more_held (n + length d.commands) n d.client.held
    (let zero : length d.commands ≡ 0 = ap (λ (xs : List Awaited). length xs) none in omega (arith, zero)) k

-- ---- a request goes out

numbered_on : (n next : ℕ) → Numbered n next → Numbered (n + 1) (after_number next)
numbered_on n next k = either (next == GREATEST_SEQUENCE) refl
  where
    either : (b : Bool) → (next == GREATEST_SEQUENCE) ≡ b → Numbered (n + 1) (if b then 0 else next + 1)
    either true is = record {
      few = omega arith;
      spent =
          λ e. let same : next ≡ GREATEST_SEQUENCE = grind (arith, is, nat_tests) in
          omega (arith, same, k.few);
    }
    either false is = record { few = omega (arith, k.few); spent = λ e. absurd (omega (arith, e)) }

requests_count : (n : ℕ) (d : Done) (file : ℕ) (a : Args) → Numbered (n + length d.requests) d.client.next
    → HeldsCount (n + length d.commands) d.client.held → (IsAnew d.client.call → d.commands ≡ [])
    → DoneCounts n (requests d file a)
unfolding requests
requests_count n d file a r k s = record {
  requests =
      subst (λ (m : ℕ). Numbered m (after_number d.client.next))
      (let more : length (d.requests ++ request_of d.client file a ∷ []) ≡ length d.requests + 1 =
      length_more d.requests (request_of d.client file a) in omega (arith, more))
      (numbered_on (n + length d.requests) d.client.next r);
  commands = after_counts (n + length d.commands) d.client.held file a k;
  anew = s;
}

asks_counts : (n : ℕ) (d : Done) (op : CallOp) (x : Need) (o : Option Held) → DoneCounts n d
    → DoneCounts n (asks_under d op x o)
asks_counts n d op x None k = requests_count n _ (file_of op) (get_args op) k.requests k.commands (λ y. absurd y)
asks_counts n d op x (Some h) k = requests_count n _ (file_of op) (args_of h op x) k.requests k.commands (λ y. absurd y)

returns_counts : (n : ℕ) (d : Done) (o : Option Due) → DoneCounts n d → DoneCounts n (returns d o)
returns_counts n d None k = record { requests = k.requests; commands = k.commands; anew = k.anew }
returns_counts n d (Some u) k =
    requests_count n _ u.file (return_args u.number []) k.requests k.commands k.anew

-- ---- to the end of a step

-- a call that begins has sent no command
begins_counts : (n : ℕ) (d : Done) (op : CallOp) (h : Held) → DoneCounts n d → IsBeginning d.client op
    → held_of d.client.held (file_of op) ≡ Some h → DoneCounts n (moved d op (begins h op))
begins_counts n d op h k is held =
    let none : d.commands ≡ [] = k.anew (subst IsAnew (sym is) tt) in
    let helds : HeldsCount n d.client.held = none_yet n d none k.commands in
    moved_counts n d op h (begins h op) k.requests helds
    (subst (FoundCounts n) held (found_counts n d.client.held (file_of op) helds)) (nonces_rise.begun h op)
    (begins_settled h op)

pub finishes : (n : ℕ) → FinishCases (DoneCounts n)
finishes n = record {
  needs = λ d op x k is out first. record { requests = k.requests; commands = k.commands; anew = λ y. absurd y };
  begun = λ d op h k is held covered. begins_counts n d op h k is held;
  asks = λ d op x h k is out held. asks_counts n d op x h k;
  gives_back = λ d u k none out. returns_counts n d u k;
}
