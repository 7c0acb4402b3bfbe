-- A client in the middle of a step: the nonces of what it sends lie among those of its grants.
use Rattle.std.specs.List.{AllByRecursion}
use Rattle.std.proofs.Common.{◌≡◌, ◌==◌, ℕ, ◌+◌, ◌^◌, ◌≤◌, ◌<◌, ◌++◌, List, [], ◌∷◌, Option, Some, None, length, map, sym, ap, subst, arith, inl, inr}
use Rattle.std.proofs.lemmas.Bool.{cases_Bool}
use Rattle.std.proofs.lemmas.List.{length-append, length-map}
use Rattle.layout_ops.specs.declared.args.Args.{Args}
use Rattle.layout_ops.specs.declared.args.Args.TheVariants as args
use Rattle.client_rules.specs.Calls.{file_of}
use Rattle.client_rules.specs.Commands.{nonce_at}
use Rattle.client_rules.specs.Grants.{held_of, without_held}
use Rattle.client_rules.specs.Laws.{nonce_of, IsNumbered}
use Rattle.client_rules.specs.Requests.{get_args, args_of, return_args}
use Rattle.client_rules.specs.Going.{with_held, by_turn, moved, begins, begun, held_after, requests, asks_under, returns, progressed}
use Rattle.client_rules.specs.Messages.{Step, to_drive, sends_of, closed, finished}
use Rattle.client_rules.proofs.Numbering.{nonces_rise}
use Rattle.exchange_law.proofs.Rising.{Each, each_range}
use Rattle.history_law.specs.State.{CallOp, Held, Due, Awaited, Need, Turn, Goes, Ends, Forgets, Moved, Done, Outgoing, AnswersRecall, Asks, ToDrive, Request, RecallAnswer}
use Rattle.exchange_law.proofs.PlaceGoing.{put_all, found_all}
use Rattle.exchange_law.proofs.CountAsking.{HeldsCount, FoundCounts, found_counts, put_counts, IsAnew}
use Rattle.exchange_law.proofs.Settled.{BeginsAnew, IsSettled, begins_settled}
use Rattle.history_law.specs.Turns.{IsBeginning}
use Rattle.history_law.proofs.Turns.{each_begin, each_progress}

-- ---- nonces

-- no greater than the first nonce of the last grant, and so many more
abbrev pub IsLow : ℕ → (nonce : ℕ) → Type 0
IsLow n nonce = nonce ≤ 18446744069414584320 + n

abbrev pub AreLow : ℕ → List Awaited → Type 0
AreLow n xs = AllByRecursion (λ (a : Awaited). IsLow n a.command.nonce) xs

-- the number of a grant fits its place
abbrev pub IsNamed : Held → Type 0
IsNamed h = h.number < 2 ^ 32

abbrev pub AreNamed : List Held → Type 0
AreNamed hs = AllByRecursion IsNamed hs

each_low : (n : ℕ) (xs : List Awaited) → Each (IsLow n) (map nonce_of xs) → AreLow n xs
each_low n [] k = tt
each_low n (a ∷ xs) k = (k.0, each_low n xs k.1)

sent_low : (n : ℕ) (h : Held) (m : Moved) → IsNamed h → h.count ≤ n → IsNumbered h m
    → AreLow (n + length m.sent) m.sent
sent_low n h m named low is =
    each_low (n + length m.sent) m.sent
    (subst (Each (IsLow (n + length m.sent))) (sym is.nonces)
    (each_range (IsLow (n + length m.sent)) (nonce_at h h.count + 1) (length m.sent)
    (λ y from to. omega (arith, named, low, to))))

-- ---- held grants

without_named : (hs : List Held) (file : ℕ) → AreNamed hs → AreNamed (without_held hs file)
unfolding without_held
without_named [] file k = tt
without_named (h ∷ hs) file k = elim (cases_Bool (h.file == file)) [
  | inl t ↦ rw t (without_named hs file k.1)
  | inr z ↦ rw z (k.0, without_named hs file k.1)
]

after_named : (hs : List Held) (file : ℕ) (a : Args) → AreNamed hs → AreNamed (held_after hs file a)
after_named hs file (args.LayoutGet a) k = k
after_named hs file (args.LayoutCommit a) k = k
after_named hs file (args.LayoutReturn a) k = without_named hs file k

-- ---- in the middle of a step

-- behind n messages; where its call begins anew it sent no command yet
pub record DoneLow (n : ℕ) (d : Done) : Type 0 where
  pub named : AreNamed d.client.held
  pub sent : AreLow (n + length d.commands) d.commands
  pub anew : IsAnew d.client.call → HeldsCount n d.client.held

-- once its call has begun
pub record IsLeft (n : ℕ) (d : Done) : Type 0 where
  pub named : AreNamed d.client.held
  pub sent : AreLow (n + length d.commands) d.commands

left : (n : ℕ) (d : Done) → DoneLow n d → IsLeft n d
left n d k = record { named = k.named; sent = k.sent }

pub turn_low : (n : ℕ) (d : Done) (op : CallOp) (t : Turn) → AreNamed d.client.held
    → AreLow (n + length d.commands) d.commands → (BeginsAnew t → HeldsCount n d.client.held)
    → DoneLow n (by_turn d op t)
turn_low n d op (Goes p) k s anew = record { named = k; sent = s; anew = anew }
turn_low n d op (Ends o) k s anew = record { named = k; sent = s; anew = λ x. absurd x }
turn_low n d op (Forgets o) k s anew = record {
  named = without_named d.client.held (file_of op) k;
  sent = s;
  anew = λ x. absurd x;
}

pub moved_low : (n : ℕ) (d : Done) (op : CallOp) (h : Held) (m : Moved) → AreNamed d.client.held
    → HeldsCount n d.client.held → IsNamed h → h.count ≤ n → IsNumbered h m → IsSettled m → DoneLow n (moved d op m)
moved_low n d op h m k counts named low is settled =
    let own : IsNamed m.held = omega (arith, is.same, named) in
    turn_low n (record (with_held d m.held) { commands = m.sent }) op m.turn
    (put_all IsNamed d.client.held m.held k own) (sent_low n h m named low is) (λ x.
    let none : length m.sent ≡ 0 = ap (λ (xs : List Awaited). length xs) (settled.none x) in
    put_counts n d.client.held m.held counts (omega (arith, is.counted, none, low)))

-- ---- a call begins

begins_left : (n : ℕ) (d : Done) (op : CallOp) (h : Held) → held_of d.client.held (file_of op) ≡ Some h → IsBeginning d.client op
    → DoneLow n d → IsLeft n (moved d op (begins h op))
begins_left n d op h held is k =
    let counts : HeldsCount n d.client.held = k.anew (subst IsAnew (sym is) tt) in
    let own = found_all IsNamed d.client.held (file_of op) h k.named held in
    let low : h.count ≤ n = subst (FoundCounts n) held (found_counts n d.client.held (file_of op) counts) in
    left n _ (moved_low n d op h (begins h op) k.named counts own.0 low (nonces_rise.begun h op) (begins_settled h op))

begun_left : (n : ℕ) (d : Done) → DoneLow n d → IsLeft n (begun d)
begun_left n d k =
    each_begin d (IsLeft n) (record {
      stays = left n d k;
      needs = λ op x is out first. record { named = k.named; sent = k.sent };
      begun = λ op h is held covered. begins_left n d op h held is k;
    })

-- ---- a request goes out

requests_left : (n : ℕ) (d : Done) (file : ℕ) (a : Args) → IsLeft n d → IsLeft n (requests d file a)
unfolding requests
requests_left n d file a k = record { named = after_named d.client.held file a k.named; sent = k.sent }

asks_left : (n : ℕ) (d : Done) (op : CallOp) (x : Need) (o : Option Held) → IsLeft n d
    → IsLeft n (asks_under d op x o)
asks_left n d op x None k = requests_left n _ (file_of op) (get_args op) (record { named = k.named; sent = k.sent })
asks_left n d op x (Some h) k =
    requests_left n _ (file_of op) (args_of h op x) (record { named = k.named; sent = k.sent })

returns_left : (n : ℕ) (d : Done) (o : Option Due) → IsLeft n d → IsLeft n (returns d o)
returns_left n d None k = record { named = k.named; sent = k.sent }
returns_left n d (Some u) k =
    requests_left n _ u.file (return_args u.number []) (record { named = k.named; sent = k.sent })

progressed_left : (n : ℕ) (d : Done) → IsLeft n d → IsLeft n (progressed d)
progressed_left n d k =
    each_progress d (IsLeft n) (record {
      waits = λ r out. k;
      works = λ call is out. k;
      spent = λ none out zero. k;
      asks = λ op x h is out held. asks_left n d op x h k;
      gives_back = λ u none out some found. returns_left n d u k;
    })

-- ---- what is sent

abbrev pub SendsLow : ℕ → List Outgoing → Type 0
SendsLow n [] = Unit {0}
SendsLow n (ToDrive d x ∷ os) = IsLow n x.nonce × SendsLow n os
SendsLow n (o ∷ os) = SendsLow n os

pub record StepLow (n : ℕ) (s : Step) : Type 0 where
  pub named : AreNamed s.client.held
  pub sends : SendsLow (n + length s.sends) s.sends

pub commands_low : (m n : ℕ) (xs : List Awaited) → m ≤ n → AreLow m xs → SendsLow n (map to_drive xs)
commands_low m n [] l k = tt
commands_low m n (a ∷ xs) l k = (omega (arith, l, k.0), commands_low m n xs l k.1)

requests_low : (n : ℕ) (rs : List Request) (os : List Outgoing) → SendsLow n os → SendsLow n (map Asks rs ++ os)
requests_low n [] os k = k
requests_low n (r ∷ rs) os k = requests_low n rs os k

recalls_low : (n : ℕ) (rs : List RecallAnswer) (os : List Outgoing) → SendsLow n os
    → SendsLow n (map AnswersRecall rs ++ os)
recalls_low n [] os k = k
recalls_low n (r ∷ rs) os k = recalls_low n rs os k

no_fewer : (d : Done) → length d.commands ≤ length (sends_of d)
no_fewer d =
    let cs = map to_drive d.commands in
    omega (
      arith,
      length-append (map AnswersRecall d.recalls) (map Asks d.requests ++ cs),
      length-append (map Asks d.requests) cs,
      length-map d.commands to_drive,
    )

closed_low : (n : ℕ) (d : Done) → IsLeft n d → StepLow n (closed d)
closed_low n d k = record {
  named = k.named;
  sends =
      recalls_low _ d.recalls (map Asks d.requests ++ map to_drive d.commands)
      (requests_low _ d.requests (map to_drive d.commands)
      (commands_low (n + length d.commands) _ d.commands (omega (arith, no_fewer d)) k.sent));
}

pub finished_low : (n : ℕ) (d : Done) → DoneLow n d → StepLow n (finished d)
unfolding finished
finished_low n d k = closed_low n _ (progressed_left n (begun d) (begun_left n d k))
