-- The messages of some lines that are open from a number on, as messages are delivered and sent.
use Rattle.std.proofs.Common.{◌≡◌, ◌≤◌, ◌++◌, ◌∷◌, ◌&&◌, ◌+◌, ◌-◌, ℕ, zero, suc, Bool, true, false, nat_le, List, [], length, filter, fold, map, append_assoc, Option, Some, None, slice_get, refl, sym, ap, ◌∙◌, arith, inl, inr, if◌then◌else◌}
use Rattle.std.specs.List.{range_with_len}
use Rattle.std.proofs.lemmas.Bool.{cases_Bool}
use Rattle.std.proofs.lemmas.Bool.Decides.{nat_tests}
use Rattle.std.proofs.lemmas.List.{append-nil}
use Rattle.scenario_text.specs.declared.line.Line.{Line}
use Rattle.scenario_text.specs.declared.line.Line.TheVariants as line
use Rattle.world_history.specs.declared.messages.Posted.{Posted}
use Rattle.world_history.specs.declared.messages.Sent.{Sent}
use Rattle.world_history.specs.Plans.{is_pending, pending_from}
use Rattle.world_history.specs.Reading.{arrived, changed_by, changed_at, sent_after}
use Rattle.world_history.specs.Laws.{shown}
use Rattle.history_claims.specs.Delivered.{delivered_in, is_open, is_open_or_new, open_from}
use Rattle.history_claims.proofs.Plainly.{Plain}

-- of messages that are numbered from k on those from `first` on that are open
unfoldable pub opens : (first k : ℕ) → List Sent → List ℕ
opens first k [] = []
opens first k (m ∷ ms) = if nat_le first k && is_open m then k ∷ opens first (k + 1) ms else opens first (k + 1) ms

-- ---- one is delivered

and_false : (b : Bool) → (b && false) ≡ false
and_false true = refl
and_false false = refl

changed_next : (x : Sent) (xs : List Sent) (i : ℕ) → changed_at (x ∷ xs) (suc i) arrived ≡ x ∷ changed_at xs i arrived
changed_next x xs i = by (slice_get xs i)
  where
    by : (o : Option Sent) → changed_by (x ∷ xs) (suc i) arrived o ≡ x ∷ changed_by xs i arrived o
    by None = refl
    by (Some s) = refl

-- what is delivered first is open no more
record IsFirst (first k : ℕ) (ss : List Sent) (n : ℕ) : Type 0 where
  place : ℕ
  number : n ≡ k + place
  goes_on : opens first k ss ≡ n ∷ opens first k (changed_at ss place arrived)

first_open : (first k : ℕ) (ps : List Posted) (n : ℕ) → pending_from first k ps ≡ Some n → IsFirst first k (map shown ps) n
unfolding pending_from opens
first_open first k [] n e = absurd (cc e)
first_open first k (p ∷ ps) n e = elim (cases_Bool (nat_le first k && is_pending p)) [
  | inl t ↦
      let here : Some k ≡ Some n = sym (ap (λ (b : Bool). if b then Some k else pending_from first (k + 1) ps) t) ∙ e in
      let same : k ≡ n = cc here in
      let gone : opens first k (changed_at (map shown (p ∷ ps)) 0 arrived) ≡ opens first (k + 1) (map shown ps) =
      ap (λ (b : Bool). if b then k ∷ opens first (k + 1) (map shown ps) else opens first (k + 1) (map shown ps))
      (and_false (nat_le first k)) in
      record {
        place = 0;
        number = omega (arith, same);
        goes_on =
            ap (λ (b : Bool). if b then k ∷ opens first (k + 1) (map shown ps) else opens first (k + 1) (map shown ps)) t
            ∙ ap (λ (x : ℕ). x ∷ opens first (k + 1) (map shown ps)) same
            ∙ ap (λ (l : List ℕ). n ∷ l) (sym gone);
      }
  | inr f ↦
      let there : pending_from first (k + 1) ps ≡ Some n =
      sym (ap (λ (b : Bool). if b then Some k else pending_from first (k + 1) ps) f) ∙ e in
      let r : IsFirst first (k + 1) (map shown ps) n = first_open first (k + 1) ps n there in
      record {
        place = suc r.place;
        number = omega (arith, r.number);
        goes_on =
            ap (λ (b : Bool). if b then k ∷ opens first (k + 1) (map shown ps) else opens first (k + 1) (map shown ps)) f
            ∙ r.goes_on
            ∙ ap (λ (l : List ℕ). n ∷ l)
            (sym (ap (opens first k) (changed_next (shown p) (map shown ps) r.place)
            ∙ ap (λ (b : Bool). if b then k ∷ opens first (k + 1) (changed_at (map shown ps) r.place arrived)
            else opens first (k + 1) (changed_at (map shown ps) r.place arrived)) f));
      }
]

-- among all messages
pub next_open : (first : ℕ) (ps : List Posted) (n : ℕ) → pending_from first 0 ps ≡ Some n
    → opens first 0 (map shown ps) ≡ n ∷ opens first 0 (changed_at (map shown ps) n arrived)
next_open first ps n e =
    let r : IsFirst first 0 (map shown ps) n = first_open first 0 ps n e in
    let same : r.place ≡ n = omega (arith, r.number) in
    r.goes_on ∙ ap (λ (j : ℕ). n ∷ opens first 0 (changed_at (map shown ps) j arrived)) same

pub none_open : (first k : ℕ) (ps : List Posted) → pending_from first k ps ≡ None → opens first k (map shown ps) ≡ []
unfolding pending_from opens
none_open first k [] e = refl
none_open first k (p ∷ ps) e = elim (cases_Bool (nat_le first k && is_pending p)) [
  | inl t ↦ absurd (cc (sym (ap (λ (b : Bool). if b then Some k else pending_from first (k + 1) ps) t) ∙ e))
  | inr f ↦
      ap (λ (b : Bool). if b then k ∷ opens first (k + 1) (map shown ps) else opens first (k + 1) (map shown ps)) f
      ∙ none_open first (k + 1) ps
      (sym (ap (λ (b : Bool). if b then Some k else pending_from first (k + 1) ps) f) ∙ e)
]

-- ---- further ones are sent

abbrev pub AreOpen : List Sent → Type 0
AreOpen [] = Unit {0}
AreOpen (m ∷ ms) = (is_open m ≡ true) × AreOpen ms

news_open : (first k : ℕ) (ns : List Sent) → AreOpen ns → first ≤ k → opens first k ns ≡ range_with_len k (length ns)
unfolding opens
news_open first k [] o l = refl
news_open first k (m ∷ ns) o l =
    let low : nat_le first k ≡ true = grind (arith, nat_tests, l) in
    ap (λ (b : Bool). if b && is_open m then k ∷ opens first (k + 1) ns else opens first (k + 1) ns) low
    ∙ ap (λ (b : Bool). if b then k ∷ opens first (k + 1) ns else opens first (k + 1) ns) o.0
    ∙ ap (λ (xs : List ℕ). k ∷ xs) (news_open first (k + 1) ns o.1 (omega (arith, l)))

pub more_open : (first k : ℕ) (ss ns : List Sent) → AreOpen ns → first ≤ k + length ss
    → opens first k (ss ++ ns) ≡ opens first k ss ++ range_with_len (k + length ss) (length ns)
unfolding opens
more_open first k [] ns o l =
    let place : k ≡ k + 0 = omega arith in
    news_open first k ns o (omega (arith, l)) ∙ ap (λ (j : ℕ). range_with_len j (length ns)) place
more_open first k (m ∷ ss) ns o l =
    let there : first ≤ k + 1 + length ss = omega (arith, l) in
    let place : k + 1 + length ss ≡ k + suc (length ss) = omega arith in
    let rest : opens first (k + 1) (ss ++ ns) ≡ opens first (k + 1) ss ++ range_with_len (k + suc (length ss)) (length ns) =
    more_open first (k + 1) ss ns o there
    ∙ ap (λ (j : ℕ). opens first (k + 1) ss ++ range_with_len j (length ns)) place in
    by (nat_le first k && is_open m) rest
  where
    by : (b : Bool)
        → opens first (k + 1) (ss ++ ns) ≡ opens first (k + 1) ss ++ range_with_len (k + suc (length ss)) (length ns)
        → (if b then k ∷ opens first (k + 1) (ss ++ ns) else opens first (k + 1) (ss ++ ns))
        ≡ (if b then k ∷ opens first (k + 1) ss else opens first (k + 1) ss)
        ++ range_with_len (k + suc (length ss)) (length ns)
    by true e = ap (λ (xs : List ℕ). k ∷ xs) e
    by false e = e

-- ---- plain lines

-- nothing is delivered in them, and they may send
pub record Sends (ls : List Line) : Type 0 where
  pub news : List Sent
  pub are_open : AreOpen news
  pub none : delivered_in ls ≡ []
  pub reads : (ss : List Sent) → fold sent_after ss ls ≡ ss ++ news

pub plain_sends : (ls : List Line) → Plain ls → Sends ls
unfolding delivered_in
plain_sends [] b = record { news = []; are_open = tt; none = refl; reads = λ ss. sym (append-nil ss) }
plain_sends (line.Event e ∷ ls) b = absurd b.0
plain_sends (line.Delivered n d ∷ ls) b = absurd b.0
plain_sends (line.Message n from to bytes ∷ ls) b =
    let r : Sends ls = plain_sends ls b.1 in
    let m : Sent = record { from = from; to = to; bytes = bytes; delivered = false; dropped = false } in
    record {
      news = m ∷ r.news;
      are_open = (refl, r.are_open);
      none = r.none;
      reads = λ ss. r.reads (ss ++ m ∷ []) ∙ append_assoc ss (m ∷ []) r.news;
    }
plain_sends (l ∷ ls) b =
    let r : Sends ls = plain_sends ls b.1 in
    record { news = r.news; are_open = r.are_open; none = r.none; reads = λ ss. r.reads ss }

-- ---- what was open when an event began

pub range_more : (a m n : ℕ) → range_with_len a (m + n) ≡ range_with_len a m ++ range_with_len (a + m) n
range_more a zero n =
    let same : a ≡ a + 0 = omega arith in
    let long : 0 + n ≡ n = omega arith in
    ap (range_with_len a) long ∙ ap (λ (j : ℕ). range_with_len j n) same
range_more a (suc m) n =
    let place : a + 1 + m ≡ a + suc m = omega arith in
    let long : suc m + n ≡ suc (m + n) = omega arith in
    ap (range_with_len a) long
    ∙ ap (λ (xs : List ℕ). a ∷ xs)
    (range_more (a + 1) m n ∙ ap (λ (j : ℕ). range_with_len (a + 1) m ++ range_with_len j n) place)

filter_more : (p : ℕ → Bool) (xs ys : List ℕ) → filter p (xs ++ ys) ≡ filter p xs ++ filter p ys
filter_more p [] ys = refl
filter_more p (x ∷ xs) ys = by (p x) (filter_more p xs ys)
  where
    by : (b : Bool) → filter p (xs ++ ys) ≡ filter p xs ++ filter p ys
        → (if b then x ∷ filter p (xs ++ ys) else filter p (xs ++ ys))
        ≡ (if b then x ∷ filter p xs else filter p xs) ++ filter p ys
    by true e = ap (λ (l : List ℕ). x ∷ l) e
    by false e = e

none_there : (ss : List Sent) (n : ℕ) → length ss ≤ n → slice_get ss n ≡ None
none_there [] n l = refl
none_there (s ∷ ss) zero l = absurd (omega (arith, l))
none_there (s ∷ ss) (suc n) l = none_there ss n (omega (arith, l))

filter_all : (ss : List Sent) (a n : ℕ) → length ss ≤ a
    → filter (λ (j : ℕ). is_open_or_new (slice_get ss j)) (range_with_len a n) ≡ range_with_len a n
filter_all ss a zero l = refl
filter_all ss a (suc n) l =
    ap (λ (o : Option Sent). if is_open_or_new o then a ∷ filter (λ (j : ℕ). is_open_or_new (slice_get ss j))
    (range_with_len (a + 1) n) else filter (λ (j : ℕ). is_open_or_new (slice_get ss j)) (range_with_len (a + 1) n))
    (none_there ss a l)
    ∙ ap (λ (xs : List ℕ). a ∷ xs) (filter_all ss (a + 1) n (omega (arith, l)))

-- as further messages are sent
pub open_more : (ss : List Sent) (count n : ℕ) → length ss ≤ count
    → open_from ss 0 (count + n) ≡ open_from ss 0 count ++ range_with_len count n
open_more ss count n l =
    let long : count + n - 0 ≡ (count - 0) + n = omega arith in
    let place : 0 + (count - 0) ≡ count = omega arith in
    ap (λ (j : ℕ). filter (λ (i : ℕ). is_open_or_new (slice_get ss i)) (range_with_len 0 j)) long
    ∙ ap (filter (λ (i : ℕ). is_open_or_new (slice_get ss i))) (range_more 0 (count - 0) n)
    ∙ filter_more (λ (i : ℕ). is_open_or_new (slice_get ss i)) (range_with_len 0 (count - 0)) (range_with_len (0 + (count - 0)) n)
    ∙ ap (λ (xs : List ℕ). open_from ss 0 count ++ xs)
    (ap (λ (j : ℕ). filter (λ (i : ℕ). is_open_or_new (slice_get ss i)) (range_with_len j n)) place
    ∙ filter_all ss count n l)

-- at first they are those that are open
open_at : (whole ss : List Sent) (k : ℕ) → ((i : ℕ) → slice_get whole (k + i) ≡ slice_get ss i)
    → filter (λ (j : ℕ). is_open_or_new (slice_get whole j)) (range_with_len k (length ss)) ≡ opens 0 k ss
unfolding opens
open_at whole [] k same = refl
open_at whole (s ∷ ss) k same =
    let here : slice_get whole k ≡ Some s =
    let place : k ≡ k + 0 = omega arith in ap (slice_get whole) place ∙ same 0 in
    let low : nat_le 0 k ≡ true = grind (arith, nat_tests) in
    let rest : filter (λ (j : ℕ). is_open_or_new (slice_get whole j)) (range_with_len (k + 1) (length ss))
    ≡ opens 0 (k + 1) ss =
    open_at whole ss (k + 1) (λ i.
    let place : k + 1 + i ≡ k + suc i = omega arith in ap (slice_get whole) place ∙ same (suc i)) in
    ap (λ (o : Option Sent). if is_open_or_new o then k ∷ filter (λ (j : ℕ). is_open_or_new (slice_get whole j))
    (range_with_len (k + 1) (length ss)) else filter (λ (j : ℕ). is_open_or_new (slice_get whole j))
    (range_with_len (k + 1) (length ss))) here
    ∙ ap (λ (xs : List ℕ). if is_open s then k ∷ xs else xs) rest
    ∙ sym (ap (λ (b : Bool). if b && is_open s then k ∷ opens 0 (k + 1) ss else opens 0 (k + 1) ss) low)

pub open_first : (ss : List Sent) → open_from ss 0 (length ss) ≡ opens 0 0 ss
open_first ss =
    let long : length ss - 0 ≡ length ss = omega arith in
    ap (λ (j : ℕ). filter (λ (i : ℕ). is_open_or_new (slice_get ss i)) (range_with_len 0 j)) long
    ∙ open_at ss ss 0 (λ i. let place : 0 + i ≡ i = omega arith in ap (slice_get ss) place)

-- none is from the number on at which the next would be sent
pub none_from : (first k : ℕ) (ss : List Sent) → k + length ss ≤ first → opens first k ss ≡ []
unfolding opens
none_from first k [] l = refl
none_from first k (s ∷ ss) l =
    let low : nat_le first k ≡ false = grind (arith, nat_tests, l) in
    ap (λ (b : Bool). if b && is_open s then k ∷ opens first (k + 1) ss else opens first (k + 1) ss) low
    ∙ none_from first (k + 1) ss (omega (arith, l))
