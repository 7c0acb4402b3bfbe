-- What is kept goes on with lines that are seen.
use Rattle.std.proofs.Common.{◌≡◌, ℕ, zero, suc, ◌<◌, ◌++◌, ◌∷◌, ◌&&◌, [], List, Bool, true, false, Option, Some, None, length, map, fold, slice_get, slice_set, refl, sym, ap, subst, ◌∙◌, append_assoc, arith, if◌then◌else◌}
use Rattle.std.specs.Prelude.{nat_eq}
use Rattle.std.specs.Cmp.Lexicographic.{pointwise}
use Rattle.std.proofs.lemmas.Bool.Decides.{nat_tests}
use Rattle.std.proofs.lemmas.List.{append-nil}
use Rattle.std.proofs.lemmas.List.Sums.{fold-append}
use Rattle.scenario_text.specs.declared.event.Event.{Event}
use Rattle.scenario_text.specs.declared.event.Event.TheVariants as event
use Rattle.scenario_text.specs.declared.line.Line.{Line}
use Rattle.scenario_text.specs.declared.line.Line.TheVariants as line
use Rattle.world_history.specs.declared.messages.Sent.{Sent}
use Rattle.world_history.specs.declared.summary.Summary.{Summary}
use Rattle.world_history.specs.Reading.{is_drive, arrived, left_out, changed_by, sent_after}
use Rattle.world_history.specs.Guesses.{Guarded, guards, guarded}
use Rattle.world_history.specs.Summing.{counts_line, no_summary, summary_of}
use Rattle.world_watch.specs.Capping.{capped_summary}
use Rattle.world_watch.specs.Sighted.{is_same_at}
use Rattle.world_watch.specs.Guessing.{GuessState, sees}
use Rattle.world_watch.specs.Tied.{Keeps, IsNext, KeepsFirst, KeepsOn}
use Rattle.world_watch.specs.Watching.{sees_all}
use Rattle.world_watch.specs.Laws.{Letter, letter, letters_after, letters_on, letters_in, WatchBegins, WatchGoesOn}

pub watch_begins : KeepsFirst → WatchBegins
watch_begins first = record { guesses = first; summary = refl }

-- ---- messages whose letters begin with those of others

begin_with : (ms sent : List Sent) (more : List Letter) → map letter ms ≡ map letter sent ++ more
    → (k : ℕ) → k < length sent → (d : ℕ) (bytes : List ℕ)
    → is_same_at d bytes (slice_get ms k) ≡ is_same_at d bytes (slice_get sent k)
begin_with ms [] more e k l d bytes = absurd (omega (arith, l))
begin_with [] (x ∷ xs) more e k l d bytes = absurd (cc e)
begin_with (y ∷ ys) (x ∷ xs) more e zero l d bytes =
    let same : letter y ≡ letter x = cc in
    ap (λ (a : Letter). is_drive d a.to && pointwise nat_eq a.bytes bytes) same
begin_with (y ∷ ys) (x ∷ xs) more e (suc k) l d bytes =
    let rest : map letter ys ≡ map letter xs ++ more = cc in
    begin_with ys xs more rest k (omega (arith, l)) d bytes

-- ---- a line more

either_some : (b : Bool) (x ls : List Letter) → (if b then Some x else None) ≡ Some ls → (b ≡ true) × (x ≡ ls)
either_some true x ls e = let same : x ≡ ls = cc in (refl, same)
either_some false x ls e = absurd (cc e)

-- letters behind a line begin with those before it
after_front : (x : List Letter) (l : Line) (z : List Letter) → letters_after x l ≡ Some z
    → (more : List Letter) × (z ≡ x ++ more)
after_front x (line.Message n from to bytes) z e =
    (record { to = to; bytes = bytes } ∷ [], sym (either_some (nat_eq n (length x)) _ z e).1)
after_front x l z e = let same : x ≡ z = cc in ([], sym same ∙ sym (append-nil x))

none_on : (lines : List Line) → fold letters_on None lines ≡ None
none_on [] = refl
none_on (l ∷ lines) = none_on lines

front_by : (x : List Letter) (l : Line) (lines : List Line) (y : List Letter) (o : Option (List Letter))
    → letters_after x l ≡ o → fold letters_on o lines ≡ Some y
    → ((z : List Letter) → fold letters_on (Some z) lines ≡ Some y → (more : List Letter) × (y ≡ z ++ more))
    → (more : List Letter) × (y ≡ x ++ more)
front_by x l lines y None a e rest = absurd (cc (sym (none_on lines) ∙ e))
front_by x l lines y (Some z) a e rest =
    let f : (more : List Letter) × (z ≡ x ++ more) = after_front x l z a in
    let r : (more : List Letter) × (y ≡ z ++ more) = rest z e in
    (f.0 ++ r.0, r.1 ∙ ap (λ (s : List Letter). s ++ r.0) f.1 ∙ append_assoc x f.0 r.0)

front : (lines : List Line) (x y : List Letter) → fold letters_on (Some x) lines ≡ Some y
    → (more : List Letter) × (y ≡ x ++ more)
front [] x y e = let same : x ≡ y = cc in ([], sym same ∙ sym (append-nil x))
front (l ∷ lines) x y e = front_by x l lines y (letters_after x l) refl e (λ z f. front lines z y f)

-- ---- the same of messages

letters_set : (ss : List Sent) (n : ℕ) (x y : Sent) → slice_get ss n ≡ Some x → letter y ≡ letter x
    → map letter (slice_set ss n y) ≡ map letter ss
letters_set [] n x y e q = refl
letters_set (s ∷ ss) zero x y e q =
    let same : s ≡ x = cc in
    ap (λ (a : Letter). a ∷ map letter ss) (q ∙ sym (ap (λ (z : Sent). letter z) same))
letters_set (s ∷ ss) (suc n) x y e q = ap (λ (l : List Letter). letter s ∷ l) (letters_set ss n x y e q)

letters_changed : (ss : List Sent) (n : ℕ) (change : Sent → Sent) → ((x : Sent) → letter (change x) ≡ letter x)
    → (o : Option Sent) → slice_get ss n ≡ o → map letter (changed_by ss n change o) ≡ map letter ss
letters_changed ss n change q None e = refl
letters_changed ss n change q (Some x) e = letters_set ss n x (change x) e (q x)

letters_more : (ss : List Sent) (s : Sent) → map letter (ss ++ s ∷ []) ≡ map letter ss ++ letter s ∷ []
letters_more [] s = refl
letters_more (x ∷ ss) s = ap (λ (l : List Letter). letter x ∷ l) (letters_more ss s)

letters_length : (ss : List Sent) → length (map letter ss) ≡ length ss
letters_length [] = refl
letters_length (x ∷ ss) = ap (λ (n : ℕ). suc n) (letters_length ss)

-- messages go on with a line as their letters do
record GoOn (ss : List Sent) (l : Line) (ls : List Letter) : Type 0 where
  next : IsNext ss l
  letters : map letter (sent_after ss l) ≡ ls

event_on : (ss : List Sent) (e : Event) (ls : List Letter) → map letter ss ≡ ls → GoOn ss (line.Event e) ls
event_on ss (event.DropMessage n) ls q = record {
  next = tt;
  letters = letters_changed ss n left_out (λ x. refl) (slice_get ss n) refl ∙ q;
}
event_on ss e ls q = record { next = tt; letters = q }

go_on : (ss : List Sent) (l : Line) (ls : List Letter) → letters_after (map letter ss) l ≡ Some ls → GoOn ss l ls
go_on ss (line.Event e) ls q = let same : map letter ss ≡ ls = cc in event_on ss e ls same
go_on ss (line.Message n from to bytes) ls q =
    let both : (nat_eq n (length (map letter ss)) ≡ true)
    × (map letter ss ++ record { to = to; bytes = bytes } ∷ [] ≡ ls) = either_some _ _ ls q in
    let test : nat_eq n (length (map letter ss)) ≡ true = both.0 in
    let number : n ≡ length (map letter ss) = grind (arith, nat_tests, test) in
    record { next = number ∙ letters_length ss; letters = letters_more ss _ ∙ both.1 }
go_on ss (line.Delivered n d) ls q =
    let same : map letter ss ≡ ls = cc in
    record { next = tt; letters = letters_changed ss n arrived (λ x. refl) (slice_get ss n) refl ∙ same }
go_on ss l ls q = let same : map letter ss ≡ ls = cc in record { next = tt; letters = same }

-- ---- all lines

one_kept : KeepsOn → (ms : List Sent) (l : Line) (lines : List Line) (g : Guarded) (s : GuessState) → Keeps g s
    → (o : Option (List Letter)) → letters_after (map letter g.sent) l ≡ o
    → fold letters_on o lines ≡ Some (map letter ms)
    → (Keeps (guards g l) (sees s ms l) → fold letters_on (Some (map letter (guards g l).sent)) lines
    ≡ Some (map letter ms) → Keeps (fold guards (guards g l) lines) (sees_all (sees s ms l) ms lines))
    → Keeps (fold guards (guards g l) lines) (sees_all (sees s ms l) ms lines)
one_kept keeps ms l lines g s k None a e rest = absurd (cc (sym (none_on lines) ∙ e))
one_kept keeps ms l lines g s k (Some ls) a e rest =
    let on : GoOn g.sent l ls = go_on g.sent l ls a in
    let f : (more : List Letter) × (map letter ms ≡ map letter g.sent ++ more) =
    front (l ∷ lines) (map letter g.sent) (map letter ms)
    (ap (λ (x : Option (List Letter)). fold letters_on x lines) a ∙ e) in
    rest (keeps g s ms l k (λ i b d bytes. begin_with ms g.sent f.0 f.1 i b d bytes) on.next)
    (ap (λ (x : List Letter). fold letters_on (Some x) lines) on.letters ∙ e)

all_kept : KeepsOn → (ms : List Sent) (lines : List Line) (g : Guarded) (s : GuessState) → Keeps g s
    → fold letters_on (Some (map letter g.sent)) lines ≡ Some (map letter ms)
    → Keeps (fold guards g lines) (sees_all s ms lines)
all_kept keeps ms [] g s k e = k
all_kept keeps ms (l ∷ lines) g s k e =
    one_kept keeps ms l lines g s k (letters_after (map letter g.sent) l) refl e
    (λ k2 e2. all_kept keeps ms lines (guards g l) (sees s ms l) k2 e2)

-- ---- from the first line on

one_told : (l : Line) (h : List Line) (g : Guarded) (x : List Letter) (o : Option (List Letter))
    → letters_after (map letter g.sent) l ≡ o → fold letters_on o h ≡ Some x
    → (fold letters_on (Some (map letter (guards g l).sent)) h ≡ Some x
    → x ≡ map letter (fold guards (guards g l) h).sent) → x ≡ map letter (fold guards (guards g l) h).sent
one_told l h g x None a e rest = absurd (cc (sym (none_on h) ∙ e))
one_told l h g x (Some ls) a e rest =
    rest (ap (λ (y : List Letter). fold letters_on (Some y) h) (go_on g.sent l ls a).letters ∙ e)

told_so : (h : List Line) (g : Guarded) (x : List Letter) → fold letters_on (Some (map letter g.sent)) h ≡ Some x
    → x ≡ map letter (fold guards g h).sent
told_so [] g x e = let same : map letter g.sent ≡ x = cc in sym same
told_so (l ∷ h) g x e =
    one_told l h g x (letters_after (map letter g.sent) l) refl e (λ f. told_so h (guards g l) x f)

-- the letters of the lines so far are those of the messages that are read off them
told_first : (h lines : List Line) (y : List Letter) (o : Option (List Letter)) → letters_in h ≡ o
    → fold letters_on o lines ≡ Some y → fold letters_on (Some (map letter (guarded h).sent)) lines ≡ Some y
told_first h lines y None a e = absurd (cc (sym (none_on lines) ∙ e))
told_first h lines y (Some x) a e =
    ap (λ (z : List Letter). fold letters_on (Some z) lines) (sym (told_so h _ x a)) ∙ e

pub watch_goes_on : KeepsOn → WatchGoesOn
watch_goes_on keeps h lines ms old new w t s =
    let on : fold letters_on (Some (map letter (guarded h).sent)) lines ≡ Some (map letter ms) =
    told_first h lines (map letter ms) (letters_in h) refl (sym (fold-append letters_on (Some []) h lines) ∙ t) in
    record {
      guesses = subst (λ (g : Guarded). Keeps g new.guesses) (sym (fold-append guards _ h lines))
          (subst (λ (g : GuessState). Keeps (fold guards (guarded h) lines) g) (sym s.guesses)
          (all_kept keeps ms lines (guarded h) old.guesses w.guesses on));
      summary = s.summary (summary_of h) w.summary
          ∙ ap (λ (x : Summary). capped_summary x) (sym (fold-append counts_line no_summary h lines));
    }
