-- How many messages a history has: no fewer behind more lines, and one more behind each message.
use Rattle.std.specs.List.{AllByRecursion}
use Rattle.std.proofs.Common.{◌≡◌, ℕ, ◌+◌, ◌≤◌, ◌++◌, ◌∷◌, [], List, false, Option, Some, None, length, fold, slice_get, refl, sym, ap, subst, ◌∙◌, arith}
use Rattle.std.proofs.lemmas.Grind.{fold-append}
use Rattle.std.proofs.lemmas.List.{length-append, length-map}
use Rattle.osd_lists.proofs.Slices.{length_set}
use Rattle.scenario_text.specs.declared.event.Event.{Event}
use Rattle.scenario_text.specs.declared.event.Event.TheVariants as event
use Rattle.scenario_text.specs.declared.line.Line.{Line}
use Rattle.scenario_text.specs.declared.line.Line.TheVariants as line
use Rattle.world_history.specs.declared.messages.Sent.{Sent}
use Rattle.world_history.specs.State.{World}
use Rattle.world_history.specs.Laws.{shown}
use Rattle.world_history.specs.Reading.{arrived, left_out, changed_by, sent_after_event, sent_after, sent_in}
use Rattle.history_law.proofs.DriveLines.{sent_read}
use Rattle.history_law.proofs.DriveEvents.{IsRead}
use Rattle.history_law.proofs.Each.{EachBehind}
use Rattle.exchange_law.specs.Text.{AreOfText, AreFew}

pub changed_length : (ss : List Sent) (n : ℕ) (change : Sent → Sent) (o : Option Sent)
    → length (changed_by ss n change o) ≡ length ss
changed_length ss n change None = refl
changed_length ss n change (Some s) = length_set ss n (change s)

pub event_length : (ss : List Sent) (e : Event) → length (sent_after_event ss e) ≡ length ss
event_length ss (event.DropMessage n) = changed_length ss n left_out (slice_get ss n)
event_length ss e = refl

pub line_longer : (ss : List Sent) (l : Line) → length ss ≤ length (sent_after ss l)
line_longer ss (line.Event e) = omega (arith, event_length ss e)
line_longer ss (line.Message n from to bytes) = omega (
  arith,
  length-append ss (record { from = from; to = to; bytes = bytes; delivered = false; dropped = false } ∷ []),
)
line_longer ss (line.Delivered n delivery) = omega (arith, changed_length ss n arrived (slice_get ss n))
line_longer ss l = omega arith

pub lines_longer : (ss : List Sent) (ls : List Line) → length ss ≤ length (fold sent_after ss ls)
lines_longer ss [] = omega arith
lines_longer ss (l ∷ ls) = joined (length ss) _ _ (line_longer ss l) (lines_longer (sent_after ss l) ls)
  where
    joined : (a b c : ℕ) → a ≤ b → b ≤ c → a ≤ c
    joined a b c l m = omega (arith, l, m)

pub longer : (h ls : List Line) → length (sent_in h) ≤ length (sent_in (h ++ ls))
unfolding sent_in
longer h ls =
    subst (λ (ss : List Sent). length (fold sent_after [] h) ≤ length ss) (sym (fold-append sent_after [] h ls))
    (lines_longer (fold sent_after [] h) ls)

-- behind a message there is one more
pub one_longer : (h : List Line) (n : ℕ) (from to : _) (bytes : List ℕ)
    → length (sent_in (h ++ line.Message n from to bytes ∷ [])) ≡ length (sent_in h) + 1
unfolding sent_in
one_longer h n from to bytes =
    ap (λ (ss : List Sent). length ss) (fold-append sent_after [] h (line.Message n from to bytes ∷ []))
    ∙ length-append (fold sent_after [] h) _

-- a front of a history with few messages has few
pub fewer : (h ls : List Line) → AreFew (h ++ ls) → AreFew h
fewer h ls few = joined (length (sent_in h)) _ _ (longer h ls) few
  where
    joined : (a b c : ℕ) → a ≤ b → b ≤ c → a ≤ c
    joined a b c l m = omega (arith, l, m)

-- as many as the world has
pub as_many : (w : World) (h : List Line) → IsRead w h → length (sent_in h) ≡ length w.network.messages
as_many w h r =
    ap (λ (ss : List Sent). length ss) (sent_read w r.injected h r.drives) ∙ length-map w.network.messages shown

-- ---- lines of a text

pub text_front : (xs ys : List Line) → AreOfText (xs ++ ys) → AreOfText xs
text_front [] ys t = tt
text_front (x ∷ xs) ys t = (t.0, text_front xs ys t.1)

pub text_behind : (xs ys : List Line) → AreOfText (xs ++ ys) → AreOfText ys
text_behind [] ys t = t
text_behind (x ∷ xs) ys t = text_behind xs ys t.1

-- ---- lines that are so where few messages were sent before them

pub each_few : (P : Line → Type 0) (before ls : List Line) → (AreFew before → AllByRecursion P ls)
    → EachBehind (λ (h : List Line) (l : Line). AreFew h → P l) before ls
each_few P before [] each = tt
each_few P before (l ∷ ls) each = (
  λ few. (each few).0,
  each_few P (before ++ l ∷ []) ls (λ few. (each (fewer before (l ∷ []) few)).1),
)
