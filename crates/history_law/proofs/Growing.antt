-- What was sent stays, with its parties and its bytes, whatever lines come behind.
use Rattle.std.proofs.Common.{◌≡◌, ℕ, zero, suc, List, [], ◌∷◌, ◌++◌, Option, Some, None, fold, slice_get, slice_set, refl, sym, ap, subst, ◌∙◌}
use Rattle.std.proofs.lemmas.List.Sums.{fold-append}
use Rattle.osd_lists.proofs.Slices.{get_more}
use Rattle.layout_types.specs.declared.cred.ObjectCred.{ObjectCred}
use Rattle.scenario_text.specs.declared.event.Event.{Event}
use Rattle.scenario_text.specs.declared.event.Event.TheVariants as event
use Rattle.scenario_text.specs.declared.line.Line.{Line}
use Rattle.scenario_text.specs.declared.line.Line.TheVariants as line
use Rattle.world_history.specs.declared.messages.Sent.{Sent}
use Rattle.world_history.specs.Reading.{arrived, left_out, changed_by, sent_after_event, sent_after, sent_in}
use Rattle.history_law.specs.Listed.{Lists, WasGiven}

-- message n is the same but for its marks
pub record Stays (ss : List Sent) (n : ℕ) (m : Sent) : Type 0 where
  pub message : Sent
  pub there : slice_get ss n ≡ Some message
  pub from_is : message.from ≡ m.from
  pub to_is : message.to ≡ m.to
  pub bytes_are : message.bytes ≡ m.bytes

abbrev pub Grows : List Sent → List Sent → Type 0
Grows ss ts = (n : ℕ) (m : Sent) → slice_get ss n ≡ Some m → Stays ts n m

pub grows_not : (ss : List Sent) → Grows ss ss
grows_not ss n m found = record { message = m; there = found; from_is = refl; to_is = refl; bytes_are = refl }

pub grows_on : (ss ts us : List Sent) → Grows ss ts → Grows ts us → Grows ss us
grows_on ss ts us g f n m found =
    let s = g n m found in
    let t = f n s.message s.there in
    record {
      message = t.message;
      there = t.there;
      from_is = t.from_is ∙ s.from_is;
      to_is = t.to_is ∙ s.to_is;
      bytes_are = t.bytes_are ∙ s.bytes_are;
    }

pub grows_more : (ss ts : List Sent) → Grows ss (ss ++ ts)
grows_more ss ts n m found = grows_not (ss ++ ts) n m (get_more ss ts n m found)

-- ---- marks

-- a change that leaves the parties and the bytes
record Marks (change : Sent → Sent) : Type 0 where
  from_is : (s : Sent) → (change s).from ≡ s.from
  to_is : (s : Sent) → (change s).to ≡ s.to
  bytes_are : (s : Sent) → (change s).bytes ≡ s.bytes

module _ (change : Sent → Sent) (marks : Marks change) where
  set_stays : (ss : List Sent) (k : ℕ) (s : Sent) (n : ℕ) (m : Sent) → slice_get ss k ≡ Some s → slice_get ss n ≡ Some m
      → Stays (slice_set ss k (change s)) n m
  set_stays [] k s n m there found = absurd (cc found)
  set_stays (x ∷ ss) zero s zero m there found =
      let same : s ≡ m = cc (sym there ∙ found) in
      record {
        message = change s;
        there = refl;
        from_is = marks.from_is s ∙ ap (λ (y : Sent). y.from) same;
        to_is = marks.to_is s ∙ ap (λ (y : Sent). y.to) same;
        bytes_are = marks.bytes_are s ∙ ap (λ (y : Sent). y.bytes) same;
      }
  set_stays (x ∷ ss) zero s (suc n) m there found = record {
    message = m;
    there = found;
    from_is = refl;
    to_is = refl;
    bytes_are = refl;
  }
  set_stays (x ∷ ss) (suc k) s zero m there found = record {
    message = m;
    there = found;
    from_is = refl;
    to_is = refl;
    bytes_are = refl;
  }
  set_stays (x ∷ ss) (suc k) s (suc n) m there found =
      let t = set_stays ss k s n m there found in
      record {
        message = t.message;
        there = t.there;
        from_is = t.from_is;
        to_is = t.to_is;
        bytes_are = t.bytes_are;
      }

  changed_grows : (ss : List Sent) (k : ℕ) (o : Option Sent) → slice_get ss k ≡ o → Grows ss (changed_by ss k change o)
  changed_grows ss k None none n m found = grows_not ss n m found
  changed_grows ss k (Some s) there n m found = set_stays ss k s n m there found

arrives : Marks arrived
arrives = record { from_is = λ s. refl; to_is = λ s. refl; bytes_are = λ s. refl }

leaves_out : Marks left_out
leaves_out = record { from_is = λ s. refl; to_is = λ s. refl; bytes_are = λ s. refl }

-- ---- lines

event_grows : (ss : List Sent) (e : Event) → Grows ss (sent_after_event ss e)
event_grows ss (event.DropMessage n) = changed_grows left_out leaves_out ss n (slice_get ss n) refl
event_grows ss e = grows_not ss

pub line_grows : (ss : List Sent) (l : Line) → Grows ss (sent_after ss l)
line_grows ss (line.Event e) = event_grows ss e
line_grows ss (line.Message n from to bytes) = grows_more ss _
line_grows ss (line.Delivered n del) = changed_grows arrived arrives ss n (slice_get ss n) refl
line_grows ss l = grows_not ss

lines_grow : (ss : List Sent) (ls : List Line) → Grows ss (fold sent_after ss ls)
lines_grow ss [] = grows_not ss
lines_grow ss (l ∷ ls) = grows_on ss (sent_after ss l) _ (line_grows ss l) (lines_grow (sent_after ss l) ls)

pub history_grows : (h ls : List Line) → Grows (sent_in h) (sent_in (h ++ ls))
unfolding sent_in
history_grows h ls =
    subst (Grows (fold sent_after [] h)) (sym (fold-append sent_after [] h ls)) (lines_grow (fold sent_after [] h) ls)

-- ---- what was given stays given

pub still_given : (ss ts : List Sent) (c : ℕ) (o : ObjectCred) → Grows ss ts → WasGiven ss c o → WasGiven ts c o
still_given ss ts c o g w =
    let s = g w.number w.message w.there in
    record {
      number = w.number;
      message = s.message;
      there = s.there;
      sender = s.from_is ∙ w.sender;
      receiver = s.to_is ∙ w.receiver;
      component = w.component;
      lists = subst (λ (bytes : List ℕ). Lists bytes w.component o) (sym s.bytes_are) w.lists;
    }
