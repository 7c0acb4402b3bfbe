-- Each message of a client to a drive, at each moment, is under a credential that was given to the client before.
use Rattle.std.proofs.Common.{◌≡◌, ℕ, ◌++◌, ◌∷◌, [], List, Option, Some, None, slice_get, slice_set, refl, sym, ap, subst, ◌∙◌, zero, suc, inl, inr, ◌⊎◌, append_assoc}
use Rattle.std.proofs.lemmas.List.{append-nil}
use Rattle.osd_lists.proofs.Slices.{found_more}
use Rattle.scenario_text.specs.declared.event.Event.{Event}
use Rattle.scenario_text.specs.declared.event.Event.TheVariants as event
use Rattle.scenario_text.specs.declared.line.Party.{Party}
use Rattle.scenario_text.specs.declared.line.Party.TheVariants as party
use Rattle.scenario_text.specs.declared.line.Line.{Line}
use Rattle.scenario_text.specs.declared.line.Line.TheVariants as line
use Rattle.world_history.specs.declared.messages.Sent.{Sent}
use Rattle.world_history.specs.Reading.{arrived, left_out, changed_by, sent_after, sent_after_event, sent_in}
use Rattle.history_law.proofs.Each.{EachBehind}
use Rattle.history_law.specs.Granted.{SpellsOwn}
use Rattle.history_law.proofs.Growing.{Grows, line_grows}
use Rattle.history_law.proofs.IssueLines.{Carries, CarriesAt, wider_carries}
use Rattle.history_law.proofs.Coming.{sent_behind}

-- what a client sent to a drive is such, and what the server sent to a client gives it its own
abbrev pub SentCarries : List Sent → Party → Party → List ℕ → Type 0
SentCarries ss (party.Client c) (party.Drive d) bytes = Carries ss c d bytes
SentCarries ss party.Server (party.Client c) bytes = SpellsOwn c bytes
SentCarries ss from to bytes = Unit {0}

abbrev pub AllCarry : List Sent → Type 0
AllCarry ss = (n : ℕ) (m : Sent) → slice_get ss n ≡ Some m → SentCarries ss m.from m.to m.bytes

wider_sent : (ss ts : List Sent) → Grows ss ts → (from to : Party) (bytes : List ℕ) → SentCarries ss from to bytes
    → SentCarries ts from to bytes
wider_sent ss ts g (party.Client c) (party.Drive d) bytes k = wider_carries ss ts g c d bytes k
wider_sent ss ts g (party.Client c) party.Server bytes k = tt
wider_sent ss ts g (party.Client c) (party.Client e) bytes k = tt
wider_sent ss ts g party.Server (party.Client c) bytes k = k
wider_sent ss ts g party.Server party.Server bytes k = tt
wider_sent ss ts g party.Server (party.Drive d) bytes k = tt
wider_sent ss ts g (party.Drive d) to bytes k = tt

-- ---- one line more

-- a message with these parties and bytes was sent
pub record WasIn (ss : List Sent) (m : Sent) : Type 0 where
  pub number : ℕ
  pub old : Sent
  pub there : slice_get ss number ≡ Some old
  pub from_is : old.from ≡ m.from
  pub to_is : old.to ≡ m.to
  pub bytes_are : old.bytes ≡ m.bytes

old_carries : (ss ts : List Sent) → Grows ss ts → AllCarry ss → (m : Sent) → WasIn ss m
    → SentCarries ts m.from m.to m.bytes
old_carries ss ts g all m w =
    wider_sent ss ts g m.from m.to m.bytes
    (subst (λ (p : Party). SentCarries ss p m.to m.bytes) w.from_is
    (subst (λ (p : Party). SentCarries ss w.old.from p m.bytes) w.to_is
    (subst (λ (bytes : List ℕ). SentCarries ss w.old.from w.old.to bytes) w.bytes_are (all w.number w.old w.there))))

pub was_itself : (ss : List Sent) (n : ℕ) (m : Sent) → slice_get ss n ≡ Some m → WasIn ss m
was_itself ss n m found = record {
  number = n;
  old = m;
  there = found;
  from_is = refl;
  to_is = refl;
  bytes_are = refl;
}

pub found_set : (ss : List Sent) (k : ℕ) (s : Sent) (n : ℕ) (m : Sent) → slice_get (slice_set ss k s) n ≡ Some m
    → (slice_get ss n ≡ Some m) ⊎ (s ≡ m)
found_set [] k s n m is = inl is
found_set (x ∷ ss) zero s zero m is = inr (cc is)
found_set (x ∷ ss) zero s (suc n) m is = inl is
found_set (x ∷ ss) (suc k) s zero m is = inl is
found_set (x ∷ ss) (suc k) s (suc n) m is = found_set ss k s n m is

-- a message that is marked
marked_was : (ss : List Sent) (k : ℕ) (s t : Sent) (n : ℕ) (m : Sent) → slice_get ss k ≡ Some s → s.from ≡ t.from
    → s.to ≡ t.to → s.bytes ≡ t.bytes → slice_get (slice_set ss k t) n ≡ Some m → WasIn ss m
marked_was ss k s t n m there from to bytes found = elim (found_set ss k t n m found) [
  | inl old ↦ was_itself ss n m old
  | inr same ↦ record {
    number = k;
    old = s;
    there = there;
    from_is = from ∙ ap (λ (x : Sent). x.from) same;
    to_is = to ∙ ap (λ (x : Sent). x.to) same;
    bytes_are = bytes ∙ ap (λ (x : Sent). x.bytes) same;
  }
]

pub arrived_was : (ss : List Sent) (k : ℕ) (o : Option Sent) (n : ℕ) (m : Sent) → slice_get ss k ≡ o
    → slice_get (changed_by ss k arrived o) n ≡ Some m → WasIn ss m
arrived_was ss k None n m there found = was_itself ss n m found
arrived_was ss k (Some s) n m there found = marked_was ss k s (arrived s) n m there refl refl refl found

left_was : (ss : List Sent) (k : ℕ) (o : Option Sent) (n : ℕ) (m : Sent) → slice_get ss k ≡ o
    → slice_get (changed_by ss k left_out o) n ≡ Some m → WasIn ss m
left_was ss k None n m there found = was_itself ss n m found
left_was ss k (Some s) n m there found = marked_was ss k s (left_out s) n m there refl refl refl found

pub event_was : (ss : List Sent) (e : Event) (n : ℕ) (m : Sent) → slice_get (sent_after_event ss e) n ≡ Some m → WasIn ss m
event_was ss (event.DropMessage k) n m found = left_was ss k (slice_get ss k) n m refl found
event_was ss e n m found = was_itself ss n m found

message_carries : (before : List Line) (from to : Party) (bytes : List ℕ) (n : ℕ)
    → CarriesAt before (line.Message n from to bytes) → SentCarries (sent_in before) from to bytes
message_carries before (party.Client c) (party.Drive d) bytes n k = k
message_carries before (party.Client c) party.Server bytes n k = tt
message_carries before (party.Client c) (party.Client e) bytes n k = tt
message_carries before party.Server (party.Client c) bytes n k = k
message_carries before party.Server party.Server bytes n k = tt
message_carries before party.Server (party.Drive d) bytes n k = tt
message_carries before (party.Drive d) to bytes n k = tt

line_carries : (before : List Line) (l : Line) → AllCarry (sent_in before) → CarriesAt before l
    → AllCarry (sent_after (sent_in before) l)
line_carries before (line.Message k from to bytes) all here n m found =
    let ss = sent_in before in
    let g = line_grows ss (line.Message k from to bytes) in
    elim (found_more ss _ n m found) [
      | inl old ↦ old_carries ss _ g all m (was_itself ss n m old)
      | inr same ↦ subst (λ (x : Sent). SentCarries (sent_after ss (line.Message k from to bytes)) x.from x.to x.bytes)
          same (wider_sent ss _ g from to bytes (message_carries before from to bytes k here))
    ]
line_carries before (line.Event e) all here n m found =
    old_carries (sent_in before) _ (line_grows (sent_in before) (line.Event e)) all m
    (event_was (sent_in before) e n m found)
line_carries before (line.Delivered k del) all here n m found =
    old_carries (sent_in before) _ (line_grows (sent_in before) (line.Delivered k del)) all m
    (arrived_was (sent_in before) k (slice_get (sent_in before) k) n m refl found)
line_carries before l all here n m found = all n m found

-- ---- all lines

lines_carried : (before lines : List Line) → AllCarry (sent_in before) → EachBehind CarriesAt before lines
    → AllCarry (sent_in (before ++ lines))
lines_carried before [] all each = subst (λ (h : List Line). AllCarry (sent_in h)) (sym (append-nil before)) all
lines_carried before (l ∷ lines) all each =
    subst (λ (h : List Line). AllCarry (sent_in h)) (append_assoc before (l ∷ []) lines)
    (lines_carried (before ++ l ∷ []) lines
    (subst AllCarry (sym (sent_behind before l)) (line_carries before l all each.0)) each.1)

none_carry : AllCarry (sent_in [])
unfolding sent_in
none_carry n m found = absurd (cc found)

pub all_carry : (h : List Line) → EachBehind CarriesAt [] h → AllCarry (sent_in h)
all_carry h each = lines_carried [] h none_carry each
