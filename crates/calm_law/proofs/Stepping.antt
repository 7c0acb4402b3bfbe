-- What each step of a move and the network behind it tell.
use Rattle.std.proofs.Common.{◌≡◌, ℕ, ◌++◌, ◌∷◌, [], List, true, false, ◌&&◌, Option, Some, None, length, map, position, get_or, slice_get, refl, sym, ap, subst, ◌∙◌, inl, inr}
use Rattle.std.specs.Prelude.{nat_eq}
use Rattle.std.specs.Cmp.Lexicographic.{pointwise, same_text}
use Rattle.std.proofs.lemmas.List.Quantifiers.{position-Some}
use Rattle.std.proofs.lemmas.Option.{slice_get-get_or}
use Rattle.std.proofs.lemmas.Bool.{and_parts}
use Rattle.layout_ops.specs.Reading.{envelope_of}
use Rattle.server_rules.specs.Files.{Step as ServerStep}
use Rattle.scenario_text.specs.declared.line.Party.{Party}
use Rattle.scenario_text.specs.declared.line.Party.TheVariants as party
use Rattle.scenario_text.specs.declared.line.Verdict.TheVariants as verdict
use Rattle.scenario_text.specs.declared.line.Delivery.TheVariants as delivery
use Rattle.scenario_text.specs.declared.line.Line.{Line}
use Rattle.scenario_text.specs.declared.line.Line.TheVariants as line
use Rattle.world_history.specs.declared.messages.Message.{Message}
use Rattle.world_history.specs.declared.messages.Posted.{Posted}
use Rattle.world_history.specs.declared.messages.Sent.{Sent}
use Rattle.world_history.specs.State.{World}
use Rattle.world_history.specs.Spelled.{spelled, party_of}
use Rattle.world_history.specs.Handed.{Post}
use Rattle.world_history.specs.Moves.{Act, Action, acts}
use Rattle.world_history.specs.Sending.{Move, move, fresh, sent_line, sent_lines}
use Rattle.world_history.specs.Reading.{Step, is_head, is_drive}
use Rattle.world_history.specs.Laws.{shown}
use Rattle.world_history.specs.Calm.{return_in, return_for, return_of, returned_at, sent_taken, is_told_taken, takes_loss, Performed, performed_by, performed_sent, performed_first, performed_at, is_sent_as}
use Rattle.world_calm.specs.declared.calm.Performed.{Performed as PerformedHere}
use Rattle.world_watch.specs.Sighted.{Table, is_same, is_same_at, sighted}
use Rattle.world_watch.specs.Tied.{AreOf, BeginWith}
use Rattle.world_watch.specs.Steps.{performed_to, performed_sent as sent_here, performed_found, injected_at, performed_at as performed_here}
use Rattle.calm_law.specs.Following.{bytes_in, PerformsAs}
use Rattle.component_law.specs.Bounds.{IsWithin}
use Rattle.history_law.specs.HistoryMoments.{IsReached}
use Rattle.component_law.specs.Told.{LossesAreTold}
use Rattle.component_law.specs.Messages.{messages_of}
use Rattle.calm_law.specs.Steps.{IsStepOf, IsServersIn, IsInjecting, IsInjected, StepsTell}
use Rattle.component_law.proofs.Standing.{Stands, stay_more, shown_at, IsShown, was_shown}
use Rattle.calm_law.proofs.Sighting.{sighted_begins}
use Rattle.component_law.proofs.Heads.{WasInjected, LineSo, HeadSo, acts_so}

-- ---- the first line of a move

head_so : (w : World) (action : Action) (told : List Line) (number : ℕ) (ps : List Post) (head : Line)
    (rest : List Line)
    → HeadSo w action told → told ++ sent_lines number ps ≡ head ∷ rest → is_head head ≡ true → LineSo w action head
unfolding sent_lines
head_so w action [] number [] head rest h e is = absurd (cc e)
head_so w action [] number (p ∷ ps) head rest h e is =
    let same : sent_line number p.message ≡ head = cc in
    absurd (cc (ap is_head same ∙ is))
head_so w action (l ∷ ls) number ps head rest h e is =
    let same : l ≡ head = cc in
    subst (LineSo w action) same h

begins_so : (w : World) (m : Move) (head : Line) (rest : List Line) → (move w m).lines ≡ head ∷ rest
    → is_head head ≡ true → LineSo w m.action head
begins_so w m head rest e is =
    let a : Act = acts w m.chosen m.action in
    head_so w m.action a.told (length a.world.network.messages) a.posts head rest
    (acts_so w m.chosen m.action).head e is

-- ---- losses

unsent : (l : Line) → is_head l ≡ true → sent_taken l ≡ false
unsent (line.Event e) is = refl
unsent (line.Delivered n d) is = refl
unsent (line.Judged d v) is = refl
unsent (line.TimedOut c k) is = refl
unsent l is = absurd (cc is)

told_behind : (head : Line) (rest : List Line) → is_head head ≡ true → is_told_taken (head ∷ rest) ≡ true
    → is_told_taken rest ≡ true
told_behind head rest is e = rw (unsent head is) at e

step_told : LossesAreTold → (w : World) (m : Move) (t : Step) → IsReached w → IsStepOf w m t → (did : ServerStep)
    → IsServersIn w m did → takes_loss (Some did) ≡ true → is_told_taken t.rest ≡ true
step_told tell w m t reached s did d e =
    let a : Act = acts w m.chosen m.action in
    let n : ℕ = length a.world.network.messages in
    let lines : is_told_taken (move w m).lines ≡ true =
    ap (λ (ps : List Post). is_told_taken (a.told ++ sent_lines n ps)) d.posts
    ∙ tell w did a.told n reached d.server e in
    elim s [
      | inl own ↦ ap is_told_taken own.3 ∙ lines
      | inr first ↦ told_behind t.head t.rest first.0 (sym (ap is_told_taken first.1) ∙ lines)
    ]

-- ---- messages behind a move

-- the message is there, with its receiver and its bytes
record IsBehind (ms : List Sent) (k : ℕ) (s : Sent) : Type 0 where
  now : Sent
  found : slice_get ms k ≡ Some now
  to : now.to ≡ s.to
  bytes : now.bytes ≡ s.bytes

posted_behind : (w : World) (m : Move) (k : ℕ) (p : Posted) → slice_get w.network.messages k ≡ Some p
    → IsBehind (messages_of (move w m).world) k (shown p)
posted_behind w m k p e =
    let a : Act = acts w m.chosen m.action in
    let s : Stands (move w m).world.network.messages k p =
    stay_more w.network.messages a.world.network.messages (map fresh a.posts)
    (acts_so w m.chosen m.action).stay k p e in
    record {
      now = shown s.now;
      found = shown_at (move w m).world k s.now s.found;
      to = ap (λ (x : Message). party_of x.to) s.same;
      bytes = ap (λ (x : Message). spelled x.body) s.same;
    }

behind_at : (w : World) (m : Move) (k : ℕ) (s : Sent) → slice_get (messages_of w) k ≡ Some s
    → IsBehind (messages_of (move w m).world) k s
behind_at w m k s e =
    let was : IsShown w k s = was_shown w k s e in
    subst (λ (x : Sent). IsBehind (messages_of (move w m).world) k x) (sym was.is)
    (posted_behind w m k was.posted was.found)

-- ---- returns

returns_to : (s t : Sent) (to : Party) → t.bytes ≡ s.bytes → return_for t to ≡ return_for s to
returns_to s t party.Server e = ap (λ (b : List ℕ). return_in (envelope_of b)) e
returns_to s t (party.Drive d) e = refl
returns_to s t (party.Client c) e = refl

returns_alike : (s t : Sent) → t.to ≡ s.to → t.bytes ≡ s.bytes → return_of (Some t) ≡ return_of (Some s)
returns_alike s t to bytes = ap (λ (p : Party). return_for t p) to ∙ returns_to s t s.to bytes

line_returned : (w : World) (m : Move) (l : Line) → LineSo w m.action l
    → returned_at (messages_of (move w m).world) l ≡ returned_at (messages_of w) l
line_returned w m (line.Delivered n d) h =
    let b : IsBehind (messages_of (move w m).world) n (shown h.posted) = posted_behind w m n h.posted h.found in
    ap return_of b.found ∙ returns_alike (shown h.posted) b.now b.to b.bytes
    ∙ sym (ap return_of (shown_at w n h.posted h.found))
line_returned w m l h = refl

step_returned : (w : World) (m : Move) (t : Step) → IsStepOf w m t
    → returned_at (messages_of (move w m).world) t.head ≡ returned_at (messages_of w) t.head
step_returned w m t (inl own) = rw own.2 refl
step_returned w m t (inr first) = line_returned w m t.head (begins_so w m t.head t.rest first.1 first.0)

-- ---- a message that a drive performs

module _ (ss ms : List Sent) where
  module _ (n : ℕ) (s t : Sent) (here : slice_get ss n ≡ Some s) (there : slice_get ms n ≡ Some t)
      (bytes : t.bytes ≡ s.bytes) (within : IsWithin (Some s.bytes)) where
    same_bytes : bytes_in (slice_get ms n) ≡ bytes_in (slice_get ss n)
    same_bytes = ap bytes_in there ∙ ap (λ (b : List ℕ). Some b) bytes ∙ sym (ap bytes_in here)

    within_here : IsWithin (bytes_in (slice_get ss n))
    within_here = subst IsWithin (sym (ap bytes_in here)) within

    party_performs : (to : Party) → PerformsAs ss ms (performed_by n to) (performed_to n to)
    party_performs (party.Drive d) = record {
      drive = refl;
      message = refl;
      bytes = same_bytes;
      within = within_here;
    }
    party_performs party.Server = tt
    party_performs (party.Client c) = tt

    sent_performs : t.to ≡ s.to → PerformsAs ss ms (performed_sent n (slice_get ss n)) (sent_here n (slice_get ms n))
    sent_performs to =
        subst (λ (x : Option Sent). PerformsAs ss ms (performed_sent n x) (sent_here n (slice_get ms n))) (sym here)
        (subst (λ (y : Option Sent). PerformsAs ss ms (performed_by n s.to) (sent_here n y)) (sym there)
        (subst (λ (p : Party). PerformsAs ss ms (performed_by n s.to) (performed_to n p)) (sym to)
        (party_performs s.to)))

    found_performs : (d : ℕ) → PerformsAs ss ms (performed_first d (Some n)) (performed_found d (Some n))
    found_performs d = record { drive = refl; message = refl; bytes = same_bytes; within = within_here }

-- ---- injected bytes

abbrev no_message : Sent
no_message = record { from = party.Server; to = party.Server; bytes = []; delivered = false; dropped = false }

-- the place of a message is that of one
record IsPlace (ss : List Sent) (d : ℕ) (bytes : List ℕ) (k : ℕ) : Type 0 where
  message : Sent
  found : slice_get ss k ≡ Some message
  same : message.bytes ≡ bytes

is_place : (ss : List Sent) (d : ℕ) (bytes : List ℕ) (k : ℕ) → position (is_same d bytes) ss ≡ Some k
    → IsPlace ss d bytes k
is_place ss d bytes k e =
    let at = position-Some (is_same d bytes) ss k no_message e in
    let s : Sent = get_or ss k no_message in
    record {
      message = s;
      found = slice_get-get_or ss k no_message at.0;
      same = same_text s.bytes bytes (sym (and_parts (is_drive d s.to) (pointwise nat_eq s.bytes bytes) at.1).1);
    }

begin_with : (w : World) (m : Move) → BeginWith (messages_of (move w m).world) (messages_of w)
begin_with w m k l d bytes =
    let s : Sent = get_or (messages_of w) k no_message in
    let here : slice_get (messages_of w) k ≡ Some s = slice_get-get_or (messages_of w) k no_message l in
    let b : IsBehind (messages_of (move w m).world) k s = behind_at w m k s here in
    ap (λ (o : Option Sent). is_same_at d bytes o) b.found
    ∙ ap (λ (p : Party). is_drive d p && pointwise nat_eq b.now.bytes bytes) b.to
    ∙ ap (λ (x : List ℕ). is_drive d s.to && pointwise nat_eq x bytes) b.bytes
    ∙ sym (ap (λ (o : Option Sent). is_same_at d bytes o) here)

module _ (w : World) (m : Move) (table : Table) (d : ℕ) (bytes : List ℕ) where
  place_performs : IsWithin (Some bytes) → (o : Option ℕ) → position (is_same d bytes) (messages_of w) ≡ o
      → PerformsAs (messages_of w) (messages_of (move w m).world) (performed_first d o) (performed_found d o)
  place_performs within None e = tt
  place_performs within (Some k) e =
      let at : IsPlace (messages_of w) d bytes k = is_place (messages_of w) d bytes k e in
      let b : IsBehind (messages_of (move w m).world) k at.message = behind_at w m k at.message at.found in
      found_performs (messages_of w) (messages_of (move w m).world) k at.message b.now at.found b.found b.bytes
      (subst (λ (x : List ℕ). IsWithin (Some x)) (sym at.same) within) d

  sighted_behind : AreOf (messages_of w) table
      → sighted table (messages_of (move w m).world) d bytes ≡ position (is_same d bytes) (messages_of w)
  sighted_behind a =
      sighted_begins (messages_of (move w m).world) (messages_of w) table d bytes (begin_with w m) a

-- ---- each line

module _ (w : World) (m : Move) (table : Table) (injected : List ℕ) (before : Line)
    (known : IsInjected w m table injected before) where
  abbrev Performs : Line → Type 0
  Performs l =
      PerformsAs (messages_of w) (messages_of (move w m).world) (performed_at (messages_of w) injected l)
      (performed_here (messages_of (move w m).world) (injected_at table (messages_of (move w m).world) before) l)

  injection_performs : (d : ℕ) → WasInjected m.action d verdict.Perform → Performs (line.Judged d verdict.Perform)
  injection_performs d h =
      let ss : List Sent = messages_of w in
      let ms : List Sent = messages_of (move w m).world in
      let i : IsInjecting w table injected before d h.bytes = known d h.bytes h.action_is in
      let there : performed_first d (position (is_sent_as d injected) ss)
      ≡ performed_first d (position (is_same d h.bytes) ss) =
      ap (λ (b : List ℕ). performed_first d (position (is_sent_as d b) ss)) i.last in
      let here : injected_at table ms before ≡ performed_found d (position (is_same d h.bytes) ss) =
      ap (λ (l : Line). injected_at table ms l) i.event
      ∙ ap (λ (o : Option ℕ). performed_found d o) (sighted_behind w m table d h.bytes i.sightings) in
      subst (λ (x : Option Performed). PerformsAs ss ms x (injected_at table ms before)) (sym there)
      (subst (λ (y : Option PerformedHere). PerformsAs ss ms (performed_first d (position (is_same d h.bytes) ss)) y)
      (sym here) (place_performs w m table d h.bytes (h.within refl) (position (is_same d h.bytes) ss) refl))

  line_performed : (l : Line) → LineSo w m.action l → Performs l
  line_performed (line.Delivered n (delivery.Judged verdict.Perform)) h =
      let b : IsBehind (messages_of (move w m).world) n (shown h.posted) = posted_behind w m n h.posted h.found in
      sent_performs (messages_of w) (messages_of (move w m).world) n (shown h.posted) b.now
      (shown_at w n h.posted h.found) b.found b.bytes (h.within refl) b.to
  line_performed (line.Judged d verdict.Perform) h = injection_performs d h
  line_performed l h = tt

  step_performed : (t : Step) → IsStepOf w m t → Performs t.head
  step_performed t (inl own) = subst Performs (sym own.2) tt
  step_performed t (inr first) = line_performed t.head (begins_so w m t.head t.rest first.1 first.0)

-- ---- each step

pub steps_tell : LossesAreTold → StepsTell
steps_tell tell w m t table injected before reached s known = record {
  told = λ did d e. step_told tell w m t reached s did d e;
  returned = step_returned w m t s;
  performed = step_performed w m table injected before known t s;
}
