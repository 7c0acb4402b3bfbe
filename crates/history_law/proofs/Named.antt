-- Each message of the server to a client goes to one that a line can name, over all lines of a history.
use Rattle.std.proofs.Common.{◌≡◌, ℕ, ◌+◌, ◌++◌, ◌∷◌, [], List, Option, Some, None, length, slice_get, slice_set, refl, sym, subst, append_assoc, inl, inr}
use Rattle.std.proofs.lemmas.List.{append-nil}
use Rattle.osd_lists.proofs.Slices.{found_more}
use Rattle.scenario_text.specs.declared.event.Event.{Event}
use Rattle.scenario_text.specs.declared.event.Event.TheVariants as event
use Rattle.scenario_text.specs.declared.line.Line.{Line}
use Rattle.scenario_text.specs.declared.line.Line.TheVariants as line
use Rattle.world_history.specs.declared.messages.Sent.{Sent}
use Rattle.world_history.specs.State.{World}
use Rattle.world_history.specs.Handed.{Post}
use Rattle.world_history.specs.Moves.{Act, acts}
use Rattle.world_history.specs.Sending.{Move, move, sent_line, sent_lines, sends_all}
use Rattle.world_history.specs.Reading.{arrived, left_out, changed_by, sent_after, sent_after_event, sent_in}
use Rattle.world_history.specs.History.{Lawful}
use Rattle.world_history.proofs.Always.{opening, IsKept}
use Rattle.history_law.proofs.DriveLines.{sent_read}
use Rattle.history_law.proofs.Coming.{found_set, sent_behind}
use Rattle.history_law.proofs.Each.{EachBehind, each_more, each_front}
use Rattle.history_law.proofs.Histories.{lawful}
use Rattle.history_law.proofs.Issuing.{IsSilent, AreSilent}
use Rattle.history_law.proofs.IssuingMoves.{acts_known}
use Rattle.history_law.proofs.IssueLines.{IsKnown, all_known}
use Rattle.history_law.proofs.Addressed.{IsNamedTo, AreNamedTo, acts_to}

-- ---- lines

abbrev pub NamedAt : List Line → Line → Type 0
NamedAt before (line.Message n from to bytes) = IsNamedTo from to
NamedAt before l = Unit {0}

silent_named : (before : List Line) (l : Line) → IsSilent l → NamedAt before l
silent_named before (line.Message n from to bytes) s = absurd s
silent_named before l s = tt

told_named : (before ls : List Line) → AreSilent ls → EachBehind NamedAt before ls
told_named before [] s = tt
told_named before (l ∷ ls) s = (silent_named before l s.0, told_named (before ++ l ∷ []) ls s.1)

sent_named : (before : List Line) (n : ℕ) (ps : List Post) → AreNamedTo ps → EachBehind NamedAt before (sent_lines n ps)
unfolding sent_lines
sent_named before n [] k = tt
sent_named before n (p ∷ ps) k = (k.0, sent_named (before ++ sent_line n p.message ∷ []) (n + 1) ps k.1)

act_named : (before : List Line) (a : Act) → AreSilent a.told → AreNamedTo a.posts
    → EachBehind NamedAt before (sends_all a).lines
act_named before a told posts =
    each_more NamedAt before a.told _ (told_named before a.told told)
    (sent_named (before ++ a.told) (length a.world.network.messages) a.posts posts)

-- ---- each moment

record IsNamedIn (w : World) (h : List Line) : Type 0 where
  known : IsKnown w h
  lines : EachBehind NamedAt [] h

move_named : (w : World) (h before : List Line) (k : IsKnown w h) (m : Move)
    → EachBehind NamedAt before (move w m).lines
move_named w h before k m =
    let a = acts_known (sent_in h) w k.world (sym (sent_read w k.read.injected h k.read.drives)) m.chosen m.action in
    act_named before (acts w m.chosen m.action) a.told (acts_to w m.chosen m.action)

all_named : IsKept IsNamedIn
all_named = record {
  starts = record { known = all_known.starts; lines = tt };
  opens =
      λ w h e chosen k allowed. record {
        known = all_known.opens w h e chosen k.known allowed;
        lines =
            each_more NamedAt [] h (line.Event e ∷ (move w (opening e chosen)).lines) k.lines
            (tt, move_named w h (h ++ line.Event e ∷ []) k.known (opening e chosen));
      };
  moves =
      λ w h r m k due. record {
        known = all_known.moves w h r m k.known due;
        lines = each_more NamedAt [] h (move w m).lines k.lines (move_named w h h k.known m);
      };
}

pub lines_named : (h : List Line) → Lawful h → EachBehind NamedAt [] h
lines_named h l =
    let more = lawful IsNamedIn all_named h l in
    each_front NamedAt [] h more.1 more.2.lines

-- ---- messages

abbrev pub AllNamed : List Sent → Type 0
AllNamed ss = (n : ℕ) (m : Sent) → slice_get ss n ≡ Some m → IsNamedTo m.from m.to

more_named : (ss : List Sent) (s : Sent) → AllNamed ss → IsNamedTo s.from s.to → AllNamed (ss ++ s ∷ [])
more_named ss s all it n m is = elim (found_more ss s n m is) [
  | inl old ↦ all n m old
  | inr same ↦ subst (λ (x : Sent). IsNamedTo x.from x.to) same it
]

set_named : (ss : List Sent) (k : ℕ) (s : Sent) → AllNamed ss → IsNamedTo s.from s.to → AllNamed (slice_set ss k s)
set_named ss k s all it n m is = elim (found_set ss k s n m is) [
  | inl old ↦ all n m old
  | inr new ↦ subst (λ (x : Sent). IsNamedTo x.from x.to) new.1 it
]

arrived_named : (ss : List Sent) (k : ℕ) (o : Option Sent) → slice_get ss k ≡ o → AllNamed ss
    → AllNamed (changed_by ss k arrived o)
arrived_named ss k None there all = all
arrived_named ss k (Some s) there all = set_named ss k (arrived s) all (all k s there)

left_named : (ss : List Sent) (k : ℕ) (o : Option Sent) → slice_get ss k ≡ o → AllNamed ss
    → AllNamed (changed_by ss k left_out o)
left_named ss k None there all = all
left_named ss k (Some s) there all = set_named ss k (left_out s) all (all k s there)

event_named : (ss : List Sent) (e : Event) → AllNamed ss → AllNamed (sent_after_event ss e)
event_named ss (event.DropMessage k) all = left_named ss k (slice_get ss k) refl all
event_named ss e all = all

line_named : (before : List Line) (l : Line) → AllNamed (sent_in before) → NamedAt before l
    → AllNamed (sent_after (sent_in before) l)
line_named before (line.Event e) all here = event_named (sent_in before) e all
line_named before (line.Message n from to bytes) all here = more_named (sent_in before) _ all here
line_named before (line.Delivered n del) all here =
    arrived_named (sent_in before) n (slice_get (sent_in before) n) refl all
line_named before l all here = all

behind_named : (before lines : List Line) → AllNamed (sent_in before) → EachBehind NamedAt before lines
    → AllNamed (sent_in (before ++ lines))
behind_named before [] all each = subst (λ (h : List Line). AllNamed (sent_in h)) (sym (append-nil before)) all
behind_named before (l ∷ lines) all each =
    subst (λ (h : List Line). AllNamed (sent_in h)) (append_assoc before (l ∷ []) lines)
    (behind_named (before ++ l ∷ []) lines
    (subst AllNamed (sym (sent_behind before l)) (line_named before l all each.0)) each.1)

none_named : AllNamed (sent_in [])
unfolding sent_in
none_named n m found = absurd (cc found)

-- of the messages of a history
pub messages_named : (h : List Line) → EachBehind NamedAt [] h → AllNamed (sent_in h)
messages_named h each = behind_named [] h none_named each
