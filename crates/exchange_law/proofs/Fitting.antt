-- Each message of the server to a client fits, over all lines of a history.
use Rattle.std.proofs.Common.{◌≡◌, ℕ, ◌+◌, ◌≤◌, ◌++◌, ◌∷◌, [], List, Option, Some, None, length, map, slice_get, slice_set, refl, sym, subst, ◌∙◌, append_assoc, arith, inl, inr}
use Rattle.std.proofs.lemmas.List.{append-nil}
use Rattle.layout_ops.specs.declared.envelope.Envelope.TheVariants as envelope
use Rattle.scenario_text.specs.declared.event.Event.{Event}
use Rattle.scenario_text.specs.declared.event.Event.TheVariants as event
use Rattle.scenario_text.specs.declared.line.Line.{Line}
use Rattle.scenario_text.specs.declared.line.Line.TheVariants as line
use Rattle.server_rules.specs.declared.limits.TheConstants.{FIRST_OBJECT}
use Rattle.server_rules.specs.History.{Input, step}
use Rattle.world_history.specs.ServerNames.{Server, Outgoing, ToDrive, Recalls, Answers, AnswersOrder}
use Rattle.world_history.specs.declared.messages.Sent.{Sent}
use Rattle.world_history.specs.State.{World}
use Rattle.world_history.specs.Spelled.{party_of, spelled}
use Rattle.world_history.specs.Handed.{Post, server_post, server_body}
use Rattle.server_rules.specs.Envelopes.{receiver}
use Rattle.osd_lists.specs.declared.node.Node.{Node}
use Rattle.osd_lists.specs.declared.node.Node.TheVariants as node
use Rattle.osd_lists.proofs.Slices.{found_more}
use Rattle.world_history.specs.Moves.{acts}
use Rattle.world_history.specs.Sending.{Move, move, sent_line, sent_lines}
use Rattle.world_history.specs.Book.{step_by, server_behind}
use Rattle.world_history.specs.Reading.{arrived, left_out, changed_by, sent_after, sent_after_event, sent_in}
use Rattle.world_history.proofs.Always.{opening, IsKept}
use Rattle.history_law.proofs.DriveLines.{sent_read}
use Rattle.history_law.proofs.Coming.{found_set, sent_behind}
use Rattle.history_law.proofs.Each.{EachBehind, each_more, each_front}
use Rattle.history_law.proofs.Histories.{lawful}
use Rattle.history_law.proofs.Issuing.{IsSilent, AreSilent}
use Rattle.history_law.proofs.IssuingMoves.{acts_known}
use Rattle.history_law.proofs.IssueLines.{IsKnown, all_known}
use Rattle.history_law.specs.Doing.{input_in}
use Rattle.history_law.proofs.Doing.{acts_serve}
use Rattle.exchange_law.specs.Text.{AreOfText, AreFew}
use Rattle.exchange_law.specs.Fitting.{FitsBetween, AllFit, MessagesFit}
use Rattle.exchange_law.proofs.CountGrowing.{longer, one_longer, fewer, as_many, text_front, text_behind}
use Rattle.exchange_law.proofs.CountStepping.{all_posted}
use Rattle.exchange_law.proofs.Making.{step_fits}
use Rattle.exchange_law.proofs.Answering.{SentGood, SlotsGood}
use Rattle.exchange_law.proofs.CountTelling.{step_good}
use Rattle.exchange_law.proofs.CountSending.{ReadAny, read_input, IsOther, AreOthers, Comes, acts_come}
use Rattle.exchange_law.proofs.CountWorlds.{GivenAny, given_event, given_rule, WorldFits, FitsThere, all_fit}

-- ---- lines

-- where few messages were sent before
abbrev pub FitsFew : List Line → Line → Type 0
FitsFew before (line.Message n from to bytes) = AreFew before → FitsBetween from to bytes
FitsFew before l = Unit {0}

-- and the history is of a text
abbrev pub FitsAt : List Line → Line → Type 0
FitsAt before l = AreOfText before → FitsFew before l

each_text : (before ls : List Line) → (AreOfText before → EachBehind FitsFew before ls) → EachBehind FitsAt before ls
each_text before [] f = tt
each_text before (l ∷ ls) f = (
  λ text. (f text).0,
  each_text (before ++ l ∷ []) ls (λ text. (f (text_front before (l ∷ []) text)).1),
)

silent_fits : (before : List Line) (l : Line) → IsSilent l → FitsFew before l
silent_fits before (line.Message n from to bytes) s = absurd s
silent_fits before l s = tt

told_fit : (before ls : List Line) → AreSilent ls → EachBehind FitsFew before ls
told_fit before [] s = tt
told_fit before (l ∷ ls) s = (silent_fits before l s.0, told_fit (before ++ l ∷ []) ls s.1)

other_fits : (from to : Node) (bytes : List ℕ) → IsOther from to → FitsBetween (party_of from) (party_of to) bytes
other_fits node.Server (node.Client c) bytes o = absurd o
other_fits node.Server node.Server bytes o = tt
other_fits node.Server (node.Drive d) bytes o = tt
other_fits (node.Client c) to bytes o = tt
other_fits (node.Drive d) to bytes o = tt

others_fit : (before : List Line) (n : ℕ) (ps : List Post) → AreOthers ps → EachBehind FitsFew before (sent_lines n ps)
unfolding sent_lines
others_fit before n [] k = tt
others_fit before n (p ∷ ps) k = (
  λ few. other_fits p.message.from p.message.to (spelled p.message.body) k.0,
  others_fit (before ++ sent_line n p.message ∷ []) (n + 1) ps k.1,
)

one_fits : (first last k sent : ℕ) (before : List Line) (o : Outgoing) (os : List Outgoing)
    → first ≤ sent + FIRST_OBJECT → sent + k ≤ length (sent_in before) → SentGood first last k (o ∷ os) → AreFew before
    → FitsBetween (party_of node.Server) (party_of (receiver o)) (spelled (server_body o))
one_fits first last k sent before (Answers a) os l m g few =
    let good = g.0 (omega (arith, g.1, l, m, few)) in
    record { message = envelope.Answer a; bytes_are = refl; fits = good.0; gives = good.1 }
one_fits first last k sent before (Recalls r) os l m g few =
    record { message = envelope.Recall r; bytes_are = refl; fits = g.0; gives = tt }
one_fits first last k sent before (ToDrive d c) os l m g few = tt
one_fits first last k sent before (AnswersOrder a) os l m g few = tt

rest_good : (first last k : ℕ) (o : Outgoing) (os : List Outgoing) → SentGood first last k (o ∷ os)
    → SentGood first last (k + 1) os
rest_good first last k (Answers a) os g = g.2
rest_good first last k (Recalls r) os g = g.1
rest_good first last k (ToDrive d c) os g = g
rest_good first last k (AnswersOrder a) os g = g

sent_fit : (first last k sent n : ℕ) (before : List Line) (os : List Outgoing) → first ≤ sent + FIRST_OBJECT
    → sent + k ≤ length (sent_in before) → SentGood first last k os
    → EachBehind FitsFew before (sent_lines n (map server_post os))
unfolding sent_lines
sent_fit first last k sent n before [] l m g = tt
sent_fit first last k sent n before (o ∷ os) l m g = (
  one_fits first last k sent before o os l m g,
  sent_fit first last (k + 1) sent (n + 1) (before ++ sent_line n (server_post o).message ∷ []) os l
      (omega (arith, m, one_longer before n (party_of node.Server) (party_of (receiver o)) (spelled (server_body o))))
      (rest_good first last k o os g),
)

-- ---- a move

pub record IsFitting (w : World) (h : List Line) : Type 0 where
  pub known : IsKnown w h
  pub there : FitsThere w h
  pub slots : AreOfText h → SlotsGood w.server.next_object w.server.slots
  pub lines : EachBehind FitsAt [] h

posts_fit : (w : World) (h before : List Line) (k : WorldFits w) (m : Move) (n : ℕ) (o : Option Input)
    → input_in w m.action ≡ o → GivenAny o → ReadAny o → SlotsGood w.server.next_object w.server.slots
    → length w.network.messages ≤ length (sent_in before)
    → Comes o (acts w m.chosen m.action).posts
    → EachBehind FitsFew before (sent_lines n (acts w m.chosen m.action).posts)
posts_fit w h before k m n o is g r slots l (inl others) =
    others_fit before n (acts w m.chosen m.action).posts others
posts_fit w h before k m n None is g r slots l (inr (i, e)) = absurd (cc e)
posts_fit w h before k m n (Some x) is g r slots l (inr (i, e)) =
    let t = step_fits w.server m.chosen x k.server g in
    let good = step_good w.server m.chosen x k.server g r slots in
    let posts = (acts_serve w m.chosen m.action).posts x is ∙ all_posted (step w.server m.chosen x).sends t.named in
    subst (λ (ps : List Post). EachBehind FitsFew before (sent_lines n ps)) (sym posts)
    (sent_fit w.server.next_object (step w.server m.chosen x).state.next_object 0 (length w.network.messages) n before
    (step w.server m.chosen x).sends k.objects (omega (arith, l)) good.sends)

move_lines : (w : World) (h before : List Line) (k : IsFitting w h) (m : Move) → GivenAny (input_in w m.action)
    → AreOfText h → length (sent_in h) ≤ length (sent_in before) → EachBehind FitsFew before (move w m).lines
move_lines w h before k m g text l =
    let a = acts_known (sent_in h) w k.known.world (sym (sent_read w k.known.read.injected h k.known.read.drives))
    m.chosen m.action in
    let many = as_many w h k.known.read in
    let more = longer before (acts w m.chosen m.action).told in
    each_more FitsFew before (acts w m.chosen m.action).told _
    (told_fit before (acts w m.chosen m.action).told a.told)
    (posts_fit w h (before ++ (acts w m.chosen m.action).told) (k.there text) m _ (input_in w m.action) refl g
    (read_input w m.action) (k.slots text) (omega (arith, many, l, more)) (acts_come w m.chosen m.action))

slots_by : (w : World) (m : Move) (o : Option Input) → WorldFits w → GivenAny o → ReadAny o
    → SlotsGood w.server.next_object w.server.slots
    → SlotsGood (server_behind w.server (step_by w.server m.chosen o)).next_object
    (server_behind w.server (step_by w.server m.chosen o)).slots
slots_by w m None k g r slots = slots
slots_by w m (Some x) k g r slots = (step_good w.server m.chosen x k.server g r slots).slots

move_slots : (w : World) (h : List Line) (k : IsFitting w h) (m : Move) → GivenAny (input_in w m.action)
    → AreOfText h → SlotsGood (move w m).world.server.next_object (move w m).world.server.slots
move_slots w h k m g text =
    subst (λ (s : Server). SlotsGood s.next_object s.slots) (sym (acts_serve w m.chosen m.action).server)
    (slots_by w m (input_in w m.action) (k.there text) g (read_input w m.action) (k.slots text))

pub all_fitting : IsKept IsFitting
all_fitting = record {
  starts = record { known = all_known.starts; there = all_fit.starts; slots = λ text. tt; lines = tt };
  opens =
      λ w h e chosen k allowed.
      let m = opening e chosen in
      let lines = (move w m).lines in
      record {
        known = all_known.opens w h e chosen k.known allowed;
        there = all_fit.opens w h e chosen k.there allowed;
        slots =
            λ text. move_slots w h k m (given_event w e (text_behind h (line.Event e ∷ lines) text).0)
            (text_front h (line.Event e ∷ lines) text);
        lines =
            each_more FitsAt [] h (line.Event e ∷ lines) k.lines (
              λ text. tt,
              each_text (h ++ line.Event e ∷ []) lines
                  (λ text. move_lines w h (h ++ line.Event e ∷ []) k m
                  (given_event w e (text_behind h (line.Event e ∷ []) text).0) (text_front h (line.Event e ∷ []) text)
                  (longer h (line.Event e ∷ []))),
            );
      };
  moves =
      λ w h r m k due. record {
        known = all_known.moves w h r m k.known due;
        there = all_fit.moves w h r m k.there due;
        slots =
            λ text. move_slots w h k m (given_rule w r m.action due) (text_front h (move w m).lines text);
        lines =
            each_more FitsAt [] h (move w m).lines k.lines
            (each_text h (move w m).lines
            (λ text. move_lines w h h k m (given_rule w r m.action due) text (omega arith)));
      };
}

-- ---- messages

more_fit : (ss : List Sent) (s : Sent) → AllFit ss → FitsBetween s.from s.to s.bytes → AllFit (ss ++ s ∷ [])
more_fit ss s all it n m is = elim (found_more ss s n m is) [
  | inl old ↦ all n m old
  | inr same ↦ subst (λ (x : Sent). FitsBetween x.from x.to x.bytes) same it
]

set_fit : (ss : List Sent) (k : ℕ) (s : Sent) → AllFit ss → FitsBetween s.from s.to s.bytes → AllFit (slice_set ss k s)
set_fit ss k s all it n m is = elim (found_set ss k s n m is) [
  | inl old ↦ all n m old
  | inr new ↦ subst (λ (x : Sent). FitsBetween x.from x.to x.bytes) new.1 it
]

arrived_fit : (ss : List Sent) (k : ℕ) (o : Option Sent) → slice_get ss k ≡ o → AllFit ss
    → AllFit (changed_by ss k arrived o)
arrived_fit ss k None there all = all
arrived_fit ss k (Some s) there all = set_fit ss k (arrived s) all (all k s there)

left_fit : (ss : List Sent) (k : ℕ) (o : Option Sent) → slice_get ss k ≡ o → AllFit ss
    → AllFit (changed_by ss k left_out o)
left_fit ss k None there all = all
left_fit ss k (Some s) there all = set_fit ss k (left_out s) all (all k s there)

event_fit : (ss : List Sent) (e : Event) → AllFit ss → AllFit (sent_after_event ss e)
event_fit ss (event.DropMessage k) all = left_fit ss k (slice_get ss k) refl all
event_fit ss e all = all

line_fit : (before : List Line) (l : Line) → AllFit (sent_in before) → AreFew before → FitsFew before l
    → AllFit (sent_after (sent_in before) l)
line_fit before (line.Event e) all few here = event_fit (sent_in before) e all
line_fit before (line.Message n from to bytes) all few here = more_fit (sent_in before) _ all (here few)
line_fit before (line.Delivered n del) all few here =
    arrived_fit (sent_in before) n (slice_get (sent_in before) n) refl all
line_fit before l all few here = all

behind_fit : (before lines : List Line) → AllFit (sent_in before) → EachBehind FitsAt before lines
    → AreOfText (before ++ lines) → AreFew (before ++ lines) → AllFit (sent_in (before ++ lines))
behind_fit before [] all each text few = subst (λ (h : List Line). AllFit (sent_in h)) (sym (append-nil before)) all
behind_fit before (l ∷ lines) all each text few =
    let same = append_assoc before (l ∷ []) lines in
    subst (λ (h : List Line). AllFit (sent_in h)) same
    (behind_fit (before ++ l ∷ []) lines
    (subst AllFit (sym (sent_behind before l))
    (line_fit before l all (fewer before (l ∷ lines) few) (each.0 (text_front before (l ∷ lines) text)))) each.1
    (subst AreOfText (sym same) text) (subst AreFew (sym same) few))

none_fit : AllFit (sent_in [])
unfolding sent_in
none_fit n m found = absurd (cc found)

pub messages_fit : MessagesFit
messages_fit h l text few =
    let more = lawful IsFitting all_fitting h l in
    behind_fit [] h none_fit (each_front FitsAt [] h more.1 more.2.lines) text few
