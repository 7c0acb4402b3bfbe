-- A step of the server that takes a report as a loss leaves the entries paired at each cut, if the machine has acknowledged
-- behind its answer what the log takes there.
-- Towards `CutsShowEntries` (`specs/Parts.antt`).
use Rattle.std.proofs.Common.{◌≡◌, ◌+◌, ◌++◌, ◌<◌, ◌≤◌, ℕ, zero, suc, Bool, true, false, List, [], ◌∷◌, take, map, filter, length, slice_get, Option, Some, None, refl, sym, ap, subst, ◌∙◌, inl, inr, arith, if◌then◌else◌}
use Rattle.osd_lists.specs.declared.node.Node.TheVariants as node
use Rattle.scenario_text.specs.declared.line.Delivery.TheVariants as delivery
use Rattle.scenario_text.specs.declared.line.Line.{Line}
use Rattle.scenario_text.specs.declared.line.Line.TheVariants as line
use Rattle.server_rules.specs.Files.{Step as ServerStep, file_at}
use Rattle.server_rules.specs.History.{Input, step}
use Rattle.server_rules.specs.Messages.{Asks}
use Rattle.world_history.specs.Book.{step_by, input_at, server_behind}
use Rattle.world_history.specs.Calm.{moment_of, seen, takes_loss, is_told_taken, sent_taken, returned_at, taken_by}
use Rattle.world_history.specs.Handed.{Post, is_addressed, server_post}
use Rattle.history_law.specs.Read.{leads}
use Rattle.world_history.specs.Moves.{Action, Opens, Delivers, TimesOut, Pends, delivers}
use Rattle.world_history.specs.Names.{note_line}
use Rattle.world_history.specs.ReadLog.{Log, Logged}
use Rattle.world_history.specs.Sending.{Move, sends_all, sent_lines}
use Rattle.world_history.specs.ServerNames.{File, Server, Outgoing, Answers}
use Rattle.world_history.specs.State.{World}
use Rattle.history_law.specs.Doing.{input_in, brought}
use Rattle.history_law.specs.Moments.{lines_in}
use Rattle.history_law.specs.Read.{server_of}
use Rattle.history_law.proofs.Doing.{server_moves}
use Rattle.history_law.proofs.Leading.{Leads, Silent, Heads, delivers_lead}
use Rattle.history_law.proofs.Staying.{written_front}
use Rattle.component_law.proofs.FileFacts.{named_input}
use Rattle.component_law.proofs.NamedLines.{are_named}
use Rattle.component_law.specs.Naming.{IsNamedInput}
use Rattle.component_law.specs.Told.{LossesAreTold}
use Rattle.exchange_law.proofs.HeldWorlds.{reached}
use Rattle.fence_law.specs.State.{State, Event}
use Rattle.file_simulation.specs.Cuts.{lines_before}
use Rattle.file_simulation.specs.DriveEvents.{drive_events}
use Rattle.file_simulation.specs.EventLists.{Lines}
use Rattle.file_simulation.specs.Events.{joined, events_of, led_by}
use Rattle.file_simulation.specs.ServerEvents as table
use Rattle.file_simulation.specs.ServerEvents.{server_goes}
use Rattle.file_simulation.specs.Showing.{Pairs, ArePaired}
use Rattle.file_simulation.specs.Tied.{AreTied}
use Rattle.relation_law.specs.Frames.{AreAll, LinesAre}
use Rattle.relation_law.specs.Steps.{Follows, behind, owed}
use Rattle.relation_law.proofs.FramesParties.{drive_quiet, Never}
use Rattle.relation_law.proofs.FramesStay.{all_more}
use Rattle.headline_law.specs.Ending.{NotesAreKnown}
use Rattle.headline_law.specs.Parts.{CutShown, lines_to}
use Rattle.headline_law.proofs.CalmLines.{known_all}
use Rattle.headline_law.proofs.EntriesPairs.{IsSilent, silent_stay, paired_stays}
use Rattle.headline_law.proofs.EntriesServer.{ServersPair}
use Rattle.headline_law.proofs.EntriesServerEvents.{EndsWith, goes_at}
use Rattle.headline_law.proofs.EntriesServerLoss.{TakesLoss, loss_taken}
use Rattle.headline_law.proofs.EntriesServerPlain.{events_are, untold_log}
use Rattle.headline_law.proofs.EntriesServerTaken.{TakesUnder, taken_paired}
use Rattle.headline_law.proofs.EntriesServerTold.{IsDelivered, is_delivered, notes_of, delivered_told, tail_is, IsCut, Before, Behind, cut_is}
use Rattle.headline_law.proofs.EntriesShown.{ReadingLaws}
use Rattle.headline_law.proofs.Lines.{none_taken}

-- Behind the answer that takes a loss the machine has acknowledged all that the log takes: what was returned in the message.
pub record LossIsOver (s t : State) (events : List Event) (returned : Option ℕ) : Type 0 where
  pub none : returned ≡ None → AreAll IsSilent events
  pub under : (number : ℕ) → returned ≡ Some number → TakesUnder s t number

abbrev pub LossesAreOver : Type 0
LossesAreOver =
    (w : World) (h : List Line) (m : Move) (count : ℕ) (f g : File) (s : State) (pairs : Pairs) →
    (k : CutShown w h m count f g s pairs) → AreTied w h s f.kept.number pairs → (i : Input) → input_in w m.action ≡ Some i →
    (loss : TakesLoss w.server m.chosen i) → (d : IsDelivered w m i) →
    EndsWith w f g i s (λ t. table.sent t w.server g i (Answers loss.answer))
    (joined (take count (events_of s w (owed k.shown.follows.related) f m))) →
    LossIsOver s (behind k.shown.follows.related m count)
    (joined (take count (events_of s w (owed k.shown.follows.related) f m)))
    (returned_at (seen h).server.sent (line.Delivered d.number delivery.Taken))

-- what is known of lines
pub record LossReading : Type 0 where
  pub reading : ReadingLaws
  pub known : NotesAreKnown
  pub told : LossesAreTold

-- ---- lists

-- lists behind that have no event
front_joined : (n : ℕ) (x y : Lines) → LinesAre Never y → joined (take n (x ++ y)) ≡ joined (take n x)
front_joined n [] y none = none_taken n y none ∙ sym (none_taken n [] tt)
front_joined zero (es ∷ x) y none = refl
front_joined (suc n) (es ∷ x) y none = ap (λ (fs : List Event). es ++ fs) (front_joined n x y none)

pub all_apart : (P : Event → Type 0) (xs ys : List Event) → AreAll P (xs ++ ys) → AreAll P xs × AreAll P ys
all_apart P [] ys a = (tt, a)
all_apart P (x ∷ xs) ys a = let r = all_apart P xs ys a.1 in ((a.0, r.0), r.1)

-- what all events of the first lines are, those of fewer are
fewer_are : (P : Event → Type 0) (m n : ℕ) (x : Lines) → m ≤ n → AreAll P (joined (take n x)) → AreAll P (joined (take m x))
fewer_are P zero n x low all = tt
fewer_are P (suc m) zero x low all = absurd (omega (arith, low))
fewer_are P (suc m) (suc n) [] low all = tt
fewer_are P (suc m) (suc n) (es ∷ x) low all =
    let r = all_apart P es (joined (take n x)) all in
    all_more P es (joined (take m x)) r.0 (fewer_are P m n x (omega (arith, low)) r.1)

-- the lists behind that of an event that only leads
led_joined : (a : Action) (x : Lines) (count q : ℕ) → count ≡ lines_before a + q →
    joined (take count (led_by a x)) ≡ joined (take (suc q) x)
led_joined (Opens e) x count q at_ = by (leads e) at_
  where
    by : (b : Bool) → count ≡ (if b then 2 else 1) + q → joined (take count (if b then [] ∷ x else x)) ≡ joined (take (suc q) x)
    by true is =
        let two : count ≡ suc (suc q) = omega (arith, is) in ap (λ (c : ℕ). joined (take c ([] ∷ x))) two
    by false is = let one : count ≡ suc q = omega (arith, is) in ap (λ (c : ℕ). joined (take c x)) one
led_joined (Delivers n) x count q at_ =
    let one : count ≡ suc q = omega (arith, at_) in ap (λ (c : ℕ). joined (take c x)) one
led_joined (TimesOut c k) x count q at_ =
    let one : count ≡ suc q = omega (arith, at_) in ap (λ (c : ℕ). joined (take c x)) one
led_joined (Pends c) x count q at_ =
    let one : count ≡ suc q = omega (arith, at_) in ap (λ (c : ℕ). joined (take c x)) one

-- ---- a cut

module _ (laws : LossReading) (w : World) (h : List Line) (m : Move) (count : ℕ) (f g : File) (s : State)
    (k : Follows w h m count f g s) (i : Input) (is : input_in w m.action ≡ Some i)
    (takes : takes_loss (Some (step w.server m.chosen i)) ≡ true) where
  abbrev did : ServerStep
  did = step w.server m.chosen i

  pub loss : TakesLoss w.server m.chosen i
  loss = loss_taken w.server m.chosen i takes

  pub its : IsDelivered w m i
  its =
      subst (IsDelivered w m) (sym loss.asked.is)
      (is_delivered w m loss.now (node.Client loss.request.client) (Asks loss.request) (is ∙ ap Some loss.asked.is))

  abbrev head : Line
  head = line.Delivered its.number delivery.Taken

  pub told_lines : (delivers w m.chosen its.number).told ≡ head ∷ notes_of w m.chosen i
  told_lines = delivered_told w m.chosen i its.number its.comes

  pub named : IsNamedInput i
  named = by (delivers_lead w m.chosen its.number)
    where
      by : Leads w (brought w (slice_get w.network.messages its.number)) (delivers w m.chosen its.number) → IsNamedInput i
      by (Silent told posts none) = absurd (cc (sym none ∙ its.comes))
      by (Heads l later told lead clock brings flat) =
          let same : l ≡ head = cc (sym told ∙ told_lines) in
          named_input (server_of w) head i (ap (input_at (server_of w)) (sym same) ∙ brings ∙ its.comes) tt

  abbrev number : ℕ
  number = length (delivers w m.chosen its.number).world.network.messages

  abbrev sent : List Outgoing → List Line
  sent os = sent_lines number (filter is_addressed (map server_post os))

  pub last : (x : Line) × (sent (Answers loss.answer ∷ []) ≡ x ∷ []) × (sent_taken x ≡ true)
  last =
      tail_is (Answers loss.answer) number
      (subst (λ (os : List Outgoing). is_told_taken (sent os) ≡ true) loss.sends
      (laws.told w did [] number (reached w h k.moment) (record { input = i; chosen = m.chosen; sends = refl }) takes))

  pub lines : (sends_all (delivers w m.chosen its.number)).lines ≡ head ∷ (map note_line did.notes ++ (last.0 ∷ []))
  lines =
      ap (λ (ls : List Line). ls ++ sent_lines number (delivers w m.chosen its.number).posts) told_lines
      ∙ ap (λ (ps : List Post). (head ∷ notes_of w m.chosen i) ++ sent_lines number ps)
      ((server_moves w (record { action = Delivers its.number; chosen = m.chosen })).posts did
      (ap (step_by w.server m.chosen) its.comes))
      ∙ ap (λ (os : List Outgoing). (head ∷ notes_of w m.chosen i) ++ sent os) loss.sends
      ∙ ap (λ (ls : List Line). (head ∷ notes_of w m.chosen i) ++ ls) last.1
      ∙ ap (λ (ls : List Line). head ∷ (ls ++ (last.0 ∷ [])))
      (known_all did.notes
      (laws.known w h k.moment (are_named h (written_front h (take count (lines_in w m)) k.calm.scenario.written)) m.chosen i
      named))

  pub cut : IsCut laws.reading.moments w h m i is its.number its.comes did.notes last.0 last.2 lines count
  cut = cut_is laws.reading.moments w h m i is its.number its.comes did.notes last.0 last.2 lines its.action count

  -- ---- events

  abbrev all_events : Lines
  all_events = events_of s w (owed k.related) f m

  behind_is : file_at did.state.files f.kept.number ≡ Some g
  behind_is =
      ap (λ (o : Option ServerStep). file_at (server_behind w.server o).files f.kept.number)
      (sym (ap (step_by w.server m.chosen) is))
      ∙ sym (ap (λ (v : Server). file_at v.files f.kept.number) (server_moves w m).server) ∙ k.goes

  events_at : (n q : ℕ) → n ≡ lines_before m.action + q →
      joined (take n all_events) ≡ joined (take (suc q) (server_goes s w did i (Some f) (Some g)))
  events_at n q at_ =
      ap (λ (x : Lines). joined (take n x)) (events_are s w (owed k.related) f m i is)
      ∙ led_joined m.action _ n q at_
      ∙ front_joined (suc q)
      (server_goes s w did i (file_at w.server.files f.kept.number) (file_at did.state.files f.kept.number))
      (drive_events s w (owed k.related) f m.action) (drive_quiet s w (owed k.related) f m.action i is)
      ∙ ap (λ (o : Option File). joined (take (suc q) (server_goes s w did i o (file_at did.state.files f.kept.number)))) k.there
      ∙ ap (λ (o : Option File). joined (take (suc q) (server_goes s w did i (Some f) o))) behind_is

  early : (q : ℕ) → count ≤ lines_before m.action + q → q ≤ length did.notes →
      AreAll IsSilent (joined (take count all_events))
  early q low few = fewer_are IsSilent count (lines_before m.action + q) all_events low (elim (goes_at w f g i did
      (Answers loss.answer) loss.sends s q) [
        | inl z ↦ subst (AreAll IsSilent) (sym (events_at (lines_before m.action + q) q refl)) z.1
        | inr z ↦ let l : length did.notes < q = z.0 in absurd (omega (arith, l, few))
      ])

  pub late : (q : ℕ) → count ≡ lines_before m.action + q → length did.notes < q →
      EndsWith w f g i s (λ t. table.sent t w.server g i (Answers loss.answer)) (joined (take count all_events))
  late q at_ many = elim (goes_at w f g i did (Answers loss.answer) loss.sends s q) [
    | inl z ↦ let l : q ≤ length did.notes = z.0 in absurd (omega (arith, l, many))
    | inr z ↦
        subst (EndsWith w f g i s (λ t. table.sent t w.server g i (Answers loss.answer))) (sym (events_at count q at_)) z.1
  ]

  module _ (pairs : Pairs) (paired : ArePaired s f.kept.number (moment_of h).log.entries pairs) where
    -- what was returned in the message
    abbrev pub returned : Option ℕ
    returned = returned_at (seen h).server.sent (line.Delivered its.number delivery.Taken)

    abbrev u : State
    u = behind k.related m count

    abbrev Goal : List Logged → Type 0
    Goal es = ArePaired u f.kept.number es pairs

    quiet : AreAll IsSilent (joined (take count all_events)) → Goal (moment_of h).log.entries
    quiet silent =
        paired_stays s u f.kept.number (moment_of h).log.entries pairs
        (silent_stay s (joined (take count all_events)) silent) paired

    taken : LossIsOver s u (joined (take count all_events)) returned → (o : Option ℕ) → returned ≡ o →
        Goal (taken_by (moment_of h).log true o).entries
    taken z None e = quiet (z.none e)
    taken z (Some n) e = taken_paired s u n (z.under n e) f.kept.number (moment_of h).log.entries pairs paired

    pub by_cut : (EndsWith w f g i s (λ t. table.sent t w.server g i (Answers loss.answer)) (joined (take count all_events)) →
        LossIsOver s u (joined (take count all_events)) returned) →
        IsCut laws.reading.moments w h m i is its.number its.comes did.notes last.0 last.2 lines count →
        Goal (moment_of (lines_to w h m count)).log.entries
    by_cut over (Before q low few none) =
        subst Goal (ap (λ (l : Log). l.entries) (sym (untold_log laws.reading w h m count i is none))) (quiet (early q low few))
    by_cut over (Behind q at_ many log) =
        subst Goal (ap (λ (l : Log). l.entries) (sym log)) (taken (over (late q at_ many)) returned refl)

pub losses_pair : LossReading → LossesAreOver → ServersPair true
losses_pair laws over w h m count f g s pairs k tied i is takes =
    by_cut laws w h m count f g s k.shown.follows i is takes pairs k.shown.shown.paired
    (over w h m count f g s pairs k tied i is (loss laws w h m count f g s k.shown.follows i is takes)
    (its laws w h m count f g s k.shown.follows i is takes))
    (cut laws w h m count f g s k.shown.follows i is takes)
