-- Where lines of a move say that a report was taken, the step of the server takes one as a loss.
use Rattle.std.proofs.Common.{◌≡◌, ◌++◌, ◌||◌, ◌&&◌, ℕ, zero, suc, Bool, true, false, List, [], ◌∷◌, take, map, filter, length, nat_lt, Some, refl, sym, ap, ◌∙◌}
use Rattle.std.specs.List.{list_any, filter_map, cons_option}
use Rattle.std.proofs.lemmas.List.Folds.{list_any-append}
use Rattle.scenario_text.specs.declared.names.TheConstants.{FILES}
use Rattle.scenario_text.specs.declared.event.Event.{Event}
use Rattle.scenario_text.specs.declared.event.Event.TheVariants as event
use Rattle.scenario_text.specs.declared.line.Delivery.TheVariants as delivery
use Rattle.scenario_text.specs.declared.line.Line.{Line}
use Rattle.scenario_text.specs.declared.line.Line.TheVariants as line
use Rattle.server_rules.specs.Files.{Step as ServerStep}
use Rattle.server_rules.specs.History.{Input, step}
use Rattle.world_history.specs.ServerNames.{Note}
use Rattle.world_history.specs.State.{World}
use Rattle.world_history.specs.Names.{known_note_line, note_line, is_tellable_note, where_known}
use Rattle.world_history.specs.Handed.{Post, is_addressed, server_post}
use Rattle.world_history.specs.Moves.{Act, Action, Opens, Delivers, TimesOut, Pends, acts, begins}
use Rattle.world_history.specs.Sending.{Move, sends_all, sent_lines}
use Rattle.world_history.specs.Book.{step_by}
use Rattle.world_history.specs.Calm.{is_told_taken, sent_taken}
use Rattle.history_law.specs.BookMoments.{with_event, lines_in}
use Rattle.history_law.specs.Doing.{input_in}
use Rattle.history_law.proofs.Doing.{server_moves}
use Rattle.headline_law.specs.Ending.{FollowedAnswersFit, ToldAreTaken}
use Rattle.headline_law.proofs.CalmLines.{TellsNotes, event_told, delivers_told}
use Rattle.headline_law.proofs.CalmSends.{sends_back}

-- ---- lines

pub or_true : (b : Bool) → (b || true) ≡ true
or_true true = refl
or_true false = refl

taken_front : (n : ℕ) (ls : List Line) → is_told_taken (take n ls) ≡ true → is_told_taken ls ≡ true
taken_front zero ls e = absurd (cc e)
taken_front (suc n) [] e = absurd (cc e)
taken_front (suc n) (l ∷ ls) e = by (taken_front n ls) (sent_taken l) e
  where
    by : (is_told_taken (take n ls) ≡ true → is_told_taken ls ≡ true) → (b : Bool) →
        (b || is_told_taken (take n ls)) ≡ true → (b || is_told_taken ls) ≡ true
    by rest true t = refl
    by rest false t = rest t

taken_behind : (xs ys : List Line) → is_told_taken ys ≡ true → is_told_taken (xs ++ ys) ≡ true
taken_behind xs ys e = list_any-append sent_taken xs ys ∙ rw e (or_true (list_any sent_taken xs))

untaken_before : (xs ys : List Line) → is_told_taken xs ≡ false → is_told_taken (xs ++ ys) ≡ true → is_told_taken ys ≡ true
untaken_before xs ys none e =
    ap (λ (b : Bool). b || is_told_taken ys) (sym none) ∙ sym (list_any-append sent_taken xs ys) ∙ e

-- notes say nothing of it
one_untaken : (known : Bool) (n : Note) (ls : List Line) → is_told_taken ls ≡ false →
    is_told_taken (cons_option (where_known known (note_line n)) ls) ≡ false
one_untaken true n ls e = e
one_untaken false n ls e = e

notes_untaken : (ns : List Note) → is_told_taken (filter_map known_note_line ns) ≡ false
notes_untaken [] = refl
notes_untaken (n ∷ ns) =
    one_untaken (nat_lt n.file FILES && is_tellable_note n.kind) n (filter_map known_note_line ns) (notes_untaken ns)

-- ---- what a move tells

module _ (w : World) (m : Move) (i : Input) where
  abbrev Tells : Act → Type 0
  Tells a = (front : List Line) × (is_told_taken front ≡ false) × TellsNotes w m.chosen i front a.told

  told_by : (x : Action) → input_in w x ≡ Some i → Tells (acts w m.chosen x)
  unfolding begins
  told_by (Opens e) is = by_event e is
    where
      by_event : (y : Event) → input_in w (Opens y) ≡ Some i → Tells (acts w m.chosen (Opens y))
      by_event (event.Deliver n) r =
          (line.Delivered n delivery.Taken ∷ [], refl, delivers_told w m.chosen n i r)
      by_event (event.Timeout c j) r = absurd (cc r)
      by_event (event.Inject d bytes) r = absurd (cc r)
      by_event y r = ([], refl, event_told w m.chosen y i refl r)
  told_by (Delivers n) is = (line.Delivered n delivery.Taken ∷ [], refl, delivers_told w m.chosen n i is)
  told_by (TimesOut c j) is = absurd (cc is)
  told_by (Pends c) is = absurd (cc is)

  -- the messages say so, if the lines do
  event_untaken : (x : Action) (ls : List Line) → is_told_taken (with_event x ls) ≡ true → is_told_taken ls ≡ true
  event_untaken (Opens e) ls t = t
  event_untaken (Delivers n) ls t = t
  event_untaken (TimesOut c j) ls t = t
  event_untaken (Pends c) ls t = t

  messages_taken : (a : Act) → Tells a → is_told_taken (sends_all a).lines ≡ true →
      is_told_taken (sent_lines (length a.world.network.messages) a.posts) ≡ true
  messages_taken a t e =
      let sent : List Line = sent_lines (length a.world.network.messages) a.posts in
      let notes : List Line = filter_map known_note_line (step w.server m.chosen i).notes in
      let none : is_told_taken a.told ≡ false =
      ap is_told_taken t.2.are ∙ list_any-append sent_taken t.0 (notes ++ t.2.extra)
      ∙ ap (λ (b : Bool). b || is_told_taken (notes ++ t.2.extra)) t.1
      ∙ list_any-append sent_taken notes t.2.extra
      ∙ ap (λ (b : Bool). b || is_told_taken t.2.extra) (notes_untaken (step w.server m.chosen i).notes) ∙ t.2.untaken in
      untaken_before a.told sent none e

pub told_are_taken : FollowedAnswersFit → ToldAreTaken
told_are_taken fit w h m count f g s k i is front rest q lines told =
    let a : Act = acts w m.chosen m.action in
    let did : ServerStep = step w.server m.chosen i in
    let n : ℕ = length a.world.network.messages in
    let all : is_told_taken (lines_in w m) ≡ true =
    ap is_told_taken lines ∙ taken_behind front rest (taken_front q rest told) in
    let sent : is_told_taken (sent_lines n a.posts) ≡ true =
    messages_taken w m i a (told_by w m i m.action is) (event_untaken w m i m.action (sends_all a).lines all) in
    let posts : a.posts ≡ filter is_addressed (map server_post did.sends) =
    (server_moves w m).posts did (ap (step_by w.server m.chosen) is) in
    sends_back did.sends (fit w h m count f g s k i is) n
    (ap (λ (ps : List Post). is_told_taken (sent_lines n ps)) (sym posts) ∙ sent)
