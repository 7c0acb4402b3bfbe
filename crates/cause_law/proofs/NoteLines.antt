-- The further lines of a step of the server tell what its notes tell.
use Rattle.std.proofs.Common.{◌≡◌, ℕ, ◌+◌, Bool, true, false, List, [], ◌∷◌, ◌++◌, length, filter, slice_get, Option, Some, None, refl, sym, ap, ◌∙◌, inl, inr}
use Rattle.std.specs.List.{filter_map}
use Rattle.std.proofs.lemmas.Bool.{cases_Bool, false≢true}
use Rattle.std.proofs.lemmas.List.{append-nil}
use Rattle.std.proofs.lemmas.List.Elements.{filter-append}
use Rattle.osd_lists.specs.declared.node.Node.TheVariants as node
use Rattle.server_rules.specs.Files.{Step}
use Rattle.server_rules.specs.Messages.{Message}
use Rattle.server_rules.specs.History.{Input, Hears, Makes, Obeys, Adds, Zones, Formats, Resends, Crashes, Opens as OpensAgain, step}
use Rattle.scenario_text.specs.declared.event.Event.TheVariants as event
use Rattle.scenario_text.specs.declared.event.Machine.TheVariants as machine
use Rattle.scenario_text.specs.declared.event.Sender.TheVariants as sender
use Rattle.scenario_text.specs.declared.line.Delivery.TheVariants as delivery
use Rattle.scenario_text.specs.declared.line.Note.{Note}
use Rattle.scenario_text.specs.declared.line.Outcome.{Outcome as ToldOutcome}
use Rattle.scenario_text.specs.declared.line.Line.{Line}
use Rattle.scenario_text.specs.declared.line.Line.TheVariants as line
use Rattle.world_history.specs.ServerNames.{RawMap}
use Rattle.world_history.specs.ClientNames.{CallOp, Outcome}
use Rattle.world_history.specs.State.{World}
use Rattle.world_history.specs.Told.{kind_of, told_refusal}
use Rattle.world_history.specs.Names.{known_note_line, known_outcome}
use Rattle.client_rules.specs.History.{step as client_step}
use Rattle.osd_commands.specs.Commands.{reading}
use Rattle.world_history.specs.Drives.{judges, command_in}
use Rattle.world_history.specs.Handed.{Post, end_line, ended_by, op_in, for_server}
use Rattle.world_history.specs.Moves.{Act, Action, Opens, Delivers, TimesOut, Pends, has_algorithm, raw_of, acts}
use Rattle.world_history.specs.Sending.{Move, move, sent_line, sent_lines}
use Rattle.world_history.specs.Reading.{is_head}
use Rattle.world_history.specs.Book.{made_of, step_by}
use Rattle.history_law.specs.Moves.{number_in, given_in, IsForServer, front_of, IsFileRefusal, IsQuiet, AreQuiet}
use Rattle.history_law.specs.Said.{IsDelivered}
use Rattle.history_law.proofs.Moves.{each_act}
use Rattle.history_law.specs.BookMoments.{with_event, lines_in}
use Rattle.history_law.specs.Doing.{brought, input_in, did_in, ServerMoves}
use Rattle.cause_law.proofs.Reading.{AllHeads, all_heads}
use Rattle.cause_law.proofs.CauseInputs.{IsMoved}

-- ---- what comes to the server in a move

pub brought_is : (w : World) (d : IsDelivered w node.Server) (m : Message) → w.down ≡ false
    → for_server d.posted.message ≡ Some m
    → brought w (slice_get w.network.messages d.number) ≡ Some (Hears w.clock d.posted.message.from m)
brought_is w d m up reads = rw (d.there, d.receiver, up, reads) refl

made_as : (f : ℕ) (m : RawMap) (tag : ℕ) (zoned : Bool) (i : Input) → made_of f m tag zoned ≡ Some i → Makes f m tag zoned ≡ i
made_as f m tag zoned i e = elim (cases_Bool (has_algorithm m)) [ inl t ↦ cc (rw t at e) | inr z ↦ absurd (cc (rw z at e)) ]

given_same : (w : World) (action : Action) (i j : Input) → given_in action ≡ Some j → input_in w action ≡ Some i → j ≡ i
given_same w (Opens (event.File f m tag)) i j g e = let same : Makes f (raw_of m) tag false ≡ j = cc g in
    sym same ∙ made_as f (raw_of m) tag false i e
given_same w (Opens (event.ZonedFile f m tag)) i j g e = let same : Makes f (raw_of m) tag true ≡ j = cc g in
    sym same ∙ made_as f (raw_of m) tag true i e
given_same w (Opens (event.Zone d zone)) i j g e = cc (sym g ∙ e)
given_same w (Opens (event.Format format)) i j g e = cc (sym g ∙ e)
given_same w (Opens (event.Resend sender.Server)) i j g e = absurd (cc e)
given_same w (Opens (event.Recall f)) i j g e = cc (sym g ∙ e)
given_same w (Opens (event.Revoke f)) i j g e = cc (sym g ∙ e)
given_same w (Opens (event.Rebuild f)) i j g e = cc (sym g ∙ e)
given_same w (Opens (event.Audit f)) i j g e = cc (sym g ∙ e)
given_same w (Opens (event.Declare d)) i j g e = cc (sym g ∙ e)
given_same w (Opens (event.Crash machine.Server)) i j g e = cc (sym g ∙ e)
given_same w (Opens (event.Reopen machine.Server)) i j g e = cc (sym g ∙ e)
given_same w action i j g e = absurd (cc g)

heard_same : (w : World) (action : Action) (i : Input) (d : IsDelivered w node.Server) (m : Message) → w.down ≡ false
    → for_server d.posted.message ≡ Some m → number_in action ≡ Some d.number → input_in w action ≡ Some i
    → Hears w.clock d.posted.message.from m ≡ i
heard_same w (Opens (event.Deliver n)) i d m up reads number e =
    let same : n ≡ d.number = cc number in
    cc (sym (ap (λ (k : ℕ). brought w (slice_get w.network.messages k)) same ∙ brought_is w d m up reads) ∙ e)
heard_same w (Delivers n) i d m up reads number e =
    let same : n ≡ d.number = cc number in
    cc (sym (ap (λ (k : ℕ). brought w (slice_get w.network.messages k)) same ∙ brought_is w d m up reads) ∙ e)
heard_same w action i d m up reads number e = absurd (cc number)

same_input : (w : World) (action : Action) (i j : Input) → IsForServer w action j → input_in w action ≡ Some i → j ≡ i
same_input w action i (Hears now from m) h e =
    ap (λ (t : ℕ). Hears t from m) h.1 ∙ ap (λ (n : _). Hears w.clock n m) h.2 ∙ heard_same w action i h.0 m h.5 h.3 h.4 e
same_input w action i (Makes n m tag zoned) h e = given_same w action i (Makes n m tag zoned) h e
same_input w action i (Obeys kind n) h e = given_same w action i (Obeys kind n) h e
same_input w action i (Adds d) h e = given_same w action i (Adds d) h e
same_input w action i (Zones d zone) h e = given_same w action i (Zones d zone) h e
same_input w action i (Formats n) h e = given_same w action i (Formats n) h e
same_input w action i Resends h e = given_same w action i Resends h e
same_input w action i Crashes h e = given_same w action i Crashes h e
same_input w action i OpensAgain h e = given_same w action i OpensAgain h e

-- ---- lines that tell something

-- a note
abbrev pub is_note : Line → Bool
is_note (line.Note f n) = true
is_note l = false

-- no other line tells of it, nor one that a file is refused
pub record IsOfNotes (tells : Line → Bool) : Type 0 where
  pub others : (l : Line) → is_note l ≡ false → tells l ≡ false
  pub refusals : (file : ℕ) (n : Note) → IsFileRefusal n → tells (line.Note file n) ≡ false

module _ (tells : Line → Bool) (k : IsOfNotes tells) where
  abbrev pub Telling : List Line → List Line
  Telling ls = filter tells ls

  abbrev pub NoneTells : List Line → Type 0
  NoneTells ls = Telling ls ≡ []

  one_less : (l : Line) (ls : List Line) → tells l ≡ false → Telling (l ∷ ls) ≡ Telling ls
  one_less l ls e = rw e refl

  -- a line that is no note
  pub other : (l : Line) (ls : List Line) → is_note l ≡ false → Telling (l ∷ ls) ≡ Telling ls
  other l ls e = one_less l ls (k.others l e)

  quiet_line : (l : Line) → IsQuiet l → tells l ≡ false
  quiet_line (line.Note f n) q = k.refusals f n q
  quiet_line l q = k.others l refl

  pub quiet_none : (ls : List Line) → AreQuiet ls → NoneTells ls
  quiet_none [] q = refl
  quiet_none (l ∷ ls) q = one_less l ls (quiet_line l q.0) ∙ quiet_none ls q.1

  end_none : (c : ℕ) (o : Option ToldOutcome) → NoneTells (end_line c o)
  end_none c None = refl
  end_none c (Some o) = other (line.Ended c o) [] refl

  pub ended_none : (c : ℕ) (op : Option CallOp) (o : Option Outcome) → NoneTells (ended_by c op o)
  ended_none c None o = refl
  ended_none c (Some op) None = refl
  ended_none c (Some op) (Some o) = end_none c (known_outcome (kind_of op) o)

  pub front_none : (action : Action) (d : _) → NoneTells (front_of action d)
  front_none (Opens (event.Deliver n)) d = other (line.Delivered n d) [] refl
  front_none (Opens (event.Timeout c x)) d = other (line.TimedOut c x) [] refl
  front_none (Delivers n) d = other (line.Delivered n d) [] refl
  front_none (TimesOut c x) d = other (line.TimedOut c x) [] refl
  front_none action d = refl

  pub both_none : (xs ys : List Line) → NoneTells xs → Telling (xs ++ ys) ≡ Telling ys
  both_none xs ys e = filter-append tells xs ys ∙ ap (λ (ls : List Line). ls ++ Telling ys) e

  pub sent_none : (n : ℕ) (ps : List Post) → NoneTells (sent_lines n ps)
  unfolding sent_lines
  sent_none n [] = refl
  sent_none n (p ∷ ps) = other (sent_line n p.message) (sent_lines (n + 1) ps) refl ∙ sent_none (n + 1) ps

  pub event_none : (a : Action) (ls : List Line) → Telling (with_event a ls) ≡ Telling ls
  event_none (Opens e) ls = other (line.Event e) ls refl
  event_none (Delivers n) ls = refl
  event_none (TimesOut c x) ls = refl
  event_none (Pends c) ls = refl

  no_front : (xs ys : List Line) → NoneTells (xs ++ ys) → NoneTells ys
  no_front [] ys e = e
  no_front (x ∷ xs) ys e = elim (cases_Bool (tells x)) [
    | inl t ↦ absurd (cc (rw t at e))
    | inr z ↦ no_front xs ys (rw z at e)
  ]

  -- ---- what a move tells

  abbrev notes_of : Step → List Line
  notes_of t = filter_map known_note_line t.notes

  module _ (moves : ServerMoves) (w : World) (m : Move) (i : Input) (comes : input_in w m.action ≡ Some i) where
    abbrev did : Step
    did = step w.server m.chosen i

    abbrev Tells : List Line → Type 0
    Tells told = (front : List Line) → told ≡ front ++ notes_of did → Telling told ≡ Telling (notes_of did)

    -- where nothing is told, the notes don't
    tells_none : (told : List Line) → NoneTells told → Tells told
    tells_none told none front is = none ∙ sym (no_front front (notes_of did) (ap Telling (sym is) ∙ none))

    told_by : Tells (acts w m.chosen m.action).told
    told_by = each_act w m.chosen (λ (a : Act). Tells a.told) m.action (record {
      rests = λ ms same told quiet. tells_none told (quiet_none told quiet);
      refused = λ c a found op handed e is.
          tells_none (line.Refused c (told_refusal e) ∷ []) (other (line.Refused c (told_refusal e)) [] refl);
      clock = λ time. tells_none [] refl;
      serves = λ ms same j handed front is.
          both_none (front_of m.action delivery.Taken) (notes_of (step w.server m.chosen j))
          (front_none m.action delivery.Taken)
          ∙ ap (λ (x : Input). Telling (notes_of (step w.server m.chosen x))) (same_input w m.action i j handed comes);
      goes = λ ms same c a found j handed.
          let ended : List Line = ended_by c (op_in a.state j) (client_step a.state j).outcome in
          tells_none (front_of m.action delivery.Taken ++ ended)
          (both_none (front_of m.action delivery.Taken) ended (front_none m.action delivery.Taken)
          ∙ ended_none c (op_in a.state j) (client_step a.state j).outcome);
      comes = λ c is. tells_none [] refl;
      stops = λ c a found. tells_none [] refl;
      judged = λ ms same d a found hears x number.
          let l : Line = line.Delivered x.number (delivery.Judged (judges a (command_in x.posted.message.body)).verdict) in
          tells_none (l ∷ []) (other l [] refl);
      injected = λ d bytes is a found.
          let l : Line = line.Judged d (judges a (reading bytes)).verdict in
          tells_none (l ∷ []) (other l [] refl);
      turns = λ d a b found t. tells_none [] refl;
      known = λ d key capacity stored is knows. tells_none [] refl;
      adds = λ d key capacity stored is knows. tells_none [] refl;
    })

    lines_tell : Telling (lines_in w m) ≡ Telling (notes_of did)
    lines_tell =
        let a : Act = acts w m.chosen m.action in
        let n : ℕ = length a.world.network.messages in
        let it = (moves w m).told did (ap (step_by w.server m.chosen) comes) in
        event_none m.action (move w m).lines ∙ filter-append tells a.told (sent_lines n a.posts)
        ∙ ap (λ (ls : List Line). Telling a.told ++ ls) (sent_none n a.posts) ∙ append-nil (Telling a.told)
        ∙ told_by it.0 it.1

  -- ---- the further lines of the step

  head_line : (l : Line) → is_head l ≡ true → tells l ≡ false
  head_line (line.Note f n) e = absurd (false≢true e)
  head_line l e = k.others l refl

  heads_none : (ls : List Line) → AllHeads ls → NoneTells ls
  heads_none [] h = refl
  heads_none (l ∷ ls) h = one_less l ls (head_line l h.0) ∙ heads_none ls h.1

  -- they tell what the notes of the step tell
  pub rest_tells : (moves : ServerMoves) (w : World) (h : List Line) (m : Move) (front : List Line) (l : Line)
      (after : List Line) → lines_in w m ≡ front ++ l ∷ after → (i : Input) → IsMoved w h m front l after i → (t : Step)
      → did_in w m ≡ Some t → filter tells after ≡ filter tells (filter_map known_note_line t.notes)
  rest_tells moves w h m front l after is i moved t does = by (input_in w m.action) refl does
    where
      same : (u v : Step) → Some u ≡ Some v → u ≡ v
      same u v e = cc e

      by : (o : Option Input) → input_in w m.action ≡ o → step_by w.server m.chosen o ≡ Some t
          → Telling after ≡ Telling (notes_of t)
      by None e d = absurd (cc d)
      by (Some j) e d =
          sym (one_less l after (head_line l moved.head))
          ∙ sym (both_none front (l ∷ after) (heads_none front (all_heads w m front l after is moved.head)))
          ∙ ap Telling (sym is) ∙ lines_tell moves w m j e ∙ ap (λ (u : Step). Telling (notes_of u)) (same _ t d)
