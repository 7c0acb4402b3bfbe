-- What each move is to the server: a crash, an opening, a step while it is up, or nothing.
use Rattle.std.proofs.Common.{◌≡◌, ◌⊎◌, ℕ, ◌<◌, Bool, true, false, true≢false, List, [], ◌∷◌, Option, Some, None, refl, sym, ap, subst, ◌∙◌, inl, inr}
use Rattle.std.proofs.lemmas.Bool.{false≢true}
use Rattle.std.specs.List.{filter_map}
use Rattle.scenario_text.specs.declared.names.TheConstants.{FILES}
use Rattle.scenario_text.specs.declared.event.Event.{Event}
use Rattle.scenario_text.specs.declared.event.Event.TheVariants as event
use Rattle.scenario_text.specs.declared.event.Machine.TheVariants as machine
use Rattle.scenario_text.specs.declared.event.Sender.TheVariants as sender
use Rattle.scenario_text.specs.declared.line.Delivery.TheVariants as delivery
use Rattle.scenario_text.specs.declared.line.Note.TheVariants as note
use Rattle.scenario_text.specs.declared.line.Line.{Line}
use Rattle.scenario_text.specs.declared.line.Line.TheVariants as line
use Rattle.server_rules.specs.History.{Input, Crashes, Opens as Opened, step}
use Rattle.server_rules.specs.Laws.{In}
use Rattle.server_rules.proofs.Members.{in_front, in_behind}
use Rattle.world_history.specs.Names.{known_note_line}
use Rattle.world_history.specs.ServerNames.{Note}
use Rattle.world_history.specs.State.{World}
use Rattle.world_history.specs.Moves.{Act, Action, Opens, Delivers, TimesOut, Pends, begins, gives, acts}
use Rattle.world_history.specs.Sending.{Move, move, sent_lines, sends_all}
use Rattle.history_law.specs.Moments.{with_event, lines_in}
use Rattle.history_law.specs.Moves.{given_in, down_behind, front_of, IsForServer, MoveCases}
use Rattle.history_law.proofs.Moves.{each_act}
use Rattle.component_law.specs.Naming.{IsNamedInput}
use Rattle.component_law.specs.Tags.{fence_note}
use Rattle.component_law.specs.Words.{Each}
use Rattle.component_law.proofs.Inside.{shape_each, opens_each}
use Rattle.component_law.proofs.NextMoves.{acts_shape}
use Rattle.component_law.proofs.Shapes.{is_event}
use Rattle.component_law.specs.Turns.{in_turn}
use Rattle.component_law.proofs.Doing.{Comes, IsNamedAction, IsAllowed, comes}
use Rattle.cause_law.specs.Reopened.{crash_line, reopen_line}
use Rattle.cause_law.proofs.ReopenSteps.{is_restart}
use Rattle.cause_law.proofs.ReopenNoting.{fence_told}

-- ---- the event of a move

each_in : (P : Line → Type 0) (ls : List Line) (l : Line) → Each P ls → In l ls → P l
each_in P [] l e i = absurd i
each_in P (x ∷ ls) l e (inl same) = subst P (sym same) e.0
each_in P (x ∷ ls) l e (inr i) = each_in P ls l e.1 i

none_inside : (ls : List Line) (e : Event) → Each (λ (l : Line). is_event l ≡ false) ls → In (line.Event e) ls → ⊥
none_inside ls e each i = true≢false (each_in (λ (l : Line). is_event l ≡ false) ls (line.Event e) each i)

-- its own line is the only one of an event
pub events_first : (w : World) (chosen : List ℕ) (action : Action) → IsAllowed w action → (e : Event)
    → In (line.Event e) (lines_in w (record { action = action; chosen = chosen })) → action ≡ Opens e
events_first w chosen (Opens x) allowed e (inl same) = of_line same
  where
    of_line : line.Event e ≡ line.Event x → Opens x ≡ Opens e
    of_line q = let it : e ≡ x = cc q in ap (λ (y : Event). Opens y) (sym it)
events_first w chosen (Opens x) allowed e (inr i) =
    absurd (none_inside (sends_all (begins w chosen x)).lines e
    (opens_each (λ (l : Line). is_event l ≡ false) (λ l q. q) w chosen x allowed) i)
events_first w chosen (Delivers n) allowed e i =
    absurd (none_inside (sends_all (acts w chosen (Delivers n))).lines e
    (shape_each (λ (l : Line). is_event l ≡ false) (λ l q. q) _ (acts_shape w chosen (Delivers n) refl)) i)
events_first w chosen (TimesOut c k) allowed e i =
    absurd (none_inside (sends_all (acts w chosen (TimesOut c k))).lines e
    (shape_each (λ (l : Line). is_event l ≡ false) (λ l q. q) _ (acts_shape w chosen (TimesOut c k) refl)) i)
events_first w chosen (Pends c) allowed e i =
    absurd (none_inside (sends_all (acts w chosen (Pends c))).lines e
    (shape_each (λ (l : Line). is_event l ≡ false) (λ l q. q) _ (acts_shape w chosen (Pends c) refl)) i)

-- ---- what a move is

-- these lines tell of each fence of these notes that it is over
abbrev pub TellFences : List Note → List Line → Type 0
TellFences ns ls = (n tag : ℕ) → n < FILES → In (fence_note n tag) ns → In (line.Note n (note.Fenced tag)) ls

-- none is that of a crash or an opening
abbrev pub NoRestart : List Line → Type 0
NoRestart ls = (In crash_line ls → ⊥) × (In reopen_line ls → ⊥)

pub data Moves (w : World) (m : Move) : Type 0 where
  Crashing : lines_in w m ≡ crash_line ∷ [] → w.down ≡ false → (move w m).world.server ≡ (step w.server m.chosen Crashes).state
      → (move w m).world.down ≡ true → Moves w m
  Opening : In reopen_line (lines_in w m) → w.down ≡ true
      → (move w m).world.server ≡ (step w.server m.chosen Opened).state → (move w m).world.down ≡ false
      → TellFences (step w.server m.chosen Opened).notes (lines_in w m) → Moves w m
  Resting : NoRestart (lines_in w m) → (move w m).world.server.files ≡ w.server.files
      → (move w m).world.down ≡ w.down → Moves w m
  Serving : (i : Input) → NoRestart (lines_in w m) → is_restart i ≡ false → IsNamedInput i → w.down ≡ false
      → (move w m).world.down ≡ false → (move w m).world.server ≡ (step w.server m.chosen i).state
      → TellFences (step w.server m.chosen i).notes (lines_in w m) → Moves w m

-- ---- an action

data Effect (w : World) (chosen : List ℕ) (action : Action) (a : Act) : Type 0 where
  Idle : a.world.server.files ≡ w.server.files → a.world.down ≡ w.down → Effect w chosen action a
  Does : (i : Input) → IsForServer w action i → a.world.server ≡ (step w.server chosen i).state
      → a.world.down ≡ down_behind w.down i
      → ((l : Line) → In l (filter_map known_note_line (step w.server chosen i).notes) → In l a.told)
      → Effect w chosen action a

effects : (w : World) (chosen : List ℕ) (action : Action) → MoveCases w chosen action (Effect w chosen action)
effects w chosen action = record {
  rests = λ ms said told quiet. Idle refl refl;
  refused = λ c a found op is e why. Idle refl refl;
  clock = λ time. Idle refl refl;
  serves = λ ms said i is.
      Does i is refl refl (λ l there.
      in_behind l (front_of action delivery.Taken) (filter_map known_note_line (step w.server chosen i).notes) there);
  goes = λ ms said c a found i is. Idle refl refl;
  comes = λ c is. Idle refl refl;
  stops = λ c a found. Idle refl refl;
  judged = λ ms said d a found hears m number. Idle refl refl;
  injected = λ d bytes is a found. Idle refl refl;
  turns = λ d a b found turns. Idle refl refl;
  known = λ d key capacity stored is knows. Idle refl refl;
  adds = λ d key capacity stored is knows. Idle refl refl;
}

-- ---- the two events

abbrev restarts_by : Option Input → Bool
restarts_by None = false
restarts_by (Some i) = is_restart i

-- an action is a crash of the server, its opening, or neither
kind_of : (a : Action) → (restarts_by (given_in a) ≡ false) ⊎ (a ≡ Opens (event.Crash machine.Server))
    ⊎ (a ≡ Opens (event.Reopen machine.Server))
kind_of (Opens (event.Crash machine.Server)) = inr (inl refl)
kind_of (Opens (event.Reopen machine.Server)) = inr (inr refl)
kind_of (Opens (event.Resend sender.Server)) = inl refl
kind_of (Opens (event.Resend (sender.Client c))) = inl refl
kind_of a = inl refl

-- what is no restart comes to a server that is up
up_for : (down : Bool) (i : Input) → is_restart i ≡ false → in_turn down i ≡ true
    → (down ≡ false) × (down_behind down i ≡ false)
up_for false Crashes r t = absurd (true≢false r)
up_for false Opened r t = absurd (true≢false r)
up_for false i r t = (refl, refl)
up_for true Crashes r t = absurd (true≢false r)
up_for true Opened r t = absurd (true≢false r)
up_for true i r t = absurd (false≢true t)

was_up : (down : Bool) → in_turn down Crashes ≡ true → down ≡ false
was_up false t = refl
was_up true t = absurd (false≢true t)

plain_for : (w : World) (action : Action) (i : Input) → restarts_by (given_in action) ≡ false → IsForServer w action i
    → is_restart i ≡ false
plain_for w action Crashes r is = absurd (false≢true (sym r ∙ ap restarts_by is))
plain_for w action Opened r is = absurd (false≢true (sym r ∙ ap restarts_by is))
plain_for w action i r is = refl

behind_event : (a : Action) (ls : List Line) (l : Line) → In l ls → In l (with_event a ls)
behind_event (Opens e) ls l i = inr i
behind_event (Delivers number) ls l i = i
behind_event (TimesOut c k) ls l i = i
behind_event (Pends c) ls l i = i

module _ (w : World) (chosen : List ℕ) (action : Action) (allowed : IsAllowed w action) (named : IsNamedAction action) where
  abbrev m : Move
  m = record { action = action; chosen = chosen }

  no_restart : restarts_by (given_in action) ≡ false → NoRestart (lines_in w m)
  no_restart none = (
    λ i. false≢true (sym none ∙ ap (λ (a : Action). restarts_by (given_in a))
        (events_first w chosen action allowed (event.Crash machine.Server) i)),
    λ i. false≢true (sym none ∙ ap (λ (a : Action). restarts_by (given_in a))
        (events_first w chosen action allowed (event.Reopen machine.Server) i)),
  )

  by_effect : restarts_by (given_in action) ≡ false → Effect w chosen action (acts w chosen action) → Moves w m
  by_effect none (Idle files down) = Resting (no_restart none) files down
  by_effect none (Does i is state down told) =
      let plain : is_restart i ≡ false = plain_for w action i none is in
      let came : Comes w i = comes w action i is named allowed in
      let up = up_for w.down i plain came.turn in
      Serving i (no_restart none) plain came.named up.0 (down ∙ up.1) state (λ n tag known there.
      behind_event action (move w m).lines (line.Note n (note.Fenced tag))
      (in_front (line.Note n (note.Fenced tag)) (acts w chosen action).told _
      (told _ (fence_told n tag (step w.server chosen i).notes known there))))

pub each_move : (w : World) (chosen : List ℕ) (action : Action) → IsAllowed w action → IsNamedAction action
    → Moves w (record { action = action; chosen = chosen })
unfolding begins gives sent_lines
each_move w chosen action allowed named = elim (kind_of action) [
  | inl none ↦
      by_effect w chosen action allowed named none
      (each_act w chosen (Effect w chosen action) action (effects w chosen action))
  | inr (inl is) ↦
      subst (λ (a : Action). Moves w (record { action = a; chosen = chosen })) (sym is) (Crashing refl
      (was_up w.down (comes w (Opens (event.Crash machine.Server)) Crashes refl tt (subst (IsAllowed w) is allowed)).turn) refl
      refl)
  | inr (inr is) ↦
      subst (λ (a : Action). Moves w (record { action = a; chosen = chosen })) (sym is)
      (Opening (inl refl) (comes w (Opens (event.Reopen machine.Server)) Opened refl tt (subst (IsAllowed w) is allowed)).turn
      refl refl (λ n tag known there.
      inr (in_front (line.Note n (note.Fenced tag)) _ _
      (fence_told n tag (step w.server chosen Opened).notes known there))))
]
