-- How far an event has come, and what a further move makes of that.
use Rattle.std.specs.Prelude.{◌≡◌, ◌+◌, ◌++◌, ℕ, List, ◌∷◌, length, map, Option, Some, None, Result, Ok, Err, OnOk}
use Rattle.scenario_text.specs.declared.event.Event.{Event}
use Rattle.scenario_text.specs.declared.line.Line.{Line}
use Rattle.scenario_text.specs.declared.line.Line.TheVariants as line
use Rattle.world_history.specs.declared.err.WorldErr.{WorldErr}
use Rattle.world_history.specs.declared.err.WorldErr.TheVariants.{KeptFull, Memory}
use Rattle.world_history.specs.declared.messages.Sent.{Sent}
use Rattle.world_history.specs.ServerNames.{Mended}
use Rattle.world_history.specs.State.{World}
use Rattle.world_history.specs.Moves.{Act as WorldAct, Action, acts}
use Rattle.world_history.specs.Sending.{Move, sends_all, Passes, cut_lines}
use Rattle.world_history.specs.Plans.{Plan, Rule, Prompt, plan_of}
use Rattle.world_history.specs.Refusals.{refusal}
use Rattle.world_history.specs.Runs.{world_after, lines_of, AreDue, plan_after, IsOver, IsFront, FillsUp}
use Rattle.world_history.specs.History.{Appended, Begins}
use Rattle.world_history.specs.Laws.{shown}
use Rattle.world_network.specs.Network.{IsLowestPending}
use Rattle.world_watch.specs.State.{WatchState}
use Rattle.world_watch.specs.Steps.{sees_move}
use Rattle.calm_law.specs.Moving.{kept_at, kept_by, sees_one, sees_moves}
use Rattle.layout_world.specs.declared.parties.Parties.{Parties}
use Rattle.layout_world.specs.State.{Settled, Shows}

-- ---- what the watch sees

-- the watch saw these lines, behind which the parties stand so
abbrev pub SeesBehind : Parties → List Line → (watch now : WatchState) → Type 0
SeesBehind p lines watch now =
    now.moments
    ≡ sees_move (kept_at p.server.state) p.server.mended watch.guesses.sightings p.network.messages watch.moments lines

-- the watch saw these lines, behind which the world stands as this act leaves it, where it ended these repairs
abbrev pub SeesAct : WorldAct → (ended : List Mended) → List Line → (watch now : WatchState) → Type 0
SeesAct a ended lines watch now =
    now.moments
    ≡ sees_move (kept_by (sends_all a).world) ended watch.guesses.sightings
    (map shown (sends_all a).world.network.messages) watch.moments lines

-- ---- a move

-- what performing an act of the world leaves: the parties show the world behind it, and its lines were appended; at the
-- limit those up to it; and for want of memory some first ones
abbrev pub Performed : WorldAct → (new : Parties) → (before after : List Line) → Result (Unit {0}) WorldErr → Type 0
Performed a new before after (Ok u) = Shows new (sends_all a).world × (after ≡ before ++ (sends_all a).lines)
Performed a new before after (Err KeptFull) = Passes a × (after ≡ before ++ cut_lines a)
Performed a new before after (Err Memory) =
    (front : List Line) × (after ≡ before ++ front) × IsFront front (sends_all a).lines
Performed a new before after (Err other) = ⊥

-- the watch saw a move: what it keeps of the moments went on with it, and its guesses stayed
abbrev pub Sees : World → Move → (watch now : WatchState) → Type 0
Sees w m watch now =
    (now.guesses ≡ watch.guesses) × (now.moments ≡ sees_one watch.guesses.sightings watch.moments w m)

-- the world moved by this action, with some drives that the placer names, and the watch saw that
pub record MovesBy (w : World) (action : Action) (new : Parties) (watch now : WatchState) (before after : List Line)
    (r : Result (Unit {0}) WorldErr) : Type 0 where
  pub chosen : List ℕ
  pub performed : Performed (acts w chosen action) new before after r
  pub sees : OnOk r (Sees w (record { action = action; chosen = chosen }) watch now)

-- so does each world that the parties showed
abbrev pub Moves : Action → (old new : Parties) → (watch now : WatchState) → (before after : List Line)
    → Result (Unit {0}) WorldErr → Type 0
Moves action old new watch now before after r =
    (w : World) → Shows old w → MovesBy w action new watch now before after r

-- nothing changes where no action is due
abbrev pub MovesIf : Option Action → (old new : Parties) → (watch now : WatchState) → (before after : List Line)
    → Result (Unit {0}) WorldErr → Type 0
MovesIf None old new watch now before after r = (new ≡ old) × (now ≡ watch) × (after ≡ before) × (r ≡ Ok tt)
MovesIf (Some action) old new watch now before after r = Moves action old new watch now before after r

-- ---- an event

-- the watch saw these moves, one after another
abbrev pub HasSeenAll : World → List Move → (watch now : WatchState) → Type 0
HasSeenAll w ms watch now =
    (now.guesses ≡ watch.guesses) × (now.moments ≡ sees_moves watch.guesses.sightings watch.moments w ms)

-- The event has come so far: these moves were due, their lines stand behind its own, and this is still to do. The watch
-- has seen them since the event began.
pub record Far (w : World) (e : Event) (before : List Line) (watch : WatchState) (plan : Plan) (p : Parties)
    (now : WatchState) (lines : List Line) : Type 0 where
  pub allowed : refusal w e ≡ None
  pub moves : List Move
  pub are_due : AreDue (plan_of w e) w moves
  pub plan_is : plan_after (plan_of w e) moves ≡ plan
  pub lines_are : lines ≡ before ++ line.Event e ∷ lines_of w moves
  pub shows : Shows p (world_after w moves)
  pub sees : HasSeenAll w moves watch now

-- it has come to its end
pub record Ended (w : World) (e : Event) (before : List Line) (watch : WatchState) (p : Parties) (now : WatchState)
    (lines : List Line) : Type 0 where
  pub plan : Plan
  pub far : Far w e before watch plan p now lines
  pub over : IsOver plan (world_after w far.moves)

-- it stopped at the limit of kept bytes
pub record Filled (w : World) (e : Event) (before after : List Line) : Type 0 where
  pub lines : List Line
  pub appended : Appended before after lines
  pub fills : FillsUp w e lines

-- it broke off between two lines, or before its first
pub record Broken (w : World) (e : Event) (before after : List Line) : Type 0 where
  pub lines : List Line
  pub appended : Appended before after lines
  pub begins : Begins w lines

-- by the result of what comes next
abbrev pub Comes : World → Event → (before : List Line) → (watch : WatchState) → Plan → Parties → (now : WatchState)
    → (after : List Line) → Result (Unit {0}) WorldErr → Type 0
Comes w e before watch plan new now after (Ok u) = Far w e before watch plan new now after
Comes w e before watch plan new now after (Err KeptFull) = Filled w e before after
Comes w e before watch plan new now after (Err Memory) = Broken w e before after
Comes w e before watch plan new now after (Err other) = ⊥

-- by the result of all that is still to do
abbrev pub Finishes : World → Event → (before : List Line) → (watch : WatchState) → Parties → (now : WatchState)
    → (after : List Line) → Result (Unit {0}) WorldErr → Type 0
Finishes w e before watch new now after (Ok u) = Ended w e before watch new now after
Finishes w e before watch new now after (Err KeptFull) = Filled w e before after
Finishes w e before watch new now after (Err Memory) = Broken w e before after
Finishes w e before watch new now after (Err other) = ⊥

-- the same, where the watch saw the event's lines once more behind it, which leaves the moments
abbrev pub FinishesSeen : World → Event → (before : List Line) → (watch : WatchState) → Parties → (now : WatchState)
    → (after : List Line) → Result (Unit {0}) WorldErr → Type 0
FinishesSeen w e before watch new now after r =
    (middle : WatchState) × Finishes w e before watch new middle after r × (now.moments ≡ middle.moments)

-- what is still to do of an event whose first move was made, by its rule
abbrev pub behind : Rule → Plan
behind rule = record { opening = None; rule = rule }

-- ---- prompt delivery

-- the lowest pending message was delivered, and others may have been sent: none below the next one is pending
abbrev pub SettlesOne : (number : ℕ) → (old new : List Sent) → Type 0
SettlesOne number old new =
    (first next : ℕ) → Settled first next old → IsLowestPending next number old → Settled first (number + 1) new

-- messages from number `first` on are delivered, for a client's call; none of them below `next` is pending
pub record Delivering (w : World) (e : Event) (before : List Line) (watch : WatchState) (first : ℕ) (client : Option ℕ)
    (p : Parties) (now : WatchState) (next : ℕ) (lines : List Line) : Type 0 where
  pub far : Far w e before watch (behind (Prompt first client)) p now lines
  pub settled : Settled first next p.network.messages

-- by the result of delivering all that are pending
abbrev pub Quiets : World → Event → (before : List Line) → (watch : WatchState) → (first : ℕ) → (client : Option ℕ)
    → Parties → (now : WatchState) → (after : List Line) → Result (Unit {0}) WorldErr → Type 0
Quiets w e before watch first client new now after (Ok u) =
    Delivering w e before watch first client new now (length new.network.messages) after
Quiets w e before watch first client new now after (Err KeptFull) = Filled w e before after
Quiets w e before watch first client new now after (Err Memory) = Broken w e before after
Quiets w e before watch first client new now after (Err other) = ⊥

-- so for each event that has come so far
abbrev pub QuietsAll : (next : ℕ) → (old new : Parties) → (seen now : WatchState) → (before after : List Line)
    → Result (Unit {0}) WorldErr → Type 0
QuietsAll next old new seen now before after r =
    (w : World) (e : Event) (lines : List Line) (watch : WatchState) (first : ℕ) (client : Option ℕ)
    → Delivering w e lines watch first client old seen next before → Quiets w e lines watch first client new now after r

-- each event that has this still to do comes to its end
abbrev pub FinishesAll : Plan → (old new : Parties) → (seen now : WatchState) → (before after : List Line)
    → Result (Unit {0}) WorldErr → Type 0
FinishesAll plan old new seen now before after r =
    (w : World) (e : Event) (lines : List Line) (watch : WatchState)
    → Far w e lines watch plan old seen before → Finishes w e lines watch new now after r
