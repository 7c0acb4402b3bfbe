-- What is still to do of an event, to its end.
use Rattle.std.proofs.Common.{◌≡◌, ◌≤◌, ◌∷◌, ℕ, List, length, Option, Some, None, Result, Ok, Err, refl, sym, ap, subst, ◌∙◌}
use Rattle.scenario_text.specs.declared.event.Event.{Event}
use Rattle.scenario_text.specs.declared.line.Line.{Line}
use Rattle.scenario_text.specs.declared.line.Line.TheVariants as line
use Rattle.world_history.specs.declared.err.WorldErr.{WorldErr}
use Rattle.world_history.specs.declared.err.WorldErr.TheVariants.{NoName, Taken, Dead, Alive, NotKept, Down, Running, NoMessage, KeptFull, Memory}
use Rattle.world_history.specs.declared.messages.Sent.{Sent}
use Rattle.world_history.specs.State.{World}
use Rattle.world_history.specs.Moves.{Action, Delivers, TimesOut, Pends}
use Rattle.world_history.specs.Plans.{Plan, Prompt, due, went_on, due_pending, quiet_of}
use Rattle.world_history.specs.Runs.{world_after, lines_of, IsOver, Carries}
use Rattle.world_history.specs.History.{Goes, Stops, BreaksOff, OneEventMore, FullIsCut}
use Rattle.world_history.specs.History.Begins.{Part}
use Rattle.world_history.specs.declared.limits.TheConstants.{MAX_KEPT}
use Rattle.world_network.specs.Network.{NetworkState, PendingIs, NonePending}
use Rattle.world_network.specs.Shows.{PendingIsShown}
use Rattle.world_watch.specs.State.{WatchState}
use Rattle.layout_world.specs.declared.parties.Parties.{Parties}
use Rattle.layout_world.specs.State.{WorldState, Settled, Shows}
use Rattle.layout_world.specs.Going.{Moves, MovesIf, Ended, Filled, Broken, Comes, Finishes, FinishesSeen, Delivering, Quiets, behind}
use Rattle.layout_world.specs.Acting.{Grows}
use Rattle.layout_world.specs.Steps.{Steps}
use Rattle.layout_world.proofs.Settling.{settled_more, lowest_from, settled_end}
use Rattle.layout_world.proofs.Going.{comes}

-- ---- by the result

pub quiets_err : (w : World) (e : Event) (before : List Line) (watch : WatchState) (first : ℕ) (client : Option ℕ) (plan : Plan)
    (p : Parties) (now : WatchState)
    (after : List Line) (x : WorldErr) → Comes w e before watch plan p now after (Err x) →
    Quiets w e before watch first client p now after (Err x)
quiets_err w e before watch first client plan p now after KeptFull c = c
quiets_err w e before watch first client plan p now after Memory c = c
quiets_err w e before watch first client plan p now after NoName c = absurd c
quiets_err w e before watch first client plan p now after Taken c = absurd c
quiets_err w e before watch first client plan p now after Dead c = absurd c
quiets_err w e before watch first client plan p now after Alive c = absurd c
quiets_err w e before watch first client plan p now after NotKept c = absurd c
quiets_err w e before watch first client plan p now after Down c = absurd c
quiets_err w e before watch first client plan p now after Running c = absurd c
quiets_err w e before watch first client plan p now after (NoMessage k) c = absurd c

pub finishes_err : (w : World) (e : Event) (before : List Line) (watch : WatchState) (plan : Plan) (p : Parties)
    (now : WatchState) (after : List Line)
    (x : WorldErr) → Comes w e before watch plan p now after (Err x) → Finishes w e before watch p now after (Err x)
finishes_err w e before watch plan p now after KeptFull c = c
finishes_err w e before watch plan p now after Memory c = c
finishes_err w e before watch plan p now after NoName c = absurd c
finishes_err w e before watch plan p now after Taken c = absurd c
finishes_err w e before watch plan p now after Dead c = absurd c
finishes_err w e before watch plan p now after Alive c = absurd c
finishes_err w e before watch plan p now after NotKept c = absurd c
finishes_err w e before watch plan p now after Down c = absurd c
finishes_err w e before watch plan p now after Running c = absurd c
finishes_err w e before watch plan p now after (NoMessage k) c = absurd c

pub finishes_quiet : (w : World) (e : Event) (before : List Line) (watch : WatchState) (first : ℕ) (client : Option ℕ)
    (p : Parties) (now : WatchState)
    (after : List Line) (x : WorldErr) → Quiets w e before watch first client p now after (Err x) →
    Finishes w e before watch p now after (Err x)
finishes_quiet w e before watch first client p now after KeptFull c = c
finishes_quiet w e before watch first client p now after Memory c = c
finishes_quiet w e before watch first client p now after NoName c = absurd c
finishes_quiet w e before watch first client p now after Taken c = absurd c
finishes_quiet w e before watch first client p now after Dead c = absurd c
finishes_quiet w e before watch first client p now after Alive c = absurd c
finishes_quiet w e before watch first client p now after NotKept c = absurd c
finishes_quiet w e before watch first client p now after Down c = absurd c
finishes_quiet w e before watch first client p now after Running c = absurd c
finishes_quiet w e before watch first client p now after (NoMessage k) c = absurd c

-- where nothing is due behind a move in any world
pub finishes_over : (w : World) (e : Event) (before : List Line) (watch : WatchState) (plan : Plan) (p : Parties)
    (now : WatchState) (after : List Line)
    (r : Result (Unit {0}) WorldErr) → ((v : World) → IsOver plan v) → Comes w e before watch plan p now after r
    → Finishes w e before watch p now after r
finishes_over w e before watch plan p now after (Ok u) over c =
    record { plan = plan; far = c; over = over (world_after w c.moves) }
finishes_over w e before watch plan p now after (Err x) over c = finishes_err w e before watch plan p now after x c

-- ---- what is due

pub due_first : PendingIsShown →
    (w : World) (e : Event) (before : List Line) (watch : WatchState) (first : ℕ) (client : Option ℕ) (p : Parties)
    (now : WatchState)
    (next : ℕ) (lines : List Line) (d : Delivering w e before watch first client p now next lines) (number : ℕ)
    → PendingIs next p.network.messages (Some number)
    → due (behind (Prompt first client)) (world_after w d.far.moves) ≡ Some (Delivers number)
due_first law w e before watch first client p now next lines d number h =
    let now : World = world_after w d.far.moves in
    ap (λ (r : Option ℕ). due_pending now client r) (law p.network now first (Some number) d.far.shows.network
    (lowest_from first next p.network.messages (Some number) d.settled h))

pub due_quiet : PendingIsShown →
    (w : World) (e : Event) (before : List Line) (watch : WatchState) (first : ℕ) (client : Option ℕ) (p : Parties)
    (now : WatchState)
    (lines : List Line) (d : Delivering w e before watch first client p now (length p.network.messages) lines)
    → due (behind (Prompt first client)) (world_after w d.far.moves) ≡ quiet_of (world_after w d.far.moves) client
due_quiet law w e before watch first client p now lines d =
    let now : World = world_after w d.far.moves in
    ap (λ (r : Option ℕ). due_pending now client r)
    (law p.network now first None d.far.shows.network d.settled.none)

pub delivered_all : (w : World) (e : Event) (before : List Line) (watch : WatchState) (first : ℕ) (client : Option ℕ)
    (p : Parties) (now : WatchState) (next : ℕ)
    (lines : List Line) → Delivering w e before watch first client p now next lines
    → NonePending next (length p.network.messages) p.network.messages
    → Delivering w e before watch first client p now (length p.network.messages) lines
delivered_all w e before watch first client p now next lines d h = record {
  far = d.far;
  settled = settled_end first next p.network.messages d.settled h;
}

-- the parties remember what is settled
pub remembered : (w : World) (e : Event) (before : List Line) (watch : WatchState) (first : ℕ) (client : Option ℕ) (p q : Parties)
    (now : WatchState)
    (lines : List Line) → Delivering w e before watch first client p now (length p.network.messages) lines
    → q.network ≡ p.network
    → ((v : World) → Settled first (length p.network.messages) p.network.messages → Shows p v → Shows q v)
    → Delivering w e before watch first client q now (length q.network.messages) lines
remembered w e before watch first client p q now lines d n keeps = record {
  far = record {
    allowed = d.far.allowed;
    moves = d.far.moves;
    are_due = d.far.are_due;
    plan_is = d.far.plan_is;
    lines_are = d.far.lines_are;
    shows = keeps (world_after w d.far.moves) d.settled d.far.shows;
    sees = d.far.sees;
  };
  settled = subst (λ (x : NetworkState). Settled first (length x.messages) x.messages) (sym n) d.settled;
}

-- what is due of a call was done
quiet_comes : (w : World) (e : Event) (before : List Line) (watch : WatchState) (first : ℕ) (client : Option ℕ) (p q : Parties)
    (now next : WatchState)
    (lines after : List Line) (r : Result (Unit {0}) WorldErr)
    (d : Delivering w e before watch first client p now (length p.network.messages) lines) (action : Action)
    → due (behind (Prompt first client)) (world_after w d.far.moves) ≡ Some action
    → Moves action p q now next lines after r →
    Comes w e before watch (went_on (behind (Prompt first client)) action) q next after r
quiet_comes w e before watch first client p q now next lines after r d action n m =
    comes w e before watch (behind (Prompt first client)) p now lines d.far action q next after r n
    (m (world_after w d.far.moves) d.far.shows)

pub quiet_err : (w : World) (e : Event) (before : List Line) (watch : WatchState) (first : ℕ) (client : Option ℕ) (p q : Parties)
    (now next : WatchState)
    (lines after : List Line) (x : WorldErr)
    (d : Delivering w e before watch first client p now (length p.network.messages) lines) (o : Option Action)
    → due (behind (Prompt first client)) (world_after w d.far.moves) ≡ o
    → MovesIf o p q now next lines after (Err x) → Finishes w e before watch q next after (Err x)
quiet_err w e before watch first client p q now next lines after x d None n m = absurd (cc m.3)
quiet_err w e before watch first client p q now next lines after x d (Some action) n m =
    finishes_err w e before watch (went_on (behind (Prompt first client)) action) q next after x
    (quiet_comes w e before watch first client p q now next lines after (Err x) d action n m)

pub quiet_over : (w : World) (e : Event) (before : List Line) (watch : WatchState) (first : ℕ) (client : Option ℕ) (p q : Parties)
    (now next : WatchState)
    (lines after : List Line) (d : Delivering w e before watch first client p now (length p.network.messages) lines)
    → due (behind (Prompt first client)) (world_after w d.far.moves) ≡ None
    → MovesIf None p q now next lines after (Ok tt) → Finishes w e before watch q next after (Ok tt)
quiet_over w e before watch first client p q now next lines after d n m =
    let here : Finishes w e before watch p now lines (Ok tt) =
    record { plan = behind (Prompt first client); far = d.far; over = n } in
    subst (λ (x : Parties). Finishes w e before watch x next after (Ok tt)) (sym m.0)
    (subst (λ (x : WatchState). Finishes w e before watch p x after (Ok tt)) (sym m.1)
    (subst (λ (x : List Line). Finishes w e before watch p now x (Ok tt)) (sym m.2) here))

pub quiet_pends : (w : World) (e : Event) (before : List Line) (watch : WatchState) (first : ℕ) (client : Option ℕ)
    (p q : Parties) (now next : WatchState)
    (lines after : List Line) (d : Delivering w e before watch first client p now (length p.network.messages) lines) (c : ℕ)
    → due (behind (Prompt first client)) (world_after w d.far.moves) ≡ Some (Pends c)
    → Moves (Pends c) p q now next lines after (Ok tt) → Finishes w e before watch q next after (Ok tt)
quiet_pends w e before watch first client p q now next lines after d c n m =
    finishes_over w e before watch (went_on (behind (Prompt first client)) (Pends c)) q next after (Ok tt) (λ v. refl)
    (quiet_comes w e before watch first client p q now next lines after (Ok tt) d (Pends c) n m)

pub quiet_next : (w : World) (e : Event) (before : List Line) (watch : WatchState) (first : ℕ) (client : Option ℕ) (p q : Parties)
    (now next : WatchState)
    (lines after : List Line) (d : Delivering w e before watch first client p now (length p.network.messages) lines) (c k : ℕ)
    → due (behind (Prompt first client)) (world_after w d.far.moves) ≡ Some (TimesOut c k)
    → Moves (TimesOut c k) p q now next lines after (Ok tt) → Grows p.network.messages q.network.messages
    → Delivering w e before watch first client q next (length p.network.messages) after
quiet_next w e before watch first client p q now next lines after d c k n m g = record {
  far = quiet_comes w e before watch first client p q now next lines after (Ok tt) d (TimesOut c k) n m;
  settled = subst (λ (x : List Sent). Settled first (length p.network.messages) x) (sym g.1)
      (settled_more first (length p.network.messages) p.network.messages g.0 d.settled);
}

-- ---- a step of the world

breaks_off : (w : World) (e : Event) (before after : List Line) → Broken w e before after → BreaksOff w e before after
breaks_off w e before after b = record {
  lines = b.lines;
  appended = b.appended;
  begins = b.begins;
  lawful = λ h s. record {
    world = w;
    whole = h;
    stands = s;
    last = b.lines;
    begins = b.begins;
    lines_are = refl;
  };
}

stops : FullIsCut → (w : World) (e : Event) (before after : List Line) → Filled w e before after → Stops w e before after
stops cut w e before after f = record {
  lines = f.lines;
  appended = f.appended;
  fills = f.fills;
  lawful = λ h s. record {
    world = w;
    whole = h;
    stands = s;
    last = f.lines;
    begins = Part e (cut w e f.lines f.fills);
    lines_are = refl;
  };
}

goes : OneEventMore → (w : World) (e : Event) (before : List Line) (watch : WatchState) (p : Parties) (now : WatchState)
    (after : List Line) → p.network.kept ≤ MAX_KEPT → (d : Ended w e before watch p now after)
    → Goes w e before after (world_after w d.far.moves)
goes more w e before watch p now after fits d =
    let own : List Line = line.Event e ∷ lines_of w d.far.moves in
    let carries : Carries w e own (world_after w d.far.moves) = record {
      allowed = d.far.allowed;
      moves = d.far.moves;
      are_due = d.far.are_due;
      over = ap (λ (x : Plan). due x (world_after w d.far.moves)) d.far.plan_is ∙ d.over;
      lines_are = refl;
      world_is = refl;
    } in
    record {
      lines = own;
      appended = d.far.lines_are;
      carries = carries;
      stands = λ h s. more w (world_after w d.far.moves) h own e s carries;
      fits = subst (λ (k : ℕ). k ≤ MAX_KEPT) d.far.shows.network.kept fits;
    }

pub steps_err : FullIsCut → (w : World) (e : Event) (before after : List Line) (old new : WorldState) (x : WorldErr)
    (watch middle : WatchState) → Finishes w e before watch new.parties middle after (Err x)
    → Steps w e before after old new (Err x)
steps_err cut w e before after old new KeptFull watch middle h = stops cut w e before after h
steps_err cut w e before after old new Memory watch middle h = breaks_off w e before after h
steps_err cut w e before after old new NoName watch middle h = absurd h
steps_err cut w e before after old new Taken watch middle h = absurd h
steps_err cut w e before after old new Dead watch middle h = absurd h
steps_err cut w e before after old new Alive watch middle h = absurd h
steps_err cut w e before after old new NotKept watch middle h = absurd h
steps_err cut w e before after old new Down watch middle h = absurd h
steps_err cut w e before after old new Running watch middle h = absurd h
steps_err cut w e before after old new (NoMessage k) watch middle h = absurd h

pub steps : OneEventMore → FullIsCut → (w : World) (e : Event) (before after : List Line) (old new : WorldState)
    (r : Result (Unit {0}) WorldErr) → new.parties.network.kept ≤ MAX_KEPT
    → FinishesSeen w e before old.watch new.parties new.watch after r → Steps w e before after old new r
unfolding goes
steps more cut w e before after old new (Ok u) fits h = record {
  world = world_after w h.1.far.moves;
  shows = h.1.far.shows;
  goes = goes more w e before old.watch new.parties h.0 after fits h.1;
  moments = h.2 ∙ h.1.far.sees.1;
}
steps more cut w e before after old new (Err x) fits h = steps_err cut w e before after old new x old.watch h.0 h.1
