-- What the empty history has, and each move at a moment keeps, holds at each moment and of every lawful history.
use Rattle.std.proofs.Common.{◌≡◌, ◌++◌, ◌∷◌, [], List, Some, None, refl, sym, ap, subst, ◌∙◌, append_assoc}
use Rattle.std.proofs.lemmas.List.{append-nil}
use Rattle.scenario_text.specs.declared.event.Event.{Event}
use Rattle.scenario_text.specs.declared.line.Line.{Line}
use Rattle.scenario_text.specs.declared.line.Line.TheVariants as line
use Rattle.world_history.specs.State.{World, empty_world}
use Rattle.world_history.specs.Moves.{Action, Opens}
use Rattle.world_history.specs.Sending.{Move, move}
use Rattle.world_history.specs.Plans.{Plan, due, went_on, rule_after, rule_of, plan_of}
use Rattle.world_history.specs.Runs.{world_after, lines_of, AreDue, plan_after, IsOver, Carries, CarriesPart}
use Rattle.world_history.specs.History.{Step, AreCarried, end_of, lines_of_steps, StandsFor, OneEventMore, Begins, Lawful}
use Rattle.world_history.specs.History.Begins.{Nothing, Part}
use Rattle.world_history.specs.Refusals.{refusal}
use Rattle.world_history.proofs.Always.{opening}
use Rattle.world_history.proofs.ReadMessages.{never_opens}
use Rattle.world_history.proofs.Runs.{world_more}
use Rattle.history_law.specs.BookMoments.{IsMoment, lines_so_far, lines_in}
use Rattle.history_law.proofs.BookMoments.{later_rule}
use Rattle.history_law.proofs.Histories.{cut_at}
use Rattle.history_law.proofs.Moments.{so_far_more}
use Rattle.history_law.proofs.Ending.{next_moment}

-- an event with which a move begins isn't refused
abbrev pub MayMove : World → Move → Type 0
MayMove w m = (e : Event) → m.action ≡ Opens e → refusal w e ≡ None

pub record IsKept (P : World → List Line → Type 0) : Type 0 where
  pub starts : P empty_world []
  pub moves : (w : World) (h : List Line) (m : Move) → IsMoment w h → IsMoment (move w m).world (h ++ lines_in w m) →
      MayMove w m → P w h → P (move w m).world (h ++ lines_in w m)

-- ---- moves of an event

-- only the first move of an event opens it
pub may_move : (v : World) (e : Event) (front : List Move) (m : Move) → refusal v e ≡ None
    → due (plan_after (plan_of v e) front) (world_after v front) ≡ Some m.action → MayMove (world_after v front) m
may_move v e [] m allowed d f is =
    let same : Opens e ≡ Opens f = own (d ∙ ap (λ (a : Action). Some a) is) in
    let event : e ≡ f = cc same in
    subst (λ (x : Event). refusal v x ≡ None) event allowed
  where
    own : Some (Opens e) ≡ Some (Opens f) → Opens e ≡ Opens f
    own x = cc x
may_move v e (x ∷ front) m allowed d f is =
    let r = later_rule (rule_after (rule_of v e) x.action) front in
    absurd (never_opens (world_after v (x ∷ front)) r.0 f
    (sym (ap (λ (q : Plan). due q (world_after v (x ∷ front))) r.1) ∙ d ∙ ap (λ (a : Action). Some a) is))

due_split : (p : Plan) (w : World) (front : List Move) (m : Move) (back : List Move) → AreDue p w (front ++ m ∷ back)
    → AreDue p w front × (due (plan_after p front) (world_after w front) ≡ Some m.action)
due_split p w [] m back d = (tt, d.0)
due_split p w (x ∷ front) m back d =
    let r = due_split (went_on p x.action) (move w x).world front m back d.1 in ((d.0, r.0), r.1)

module _ (further : OneEventMore) (P : World → List Line → Type 0) (k : IsKept P) where
  module _ (v : World) (h : List Line) (e : Event) (s : StandsFor v h) (allowed : refusal v e ≡ None) where
    abbrev moment_of : (front : List Move) → AreDue (plan_of v e) v front
        → IsMoment (world_after v front) (h ++ lines_so_far v e front)
    moment_of front d = record {
      before = v;
      history = h;
      stands = s;
      event = e;
      allowed = allowed;
      moves = front;
      are_due = d;
      world_is = refl;
      lines_are = refl;
    }

    kept_moves : (front back : List Move) → AreDue (plan_of v e) v (front ++ back)
        → P (world_after v front) (h ++ lines_so_far v e front)
        → P (world_after v (front ++ back)) (h ++ lines_so_far v e (front ++ back))
    kept_moves front [] d x =
        subst (λ (ms : List Move). P (world_after v ms) (h ++ lines_so_far v e ms)) (sym (append-nil front)) x
    kept_moves front (m ∷ back) d x =
        let split = due_split (plan_of v e) v front m back d in
        let again : front ++ m ∷ back ≡ (front ++ m ∷ []) ++ back = sym (append_assoc front (m ∷ []) back) in
        let there : (h ++ lines_so_far v e front) ++ lines_in (world_after v front) m
        ≡ h ++ lines_so_far v e (front ++ m ∷ []) =
        append_assoc h (lines_so_far v e front) (lines_in (world_after v front) m)
        ∙ ap (λ (l : List Line). h ++ l) (sym (so_far_more v e front m split.1)) in
        let one : P (move (world_after v front) m).world ((h ++ lines_so_far v e front) ++ lines_in
        (world_after v front) m) =
        k.moves (world_after v front) (h ++ lines_so_far v e front) m (moment_of front split.0)
        (next_moment (world_after v front) (h ++ lines_so_far v e front) (moment_of front split.0) m split.1)
        (may_move v e front m allowed split.1) x in
        subst (λ (ms : List Move). P (world_after v ms) (h ++ lines_so_far v e ms)) (sym again)
        (kept_moves (front ++ m ∷ []) back (subst (AreDue (plan_of v e) v) again d)
        (subst (λ (w : World). P w (h ++ lines_so_far v e (front ++ m ∷ []))) (sym (world_more v front m))
        (subst (P (move (world_after v front) m).world) there one)))

    -- all of them
    pub kept_event_moves : (ms : List Move) → AreDue (plan_of v e) v ms → P v h
        → P (world_after v ms) (h ++ lines_so_far v e ms)
    kept_event_moves ms d x = kept_moves [] ms d (subst (P v) (sym (append-nil h)) x)

  -- ---- events

  kept_event : (v : World) (h : List Line) (e : Event) (lines : List Line) (u : World) (c : Carries v e lines u) (ms
      : List Move) → c.moves ≡ ms → StandsFor v h → P v h → P u (h ++ lines)
  kept_event v h e lines u c [] is s x =
      absurd (cc (subst (λ (l : List Move). IsOver (plan_after (plan_of v e) l) u) is c.over))
  kept_event v h e lines u c (m ∷ ms) is s x =
      let same : lines ≡ lines_so_far v e (m ∷ ms) =
      c.lines_are ∙ ap (λ (l : List Move). line.Event e ∷ lines_of v l) is in
      subst (λ (w : World). P w (h ++ lines)) (sym (c.world_is ∙ ap (world_after v) is))
      (subst (λ (l : List Line). P (world_after v (m ∷ ms)) (h ++ l)) (sym same)
      (kept_event_moves v h e s c.allowed (m ∷ ms) (subst (AreDue (plan_of v e) v) is c.are_due) x))

  kept_steps : (v : World) (h : List Line) (steps : List Step) → AreCarried v steps → StandsFor v h → P v h
      → P (end_of v steps) (h ++ lines_of_steps steps)
  kept_steps v h [] carried s x = subst (P v) (sym (append-nil h)) x
  kept_steps v h (t ∷ steps) carried s x =
      subst (P (end_of t.after steps)) (append_assoc h t.lines (lines_of_steps steps))
      (kept_steps t.after (h ++ t.lines) steps carried.1 (further v t.after h t.lines t.event s carried.0)
      (kept_event v h t.event t.lines t.after carried.0 carried.0.moves refl s x))

  -- of each world that stands for a history
  pub stands : (w : World) (h : List Line) → StandsFor w h → P w h
  stands w h s =
      subst (λ (x : World). P x h) (sym s.world_is)
      (subst (P (end_of empty_world s.steps)) (sym s.lines_are)
      (kept_steps empty_world [] s.steps s.carried
      (record { steps = []; carried = tt; world_is = refl; lines_are = refl }) k.starts))

  -- at each moment
  pub at_moment : (w : World) (h : List Line) → IsMoment w h → P w h
  at_moment w h m =
      subst (λ (x : World). P x h) (sym m.world_is)
      (subst (P (world_after m.before m.moves)) (sym m.lines_are)
      (kept_event_moves m.before m.history m.event m.stands m.allowed m.moves m.are_due
      (stands m.before m.history m.stands)))

  -- ---- a history that is cut

  part : (v : World) (whole last h : List Line) (e : Event) (c : CarriesPart v e last) (ms : List Move) → c.moves ≡ ms
      → StandsFor v whole → h ≡ whole ++ last → (w : World) × (more : List Line) × P w (h ++ more)
  part v whole last h e c [] none s is =
      let first = opening e [] in
      let lines = (move v first).lines in
      let own : line.Event e ∷ [] ≡ last ++ c.part.0 = ap (λ (l : List Move). line.Event e ∷ lines_of v l) (sym none)
      ∙ c.part.1 in
      let cut : whole ++ (line.Event e ∷ lines) ≡ h ++ (c.part.0 ++ lines) =
      cut_at h whole last (c.part.0 ++ lines) (line.Event e ∷ lines) is
      (ap (λ (l : List Line). l ++ lines) own ∙ append_assoc last c.part.0 lines) in
      let all : P (move v first).world (whole ++ lines_so_far v e (first ∷ [])) =
      kept_event_moves v whole e s c.allowed (first ∷ []) (refl, tt) (stands v whole s) in (
        (move v first).world,
        c.part.0 ++ lines,
        subst (P (move v first).world)
            (ap (λ (l : List Line). whole ++ line.Event e ∷ l) (append-nil lines) ∙ cut) all,
      )
  part v whole last h e c (m ∷ ms) some s is =
      let due : AreDue (plan_of v e) v (m ∷ ms) = subst (AreDue (plan_of v e) v) some c.are_due in
      let lines : line.Event e ∷ lines_of v (m ∷ ms) ≡ last ++ c.part.0 =
      ap (λ (l : List Move). line.Event e ∷ lines_of v l) (sym some) ∙ c.part.1 in (
        world_after v (m ∷ ms),
        c.part.0,
        subst (P (world_after v (m ∷ ms)))
            (cut_at h whole last c.part.0 (line.Event e ∷ lines_of v (m ∷ ms)) is lines)
            (kept_event_moves v whole e s c.allowed (m ∷ ms) due (stands v whole s)),
      )

  begun : (v : World) (whole last h : List Line) → StandsFor v whole → Begins v last → h ≡ whole ++ last
      → (w : World) × (more : List Line) × P w (h ++ more)
  begun v whole last h s (Nothing none) is = (
    v,
    [],
    subst (P v) (sym (append-nil h ∙ is ∙ ap (λ (l : List Line). whole ++ l) none ∙ append-nil whole))
        (stands v whole s),
  )
  begun v whole last h s (Part e c) is = part v whole last h e c c.moves refl s is

  -- of each lawful history, with the lines that are left out of its last move
  pub lawful : (h : List Line) → Lawful h → (w : World) × (more : List Line) × P w (h ++ more)
  lawful h l = begun l.world l.whole l.last h l.stands l.begins l.lines_are
