-- Behind the line that a call is left pending its event is over: no further line of a step follows.
use Rattle.std.proofs.Common.{◌≡◌, ℕ, false, List, [], ◌∷◌, ◌++◌, Option, Some, None, refl, sym, ap, subst, ◌∙◌, append_assoc, inl, inr}
use Rattle.std.specs.List.{AllByRecursion}
use Rattle.std.proofs.lemmas.List.{append-nil}
use Rattle.scenario_text.specs.declared.line.Ending.TheVariants as ending
use Rattle.scenario_text.specs.declared.line.Outcome.TheVariants.{Failed}
use Rattle.scenario_text.specs.declared.line.Line.{Line}
use Rattle.scenario_text.specs.declared.line.Line.TheVariants as line
use Rattle.world_history.specs.ClientNames.{CallOp}
use Rattle.world_history.specs.State.{World, ClientAt, at_number}
use Rattle.world_history.specs.Handed.{pending_op}
use Rattle.world_history.specs.Moves.{Action, Opens, Delivers, TimesOut, Pends, acts, by_client, pends, pends_as}
use Rattle.world_history.specs.Sending.{Move, move, sends_all, sent_lines}
use Rattle.world_history.specs.Plans.{Plan, went_on, plan_of}
use Rattle.world_history.specs.Runs.{AreDue, lines_of}
use Rattle.world_history.specs.Reading.{is_head}
use Rattle.world_history.specs.Book.{created_in, placed_in}
use Rattle.world_history.specs.History.{Step, AreCarried, lines_of_steps}
use Rattle.history_law.specs.Moments.{with_event}
use Rattle.history_law.specs.StepEnds.{BeginNone, BeginNext}
use Rattle.cause_law.proofs.PendingLines.{IsNone, TellNone, IsOther, others_none}
use Rattle.lossless_law.proofs.Grouping.{NoHead, BeginStep, same_rest}

-- ---- lines

-- if the line tells that a call is left pending, a step begins behind it, or nothing is left
abbrev pub EndsIfLeft : Line → List Line → Type 0
EndsIfLeft (line.Ended c (Failed kind ending.Pending)) ls = BeginStep ls
EndsIfLeft l ls = Unit {0}

-- so it is of each line of a list
abbrev pub LeftLast : List Line → Type 0
LeftLast [] = Unit {0}
LeftLast (l ∷ ls) = EndsIfLeft l ls × LeftLast ls

begin_both : (xs ys : List Line) → BeginStep xs → BeginStep ys → BeginStep (xs ++ ys)
begin_both [] ys x y = y
begin_both (l ∷ xs) ys x y = x

further : (l : Line) (xs ys : List Line) → EndsIfLeft l xs → BeginStep ys → EndsIfLeft l (xs ++ ys)
further (line.Ended c (Failed kind ending.Pending)) xs ys x y = begin_both xs ys x y
further l xs ys x y = tt

both_last : (xs ys : List Line) → LeftLast xs → BeginStep ys → LeftLast ys → LeftLast (xs ++ ys)
both_last [] ys x b y = y
both_last (l ∷ xs) ys x b y = (further l xs ys x.0 b, both_last xs ys x.1 b y)

pub last_right : (xs ys : List Line) → LeftLast (xs ++ ys) → LeftLast ys
last_right [] ys l = l
last_right (x ∷ xs) ys l = last_right xs ys l.1

none_left : (l : Line) (ls : List Line) → IsNone l → EndsIfLeft l ls
none_left (line.Ended c (Failed kind ending.Pending)) ls n = absurd n
none_left l ls n = tt

more_last : (xs ys : List Line) → TellNone xs → LeftLast ys → LeftLast (xs ++ ys)
more_last [] ys n l = l
more_last (x ∷ xs) ys n l = (none_left x (xs ++ ys) n.0, more_last xs ys n.1 l)

-- ---- moves

pends_last : (w : World) (c : ℕ) → LeftLast (sends_all (pends w c)).lines
unfolding pends sent_lines
pends_last w c = by (at_number w.clients c)
  where
    as_ : (o : Option CallOp) → LeftLast (sends_all (pends_as w c o)).lines
    as_ None = tt
    as_ (Some op) = (tt, tt)

    by : (o : Option ClientAt) → LeftLast (sends_all (by_client w (λ a. pends_as w c (pending_op a.state)) o)).lines
    by None = tt
    by (Some a) = as_ (pending_op a.state)

-- behind such a move comes no other
none_behind : (p : Plan) (c : ℕ) (v : World) (ms : List Move) → AreDue (went_on p (Pends c)) v ms → lines_of v ms ≡ []
none_behind p c v [] d = refl
none_behind p c v (m ∷ ms) d = absurd (cc d.0)

without_event : (a : Action) (ls : List Line) → TellNone (with_event a ls) → TellNone ls
without_event (Opens e) ls n = n.1
without_event (Delivers number) ls n = n
without_event (TimesOut c k) ls n = n
without_event (Pends c) ls n = n

move_last : (p : Plan) (w : World) (m : Move) (ms : List Move) → AreDue (went_on p m.action) (move w m).world ms
    → LeftLast (lines_of (move w m).world ms) → LeftLast ((move w m).lines ++ lines_of (move w m).world ms)
move_last p w m ms d rest = by m.action refl
  where
    other : IsOther m.action → LeftLast ((move w m).lines ++ lines_of (move w m).world ms)
    other o =
        more_last (move w m).lines (lines_of (move w m).world ms)
        (without_event m.action (move w m).lines (others_none w m o)) rest

    left : (c : ℕ) → m.action ≡ Pends c → LeftLast ((move w m).lines ++ lines_of (move w m).world ms)
    left c e =
        let none : lines_of (move w m).world ms ≡ [] =
        none_behind p c (move w m).world ms (subst (λ (a : Action). AreDue (went_on p a) (move w m).world ms) e d) in
        let one : LeftLast (move w m).lines =
        subst (λ (a : Action). LeftLast (sends_all (acts w m.chosen a)).lines) (sym e) (pends_last w c) in
        subst (λ (ls : List Line). LeftLast ((move w m).lines ++ ls)) (sym none)
        (subst LeftLast (sym (append-nil (move w m).lines)) one)

    by : (a : Action) → m.action ≡ a → LeftLast ((move w m).lines ++ lines_of (move w m).world ms)
    by (Opens x) e = other (subst IsOther (sym e) tt)
    by (Delivers number) e = other (subst IsOther (sym e) tt)
    by (TimesOut c k) e = other (subst IsOther (sym e) tt)
    by (Pends c) e = left c e

moves_last : (p : Plan) (w : World) (ms : List Move) → AreDue p w ms → LeftLast (lines_of w ms)
moves_last p w [] d = tt
moves_last p w (m ∷ ms) d =
    move_last p w m ms d.1 (moves_last (went_on p m.action) (move w m).world ms d.1)

-- ---- histories

-- a history begins with an event
pub steps_begin : (w : World) (steps : List Step) → AreCarried w steps → BeginStep (lines_of_steps steps)
steps_begin w [] c = tt
steps_begin w (s ∷ steps) c =
    subst (λ (ls : List Line). BeginStep (ls ++ lines_of_steps steps)) (sym c.0.lines_are) refl

pub steps_last : (w : World) (steps : List Step) → AreCarried w steps → LeftLast (lines_of_steps steps)
steps_last w [] c = tt
steps_last w (s ∷ steps) c =
    both_last s.lines (lines_of_steps steps)
    (subst LeftLast (sym c.0.lines_are) (tt, moves_last (plan_of w s.event) w c.0.moves c.0.are_due))
    (steps_begin s.after steps c.1) (steps_last s.after steps c.1)

-- ---- the further lines of a step

pub no_heads : (ls : List Line) → BeginNone ls → AllByRecursion NoHead ls
no_heads [] n = tt
no_heads (l ∷ ls) n = (n l (inl refl), no_heads ls (λ k i. n k (inr i)))

none_more : (us : List Line) (p : Line) → is_head p ≡ false → BeginNone us → BeginNone (us ++ p ∷ [])
none_more [] p h n l (inl e) = ap is_head e ∙ h
none_more [] p h n l (inr i) = absurd i
none_more (u ∷ us) p h n l (inl e) = n l (inl e)
none_more (u ∷ us) p h n l (inr i) = none_more us p h (λ k j. n k (inr j)) l i

placed_more : (us : List Line) (p : Line) → created_in p ≡ [] → placed_in (us ++ p ∷ []) ≡ placed_in us
placed_more [] p e = ap (λ (ns : List ℕ). ns ++ []) e
placed_more (u ∷ us) p e = ap (λ (ns : List ℕ). created_in u ++ ns) (placed_more us p e)

-- the drives that a placer named in a step are told before a call is left pending
pub placed_same : (xs ys us vs : List Line) → xs ++ ys ≡ us ++ vs → AllByRecursion NoHead xs → BeginStep ys → BeginNone us
    → BeginNext vs → LeftLast vs → placed_in xs ≡ placed_in us
placed_same xs ys us [] e nx by nu bn l = ap placed_in (same_rest xs ys us [] e nx by nu tt)
placed_same xs ys us (line.Ended c (Failed kind ending.Pending) ∷ vs) e nx by nu bn l =
    let p : Line = line.Ended c (Failed kind ending.Pending) in
    ap placed_in
    (same_rest xs ys (us ++ p ∷ []) vs (e ∙ sym (append_assoc us (p ∷ []) vs)) nx by (none_more us p refl nu) l.0)
    ∙ placed_more us p refl
placed_same xs ys us (v ∷ vs) e nx by nu bn l = ap placed_in (same_rest xs ys us (v ∷ vs) e nx by nu bn)
