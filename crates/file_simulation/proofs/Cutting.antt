-- Each lawful history is cut somewhere in a move that is due at a moment, perhaps before the move's first line.
use Rattle.std.proofs.Common.{◌≡◌, ◌⊎◌, ◌≤◌, ℕ, ◌++◌, ◌∷◌, [], List, length, take, Some, None, refl, sym, ap, subst, ◌∙◌, append_assoc, inl, inr, arith}
use Rattle.std.proofs.lemmas.List.{append-nil}
use Rattle.scenario_text.specs.declared.event.Event.{Event}
use Rattle.scenario_text.specs.declared.event.Event.TheVariants as event
use Rattle.scenario_text.specs.declared.line.Line.{Line}
use Rattle.scenario_text.specs.declared.line.Line.TheVariants as line
use Rattle.world_history.specs.State.{World}
use Rattle.world_history.specs.Moves.{Action, Opens, Delivers, TimesOut, Pends}
use Rattle.world_history.specs.Sending.{Move, move}
use Rattle.world_history.specs.Plans.{Plan, Rule, due, due_in, due_by, went_on, plan_of}
use Rattle.world_history.specs.Runs.{world_after, lines_of, AreDue, plan_after}
use Rattle.world_history.specs.Refusals.{refusal}
use Rattle.world_history.specs.History.{StandsFor, Begins, Lawful}
use Rattle.world_history.specs.History.Begins.{Nothing, Part}
use Rattle.history_law.specs.BookMoments.{IsMoment, with_event, lines_in, lines_so_far, plan_at}
use Rattle.world_history.proofs.ReadMessages.{never_opens}
use Rattle.world_history.proofs.Runs.{due_more, plan_more, world_more}
use Rattle.history_law.proofs.Moments.{so_far_more}
use Rattle.file_simulation.specs.Simulation.{IsNext}

-- the history ends behind the first `count` lines of a move
pub record IsCut (h : List Line) : Type 0 where
  pub world : World
  pub before : List Line
  pub move : Move
  pub more : List Line
  pub count : ℕ
  pub next : IsNext world before move more
  pub low : count ≤ length more
  pub lines : h ≡ before ++ take count more

-- ---- lists

front_taken : (x z : List Line) → take (length x) (x ++ z) ≡ x
front_taken [] z = refl
front_taken (l ∷ x) z = ap (λ (xs : List Line). l ∷ xs) (front_taken x z)

front_low : (x z : List Line) → length x ≤ length (x ++ z)
front_low [] z = omega arith
front_low (l ∷ x) z = let rest : length x ≤ length (x ++ z) = front_low x z in omega (arith, rest)

-- of two ways to cut a list in two, one cuts the first part of the other, or its second part behind the first
meet : (a b x y : List Line) → a ++ b ≡ x ++ y
    → ((z : List Line) × (a ≡ x ++ z)) ⊎ ((z : List Line) × (x ≡ a ++ z) × (b ≡ z ++ y) × (z ≡ [] → ⊥))
meet [] b [] y e = inl ([], refl)
meet [] b (l ∷ x) y e = inr (l ∷ x, refl, e, λ q. absurd (cc q))
meet (k ∷ a) b [] y e = inl (k ∷ a, refl)
meet (k ∷ a) b (l ∷ x) y e =
    let heads : k ≡ l = cc e in
    let tails : a ++ b ≡ x ++ y = cc e in
    elim (meet a b x y tails) [
      | inl r ↦ inl (r.0, ap (λ (i : Line). i ∷ a) heads ∙ ap (λ (xs : List Line). l ∷ xs) r.1)
      | inr r ↦ inr (r.0, ap (λ (i : Line). i ∷ x) (sym heads) ∙ ap (λ (xs : List Line). k ∷ xs) r.1, r.2, r.3)
    ]

none_first : (x y : List Line) → [] ≡ x ++ y → x ≡ []
none_first [] y e = refl
none_first (l ∷ x) y e = absurd (cc e)

-- ---- a cut in a move

cut_here : (w : World) (h : List Line) (k : IsMoment w h) (m : Move) → due (plan_at k) w ≡ Some m.action
    → (x z : List Line) → lines_in w m ≡ x ++ z → IsCut (h ++ x)
cut_here w h k m d x z e = record {
  world = w;
  before = h;
  move = m;
  more = lines_in w m;
  count = length x;
  next = record { moment = k; is_due = d; lines = refl };
  low = subst (λ (l : List Line). length x ≤ length l) (sym e) (front_low x z);
  lines = ap (λ (l : List Line). h ++ l) (sym (ap (λ (l : List Line). take (length x) l) e ∙ front_taken x z));
}

-- ---- the moves of an event

lines_all : World → List Move → List Line
lines_all w [] = []
lines_all w (m ∷ ms) = lines_in w m ++ lines_all (move w m).world ms

later_line : (w : World) (r : Rule) (a : Action) (ls : List Line) → due_by w r ≡ Some a → with_event a ls ≡ ls
later_line w r (Opens e) ls d = absurd (never_opens w r e d)
later_line w r (Delivers n) ls d = refl
later_line w r (TimesOut c k) ls d = refl
later_line w r (Pends c) ls d = refl

later_lines : (p : Plan) (w : World) (ms : List Move) → p.opening ≡ None → AreDue p w ms → lines_all w ms ≡ lines_of w ms
unfolding lines_all
later_lines p w [] o d = refl
later_lines p w (m ∷ ms) o d =
    ap (λ (ls : List Line). ls ++ lines_all (move w m).world ms)
    (later_line w p.rule m.action (move w m).lines (sym (ap (due_in w p.rule) o) ∙ d.0))
    ∙ ap (λ (ls : List Line). (move w m).lines ++ ls) (later_lines (went_on p m.action) (move w m).world ms refl d.1)

event_lines : (w : World) (e : Event) (m : Move) (ms : List Move) → AreDue (plan_of w e) w (m ∷ ms)
    → lines_all w (m ∷ ms) ≡ line.Event e ∷ lines_of w (m ∷ ms)
unfolding lines_all
event_lines w e m ms d =
    let opens : Opens e ≡ m.action = cc d.0 in
    ap (λ (a : Action). with_event a (move w m).lines ++ lines_all (move w m).world ms) (sym opens)
    ∙ ap (λ (ls : List Line). line.Event e ∷ ((move w m).lines ++ ls))
    (later_lines (went_on (plan_of w e) m.action) (move w m).world ms refl d.1)

module _ (v : World) (g : List Line) (s : StandsFor v g) (e : Event) (allowed : refusal v e ≡ None) where
  abbrev plan : Plan
  plan = plan_of v e

  abbrev so_far : List Move → List Line
  so_far done = g ++ lines_so_far v e done

  abbrev moment : (done : List Move) → AreDue plan v done → IsMoment (world_after v done) (so_far done)
  moment done d = record {
    before = v;
    history = g;
    stands = s;
    event = e;
    allowed = allowed;
    moves = done;
    are_due = d;
    world_is = refl;
    lines_are = refl;
  }

  cut_in : (done ms : List Move) → AreDue plan v done → AreDue (plan_after plan done) (world_after v done) ms
      → (x y : List Line) → lines_all (world_after v done) ms ≡ x ++ y → (x ≡ [] → ⊥) → IsCut (so_far done ++ x)
  unfolding lines_all
  cut_in done [] d b x y is some = absurd (some (none_first x y is))
  cut_in done (m ∷ ms) d b x y is some =
      let w : World = world_after v done in
      elim (meet (lines_in w m) (lines_all (move w m).world ms) x y is) [
        | inl r ↦ cut_here w (so_far done) (moment done d) m b.0 x r.0 r.1
        | inr r ↦
            subst IsCut
            (ap (λ (l : List Line). (g ++ l) ++ r.0) (so_far_more v e done m b.0)
            ∙ ap (λ (l : List Line). l ++ r.0) (sym (append_assoc g (lines_so_far v e done) (lines_in w m)))
            ∙ append_assoc (so_far done) (lines_in w m) r.0
            ∙ ap (λ (l : List Line). so_far done ++ l) (sym r.1))
            (cut_in (done ++ m ∷ []) ms (due_more plan v done m d b.0)
            (subst (λ (p : Plan). AreDue p (world_after v (done ++ m ∷ [])) ms) (sym (plan_more plan done m))
            (subst (λ (u : World). AreDue (went_on (plan_after plan done) m.action) u ms) (sym (world_more v done m)) b.1))
            r.0 y (ap (λ (u : World). lines_all u ms) (world_more v done m) ∙ r.2) r.3)
      ]

  -- the event's own line is the first of its first move, even if no move of it was made
  abbrev begins_with : Move
  begins_with = record { action = Opens e; chosen = [] }

  cut_event : (ms : List Move) → AreDue plan v ms → (x y : List Line) → line.Event e ∷ lines_of v ms ≡ x ++ y
      → (x ≡ [] → ⊥) → IsCut (so_far [] ++ x)
  cut_event [] d x y is some =
      cut_here v (so_far []) (moment [] tt) begins_with refl x (y ++ (move v begins_with).lines)
      (ap (λ (l : List Line). l ++ (move v begins_with).lines) is ∙ append_assoc x y (move v begins_with).lines)
  cut_event (m ∷ ms) d x y is some = cut_in [] (m ∷ ms) tt d x y (event_lines v e m ms d ∙ is) some

  cut_first : IsCut (so_far [] ++ [])
  cut_first = cut_here v (so_far []) (moment [] tt) begins_with refl [] (lines_in v begins_with) refl

-- ---- any lawful history

cut_between : (v : World) (g : List Line) → StandsFor v g → IsCut g
unfolding refusal
cut_between v g s =
    subst IsCut (append-nil (g ++ []) ∙ append-nil g) (cut_first v g s event.Settle refl)

cut_last : (v : World) (g last : List Line) → StandsFor v g → Begins v last → IsCut (g ++ last)
cut_last v g [] s b = subst IsCut (sym (append-nil g)) (cut_between v g s)
cut_last v g (l ∷ ls) s (Nothing none) = absurd (cc none)
cut_last v g (l ∷ ls) s (Part e c) =
    subst (λ (h : List Line). IsCut (h ++ l ∷ ls)) (append-nil g)
    (cut_event v g s e c.allowed c.moves c.are_due (l ∷ ls) c.part.0 c.part.1 (λ q. absurd (cc q)))

pub each_is_cut : (h : List Line) → Lawful h → IsCut h
each_is_cut h l = subst IsCut (sym l.lines_are) (cut_last l.world l.whole l.last l.stands l.begins)
