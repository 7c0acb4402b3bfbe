-- Behind a note no step begins in the lines of its move: a move tells at most the line with which its step begins, and
-- then what the party tells and sends.
use Rattle.std.proofs.Common.{◌≡◌, ℕ, ◌+◌, true, false, List, [], ◌∷◌, ◌++◌, Option, refl, sym, ap, subst, ◌∙◌, inl, inr}
use Rattle.std.proofs.lemmas.Bool.{false≢true}
use Rattle.osd_lists.proofs.Slices.{head_same, tail_same}
use Rattle.server_rules.specs.Laws.{In}
use Rattle.server_rules.proofs.Members.{in_behind}
use Rattle.server_rules.specs.History.{Input}
use Rattle.scenario_text.specs.declared.event.Event.{Event}
use Rattle.scenario_text.specs.declared.event.Event.TheVariants as event
use Rattle.scenario_text.specs.declared.line.Line.{Line}
use Rattle.scenario_text.specs.declared.line.Line.TheVariants as line
use Rattle.world_history.specs.State.{World}
use Rattle.world_history.specs.Handed.{Post}
use Rattle.world_history.specs.Moves.{Act, Action, Opens, Delivers, TimesOut, Pends, begins, pends, acts}
use Rattle.world_history.specs.Sending.{Move, sent_lines}
use Rattle.world_history.specs.Reading.{is_head}
use Rattle.history_law.specs.BookMoments.{lines_in}
use Rattle.history_law.proofs.Leading.{AreFlat, Leads, Silent, Heads, IsPending, delivers_lead, timeout_leads, injects_lead, pends_pending, begins_flat}
use Rattle.history_law.specs.StepEnds.{BeginNone}

-- ---- lines that begin no step

of_nothing : BeginNone []
of_nothing l i = absurd i

none_more : (l : Line) (ls : List Line) → is_head l ≡ false → BeginNone ls → BeginNone (l ∷ ls)
none_more l ls is rest x (inl same) = ap is_head same ∙ is
none_more l ls is rest x (inr i) = rest x i

none_both : (xs ys : List Line) → BeginNone xs → BeginNone ys → BeginNone (xs ++ ys)
none_both [] ys p q = q
none_both (x ∷ xs) ys p q = none_more x (xs ++ ys) (p x (inl refl)) (none_both xs ys (λ l i. p l (inr i)) q)

none_flat : (ls : List Line) → AreFlat ls → BeginNone ls
none_flat [] f = of_nothing
none_flat (l ∷ ls) f = none_more l ls f.0 (none_flat ls f.2)

none_sent : (number : ℕ) (ps : List Post) → BeginNone (sent_lines number ps)
unfolding sent_lines
none_sent number [] = of_nothing
none_sent number (p ∷ ps) = none_more _ (sent_lines (number + 1) ps) refl (none_sent (number + 1) ps)

-- ---- lines of which those that begin a step come first

data HeadsFirst : List Line → Type 0 where
  NoHead : (ls : List Line) → BeginNone ls → HeadsFirst ls
  Head : (l : Line) (ls : List Line) → is_head l ≡ true → HeadsFirst ls → HeadsFirst (l ∷ ls)

-- then none comes behind one that begins none
behind : (ls front after : List Line) (x : Line) → HeadsFirst ls → ls ≡ front ++ x ∷ after → is_head x ≡ false
    → BeginNone after
behind ls front after x (NoHead same all) e not_head =
    λ l i. all l (subst (In l) (sym e) (in_behind l front (x ∷ after) (inr i)))
behind (y ∷ ls) [] after x (Head l rest is first) e not_head =
    absurd (false≢true (sym not_head ∙ ap is_head (sym (head_same y x ls after e)) ∙ is))
behind (y ∷ ls) (z ∷ front) after x (Head l rest is first) e not_head =
    behind ls front after x first (tail_same y z ls (front ++ x ∷ after) e) not_head

first_both : (xs ys : List Line) → HeadsFirst xs → BeginNone ys → HeadsFirst (xs ++ ys)
first_both xs ys (NoHead same all) q = NoHead (xs ++ ys) (none_both xs ys all q)
first_both (x ∷ xs) ys (Head l rest is first) q = Head x (xs ++ ys) is (first_both xs ys first q)

-- ---- what a move tells

leads_first : (w : World) (i : Option Input) (a : Act) → Leads w i a → HeadsFirst a.told
leads_first w i a (Silent told posts is) = subst HeadsFirst (sym told) (NoHead [] of_nothing)
leads_first w i a (Heads l rest told is clock input flat) =
    subst HeadsFirst (sym told) (Head l rest is (NoHead rest (none_flat rest flat)))

pending_first : (a : Act) → IsPending a → HeadsFirst a.told
pending_first a (posts, inl told) = subst HeadsFirst (sym told) (NoHead [] of_nothing)
pending_first a (posts, inr (c, k, told)) =
    subst HeadsFirst (sym told) (NoHead _ (none_more (line.Ended c _) [] refl of_nothing))

begins_first : (w : World) (chosen : List ℕ) (e : Event) → HeadsFirst (begins w chosen e).told
unfolding begins
begins_first w chosen (event.Deliver number) = leads_first w _ _ (delivers_lead w chosen number)
begins_first w chosen (event.Timeout c component) = leads_first w _ _ (timeout_leads w c component)
begins_first w chosen (event.Inject d bytes) = leads_first w _ _ (injects_lead w d bytes)
begins_first w chosen e =
    NoHead (begins w chosen e).told (none_flat (begins w chosen e).told (begins_flat w chosen e refl))

acts_first : (w : World) (chosen : List ℕ) (action : Action) → HeadsFirst (acts w chosen action).told
acts_first w chosen (Opens e) = begins_first w chosen e
acts_first w chosen (Delivers number) = leads_first w _ _ (delivers_lead w chosen number)
acts_first w chosen (TimesOut c component) = leads_first w _ _ (timeout_leads w c component)
acts_first w chosen (Pends c) = pending_first (pends w c) (pends_pending w c)

lines_first : (w : World) (chosen : List ℕ) (action : Action)
    → HeadsFirst (lines_in w (record { action = action; chosen = chosen }))
lines_first w chosen (Opens e) =
    Head (line.Event e) _ refl (first_both _ _ (acts_first w chosen (Opens e)) (none_sent _ _))
lines_first w chosen (Delivers number) = first_both _ _ (acts_first w chosen (Delivers number)) (none_sent _ _)
lines_first w chosen (TimesOut c component) = first_both _ _ (acts_first w chosen (TimesOut c component)) (none_sent _ _)
lines_first w chosen (Pends c) = first_both _ _ (acts_first w chosen (Pends c)) (none_sent _ _)

pub none_behind : (w : World) (m : Move) (front after : List Line) (x : Line) → lines_in w m ≡ front ++ x ∷ after
    → is_head x ≡ false → BeginNone after
none_behind w m front after x e not_head =
    behind (lines_in w m) front after x (lines_first w m.chosen m.action) e not_head
