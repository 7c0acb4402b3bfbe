-- What holds behind each move of the lines that it tells holds at the end of the step of each such line, in each whole
-- history.
use Rattle.std.proofs.Common.{◌≡◌, ◌⊎◌, false, List, [], ◌∷◌, ◌++◌, Some, refl, sym, ap, subst, ◌∙◌, append_assoc, inl, inr}
use Rattle.std.proofs.lemmas.List.{append-nil}
use Rattle.osd_lists.proofs.Slices.{head_same, tail_same}
use Rattle.scenario_text.specs.declared.line.Line.{Line}
use Rattle.world_history.specs.State.{World}
use Rattle.world_history.specs.Reading.{is_head}
use Rattle.world_history.specs.Sending.{Move, move}
use Rattle.world_history.specs.Plans.{due}
use Rattle.world_history.specs.History.{StandsFor, OneEventMore}
use Rattle.history_law.specs.BookMoments.{IsMoment, plan_at, lines_in}
use Rattle.history_law.specs.StepEnds.{AtStepEnds}
use Rattle.history_law.proofs.Behind.{none_behind}
use Rattle.history_law.proofs.Moments.{stands_kept}
use Rattle.history_law.proofs.NextSteps.{begin_more, move_begins}

-- a line of two lists is one of the first, or of the second
pub place_of : (h ls before after : List Line) (x : Line) → h ++ ls ≡ before ++ x ∷ after
    → ((rest : List Line) × (h ≡ before ++ x ∷ rest) × (after ≡ rest ++ ls))
    ⊎ ((front : List Line) × (before ≡ h ++ front) × (ls ≡ front ++ x ∷ after))
place_of [] ls before after x e = inr (before, refl, e)
place_of (y ∷ h) ls [] after x e =
    inl (h, ap (λ (z : Line). z ∷ h) (head_same y x (h ++ ls) after e), sym (tail_same y x (h ++ ls) after e))
place_of (y ∷ h) ls (z ∷ before) after x e =
    elim (place_of h ls before after x (tail_same y z (h ++ ls) (before ++ x ∷ after) e)) [
      | inl (rest, is, behind) ↦ inl (
        rest,
        ap (λ (v : Line). v ∷ h) (head_same y z (h ++ ls) (before ++ x ∷ after) e) ∙ ap (λ (l : List Line). z ∷ l) is,
        behind,
      )
      | inr (front, own, is) ↦ inr (
        front,
        ap (λ (v : Line). v ∷ before) (sym (head_same y z (h ++ ls) (before ++ x ∷ after) e))
            ∙ ap (λ (l : List Line). y ∷ l) own,
        is,
      )
    ]

-- The lines of this kind, none of which begins a step; what a history has in each of its fronts; and what holds behind
-- each move of the lines that it tells.
pub record IsSaid (Fine : List Line → Type 0) (Says : Line → Type 0) (Holds : Line → (before upto : List Line) → Type 0)
    : Type 0 where
  pub fronts : (xs ys : List Line) → Fine (xs ++ ys) → Fine xs
  pub tells : (l : Line) → Says l → is_head l ≡ false
  pub ends : (w : World) (h : List Line) (k : IsMoment w h) (m : Move) → due (plan_at k) w ≡ Some m.action
      → Fine (h ++ lines_in w m) → (front : List Line) (l : Line) (after : List Line) → lines_in w m ≡ front ++ l ∷ after
      → Says l → Holds l (h ++ front) (h ++ lines_in w m)

module _ (Fine : List Line → Type 0) (Says : Line → Type 0) (Holds : Line → (before upto : List Line) → Type 0)
    (said : IsSaid Fine Says Holds) where
  abbrev So : World → List Line → Type 0
  So w h = Fine h → AtStepEnds Says Holds h

  nothing : AtStepEnds Says Holds []
  nothing [] l after is says = absurd (cc is)
  nothing (x ∷ before) l after is says = absurd (cc is)

  one_more : (w : World) (h : List Line) (k : IsMoment w h) (m : Move) → due (plan_at k) w ≡ Some m.action → So w h
      → So (move w m).world (h ++ lines_in w m)
  one_more w h k m d so fine before l after is says =
      elim (place_of h (lines_in w m) before after l is) [
        | inl (rest, own, behind) ↦
            let e = so (said.fronts h (lines_in w m) fine) before l rest own says in
            record {
              rest = e.rest;
              more = e.more ++ lines_in w m;
              cut = behind ∙ ap (λ (ls : List Line). ls ++ lines_in w m) e.cut ∙ append_assoc e.rest e.more (lines_in w m);
              of_step = e.of_step;
              ends = begin_more e.more (lines_in w m) e.ends (move_begins w m);
              holds = e.holds;
            }
        | inr (front, own, it) ↦ record {
          rest = after;
          more = [];
          cut = sym (append-nil after);
          of_step = none_behind w m front after l it (said.tells l says);
          ends = tt;
          holds =
              subst (λ (ls : List Line). Holds l ls (before ++ l ∷ after)) (sym own)
              (subst (Holds l (h ++ front)) is (said.ends w h k m d fine front l after it says));
        }
      ]

  pub at_step_ends : OneEventMore → (w : World) (h : List Line) → StandsFor w h → Fine h → AtStepEnds Says Holds h
  at_step_ends more w h s fine =
      stands_kept So (record { starts = λ none. nothing; moves = one_more }) more w h s fine
