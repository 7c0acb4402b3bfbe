-- A lawful history cut between two lines is lawful.
use Rattle.std.proofs.Common.{◌≡◌, ◌++◌, ◌∷◌, [], ◌⊎◌, inl, inr, List, refl, sym, ap, subst, ◌∙◌, append_assoc}
use Rattle.std.proofs.lemmas.List.{append-nil}
use Rattle.scenario_text.specs.declared.event.Event.{Event}
use Rattle.scenario_text.specs.declared.line.Line.{Line}
use Rattle.world_history.specs.State.{World, empty_world}
use Rattle.world_history.specs.Runs.{Carries}
use Rattle.world_history.specs.History.{Step, AreCarried, end_of, lines_of_steps, StandsFor, Begins, Lawful, FrontsAreLawful}
use Rattle.world_history.specs.History.Begins.{Nothing, Part}
use Rattle.world_history.proofs.Histories.{one_event_more, stands_empty}

-- two ways to split a list: the first part of one is a front of that of the other
pub split : (a b c d : List Line) → a ++ b ≡ c ++ d → ((x : List Line) × (c ≡ a ++ x)) ⊎ ((x : List Line)
    × (a ≡ c ++ x) × (x ++ b ≡ d))
split [] b c d e = inl (c, refl)
split (x ∷ a) b [] d e = inr (x ∷ a, refl, e)
split (x ∷ a) b (y ∷ c) d e =
    let heads : x ≡ y = cc in
    let tails : a ++ b ≡ c ++ d = cc in
    elim (split a b c d tails) [
      | inl s ↦ inl (s.0, ap (λ (z : Line). z ∷ c) (sym heads) ∙ ap (λ (l : List Line). x ∷ l) s.1)
      | inr s ↦ inr (s.0, ap (λ (z : Line). z ∷ a) heads ∙ ap (λ (l : List Line). y ∷ l) s.1, s.2)
    ]

cut_part : (w : World) (h more lines : List Line) → lines ≡ h ++ more → Begins w lines → Begins w h
cut_part w [] more lines e b = Nothing refl
cut_part w (x ∷ h) more lines e (Nothing n) = absurd (cc (sym e ∙ n))
cut_part w (x ∷ h) more lines e (Part event c) = Part event (record {
  allowed = c.allowed;
  moves = c.moves;
  are_due = c.are_due;
  part = (more ++ c.part.0, c.part.1 ∙ ap (λ (l : List Line). l ++ c.part.0) e ∙ append_assoc (x ∷ h) more c.part.0);
})

whole_part : (w v : World) (e : Event) (lines : List Line) → Carries w e lines v → Begins w lines
whole_part w v e lines c =
    Part e (record {
      allowed = c.allowed;
      moves = c.moves;
      are_due = c.are_due;
      part = (
        [],
        sym c.lines_are
            ∙ sym (append-nil lines),
      );
    })

-- the cut falls into the steps from a world on that stands for the lines before, or behind them
cut_steps : (w : World) (before : List Line) → StandsFor w before → (steps : List Step) → AreCarried w steps
    → (last : List Line) → Begins (end_of w steps) last
    → (h more : List Line) → h ++ more ≡ lines_of_steps steps ++ last → Lawful (before ++ h)
cut_steps w before s [] r last b h more e = record {
  world = w;
  whole = before;
  stands = s;
  last = h;
  begins =
      cut_part w h more last (sym e) b;
  lines_are = refl;
}
cut_steps w before s (x ∷ steps) r last b h more e =
    elim (split h more x.lines (lines_of_steps steps ++ last) (e ∙ append_assoc x.lines (lines_of_steps steps) last)) [
      | inl c ↦ record {
        world = w;
        whole = before;
        stands = s;
        last = h;
        begins =
            cut_part w h c.0 x.lines c.1 (whole_part w x.after x.event x.lines r.0);
        lines_are = refl;
      }
      | inr c ↦ subst Lawful (append_assoc before x.lines c.0 ∙ ap (λ (l : List Line). before ++ l) (sym c.1))
          (cut_steps x.after (before ++ x.lines)
          (one_event_more w x.after before x.lines x.event s r.0) steps r.1 last b c.0 more c.2)
    ]

pub fronts_are_lawful : FrontsAreLawful
fronts_are_lawful h more l =
    cut_steps empty_world [] stands_empty l.stands.steps l.stands.carried l.last (subst (λ
    (x : World). Begins x l.last) l.stands.world_is l.begins) h more
    (l.lines_are ∙ ap (λ (x : List Line). x ++ l.last) l.stands.lines_are)
