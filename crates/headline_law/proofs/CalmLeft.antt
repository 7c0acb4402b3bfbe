-- What tore a column before a move is left at the moments of the move, as long as its grants are those before it.
use Rattle.std.proofs.Common.{◌≡◌, ◌==◌, not, ℕ, true, false, List, [], ◌∷◌, slice_get, refl, sym, ap, ◌∙◌, inl, inr}
use Rattle.std.specs.List.{list_any}
use Rattle.std.proofs.lemmas.Bool.{cases_Bool, eqb-true}
use Rattle.server_rules.specs.Laws.{In}
use Rattle.scenario_text.specs.declared.line.Line.{Line}
use Rattle.world_history.specs.ServerNames.{File, Grant}
use Rattle.world_history.specs.ReadLog.{Logged, Log}
use Rattle.world_history.specs.Stripes.{Moment, Mark, is_left}
use Rattle.world_history.specs.Calm.{moment_of}
use Rattle.fence_law.specs.State.{State}
use Rattle.file_simulation.specs.Simulation.{EarlierAreOver}
use Rattle.file_simulation.specs.Showing.{Pairs, HasMark, ShowsLines, IsSame}
use Rattle.headline_law.specs.Marks.{AreLeft}

-- no live grant of the file has this number
abbrev pub NoneHas : List Grant → (number : ℕ) → Type 0
NoneHas gs n = (g : Grant) → In g gs → g.number ≡ n → ⊥

none_live : (gs : List Grant) (n : ℕ) → NoneHas gs n → list_any (λ (g : Grant). g.number == n) gs ≡ false
none_live [] n none = refl
none_live (g ∷ gs) n none = elim (cases_Bool (g.number == n)) [
  | inl t ↦ absurd (none g (inl refl) (eqb-true g.number n t))
  | inr z ↦ rw z (none_live gs n (λ x i e. none x (inr i) e))
]

-- so an entry under it is left
pub left_then : (m : Moment) (f : File) (e : Logged) → NoneHas f.kept.grants e.grant → is_left m f e ≡ true
left_then m f e none = rw (none_live f.kept.grants e.grant none) refl

-- marks that stay
pub marked_before : (s : State) (m n : Moment) (f : File) (pairs : Pairs) →
    ((y : Mark) → In y m.marks → In y n.marks) → (j x : ℕ) → HasMark s m f pairs j x → HasMark s n f pairs j x
marked_before s m n f pairs more j x (inl k) = inl (k.0, k.1, more _ k.2)
marked_before s m n f pairs more j x (inr none) = inr none

-- what tore a column is unfinished, and its grant is over
pub left_before : (h : List Line) (s : State) (f : File) (pairs : Pairs) → ShowsLines h s f.kept.number pairs →
    EarlierAreOver s f → (n : Moment) → n.log ≡ (moment_of h).log → AreLeft s n f pairs
left_before h s f pairs lines over n same x i t coded pair =
    let p = lines.paired.same i t.0 pair in
    let e : Logged = p.0 in
    let is : IsSame s f.kept.number t.0 e = p.2 in
    record {
      entry = e;
      found = ap (λ (l : Log). slice_get l.entries i) same ∙ p.1;
      unfinished = is.unfinished t.6 ∙ ap not t.7;
      left = left_then n f e (λ g there number. over t.0 g t.5 t.12 there (number ∙ sym is.grant));
    }
