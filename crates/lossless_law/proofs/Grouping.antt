-- The lines of a history are those of its steps, and each message keeps who sent it and to whom.
use Rattle.std.proofs.Common.{◌≡◌, inl, inr, ℕ, zero, suc, Bool, true, false, true≢false, List, [], ◌∷◌, ◌++◌, Option, Some, None, refl, sym, ap, ◌∙◌, slice_get, slice_set}
use Rattle.std.specs.List.{AllByRecursion, fold}
use Rattle.scenario_text.specs.declared.event.Event.TheVariants as event
use Rattle.scenario_text.specs.declared.line.Line.{Line}
use Rattle.scenario_text.specs.declared.line.Line.TheVariants as line
use Rattle.world_history.specs.declared.messages.Sent.{Sent}
use Rattle.world_history.specs.Reading.{is_head, Step, grouped_with, grouped, steps_of, arrived, left_out, changed_by, sent_after}
use Rattle.history_law.specs.StepEnds.{BeginNone}

-- ---- steps

abbrev pub NoHead : Line → Type 0
NoHead l = is_head l ≡ false

-- the lines of steps
abbrev pub flat : List Step → List Line
flat [] = []
flat (t ∷ ts) = t.head ∷ (t.rest ++ flat ts)

-- each begins with a line that begins a step, and has no other
abbrev pub AreSteps : List Step → Type 0
AreSteps [] = Unit {0}
AreSteps (t ∷ ts) = (is_head t.head ≡ true) × AllByRecursion NoHead t.rest × AreSteps ts

pub record Ungrouped (ls : List Line) : Type 0 where
  pub lines : ls ≡ (grouped ls).loose ++ flat (grouped ls).steps
  pub loose : AllByRecursion NoHead (grouped ls).loose
  pub steps : AreSteps (grouped ls).steps

ungroup_if : (b : Bool) (l : Line) (ls : List Line) → is_head l ≡ b → Ungrouped ls
    → (l ∷ ls ≡ (grouped_with b l (grouped ls)).loose ++ flat (grouped_with b l (grouped ls)).steps)
    × AllByRecursion NoHead (grouped_with b l (grouped ls)).loose × AreSteps (grouped_with b l (grouped ls)).steps
ungroup_if true l ls is u = (ap (λ (x : List Line). l ∷ x) u.lines, tt, (is, u.loose, u.steps))
ungroup_if false l ls is u = (ap (λ (x : List Line). l ∷ x) u.lines, (is, u.loose), u.steps)

pub ungroup : (ls : List Line) → Ungrouped ls
unfolding grouped
ungroup [] = record { lines = refl; loose = tt; steps = tt }
ungroup (l ∷ ls) =
    let it = ungroup_if (is_head l) l ls refl (ungroup ls) in
    record { lines = it.0; loose = it.1; steps = it.2 }

loose_only : (ls : List Line) → AllByRecursion NoHead ls → ((grouped ls).loose ≡ ls) × ((grouped ls).steps ≡ [])
unfolding grouped
loose_only [] n = (refl, refl)
loose_only (l ∷ ls) n =
    let rest : ((grouped ls).loose ≡ ls) × ((grouped ls).steps ≡ []) = loose_only ls n.1 in
    rw n.0 (ap (λ (x : List Line). l ∷ x) rest.0, rest.1)

-- those of one
pub one_step : (t : Step) → is_head t.head ≡ true → AllByRecursion NoHead t.rest → steps_of (t.head ∷ t.rest) ≡ t ∷ []
unfolding grouped
one_step t h n =
    let rest : ((grouped t.rest).loose ≡ t.rest) × ((grouped t.rest).steps ≡ []) = loose_only t.rest n in
    ap (λ (b : Bool). (grouped_with b t.head (grouped t.rest)).steps) h
    ∙ ap (λ (x : List Line). record { head = t.head; rest = x } ∷ (grouped t.rest).steps) rest.0
    ∙ ap (λ (x : List Step). t ∷ x) rest.1

-- ---- where a step ends

-- none is left, or a step begins with these
abbrev pub BeginStep : List Line → Type 0
BeginStep [] = Unit {0}
BeginStep (l ∷ ls) = is_head l ≡ true

-- such lines have none before their first step
pub none_loose : (ls : List Line) → BeginStep ls → (grouped ls).loose ≡ []
unfolding grouped
none_loose [] b = refl
none_loose (l ∷ ls) b = ap (λ (h : Bool). (grouped_with h l (grouped ls)).loose) b

pub flat_begins : (ts : List Step) → AreSteps ts → BeginStep (flat ts)
flat_begins [] a = tt
flat_begins (t ∷ ts) a = a.0

clash : (l : Line) → is_head l ≡ true → is_head l ≡ false → ⊥
clash l h n = true≢false (sym h ∙ n)

-- the further lines of a step are all up to the next
pub same_rest : (xs ys us vs : List Line) → xs ++ ys ≡ us ++ vs → AllByRecursion NoHead xs → BeginStep ys → BeginNone us
    → BeginStep vs → xs ≡ us
same_rest [] ys [] vs e nx by nu bv = refl
same_rest [] [] (u ∷ us) vs e nx by nu bv = absurd (cc e)
same_rest [] (y ∷ ys) (u ∷ us) vs e nx by nu bv =
    let it : y ≡ u = cc e in
    absurd (clash y by (ap is_head it ∙ nu u (inl refl)))
same_rest (x ∷ xs) ys [] [] e nx by nu bv = absurd (cc e)
same_rest (x ∷ xs) ys [] (v ∷ vs) e nx by nu bv =
    let it : x ≡ v = cc e in
    absurd (clash v bv (ap is_head (sym it) ∙ nx.0))
same_rest (x ∷ xs) ys (u ∷ us) vs e nx by nu bv =
    let it : x ≡ u = cc e in
    let rest : xs ++ ys ≡ us ++ vs = cc e in
    ap (λ (l : Line). l ∷ xs) it
    ∙ ap (λ (l : List Line). u ∷ l) (same_rest xs ys us vs rest nx.1 by (λ l i. nu l (inr i)) bv)

-- ---- messages

-- the message goes on under its number
pub record GoesOn (ss : List Sent) (n : ℕ) (x : Sent) : Type 0 where
  pub message : Sent
  pub found : slice_get ss n ≡ Some message
  pub from : message.from ≡ x.from
  pub to : message.to ≡ x.to

as_it_is : (ss : List Sent) (n : ℕ) (x : Sent) → slice_get ss n ≡ Some x → GoesOn ss n x
as_it_is ss n x e = record { message = x; found = e; from = refl; to = refl }

set_goes : (ss : List Sent) (k : ℕ) (y z : Sent) → slice_get ss k ≡ Some y → z.from ≡ y.from → z.to ≡ y.to → (n : ℕ) (x : Sent)
    → slice_get ss n ≡ Some x → GoesOn (slice_set ss k z) n x
set_goes [] k y z at from to n x e = absurd (cc e)
set_goes (s ∷ ss) zero y z at from to zero x e =
    let one : s ≡ y = cc at in
    let two : s ≡ x = cc e in
    record {
      message = z;
      found = refl;
      from = from ∙ ap (λ (w : Sent). w.from) (sym one ∙ two);
      to = to ∙ ap (λ (w : Sent). w.to) (sym one ∙ two);
    }
set_goes (s ∷ ss) zero y z at from to (suc n) x e = as_it_is (z ∷ ss) (suc n) x e
set_goes (s ∷ ss) (suc k) y z at from to zero x e = as_it_is (s ∷ slice_set ss k z) zero x e
set_goes (s ∷ ss) (suc k) y z at from to (suc n) x e =
    let it : GoesOn (slice_set ss k z) n x = set_goes ss k y z at from to n x e in
    record { message = it.message; found = it.found; from = it.from; to = it.to }

changed_goes : (ss : List Sent) (k : ℕ) (change : Sent → Sent)
    → ((s : Sent) → ((change s).from ≡ s.from) × ((change s).to ≡ s.to))
    → (o : Option Sent) → slice_get ss k ≡ o → (n : ℕ) (x : Sent) → slice_get ss n ≡ Some x
    → GoesOn (changed_by ss k change o) n x
changed_goes ss k change keeps None at n x e = as_it_is ss n x e
changed_goes ss k change keeps (Some s) at n x e =
    set_goes ss k s (change s) at (keeps s).0 (keeps s).1 n x e

more_get : (ss ys : List Sent) (n : ℕ) (x : Sent) → slice_get ss n ≡ Some x → slice_get (ss ++ ys) n ≡ Some x
more_get [] ys n x e = absurd (cc e)
more_get (s ∷ ss) ys zero x e = e
more_get (s ∷ ss) ys (suc n) x e = more_get ss ys n x e

line_goes : (ss : List Sent) (l : Line) (n : ℕ) (x : Sent) → slice_get ss n ≡ Some x → GoesOn (sent_after ss l) n x
line_goes ss (line.Event (event.DropMessage k)) n x e =
    changed_goes ss k left_out (λ s. (refl, refl)) (slice_get ss k) refl n x e
line_goes ss (line.Message number from to bytes) n x e = as_it_is _ n x (more_get ss _ n x e)
line_goes ss (line.Delivered k d) n x e = changed_goes ss k arrived (λ s. (refl, refl)) (slice_get ss k) refl n x e
line_goes ss l n x e = as_it_is ss n x e

-- through further lines
pub message_goes : (ss : List Sent) (ls : List Line) (n : ℕ) (x : Sent) → slice_get ss n ≡ Some x
    → GoesOn (fold sent_after ss ls) n x
message_goes ss [] n x e = as_it_is ss n x e
message_goes ss (l ∷ ls) n x e =
    let one : GoesOn (sent_after ss l) n x = line_goes ss l n x e in
    let rest : GoesOn (fold sent_after (sent_after ss l) ls) n one.message =
    message_goes (sent_after ss l) ls n one.message one.found in
    record { message = rest.message; found = rest.found; from = rest.from ∙ one.from; to = rest.to ∙ one.to }
