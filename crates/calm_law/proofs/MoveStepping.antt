-- The steps in the lines of a move, as they are read and as the code sees them.
use Rattle.std.proofs.Common.{◌≡◌, ℕ, ◌∷◌, [], List, true, false, Some, None, refl, ap}
use Rattle.scenario_text.specs.declared.line.CallKind.{CallKind}
use Rattle.scenario_text.specs.declared.line.Line.{Line}
use Rattle.world_history.specs.declared.messages.Sent.{Sent}
use Rattle.world_history.specs.ServerNames.{Mended}
use Rattle.world_history.specs.Reading.{Grouped, is_head, steps_of}
use Rattle.world_watch.specs.Sighted.{Table}
use Rattle.world_calm.specs.Seeing.{CalmState, KeptOf, sees as sees_step_of}
use Rattle.world_watch.specs.Steps.{is_headed, injected_at, performed_at, sees_headed, sees_step, sees_from, sees_move}
use Rattle.history_law.proofs.BookLines.{one_step}
use Rattle.component_law.specs.LeftPending.{left_pending}
use Rattle.calm_law.specs.Moving.{reads}
use Rattle.component_law.proofs.Shapes.{Bare}

-- ---- as they are read

pub steps_one : (head : Line) (rest : List Line) → is_head head ≡ true → Bare rest
    → steps_of (head ∷ rest) ≡ record { head = head; rest = rest } ∷ []
steps_one head rest h b = ap (λ (g : Grouped). g.steps) (one_step head rest h b)

-- ---- as the code sees them

not_headed : (ls : List Line) → Bare ls → is_headed ls ≡ false
not_headed [] b = refl
not_headed (l ∷ ls) b = b.0

pub sees_plain : (kept : KeptOf) (rs : List Mended) (t : Table) (ms : List Sent) (c : CalmState) (head : Line)
    (rest : List Line) → is_head head ≡ true → Bare rest
    → sees_move kept rs t ms c (head ∷ rest) ≡ sees_step_of kept rs c ms head rest (performed_at ms None head)
unfolding sees_from sees_headed
sees_plain kept rs t ms c head rest h b = rw (not_headed rest b, h) refl

pub sees_behind : (kept : KeptOf) (rs : List Mended) (t : Table) (ms : List Sent) (c : CalmState) (event head : Line)
    (rest : List Line) → is_head head ≡ true
    → sees_move kept rs t ms c (event ∷ head ∷ rest)
    ≡ sees_step_of kept rs c ms head rest (performed_at ms (injected_at t ms event) head)
unfolding sees_from sees_step sees_headed
sees_behind kept rs t ms c event head rest h = rw h refl

pub sees_left : (kept : KeptOf) (rs : List Mended) (t : Table) (ms : List Sent) (c : CalmState) (k : ℕ) (kind : CallKind)
    → sees_move kept rs t ms c (left_pending k kind ∷ []) ≡ c
unfolding sees_from sees_headed
sees_left kept rs t ms c k kind = refl

-- ---- which step that is

pub reads_plain : (head : Line) (rest : List Line) → is_head head ≡ true → Bare rest
    → reads (head ∷ rest) ≡ Some (record { before = []; step = record { head = head; rest = rest } })
reads_plain head rest h b = rw (not_headed rest b, h) refl

pub reads_behind : (event head : Line) (rest : List Line) → is_head head ≡ true
    → reads (event ∷ head ∷ rest) ≡ Some (record { before = event ∷ []; step = record { head = head; rest = rest } })
reads_behind event head rest h = rw h refl
