-- That lines show bytes, line by line.
use Rattle.std.proofs.Common.{ℕ, ◌≡◌, ◌<◌, ◌+◌, List, [], ◌∷◌, length, take, get_or, sym, subst}
use Rattle.std.proofs.lemmas.List.{take_more}
use Rattle.scenario_text.specs.declared.line.Line.{Line}
use Rattle.history_claims.specs.Carried.{AreCarried, IsCarried}
use Rattle.osd_replay.proofs.Telling.{carried_on}

-- the lines of a list up to one more
pub carried_next : (ls : List Line) (i : ℕ) (l : Line) → i < length ls → l ≡ get_or ls i l → AreCarried (take i ls) → IsCarried l
    → AreCarried (take (i + 1) ls)
carried_next ls i l inside here before one =
    subst (λ (xs : List Line). AreCarried xs) (sym (take_more ls i l inside))
    (carried_on (take i ls) (get_or ls i l ∷ []) before (subst (λ (x : Line). IsCarried x) here one, tt))
