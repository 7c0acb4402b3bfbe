-- What events that lose and perform nothing leave: what disturbs a column disturbed it before, and what is lost was lost.
use Rattle.std.proofs.Common.{◌≡◌, ℕ, true, false, List, [], ◌∷◌, refl, sym, ap, ◌∙◌}
use Rattle.fence_law.specs.Columns.{Disturbed, Gone}
use Rattle.fence_law.specs.Law.{IsCode}
use Rattle.fence_law.specs.Machine.{Lawful, after, after_all}
use Rattle.fence_law.specs.State.{State, Event, Layout}
use Rattle.fence_law.proofs.SmallFiles.{same_map}
use Rattle.file_simulation.specs.Showing.{IsRun}
use Rattle.relation_law.specs.Frames.{AreAll}
use Rattle.headline_law.specs.Watching.{CameFrom}
use Rattle.headline_law.proofs.CalmAhead.{run_peaceful, sure_run, code_on}
use Rattle.headline_law.proofs.CalmEvents.{IsPeaceful, PerformsNone, LosesNone, came}
use Rattle.headline_law.proofs.CalmGone.{gone_stays}
use Rattle.headline_law.proofs.CalmNotes.{FencesNone, lost_before, rests_on}

came_then : (s u t : State) → CameFrom s u → CameFrom u t → CameFrom s t
came_then s u t front back x d =
    let c = back x d in
    let p = front x c.0 in (
      p.0,
      p.1 ∙ c.1,
      c.2 ∙ ap u.start (sym c.1) ∙ p.2 ∙ ap s.start c.1,
    )

pub came_all : (s : State) (es : List Event) → AreAll PerformsNone es → CameFrom s (after_all s es)
came_all s [] none x d = (d, refl, refl)
came_all s (e ∷ es) none x d =
    came_then s (after s e) (after_all (after s e) es) (λ y c. came s e none.0 y c) (came_all (after s e) es none.1) x d

pub lost_all : (s : State) (es : List Event) → AreAll LosesNone es → (k : ℕ) → (after_all s es).lost k ≡ true →
    s.lost k ≡ true
lost_all s [] none k gone = gone
lost_all s (e ∷ es) none k gone = lost_before s e none.0 k (lost_all (after s e) es none.1 k gone)

pub gone_all : (s : State) (es : List Event) → IsCode s.layout → IsRun s → AreAll IsPeaceful es → AreAll PerformsNone es →
    Lawful s es → (x : ℕ) → s.layout.coded x ≡ false → Disturbed (after_all s es) x → Gone s x → Gone (after_all s es) x
gone_all s [] code run quiet none l x plain d gone = gone
gone_all s (e ∷ es) code run quiet none l x plain d gone =
    let was : Disturbed s x = (came_all s (e ∷ es) none x d).0 in
    gone_all (after s e) es (code_on s e code) (run_peaceful s (e ∷ []) code run (quiet.0, tt) (l.0, tt)) quiet.1 none.1 l.1 x
    (plain_on s e x plain) d (gone_stays s e l.0 (sure_run s code run) x plain was gone)
  where
    plain_on : (u : State) (v : Event) (y : ℕ) → u.layout.coded y ≡ false → (after u v).layout.coded y ≡ false
    plain_on u v y e = ap (λ (z : Layout). z.coded y) (same_map u v) ∙ e

pub rests_all : (s : State) (es : List Event) → AreAll FencesNone es → Lawful s es → s.fencing ≡ false →
    s.repairing ≡ false → ((after_all s es).fencing ≡ false) × ((after_all s es).repairing ≡ false)
rests_all s [] none l p q = (p, q)
rests_all s (e ∷ es) none l p q =
    let r = rests_on s e none.0 l.0 (p, q) in
    rests_all (after s e) es none.1 l.1 r.0 r.1
