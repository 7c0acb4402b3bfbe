-- What the empty history has, and each event's beginning and each later move keep, holds at each moment.
use Rattle.std.proofs.Common.{◌≡◌, ◌++◌, ◌∷◌, [], List, sym, subst}
use Rattle.std.proofs.lemmas.List.{append-nil}
use Rattle.scenario_text.specs.declared.event.Event.{Event}
use Rattle.scenario_text.specs.declared.line.Line.{Line}
use Rattle.world_history.specs.State.{World}
use Rattle.world_history.specs.Sending.{Move}
use Rattle.world_history.specs.Plans.{plan_of}
use Rattle.world_history.specs.Refusals.{refusal}
use Rattle.world_history.specs.Runs.{world_after, AreDue}
use Rattle.world_history.specs.History.{StandsFor}
use Rattle.world_history.proofs.Always.{IsKept}
use Rattle.std.proofs.Common.{None}
use Rattle.history_law.specs.HistoryMoments.{IsReached}
use Rattle.history_law.proofs.Histories.{stands, kept_part}
use Rattle.history_law.specs.BookMoments.{IsMoment, lines_so_far}

module _ (P : World → List Line → Type 0) (k : IsKept P) where
  at_moves : (v : World) (h : List Line) (e : Event) (ms : List Move) → StandsFor v h → refusal v e ≡ None
      → AreDue (plan_of v e) v ms → P (world_after v ms) (h ++ lines_so_far v e ms)
  at_moves v h e [] s allowed due = subst (P v) (sym (append-nil h)) (stands P k v h s)
  at_moves v h e (m ∷ ms) s allowed due = kept_part P k v h e m ms due allowed (stands P k v h s)

  pub at_moment : (w : World) (h : List Line) → IsMoment w h → P w h
  at_moment w h m =
      subst (λ (v : World). P v h) (sym m.world_is)
      (subst (P (world_after m.before m.moves)) (sym m.lines_are)
      (at_moves m.before m.history m.event m.moves m.stands m.allowed m.are_due))

-- a moment is reached
pub reached : (w : World) (h : List Line) → IsMoment w h → IsReached w
reached w h m = record {
  before = m.before;
  history = m.history;
  stands = m.stands;
  moves = m.moves;
  world_is = m.world_is;
}
