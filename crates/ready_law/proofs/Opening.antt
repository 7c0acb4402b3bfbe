-- The opening move of a ready call's event: what it brings, and the lines behind it.
use Rattle.std.proofs.Common.{◌≡◌, ◌&&◌, Bool, true, List, [], ◌∷◌, ◌++◌, sym, ap, subst, ◌∙◌, append_assoc, arith}
use Rattle.std.proofs.lemmas.List.Sums.{fold-append}
use Rattle.scenario_text.specs.declared.event.Event.{Event}
use Rattle.scenario_text.specs.declared.event.Event.TheVariants as event
use Rattle.scenario_text.specs.declared.line.Line.{Line}
use Rattle.scenario_text.specs.declared.line.Line.TheVariants as line
use Rattle.world_history.specs.declared.messages.Message.{Message}
use Rattle.world_history.specs.State.{World}
use Rattle.world_history.specs.Moves.{Action, Opens, acts}
use Rattle.world_history.specs.Sending.{Move, move, sends_all}
use Rattle.world_history.specs.Runs.{lines_of, Carries}
use Rattle.world_history.specs.Guesses.{Guarded, guards, unguessed}
use Rattle.history_law.specs.Moments.{with_event, lines_in}
use Rattle.exchange_law.specs.Doing.{posted}
use Rattle.cause_law.proofs.Eventless.{NoEvent, opens_plain}
use Rattle.cause_law.proofs.Queue.{queue_is_due}
use Rattle.ready_law.proofs.Calls.{ReadyCall, first_at, queue_at}
use Rattle.ready_law.proofs.Going.{OpensCall}
use Rattle.ready_law.proofs.Walking.{clean_behind, counted}

-- behind an event stand the lines of its moves
pub body_of_moves : (w after : World) (e : Event) (body : List Line) (c : Carries w e (line.Event e ∷ body) after) (m : Move)
    (ns : List Move) → c.moves ≡ m ∷ ns → body ≡ (move w m).lines ++ lines_of (move w m).world ns
body_of_moves w after e body c m ns moves_are =
    let all : line.Event e ∷ body ≡ line.Event e ∷ lines_of w (m ∷ ns) =
    c.lines_are ∙ ap (λ (ms : List Move). line.Event e ∷ lines_of w ms) moves_are in
    cc all

module _ (s : ReadyCall) (m : Move) (opens : m.action ≡ Opens (event.Do s.client s.its)) where
  abbrev v : World
  v = s.world

  abbrev own : Event
  own = event.Do s.client s.its

  -- nothing is guessed in a `do`
  pub opened_clean : unguessed (s.history ++ lines_in v m) ≡ true
  opened_clean =
      ap (λ (a : Action). unguessed (s.history ++ with_event a (move v m).lines)) opens
      ∙ ap unguessed (sym (append_assoc s.history (line.Event own ∷ []) (move v m).lines))
      ∙ clean_behind (s.history ++ line.Event own ∷ []) (move v m).lines
      (subst (λ (a : Action). NoEvent (sends_all (acts v m.chosen a)).lines) (sym opens) (opens_plain v m.chosen own))
      (ap (λ (g : Guarded). g.unguessed) (fold-append guards _ s.history (line.Event own ∷ []))
      ∙ ap (λ (b : Bool). b && true) s.ready.unguessed)

  -- it opens the call
  pub opens_call : OpensCall s m
  opens_call = record {
    action_is = opens;
    queue_is =
        subst (λ (a : Action). queue_at s (move v (record { action = a; chosen = m.chosen })).world
        ≡ posted (acts v m.chosen a).posts) (sym opens)
        (queue_is_due.stays v (first_at s) (record { action = Opens own; chosen = m.chosen }) tt (omega arith)
        ∙ ap (λ (ms : List Message). ms ++ posted (acts v m.chosen (Opens own)).posts) (queue_is_due.first v));
    count_is = counted v m;
  }
