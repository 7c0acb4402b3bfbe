-- There is room for the numbers that a move uses.
use Rattle.std.proofs.Common.{◌≡◌, ◌≤◌, ◌++◌, List, length, Some, subst, arith}
use Rattle.scenario_text.specs.declared.line.Line.{Line}
use Rattle.client_rules.specs.Calls.{file_of}
use Rattle.client_rules.specs.History.{step}
use Rattle.world_history.specs.State.{World}
use Rattle.world_history.specs.Moves.{acts}
use Rattle.world_history.specs.Sending.{Move, move}
use Rattle.world_history.specs.Plans.{due}
use Rattle.world_history.specs.declared.limits.TheConstants.{MAX_KEPT}
use Rattle.history_law.specs.BookMoments.{IsMoment, plan_at, lines_in}
use Rattle.history_law.proofs.Ending.{next_moment}
use Rattle.exchange_law.proofs.ClientMoves.{clients_always}
use Rattle.exchange_law.proofs.ClientsCounted.{Fits, fits_kept}
use Rattle.exchange_law.proofs.CountAsking.{FoundCounts, found_counts}
use Rattle.exchange_law.proofs.CountClients.{Counted}
use Rattle.exchange_law.proofs.CountMoments.{reached}
use Rattle.cause_law.proofs.Files.{few_objects, few_there}
use Rattle.file_simulation.specs.Claim.{IsOfScenario}
use Rattle.file_simulation.specs.ClientEvents.{Going, going_in}
use Rattle.relation_law.specs.Frames.{ByClient}
use Rattle.relation_law.specs.Steps.{HasNonces, HasRoom}
use Rattle.relation_law.proofs.FramesParties.{client_goes}

-- behind a whole move that the history has
pub room_whole : (w : World) (h : List Line) (m : Move) (k : IsMoment w h) → due (plan_at k) w ≡ Some m.action →
    IsOfScenario (h ++ lines_in w m) → HasRoom w m
room_whole w h m k is_due scenario = record {
  objects = few_objects (move w m).world (h ++ lines_in w m) behind scenario.text scenario.few;
  commands = low;
}
  where
    behind : IsMoment (move w m).world (h ++ lines_in w m)
    behind = next_moment w h k m is_due

    low : (j : Going) → going_in w m.action ≡ Some j → HasNonces (step j.state j.input).client
    low j goes call is a there held holds =
        let its : ByClient w m.action j (acts w m.chosen m.action) = client_goes w h k m is_due j goes in
        let counts : Counted (length (move w m).world.network.messages) (step j.state j.input).client =
        subst (Counted (length (move w m).world.network.messages)) its.behind
        (clients_always Fits fits_kept (move w m).world (reached (move w m).world (h ++ lines_in w m) behind) j.client its.after
        its.mine).counts in
        let counted : held.count ≤ length (move w m).world.network.messages =
        subst (FoundCounts (length (move w m).world.network.messages)) holds
        (found_counts (length (move w m).world.network.messages) (step j.state j.input).client.held (file_of call.op)
        counts.commands) in
        let few : length (move w m).world.network.messages ≤ MAX_KEPT =
        few_there (move w m).world (h ++ lines_in w m) behind scenario.few in
        omega (arith, few, counted)
