-- Each grant that a client ever returned has a number that the server has given.
use Rattle.std.specs.Prelude.{◌≡◌, ℕ, ◌<◌, List, Some}
use Rattle.layout_ops.specs.declared.messages.Request.{Request}
use Rattle.scenario_text.specs.declared.line.Line.{Line}
use Rattle.world_history.specs.Calm.{returned_in}
use Rattle.world_history.specs.State.{World}
use Rattle.history_law.specs.BookMoments.{IsMoment}
use Rattle.file_simulation.specs.Claim.{IsOfScenario}
use Rattle.file_simulation.specs.Tied.{HasAsked}

-- the grant that a LAYOUTRETURN of a client names was given: its number is below the server's next
abbrev pub ReturnsAreLow : Type 0
ReturnsAreLow =
    (w : World) (h : List Line) → IsMoment w h → IsOfScenario h → (c number : ℕ) (q : Request) → HasAsked w c q →
    returned_in q.args ≡ Some number → number < w.server.next_grant
