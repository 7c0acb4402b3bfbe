-- Where a new request comes, it is its client's outstanding one, and no other has its number: what it returns is read off its
-- line.
-- Towards `CutsKeepEntries` (`specs/EntriesTied.antt`).
use Rattle.std.proofs.Common.{◌≡◌, ℕ, List, take, Some, refl, sym, ap, ◌∙◌}
use Rattle.layout_ops.specs.declared.messages.Request.{Request}
use Rattle.scenario_text.specs.declared.line.Line.{Line}
use Rattle.server_rules.specs.History.{Input}
use Rattle.server_rules.specs.Slots.{admit, slot_of}
use Rattle.world_history.specs.Calm.{returned_in}
use Rattle.world_history.specs.Sending.{Move}
use Rattle.world_history.specs.ServerNames.{File}
use Rattle.world_history.specs.State.{World}
use Rattle.history_law.specs.Moments.{lines_in}
use Rattle.exchange_law.specs.Doing.{said}
use Rattle.exchange_law.specs.InStep.{ClientsAreInStep, IsInStep}
use Rattle.exchange_law.specs.Meeting.{IsReadableThrough}
use Rattle.exchange_law.specs.Messages.{AsksOf}
use Rattle.exchange_law.proofs.CountGrowing.{fewer, text_front}
use Rattle.exchange_law.proofs.HeldWorlds.{readable_there}
use Rattle.exchange_law.proofs.Knowing.{lawful_at}
use Rattle.cause_law.specs.Readable.{FilesAndAnswersAreReadable}
use Rattle.fence_law.specs.State.{State}
use Rattle.file_simulation.specs.Relation.{client_of}
use Rattle.file_simulation.specs.Tied.{HasAsked}
use Rattle.relation_law.specs.RequestsGoing.{IsItsRequest}
use Rattle.relation_law.specs.Steps.{Follows}
use Rattle.relation_law.proofs.RequestsHeard.{heard_in, its_request}
use Rattle.headline_law.proofs.EntriesServerLoss.{TakesLoss}
use Rattle.headline_law.proofs.EntriesServerOver.{returned_by}
use Rattle.headline_law.proofs.EntriesServerTold.{IsDelivered}
use Rattle.headline_law.proofs.LossOthersLive.{each_said, new_is}
use Rattle.headline_law.proofs.LossOverNew.{ReturnsAreTold}

-- The message that comes is a request of the client, and its line tells what it returns.
abbrev pub DeliveredWasAsked : Type 0
DeliveredWasAsked =
    (w : World) (h : List Line) (m : Move) (count : ℕ) (f g : File) (s : State) → Follows w h m count f g s → (i : Input) →
    (loss : TakesLoss w.server m.chosen i) → (d : IsDelivered w m i) →
    (r : Request) × HasAsked w loss.request.client r × (r.sequence ≡ loss.request.sequence)
    × (returned_by h d ≡ returned_in r.args)

pub returns_are_told : ClientsAreInStep → FilesAndAnswersAreReadable → DeliveredWasAsked → ReturnsAreTold
returns_are_told in_step readable was w h m count f g s pairs k i is loss d new q has same number returned =
    z.3 ∙ ap (λ (x : Request). returned_in x.args) (one z.0 z.1 z.2 ∙ sym (one q has same)) ∙ returned
  where
    z : (r : Request) × HasAsked w loss.request.client r × (r.sequence ≡ loss.request.sequence)
        × (returned_by h d ≡ returned_in r.args)
    z = was w h m count f g s k.shown.follows i loss d

    through : IsReadableThrough h
    through =
        readable h (lawful_at w h k.shown.follows.moment)
        (text_front h (take count (lines_in w m)) k.shown.follows.calm.scenario.text)
        (fewer h (take count (lines_in w m)) k.shown.follows.calm.scenario.few)

    stands : IsInStep w h loss.request.client (client_of w loss.request.client)
    stands = in_step w h k.shown.follows.moment loss.request.client

    its : IsItsRequest w loss.request.client loss.request
    its =
        its_request w h loss.request.client k.shown.follows.moment stands (readable_there w h k.shown.follows.moment through)
        loss.now loss.request loss.asked.named (heard_in w m.action _ (is ∙ ap Some loss.asked.is))
        (new_is (admit (slot_of w.server.slots loss.request.client) loss.request.sequence) new)

    one : (x : Request) → HasAsked w loss.request.client x → x.sequence ≡ loss.request.sequence → x ≡ its.request
    one x asked e =
        (each_said (AsksOf loss.request.client (client_of w loss.request.client)) (said w.network.messages) _ stands.asks asked
        refl refl).outstanding its.request its.outstanding (e ∙ its.reads.sequence)
