-- What a drive reads in the bytes of a client's message is the command that the client sent.
-- Towards `PostedAreSent` (`proofs/MarksWritesOld.antt`).
use Rattle.std.proofs.Common.{◌≡◌, ℕ, List, [], sym, ap, subst, ◌∙◌, append-nil}
use Rattle.osd_lists.specs.declared.node.Node.{Node}
use Rattle.osd_lists.specs.declared.node.Node.TheVariants as node
use Rattle.osd_commands.specs.declared.commands.Command.{Command}
use Rattle.scenario_text.specs.declared.line.Line.{Line}
use Rattle.server_rules.specs.Laws.{In}
use Rattle.server_rules.proofs.Members.{in_map}
use Rattle.world_history.specs.State.{World}
use Rattle.world_history.specs.declared.messages.Body.{Body}
use Rattle.world_history.specs.declared.messages.Body.TheVariants.{Command as OfCommand}
use Rattle.world_history.specs.declared.messages.Message.{Message}
use Rattle.world_history.specs.declared.messages.Posted.{Posted}
use Rattle.world_history.specs.Drives.{command_in}
use Rattle.history_law.specs.Moments.{IsMoment}
use Rattle.exchange_law.specs.Doing.{said}
use Rattle.exchange_law.specs.Sent.{HasSent}
use Rattle.exchange_law.proofs.Commands.{MaySend}
use Rattle.exchange_law.proofs.Knowing.{lawful_at}
use Rattle.exchange_law.proofs.PlaceWorlds.{PostPlaced}
use Rattle.cause_law.proofs.Objects.{placed_there}
use Rattle.file_simulation.specs.Claim.{IsOfScenario}
use Rattle.file_simulation.specs.Tied.{WasPosted}
use Rattle.relation_law.specs.DriveHearing.{IsReadAs}
use Rattle.relation_law.proofs.ComponentsReading.{read_as}
use Rattle.relation_law.proofs.ComponentsSenders.{SenderLaws, placed_by, same_message}
use Rattle.relation_law.proofs.DriveMoves.{got_in}
use Rattle.headline_law.proofs.MarksWritesOld.{IsCommandOf, PostedAreSent}

-- a client's message to a drive is placed
placed_body : SenderLaws → (w : World) (h : List Line) → IsMoment w h → IsOfScenario h → (n c d : ℕ) (x : Command) →
    (p : WasPosted w n c d x) → PostPlaced (node.Client c) (node.Drive d) p.posted.message.body
placed_body laws w h moment scenario n c d x p =
    let b : Message = p.posted.message in
    let i : In b (said w.network.messages) =
    in_map (λ (z : Posted). z.message) p.posted w.network.messages (got_in w.network.messages n p.posted p.there) in
    subst (λ (y : Node). PostPlaced (node.Client c) y b.body) p.receiver
    (subst (λ (y : Node). PostPlaced y b.to b.body) p.sender
    (placed_there w h moment (laws.answers h (lawful_at w h moment) scenario.text scenario.few) b i))

-- the message of command y was sent, and is read as that command
pub read_is : SenderLaws → (w : World) (h : List Line) → IsMoment w h → IsOfScenario h → (n c d : ℕ) (x : Command) →
    (p : WasPosted w n c d x) → (y : Command) → p.posted.message.body ≡ OfCommand y → HasSent w c d y × IsReadAs y x
read_is laws w h moment scenario n c d x p y is =
    let b : Message = p.posted.message in
    let i : In b (said w.network.messages) =
    in_map (λ (z : Posted). z.message) p.posted w.network.messages (got_in w.network.messages n p.posted p.there) in
    let has : HasSent w c d y =
    subst (λ (z : Body). In (record { from = node.Client c; to = node.Drive d; body = z }) (said w.network.messages)) is
    (subst (λ (z : Message). In z (said w.network.messages))
    (same_message b (node.Client c) (node.Drive d) p.sender p.receiver) i) in
    let may : MaySend d y =
    subst (PostPlaced (node.Client c) (node.Drive d)) is (placed_body laws w h moment scenario n c d x p) in
    let room =
    (laws.places h (lawful_at w h moment) scenario.text scenario.few w h [] (sym (append-nil h)) moment).sent c d y has in (
      has,
      read_as y x (record {
        object = room.object;
        nonce = room.nonce;
        offset = λ write. may.offset;
        tag = may.capability.tag;
        holder = may.capability.holder;
      }) (ap command_in (sym is) ∙ p.reads),
    )

-- and the message carries that command
pub command_read : SenderLaws → (w : World) (h : List Line) → IsMoment w h → IsOfScenario h → (n c d : ℕ) (x : Command) →
    (p : WasPosted w n c d x) → (k : IsCommandOf w c d x) × (p.posted.message.body ≡ OfCommand k.command)
command_read laws w h moment scenario n c d x p =
    let q = placed_by c d p.posted.message.body (placed_body laws w h moment scenario n c d x p) in
    let r = read_is laws w h moment scenario n c d x p q.command q.is in (
      record {
        command = q.command;
        sent = r.0;
        action = sym r.1.action;
        object = sym r.1.object;
        nonce = sym r.1.nonce;
        offset = r.1.offset;
      },
      q.is,
    )

pub posted_are_sent : SenderLaws → PostedAreSent
posted_are_sent laws w h moment scenario n c d x p = (command_read laws w h moment scenario n c d x p).0
