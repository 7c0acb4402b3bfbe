-- A command to a drive that is among the messages behind a move was among them before, or is one that the move sends.
use Rattle.std.proofs.Common.{◌≡◌, ◌⊎◌, ℕ, map, subst, inl, inr}
use Rattle.osd_commands.specs.declared.commands.Command.{Command}
use Rattle.server_rules.specs.Laws.{In}
use Rattle.server_rules.proofs.Members.{in_either}
use Rattle.world_history.specs.declared.messages.Body.TheVariants.{Command as OfCommand}
use Rattle.world_history.specs.Handed.{Post}
use Rattle.world_history.specs.Moves.{Act, acts}
use Rattle.world_history.specs.Sending.{Move, move}
use Rattle.world_history.specs.State.{World}
use Rattle.history_law.proofs.FencingMoves.{messages_in}
use Rattle.history_law.proofs.Numbers.{to_drive, messages_sent}
use Rattle.file_simulation.specs.Messages.{HasCommanded}

pub commanded_either : (w : World) (m : Move) (e : ℕ) (x : Command) → HasCommanded (move w m).world e x →
    messages_in (acts w m.chosen m.action).world ≡ messages_in w →
    HasCommanded w e x
    ⊎ In (to_drive e (OfCommand x)) (map (λ (p : Post). p.message) (acts w m.chosen m.action).posts)
commanded_either w m e x sent same =
    let a : Act = acts w m.chosen m.action in
    elim (in_either (to_drive e (OfCommand x)) (messages_in a.world) (map (λ (p : Post). p.message) a.posts)
    (subst (In (to_drive e (OfCommand x))) (messages_sent a.world.network.messages a.posts) sent)) [
      | inl old ↦ inl (subst (In (to_drive e (OfCommand x))) same old)
      | inr new ↦ inr new
    ]
