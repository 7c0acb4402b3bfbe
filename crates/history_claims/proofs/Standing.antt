-- At each moment what is read off the lines is what stands in the world.
use Rattle.std.proofs.Common.{◌≡◌, ℕ, false, ◌++◌, ◌∷◌, [], List, map, ap, ◌∙◌}
use Rattle.std.specs.List.{fold}
use Rattle.std.proofs.lemmas.List.Sums.{fold-append}
use Rattle.scenario_text.specs.declared.event.Event.TheVariants as event
use Rattle.scenario_text.specs.declared.line.Line.{Line}
use Rattle.scenario_text.specs.declared.line.Line.TheVariants as line
use Rattle.world_history.specs.State.{World, at_number}
use Rattle.world_history.specs.Reading.{sent_after, sent_in}
use Rattle.world_history.specs.ReadDrives.{DriveSeen, sees_drive, drive_after}
use Rattle.world_history.specs.Laws.{shown}
use Rattle.world_history.specs.History.{OneEventMore}
use Rattle.history_law.specs.Moments.{IsMoment}
use Rattle.history_law.proofs.DriveEvents.{IsRead}
use Rattle.history_law.proofs.DriveLines.{sent_read, drive_read}
use Rattle.exchange_law.proofs.Replied.{read_at}
use Rattle.cause_law.specs.ReadClients.{ClientSeen, sees_client, client_after}
use Rattle.cause_law.specs.Down.{down_after_line, is_down}
use Rattle.cause_law.proofs.CallHistories.{clients_at}
use Rattle.cause_law.proofs.Down.{down_is_read}

-- the messages, the drives, the clients, and whether the server is down
pub record IsStanding (w : World) (h : List Line) : Type 0 where
  pub messages : sent_in h ≡ map shown w.network.messages
  pub drives : (d : ℕ) → drive_after h d ≡ at_number w.drives d
  pub clients : (c : ℕ) → client_after h c ≡ at_number w.clients c
  pub down : is_down h ≡ w.down

pub standing : OneEventMore → (w : World) (h : List Line) → IsMoment w h → IsStanding w h
standing more w h k =
    let r : IsRead w h = read_at w h k in
    record {
      messages = sent_read w r.injected h r.drives;
      drives = λ d. drive_read w r.injected h d r.drives;
      clients = λ c. clients_at w h k c;
      down = down_is_read more w h k;
    }

-- and it is behind the line of an event that delivers a message
pub standing_behind : (w : World) (h : List Line) (n : ℕ) → IsStanding w h
    → IsStanding w (h ++ line.Event (event.Deliver n) ∷ [])
unfolding sent_in
standing_behind w h n s = record {
  messages = fold-append sent_after [] h (line.Event (event.Deliver n) ∷ []) ∙ s.messages;
  drives = λ d.
      ap (λ (x : DriveSeen). x.drive) (fold-append (sees_drive d) _ h (line.Event (event.Deliver n) ∷ [])) ∙ s.drives d;
  clients = λ c.
      ap (λ (x : ClientSeen). x.client) (fold-append (sees_client c) _ h (line.Event (event.Deliver n) ∷ []))
      ∙ s.clients c;
  down = fold-append down_after_line false h (line.Event (event.Deliver n) ∷ []) ∙ s.down;
}
