-- A move that delivers a message to a drive: it judges, or is deaf.
use Rattle.std.proofs.Common.{◌≡◌, ◌++◌, ◌∷◌, ℕ, Bool, true, false, List, [], slice_get, Option, Some, None, Ok, Result, length, if◌then◌else◌, refl, ap, ◌∙◌}
use Rattle.std.specs.List.{list_any}
use Rattle.osd_lists.specs.declared.node.Node.{Node}
use Rattle.osd_lists.specs.declared.node.Node.TheVariants as node
use Rattle.osd_commands.specs.declared.commands.Command.{Command}
use Rattle.osd_commands.specs.declared.commands.CommandErr.{CommandErr}
use Rattle.osd_drive.specs.declared.verdict.Verdict.{Verdict}
use Rattle.osd_drive.specs.declared.verdict.Verdict.TheVariants as verdict
use Rattle.osd_drive.specs.State.{DriveState}
use Rattle.osd_drive.specs.Table.{first_fault}
use Rattle.osd_drive.specs.Effects.{state_by, after_reading}
use Rattle.scenario_text.specs.declared.line.Delivery.TheVariants as delivery
use Rattle.scenario_text.specs.declared.line.Line.{Line}
use Rattle.scenario_text.specs.declared.line.Line.TheVariants as line
use Rattle.world_history.specs.declared.messages.Posted.{Posted}
use Rattle.world_history.specs.declared.messages.Body.TheVariants.{Reply as OfReply}
use Rattle.world_history.specs.declared.messages.Message.{Message}
use Rattle.world_history.specs.State.{World, DriveAt, at_number, with_number}
use Rattle.world_history.specs.Drives.{Judged, command_in, judges, is_deaf}
use Rattle.world_history.specs.Handed.{Handed, quiet, drive_replies, drive_hears, handed_to}
use Rattle.world_history.specs.Moves.{Act, Action, Delivers, acts, marked, told_delivered}
use Rattle.world_history.specs.Sending.{Move, move, sent_lines}
use Rattle.history_law.specs.BookMoments.{with_event, lines_in}
use Rattle.exchange_law.specs.Doing.{posted}
use Rattle.cause_law.proofs.Frames.{delivered_act}
use Rattle.ready_law.specs.Answered.{ends_call}
use Rattle.ready_law.proofs.AskingMoves.{IsUnread, sent_ends_none}
use Rattle.ready_law.proofs.WorkingLost.{is_none_or_deaf}

-- The drive becomes another, and sends this reply.
pub record IsJudged (w : World) (m : Move) (d : ℕ) (now : DriveAt) (reply : Message) : Type 0 where
  pub clients : (move w m).world.clients ≡ w.clients
  pub server : (move w m).world.server ≡ w.server
  pub drives : (move w m).world.drives ≡ with_number w.drives d now
  pub clock : (move w m).world.clock ≡ w.clock
  pub down : (move w m).world.down ≡ w.down
  pub posts : posted (acts w m.chosen m.action).posts ≡ reply ∷ []
  pub lines : (c : ℕ) → list_any (ends_call c) (lines_in w m) ≡ false

module _ (w : World) (m : Move) (number d : ℕ) (p : Posted) (action : m.action ≡ Delivers number)
    (found : slice_get w.network.messages number ≡ Some p) (to : p.message.to ≡ node.Drive d) where
  abbrev after : World
  after = marked w number p

  to_drive : acts w m.chosen m.action ≡ told_delivered number (drive_hears after d p.message (at_number w.drives d))
  to_drive =
      ap (acts w m.chosen) action ∙ delivered_act w m.chosen number p found
      ∙ ap (λ (n : Node). told_delivered number (handed_to after m.chosen p.message n)) to

  deaf_so : acts w m.chosen m.action ≡ told_delivered number (quiet after delivery.Deaf) → IsUnread w m
  deaf_so is = record {
    clients = ap (λ (a : Act). a.world.clients) is;
    server = ap (λ (a : Act). a.world.server) is;
    drives = ap (λ (a : Act). a.world.drives) is;
    clock = ap (λ (a : Act). a.world.clock) is;
    down = ap (λ (a : Act). a.world.down) is;
    posts = ap (λ (a : Act). a.posts) is;
    lines = λ c.
        ap (λ (ls : List Line). list_any (ends_call c) ls)
        (ap (λ (a : Act). with_event m.action (a.told ++ sent_lines (length a.world.network.messages) a.posts)) is
        ∙ ap (λ (x : Action). with_event x (line.Delivered number delivery.Deaf ∷ sent_lines (length after.network.messages) []))
        action)
        ∙ sent_ends_none c (length after.network.messages) [];
  }

  -- a drive that is deaf, or that there isn't, takes nothing
  pub deaf_takes_nothing : (o : Option DriveAt) → at_number w.drives d ≡ o → is_none_or_deaf o ≡ true → IsUnread w m
  deaf_takes_nothing None e deaf =
      deaf_so (to_drive ∙ ap (λ (o : Option DriveAt). told_delivered number (drive_hears after d p.message o)) e)
  deaf_takes_nothing (Some a) e deaf =
      deaf_so (to_drive ∙ ap (λ (o : Option DriveAt). told_delivered number (drive_hears after d p.message o)) e
      ∙ ap (λ (b : Bool). told_delivered number (if b then quiet after delivery.Deaf
      else drive_replies after d p.message.from (judges a (command_in p.message.body)))) deaf)

  -- any other one judges, and replies to who sent the message
  pub drive_judges : (a : DriveAt) → at_number w.drives d ≡ Some a → is_deaf a ≡ false
      → IsJudged w m d (judges a (command_in p.message.body)).drive
      (record {
        from = node.Drive d;
        to = p.message.from;
        body = OfReply (judges a (command_in p.message.body)).reply;
      })
  drive_judges a e hears =
      let j : Judged = judges a (command_in p.message.body) in
      let is : acts w m.chosen m.action ≡ told_delivered number (drive_replies after d p.message.from j) =
      to_drive ∙ ap (λ (o : Option DriveAt). told_delivered number (drive_hears after d p.message o)) e
      ∙ ap (λ (b : Bool). told_delivered number (if b then quiet after delivery.Deaf
      else drive_replies after d p.message.from j)) hears in
      let h : Handed = drive_replies after d p.message.from j in
      record {
        clients = ap (λ (b : Act). b.world.clients) is;
        server = ap (λ (b : Act). b.world.server) is;
        drives = ap (λ (b : Act). b.world.drives) is;
        clock = ap (λ (b : Act). b.world.clock) is;
        down = ap (λ (b : Act). b.world.down) is;
        posts = ap (λ (b : Act). posted b.posts) is;
        lines = λ c.
            ap (λ (ls : List Line). list_any (ends_call c) ls)
            (ap (λ (b : Act). with_event m.action (b.told ++ sent_lines (length b.world.network.messages) b.posts)) is
            ∙ ap (λ (x : Action). with_event x (line.Delivered number h.receipt
            ∷ sent_lines (length after.network.messages) h.posts)) action)
            ∙ sent_ends_none c (length after.network.messages) h.posts;
      }

-- ---- the drive then

-- by its verdict on a command that it reads
pub judged_state : (a : DriveAt) (r : Result Command CommandErr) (c : Command) → r ≡ Ok c
    → (judges a r).drive ≡ record a { state = state_by (first_fault a.state a.clock c) a.state c }
unfolding judges
judged_state a r c e = ap (λ (x : Result Command CommandErr). record a { state = after_reading a.state a.clock x }) e

-- its least format stays
pub least_stays : (v : Verdict) (d : DriveState) (c : Command) → (state_by v d c).least ≡ d.least
least_stays verdict.Perform d c = refl
least_stays v d c = refl
