-- The log has the entry of each WRITE that a move sends, if its client's pending call is a write in front of the messages.
-- Towards `SentAreLogged` (`proofs/MarksNewLogged.antt`).
use Rattle.std.proofs.Common.{◌≡◌, ◌+◌, ◌++◌, ℕ, List, length, Some, Ok, Result, sym, ap, subst, ◌∙◌}
use Rattle.std.specs.List.{fold}
use Rattle.std.proofs.lemmas.List.Sums.{fold-append}
use Rattle.osd_lists.specs.declared.node.Node.{Node}
use Rattle.osd_lists.specs.declared.node.Node.TheVariants as node
use Rattle.osd_commands.specs.declared.actions.Action.TheVariants.{Write}
use Rattle.osd_commands.specs.declared.commands.Command.{Command}
use Rattle.osd_commands.specs.declared.commands.CommandErr.{CommandErr}
use Rattle.scenario_text.specs.declared.line.Line.{Line}
use Rattle.world_history.specs.Spelled.{party_of}
use Rattle.world_history.specs.declared.messages.Message.{Message}
use Rattle.world_history.specs.Drives.{command_in}
use Rattle.world_history.specs.Spelled.{spelled}
use Rattle.world_history.specs.Moves.{Act, acts}
use Rattle.world_history.specs.Plans.{due}
use Rattle.world_history.specs.ReadLog.{Log, log_after, log_in, empty_log, entry_in, sends, sends_as}
use Rattle.world_history.specs.Sending.{Move, move, sent_line, sent_lines}
use Rattle.world_history.specs.State.{World, at_number}
use Rattle.history_law.specs.Moments.{IsMoment, plan_at, with_event, lines_in}
use Rattle.file_simulation.specs.Claim.{IsOfScenario}
use Rattle.file_simulation.specs.Tied.{WasPosted}
use Rattle.headline_law.proofs.MarksNewLines.{Writes, all_written}
use Rattle.headline_law.proofs.MarksNewLogged.{SentAreLogged}
use Rattle.headline_law.proofs.MarksNewSent.{post_at, count_is}
use Rattle.headline_law.proofs.MarksWrites.{IsNew}
use Rattle.headline_law.proofs.NotLogged.{event_front}

-- Where a client sends a WRITE, its pending call in the log is a write, in front of the move's messages.
abbrev pub SentInWrites : Type 0
SentInWrites =
    (w : World) (h : List Line) (m : Move) → (k : IsMoment w h) → due (plan_at k) w ≡ Some m.action →
    IsOfScenario (h ++ lines_in w m) → (n c d : ℕ) (x : Command) →
    IsNew w n → WasPosted (move w m).world n c d x → x.action ≡ Write →
    Writes (at_number (fold log_after (log_in h) (with_event m.action (acts w m.chosen m.action).told)).pending c)

pub log_is : (w : World) (h : List Line) (m : Move) → log_in (h ++ lines_in w m) ≡
    fold log_after (fold log_after (log_in h) (with_event m.action (acts w m.chosen m.action).told))
    (sent_lines (length (acts w m.chosen m.action).world.network.messages) (acts w m.chosen m.action).posts)
log_is w h m =
    let a : Act = acts w m.chosen m.action in
    let number : ℕ = length a.world.network.messages in
    fold-append log_after empty_log h (lines_in w m)
    ∙ ap (fold log_after (log_in h)) (event_front m.action a.told (sent_lines number a.posts))
    ∙ fold-append log_after (log_in h) (with_event m.action a.told) (sent_lines number a.posts)

pub sent_are_logged : SentInWrites → SentAreLogged
sent_are_logged pending w h m moment is_due scenario n c d x new p write at_ has =
    let a : Act = acts w m.chosen m.action in
    let number : ℕ = length (acts w m.chosen m.action).world.network.messages in
    let front : Log = fold log_after (log_in h) (with_event m.action (acts w m.chosen m.action).told) in
    let z = post_at w m n c d x new p in
    let from : z.post.message.from ≡ _ = ap (λ (y : Message). y.from) (sym z.message) ∙ p.sender in
    let to : z.post.message.to ≡ _ = ap (λ (y : Message). y.to) (sym z.message) ∙ p.receiver in
    let reads : command_in z.post.message.body ≡ Ok x = subst (λ (y : Message). command_in y.body ≡ Ok x) z.message p.reads in
    let line : (l : Log) (k : ℕ) → log_after l (sent_line k z.post.message) ≡ sends_as l k c (Ok x) =
    λ l k.
    (ap (λ (y : Node). sends l k (party_of y) (party_of z.post.message.to) (spelled z.post.message.body)) from
    ∙ ap (λ (y : Node). sends l k (party_of (node.Client c)) (party_of y) (spelled z.post.message.body)) to
    ∙ ap (λ (r : Result Command CommandErr). sends_as l k c r) reads) in
    let r = all_written c d number front a.posts z.place z.post x z.there line write
    (pending w h m moment is_due scenario n c d x new p write) in
    let place : number + z.place ≡ n = ap (λ (q : ℕ). q + z.place) (count_is w m) ∙ sym z.number in
    let same : Some r.0 ≡ Some at_ =
    sym r.2 ∙ ap (λ (l : Log). entry_in (at_number l.pending c)) (sym (log_is w h m)) ∙ has in
    ap (λ (l : Log). at_number l.writes n) (log_is w h m)
    ∙ ap (at_number (fold log_after front (sent_lines number a.posts)).writes) (sym place) ∙ r.1 ∙ same
