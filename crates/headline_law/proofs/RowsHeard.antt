-- What the server hears of a drive as a reply is a reply that the drive told it, with all its bytes.
-- Towards `RowsFollow` (`specs/Parts.antt`).
use Rattle.std.proofs.Common.{◌≡◌, ◌==◌, ◌||◌, ◌&&◌, ℕ, ◌+◌, Bool, true, false, List, Ok, refl, sym, ap, subst, ◌∙◌}
use Rattle.std.proofs.lemmas.Bool.{eqb-true}
use Rattle.osd_commands.specs.declared.actions.Action.{Action}
use Rattle.osd_commands.specs.declared.actions.Action.TheVariants.{Read}
use Rattle.osd_commands.specs.declared.replies.Reply.{Reply}
use Rattle.osd_commands.specs.Replies as replies
use Rattle.osd_lists.specs.declared.node.Node.{Node}
use Rattle.osd_lists.specs.declared.node.Node.TheVariants as node
use Rattle.scenario_text.specs.declared.line.Line.{Line}
use Rattle.server_rules.specs.declared.limits.TheConstants.{PERFORMED}
use Rattle.server_rules.specs.History.{Hears}
use Rattle.server_rules.specs.Laws.{In}
use Rattle.server_rules.specs.Messages.{Replies}
use Rattle.server_rules.specs.Replies.{is_done, is_create, is_set_tag}
use Rattle.server_rules.proofs.Members.{in_map}
use Rattle.world_history.specs.ServerNames.{Kept, Awaited}
use Rattle.world_history.specs.declared.messages.Body.{Body}
use Rattle.world_history.specs.declared.messages.Message.{Message}
use Rattle.world_history.specs.declared.messages.Posted.{Posted}
use Rattle.world_history.specs.Spelled.{spelled}
use Rattle.world_history.specs.State.{World}
use Rattle.history_law.specs.Moments.{IsMoment}
use Rattle.history_law.specs.Numbered.{Awaits}
use Rattle.history_law.specs.Said.{said, IsHeardByServer}
use Rattle.history_law.proofs.Holding.{Holds}
use Rattle.history_law.proofs.Spelled.{reply_reads}
use Rattle.history_law.proofs.Ending.{at_moment}
use Rattle.file_simulation.specs.Claim.{IsOfScenario}
use Rattle.file_simulation.specs.Jobs.{HasToldServer}
use Rattle.relation_law.proofs.DriveMoves.{got_in}
use Rattle.relation_law.proofs.Heard.{payload_read}
use Rattle.relation_law.proofs.Hearing.{read_reply}
use Rattle.relation_law.proofs.OwnedBefore.{OwnedLaws, run, room}
use Rattle.headline_law.proofs.RowsTold.{IsTold, are_told}

-- the drive told the server such a reply
pub record WasTold (w : World) (d : ℕ) (q : Reply) : Type 0 where
  pub reply : Reply
  pub told : HasToldServer w d reply
  pub nonce : q.nonce ≡ reply.nonce
  pub verdict : q.verdict ≡ reply.verdict
  pub payload : q.payload ≡ reply.payload

-- `a` is any command that is awaited
pub was_told : OwnedLaws → (w : World) (h : List Line) → IsMoment w h → IsOfScenario h → (a : Awaited) →
    Awaits w.server.files a → (now d : ℕ) (q : Reply) → IsHeardByServer w (Hears now (node.Drive d) (Replies q)) → WasTold w d q
was_told laws w h k scenario a waits now d q (heard, now_is, from, reads) =
    let there : In heard.posted.message (said w.network.messages) =
    in_map (λ (z : Posted). z.message) heard.posted w.network.messages
    (got_in w.network.messages heard.number heard.posted heard.there) in
    let whole : heard.posted.message ≡ record { from = node.Drive d; to = node.Server; body = heard.posted.message.body } =
    ap (λ (z : Node). record { from = z; to = heard.posted.message.to; body = heard.posted.message.body }) (sym from)
    ∙ ap (λ (z : Node). record { from = node.Drive d; to = z; body = heard.posted.message.body }) heard.receiver in
    let said_so : In (record { from = node.Drive d; to = node.Server; body = heard.posted.message.body })
    (said w.network.messages) = subst (λ (z : Message). In z (said w.network.messages)) whole there in
    let t : IsTold w heard.posted.message.body = are_told w h k d heard.posted.message.body said_so in
    let held : Holds w h = at_moment w h k in
    let read : replies.reading (replies.spelling t.reply) ≡ Ok q =
    ap replies.reading (sym (ap spelled t.is))
    ∙ read_reply w h held.read held.numbers (room laws w h k scenario) (run laws w h k scenario) laws.ahead d a waits
    heard.posted.message.from (spelled heard.posted.message.body) q (sym from) reads in
    let as_ = reply_reads t.reply q read in
    record {
      reply = t.reply;
      told = subst (λ (b : Body). In (record { from = node.Drive d; to = node.Server; body = b }) (said w.network.messages)) t.is
          said_so;
      nonce = as_.nonce t.nonce;
      verdict = as_.verdict t.verdict;
      payload = payload_read t.reply q read;
    }

-- a reply that a READ is done says that it was performed
pub done_read : (f : Kept) (a : Awaited) (r : Reply) → a.command.action ≡ Read → is_done f a r ≡ true → r.verdict ≡ PERFORMED
unfolding is_done
done_read f a r read e =
    eqb-true r.verdict PERFORMED
    (by_test (r.verdict == PERFORMED) (r.verdict == 8) ((r.verdict == 9) && (r.detail == f.tag + 1))
    (subst (λ (x : Action). ((r.verdict == PERFORMED) || ((is_create x && (r.verdict == 8))
    || (is_set_tag x && ((r.verdict == 9) && (r.detail == f.tag + 1))))) ≡ true) read e))
  where
    by_test : (p q t : Bool) → (p || ((false && q) || (false && t))) ≡ true → p ≡ true
    by_test true q t x = refl
    by_test false q t x = absurd (cc x)
