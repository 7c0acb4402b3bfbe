-- Each refusal that a line tells is of a command that the client awaited when the drive judged it.
use Rattle.std.proofs.Common.{◌≡◌, ◌==◌, ℕ, suc, ◌<◌, ◌^◌, false, List, [], ◌∷◌, ◌++◌, Some, length, map, refl, sym, ap, subst, ◌∙◌, arith}
use Rattle.osd_lists.specs.declared.node.Node.{Node}
use Rattle.osd_lists.specs.declared.node.Node.TheVariants as node
use Rattle.osd_commands.specs.declared.replies.Reply.{Reply}
use Rattle.osd_commands.specs.Commands.{reading}
use Rattle.osd_commands.specs.Replies as replies
use Rattle.client_rules.specs.declared.limits.TheConstants.{PERFORMED}
use Rattle.client_rules.specs.Envelopes.{message_in}
use Rattle.client_rules.specs.Messages.{Message as ClientMessage, TakesReply, takes}
use Rattle.client_rules.specs.History.{Hears}
use Rattle.history_law.specs.State.{Awaited}
use Rattle.scenario_text.specs.declared.line.Verdict.{Verdict}
use Rattle.scenario_text.specs.declared.line.Ending.TheVariants.{Refused}
use Rattle.scenario_text.specs.declared.line.Outcome.TheVariants.{Failed}
use Rattle.scenario_text.specs.declared.line.Line.{Line}
use Rattle.scenario_text.specs.declared.line.Line.TheVariants as line
use Rattle.world_history.specs.declared.messages.Body.{Body}
use Rattle.world_history.specs.declared.messages.Posted.{Posted}
use Rattle.world_history.specs.declared.messages.Sent.{Sent}
use Rattle.world_history.specs.State.{DriveAt, ClientAt, World, at_number}
use Rattle.world_history.specs.Spelled.{spelled}
use Rattle.world_history.specs.Told.{verdict_with}
use Rattle.world_history.specs.Drives.{verdict_on, judges, command_in}
use Rattle.world_history.specs.Reading.{sent_in}
use Rattle.world_history.specs.Laws.{shown}
use Rattle.history_law.proofs.DriveLines.{sent_read}
use Rattle.history_law.specs.BookMoments.{IsMoment}
use Rattle.exchange_law.specs.Awaited.{WasAwaited, AreFewerThanNonces, AwaitedAt, RefusalsWereAwaited}
use Rattle.exchange_law.proofs.Turning.{ComesTo}
use Rattle.exchange_law.proofs.ReplyRead.{reply_read}
use Rattle.exchange_law.proofs.RefusalVerdicts.{judged_agrees}
use Rattle.exchange_law.proofs.Replied.{read_at}
use Rattle.exchange_law.proofs.Refusing.{LineSays, refusals_say}
use Rattle.exchange_law.proofs.Judging.{is_taken, answers_drive, drive_says, Took, took_judged, judged_on}
use Rattle.exchange_law.proofs.RefusalClients.{HasFew, Known}
use Rattle.exchange_law.proofs.Fewer.{few_front}
use Rattle.exchange_law.proofs.Awaiting.{WasAwaiting, HasAnswer, are_answered}

-- ---- few messages

length_shown : (ps : List Posted) → length (map shown ps) ≡ length ps
length_shown [] = refl
length_shown (p ∷ ps) = ap suc (length_shown ps)

pub few_at : (w : World) (h : List Line) → IsMoment w h → AreFewerThanNonces h → HasFew w
few_at w h k few =
    let r = read_at w h k in
    let same : length (sent_in h) ≡ length (map shown w.network.messages) =
    ap (λ (ss : List Sent). length ss) (sent_read w r.injected h r.drives) in
    omega (arith, few, same, length_shown w.network.messages)

-- ---- a reply that is taken

found_verdict : (a : DriveAt) (body : Body)
    → (judges a (command_in body)).verdict ≡ verdict_on a.state a.clock (reading (spelled body))
unfolding judges
found_verdict a body = refl

took_awaited : Known → (w : World) (h : List Line) → IsMoment w h → HasFew w → (c : ℕ) (caller : ClientAt)
    → at_number w.clients c ≡ Some caller → caller.stopped ≡ false → (from : Node) (x : ClientMessage)
    → ComesTo w c (Hears from x) → (a : Awaited) (r : Reply) → takes caller.state from x ≡ Some (TakesReply a r)
    → (r.verdict == PERFORMED) ≡ false → WasAwaited h c a.drive (verdict_with r.verdict r.detail)
took_awaited q w h k few c caller found alive from x comes a r e other =
    let t = is_taken caller.state from x a r e in
    let m = comes.1 in
    let same = answers_drive t.drive r a t.answer in
    let b : HasAnswer w h c a.drive m.message.body =
    (are_answered q w h k few).replies m.message m.there c a.drive
    (m.sender ∙ t.sender ∙ ap (λ (d : ℕ). node.Drive d) (sym same.1)) m.receiver in
    let z = b.answered in
    let d = z.replied in
    let bytes : comes.0 ≡ replies.spelling b.reply = sym m.bytes_are ∙ ap spelled b.is in
    let taken : message_in (node.Drive t.drive) comes.0 ≡ Some _ =
    ap (λ (n : Node). message_in n comes.0) (sym t.sender) ∙ comes.2 ∙ ap (λ (y : ClientMessage). Some y) t.is in
    let read : replies.reading (replies.spelling b.reply) ≡ _ =
    ap replies.reading (sym bytes) ∙ drive_says t.drive comes.0 r taken in
    let low = judged_agrees d.device (command_in d.message.message.body) in
    let all : Took h c a r = record {
      sent = b.reply;
      replied = d;
      read = reply_read b.reply r (subst (λ (y : Reply). y.verdict < 2 ^ 16) (sym d.reply) low.low) read;
      nonce = same.0;
    } in
    let refused : (b.reply.verdict == PERFORMED) ≡ false =
    ap (λ (n : ℕ). n == PERFORMED) (sym all.read.verdict) ∙ other in
    let was : WasAwaiting d.world d.message.message c a.drive a =
    z.awaited caller found alive a t.awaits refused (same.0 ∙ all.read.nonce) in
    record {
      judged = took_judged h c a r all other;
      world = d.world;
      lines = d.lines;
      moment = d.moment;
      behind = d.behind;
      caller = was.caller;
      there = was.there;
      alive = was.alive;
      command = a;
      awaits = was.awaits;
      drive_is = refl;
      bytes_are = ap spelled was.body;
      device = d.device;
      stands = d.stands;
      hears = d.hears;
      verdict = found_verdict d.device d.message.message.body;
    }

-- ---- all lines

awaited_on : (h more : List Line) (c d : ℕ) (v : Verdict) → WasAwaited h c d v → WasAwaited (h ++ more) c d v
awaited_on h more c d v k = record {
  judged = judged_on h more c d v k.judged;
  world = k.world;
  lines = k.lines;
  moment = k.moment;
  behind = k.behind;
  caller = k.caller;
  there = k.there;
  alive = k.alive;
  command = k.command;
  awaits = k.awaits;
  drive_is = k.drive_is;
  bytes_are = k.bytes_are;
  device = k.device;
  stands = k.stands;
  hears = k.hears;
  verdict = k.verdict;
}

-- where there are few messages
abbrev Awaits : List Line → (client drive number detail : ℕ) → Type 0
Awaits h c d n e = AreFewerThanNonces h → WasAwaited h c d (verdict_with n e)

line_awaited : (before : List Line) (l : Line) → LineSays (Awaits before) l → AwaitedAt before l
line_awaited before (line.Ended c (Failed kind (Refused d v))) s =
    λ few. subst (WasAwaited before c d) (sym s.2) (s.3 few)
line_awaited before l s = tt

pub refusals_were_awaited : Known → RefusalsWereAwaited
refusals_were_awaited q h l before x after is =
    line_awaited before x
    (refusals_say Awaits (λ g more c d n e y few. awaited_on g more c d (verdict_with n e) (y (few_front g more few)))
    q.further
    (λ w g k c caller found alive from y comes a r e other few.
    took_awaited q w g k (few_at w g k few) c caller found alive from y comes a r e other) h l before x after is)
