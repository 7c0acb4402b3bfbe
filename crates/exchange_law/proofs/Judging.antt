-- Each refusal that a line tells was a drive's verdict on a message of the client.
use Rattle.std.proofs.Common.{◌≡◌, ◌==◌, ℕ, ◌^◌, Bool, true, false, List, [], ◌++◌, ◌∷◌, ◌<◌, inl, inr, Some, Ok, Err, Result, slice_get, append_assoc, refl, sym, ap, subst, ◌∙◌}
use Rattle.osd_lists.specs.declared.node.Node.{Node}
use Rattle.osd_lists.specs.declared.node.Node.TheVariants as node
use Rattle.osd_commands.specs.declared.commands.CommandErr.{CommandErr}
use Rattle.osd_commands.specs.declared.replies.Reply.{Reply}
use Rattle.osd_commands.specs.Replies as replies
use Rattle.std.proofs.lemmas.Bool.{eqb-true, and_parts}
use Rattle.client_rules.specs.declared.limits.TheConstants.{PERFORMED}
use Rattle.client_rules.specs.Envelopes.{by_reply, message_in}
use Rattle.client_rules.specs.Messages.{Message as ClientMessage, Replies, Answers, Recalls, TakesAnswer, TakesReply, TakesRecall, takes, reply_taken, answer_taken, is_awaited, awaited_of}
use Rattle.client_rules.specs.Replies.{answers}
use Rattle.client_rules.specs.History.{Hears}
use Rattle.server_rules.specs.Laws.{In}
use Rattle.std.specs.Prelude.{Option, None, find, if◌then◌else◌}
use Rattle.history_law.specs.State.{Client, Awaited, Answer, Request, Recall}
use Rattle.scenario_text.specs.declared.line.Delivery.TheVariants.{Judged}
use Rattle.scenario_text.specs.declared.line.Verdict.{Verdict}
use Rattle.scenario_text.specs.declared.line.Ending.TheVariants.{Refused}
use Rattle.scenario_text.specs.declared.line.Outcome.TheVariants.{Failed}
use Rattle.scenario_text.specs.declared.line.Line.{Line}
use Rattle.scenario_text.specs.declared.line.Line.TheVariants as line
use Rattle.world_history.specs.declared.messages.Sent.{Sent}
use Rattle.world_history.specs.State.{World}
use Rattle.world_history.specs.Spelled.{spelled, party_of}
use Rattle.world_history.specs.Told.{verdict_with}
use Rattle.world_history.specs.Drives.{judges, command_in}
use Rattle.world_history.specs.Laws.{shown}
use Rattle.world_history.specs.History.{OneEventMore}
use Rattle.history_law.proofs.DriveLines.{shown_get}
use Rattle.history_law.specs.BookMoments.{IsMoment}
use Rattle.exchange_law.specs.Judged.{WasJudged, JudgedAt, RefusalsWereJudged}
use Rattle.exchange_law.proofs.Turning.{ComesTo}
use Rattle.exchange_law.proofs.ReplyRead.{ReadsAs, reply_read}
use Rattle.exchange_law.proofs.RefusalVerdicts.{judged_agrees, read_agrees}
use Rattle.exchange_law.proofs.Replied.{IsReplied, HasReply, are_replied, sent_before}
use Rattle.exchange_law.proofs.Refusing.{LineSays, refusals_say}

-- ---- a reply that is taken

-- it is from a drive, and answers a command that is awaited
pub record IsTaken (c : Client) (from : Node) (x : ClientMessage) (a : Awaited) (r : Reply) : Type 0 where
  pub drive : ℕ
  pub sender : from ≡ node.Drive drive
  pub is : x ≡ Replies r
  pub awaits : In a (awaited_of c.call)
  pub answer : answers drive r a ≡ true

found_in : (p : Awaited → Bool) (xs : List Awaited) (a : Awaited) → find p xs ≡ Some a → In a xs × (p a ≡ true)
found_in p [] a e = absurd (cc e)
found_in p (b ∷ xs) a e = either (p b) refl e (λ f. found_in p xs a f)
  where
    either : (t : Bool) → p b ≡ t → (if t then Some b else find p xs) ≡ Some a
        → (find p xs ≡ Some a → In a xs × (p a ≡ true)) → In a (b ∷ xs) × (p a ≡ true)
    either true is f rest =
        let same : a ≡ b = cc (sym f) in (inl same, ap p same ∙ is)
    either false is f rest = let r = rest f in (inr r.0, r.1)

reply_is : (r s : Reply) (o : Option Awaited) (a : Awaited) → reply_taken r o ≡ Some (TakesReply a s)
    → (r ≡ s) × (o ≡ Some a)
reply_is r s None a e = absurd (cc e)
reply_is r s (Some b) a e =
    let both : TakesReply b r ≡ TakesReply a s = cc e in
    let reply : r ≡ s = cc both in
    let command : b ≡ a = cc both in
    (reply, ap (λ (x : Awaited). Some x) command)

answer_no_reply : (c : Client) (x : Answer) (o : Option Request) (a : Awaited) (r : Reply)
    → answer_taken c x o ≡ Some (TakesReply a r) → ⊥
answer_no_reply c x None a r e = cc e
answer_no_reply c x (Some q) a r e = either (is_awaited c x q) e
  where
    either : (b : Bool) → (if b then Some (TakesAnswer x) else None) ≡ Some (TakesReply a r) → ⊥
    either true f = cc f
    either false f = cc f

recall_no_reply : (b : Bool) (x : Recall) (a : Awaited) (r : Reply)
    → (if b then Some (TakesRecall x) else None) ≡ Some (TakesReply a r) → ⊥
recall_no_reply true x a r e = cc e
recall_no_reply false x a r e = cc e

pub is_taken : (c : Client) (from : Node) (x : ClientMessage) (a : Awaited) (r : Reply)
    → takes c from x ≡ Some (TakesReply a r) → IsTaken c from x a r
unfolding takes
is_taken c (node.Drive d) (Replies s) a r e =
    let same = reply_is s r (find (answers d s) (awaited_of c.call)) a e in
    let found = found_in (answers d s) (awaited_of c.call) a same.1 in
    record {
      drive = d;
      sender = refl;
      is = ap (λ (y : Reply). Replies y) same.0;
      awaits = found.0;
      answer = ap (λ (y : Reply). answers d y a) (sym same.0) ∙ found.1;
    }
is_taken c node.Server (Answers x) a r e = absurd (answer_no_reply c x c.outstanding a r e)
is_taken c node.Server (Recalls x) a r e = absurd (recall_no_reply (x.client == c.number) x a r e)
is_taken c from x a r e = absurd (cc e)

pub answers_drive : (d : ℕ) (r : Reply) (a : Awaited) → answers d r a ≡ true
    → (a.command.nonce ≡ r.nonce) × (a.drive ≡ d)
answers_drive d r a e =
    let both = and_parts (a.command.nonce == r.nonce) (a.drive == d) e in
    (eqb-true a.command.nonce r.nonce both.0, eqb-true a.drive d both.1)

-- ---- what it says

reply_in : (bytes : List ℕ) (o : Result Reply CommandErr) (r : Reply) → replies.reading bytes ≡ o
    → by_reply o ≡ Some (Replies r) → replies.reading bytes ≡ Ok r
reply_in bytes (Ok s) r read e =
    let both : Replies s ≡ Replies r = cc e in
    let same : s ≡ r = cc both in
    read ∙ ap (λ (y : Reply). Ok y) same
reply_in bytes (Err x) r read e = absurd (cc e)

pub drive_says : (d : ℕ) (bytes : List ℕ) (r : Reply) → message_in (node.Drive d) bytes ≡ Some (Replies r)
    → replies.reading bytes ≡ Ok r
unfolding message_in
drive_says d bytes r e = reply_in bytes (replies.reading bytes) r refl e

-- a reply that a client takes at a moment, as its drive sent it
pub record Took (h : List Line) (client : ℕ) (a : Awaited) (r : Reply) : Type 0 where
  pub sent : Reply
  pub replied : IsReplied h client a.drive sent
  pub read : ReadsAs sent r
  pub nonce : a.command.nonce ≡ r.nonce

pub took : OneEventMore → (w : World) (h : List Line) → IsMoment w h → (c : ℕ) (caller : Client) (from : Node)
    (x : ClientMessage) → ComesTo w c (Hears from x) → (a : Awaited) (r : Reply)
    → takes caller from x ≡ Some (TakesReply a r) → Took h c a r
took further w h k c caller from x comes a r e =
    let t = is_taken caller from x a r e in
    let m = comes.1 in
    let same = answers_drive t.drive r a t.answer in
    let body : HasReply h c t.drive m.message.body =
    (are_replied further w h k).replies m.message m.there c t.drive (m.sender ∙ t.sender) m.receiver in
    let bytes : comes.0 ≡ replies.spelling body.reply = sym m.bytes_are ∙ ap spelled body.is in
    let taken : message_in (node.Drive t.drive) comes.0 ≡ Some (Replies r) =
    ap (λ (n : Node). message_in n comes.0) (sym t.sender) ∙ comes.2 ∙ ap (λ (y : ClientMessage). Some y) t.is in
    let read : replies.reading (replies.spelling body.reply) ≡ Ok r =
    ap replies.reading (sym bytes) ∙ drive_says t.drive comes.0 r taken in
    let low = judged_agrees body.replied.device (command_in body.replied.message.message.body) in
    record {
      sent = body.reply;
      replied = subst (λ (d : ℕ). IsReplied h c d body.reply) (sym same.1) body.replied;
      read = reply_read body.reply r
          (subst (λ (y : Reply). y.verdict < 2 ^ 16) (sym body.replied.reply) low.low) read;
      nonce = same.0;
    }

-- so the verdict that it carries was that of the drive
abbrev pub took_judged : (h : List Line) (c : ℕ) (a : Awaited) (r : Reply) → Took h c a r
    → (r.verdict == PERFORMED) ≡ false
    → WasJudged h c a.drive (verdict_with r.verdict r.detail)
took_judged h c a r t other =
    let k = t.replied in
    let judged = judges k.device (command_in k.message.message.body) in
    let agrees = judged_agrees k.device (command_in k.message.message.body) in
    let read : ReadsAs judged.reply r = subst (λ (y : Reply). ReadsAs y r) k.reply t.read in
    let says = read_agrees judged.reply r judged.verdict agrees read other in
    record {
      before = k.before;
      number = k.number;
      found = judged.verdict;
      after = k.after;
      lines_are = k.lines_are;
      same = says.0;
      refuses = says.1;
      message = shown k.message;
      sent =
          ap (λ (ss : List Sent). slice_get ss k.number)
          (sent_before k.world k.lines k.before k.number k.moment k.behind)
          ∙ shown_get k.world.network.messages k.number (Some k.message) k.found;
      sender = ap party_of k.sender;
      receiver = ap party_of k.receiver;
    }

-- ---- all lines

abbrev pub judged_on : (h more : List Line) (c d : ℕ) (v : Verdict) → WasJudged h c d v → WasJudged (h ++ more) c d v
judged_on h more c d v k = record {
  before = k.before;
  number = k.number;
  found = k.found;
  after = k.after ++ more;
  lines_are = ap (λ (l : List Line). l ++ more) k.lines_are
      ∙ append_assoc k.before (line.Delivered k.number (Judged k.found) ∷ k.after) more;
  same = k.same;
  refuses = k.refuses;
  message = k.message;
  sent = k.sent;
  sender = k.sender;
  receiver = k.receiver;
}

abbrev Judges : List Line → (client drive number detail : ℕ) → Type 0
Judges h c d n e = WasJudged h c d (verdict_with n e)

line_judged : (before : List Line) (l : Line) → LineSays (Judges before) l → JudgedAt before l
line_judged before (line.Ended c (Failed kind (Refused d v))) s =
    subst (WasJudged before c d) (sym s.2) s.3
line_judged before l s = tt

pub refusals_were_judged : OneEventMore → RefusalsWereJudged
refusals_were_judged further h l before x after is =
    line_judged before x
    (refusals_say Judges (λ g more c d n e q. judged_on g more c d (verdict_with n e) q) further
    (λ w g k c caller found alive from y comes a r e other.
    took_judged g c a r (took further w g k c caller.state from y comes a r e) other) h l before x after is)
