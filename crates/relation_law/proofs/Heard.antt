-- What a client takes of a drive as the reply to a command that it awaits is a reply that the drive sent, and all its bytes.
-- Towards `CallsGoOn` (`relation_law/specs/Steps.antt`).
use Rattle.std.proofs.Common.{◌≡◌, ◌<◌, ◌^◌, ◌%◌, ℕ, true, List, Some, Result, Ok, Err, refl, sym, ap, subst, ◌∙◌, arith}
use Rattle.std.proofs.lemmas.Bool.{eq-eqb}
use Rattle.osd_lists.specs.declared.node.Node.{Node}
use Rattle.osd_lists.specs.declared.node.Node.TheVariants as node
use Rattle.osd_commands.specs.declared.commands.Command.{Command}
use Rattle.osd_commands.specs.declared.commands.CommandErr.{CommandErr}
use Rattle.osd_commands.specs.declared.replies.Reply.{Reply}
use Rattle.osd_commands.specs.Replies.{fields, spelling, reply_at, reading}
use Rattle.scenario_text.specs.declared.line.Line.{Line}
use Rattle.server_rules.specs.Laws.{In}
use Rattle.client_rules.specs.declared.limits.TheConstants.{PERFORMED}
use Rattle.client_rules.specs.Envelopes.{message_in}
use Rattle.client_rules.specs.History.{Hears}
use Rattle.client_rules.specs.Io.{carried}
use Rattle.client_rules.specs.Messages.{Replies}
use Rattle.client_rules.specs.Replies.{answers}
use Rattle.world_history.specs.ClientNames.{Awaited, Column}
use Rattle.world_history.specs.declared.messages.Body.{Body}
use Rattle.world_history.specs.declared.messages.Body.TheVariants.{Command as OfCommand, Reply as OfReply}
use Rattle.world_history.specs.declared.messages.Message.{Message}
use Rattle.world_history.specs.Drives.{judges, command_in}
use Rattle.world_history.specs.Moves.{Action}
use Rattle.world_history.specs.Spelled.{spelled}
use Rattle.world_history.specs.State.{DriveAt, World, ClientAt}
use Rattle.history_law.specs.Moves.{IsForClient}
use Rattle.history_law.specs.BookMoments.{IsMoment}
use Rattle.exchange_law.specs.Text.{AreFew}
use Rattle.exchange_law.proofs.Awaited.{few_at}
use Rattle.exchange_law.proofs.Awaiting.{IsAnswered, HasAnswer, are_answered}
use Rattle.exchange_law.proofs.CommandRead.{nonce_read}
use Rattle.exchange_law.proofs.Judging.{answers_drive, drive_says}
use Rattle.exchange_law.proofs.RefusalClients.{Known}
use Rattle.exchange_law.proofs.RefusalVerdicts.{judged_agrees}
use Rattle.exchange_law.proofs.ReplyRead.{ReadsAs, reply_read, read_at}
use Rattle.exchange_law.proofs.Turning.{body_in, sent_by}
use Rattle.history_law.proofs.Spelled.{reply_reads}
use Rattle.file_simulation.specs.Messages.{HasReplied}
use Rattle.relation_law.proofs.ReadsDrive.{reply_nonce}
use Rattle.relation_law.proofs.Plans.{WasHeard}

-- ---- what is read of a reply

payload_there : (r : Reply) → (reply_at (spelling r)).payload ≡ r.payload
unfolding reply_at spelling fields
payload_there r = refl

pub payload_read : (r read : Reply) → reading (spelling r) ≡ Ok read → read.payload ≡ r.payload
payload_read r read e = ap (λ (x : Reply). x.payload) (sym (read_at (spelling r) read e)) ∙ payload_there r

-- ---- its nonce

low_rest : (n : ℕ) → n % 2 ^ 64 < 2 ^ 64
low_rest n = omega arith

read_low : (a : DriveAt) (x : Command) (r : Result Command CommandErr) → command_in (OfCommand x) ≡ r →
    (judges a r).reply.nonce < 2 ^ 64
unfolding judges
read_low a x (Ok z) e =
    subst (λ (n : ℕ). n < 2 ^ 64) (sym (reply_nonce a.state a.clock z ∙ nonce_read x z e)) (low_rest x.nonce)
read_low a x (Err y) e = omega arith

-- a drive replies to a command with a nonce of 64 bits
pub judged_low : (a : DriveAt) (x : Command) (body : Body) → body ≡ OfCommand x →
    (judges a (command_in body)).reply.nonce < 2 ^ 64
judged_low a x body is =
    subst (λ (b : Body). (judges a (command_in b)).reply.nonce < 2 ^ 64) (sym is) (read_low a x (command_in (OfCommand x)) refl)

-- ---- a reply that comes to a client

pub message_is : (m : Message) (f t : Node) (b : Body) → m.from ≡ f → m.to ≡ t → m.body ≡ b →
    m ≡ record { from = f; to = t; body = b }
message_is m f t b from to body =
    ap (λ (z : Node). record { from = z; to = m.to; body = m.body }) from
    ∙ ap (λ (z : Node). record { from = f; to = z; body = m.body }) to
    ∙ ap (λ (z : Body). record { from = f; to = t; body = z }) body

module _ (known : Known) (w : World) (h : List Line) (k : IsMoment w h) (few : AreFew h) (action : Action) (c : ℕ) (x : ClientAt)
    (drive : ℕ) (q : Reply) (is : IsForClient w action c x (Hears (node.Drive drive) (Replies q))) (a : Awaited)
    (answer : answers drive q a ≡ true) (done : q.verdict ≡ PERFORMED) where
  there : In is.0.posted.message (sent_by w)
  there = body_in w.network.messages is.0.number is.0.posted is.0.there

  has : HasAnswer w h c drive is.0.posted.message.body
  has = (are_answered known w h k (few_at w h k (omega (arith, few)))).replies is.0.posted.message there c drive
      (sym is.1) is.0.receiver

  says : message_in (node.Drive drive) (spelled is.0.posted.message.body) ≡ Some (Replies q)
  says = ap (λ (n : Node). message_in n (spelled is.0.posted.message.body)) is.1 ∙ is.2

  read : reading (spelling has.reply) ≡ Ok q
  read = ap reading (sym (ap spelled has.is)) ∙ drive_says drive (spelled is.0.posted.message.body) q says

  answered : IsAnswered w h c drive has.reply
  answered = has.answered

  low : has.reply.nonce < 2 ^ 64
  low =
      subst (λ (r : Reply). r.nonce < 2 ^ 64) (sym answered.replied.reply)
      (judged_low answered.replied.device answered.command answered.replied.message.message.body answered.body)

  reads_as : ReadsAs has.reply q
  reads_as =
      reply_read has.reply q
      (subst (λ (y : Reply). y.verdict < 2 ^ 16) (sym answered.replied.reply)
      (judged_agrees answered.replied.device (command_in answered.replied.message.message.body)).low) read

  nonce_same : q.nonce ≡ has.reply.nonce
  nonce_same = (reply_reads has.reply q read).nonce low

  replied_there : HasReplied w drive c has.reply
  replied_there =
      subst (λ (z : Message). In z (sent_by w))
      (message_is is.0.posted.message (node.Drive drive) (node.Client c) (OfReply has.reply) (sym is.1) is.0.receiver
      has.is) there

  abbrev GotWith : List ℕ → Column
  GotWith b = record { position = a.ask.position; offset = a.ask.offset; bytes = carried a.ask.length b }

  pub heard : WasHeard w c a q
  heard =
      let same = answers_drive drive q a answer in
      record {
        reply = has.reply;
        replied = subst (λ (d : ℕ). HasReplied w d c has.reply) (sym same.1) replied_there;
        answers = rw (eq-eqb a.command.nonce has.reply.nonce (same.0 ∙ nonce_same), eq-eqb a.drive a.drive refl) refl;
        performed = sym reads_as.verdict ∙ done;
        got = ap (λ (b : List ℕ). GotWith b) (sym (payload_read has.reply q read));
      }
