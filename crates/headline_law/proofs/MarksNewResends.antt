-- What a client sends again it sent: the message is the same as one that was sent before the move.
-- Towards `WritesStayTied` (`specs/MarksTied.antt`).
use Rattle.std.proofs.Common.{◌≡◌, ℕ, suc, Bool, List, [], ◌∷◌, map, slice_get, Some, Ok, refl, sym, ap, subst, ◌∙◌, inl, inr}
use Rattle.std.specs.Prelude.{option_map}
use Rattle.std.proofs.lemmas.Option.{slice_get_within}
use Rattle.osd_lists.specs.declared.node.Node.TheVariants as node
use Rattle.osd_commands.specs.declared.commands.Command.{Command}
use Rattle.scenario_text.specs.declared.event.Event.TheVariants as event
use Rattle.scenario_text.specs.declared.event.Sender.TheVariants as sender
use Rattle.server_rules.specs.Laws.{In}
use Rattle.server_rules.proofs.Members.{in_filtered}
use Rattle.client_rules.specs.History as client
use Rattle.client_rules.specs.Messages.{awaited_of}
use Rattle.client_rules.specs.Steps.{resent}
use Rattle.world_history.specs.ClientNames as client_rules
use Rattle.world_history.specs.ClientNames.{Awaited, Outgoing}
use Rattle.world_history.specs.declared.messages.Message.{Message}
use Rattle.world_history.specs.declared.messages.Posted.{Posted}
use Rattle.world_history.specs.Drives.{command_in}
use Rattle.world_history.specs.Handed.{Post, client_posts, is_addressed, wrote_in, data_in, op_in}
use Rattle.world_history.specs.State.{World, ClientAt, at_number}
use Rattle.world_history.specs.Moves.{Action, Opens, acts}
use Rattle.world_history.specs.Sending.{Move, move, fresh}
use Rattle.history_law.specs.Moves.{IsForClient, ForClient}
use Rattle.component_law.proofs.Standing.{Stands, stay_more}
use Rattle.component_law.proofs.Heads.{acts_so}
use Rattle.exchange_law.specs.Sent.{HasSent, message_of}
use Rattle.exchange_law.proofs.RefusalSending.{resent_awaited}
use Rattle.file_simulation.specs.Tied.{WasPosted}
use Rattle.relation_law.specs.DriveHearing.{AwaitedAreSent}
use Rattle.headline_law.proofs.MarksWrites.{IsOld, IsNew}
use Rattle.headline_law.proofs.MarksNew.{OneResends}
use Rattle.headline_law.proofs.MarksNewSent.{AreOfClient, IsPostAt, post_at, post_in, posts_of}

-- the same command was sent before
pub record WasBefore (w : World) (m : Move) (c d : ℕ) (x : Command) : Type 0 where
  pub number : ℕ
  pub old : IsOld w number
  pub posted : WasPosted (move w m).world number c d x

-- what a client sends again it awaits
pub record IsAwaitedAgain (w : World) (c d : ℕ) (b : Message) : Type 0 where
  pub at : ClientAt
  pub found : at_number w.clients c ≡ Some at
  pub awaited : Awaited
  pub there : In awaited (awaited_of at.state.call)
  pub drive : awaited.drive ≡ d
  pub message : b ≡ message_of c d awaited.command

-- ---- a message among those that were sent

at_place : (ps : List Posted) (b : Message) → In b (map (λ (p : Posted). p.message) ps) →
    (n : ℕ) × (p : Posted) × (slice_get ps n ≡ Some p) × (b ≡ p.message)
at_place [] b i = absurd i
at_place (p ∷ ps) b (inl e) = (0, p, refl, e)
at_place (p ∷ ps) b (inr i) = let r = at_place ps b i in (suc r.0, r.1, r.2, r.3)

-- a command that was sent before
pub before_of : (w : World) (m : Move) (n c d : ℕ) (x : Command) → (p : WasPosted (move w m).world n c d x) → (y : Command) →
    HasSent w c d y → p.posted.message ≡ message_of c d y → WasBefore w m c d x
before_of w m n c d x p y had is =
    let r = at_place w.network.messages (message_of c d y) had in
    let z : Stands (move w m).world.network.messages r.0 r.1 =
    stay_more w.network.messages (acts w m.chosen m.action).world.network.messages
    (map fresh (acts w m.chosen m.action).posts) (acts_so w m.chosen m.action).stay r.0 r.1 r.2 in
    let same : z.now.message ≡ p.posted.message = z.same ∙ sym r.3 ∙ sym is in
    record {
      number = r.0;
      old = slice_get_within w.network.messages r.0 r.1 r.2;
      posted = record {
        posted = z.now;
        there = z.found;
        sender = ap (λ (y : Message). y.from) same ∙ p.sender;
        receiver = ap (λ (y : Message). y.to) same ∙ p.receiver;
        reads = subst (λ (y : Message). command_in y.body ≡ Ok x) (sym same) p.reads;
      };
    }

-- ---- what a client posts to a drive

pub posts_to : (c : ℕ) (wrote : Bool) (logged : ℕ) (os : List Outgoing) (p : Post) (d : ℕ) →
    In p (client_posts c wrote logged os) → p.message.to ≡ node.Drive d →
    (x : Command) × In (client_rules.ToDrive d x) os × (p.message ≡ message_of c d x)
posts_to c wrote logged [] p d i to = absurd i
posts_to c wrote logged (client_rules.ToDrive k x ∷ os) p d (inl e) to =
    let both : node.Drive k ≡ node.Drive d = sym (ap (λ (q : Post). q.message.to) e) ∙ to in
    let same : k ≡ d = cc both in (
      x,
      inl (ap (λ (n : ℕ). client_rules.ToDrive n x) (sym same)),
      ap (λ (q : Post). q.message) e ∙ ap (λ (n : ℕ). message_of c n x) same,
    )
posts_to c wrote logged (client_rules.Asks r ∷ os) p d (inl e) to =
    absurd (cc (sym (ap (λ (q : Post). q.message.to) e) ∙ to))
posts_to c wrote logged (client_rules.AnswersRecall r ∷ os) p d (inl e) to =
    absurd (cc (sym (ap (λ (q : Post). q.message.to) e) ∙ to))
posts_to c wrote logged (o ∷ os) p d (inr i) to =
    let r = posts_to c _ logged os p d i to in (r.0, inr r.1, r.2)

module _ (w : World) (m : Move) (again : OneResends w m) (sent : AwaitedAreSent w) (n c d : ℕ) (x : Command) (new : IsNew w n)
    (p : WasPosted (move w m).world n c d x) where
  at_ : IsPostAt w (acts w m.chosen m.action) n p.posted.message
  at_ = post_at w m n c d x new p

  from : at_.post.message.from ≡ node.Client c
  from = ap (λ (y : Message). y.from) (sym at_.message) ∙ p.sender

  to : at_.post.message.to ≡ node.Drive d
  to = ap (λ (y : Message). y.to) (sym at_.message) ∙ p.receiver

  its : AreOfClient w m.action c (acts w m.chosen m.action)
  its = posts_of w m.chosen m.action at_.post c (post_in w m n p.posted.message at_) from

  -- the client sends again what it sent
  is_again : its.input ≡ client.Resends
  is_again =
      by its.input
      (subst (λ (a : Action). IsForClient w a c its.at its.input) again.1 its.asked)
    where
      by : (i : client.Input) → IsForClient w (Opens (event.Resend (sender.Client again.0))) c its.at i → i ≡ client.Resends
      by (client.Hears from_ y) is = absurd (cc is.3)
      by (client.Calls op) is =
          (let t : Some client.Resends ≡ Some (client.Calls op) = ap (option_map (λ (q : ForClient). q.input)) is in
          absurd (cc t))
      by (client.TimesOut k) is =
          (let t : Some client.Resends ≡ Some (client.TimesOut k) = ap (option_map (λ (q : ForClient). q.input)) is in
          absurd (cc t))
      by client.Leaves is =
          (let t : Some client.Resends ≡ Some client.Leaves = ap (option_map (λ (q : ForClient). q.input)) is in absurd (cc t))
      by client.Resends is = refl

  posted_again : In at_.post
      (client_posts c (wrote_in its.at its.input) (data_in (op_in its.at.state its.input)) (resent its.at.state))
  posted_again =
      subst (λ (i : client.Input). In at_.post
      (client_posts c (wrote_in its.at its.input) (data_in (op_in its.at.state its.input)) (client.step its.at.state i).sends))
      is_again
      (in_filtered is_addressed at_.post
      (client_posts c (wrote_in its.at its.input) (data_in (op_in its.at.state its.input))
      (client.step its.at.state its.input).sends)
      (subst (In at_.post) its.posts (post_in w m n p.posted.message at_))).0

  pub awaited_again : IsAwaitedAgain w c d p.posted.message
  awaited_again =
      let r =
      posts_to c (wrote_in its.at its.input) (data_in (op_in its.at.state its.input)) (resent its.at.state) at_.post d
      posted_again to in
      let q = resent_awaited its.at.state d r.0 r.1 in
      record {
        at = its.at;
        found = its.found;
        awaited = q.awaited;
        there = q.there;
        drive = q.drive;
        message = at_.message ∙ r.2 ∙ ap (λ (y : Command). message_of c d y) (sym q.command);
      }

  had : (y : Command) × HasSent w c d y × (p.posted.message ≡ message_of c d y)
  had =
      let z = awaited_again in (
        z.awaited.command,
        subst (λ (k : ℕ). HasSent w c k z.awaited.command) z.drive (sent c z.at z.found z.awaited z.there),
        z.message,
      )

  pub was_before : WasBefore w m c d x
  was_before = before_of w m n c d x p had.0 had.1 had.2
