-- What comes to the server in a move: no order in a message, and a drive is declared only if it has failed.
-- Towards `ComponentsGoOn` (`specs/Steps.antt`).
use Rattle.std.proofs.Common.{◌≡◌, ◌==◌, ℕ, Bool, true, false, List, find, is_some, slice_get, Option, Some, None, refl, sym, ap, subst, ◌∙◌, if◌then◌else◌}
use Rattle.osd_drive.specs.declared.keys.DriveKey.{DriveKey}
use Rattle.osd_lists.specs.declared.node.Node.{Node}
use Rattle.osd_lists.specs.declared.node.Node.TheVariants as node
use Rattle.scenario_text.specs.declared.event.Event.{Event}
use Rattle.scenario_text.specs.declared.event.Event.TheVariants as event
use Rattle.scenario_text.specs.declared.event.Machine.TheVariants as machine
use Rattle.scenario_text.specs.declared.event.Sender.TheVariants as sender
use Rattle.scenario_text.specs.declared.line.Line.{Line}
use Rattle.server_rules.specs.History.{Input, Hears, Obeys}
use Rattle.server_rules.specs.Messages.{Message, Asks, Replies, Orders}
use Rattle.world_history.specs.ServerNames.{Drive, File, ToRecall, ToRevoke, ToRebuild, ToAudit, ToDeclare}
use Rattle.world_history.specs.declared.err.WorldErr.{WorldErr}
use Rattle.world_history.specs.declared.err.WorldErr.TheVariants.{Alive}
use Rattle.world_history.specs.declared.messages.Message.{Message as Posting}
use Rattle.world_history.specs.declared.messages.Posted.{Posted}
use Rattle.world_history.specs.Handed.{for_server}
use Rattle.world_history.specs.History.{OneEventMore}
use Rattle.world_history.specs.Laws.{shown}
use Rattle.world_history.specs.Moves.{Action, Opens, Delivers, TimesOut, Pends, knows_drive, raw_of, has_algorithm}
use Rattle.world_history.specs.Plans.{due}
use Rattle.world_history.specs.Refusals.{refusal, first_of, if_failed, unless_down}
use Rattle.world_history.specs.Sending.{Move}
use Rattle.world_history.specs.Spelled.{party_of}
use Rattle.world_history.specs.State.{World, DriveAt, at_number}
use Rattle.history_law.specs.BookMoments.{IsMoment, plan_at}
use Rattle.history_law.specs.Doing.{heard_of, brought_to, brought, input_in}
use Rattle.history_law.proofs.DriveLines.{shown_get}
use Rattle.history_law.specs.Said.{IsHeardByServer}
use Rattle.component_law.specs.Moments.{WritesToOthers, ServerWritesToOthers}
use Rattle.component_law.proofs.Keys.{are_known}
use Rattle.component_law.proofs.Moves.{keys_of}
use Rattle.component_law.proofs.Servers.{keys_for}
use Rattle.component_law.proofs.Moments.{allowed_at}
use Rattle.file_simulation.specs.Components.{has_failed}
use Rattle.relation_law.specs.ComponentsFacts.{IsFair}
use Rattle.relation_law.proofs.RequestsHeard.{heard_in}

-- ---- a declaration

-- a declaration comes with its event alone
heard_none : (now : ℕ) (from : Node) (m : Option Message) (d : ℕ) → heard_of now from m ≡ Some (Obeys ToDeclare d) → ⊥
heard_none now from None d e = cc e
heard_none now from (Some m) d e = cc e

brought_none : (w : World) (m : Posting) (to : Node) (d : ℕ) → brought_to w m to ≡ Some (Obeys ToDeclare d) → ⊥
brought_none w m node.Server d e = either w.down e
  where
    either : (b : Bool) → (if b then None else heard_of w.clock m.from (for_server m)) ≡ Some (Obeys ToDeclare d) → ⊥
    either true x = cc x
    either false x = heard_none w.clock m.from (for_server m) d x
brought_none w m (node.Drive n) d e = cc e
brought_none w m (node.Client c) d e = cc e

delivered_none : (w : World) (o : Option Posted) (d : ℕ) → brought w o ≡ Some (Obeys ToDeclare d) → ⊥
delivered_none w None d e = cc e
delivered_none w (Some p) d e = brought_none w p.message p.message.to d e

unless_none : (b : Bool) (i : Input) (d : ℕ) → (i ≡ Obeys ToDeclare d → ⊥) → (if b then None else Some i) ≡
    Some (Obeys ToDeclare d) → ⊥
unless_none true i d other e = cc e
unless_none false i d other e = other (cc e)

if_none : (b : Bool) (i : Input) (d : ℕ) → (i ≡ Obeys ToDeclare d → ⊥) → (if b then Some i else None) ≡
    Some (Obeys ToDeclare d) → ⊥
if_none false i d other e = cc e
if_none true i d other e = other (cc e)

same_drive : (n d : ℕ) → Some (Obeys ToDeclare n) ≡ Some (Obeys ToDeclare d) → n ≡ d
same_drive n d e = cc e

declared_by : (w : World) (x : Event) (d : ℕ) → input_in w (Opens x) ≡ Some (Obeys ToDeclare d) → x ≡ event.Declare d
declared_by w (event.Declare n) d e = ap event.Declare (same_drive n d e)
declared_by w (event.Deliver n) d e = absurd (delivered_none w (slice_get w.network.messages n) d e)
declared_by w (event.Drive n key capacity) d e = absurd (unless_none (knows_drive w.server n) _ d (λ x. cc x) e)
declared_by w (event.Disk n key capacity) d e = absurd (unless_none (knows_drive w.server n) _ d (λ x. cc x) e)
declared_by w (event.File f m tag) d e = absurd (if_none (has_algorithm (raw_of m)) _ d (λ x. cc x) e)
declared_by w (event.ZonedFile f m tag) d e = absurd (if_none (has_algorithm (raw_of m)) _ d (λ x. cc x) e)
declared_by w (event.Format format) d e = absurd (cc e)
declared_by w (event.Zone n zone) d e = absurd (cc e)
declared_by w (event.Recall f) d e = absurd (cc e)
declared_by w (event.Revoke f) d e = absurd (cc e)
declared_by w (event.Rebuild f) d e = absurd (cc e)
declared_by w (event.Audit f) d e = absurd (cc e)
declared_by w (event.Resend sender.Server) d e = absurd (cc e)
declared_by w (event.Resend (sender.Client c)) d e = absurd (cc e)
declared_by w (event.Crash machine.Server) d e = absurd (cc e)
declared_by w (event.Crash (machine.Drive n)) d e = absurd (cc e)
declared_by w (event.Reopen machine.Server) d e = absurd (cc e)
declared_by w (event.Reopen (machine.Drive n)) d e = absurd (cc e)
declared_by w x d e = absurd (cc e)

declared_in : (w : World) (a : Action) (d : ℕ) → input_in w a ≡ Some (Obeys ToDeclare d) → a ≡ Opens (event.Declare d)
declared_in w (Opens x) d e = ap Opens (declared_by w x d e)
declared_in w (Delivers n) d e = absurd (delivered_none w (slice_get w.network.messages n) d e)
declared_in w (TimesOut c k) d e = absurd (cc e)
declared_in w (Pends c) d e = absurd (cc e)

-- it isn't refused where the drive has failed
failed_by : (o : Option DriveAt) (rest : Option WorldErr) → first_of (if_failed o) rest ≡ None →
    (a : DriveAt) × (o ≡ Some a) × (a.failed ≡ true)
failed_by None rest e = absurd (cc e)
failed_by (Some a) rest e = by a.failed refl e
  where
    by : (b : Bool) → a.failed ≡ b → first_of (if b then None else Some Alive) rest ≡ None →
        (x : DriveAt) × (Some a ≡ Some x) × (x.failed ≡ true)
    by true is x = (a, refl, is)
    by false is x = absurd (cc x)

-- the server knows each drive that there is
known_by : (o : Option Drive) (ks : List DriveKey) → Some ks ≡ keys_for o → is_some o ≡ false → ⊥
known_by None ks e none = cc e
known_by (Some x) ks e none = cc none

module _ (more : OneEventMore) (others : ServerWritesToOthers) (w : World) (h : List Line) (k : IsMoment w h) (m : Move)
    (d : due (plan_at k) w ≡ Some m.action) (f : File) where
  allowed : (n : ℕ) → m.action ≡ Opens (event.Declare n) → refusal w (event.Declare n) ≡ None
  allowed n is = allowed_at w h k (Opens (event.Declare n)) (d ∙ ap Some is)

  declared : (n : ℕ) → input_in w m.action ≡ Some (Obeys ToDeclare n) → IsFair w f (Obeys ToDeclare n)
  unfolding refusal
  declared n is =
      let r = failed_by (at_number w.drives n) (unless_down w) (allowed n (declared_in w m.action n is)) in (
        ap has_failed r.1 ∙ r.2,
        λ unknown. absurd (known_by (find (λ (x : Drive). x.number == n) w.server.drives) r.0.state.keys
            (sym (ap keys_of r.1) ∙ (are_known more w h k).same n) unknown),
      )

  -- ---- an order

  writes : WritesToOthers w
  writes = subst WritesToOthers (sym k.world_is) (others k.before k.history k.moves k.stands)

  by_message : (now : ℕ) (from : Node) (b : Message) → IsHeardByServer w (Hears now from b) → IsFair w f (Hears now from b)
  by_message now node.Server (Orders o) (p, time, sender_, read) =
      writes p.number (shown p.posted) (shown_get w.network.messages p.number (Some p.posted) p.there)
      (ap party_of (sym sender_)) (ap party_of p.receiver)
  by_message now node.Server (Asks q) heard = tt
  by_message now node.Server (Replies r) heard = tt
  by_message now (node.Client c) b heard = tt
  by_message now (node.Drive n) b heard = tt

  fair_by : (i : Input) → input_in w m.action ≡ Some i → IsFair w f i
  fair_by (Hears now from b) is = by_message now from b (heard_in w m.action (Hears now from b) is)
  fair_by (Obeys ToDeclare n) is = declared n is
  fair_by (Obeys ToRecall n) is = tt
  fair_by (Obeys ToRevoke n) is = tt
  fair_by (Obeys ToRebuild n) is = tt
  fair_by (Obeys ToAudit n) is = tt
  fair_by i is = tt

  -- what comes to the server is fair
  pub is_fair : (i : Input) → input_in w m.action ≡ Some i → IsFair w f i
  is_fair i is = fair_by i is
