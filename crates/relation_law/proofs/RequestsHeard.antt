-- A request that the server carries out is the one that its client awaits the answer to.
use Rattle.std.proofs.Common.{◌≡◌, ◌≤◌, ℕ, Bool, true, false, List, Option, Some, None, refl, sym, ap, subst, ◌∙◌, if◌then◌else◌}
use Rattle.std.specs.Prelude.{slice_get}
use Rattle.osd_lists.specs.declared.node.Node.{Node}
use Rattle.osd_lists.specs.declared.node.Node.TheVariants as node
use Rattle.scenario_text.specs.declared.event.Event.{Event}
use Rattle.scenario_text.specs.declared.event.Event.TheVariants as event
use Rattle.scenario_text.specs.declared.event.Machine.TheVariants as machine
use Rattle.scenario_text.specs.declared.event.Sender.TheVariants as sender
use Rattle.scenario_text.specs.declared.line.Line.{Line}
use Rattle.server_rules.specs.declared.limits.TheConstants.{MAX_CLIENT}
use Rattle.server_rules.specs.Messages.{Message, Asks}
use Rattle.server_rules.specs.Envelopes.{message_in}
use Rattle.server_rules.specs.History.{Input, Hears}
use Rattle.server_rules.specs.Slots.{New, slot_of, admit}
use Rattle.world_history.specs.ServerNames.{ClientRequest}
use Rattle.world_history.specs.ClientNames.{Client}
use Rattle.world_history.specs.declared.messages.Posted.{Posted}
use Rattle.world_history.specs.declared.messages.Body.{Body}
use Rattle.world_history.specs.State.{World}
use Rattle.world_history.specs.Handed.{for_server}
use Rattle.world_history.specs.Spelled.{spelled}
use Rattle.world_history.specs.Moves.{Action, Opens, Delivers, TimesOut, Pends, knows_drive, raw_of, has_algorithm}
use Rattle.history_law.specs.BookMoments.{IsMoment}
use Rattle.history_law.specs.Doing.{heard_of, brought_to, brought, input_in}
use Rattle.history_law.specs.Said.{IsHeardByServer}
use Rattle.exchange_law.specs.InStep.{IsInStep}
use Rattle.exchange_law.specs.Messages.{AsksOf}
use Rattle.exchange_law.specs.Meeting.{IsReadable}
use Rattle.exchange_law.proofs.Admitting.{is_next}
use Rattle.exchange_law.proofs.HeldWorlds.{reads_fit}
use Rattle.exchange_law.proofs.SlotAnswered.{IsReadOf, read_of, is_outstanding}
use Rattle.exchange_law.proofs.SlotLists.{each_at}
use Rattle.file_simulation.specs.Relation.{client_of}
use Rattle.relation_law.specs.RequestsGoing.{IsItsRequest}

-- ---- what comes to the server it reads in a message

heard_by : (w : World) (n : ℕ) (p : Posted) → slice_get w.network.messages n ≡ Some p → p.message.to ≡ node.Server
    → (m : Option Message) → for_server p.message ≡ m → (i : Input) → heard_of w.clock p.message.from m ≡ Some i
    → IsHeardByServer w i
heard_by w n p there to None is i e = absurd (cc e)
heard_by w n p there to (Some m) is i e =
    let same : Hears w.clock p.message.from m ≡ i = cc e in
    subst (IsHeardByServer w) same (record { number = n; posted = p; there = there; receiver = to }, refl, refl, is)

brought_by : (w : World) (n : ℕ) (p : Posted) → slice_get w.network.messages n ≡ Some p → (to : Node) → p.message.to ≡ to
    → (i : Input) → brought_to w p.message to ≡ Some i → IsHeardByServer w i
brought_by w n p there node.Server to i e = either w.down e
  where
    either : (b : Bool) → (if b then None else heard_of w.clock p.message.from (for_server p.message)) ≡ Some i
        → IsHeardByServer w i
    either true e = absurd (cc e)
    either false e = heard_by w n p there to (for_server p.message) refl i e
brought_by w n p there (node.Drive d) to i e = absurd (cc e)
brought_by w n p there (node.Client c) to i e = absurd (cc e)

delivered_by : (w : World) (n : ℕ) (o : Option Posted) → slice_get w.network.messages n ≡ o → (i : Input)
    → brought w o ≡ Some i → IsHeardByServer w i
delivered_by w n None there i e = absurd (cc e)
delivered_by w n (Some p) there i e = brought_by w n p there p.message.to refl i e

-- what an event gives is no message
given : (w : World) (j i : Input) → Some j ≡ Some i → IsHeardByServer w j → IsHeardByServer w i
given w j i e x = let same : j ≡ i = cc e in subst (IsHeardByServer w) same x

unless_given : (w : World) (b : Bool) (j i : Input) → (if b then None else Some j) ≡ Some i → IsHeardByServer w j
    → IsHeardByServer w i
unless_given w true j i e x = absurd (cc e)
unless_given w false j i e x = given w j i e x

if_given : (w : World) (b : Bool) (j i : Input) → (if b then Some j else None) ≡ Some i → IsHeardByServer w j
    → IsHeardByServer w i
if_given w true j i e x = given w j i e x
if_given w false j i e x = absurd (cc e)

opened_by : (w : World) (x : Event) (i : Input) → input_in w (Opens x) ≡ Some i → IsHeardByServer w i
opened_by w (event.Deliver n) i e = delivered_by w n (slice_get w.network.messages n) refl i e
opened_by w (event.Drive d key capacity) i e = unless_given w (knows_drive w.server d) _ i e tt
opened_by w (event.Disk d key capacity) i e = unless_given w (knows_drive w.server d) _ i e tt
opened_by w (event.File f m tag) i e = if_given w (has_algorithm (raw_of m)) _ i e tt
opened_by w (event.ZonedFile f m tag) i e = if_given w (has_algorithm (raw_of m)) _ i e tt
opened_by w (event.Format format) i e = given w _ i e tt
opened_by w (event.Zone d zone) i e = given w _ i e tt
opened_by w (event.Recall f) i e = given w _ i e tt
opened_by w (event.Revoke f) i e = given w _ i e tt
opened_by w (event.Rebuild f) i e = given w _ i e tt
opened_by w (event.Audit f) i e = given w _ i e tt
opened_by w (event.Declare d) i e = given w _ i e tt
opened_by w (event.Resend sender.Server) i e = absurd (cc e)
opened_by w (event.Resend (sender.Client c)) i e = absurd (cc e)
opened_by w (event.Crash machine.Server) i e = given w _ i e tt
opened_by w (event.Crash (machine.Drive d)) i e = absurd (cc e)
opened_by w (event.Reopen machine.Server) i e = given w _ i e tt
opened_by w (event.Reopen (machine.Drive d)) i e = absurd (cc e)
opened_by w x i e = absurd (cc e)

pub heard_in : (w : World) (a : Action) (i : Input) → input_in w a ≡ Some i → IsHeardByServer w i
heard_in w (Opens x) i e = opened_by w x i e
heard_in w (Delivers n) i e = delivered_by w n (slice_get w.network.messages n) refl i e
heard_in w (TimesOut c k) i e = absurd (cc e)
heard_in w (Pends c) i e = absurd (cc e)

-- ---- a new request

-- one that is new is its client's outstanding one, read as it was asked
pub its_request : (w : World) (h : List Line) (c : ℕ) → IsMoment w h → IsInStep w h c (client_of w c) → IsReadable w
    → (now : ℕ) (q : ClientRequest) → c ≤ MAX_CLIENT → IsHeardByServer w (Hears now (node.Client c) (Asks q))
    → admit (slot_of w.server.slots c) q.sequence ≡ New → IsItsRequest w c q
its_request w h c k step readable now q named heard new =
    let d = heard.0 in
    let x : Client = client_of w c in
    let read : message_in (node.Client c) (spelled d.posted.message.body) ≡ Some (Asks q) =
    ap (λ (n : Node). message_in n (spelled d.posted.message.body)) heard.2 ∙ heard.3 in
    let asked : IsReadOf x d.posted.message.body q =
    read_of c x d.posted.message.body q step.number named step.next
    (each_at (AsksOf c x) w.network.messages d.number d.posted d.there step.asks (sym heard.2) d.receiver) read in
    let next = is_next (slot_of w.server.slots c) q.sequence new in
    let out : x.outstanding ≡ Some asked.request =
    is_outstanding h c x (slot_of w.server.slots c) asked.request q.sequence x.outstanding refl step.stands asked.asked
    asked.sequence next.next in
    record {
      request = asked.request;
      outstanding = out;
      reads = reads_fit c asked.request q (readable.requests c asked.request out)
          (ap (λ (b : Body). message_in (node.Client c) (spelled b)) (sym asked.body) ∙ read);
      next = next.next;
    }
