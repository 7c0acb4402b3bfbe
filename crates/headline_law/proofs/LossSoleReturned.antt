-- A message that brings a report which is taken as a loss returns the grant that the machine's client holds.
-- Towards `CutsShowEntries` (`specs/Parts.antt`).
use Rattle.std.proofs.Common.{◌≡◌, ◌==◌, ℕ, Bool, true, false, List, map, slice_get, Option, Some, None, refl, sym, ap, ◌∙◌, inl, inr, if◌then◌else◌}
use Rattle.std.proofs.lemmas.Bool.{cases_Bool, and_parts, eqb-true, eq-eqb}
use Rattle.std.specs.Option.{option_map}
use Rattle.layout_ops.specs.declared.envelope.Envelope.TheVariants as envelope
use Rattle.layout_ops.specs.declared.messages.Request.{Request}
use Rattle.layout_ops.specs.Reading.{envelope_of}
use Rattle.layout_ops.proofs.Whole.{all_again}
use Rattle.osd_lists.specs.declared.node.Node.{Node}
use Rattle.osd_lists.specs.declared.node.Node.TheVariants as node
use Rattle.scenario_text.specs.declared.line.Line.{Line}
use Rattle.server_rules.specs.Envelopes.{message_in}
use Rattle.server_rules.specs.History.{Input, Hears}
use Rattle.server_rules.specs.Messages.{Message, Asks}
use Rattle.server_rules.specs.Slots.{slot_of}
use Rattle.server_rules.proofs.FileLaws.{number_at}
use Rattle.client_rules.specs.Calls.{file_of}
use Rattle.world_history.specs.Book.{ServerSeen}
use Rattle.world_history.specs.Calm.{return_in, return_for, return_of, returned_in}
use Rattle.world_history.specs.ClientNames.{Client, Report}
use Rattle.world_history.specs.Handed.{for_server}
use Rattle.world_history.specs.Laws.{shown}
use Rattle.world_history.specs.Sending.{Move, move}
use Rattle.world_history.specs.ServerNames.{File, ClientRequest}
use Rattle.world_history.specs.Spelled.{spelled, party_of}
use Rattle.world_history.specs.State.{World}
use Rattle.world_history.specs.declared.messages.Body.{Body}
use Rattle.world_history.specs.declared.messages.Posted.{Posted}
use Rattle.history_law.specs.Doing.{input_in, brought, brought_to, heard_of}
use Rattle.history_law.specs.Read.{BookIsRead}
use Rattle.component_law.proofs.Lists.{get_map}
use Rattle.exchange_law.specs.Messages.{AsksOf}
use Rattle.exchange_law.proofs.Admitting.{is_next}
use Rattle.exchange_law.proofs.HeldWorlds.{readable_there}
use Rattle.exchange_law.proofs.SlotAnswered.{IsReadOf, read_of, is_outstanding}
use Rattle.exchange_law.proofs.SlotLists.{each_at}
use Rattle.fence_law.specs.State.{State, Grant}
use Rattle.fence_law.proofs.Safe.{Safe}
use Rattle.file_simulation.specs.Calls.{HoldsReported}
use Rattle.file_simulation.specs.Relation.{client_of}
use Rattle.file_simulation.specs.ServerEvents as table
use Rattle.relation_law.specs.Steps.{Follows}
use Rattle.relation_law.proofs.CallsCarried.{still_held}
use Rattle.relation_law.proofs.KeptGoing.{safe_of}
use Rattle.headline_law.proofs.CalmCodes.{code_of, server_seen_is}
use Rattle.headline_law.proofs.EntriesServerReported.{LossesAreSole, loss_returns}
use Rattle.headline_law.proofs.LossSole.{HeldAreReturned, losses_are_sole}
use Rattle.headline_law.proofs.ServerClients.{ClientLaws, through, served, carries, asked_by, client, unheld, reports_now}

-- ---- the message

-- message n is a request of this client, and is for the server
record Brings (w : World) (n c : ℕ) (q : ClientRequest) : Type 0 where
  posted : Posted
  there : slice_get w.network.messages n ≡ Some posted
  to : posted.message.to ≡ node.Server
  from : posted.message.from ≡ node.Client c
  read : message_in (node.Client c) (spelled posted.message.body) ≡ Some (Asks q)

brings : (w : World) (n now c : ℕ) (q : ClientRequest) →
    brought w (slice_get w.network.messages n) ≡ Some (Hears now (node.Client c) (Asks q)) → Brings w n c q
brings w n now c q e = by (slice_get w.network.messages n) refl e
  where
    heard : (p : Posted) → slice_get w.network.messages n ≡ Some p → p.message.to ≡ node.Server → (o : Option Message) →
        for_server p.message ≡ o → heard_of w.clock p.message.from o ≡ Some (Hears now (node.Client c) (Asks q)) →
        Brings w n c q
    heard p there to None is e = absurd (cc e)
    heard p there to (Some x) is e =
        let from : p.message.from ≡ node.Client c = cc e in
        let same : x ≡ Asks q = cc e in
        record {
          posted = p;
          there = there;
          to = to;
          from = from;
          read = ap (λ (a : Node). message_in a (spelled p.message.body)) (sym from) ∙ is
              ∙ ap (λ (y : Message). Some y) same;
        }

    up : (p : Posted) → slice_get w.network.messages n ≡ Some p → p.message.to ≡ node.Server → (b : Bool) →
        (if b then None else heard_of w.clock p.message.from (for_server p.message))
        ≡ Some (Hears now (node.Client c) (Asks q)) → Brings w n c q
    up p there to true e = absurd (cc e)
    up p there to false e = heard p there to (for_server p.message) refl e

    by_to : (p : Posted) → slice_get w.network.messages n ≡ Some p → (to : Node) → p.message.to ≡ to →
        brought_to w p.message to ≡ Some (Hears now (node.Client c) (Asks q)) → Brings w n c q
    by_to p there node.Server to e = up p there to w.down e
    by_to p there (node.Client b) to e = absurd (cc e)
    by_to p there (node.Drive b) to e = absurd (cc e)

    by : (o : Option Posted) → slice_get w.network.messages n ≡ o →
        brought w o ≡ Some (Hears now (node.Client c) (Asks q)) → Brings w n c q
    by None there e = absurd (cc e)
    by (Some p) there e = by_to p there p.message.to refl e

-- ---- what it returns

module _ (laws : ClientLaws) (book : BookIsRead) (w : World) (h : List Line) (m : Move) (count : ℕ) (f g : File) (s : State)
    (k : Follows w h m count f g s) (now : ℕ) (q : ClientRequest)
    (comes : input_in w m.action ≡ Some (Hears now (node.Client q.client) (Asks q)))
    (taken : table.is_served w.server q.client q ≡ true) (n : ℕ)
    (brought_is : brought w (slice_get w.network.messages n) ≡ Some (Hears now (node.Client q.client) (Asks q))) where
  -- it is what the client's outstanding request returns
  record IsReturned : Type 0 where
    request : Request
    outstanding : (client_of w q.client).outstanding ≡ Some request
    returned : return_of (slice_get (map shown w.network.messages) n) ≡ returned_in request.args

  is_returned : IsReturned
  is_returned =
      let c : ℕ = q.client in
      let x : Client = client_of w c in
      let b : Brings w n c q = brings w n now c q brought_is in
      let step = laws.may.in_step w h k.moment c in
      let serves = served laws w h m count f g s k now q comes taken in
      let body : Body = b.posted.message.body in
      let asked : IsReadOf x b.posted.message.body q =
      read_of c x b.posted.message.body q step.number serves.named step.next
      (each_at (AsksOf c x) w.network.messages n b.posted b.there step.asks b.from b.to) b.read in
      let r : Request = asked.request in
      let next = is_next (slot_of w.server.slots c) q.sequence serves.new in
      let out : x.outstanding ≡ Some asked.request =
      is_outstanding h c x (slot_of w.server.slots c) asked.request q.sequence x.outstanding refl step.stands asked.asked
      asked.sequence next.next in
      let fits =
      (readable_there w h k.moment (through laws w h m count f g s k now q comes taken)).requests c asked.request out in
      record {
        request = asked.request;
        outstanding = out;
        returned = ap return_of (get_map shown w.network.messages n ∙ ap (option_map shown) b.there)
            ∙ ap (λ (t : Node). return_for (shown b.posted) (party_of t)) b.to
            ∙ ap (λ (y : Body). return_in (envelope_of (spelled y))) asked.body
            ∙ ap return_in (all_again (envelope.Request asked.request) fits);
      }

pub held_are_returned : ClientLaws → BookIsRead → HeldAreReturned
held_are_returned laws book w h m count f g s pairs k i is loss d yes_ x held =
    let q : ClientRequest = loss.request in
    let c : ℕ = loss.request.client in
    let fo : Follows w h m count f g s = k.shown.follows in
    let parts = and_parts (table.is_served w.server q.client q) (q.file == g.kept.number) yes_ in
    let number : g.kept.number ≡ f.kept.number =
    number_at (move w m).world.server.files f.kept.number g k.shown.follows.goes in
    let here : q.file ≡ f.kept.number = eqb-true q.file g.kept.number parts.1 ∙ number in
    let report = loss_returns w m f g i loss k.shown.follows.there number yes_ in
    let comes : input_in w m.action ≡ Some (Hears loss.now (node.Client q.client) (Asks q)) =
    is ∙ ap (λ (j : Input). Some j) loss.asked.is in
    let it =
    is_returned laws book w h m count f g s k.shown.follows loss.now q comes parts.0 d.number
    (d.comes ∙ ap (λ (j : Input). Some j) loss.asked.is) in
    let first : Safe s = safe_of s k.shown.follows.run (code_of book w h m count f g s k.shown.follows) in
    let away : s.waiting c ≡ false = elim (cases_Bool (s.waiting c)) [
      | inl waits ↦ absurd (cc (sym (first.holds.waits c waits) ∙ held))
      | inr rests ↦ rests
    ] in
    let rn = reports_now laws w h m count f g s k.shown.follows loss.now q comes parts.0 here report.0 report.1 away in
    let ca = carries laws w h m count f g s k.shown.follows loss.now q comes parts.0 in
    let file : file_of rn.op ≡ f.kept.number =
    sym (asked_by laws w h m count f g s k.shown.follows loss.now q comes parts.0 rn.op (Report rn.timed) rn.call).0
    ∙ sym ca.reads.file ∙ here in
    let hr : HoldsReported s c (client_of w c).outstanding =
    still_held f.kept.number f.kept.map c s (client_of w c) rn.op rn.timed rn.call (eq-eqb (file_of rn.op) f.kept.number file)
    (unheld laws w h m count f g s k.shown.follows loss.now q comes parts.0 here report.0 report.1)
    (client laws w h m count f g s k.shown.follows loss.now q comes parts.0) loss.answer in
    let same : hr.grant ≡ x = cc (sym hr.held ∙ held) in
    ap (λ (v : ServerSeen). return_of (slice_get v.sent d.number)) (server_seen_is book w h m count f g s k.shown.follows)
    ∙ it.returned ∙ hr.returned it.request it.outstanding ∙ ap (λ (y : Grant). Some y.number) same

-- Where a step takes a report as a loss, the grant that it returns is the only one.
pub losses_are_sole_by : ClientLaws → BookIsRead → LossesAreSole
losses_are_sole_by laws book = losses_are_sole book (held_are_returned laws book)
