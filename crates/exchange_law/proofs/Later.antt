-- No two commands of a client have one nonce, and a grant that it can take is later than those that it took.
use Rattle.std.proofs.Common.{◌≡◌, ℕ, ◌+◌, ◌*◌, ◌/◌, ◌<◌, List, [], ◌∷◌, Some, map, refl, sym, ap, subst, ◌∙◌, arith, inl, inr}
use Rattle.osd_lists.specs.declared.node.Node.{Node}
use Rattle.osd_lists.specs.declared.node.Node.TheVariants as node
use Rattle.server_rules.specs.Laws.{In}
use Rattle.client_rules.specs.declared.limits.TheConstants.{NONCES}
use Rattle.client_rules.specs.Envelopes.{message_in}
use Rattle.client_rules.specs.Requests.{grant_in}
use Rattle.exchange_law.specs.ClientNonces.{grant_of}
use Rattle.exchange_law.proofs.ClientGiven.{taken_given}
use Rattle.exchange_law.proofs.Rising.{IsAmong}
use Rattle.history_law.specs.State.{Client, Command}
use Rattle.world_history.specs.declared.messages.Message.{Message}
use Rattle.world_history.specs.declared.messages.Posted.{Posted}
use Rattle.world_history.specs.State.{ClientAt, World, at_number}
use Rattle.world_history.specs.Spelled.{spelled}
use Rattle.exchange_law.specs.InStep.{IsInStep, state_of}
use Rattle.exchange_law.specs.RefusalNonces.{HasSent, CommandsDiffer, GrantsAreLater}
use Rattle.exchange_law.proofs.Turning.{bodies, WasPosted}
use Rattle.exchange_law.proofs.Owning.{are_own}
use Rattle.exchange_law.proofs.Taking.{TakesGrant, taken_gives}
use Rattle.exchange_law.proofs.Ran.{WasTaken}
use Rattle.exchange_law.proofs.RefusalClients.{ClientsRan, Known, clients_ran, few_sent}
use Rattle.exchange_law.proofs.Awaiting.{each_at}
use Rattle.exchange_law.proofs.Awaited.{few_at}
use Rattle.std.specs.Prelude.{Option, None}

in_bodies : (ps : List Posted) (m : Message) → In m (map (λ (p : Posted). p.message) ps) → In m (bodies ps)
in_bodies [] m i = i
in_bodies (p ∷ ps) m (inl e) = inl e
in_bodies (p ∷ ps) m (inr i) = inr (in_bodies ps m i)

-- a client that sent something is there
by_client : (w : World) → ClientsRan w → (c : ℕ) (m n : Message) (x y : Command) → HasSent w c m x → HasSent w c n y
    → x.nonce ≡ y.nonce → (o : Option ClientAt) → at_number w.clients c ≡ o → m ≡ n
by_client w r c m n x y s t same None gone =
    absurd (r.absent c gone m (in_bodies w.network.messages m s.there) s.sender)
by_client w r c m n x y s t same (Some a) there =
    (r.clients c a there).unique m n (in_bodies w.network.messages m s.there) (in_bodies w.network.messages n t.there)
    s.sender t.sender x y s.body t.body same

pub commands_differ : Known → CommandsDiffer
commands_differ q w h k few c m n x y s t same =
    by_client w (clients_ran q w h k (few_at w h k few)) c m n x y s t same (at_number w.clients c) refl

-- ---- grants

below : (n g : ℕ) → n / NONCES < g → n < g * 4294967296 + 0
below n g less = omega (arith, less)

pub grants_are_later : Known → GrantsAreLater
grants_are_later q w h k few c a found g t =
    let r = clients_ran q w h k (few_at w h k few) in
    let run = r.clients c a found in
    let kept = run.keeping (omega (arith, run.few, few_sent w (few_at w h k few))) in
    let step : IsInStep w h c a.state =
    subst (λ (x : Client). IsInStep w h c x) (ap (state_of c) found) (q.in_step w h k c) in
    let ok = taken_given t.answer t.op g t.grant in
    let posted : WasPosted w node.Server (node.Client c) (spelled t.message.body) = record {
      message = t.message;
      there = in_bodies w.network.messages t.message t.sent;
      sender = t.sender;
      receiver = t.receiver;
      bytes_are = refl;
    } in
    let gives : TakesGrant w c a.state (grant_in ok.ok.stateid) =
    taken_gives w h r.ordered (are_own q.further w h k) c a.state step node.Server _ (spelled t.message.body) posted
    (ap (λ (n : Node). message_in n (spelled t.message.body))
    (sym t.sender) ∙ t.read) t.answer ok.ok t.takes ok.given in
    let later : (n : ℕ) → IsAmong n run.before → n < g.number =
    λ n i.
    let b : WasTaken w c a.state n = each_at (WasTaken w c a.state) run.before n run.taken i in
    let less : b.sequence < gives.sequence = omega (arith, b.over gives.request gives.outstanding, gives.same) in
    let lower : n < grant_in ok.ok.stateid =
    r.ordered.order c b.sequence n gives.sequence (grant_in ok.ok.stateid) (inr b.sent) (inr gives.sent) less in
    omega (arith, lower, ok.fresh.number) in
    record {
      held = λ file j e. later j.number (kept.under file j e).among;
      sent =
          λ m x s.
          below x.nonce g.number (later (grant_of x.nonce)
          (each_at (λ z. IsAmong (grant_of z) run.before) run.xs x.nonce kept.known
          (run.sent m (in_bodies w.network.messages m s.there) s.sender x s.body)));
    }
