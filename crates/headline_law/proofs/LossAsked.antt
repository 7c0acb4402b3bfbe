-- What is read off the line of a message to the server is the request that its client sent, whether the server takes it as a new
-- one or answers it again: each request that was sent fits its places, since its client awaited the answer when it was sent.
-- Towards `CutsShowEntries` (`specs/Parts.antt`).
use Rattle.std.proofs.Common.{◌≡◌, ◌++◌, ℕ, Bool, true, false, List, [], ◌∷◌, take, map, slice_get, Option, Some, None, option_map, refl, sym, ap, subst, ◌∙◌, if◌then◌else◌}
use Rattle.osd_lists.specs.declared.node.Node.{Node}
use Rattle.osd_lists.specs.declared.node.Node.TheVariants as node
use Rattle.layout_ops.specs.declared.envelope.Envelope.TheVariants as envelope
use Rattle.layout_ops.specs.declared.messages.Request.{Request}
use Rattle.layout_ops.specs.Reading.{envelope_of}
use Rattle.layout_ops.specs.Spelling.{EnvelopeFits}
use Rattle.layout_ops.proofs.Whole.{all_again}
use Rattle.scenario_text.specs.declared.line.Line.{Line}
use Rattle.client_rules.specs.History.{step as client_step}
use Rattle.server_rules.specs.Envelopes.{message_in}
use Rattle.server_rules.specs.History.{Input, Hears, step}
use Rattle.server_rules.specs.Laws.{In}
use Rattle.server_rules.specs.Messages.{Message as ServerMessage, Asks}
use Rattle.server_rules.specs.Slots.{slot_of}
use Rattle.server_rules.proofs.FileLaws.{slots_kept}
use Rattle.world_history.specs.Book.{ServerSeen}
use Rattle.world_history.specs.Calm.{returned_in, return_in, return_for, return_of}
use Rattle.world_history.specs.ClientNames as client_rules
use Rattle.world_history.specs.ClientNames.{Client}
use Rattle.world_history.specs.ServerNames as server_rules
use Rattle.world_history.specs.ServerNames.{File, ClientRequest}
use Rattle.world_history.specs.declared.messages.Body.{Body}
use Rattle.world_history.specs.declared.messages.Body.TheVariants.{Envelope as OfEnvelope}
use Rattle.world_history.specs.declared.messages.Message.{Message}
use Rattle.world_history.specs.declared.messages.Posted.{Posted}
use Rattle.world_history.specs.Handed.{Post, server_post, client_posts, for_server}
use Rattle.world_history.specs.History.{OneEventMore}
use Rattle.world_history.specs.Laws.{shown}
use Rattle.world_history.specs.Moves.{Act, acts}
use Rattle.world_history.specs.Plans.{due}
use Rattle.world_history.specs.Sending.{Move, move}
use Rattle.world_history.specs.Spelled.{spelled, party_of}
use Rattle.world_history.specs.State.{World, at_number}
use Rattle.history_law.specs.Moments.{IsMoment, lines_in, plan_at}
use Rattle.history_law.specs.Doing.{brought, brought_to, heard_of}
use Rattle.history_law.specs.Read.{BookIsRead}
use Rattle.history_law.proofs.Goes.{moves_are_steps}
use Rattle.exchange_law.specs.Doing.{said, posted, AreReplies, Nothing, OneReply, ClientGoes, Goes, Others, AServer, AClient, Stops, Comes, IsOneStep}
use Rattle.exchange_law.specs.InStep.{state_of}
use Rattle.exchange_law.specs.Meeting.{IsReadableThrough}
use Rattle.exchange_law.specs.Messages.{EachMessage, AsksOf}
use Rattle.exchange_law.proofs.CountGrowing.{fewer, text_front}
use Rattle.exchange_law.proofs.Each.{put_same, in_step}
use Rattle.exchange_law.proofs.HeldWorlds.{next_moment, readable_fronts, readable_there}
use Rattle.exchange_law.proofs.Knowing.{lawful_at}
use Rattle.exchange_law.proofs.SlotAnswered.{IsReadOf, read_of}
use Rattle.exchange_law.proofs.SlotLists.{each_at, each_more, said_more, addressed_each}
use Rattle.exchange_law.proofs.SlotMoments.{always}
use Rattle.exchange_law.proofs.SlotStepping.{AsksOnly, step_asks}
use Rattle.exchange_law.proofs.Standing.{Parts}
use Rattle.exchange_law.proofs.Turning.{body_in}
use Rattle.component_law.proofs.Lists.{get_map}
use Rattle.cause_law.specs.Readable.{FilesAndAnswersAreReadable}
use Rattle.fence_law.specs.State.{State}
use Rattle.file_simulation.specs.Relation.{client_of}
use Rattle.file_simulation.specs.Tied.{HasAsked}
use Rattle.relation_law.specs.Steps.{Follows}
use Rattle.headline_law.proofs.CalmCodes.{server_seen_is}
use Rattle.headline_law.proofs.EntriesServerAgain.{ReturnsAreAsked}
use Rattle.headline_law.proofs.EntriesServerLoss.{TakesLoss}
use Rattle.headline_law.proofs.EntriesServerOver.{returned_by}
use Rattle.headline_law.proofs.EntriesServerTold.{IsDelivered}

-- ---- each request that was sent fits its places

abbrev BodyFits : Body → Type 0
BodyFits (OfEnvelope (envelope.Request q)) = EnvelopeFits (envelope.Request q)
BodyFits body = Unit {0}

-- if a client sent it
abbrev AskFits : Message → Type 0
AskFits m = (c : ℕ) → m.from ≡ node.Client c → BodyFits m.body

server_fits : (os : List server_rules.Outgoing) → EachMessage AskFits (posted (map server_post os))
server_fits [] = tt
server_fits (o ∷ os) = (λ c from. absurd (cc from), server_fits os)

-- what a client sends, where the request that is outstanding then fits
module _ (o : Option Request) (fits : (r : Request) → o ≡ Some r → EnvelopeFits (envelope.Request r)) where
  client_fits : (d : ℕ) (wrote : Bool) (logged : ℕ) (os : List client_rules.Outgoing) → AsksOnly o os →
      EachMessage AskFits (posted (client_posts d wrote logged os))
  client_fits d wrote logged [] k = tt
  client_fits d wrote logged (client_rules.AnswersRecall a ∷ os) k = (λ c from. tt, client_fits d _ logged os k)
  client_fits d wrote logged (client_rules.Asks r ∷ os) k = (λ c from. fits r k.0, client_fits d _ logged os k.1)
  client_fits d wrote logged (client_rules.ToDrive e y ∷ os) k = (λ c from. tt, client_fits d _ logged os k)

replies_fit : (ps : List Post) → AreReplies ps → EachMessage AskFits (posted ps)
replies_fit ps (Nothing e) = subst (λ (qs : List Post). EachMessage AskFits (posted qs)) (sym e) tt
replies_fit ps (OneReply d to r e) =
    subst (λ (qs : List Post). EachMessage AskFits (posted qs)) (sym e) (λ c from. absurd (cc from), tt)

abbrev AllFit : World → List Line → Type 0
AllFit w h = IsReadableThrough h → EachMessage AskFits (said w.network.messages)

module _ (more : OneEventMore) where
  module _ (w : World) (h : List Line) (k : IsMoment w h) (m : Move) (d : due (plan_at k) w ≡ Some m.action)
      (before : AllFit w h) (t : IsReadableThrough (h ++ lines_in w m)) where
    abbrev a : Act
    a = acts w m.chosen m.action

    abbrev v : World
    v = (move w m).world

    one : IsOneStep w m.chosen m.action a
    one = moves_are_steps w m.chosen m.action

    as_posted : (ps : List Post) → a.posts ≡ ps → EachMessage AskFits (posted ps) → EachMessage AskFits (posted a.posts)
    as_posted ps e k_ = subst (λ (qs : List Post). EachMessage AskFits (posted qs)) (sym e) k_

    client_steps : ClientGoes w a → EachMessage AskFits (posted a.posts)
    client_steps g =
        as_posted _ g.posts
        (addressed_each AskFits (client_posts g.client g.wrote g.logged (client_step g.before.state g.input).sends)
        (client_fits (client_step g.before.state g.input).client.outstanding fits g.client g.wrote g.logged
        (client_step g.before.state g.input).sends (step_asks g.before.state g.input part.room).sends))
      where
        part : Parts (said w.network.messages) (slot_of w.server.slots g.client) h g.client g.before.state
        part =
            subst (Parts (said w.network.messages) (slot_of w.server.slots g.client) h g.client)
            (ap (state_of g.client) g.found) (in_step slots_kept more w h k g.client)

        after : client_of v g.client ≡ (client_step g.before.state g.input).client
        after =
            ap (λ (xs : _). state_of g.client (at_number xs g.client)) g.clients
            ∙ ap (state_of g.client) (put_same w.clients g.client g.before g.after g.found) ∙ g.state

        fits : (r : Request) → (client_step g.before.state g.input).client.outstanding ≡ Some r →
            EnvelopeFits (envelope.Request r)
        fits r e =
            (readable_there v (h ++ lines_in w m) (next_moment w h k m d) t).requests g.client r
            (ap (λ (x : Client). x.outstanding) after ∙ e)

    by_goes : Goes w m.chosen m.action a → EachMessage AskFits (posted a.posts)
    by_goes (Others g) = replies_fit a.posts g.posts
    by_goes (AServer g) =
        as_posted _ g.posts
        (addressed_each AskFits (map server_post (step w.server m.chosen g.input).sends)
        (server_fits (step w.server m.chosen g.input).sends))
    by_goes (AClient g) = client_steps g
    by_goes (Stops g) = as_posted [] g.posts tt
    by_goes (Comes g) = as_posted [] g.posts tt

    move_fits : EachMessage AskFits (said v.network.messages)
    move_fits =
        subst (EachMessage AskFits)
        (sym (said_more a.world.network.messages a.posts ∙ ap (λ (l : List Message). l ++ posted a.posts) one.said))
        (each_more AskFits (said w.network.messages) (posted a.posts) (before (readable_fronts h (lines_in w m) t))
        (by_goes one.goes))

  asks_fit : (w : World) (h : List Line) → IsMoment w h → AllFit w h
  asks_fit w h k =
      always AllFit (record { starts = λ t. tt; moves = λ u g j m d p t. move_fits u g j m d p t }) more w h k

-- ---- a message that comes

made_of : (m : Message) (from to : Node) (b : Body) → m.from ≡ from → m.to ≡ to → m.body ≡ b →
    m ≡ record { from = from; to = to; body = b }
made_of m from to b e f g =
    ap (λ (x : Node). record { from = x; to = m.to; body = m.body }) e
    ∙ ap (λ (x : Node). record { from = from; to = x; body = m.body }) f
    ∙ ap (λ (x : Body). record { from = from; to = to; body = x }) g

-- what is known of histories
pub record AskedLaws : Type 0 where
  pub more : OneEventMore
  pub book : BookIsRead
  pub readable : FilesAndAnswersAreReadable

module _ (laws : AskedLaws) (w : World) (h : List Line) (m : Move) (count : ℕ) (f g : File) (s : State)
    (k : Follows w h m count f g s) (i : Input) (loss : TakesLoss w.server m.chosen i) (d : IsDelivered w m i) where
  abbrev q : ClientRequest
  q = loss.request

  abbrev c : ℕ
  c = loss.request.client

  abbrev x : Client
  x = client_of w loss.request.client

  through : IsReadableThrough h
  through =
      laws.readable h (lawful_at w h k.moment) (text_front h (take count (lines_in w m)) k.calm.scenario.text)
      (fewer h (take count (lines_in w m)) k.calm.scenario.few)

  abbrev pub Goal : Type 0
  Goal =
      (r : Request) × HasAsked w loss.request.client r × (r.sequence ≡ loss.request.sequence)
      × (returned_by h d ≡ returned_in r.args)

  asked_so : (p : Posted) → slice_get w.network.messages d.number ≡ Some p → p.message.to ≡ node.Server →
      p.message.from ≡ node.Client loss.request.client → for_server p.message ≡ Some (Asks loss.request) → Goal
  asked_so p there to from reads =
      let part = in_step slots_kept laws.more w h k.moment c in
      let here : message_in (node.Client c) (spelled p.message.body) ≡ Some (Asks q) =
      ap (λ (n : Node). message_in n (spelled p.message.body)) (sym from) ∙ reads in
      let asked : IsReadOf x p.message.body q =
      read_of c x p.message.body q part.number loss.asked.named part.next
      (each_at (AsksOf c x) w.network.messages d.number p there part.asks from to) here in
      let fits : EnvelopeFits (envelope.Request asked.request) =
      subst BodyFits asked.body
      (each_at AskFits w.network.messages d.number p there (asks_fit laws.more w h k.moment through) c from) in
      let sent : HasAsked w c asked.request =
      subst (λ (y : Message). In y (said w.network.messages))
      (made_of p.message (node.Client c) node.Server (OfEnvelope (envelope.Request asked.request)) from to asked.body)
      (body_in w.network.messages d.number p there) in (
        asked.request,
        sent,
        sym asked.sequence,
        ap return_of
            (ap (λ (z : ServerSeen). slice_get z.sent d.number) (server_seen_is laws.book w h m count f g s k)
            ∙ get_map shown w.network.messages d.number ∙ ap (option_map shown) there)
            ∙ ap (λ (n : Node). return_for (shown p) (party_of n)) to
            ∙ ap (λ (b : Body). return_in (envelope_of (spelled b))) asked.body
            ∙ ap return_in (all_again (envelope.Request asked.request) fits),
      )

  -- ---- what the move delivers

  by_read : (p : Posted) → slice_get w.network.messages d.number ≡ Some p → p.message.to ≡ node.Server →
      (o : Option ServerMessage) → for_server p.message ≡ o → heard_of w.clock p.message.from o ≡ Some i → Goal
  by_read p there to None reads e = absurd (cc e)
  by_read p there to (Some y) reads e =
      let heard : Hears w.clock p.message.from y ≡ i = cc e in
      let same : Hears w.clock p.message.from y ≡ Hears loss.now (node.Client c) (Asks q) = heard ∙ loss.asked.is in
      let from : p.message.from ≡ node.Client c = cc same in
      let what : y ≡ Asks q = cc same in
      asked_so p there to from (reads ∙ ap (λ (z : ServerMessage). Some z) what)

  by_down : (p : Posted) → slice_get w.network.messages d.number ≡ Some p → p.message.to ≡ node.Server → (b : Bool) →
      (if b then None else heard_of w.clock p.message.from (for_server p.message)) ≡ Some i → Goal
  by_down p there to true e = absurd (cc e)
  by_down p there to false e = by_read p there to (for_server p.message) refl e

  by_to : (p : Posted) → slice_get w.network.messages d.number ≡ Some p → (to : Node) → p.message.to ≡ to →
      brought_to w p.message to ≡ Some i → Goal
  by_to p there node.Server to e = by_down p there to w.down e
  by_to p there (node.Drive n) to e = absurd (cc e)
  by_to p there (node.Client n) to e = absurd (cc e)

  by_posted : (o : Option Posted) → slice_get w.network.messages d.number ≡ o → brought w o ≡ Some i → Goal
  by_posted None there e = absurd (cc e)
  by_posted (Some p) there e = by_to p there p.message.to refl e

  pub was_asked : Goal
  was_asked = by_posted (slice_get w.network.messages d.number) refl d.comes

pub returns_are_asked : AskedLaws → ReturnsAreAsked
returns_are_asked laws w h m count f g s pairs k i is loss d number at_ =
    let z = was_asked laws w h m count f g s k.shown.follows i loss d in
    (z.0, z.1, z.2, sym z.3 ∙ at_)
