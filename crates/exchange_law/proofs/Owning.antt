-- What the server gives a client names its grant in the bytes that a name has.
use Rattle.std.proofs.Common.{◌≡◌, ℕ, List, [], ◌∷◌, Some, refl, sym, ap, subst, ◌∙◌, arith, inl, inr}
use Rattle.osd_lists.specs.declared.node.Node.{Node}
use Rattle.osd_lists.specs.declared.node.Node.TheVariants as node
use Rattle.world_history.specs.declared.messages.Sent.{Sent}
use Rattle.layout_ops.specs.declared.messages.Answer.{Answer}
use Rattle.layout_ops.specs.declared.results.LayoutGetOk.{LayoutGetOk}
use Rattle.layout_ops.specs.declared.envelope.Envelope.{Envelope}
use Rattle.layout_ops.specs.declared.envelope.Envelope.TheVariants as envelope
use Rattle.layout_ops.specs.Spelling.{StateIdFits}
use Rattle.client_rules.specs.Results.{layouts_in}
use Rattle.server_rules.specs.Laws.{In}
use Rattle.server_rules.proofs.Members.{in_either}
use Rattle.scenario_text.specs.declared.line.Line.{Line}
use Rattle.world_history.specs.declared.messages.Body.{Body}
use Rattle.world_history.specs.declared.messages.Body.TheVariants.{Envelope as OfEnvelope}
use Rattle.world_history.specs.declared.messages.Message.{Message}
use Rattle.world_history.specs.State.{World}
use Rattle.world_history.specs.Handed.{Post}
use Rattle.world_history.specs.Moves.{acts}
use Rattle.world_history.specs.Sending.{Move, move}
use Rattle.world_history.specs.Reading.{sent_in}
use Rattle.world_history.specs.History.{OneEventMore}
use Rattle.history_law.proofs.DriveLines.{sent_read}
use Rattle.history_law.specs.BookMoments.{IsMoment}
use Rattle.history_law.specs.Granted.{IsGrantOf, OwnIn}
use Rattle.history_law.proofs.Issuing.{PostKnown, PostsKnown}
use Rattle.history_law.proofs.IssuingMoves.{acts_known}
use Rattle.history_law.proofs.Exact.{own_given}
use Rattle.history_law.specs.Said.{posted}
use Rattle.exchange_law.proofs.Along.{at_moment}
use Rattle.exchange_law.proofs.Turning.{sent_by}
use Rattle.exchange_law.proofs.Turns.{messages_behind}
use Rattle.exchange_law.proofs.Knowing.{known_at}

-- each message of the server to a client gives it its own
pub record AreOwn (w : World) (h : List Line) : Type 0 where
  pub each : (m : Message) → In m (sent_by w) → (c : ℕ) → m.from ≡ node.Server → m.to ≡ node.Client c → (e : Envelope)
      → m.body ≡ OfEnvelope e → OwnIn c e

one_own : (ss : List Sent) (from to : Node) (body : Body) (c : ℕ) (e : Envelope) → from ≡ node.Server
    → to ≡ node.Client c → body ≡ OfEnvelope e → PostKnown ss from to body → OwnIn c e
one_own ss from to body c e is there of k =
    subst (λ (b : Body). PostKnown ss node.Server (node.Client c) b) of
    (subst (λ (n : Node). PostKnown ss node.Server n body) there
    (subst (λ (n : Node). PostKnown ss n to body) is k))

posted_own : (ss : List Sent) (ps : List Post) (m : Message) (c : ℕ) (e : Envelope) → PostsKnown ss ps
    → In m (posted ps) → m.from ≡ node.Server → m.to ≡ node.Client c → m.body ≡ OfEnvelope e → OwnIn c e
posted_own ss [] m c e k i from to body = absurd i
posted_own ss (p ∷ ps) m c e k (inl is) from to body =
    one_own ss p.message.from p.message.to p.message.body c e (sym (ap (λ (x : Message). x.from) is) ∙ from)
    (sym (ap (λ (x : Message). x.to) is) ∙ to) (sym (ap (λ (x : Message). x.body) is) ∙ body) k.0
posted_own ss (p ∷ ps) m c e k (inr i) from to body = posted_own ss ps m c e k.1 i from to body

own_move : (w : World) (h : List Line) (m : Move) (lines : List Line) → IsMoment w h → AreOwn w h
    → AreOwn (move w m).world lines
own_move w h m lines k o =
    let known = known_at w h k in
    let act = acts_known (sent_in h) w known.world (sym (sent_read w known.read.injected h known.read.drives)) m.chosen
    m.action in
    record {
      each =
          λ x i c from to e body.
          elim (in_either x (sent_by w) (posted (acts w m.chosen m.action).posts)
          (subst (In x) (messages_behind w m) i)) [
            | inl old ↦ o.each x old c from to e body
            | inr new ↦ posted_own (sent_in h) (acts w m.chosen m.action).posts x c e act.posts new from to body
          ];
    }

pub are_own : OneEventMore → (w : World) (h : List Line) → IsMoment w h → AreOwn w h
are_own further w h k =
    at_moment further AreOwn (record {
      starts = record { each = λ m i c from to e body. absurd i };
      moves = λ v g m l next may o. own_move v g m _ l o;
    }) w h k

-- so what names the grant fits its place
pub name_fits : (c : ℕ) (a : Answer) (ok : LayoutGetOk) → OwnIn c (envelope.Answer a) → layouts_in a.results ≡ Some ok
    → StateIdFits ok.stateid
name_fits c a ok own gives =
    let g : IsGrantOf c ok = own_given c a.results ok gives own in
    subst (λ (y : LayoutGetOk). StateIdFits y.stateid) (sym g.is) (record { seqid = omega arith; other = refl })
