-- A step of the server that carries out no new request leaves what the machine has of clients.
-- Towards `CallsGoOn` (`relation_law/specs/Steps.antt`).
use Rattle.std.proofs.Common.{◌≡◌, ◌==◌, ◌+◌, ◌&&◌, ℕ, Bool, false, List, [], ◌∷◌, Some, sym, subst, ◌∙◌}
use Rattle.osd_lists.specs.declared.node.Node.{Node}
use Rattle.osd_lists.specs.declared.node.Node.TheVariants as node
use Rattle.layout_ops.specs.declared.messages.Answer.{Answer}
use Rattle.server_rules.specs.Files.{Step}
use Rattle.server_rules.specs.History.{Input, Hears, Makes, Obeys, Adds, Zones, Formats, Resends, Crashes, Opens}
use Rattle.server_rules.specs.Messages.{Message, Asks as AsksServer, Replies as RepliesServer, Orders as OrdersServer}
use Rattle.world_history.specs.ServerNames.{Server, File, Component, Note, Outgoing, ToDrive, Recalls, Answers, AnswersOrder, OrderKind, ToRecall, ToRevoke, ToDeclare, ToRebuild, ToAudit}
use Rattle.world_history.specs.State.{World}
use Rattle.fence_law.specs.State.{State, Event}
use Rattle.fence_law.specs.Machine.{after_all}
use Rattle.file_simulation.specs.EventLists.{where_so}
use Rattle.file_simulation.specs.ServerEvents as table
use Rattle.relation_law.specs.Frames.{AreAll, LinesAre}
use Rattle.relation_law.specs.RequestsGoing.{is_served_in}
use Rattle.relation_law.proofs.FramesClient.{where_all}
use Rattle.relation_law.proofs.FramesStay.{all_more}
use Rattle.relation_law.proofs.RequestsLines.{served_at}
use Rattle.relation_law.proofs.AskedEvents.{IsQuiet, fences_quiet, noted_quiet}

abbrev Quiet : List Event → Type 0
Quiet = AreAll IsQuiet

-- ---- what an order does

declared_quiet : (d : ℕ) (cs : List Component) (k : ℕ) → Quiet (table.declared_from d cs k)
unfolding table.declared_from
declared_quiet d [] k = tt
declared_quiet d (at ∷ cs) k =
    all_more IsQuiet _ (table.declared_from d cs (k + 1)) (where_all IsQuiet (at.drive == d) _ (tt, tt))
    (declared_quiet d cs (k + 1))

ordered_quiet : (f g : File) (kind : OrderKind) (n : ℕ) → Quiet (table.ordered f g kind n)
ordered_quiet f g ToDeclare d = declared_quiet d f.kept.components 0
ordered_quiet f g ToRecall n = tt
ordered_quiet f g ToRevoke n = where_all IsQuiet (n == f.kept.number) _ (fences_quiet f g)
ordered_quiet f g ToRebuild n = where_all IsQuiet (n == f.kept.number) _ (fences_quiet f g)
ordered_quiet f g ToAudit n = where_all IsQuiet (n == f.kept.number) _ (fences_quiet f g)

-- ---- the first line

heard_quiet : (s : State) (server : Server) (did : Step) (f g : File) (from : Node) (m : Message) →
    is_served_in server (Hears 0 from m) ≡ false → Quiet (table.heard s server did f g from m)
heard_quiet s server did f g (node.Client c) (AsksServer q) no_ =
    subst (λ (b : Bool). Quiet (where_so b (table.served s q (table.is_ok (table.answer_of did.sends)) f g))) (sym no_) tt
heard_quiet s server did f g (node.Client c) (RepliesServer r) no_ = tt
heard_quiet s server did f g (node.Client c) (OrdersServer o) no_ = tt
heard_quiet s server did f g node.Server m no_ = tt
heard_quiet s server did f g (node.Drive d) m no_ = tt

first_quiet : (s : State) (server : Server) (did : Step) (f g : File) (i : Input) → is_served_in server i ≡ false →
    Quiet (table.at_first s server did f g i)
first_quiet s server did f g (Hears now from m) no_ =
    heard_quiet s server did f g from m (served_at server now from m ∙ no_)
first_quiet s server did f g (Obeys kind n) no_ = ordered_quiet f g kind n
first_quiet s server did f g Opens no_ = fences_quiet f g
first_quiet s server did f g (Makes n m tag zoned) no_ = tt
first_quiet s server did f g (Adds d) no_ = tt
first_quiet s server did f g (Zones d zone) no_ = tt
first_quiet s server did f g (Formats n) no_ = tt
first_quiet s server did f g Resends no_ = tt
first_quiet s server did f g Crashes no_ = tt

-- ---- messages

answered_quiet : (s : State) (server : Server) (g : File) (a : Answer) (i : Input) → is_served_in server i ≡ false →
    Quiet (table.answered_to s server g a i)
answered_quiet s server g a (Hears now (node.Client c) (AsksServer q)) no_ =
    subst (λ (b : Bool). Quiet (where_so (b && (q.file == g.kept.number)) (table.answered_here s c q.args a g))) (sym no_) tt
answered_quiet s server g a (Hears now (node.Client c) (RepliesServer r)) no_ = tt
answered_quiet s server g a (Hears now (node.Client c) (OrdersServer o)) no_ = tt
answered_quiet s server g a (Hears now node.Server m) no_ = tt
answered_quiet s server g a (Hears now (node.Drive d) m) no_ = tt
answered_quiet s server g a (Obeys kind n) no_ = tt
answered_quiet s server g a Opens no_ = tt
answered_quiet s server g a (Makes n m tag zoned) no_ = tt
answered_quiet s server g a (Adds d) no_ = tt
answered_quiet s server g a (Zones d zone) no_ = tt
answered_quiet s server g a (Formats n) no_ = tt
answered_quiet s server g a Resends no_ = tt
answered_quiet s server g a Crashes no_ = tt

sent_quiet : (s : State) (server : Server) (g : File) (i : Input) (o : Outgoing) → is_served_in server i ≡ false →
    Quiet (table.sent s server g i o)
sent_quiet s server g i (Answers a) no_ = answered_quiet s server g a i no_
sent_quiet s server g i (ToDrive d c) no_ = tt
sent_quiet s server g i (Recalls r) no_ = tt
sent_quiet s server g i (AnswersOrder a) no_ = tt

sends_quiet : (s : State) (server : Server) (g : File) (i : Input) (os : List Outgoing) → is_served_in server i ≡ false →
    LinesAre IsQuiet (table.sends_all s server g i os)
unfolding table.sends_all
sends_quiet s server g i [] no_ = tt
sends_quiet s server g i (o ∷ os) no_ =
    (sent_quiet s server g i o no_, sends_quiet (after_all s (table.sent s server g i o)) server g i os no_)

notes_quiet : (s : State) (w : World) (f g : File) (i : Input) (os : List Outgoing) (ns : List Note) →
    is_served_in w.server i ≡ false → LinesAre IsQuiet (table.notes_all s w f g i os ns)
unfolding table.notes_all
notes_quiet s w f g i os [] no_ = sends_quiet s w.server g i os no_
notes_quiet s w f g i os (n ∷ ns) no_ =
    (noted_quiet s w f i n, notes_quiet (after_all s (table.noted s w f i n)) w f g i os ns no_)

-- All events of such a step leave each client.
pub server_quiet : (s : State) (w : World) (did : Step) (i : Input) (f g : File) → is_served_in w.server i ≡ false →
    LinesAre IsQuiet (table.server_goes s w did i (Some f) (Some g))
server_quiet s w did i f g no_ = (
  first_quiet s w.server did f g i no_,
  notes_quiet (after_all s (table.at_first s w.server did f g i)) w f g i did.sends did.notes no_,
)
