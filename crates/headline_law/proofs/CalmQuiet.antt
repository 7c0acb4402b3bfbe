-- The first line of a step of the server, and the lines of its messages, have no event that ends calm.
use Rattle.std.proofs.Common.{◌==◌, ◌&&◌, ℕ, Bool, true, false, List, [], ◌∷◌, Option, Some, None}
use Rattle.osd_lists.specs.declared.node.Node.{Node}
use Rattle.osd_lists.specs.declared.node.Node.TheVariants as node
use Rattle.data_map.specs.declared.check.RawMap.{RawMap}
use Rattle.layout_ops.specs.declared.messages.Answer.{Answer}
use Rattle.layout_ops.specs.declared.statuses.TheConstants.{NFS4_OK, LAYOUTIOMODE4_RW}
use Rattle.client_rules.specs.Answers.{is_loss_taken}
use Rattle.client_rules.specs.Results.{status_of}
use Rattle.server_rules.specs.Grants.{grant_of}
use Rattle.server_rules.specs.History.{Input, Hears, Makes, Obeys, Adds, Zones, Formats, Resends, Crashes, Opens}
use Rattle.server_rules.specs.Messages.{Message, Asks, Replies, Orders}
use Rattle.world_history.specs.ServerNames as kinds
use Rattle.world_history.specs.ServerNames.{Server, File, ClientRequest, RequestArgs, Get as Gets, Commit as Commits, Return as Returns, Outgoing, Answers, ToDrive, Recalls, AnswersOrder}
use Rattle.fence_law.specs.Machine.{after_all}
use Rattle.fence_law.specs.State as machine
use Rattle.fence_law.specs.State.{State, Event}
use Rattle.file_simulation.specs.EventLists.{where_so, of_grant}
use Rattle.file_simulation.specs.ServerEvents as table
use Rattle.file_simulation.specs.ServerEvents.{sends_all}
use Rattle.relation_law.specs.Frames.{AreAll, LinesAre}
use Rattle.headline_law.proofs.CalmSteps.{IsQuietly}

abbrev So : List Event → Type 0
So es = AreAll IsQuietly es

abbrev ok : Unit {0} × Unit {0} × Unit {0} × Unit {0}
ok = (tt, tt, tt, tt)

where_quiet : (b : Bool) (es : List Event) → So es → So (where_so b es)
where_quiet true es a = a
where_quiet false es a = tt

granted_quiet : (o : Option machine.Grant) (does : machine.Grant → List Event) → ((g : machine.Grant) → So (does g)) →
    So (of_grant o does)
granted_quiet None does a = tt
granted_quiet (Some g) does a = a g

-- ---- messages

module _ (s : State) (server : Server) (g : File) where
  given_quiet : (c : ℕ) (wide : Bool) (m : RawMap) (o : Option kinds.Grant) → So (table.granted c wide m o)
  given_quiet c wide m None = tt
  given_quiet c wide m (Some x) = (ok, tt)

  get_quiet : (c : ℕ) (wide well : Bool) → So (table.get_answered c wide well g)
  get_quiet c wide true = given_quiet c wide g.kept.map (grant_of g.kept.grants c)
  get_quiet c wide false = (ok, tt)

  loss_quiet : (c : ℕ) → So (table.loss_answered s c)
  loss_quiet c = (ok, granted_quiet (s.held c) _ (λ x. (ok, tt)))

  here_quiet : (c : ℕ) (args : RequestArgs) (a : Answer) → So (table.answered_here s c args a g)
  here_quiet c (Gets iomode offset count) a =
      get_quiet c (iomode == LAYOUTIOMODE4_RW) (status_of a.results == NFS4_OK)
  here_quiet c (Commits last) a = tt
  here_quiet c (Returns report) a = where_quiet (is_loss_taken a) (table.loss_answered s c) (loss_quiet c)

  answered_quiet : (a : Answer) (c : ℕ) (q : ClientRequest) → So (table.answered s server g a c q)
  answered_quiet a c q = where_quiet (table.is_served server c q && (q.file == g.kept.number)) _ (here_quiet c q.args a)

  heard_quiet : (a : Answer) (now : ℕ) (from : Node) (x : Message) → So (table.answered_to s server g a (Hears now from x))
  heard_quiet a now (node.Client c) (Asks q) = answered_quiet a c q
  heard_quiet a now (node.Client c) (Replies r) = tt
  heard_quiet a now (node.Client c) (Orders o) = tt
  heard_quiet a now (node.Drive d) x = tt
  heard_quiet a now node.Server x = tt

  to_quiet : (a : Answer) (i : Input) → So (table.answered_to s server g a i)
  to_quiet a (Hears now from x) = heard_quiet a now from x
  to_quiet a (Makes n m tag zoned) = tt
  to_quiet a (Obeys kind n) = tt
  to_quiet a (Adds d) = tt
  to_quiet a (Zones d zone) = tt
  to_quiet a (Formats n) = tt
  to_quiet a Resends = tt
  to_quiet a Crashes = tt
  to_quiet a Opens = tt

  sent_quiet : (i : Input) (o : Outgoing) → So (table.sent s server g i o)
  sent_quiet i (Answers a) = to_quiet a i
  sent_quiet i (ToDrive d c) = tt
  sent_quiet i (Recalls r) = tt
  sent_quiet i (AnswersOrder a) = tt

pub sends_quiet : (server : Server) (g : File) (i : Input) (os : List Outgoing) (t : State) →
    LinesAre IsQuietly (sends_all t server g i os)
unfolding sends_all
sends_quiet server g i [] t = tt
sends_quiet server g i (o ∷ os) t = (
  sent_quiet t server g i o,
  sends_quiet server g i os (after_all t (table.sent t server g i o)),
)
