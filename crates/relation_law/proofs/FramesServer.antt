-- All events of a step of the server are of the server, and those of a client are of the client whose request it is on.
use Rattle.std.proofs.Common.{◌≡◌, ℕ, Bool, true, false, List, [], ◌∷◌, Option, Some, None, refl, ap}
use Rattle.std.specs.Prelude.{◌+◌, ◌==◌, ◌&&◌, nat_le, if◌then◌else◌}
use Rattle.std.proofs.lemmas.Bool.{eqb-true, and_parts}
use Rattle.osd_lists.specs.declared.node.Node.{Node}
use Rattle.osd_lists.specs.declared.node.Node.TheVariants as node
use Rattle.data_map.specs.declared.check.RawMap.{RawMap}
use Rattle.layout_ops.specs.declared.statuses.TheConstants.{NFS4_OK, LAYOUTIOMODE4_RW}
use Rattle.layout_ops.specs.declared.messages.Answer.{Answer}
use Rattle.server_rules.specs.Files.{Step, file_at}
use Rattle.server_rules.specs.Grants.{grant_of}
use Rattle.server_rules.specs.Slots.{slot_of, admit}
use Rattle.server_rules.specs.declared.limits.TheConstants.{MAX_CLIENT}
use Rattle.server_rules.specs.Messages.{counters_have_room, Message, Asks as AsksServer, Replies as RepliesServer, Orders as OrdersServer}
use Rattle.server_rules.specs.History.{Input, Hears, Makes, Obeys, Adds, Zones, Formats, Resends, Crashes, Opens}
use Rattle.server_rules.specs.Laws.{is_taken_of}
use Rattle.client_rules.specs.Results.{status_of}
use Rattle.client_rules.specs.Answers.{is_loss_taken}
use Rattle.world_history.specs.ServerNames as server_rules
use Rattle.world_history.specs.ServerNames.{Server, File, Component, ClientRequest, RequestArgs, Get as Gets, Commit as Commits, Return as Returns, Note, NoteKind, Outgoing, Answers, OrderKind, ToRecall, ToRevoke, ToDeclare, ToRebuild, ToAudit}
use Rattle.world_history.specs.State.{World, at_number}
use Rattle.fence_law.specs.State.{State, Event, RequestKind}
use Rattle.fence_law.specs.State.RequestKind.{Get, Return}
use Rattle.fence_law.specs.State.Event.{Fences, Fenced, Refenced}
use Rattle.fence_law.specs.Machine.{after_all}
use Rattle.file_simulation.specs.Components.{has_failed}
use Rattle.file_simulation.specs.EventLists.{where_so}
use Rattle.file_simulation.specs.ServerEvents as table
use Rattle.relation_law.specs.Frames.{AreAll, LinesAre, IsOfServer, asker_in}
use Rattle.relation_law.proofs.FramesStay.{all_more}
use Rattle.relation_law.proofs.FramesClient.{where_all, grant_all, either_all}

-- a test that holds, or none
where_if : (P : Event → Type 0) (b : Bool) (es : List Event) → (b ≡ true → AreAll P es) → AreAll P (where_so b es)
where_if P true es each = each refl
where_if P false es each = tt

-- the request is one of the client that it comes from
pub served_client : (server : Server) (c : ℕ) (q : ClientRequest) → table.is_served server c q ≡ true → q.client ≡ c
served_client server c q is =
    let of : is_taken_of server c c q ≡ true =
    (and_parts (is_taken_of server c c q) (table.is_new (admit (slot_of server.slots c) q.sequence)) is).0 in
    let room : (counters_have_room server && ((q.client == c) && nat_le c MAX_CLIENT)) ≡ true =
    (and_parts (c == c) (counters_have_room server && ((q.client == c) && nat_le c MAX_CLIENT)) of).1 in
    let same : ((q.client == c) && nat_le c MAX_CLIENT) ≡ true =
    (and_parts (counters_have_room server) ((q.client == c) && nat_le c MAX_CLIENT) room).1 in
    eqb-true q.client c (and_parts (q.client == c) (nat_le c MAX_CLIENT) same).0

module _ (asker : Option ℕ) where
  abbrev Own_all : List Event → Type 0
  Own_all = AreAll (IsOfServer asker)

  -- ---- the first line

  fences : (f g : File) → Own_all (table.fences f g)
  fences f g = where_all (IsOfServer asker) (table.begins_fence f g) (Fences ∷ []) (tt, tt)

  return_served : (s : State) (c : ℕ) → asker ≡ Some c → (k : RequestKind) (f g : File)
      → Own_all (table.return_served s c k f g)
  return_served s c is (Return true) f g = (is, tt)
  return_served s c is (Return false) f g = all_more (IsOfServer asker) (table.fences f g) _ (fences f g) (is, tt)
  return_served s c is (Get rw) f g = tt

  returned : (s : State) (c : ℕ) → asker ≡ Some c → (waits : Bool) (f g : File) → Own_all (table.returned s c waits f g)
  returned s c is true f g = return_served s c is (s.asked c) f g
  returned s c is false f g = (is, fences f g)

  committed : (s : State) (c : ℕ) → asker ≡ Some c → (ok : Bool) → Own_all (table.committed s c ok)
  committed s c is true = grant_all (IsOfServer asker) (s.outstanding c) _ (λ x. (is, tt))
  committed s c is false = (is, tt)

  served_here : (s : State) (c : ℕ) → asker ≡ Some c → (r : RequestArgs) (ok : Bool) (f g : File)
      → Own_all (table.served_here s c r ok f g)
  served_here s c is (Gets iomode offset count) ok f g = fences f g
  served_here s c is (Commits last) ok f g = (is, committed s c is ok)
  served_here s c is (Returns report) ok f g = returned s c is (s.waiting c) f g

  served : (s : State) (q : ClientRequest) → asker ≡ Some q.client → (ok : Bool) (f g : File)
      → Own_all (table.served s q ok f g)
  served s q is ok f g =
      either_all (IsOfServer asker) (q.file == f.kept.number) _ _ (served_here s q.client is q.args ok f g) (is, tt)

  declared : (d : ℕ) (cs : List Component) (k : ℕ) → Own_all (table.declared_from d cs k)
  unfolding table.declared_from
  declared d [] k = tt
  declared d (at ∷ cs) k =
      all_more (IsOfServer asker) _ (table.declared_from d cs (k + 1))
      (where_all (IsOfServer asker) (at.drive == d) _ (tt, tt)) (declared d cs (k + 1))

  ordered : (f g : File) (kind : OrderKind) (n : ℕ) → Own_all (table.ordered f g kind n)
  ordered f g ToDeclare d = declared d f.kept.components 0
  ordered f g ToRecall n = tt
  ordered f g ToRevoke n = where_all (IsOfServer asker) (n == f.kept.number) _ (fences f g)
  ordered f g ToRebuild n = where_all (IsOfServer asker) (n == f.kept.number) _ (fences f g)
  ordered f g ToAudit n = where_all (IsOfServer asker) (n == f.kept.number) _ (fences f g)

  -- ---- notes

  lacks_space : (missing lost : Bool) (k : ℕ) → Own_all (table.lacks_space missing lost k)
  lacks_space true lost k = tt
  lacks_space false true k = (tt, tt)
  lacks_space false false k = (tt, tt)

  reported : (k : ℕ) (o : Option ℕ) → asker ≡ o → Own_all (table.reported k o)
  reported k None is = tt
  reported k (Some c) is = (is, tt)

  fence_over : (s : State) → Own_all ((if s.repairing then Refenced else Fenced) ∷ [])
  fence_over s = either s.repairing
    where
      either : (b : Bool) → Own_all ((if b then Refenced else Fenced) ∷ [])
      either true = (tt, tt)
      either false = (tt, tt)

  noted_here : (s : State) (w : World) (f : File) (i : Input) → asker ≡ table.asker i → (n : NoteKind)
      → Own_all (table.noted_here s w f i n)
  noted_here s w f i is (server_rules.Fenced tag) = fence_over s
  noted_here s w f i is (server_rules.Repaired stripes short) = (tt, tt)
  noted_here s w f i is (server_rules.NoSpace k) = lacks_space (s.missing k) (s.lost k) k
  noted_here s w f i is (server_rules.Reported k) = reported k (table.asker i) is
  noted_here s w f i is (server_rules.Rebuilt k d) =
      (tt, where_all (IsOfServer asker) (has_failed (at_number w.drives d)) _ (tt, tt))
  noted_here s w f i is n = tt

  noted : (s : State) (w : World) (f : File) (i : Input) → asker ≡ table.asker i → (n : Note)
      → Own_all (table.noted s w f i n)
  noted s w f i is n = where_all (IsOfServer asker) (n.file == f.kept.number) _ (noted_here s w f i is n.kind)

  -- ---- answers

  granted : (c : ℕ) → asker ≡ Some c → (rw : Bool) (m : RawMap) (o : Option server_rules.Grant)
      → Own_all (table.granted c rw m o)
  granted c is rw m None = tt
  granted c is rw m (Some x) = (is, tt)

  get_answered : (c : ℕ) → asker ≡ Some c → (rw ok : Bool) (g : File) → Own_all (table.get_answered c rw ok g)
  get_answered c is rw true g = granted c is rw g.kept.map (grant_of g.kept.grants c)
  get_answered c is rw false g = (is, tt)

  loss_answered : (s : State) (c : ℕ) → asker ≡ Some c → Own_all (table.loss_answered s c)
  loss_answered s c is = (is, grant_all (IsOfServer asker) (s.held c) _ (λ x. (is, tt)))

  answered_here : (s : State) (c : ℕ) → asker ≡ Some c → (r : RequestArgs) (a : Answer) (g : File)
      → Own_all (table.answered_here s c r a g)
  answered_here s c is (Gets iomode offset count) a g =
      get_answered c is (iomode == LAYOUTIOMODE4_RW) (status_of a.results == NFS4_OK) g
  answered_here s c is (Commits last) a g = tt
  answered_here s c is (Returns report) a g =
      where_all (IsOfServer asker) (is_loss_taken a) _ (loss_answered s c is)

-- ---- by what comes to the server

heard : (s : State) (server : Server) (did : Step) (f g : File) (now : ℕ) (from : Node) (m : Message)
    → AreAll (IsOfServer (table.asker (Hears now from m))) (table.heard s server did f g from m)
heard s server did f g now (node.Client c) (AsksServer q) =
    where_all (IsOfServer (Some q.client)) (table.is_served server c q) _
    (served (Some q.client) s q refl (table.is_ok (table.answer_of did.sends)) f g)
heard s server did f g now (node.Client c) (RepliesServer r) = tt
heard s server did f g now (node.Client c) (OrdersServer o) = tt
heard s server did f g now node.Server m = tt
heard s server did f g now (node.Drive d) m = tt

pub at_first : (s : State) (server : Server) (did : Step) (f g : File) (i : Input)
    → AreAll (IsOfServer (table.asker i)) (table.at_first s server did f g i)
at_first s server did f g (Hears now from m) = heard s server did f g now from m
at_first s server did f g (Obeys kind n) = ordered None f g kind n
at_first s server did f g Opens = fences None f g
at_first s server did f g (Makes n m tag zoned) = tt
at_first s server did f g (Adds d) = tt
at_first s server did f g (Zones d zone) = tt
at_first s server did f g (Formats n) = tt
at_first s server did f g Resends = tt
at_first s server did f g Crashes = tt

answered_to : (s : State) (server : Server) (g : File) (a : Answer) (i : Input)
    → AreAll (IsOfServer (table.asker i)) (table.answered_to s server g a i)
answered_to s server g a (Hears now (node.Client c) (AsksServer q)) =
    where_if (IsOfServer (Some q.client)) (table.is_served server c q && (q.file == g.kept.number)) _
    (λ is. answered_here (Some q.client) s c
    (ap Some (served_client server c q (and_parts (table.is_served server c q) (q.file == g.kept.number) is).0)) q.args a g)
answered_to s server g a (Hears now (node.Client c) (RepliesServer r)) = tt
answered_to s server g a (Hears now (node.Client c) (OrdersServer o)) = tt
answered_to s server g a (Hears now node.Server m) = tt
answered_to s server g a (Hears now (node.Drive d) m) = tt
answered_to s server g a (Obeys kind n) = tt
answered_to s server g a Opens = tt
answered_to s server g a (Makes n m tag zoned) = tt
answered_to s server g a (Adds d) = tt
answered_to s server g a (Zones d zone) = tt
answered_to s server g a (Formats n) = tt
answered_to s server g a Resends = tt
answered_to s server g a Crashes = tt

pub sent : (s : State) (server : Server) (g : File) (i : Input) (o : Outgoing)
    → AreAll (IsOfServer (table.asker i)) (table.sent s server g i o)
sent s server g i (Answers a) = answered_to s server g a i
sent s server g i o = tt

pub sent_all : (s : State) (server : Server) (g : File) (i : Input) (os : List Outgoing)
    → LinesAre (IsOfServer (table.asker i)) (table.sends_all s server g i os)
unfolding table.sends_all
sent_all s server g i [] = tt
sent_all s server g i (o ∷ os) = (sent s server g i o, sent_all (after_all s (table.sent s server g i o)) server g i os)

pub noted_all : (s : State) (w : World) (f g : File) (i : Input) (os : List Outgoing) (ns : List Note)
    → LinesAre (IsOfServer (table.asker i)) (table.notes_all s w f g i os ns)
unfolding table.notes_all
noted_all s w f g i os [] = sent_all s w.server g i os
noted_all s w f g i os (n ∷ ns) =
    (noted (table.asker i) s w f i refl n, noted_all (after_all s (table.noted s w f i n)) w f g i os ns)

server_goes : (s : State) (w : World) (did : Step) (i : Input) (o p : Option File)
    → LinesAre (IsOfServer (table.asker i)) (table.server_goes s w did i o p)
server_goes s w did i (Some f) (Some g) = (
  at_first s w.server did f g i,
  noted_all (after_all s (table.at_first s w.server did f g i)) w f g i did.sends did.notes,
)
server_goes s w did i (Some f) None = tt
server_goes s w did i None p = tt

-- All events of a step of the server are of the server, on the request of who asks.
pub server_lines : (s : State) (w : World) (file : ℕ) (i : Option Input) (did : Option Step)
    → LinesAre (IsOfServer (asker_in i)) (table.server_events s w file i did)
server_lines s w file (Some i) (Some did) =
    server_goes s w did i (file_at w.server.files file) (file_at did.state.files file)
server_lines s w file (Some i) None = tt
server_lines s w file None did = tt
