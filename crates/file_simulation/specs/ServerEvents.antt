-- The events of a file in a move of the server, line by line. Each section says of which lines.
use Rattle.std.specs.Prelude.{ℕ, ◌+◌, ◌==◌, ◌&&◌, ◌||◌, not, Bool, true, false, nat_lt, List, [], ◌∷◌, ◌++◌, Option, Some, None, if◌then◌else◌}
use Rattle.osd_lists.specs.declared.node.Node.{Node}
use Rattle.osd_lists.specs.declared.node.Node.TheVariants as node
use Rattle.data_map.specs.declared.check.RawMap.{RawMap}
use Rattle.data_map.specs.Inverse.{stripe_at}
use Rattle.layout_ops.specs.declared.statuses.TheConstants.{NFS4_OK, LAYOUTIOMODE4_RW}
use Rattle.layout_ops.specs.declared.messages.Answer.{Answer}
use Rattle.server_rules.specs.Files.{Step, file_at}
use Rattle.server_rules.specs.Grants.{grant_of}
use Rattle.server_rules.specs.Slots.{Admit, New, slot_of, admit}
use Rattle.server_rules.specs.Messages.{Message, Asks as AsksServer}
use Rattle.server_rules.specs.History.{Input, Hears, Obeys, Opens}
use Rattle.server_rules.specs.Laws.{is_taken_of}
use Rattle.client_rules.specs.Results.{status_of}
use Rattle.client_rules.specs.Answers.{is_loss_taken}
use Rattle.component_law.specs.Tagged.{fence_open}
use Rattle.world_history.specs.ServerNames as server_rules
use Rattle.world_history.specs.ServerNames.{Server, File, Component, ClientRequest, RequestArgs, Get as Gets, Commit as Commits, Return as Returns, Note, NoteKind, Outgoing, Answers, OrderKind, ToRecall, ToRevoke, ToDeclare, ToRebuild, ToAudit}
use Rattle.world_history.specs.State.{World, at_number}
use Rattle.fence_law.specs.State as machine
use Rattle.fence_law.specs.State.{Event as event}
use Rattle.fence_law.specs.State.RequestKind.{Get, Return}
use Rattle.fence_law.specs.Law.{byte_before}
use Rattle.plan_law.specs.FileLayout.{position_in}
use Rattle.plan_law.specs.Standing.{column_stands, standing_byte}
use Rattle.file_simulation.specs.Grants.{covers_column}
use Rattle.file_simulation.specs.Components.{has_failed}
use Rattle.file_simulation.specs.EventLists.{Lines, and_behind, where_so, of_grant, entry_of}

-- ---- fences

-- the step begins a fence of the file: none was open, and one is now, or was over at once
abbrev pub begins_fence : (before after : File) → Bool
begins_fence f g = not (fence_open f.kept) && (fence_open g.kept || not (g.kept.tag == f.kept.tag))

-- then the machine's fence begins
abbrev pub fences : (before after : File) → List machine.Event
fences f g = where_so (begins_fence f g) (event.Fences ∷ [])

-- ---- the `d` line: a new request

-- the answer among what the step sends
unfoldable pub answer_of : List Outgoing → Option Answer
answer_of [] = None
answer_of (Answers a ∷ os) = Some a
answer_of (o ∷ os) = answer_of os

-- it says that all is well
abbrev pub is_ok : Option Answer → Bool
is_ok None = false
is_ok (Some a) = status_of a.results == NFS4_OK

-- a return that the machine knows as its own is clean, or is one of a write that broke off
abbrev pub return_served : machine.State → (c : ℕ) → machine.RequestKind → (before after : File) → List machine.Event
return_served s c (Return true) f g = event.Frees c ∷ []
return_served s c (Return false) f g = fences f g ++ event.Refuses c (Return false) ∷ []
return_served s c (Get rw) f g = []

-- a return on the file; any other is a report that may be taken
abbrev pub returned : machine.State → (c : ℕ) → (waits : Bool) → (before after : File) → List machine.Event
returned s c true f g = return_served s c (s.asked c) f g
returned s c false f g = event.ServesOther c ∷ fences f g

-- a commit of the write that the client is at
abbrev pub committed : machine.State → (c : ℕ) → (ok : Bool) → List machine.Event
committed s c true = of_grant (s.outstanding c) (λ x. event.Commits c (entry_of s c) x ∷ [])
committed s c false = event.RefusesCommit c (entry_of s c) ∷ []

-- by what is asked
abbrev pub served_here : machine.State → (c : ℕ) → RequestArgs → (ok : Bool) → (before after : File)
    → List machine.Event
served_here s c (Gets iomode offset count) ok f g = fences f g
served_here s c (Commits last) ok f g = event.ServesOther c ∷ committed s c ok
served_here s c (Returns report) ok f g = returned s c (s.waiting c) f g

-- a new request
abbrev pub served : machine.State → ClientRequest → (ok : Bool) → (before after : File) → List machine.Event
served s q ok f g =
    if q.file == f.kept.number then served_here s q.client q.args ok f g else event.ServesOther q.client ∷ []

-- one that is carried out
abbrev pub is_new : Admit → Bool
is_new New = true
is_new admitted = false

-- it is of the client that it names, and new
abbrev pub is_served : Server → (c : ℕ) → ClientRequest → Bool
is_served server c q = is_taken_of server c c q && is_new (admit (slot_of server.slots c) q.sequence)

-- what the server hears
abbrev pub heard : machine.State → Server → Step → (before after : File) → Node → Message → List machine.Event
heard s server did f g (node.Client c) (AsksServer q) =
    where_so (is_served server c q) (served s q (is_ok (answer_of did.sends)) f g)
heard s server did f g from m = []

-- ---- the `=` line: an order, or the opening of the server

-- components on a drive are declared, from number k on
unfoldable pub declared_from : (drive : ℕ) → List Component → (k : ℕ) → List machine.Event
declared_from d [] k = []
declared_from d (at ∷ cs) k = where_so (at.drive == d) (event.Declares k ∷ []) ++ declared_from d cs (k + 1)

-- the fence that an order begins is seen by the file; `target` is a drive or a file
abbrev pub ordered : (before after : File) → OrderKind → (target : ℕ) → List machine.Event
ordered f g ToDeclare d = declared_from d f.kept.components 0
ordered f g ToRecall n = []
ordered f g ToRevoke n = where_so (n == f.kept.number) (fences f g)
ordered f g ToRebuild n = where_so (n == f.kept.number) (fences f g)
ordered f g ToAudit n = where_so (n == f.kept.number) (fences f g)

-- the first line of a step; where the server is opened again, it may begin a fence
abbrev pub at_first : machine.State → Server → Step → (before after : File) → Input → List machine.Event
at_first s server did f g (Hears now from m) = heard s server did f g from m
at_first s server did f g (Obeys kind n) = ordered f g kind n
at_first s server did f g Opens = fences f g
at_first s server did f g i = []

-- ---- an `f` line: a component is rebuilt

-- what a rebuild makes of a cell: its word in stripes below `high`, and 0 above
unfoldable pub cells_made : machine.State → RawMap → (high k z : ℕ) → ℕ
cells_made s m high k z =
    if nat_lt (stripe_at m (position_in m k) z) high then s.layout.word k z (byte_before s s.count) else 0

-- on a drive that has failed meanwhile it fails at once
abbrev pub rebuilt : machine.State → World → File → (k drive : ℕ) → List machine.Event
rebuilt s w f k d =
    event.Rebuilds k (cells_made s f.kept.map f.kept.high k)
    ∷ where_so (has_failed (at_number w.drives d)) (event.Fails k ∷ [])

-- ---- an `f` line: a component lacks space

-- one that stands is dropped, one that is lost is declared; a rebuild's target is missing already
abbrev pub lacks_space : (missing lost : Bool) → (k : ℕ) → List machine.Event
lacks_space true lost k = []
lacks_space false true k = event.Declares k ∷ []
lacks_space false false k = event.Drops k ∷ []

-- ---- any `f` line

-- the client whose report is taken, which is that of the request
abbrev pub asker : Input → Option ℕ
asker (Hears now from (AsksServer q)) = Some q.client
asker i = None

-- a component was reported
abbrev pub reported : (k : ℕ) → Option ℕ → List machine.Event
reported k None = []
reported k (Some c) = event.Loses c k ∷ []

-- a note on the file; `f` is the file before the step. A repair that is over counts the columns of which each position has a
-- replica that isn't lost, and leaves the bytes of the first such replicas
abbrev pub noted_here : machine.State → World → File → Input → NoteKind → List machine.Event
noted_here s w f i (server_rules.Fenced tag) = (if s.repairing then event.Refenced else event.Fenced) ∷ []
noted_here s w f i (server_rules.Repaired stripes short) =
    event.Repaired (column_stands f.kept.map s.lost) (standing_byte f.kept.map s.lost s.cell) ∷ []
noted_here s w f i (server_rules.NoSpace k) = lacks_space (s.missing k) (s.lost k) k
noted_here s w f i (server_rules.Reported k) = reported k (asker i)
noted_here s w f i (server_rules.Rebuilt k d) = rebuilt s w f k d
noted_here s w f i kind = []

-- any note
abbrev pub noted : machine.State → World → File → Input → Note → List machine.Event
noted s w f i n = where_so (n.file == f.kept.number) (noted_here s w f i n.kind)

-- ---- the `m` line of the answer to a new request

-- the grant that was given: behind the step it is the client's
abbrev pub granted : (c : ℕ) → (rw : Bool) → RawMap → Option server_rules.Grant → List machine.Event
granted c rw m None = []
granted c rw m (Some x) = event.Grants c x.number rw (covers_column m x.first x.end) x.extending ∷ []

-- the answer to a LAYOUTGET
abbrev pub get_answered : (c : ℕ) → (rw ok : Bool) → File → List machine.Event
get_answered c rw true g = granted c rw g.kept.map (grant_of g.kept.grants c)
get_answered c rw false g = event.Refuses c (Get rw) ∷ []

-- a report is taken: the write is acknowledged, and the client leaves
abbrev pub loss_answered : machine.State → (c : ℕ) → List machine.Event
loss_answered s c = event.Acknowledges c (entry_of s c) ∷ of_grant (s.held c) (λ x. event.Leaves c x ∷ [])

-- by what was asked; `g` is the file behind the step
abbrev pub answered_here : machine.State → (c : ℕ) → RequestArgs → Answer → File → List machine.Event
answered_here s c (Gets iomode offset count) a g =
    get_answered c (iomode == LAYOUTIOMODE4_RW) (status_of a.results == NFS4_OK) g
answered_here s c (Commits last) a g = []
answered_here s c (Returns report) a g = where_so (is_loss_taken a) (loss_answered s c)

-- of a new request on the file
abbrev pub answered : machine.State → Server → File → Answer → (c : ℕ) → ClientRequest → List machine.Event
answered s server g a c q =
    where_so (is_served server c q && (q.file == g.kept.number)) (answered_here s c q.args a g)

-- if the step is on a client's request
abbrev pub answered_to : machine.State → Server → File → Answer → Input → List machine.Event
answered_to s server g a (Hears now (node.Client c) (AsksServer q)) = answered s server g a c q
answered_to s server g a i = []

-- a message that the step sends: commands, recalls and other answers have no event
abbrev pub sent : machine.State → Server → File → Input → Outgoing → List machine.Event
sent s server g i (Answers a) = answered_to s server g a i
sent s server g i o = []

-- ---- a step of the server

-- each message
unfoldable pub sends_all : machine.State → Server → File → Input → List Outgoing → Lines
sends_all s server g i [] = []
sends_all s server g i (o ∷ os) = and_behind s (sent s server g i o) (λ t. sends_all t server g i os)

-- the lines behind the first: each note, and then each message
unfoldable pub notes_all : machine.State → World → (before after : File) → Input → List Outgoing → List Note → Lines
notes_all s w f g i os [] = sends_all s w.server g i os
notes_all s w f g i os (n ∷ ns) = and_behind s (noted s w f i n) (λ t. notes_all t w f g i os ns)

-- the lines of a step, if the file was there before it
abbrev pub server_goes : machine.State → World → Step → Input → (before after : Option File) → Lines
server_goes s w did i (Some f) (Some g) =
    and_behind s (at_first s w.server did f g i) (λ t. notes_all t w f g i did.sends did.notes)
server_goes s w did i f g = []

-- what comes to the server, and what it did
abbrev pub server_events : machine.State → World → (file : ℕ) → Option Input → Option Step → Lines
server_events s w file (Some i) (Some did) =
    server_goes s w did i (file_at w.server.files file) (file_at did.state.files file)
server_events s w file i did = []
