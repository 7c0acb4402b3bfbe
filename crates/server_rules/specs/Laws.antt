-- What holds of the state after each step.
use Rattle.std.specs.Prelude.{ℕ, Bool, true, false, List, [], ◌∷◌, ◌++◌, Option, Some, None, ◌≡◌, ◌+◌, ◌≤◌, ◌<◌, ◌==◌, ◌&&◌, ◌⊎◌, nat_le, if◌then◌else◌}
use Rattle.osd_lists.specs.declared.node.Node.{Node}
use Rattle.osd_lists.specs.declared.node.Node.TheVariants.{Client as FromClient}
use Rattle.data_map.specs.Striping.{stripe_length}
use Rattle.data_map.specs.Ranges.{HoldRange}
use Rattle.server_rules.specs.declared.limits.TheConstants.{MAX_CLIENT}
use Rattle.server_rules.specs.State.{Server, Slot, File, Kept, Drive, Job, Awaited, Grant, ClientRequest, Answer, OrderKind, ToDeclare, Outgoing, Answers}
use Rattle.server_rules.specs.Grants.{conflicts, asked}
use Rattle.server_rules.specs.Going.{Going}
use Rattle.server_rules.specs.Slots.{Admit, New, Again, Misordered, slot_of, admit, keep}
use Rattle.server_rules.specs.Files.{file_at, put_file}
use Rattle.server_rules.specs.Requests.{only_answers, on_request}
use Rattle.server_rules.specs.Messages.{Message, Asks, Orders, counters_have_room}
use Rattle.server_rules.specs.Making.{new_server}
use Rattle.server_rules.specs.History.{Input, Hears, Obeys, Crashes, Opens, Act, step, state_after}

-- x is one of these
abbrev pub In : {A : Type 0} → A → List A → Type 0
In x [] = ⊥
In x (y ∷ ys) = (x ≡ y) ⊎ In x ys

-- ---- grants

-- grants that can be live beside each other: none is extending, and where they share a stripe both are for reading
pub record AreCompatible (a b : Grant) : Type 0 where
  pub bounded : (a.extending ≡ false) × (b.extending ≡ false)
  pub reading : (s : ℕ) → a.first ≤ s → s < a.end → b.first ≤ s → s < b.end → (a.rw ≡ false) × (b.rw ≡ false)

-- grants of different clients don't conflict exactly where that holds of them
abbrev pub ConflictsAreExact : Type 0
ConflictsAreExact =
    (a b : Grant) → (a.client ≡ b.client → ⊥) → (conflicts a b ≡ false → AreCompatible a b) ×
    (AreCompatible a b → conflicts a b ≡ false)

-- the stripes of the grant that a LAYOUTGET asks for hold each byte that it asks
abbrev pub AskedGrantsHoldTheirBytes : Type 0
AskedGrantsHoldTheirBytes =
    (f : Kept) (number client now offset count : ℕ) (rw : Bool) → 0 < stripe_length f.map →
    HoldRange f.map offset count (asked f number client now offset count rw).first
    (asked f number client now offset count rw).end

-- ---- a file

-- a job that rests awaits something
abbrev pub Rests : Option Job → Type 0
Rests None = Unit {0}
Rests (Some j) = (c : Awaited) × (cs : List Awaited) × (j.awaited ≡ c ∷ cs)

-- no two grants conflict, and a client has at most one
abbrev pub Apart : List Grant → Type 0
Apart gs = (a b : Grant) → In a gs → In b gs → (conflicts a b ≡ false) × (a.client ≡ b.client → a ≡ b)

-- no grant is live while a job runs
abbrev pub NoneBeside : Option Job → List Grant → Type 0
NoneBeside None gs = Unit {0}
NoneBeside (Some j) gs = gs ≡ []

-- all three of a file
abbrev pub IsSafe : File → Type 0
IsSafe f = record { rests : Rests f.job; apart : Apart f.kept.grants; alone : NoneBeside f.job f.kept.grants }

-- all of that holds of each file
abbrev pub AreSafe : List File → Type 0
AreSafe [] = Unit {0}
AreSafe (f ∷ fs) = IsSafe f × AreSafe fs

-- what the job machine leaves of a file, and that its job rests
abbrev pub Ran : Kept → Going → Type 0
Ran k g = record {
  number : g.file.kept.number ≡ k.number;
  map : g.file.kept.map ≡ k.map;
  size : g.file.kept.size ≡ k.size;
  high : g.file.kept.high ≡ k.high;
  grants : g.file.kept.grants ≡ k.grants;
  rests : Rests g.file.job;
}

-- what a request at a file leaves
abbrev pub Leaves : Kept → Going → Type 0
Leaves k g = record { number : g.file.kept.number ≡ k.number; safe : IsSafe g.file }

-- each step keeps the three
abbrev pub EachStepIsSafe : Type 0
EachStepIsSafe = (s : Server) (chosen : List ℕ) (i : Input) → AreSafe s.files → AreSafe (step s chosen i).state.files

-- all of that holds of each file, whatever came to a new server
abbrev pub EveryRunIsSafe : Type 0
EveryRunIsSafe = (ds : List Drive) (acts : List Act) → AreSafe (state_after (new_server ds) acts).files

-- ---- one file at most

-- no other file than number m changes
abbrev pub OthersStay : (m : ℕ) → List File → List File → Type 0
OthersStay m fs gs = (n : ℕ) → (m == n) ≡ false → file_at gs n ≡ file_at fs n

-- an order that takes a drive out
abbrev pub declares_one : OrderKind → Bool
declares_one ToDeclare = true
declares_one kind = false

-- a message with that order
abbrev pub tells_to_declare : Message → Bool
tells_to_declare (Orders o) = declares_one o.order
tells_to_declare m = false

-- an input that goes through all files: a drive is declared, the server crashes, or it is opened
abbrev pub goes_through_all : Input → Bool
goes_through_all (Hears now from m) = tells_to_declare m
goes_through_all (Obeys kind n) = declares_one kind
goes_through_all Crashes = true
goes_through_all Opens = true
goes_through_all i = false

-- any other step changes one file at most
abbrev pub EachStepChangesOneFile : Type 0
EachStepChangesOneFile =
    (s : Server) (chosen : List ℕ) (i : Input) → AreSafe s.files → goes_through_all i ≡ false → (m : ℕ) ×
    OthersStay m s.files (step s chosen i).state.files

-- ---- requests

-- the last sequence number of a slot, 0 before the first
abbrev pub last_of : Option Slot → ℕ
last_of None = 0
last_of (Some t) = t.last

-- the sequence number of a request that is new
abbrev pub where_new : Admit → (sequence : ℕ) → List ℕ
where_new New n = n ∷ []
where_new (Again kept) n = []
where_new (Misordered expected) n = []

-- the message is taken as a request of that client
abbrev pub is_taken_of : Server → (client from : ℕ) → ClientRequest → Bool
is_taken_of s client from q = (from == client) && (counters_have_room s && ((q.client == from) && nat_le from MAX_CLIENT))

-- the sequence number of the client's request that is carried out for this message, if any
abbrev pub carried_for : Server → (client : ℕ) → Node → Message → List ℕ
carried_for s client (FromClient c) (Asks q) =
    if is_taken_of s client c q then where_new (admit (slot_of s.slots client) q.sequence) q.sequence else []
carried_for s client from m = []

-- the client's requests that an input has carried out
abbrev pub carried_by : Server → (client : ℕ) → Input → List ℕ
carried_by s client (Hears now from m) = carried_for s client from m
carried_by s client i = []

-- the client's requests that are carried out over inputs that come one after another
unfoldable pub carried : Server → (client : ℕ) → List Act → List ℕ
carried s client [] = []
carried s client (a ∷ acts) = carried_by s client a.input ++ carried (step s a.chosen a.input).state client acts

-- the first is behind n, and each further one behind its former
abbrev pub CountOnFrom : (n : ℕ) → List ℕ → Type 0
CountOnFrom n [] = Unit {0}
CountOnFrom n (m ∷ ms) = (m ≡ n + 1) × CountOnFrom m ms

-- whatever comes, a client's requests are carried out by the order of their numbers, each once, and none is left out
abbrev pub RequestsAreCarriedOutInOrder : Type 0
RequestsAreCarriedOutInOrder =
    (s : Server) (client : ℕ) (acts : List Act) → CountOnFrom (last_of (slot_of s.slots client)) (carried s client acts)

-- a request that isn't carried out changes nothing
abbrev pub OtherRequestsChangeNothing : Type 0
OtherRequestsChangeNothing =
    (s : Server) (now client : ℕ) (chosen : List ℕ) (q : ClientRequest) →
    carried_by s client (Hears now (FromClient client) (Asks q)) ≡ [] →
    (step s chosen (Hears now (FromClient client) (Asks q))).state ≡ s

-- the request, again, is answered as it was, and changes nothing
abbrev pub IsAnsweredAgain : Server → ClientRequest → Answer → Type 0
IsAnsweredAgain s q a = (now : ℕ) (chosen : List ℕ) (r : ClientRequest) → r.client ≡ q.client →
    r.sequence ≡ q.sequence → on_request s now chosen r ≡ only_answers s a

-- a request that is carried out has an answer, its step's last message; and whatever comes behind, until a further
-- request of the client is carried out, its repeat gets that answer and changes nothing
abbrev pub RepeatsAreAnsweredAlike : Type 0
RepeatsAreAnsweredAlike =
    (s : Server) (now : ℕ) (chosen : List ℕ) (q : ClientRequest) → admit (slot_of s.slots q.client) q.sequence ≡ New →
    (a : Answer) × (front : List Outgoing) × ((on_request s now chosen q).sends ≡ front ++ (Answers a ∷ []))
    × ((acts : List Act) → carried (on_request s now chosen q).state q.client acts ≡ [] →
    IsAnsweredAgain (state_after (on_request s now chosen q).state acts) q a)

-- ---- lists with numbers

-- the file that is put back is found again, and every other is as it was
abbrev pub FilesArePut : Type 0
FilesArePut =
    (fs : List File) (n : ℕ) (f g : File) → f.kept.number ≡ n → file_at fs n ≡ Some g →
    (file_at (put_file fs n f) n ≡ Some f) × OthersStay n fs (put_file fs n f)

-- the slot that is kept is found again, and every other is as it was
abbrev pub SlotsAreKept : Type 0
SlotsAreKept =
    (ss : List Slot) (s : Slot) → (slot_of (keep ss s) s.client ≡ Some s) ×
    ((c : ℕ) → (s.client == c) ≡ false → slot_of (keep ss s) c ≡ slot_of ss c)
