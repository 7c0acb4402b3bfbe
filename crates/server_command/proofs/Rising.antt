-- The count of settle and accept never falls while files are made and connections served.
use Rattle.std.proofs.Common.{◌≡◌, ◌≤◌, ℕ, zero, suc, Bool, true, false, List, [], ◌∷◌, Option, Some, None, Err, ap, arith, inl, inr}
use Rattle.osd_bytes.specs.Causes.{Rose}
use Rattle.osd_bytes.specs.Connections.{Traffic}
use Rattle.osd_bytes.specs.Counts.{Faults, asking_count}
use Rattle.osd_bytes.specs.Exchanges.{HasExchangeCause}
use Rattle.osd_bytes.specs.declared.exchanges.ExchangeErr.{ExchangeErr}
use Rattle.osd_bytes.specs.declared.exchanges.ExchangeErr.TheVariants.{LinkFault, Ended, TooLong, Memory}
use Rattle.osd_lists.specs.declared.node.Node.{Node}
use Rattle.osd_lists.specs.declared.node.Node.TheVariants.{Server as TheServer, Drive, Client}
use Rattle.osd_bytes.specs.Asking.{Answered, Ends}
use Rattle.osd_bytes.specs.Inboxes.{HasPutCause}
use Rattle.cluster_text.specs.declared.cluster.ClusterFile.{ClusterFile}
use Rattle.server_rules.specs.declared.server.Server.{Server}
use Rattle.server_requests.specs.declared.outgoing.Sent.{Sent}
use Rattle.server_command.specs.Messages.{AsksDrive, Hears, InTurn, PutsIf, Rounds, ServesRecord, Serving, UntilNone, Works, WorksTo, sender_of}
use Rattle.server_command.specs.Connections.{IsRefused, ServesAll, ServesConnection, ServesPieces, ServesStream, begins}
use Rattle.server_command.specs.Files.{Makes, MakesFile, MakesFiles, MakesTo}
use Rattle.server_command.specs.Steps.{ServerStep}

-- ---- one exchange, one answer

caused : (e : ExchangeErr) (count : Faults → ℕ) (before now : Faults) → HasExchangeCause count before now (Err e) →
    before.listening ≤ now.listening
caused LinkFault count before now h = h.0.listening
caused Ended count before now h = omega (arith, ap (λ (f : Faults). f.listening) h)
caused TooLong count before now h = omega (arith, ap (λ (f : Faults). f.listening) h)
caused Memory count before now h = omega (arith, ap (λ (f : Faults). f.listening) h)

answered : (to : Node) (message : List ℕ) (told_before told : Option Traffic) (before now : Faults) (came : Option (List ℕ))
    → Answered to message told_before told before now came → before.listening ≤ now.listening
answered to message told_before told before now (Some bytes) h = omega (arith, ap (λ (f : Faults). f.listening) h.1)
answered to message told_before told before now None (inl h) = caused h.0 (asking_count (Some to)) before now h.3
answered to message told_before told before now None (inr h) = omega (arith, ap (λ (f : Faults). f.listening) h.2)

-- the count didn't fall
abbrev pub NoFewer : Ends → Ends → Type 0
NoFewer a b = a.faults.listening ≤ b.faults.listening

same_ends : (s t : Serving) → t ≡ s → NoFewer s.ends t.ends
same_ends s t e = omega (arith, ap (λ (x : Serving). x.ends.faults.listening) e)

hears : (drive : ℕ) (came : Option (List ℕ)) (s t : Serving) → Hears drive came s t → NoFewer s.ends t.ends
hears drive None s t e = same_ends s t e
hears drive (Some bytes) s t h = omega (arith, ap (λ (f : Faults). f.listening) h.faults)

asks : (drive : ℕ) (message : List ℕ) (s t : Serving) → AsksDrive drive message s t → NoFewer s.ends t.ends
asks drive message s t a =
    let first = answered (Drive drive) message s.ends.told (a.between).told s.ends.faults (a.between).faults a.came a.answered in
    let rest = hears drive a.came (record s { ends = a.between }) t a.hears in
    omega (arith, first, rest)

put_cause : (whole : Bool) (message : List ℕ) (before now : Faults) → HasPutCause whole message before now →
    before.listening ≤ now.listening
put_cause true message before now e = omega (arith, ap (λ (f : Faults). f.listening) e)
put_cause false message before now h = h.0.listening

puts : (meant : Bool) (message : List ℕ) (s t : Serving) → PutsIf meant message s t → NoFewer s.ends t.ends
puts true message s t p = put_cause t.stands message s.ends.faults t.ends.faults p.cause
puts false message s t e = same_ends s t e

-- ---- one after the other

turn : {A : Type 0} (R : A → Serving → Serving → Type 0) → ((x : A) (s t : Serving) → R x s t → NoFewer s.ends t.ends)
    → (xs : List A) (s t : Serving) → InTurn R xs s t → NoFewer s.ends t.ends
turn R each [] s t e = same_ends s t e
turn R each (x ∷ xs) s t h = omega (arith, each x s h.0 h.1, turn R each xs h.0 t h.2)

rounds : (R : Sent → Serving → Serving → Type 0) → ((m : Sent) (s t : Serving) → R m s t → NoFewer s.ends t.ends)
    → (n : ℕ) (s t : Serving) → Rounds R n s t → NoFewer s.ends t.ends
rounds R each zero s t e = same_ends s t e
rounds R each (suc n) s t h =
    omega (arith, rounds R each n s h.0 h.1, turn R each (h.0).waiting (record (h.0) { waiting = [] }) t h.2)

-- ---- files

makes_to : (to : Node) (message : List ℕ) (s t : Serving) → MakesTo to message s t → NoFewer s.ends t.ends
makes_to (Drive d) message s t h = asks d message s t h.0
makes_to TheServer message s t e = same_ends s t e
makes_to (Client c) message s t e = same_ends s t e

makes_file : (file : ClusterFile) (s t : Serving) → MakesFile file s t → NoFewer s.ends t.ends
makes_file file s t h =
    let rest = rounds Makes (λ m u v. makes_to m.to m.bytes u v) (h.2).0 h.0 t (h.2).1 in
    omega (arith, ap (λ (x : Serving). x.ends.faults.listening) (h.1).begun, rest)

pub makes_files : (files : List ClusterFile) (s t : Serving) → MakesFiles files s t → NoFewer s.ends t.ends
makes_files files s t h = turn MakesFile makes_file files s t h

-- ---- connections

works_to : (to : Node) (sender : Option Node) (message : List ℕ) (s t : Serving) → WorksTo to sender message s t →
    NoFewer s.ends t.ends
works_to (Drive d) sender message s t h = asks d message s t h
works_to TheServer sender message s t h = puts _ message s t h
works_to (Client c) sender message s t h = puts _ message s t h

works : (sender : Option Node) (s t : Serving) → UntilNone (Works sender) s t → NoFewer s.ends t.ends
works sender s t h = rounds (Works sender) (λ m u v. works_to m.to sender m.bytes u v) h.0 s t h.1

record_served : (message : List ℕ) (s t : Serving) → ServesRecord message s t → NoFewer s.ends t.ends
record_served message s t h =
    omega (arith, ap (λ (f : Faults). f.listening) (h.1).faults, works (Some (sender_of message)) h.0 t h.2)

pieces : (n : ℕ) (taken : List ℕ) (records : List (List ℕ)) (s t : Serving) → ServesPieces n taken records s t →
    NoFewer s.ends t.ends
pieces zero taken records s t h = same_ends s t h.2
pieces (suc n) taken records s t h =
    let first = pieces n h.0 h.2 s h.4 h.6 in
    let rest = turn ServesRecord record_served h.3 (record (h.4) { ends = h.5 }) t h.8 in
    omega (arith, first, (h.7).faults.listening, rest)

connection : (old new : Server) (had has : List ServerStep) (before now : Ends) → ServesConnection old new had has before now
    → NoFewer before now
connection old new had has before now h =
    let first = works None (begins old had before) h.0 h.1 in
    let stream : ServesStream h.0 new has now = h.2 in
    let rest = pieces stream.pieces stream.taken _ h.0 stream.last stream.served in
    omega (arith, first, rest, stream.ends.faults.listening)

serves_all : (count : ℕ) (old new : Server) (had has : List ServerStep) (before now : Ends)
    → ServesAll count old new had has before now → NoFewer before now
serves_all zero old new had has before now h = omega (arith, ap (λ (e : Ends). e.faults.listening) h.1)
serves_all (suc n) old new had has before now h =
    let first = serves_all n old h.0 had h.2 before h.1 h.3 in
    let rest = connection h.0 new h.2 has h.4 now h.6 in
    omega (arith, first, ap (λ (f : Faults). f.listening) (h.5).faults, rest)

pub rises : (count : ℕ) (old new : Server) (had has : List ServerStep) (first before now : Ends) → NoFewer first before
    → IsRefused count old new had has before now → Rose first.faults.listening now.faults.listening
rises count old new had has first before now more h =
    omega (arith, more, serves_all h.0 old new had has before h.2 h.3, (h.4).rose)
