-- Commands that make files, one after the other, and where they stop.
use Rattle.std.specs.Prelude.{slice_get}
use Rattle.std.proofs.Common.{◌≡◌, ◌∙◌, ◌<◌, ℕ, zero, suc, true, false, List, [], ◌∷◌, ◌++◌, length, take, drop, Option, Some, None, Ok, refl, ap, subst, inr}
use Rattle.osd_bytes.specs.Connections.{Traffic, after_notes}
use Rattle.osd_bytes.specs.Counts.{Faults}
use Rattle.osd_lists.specs.declared.node.Node.{Node}
use Rattle.osd_lists.specs.declared.node.Node.TheVariants.{Server as TheServer, Drive, Client}
use Rattle.osd_bytes.specs.Asking.{Answered, Ends, ends_of}
use Rattle.cluster_text.specs.declared.cluster.ClusterFile.{ClusterFile}
use Rattle.cluster_text.specs.declared.stop.CommandStop.TheVariants.{BadCluster, ReadFault, WriteFault, Memory, Full, LinkFault}
use Rattle.server_command.specs.declared.server_stop.ServerStop.{ServerStop}
use Rattle.server_command.specs.declared.server_stop.ServerStop.TheVariants.{Command, DiskFault}
use Rattle.server_command.specs.declared.metadata_server.StepErr.{StepErr}
use Rattle.server_command.specs.declared.metadata_server.StepErr.TheVariants as step_err
use Rattle.server_command.specs.ServerStops.{stop_of_step}
use Rattle.server_command.specs.Cuts.{CutsFile, CutsFiles, CutsHandle, CutsMake, CutsMakes, CutsMaking, CutsOn}
use Rattle.server_command.specs.Steps.{ServerStep}
use Rattle.server_command.specs.Steps as steps
use Rattle.server_command.specs.Notes.{note_texts}
use Rattle.server_command.specs.declared.files.TheConstants.{FIRST_TAG}
use Rattle.server_rules.specs.declared.notes.Note.{Note}
use Rattle.server_rules.specs.Files.{Step}
use Rattle.server_rules.specs.Making.{create_file}
use Rattle.server_requests.specs.Sending.{all_sent}
use Rattle.server_rules.specs.declared.server.Server.{Server}
use Rattle.server_requests.specs.declared.outgoing.Sent.{Sent}
use Rattle.server_command.specs.Messages.{Handles, InTurn, Round, Rounds, Serving, serving}
use Rattle.server_command.proofs.WorkLaws.{Grows, measure, round_less, turn_grows, works_grows}
use Rattle.server_command.specs.Faults.{creation_fault, fault_line}
use Rattle.reply_matching.specs.Creations.{creation_told}
use Rattle.server_command.specs.Files.{Begins, Loses, LosesAll, LosesDrive, LosesFile, LosesFiles, LosesIn, Makes, MakesFile, MakesTo, RefusesFile, RefusesFiles, StopsAt, StopsBy}

-- ---- where it stops

module _ (A B : List ServerStep → Type 0) (X Y : Type 0) (C D : (served unserved : List ServerStep) → Type 0)
    (served unserved : List ServerStep) where
  pub stops_by : (A served → B served) → (X → Y) → (C served unserved → D served unserved) → (stop : ServerStop)
      → StopsBy A X C stop served unserved → StopsBy B Y D stop served unserved
  stops_by f g h (Command LinkFault) s = (f s.0, s.1)
  stops_by f g h (Command (BadCluster kind)) s = (s.0, g s.1, s.2)
  stops_by f g h (Command Memory) s = h s
  stops_by f g h (Command ReadFault) s = absurd s
  stops_by f g h (Command WriteFault) s = absurd s
  stops_by f g h (Command Full) s = absurd s
  stops_by f g h DiskFault s = h s

-- a step wasn't done
pub stops_step : (A : List ServerStep → Type 0) (X : Type 0) (C : (served unserved : List ServerStep) → Type 0)
    (served unserved : List ServerStep) (e : StepErr)
    → C served unserved → StopsBy A X C (stop_of_step e) served unserved
stops_step A X C served unserved step_err.DiskFault cut = cut
stops_step A X C served unserved step_err.Memory cut = cut

split_got : {A : Type 0} (xs : List A) (i : ℕ) (x : A) → slice_get xs i ≡ Some x → xs ≡ take i xs ++ x ∷ drop (suc i) xs
split_got [] i x e = absurd (cc e)
split_got {A} (y ∷ xs) zero x e = ap (λ (z : A). z ∷ xs) (cc e)
split_got {A} (y ∷ xs) (suc i) x e = ap (λ (zs : List A). y ∷ zs) (split_got xs i x e)

pub stops_at : {A : Type 0} (Does : A → Serving → Serving → Type 0) (Stops : A → Serving → Type 0) (xs : List A) (i : ℕ) (x : A)
    (s u : Serving)
    → slice_get xs i ≡ Some x → InTurn Does (take i xs) s u → Stops x u → StopsAt Does Stops xs s
stops_at Does Stops xs i x s u e does stops = record {
  done = take i xs;
  next = x;
  left = drop (suc i) xs;
  are = split_got xs i x e;
  before = u;
  does = does;
  stops = stops;
}

-- ---- one command

-- a record came for it that isn't Exists
pub drive_makes : (drive : ℕ) (message reply : List ℕ) (s t : Serving) (between : Ends)
    → Answered (Drive drive) message s.ends.told between.told s.ends.faults between.faults (Some reply) →
    between.times ≡ s.ends.times
    → Handles (Drive drive) reply (record s { ends = between }) t → creation_fault drive (creation_told message reply) ≡ None →
    MakesTo (Drive drive) message s t
drive_makes drive message reply s t between answered times hears none = (
  record { came = Some reply; between = between; answered = answered; times = times; hears = hears },
  none,
)

-- where nothing was told in between, and the server is the same, a record is handled as if it came at once
pub handled_from : (drive : ℕ) (reply : List ℕ) (waiting : List Sent) (had : List ServerStep) (first mid : Server)
    (times : Option (List ℕ)) (told now : Option Traffic) (faults later : Faults) (t : Serving)
    → mid ≡ first → now ≡ told → later ≡ faults
    → Handles (Drive drive) reply (serving mid waiting true had (ends_of now later times)) t
    → Handles (Drive drive) reply (serving first waiting true had (ends_of told faults times)) t
handled_from drive reply waiting had first mid times told now faults later t same tells still h =
    subst (λ (x : Server). Handles (Drive drive) reply (serving x waiting true had (ends_of told faults times)) t) same
    (subst (λ (n : Option Traffic). Handles (Drive drive) reply (serving mid waiting true had (ends_of n faults times)) t) tells
    (subst (λ (f : Faults). Handles (Drive drive) reply (serving mid waiting true had (ends_of now f times)) t) still h))

-- and so it is cut off
pub cut_from_there : (drive : ℕ) (reply : List ℕ) (waiting : List Sent) (had : List ServerStep) (first mid : Server)
    (times : Option (List ℕ)) (told now : Option Traffic) (faults later : Faults) (last : Ends)
    (served unserved : List ServerStep) → mid ≡ first → now ≡ told → later ≡ faults
    → CutsHandle (Drive drive) reply (serving mid waiting true had (ends_of now later times)) last served unserved
    → CutsHandle (Drive drive) reply (serving first waiting true had (ends_of told faults times)) last served unserved
cut_from_there drive reply waiting had first mid times told now faults later last served unserved same tells still h =
    subst
    (λ (x : Server). CutsHandle (Drive drive) reply (serving x waiting true had (ends_of told faults times)) last served unserved)
    same
    (subst
    (λ (n : Option Traffic). CutsHandle (Drive drive) reply (serving mid waiting true had (ends_of n faults times)) last served
    unserved) tells
    (subst
    (λ (f : Faults). CutsHandle (Drive drive) reply (serving mid waiting true had (ends_of now f times)) last served unserved)
    still h))

-- none came, or one that is, and a note tells which
pub drive_loses : (drive : ℕ) (message line : List ℕ) (came : Option (List ℕ)) (s : Serving) (told now : Option Traffic)
    (faults later : Faults)
    → Answered (Drive drive) message s.ends.told told s.ends.faults faults came → fault_line drive message came ≡ Some line
    → now ≡ after_notes (line ∷ []) told → later ≡ faults →
    LosesDrive drive message s (record s { ends = ends_of now later s.ends.times })
drive_loses drive message line came s told now faults later answered fault tells same = record {
  came = came;
  between = ends_of told faults s.ends.times;
  answered = answered;
  times = refl;
  line = line;
  fault = fault;
  tells = ap (λ (n : Option Traffic). record s { ends = ends_of n later s.ends.times }) tells
      ∙ ap (λ (f : Faults). record s { ends = ends_of (after_notes (line ∷ []) told) f s.ends.times }) same;
}

-- and nothing more was done
pub drive_cuts : (drive : ℕ) (message : List ℕ) (came : Option (List ℕ)) (s : Serving) (told now : Option Traffic)
    (faults later : Faults) → Answered (Drive drive) message s.ends.told told s.ends.faults faults came → now ≡ told
    → later ≡ faults → CutsOn drive message s (ends_of now later s.ends.times) s.done []
drive_cuts drive message came s told now faults later answered same still = inr (record {
  came = came;
  between = ends_of told faults s.ends.times;
  answered = answered;
  times = refl;
  behind = (
    ap (λ (n : Option Traffic). ends_of n later s.ends.times) same ∙ ap (λ (f : Faults). ends_of told f s.ends.times) still,
    refl,
    refl,
  );
})

-- ---- rounds

to_grows : (to : Node) (message : List ℕ) (s t : Serving) → MakesTo to message s t → Grows s t
to_grows (Drive d) message s t h = works_grows None (record { to = Drive d; bytes = message }) s t h.0
to_grows TheServer message s t h = works_grows None (record { to = TheServer; bytes = message }) s t h
to_grows (Client c) message s t h = works_grows None (record { to = Client c; bytes = message }) s t h

makes_grows : (m : Sent) (s t : Serving) → Makes m s t → Grows s t
makes_grows m s t h = to_grows m.to m.bytes s t h

pub makes_end : (s t : Serving) → 0 < length s.waiting → Round Makes s t →
    measure t.server.next_nonce t.waiting < measure s.server.next_nonce s.waiting
makes_end s t some r =
    round_less (record s { waiting = [] }) t s.waiting refl some
    (turn_grows Makes makes_grows s.waiting (record s { waiting = [] }) t r)

loses_from : (u t : Serving) (ms rest : List Sent) → ms ≡ u.waiting → rest ≡ [] → LosesIn ms (record u { waiting = rest }) t
    → LosesIn u.waiting (record u { waiting = [] }) t
loses_from u t ms rest e f h =
    subst (λ (ns : List Sent). LosesIn ns (record u { waiting = [] }) t) e
    (subst (λ (ns : List Sent). LosesIn ms (record u { waiting = ns }) t) f h)

pub cuts_from : (u : Serving) (now : Ends) (ms rest : List Sent) (served unserved : List ServerStep) → ms ≡ u.waiting
    → rest ≡ [] → CutsMakes ms (record u { waiting = rest }) now served unserved
    → CutsMakes u.waiting (record u { waiting = [] }) now served unserved
cuts_from u now ms rest served unserved e f h =
    subst (λ (ns : List Sent). CutsMakes ns (record u { waiting = [] }) now served unserved) e
    (subst (λ (ns : List Sent). CutsMakes ms (record u { waiting = ns }) now served unserved) f h)

-- ---- why it stopped

pub round_stops : (ms : List Sent) (i : ℕ) (m : Sent) (s u : Serving) (t : List ServerStep → Serving) (now : Ends)
    (stop : ServerStop) (served unserved : List ServerStep) → slice_get ms i ≡ Some m → InTurn Makes (take i ms) s u
    → StopsBy (λ has. Loses m u (t has)) ⊥ (CutsMake m u now) stop served unserved
    → StopsBy (λ has. LosesIn ms s (t has)) ⊥ (CutsMakes ms s now) stop served unserved
round_stops ms i m s u t now stop served unserved e made h =
    stops_by (λ has. Loses m u (t has)) (λ has. LosesIn ms s (t has)) ⊥ ⊥ (CutsMake m u now) (CutsMakes ms s now) served unserved
    (λ l. stops_at Makes (λ n v. Loses n v (t served)) ms i m s u e made l) (λ x. x)
    (λ x. stops_at Makes (λ n v. CutsMake n v now served unserved) ms i m s u e made x) stop h

pub all_stops : (rounds : ℕ) (s u : Serving) (waiting ms rest : List Sent) (server : Server) (ends : Ends) (stop : ServerStop)
    (served unserved : List ServerStep) → Rounds Makes rounds s u → ms ≡ u.waiting → rest ≡ []
    → StopsBy (λ has. LosesIn ms (record u { waiting = rest }) (serving server waiting true has ends)) ⊥
    (CutsMakes ms (record u { waiting = rest }) ends) stop served unserved
    → StopsBy (λ has. LosesAll s server has ends) ⊥ (CutsMaking s ends) stop served unserved
all_stops rounds s u waiting ms rest server ends stop served unserved made e f h =
    stops_by (λ has. LosesIn ms (record u { waiting = rest }) (serving server waiting true has ends))
    (λ has. LosesAll s server has ends) ⊥ ⊥ (CutsMakes ms (record u { waiting = rest }) ends) (CutsMaking s ends) served unserved
    (λ l. (rounds, u, made, waiting, loses_from u (serving server waiting true served ends) ms rest e f l)) (λ x. x)
    (λ x. (rounds, u, made, cuts_from u ends ms rest served unserved e f x)) stop h

pub files_stop : (files : List ClusterFile) (i : ℕ) (f : ClusterFile) (s u : Serving) (server : Server) (ends : Ends)
    (stop : ServerStop) (served unserved : List ServerStep) → slice_get files i ≡ Some f → InTurn MakesFile (take i files) s u
    → StopsBy (λ has. LosesFile f u server has ends) (RefusesFile f u.server) (CutsFile f u ends) stop served unserved
    → StopsBy (λ has. LosesFiles files s server has ends) (RefusesFiles files s) (CutsFiles files s ends) stop served unserved
files_stop files i f s u server ends stop served unserved e made h =
    stops_by (λ has. LosesFile f u server has ends) (λ has. LosesFiles files s server has ends) (RefusesFile f u.server)
    (RefusesFiles files s) (CutsFile f u ends) (CutsFiles files s ends) served unserved
    (λ l. stops_at MakesFile (λ g v. LosesFile g v server served ends) files i f s u e made l)
    (λ r. stops_at MakesFile (λ g v. RefusesFile g v.server) files i f s u e made r)
    (λ x. stops_at MakesFile (λ g v. CutsFile g v ends served unserved) files i f s u e made x) stop h

-- a file that was begun
pub begun_at : (file : ClusterFile) (s : Serving) (chosen : List ℕ) (step : Step) (server : Server) (sends : List Sent)
    (notes : List Note) (told : Option Traffic) (faults : Faults)
    → create_file s.server file.number file.map FIRST_TAG false chosen ≡ Ok step → server ≡ step.state
    → sends ≡ all_sent step.sends → notes ≡ step.notes → told ≡ after_notes (note_texts notes) s.ends.told
    → faults ≡ s.ends.faults
    → Begins file s (serving server sends s.stands (s.done ++ steps.Makes file.number file.map FIRST_TAG chosen ∷ [])
    (ends_of told faults s.ends.times))
begun_at file s chosen step server sends notes told faults is state sent are tells same = record {
  chosen = chosen;
  step = step;
  is = is;
  begun = rw (state, sent, tells, are, same) refl;
}

-- the commands of a file that was begun
pub file_stops : (file : ClusterFile) (s u : Serving) (server : Server) (ends : Ends) (stop : ServerStop)
    (served unserved : List ServerStep) → Begins file s u
    → StopsBy (λ has. LosesAll u server has ends) ⊥ (CutsMaking u ends) stop served unserved
    → StopsBy (λ has. LosesFile file s server has ends) (RefusesFile file s.server) (CutsFile file s ends) stop served unserved
file_stops file s u server ends stop served unserved begun h =
    stops_by (λ has. LosesAll u server has ends) (λ has. LosesFile file s server has ends) ⊥ (RefusesFile file s.server)
    (CutsMaking u ends) (CutsFile file s ends) served unserved
    (λ l. (u, begun, l)) (λ x. absurd x) (λ x. inr (inr (u, begun, x))) stop h
