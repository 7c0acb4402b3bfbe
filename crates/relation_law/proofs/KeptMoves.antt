-- Each move: the machine behind it has what the server keeps of the file.
-- Towards `KeptGoesOn` (`specs/Steps.antt`).
use Rattle.std.proofs.Common.{◌≡◌, ℕ, ◌≤◌, true, List, [], ◌∷◌, ◌++◌, Some, None, refl, sym, ap, subst, ◌∙◌, arith}
use Rattle.std.proofs.lemmas.List.{append-nil}
use Rattle.server_rules.specs.Files.{Step, file_at}
use Rattle.server_rules.specs.History.{Input, step}
use Rattle.history_law.specs.Answers.{ServerDid, Quiet, Asked}
use Rattle.history_law.proofs.Answers.{step_did}
use Rattle.world_history.specs.ServerNames.{Server, File, Note}
use Rattle.world_history.specs.State.{World}
use Rattle.world_history.specs.Sending.{Move, move}
use Rattle.history_law.specs.Doing.{input_in}
use Rattle.fence_law.specs.State.{State, Event}
use Rattle.fence_law.specs.State.Event.{Grants, Frees, Fences, Fenced, Refenced, Leaves, Commits, Repaired}
use Rattle.fence_law.specs.Machine.{Lawful, after_all}
use Rattle.fence_law.proofs.Safe.{Safe}
use Rattle.file_simulation.specs.ClientEvents.{Going, going_in}
use Rattle.file_simulation.specs.DriveEvents.{drive_events}
use Rattle.file_simulation.specs.Events.{joined, events_of}
use Rattle.file_simulation.specs.ServerEvents.{server_goes}
use Rattle.relation_law.specs.Frames.{AreAll, IsOfClient, IsOfDrive}
use Rattle.relation_law.specs.KeptSteps.{is_light, AllLight, notes_events, behind_notes, IsKeptAt, first_of, HearsNoOrder}
use Rattle.relation_law.proofs.FramesParties.{client_alone, server_alone, by_client_lines, by_drive_lines, drive_quiet, server_rests}
use Rattle.relation_law.proofs.FramesStay.{all_joined}
use Rattle.relation_law.proofs.KeptInputs.{IsNoRequest, IsIdleAt, FitsAt, no_request_goes}
use Rattle.relation_law.proofs.KeptLines.{joined_both, joined_never, plain_joined}
use Rattle.relation_law.proofs.RequestsMoments.{joined_led}
use Rattle.relation_law.proofs.KeptNotes.{lawful_supplies, after_both, lawful_front, lawful_back}
use Rattle.relation_law.proofs.KeptServer.{IsReady, light_kept}

-- ---- moves of clients and of drives

client_light : (c : ℕ) (e : Event) → IsOfClient c e → is_light e ≡ true
client_light c (Grants d number rw range extending) o = absurd o
client_light c (Frees d) o = absurd o
client_light c Fences o = absurd o
client_light c Fenced o = absurd o
client_light c Refenced o = absurd o
client_light c (Leaves d g) o = absurd o
client_light c (Commits d j g) o = absurd o
client_light c (Repaired done e) o = absurd o
client_light c e o = refl

drive_light : (e : Event) → IsOfDrive e → is_light e ≡ true
drive_light (Grants d number rw range extending) o = absurd o
drive_light (Frees d) o = absurd o
drive_light Fences o = absurd o
drive_light Fenced o = absurd o
drive_light Refenced o = absurd o
drive_light (Leaves d g) o = absurd o
drive_light (Commits d j g) o = absurd o
drive_light (Repaired done e) o = absurd o
drive_light e o = refl

all_light : (P : Event → Type 0) → ((e : Event) → P e → is_light e ≡ true) → (es : List Event) → AreAll P es → AllLight es
all_light P l [] a = tt
all_light P l (e ∷ es) a = (l e a.0, all_light P l es a.1)

-- ---- a step of the server on anything but a request

pub later_kept : (n m : ℕ) (s : State) (f : File) → n ≤ m → IsKeptAt n s f → IsKeptAt m s f
later_kept n m s f le h = record {
  tag = h.tag;
  size = h.size;
  phase = h.phase;
  next_is = let l = h.next_is in omega (arith, l, le);
  unready = h.unready;
  low = h.low;
}

-- it uses no grant's number
same_grants : (server : Server) (chosen : List ℕ) (i : Input) → IsNoRequest i → (t : Step) → ServerDid server chosen i t
    → t.state.next_grant ≡ server.next_grant
same_grants server chosen i n t (Quiet q) = q.grants
same_grants server chosen i n t (Asked now q is done) = absurd (subst IsNoRequest is.is n)

pub plain_step : (s : State) (w : World) (f : File) (chosen : List ℕ) (i : Input) → Safe s
    → IsKeptAt w.server.next_grant s f → IsReady w f → IsNoRequest i → HearsNoOrder i → IsIdleAt i w.server.files
    → FitsAt i w.server.files → (g : File) → file_at (step w.server chosen i).state.files f.kept.number ≡ Some g
    → Lawful s (joined (server_goes s w (step w.server chosen i) i (Some f) (Some g)))
    → IsKeptAt (step w.server chosen i).state.next_grant
    (after_all s (joined (server_goes s w (step w.server chosen i) i (Some f) (Some g)))) g
plain_step s w f chosen i safe h ready n orders idle fit g found law =
    let next : ℕ = w.server.next_grant in
    let did : Step = step w.server chosen i in
    let es : List Event = first_of f g i in
    let t : State = after_all s es in
    let is = plain_joined s w did i f g n in
    let l : Lawful s (es ++ notes_events t w f i did.notes) = subst (Lawful s) is law in
    let r = no_request_goes next s w f chosen safe h ready i
    (λ (u : State) (ns : List Note). Lawful u (notes_events u w f i ns))
    (λ busy u. lawful_supplies next busy u w f i) n orders idle fit g found
    (lawful_front s es (notes_events t w f i did.notes) l) in
    let k : IsKeptAt next (behind_notes t w f i did.notes) g =
    r.kept (lawful_back s es (notes_events t w f i did.notes) l) in
    let same : next ≡ did.state.next_grant = sym (same_grants w.server chosen i n did (step_did w.server chosen i)) in
    subst (λ (m : ℕ). IsKeptAt m (after_all s (joined (server_goes s w did i (Some f) (Some g)))) g) same
    (subst (λ (x : List Event). IsKeptAt next (after_all s x) g) (sym is)
    (subst (λ (u : State). IsKeptAt next u g) (sym (after_both s es (notes_events t w f i did.notes))) k))

-- ---- a move

-- the events of a move of the server are those of its step
pub server_joined : (s : State) (w : World) (e : ℕ → ℕ) (f g : File) (m : Move) (i : Input) → input_in w m.action ≡ Some i
    → file_at w.server.files f.kept.number ≡ Some f
    → file_at (step w.server m.chosen i).state.files f.kept.number ≡ Some g
    → joined (events_of s w e f m) ≡ joined (server_goes s w (step w.server m.chosen i) i (Some f) (Some g))
server_joined s w e f g m i is there found =
    joined_led m.action _
    ∙ rw (server_alone w m.action i is, is, there, found)
    (joined_both (server_goes s w (step w.server m.chosen i) i (Some f) (Some g)) (drive_events s w e f m.action)
    ∙ ap (λ (x : List Event). joined (server_goes s w (step w.server m.chosen i) i (Some f) (Some g)) ++ x)
    (joined_never (drive_events s w e f m.action) (drive_quiet s w e f m.action i is))
    ∙ append-nil (joined (server_goes s w (step w.server m.chosen i) i (Some f) (Some g))))

-- a move in which nothing comes to the server leaves all that is kept
pub other_move : (s : State) (w : World) (e : ℕ → ℕ) (f g : File) (m : Move) → Safe s
    → IsKeptAt w.server.next_grant s f → file_at w.server.files f.kept.number ≡ Some f → input_in w m.action ≡ None
    → file_at (move w m).world.server.files f.kept.number ≡ Some g → AllLight (joined (events_of s w e f m))
    → Lawful s (joined (events_of s w e f m))
    → IsKeptAt (move w m).world.server.next_grant (after_all s (joined (events_of s w e f m))) g
other_move s w e f g m safe h there none found light law =
    let same = server_rests w m none in
    let is : f ≡ g = cc (sym there ∙ ap (λ (x : Server). file_at x.files f.kept.number) (sym same) ∙ found) in
    let k = light_kept w.server.next_grant s (joined (events_of s w e f m)) f light law safe h in
    subst (λ (x : Server). IsKeptAt x.next_grant (after_all s (joined (events_of s w e f m))) g) (sym same)
    (subst (IsKeptAt w.server.next_grant (after_all s (joined (events_of s w e f m)))) is k)

pub client_move : (s : State) (w : World) (e : ℕ → ℕ) (f g : File) (m : Move) (c : Going) → going_in w m.action ≡ Some c
    → Safe s → IsKeptAt w.server.next_grant s f → file_at w.server.files f.kept.number ≡ Some f
    → file_at (move w m).world.server.files f.kept.number ≡ Some g → Lawful s (joined (events_of s w e f m))
    → IsKeptAt (move w m).world.server.next_grant (after_all s (joined (events_of s w e f m))) g
client_move s w e f g m c is safe h there found law =
    other_move s w e f g m safe h there (client_alone w m.action c is) found
    (all_light (IsOfClient c.client) (client_light c.client) (joined (events_of s w e f m))
    (all_joined (IsOfClient c.client) (events_of s w e f m) (by_client_lines s w e f m c is))) law

pub drive_move : (s : State) (w : World) (e : ℕ → ℕ) (f g : File) (m : Move) → going_in w m.action ≡ None
    → input_in w m.action ≡ None → Safe s → IsKeptAt w.server.next_grant s f
    → file_at w.server.files f.kept.number ≡ Some f → file_at (move w m).world.server.files f.kept.number ≡ Some g
    → Lawful s (joined (events_of s w e f m))
    → IsKeptAt (move w m).world.server.next_grant (after_all s (joined (events_of s w e f m))) g
drive_move s w e f g m is none safe h there found law =
    other_move s w e f g m safe h there none found
    (all_light IsOfDrive drive_light (joined (events_of s w e f m))
    (all_joined IsOfDrive (events_of s w e f m) (by_drive_lines s w e f m is none))) law
