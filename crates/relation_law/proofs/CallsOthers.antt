-- What the relation says of a client stays in each move of a drive, of another client, and of the server on another's request.
-- Towards `CallsGoOn` (`specs/Steps.antt`).
use Rattle.std.proofs.Common.{◌≡◌, ℕ, ◌<◌, List, [], ◌∷◌, Option, Some, None, refl, sym, ap, ◌∙◌}
use Rattle.std.proofs.lemmas.Bool.{ne_eqb}
use Rattle.layout_ops.specs.declared.messages.Answer.{Answer}
use Rattle.data_map.specs.declared.check.RawMap.{RawMap}
use Rattle.scenario_text.specs.declared.names.TheConstants.{CLIENTS}
use Rattle.scenario_text.specs.declared.line.Line.{Line}
use Rattle.server_rules.specs.Slots.{slot_of}
use Rattle.server_rules.specs.History.{Input, step as server_step}
use Rattle.server_rules.proofs.SlotLaws.{other_slot}
use Rattle.world_history.specs.ClientNames.{Client}
use Rattle.world_history.specs.ServerNames.{Server, File, Slot, ClientRequest}
use Rattle.world_history.specs.State.{World}
use Rattle.world_history.specs.Sending.{Move, move}
use Rattle.history_law.specs.Doing.{input_in}
use Rattle.history_law.specs.Answers.{ServerDid}
use Rattle.history_law.specs.Answers.ServerDid.{Quiet, Asked}
use Rattle.history_law.proofs.Answers.{step_did}
use Rattle.fence_law.specs.State.{State, Event}
use Rattle.fence_law.specs.State.Event.{Asks, Grants, Refuses, Takes, AsksOther, ServesOther, TakesOther, GivesBack, Reports, Forgets, Frees, Fences, SetsTag, Fenced, Refenced, StartsWrite, Sends, Performs, Learns, Acknowledges, Breaks, StartsRead, Shows, Answers, EndsRead, Fails, Drops, Declares, Loses, Leaves, Tells, AsksCommit, Commits, RefusesCommit, TakesCommit, TakesRefusal, Repairs, Repaired, Rebuilds}
use Rattle.fence_law.specs.Machine.{Allowed, Lawful, after}
use Rattle.fence_law.proofs.Safe.{Safe, keep_safe}
use Rattle.file_simulation.specs.Requests.{kept_for}
use Rattle.file_simulation.specs.Calls.{IsClient}
use Rattle.file_simulation.specs.Relation.{client_of}
use Rattle.file_simulation.specs.ClientEvents.{Going, going_in}
use Rattle.file_simulation.specs.ServerEvents.{asker}
use Rattle.file_simulation.specs.Events.{joined, events_of}
use Rattle.relation_law.specs.Steps.{FollowsWhole, AreCalls, whole_behind, owed}
use Rattle.relation_law.specs.Frames.{AreAll, IsOfClient, IsOfServer, IsOfDrive}
use Rattle.relation_law.specs.CallsFrames.{IsSpared, IsBeside, AreBeside}
use Rattle.relation_law.proofs.FramesStay.{all_joined}
use Rattle.relation_law.proofs.FramesParties.{by_client_lines, by_server_lines, by_drive_lines, client_goes, clients_rest, client_beside, client_alone, server_alone, server_rests, server_steps}
use Rattle.relation_law.proofs.CallsFrames.{spares_all}
use Rattle.relation_law.proofs.CallsSpared.{client_spared}

-- ---- events that aren't of the client

-- another number
apart : (c d n : ℕ) → (d ≡ c → ⊥) → n ≡ d → n ≡ c → ⊥
apart c d n ne e x = ne (sym e ∙ x)

pub beside_client : (c d : ℕ) → (d ≡ c → ⊥) → (s : State) (e : Event) → IsOfClient d e → Allowed s e → Safe s →
    IsBeside c s e
beside_client c d ne s (Asks n rw) k a z = apart c d n ne k
beside_client c d ne s (Takes n o size) k a z = apart c d n ne k
beside_client c d ne s (AsksOther n) k a z = apart c d n ne k
beside_client c d ne s (GivesBack n g) k a z = apart c d n ne k
beside_client c d ne s (Reports n g) k a z = apart c d n ne k
beside_client c d ne s (Forgets n) k a z = apart c d n ne k
beside_client c d ne s (StartsWrite n g i bytes touch hit seen past part) k a z = apart c d n ne k
beside_client c d ne s (Sends n q g j i v) k a z = apart c d n ne k
beside_client c d ne s (Learns n q j v i) k a z = apart c d n ne k
beside_client c d ne s (Acknowledges n j) k a z =
    (apart c d n ne k, λ x. apart c d n ne k (sym (z.calls.writes n j a.runs).by ∙ x))
beside_client c d ne s (Breaks n j) k a z = apart c d n ne k
beside_client c d ne s (StartsRead n g lo hi reach) k a z = apart c d n ne k
beside_client c d ne s (Answers n j bytes) k a z = apart c d n ne k
beside_client c d ne s (EndsRead n j) k a z = apart c d n ne k
beside_client c d ne s (AsksCommit n j) k a z = apart c d n ne k
beside_client c d ne s (TakesCommit n j) k a z = apart c d n ne k
beside_client c d ne s (TakesRefusal n j) k a z = apart c d n ne k
beside_client c d ne s (TakesOther n) k a z = tt
beside_client c d ne s (Tells j) k a z = tt
beside_client c d ne s e k a z = absurd k

asked_apart : (c n : ℕ) (o : Option ℕ) → (o ≡ Some c → ⊥) → o ≡ Some n → n ≡ c → ⊥
asked_apart c n o ne e x = ne (e ∙ ap (λ (i : ℕ). Some i) x)

pub beside_server : (c : ℕ) (o : Option ℕ) → (o ≡ Some c → ⊥) → (s : State) (e : Event) → IsOfServer o e → Allowed s e →
    Safe s → IsBeside c s e
beside_server c o ne s (Grants n number rw range extending) k a z = (asked_apart c n o ne k, a.new)
beside_server c o ne s (Acknowledges n j) k a z =
    (asked_apart c n o ne k, λ x. asked_apart c n o ne k (sym (z.calls.writes n j a.runs).by ∙ x))
beside_server c o ne s (Leaves n g) k a z = asked_apart c n o ne k
beside_server c o ne s (Commits n j g) k a z = asked_apart c n o ne k
beside_server c o ne s (RefusesCommit n j) k a z = asked_apart c n o ne k
beside_server c o ne s (Refuses n kind) k a z = tt
beside_server c o ne s (ServesOther n) k a z = tt
beside_server c o ne s (Frees n) k a z = tt
beside_server c o ne s Fences k a z = tt
beside_server c o ne s Fenced k a z = tt
beside_server c o ne s Refenced k a z = tt
beside_server c o ne s (Fails n) k a z = tt
beside_server c o ne s (Drops n) k a z = tt
beside_server c o ne s (Declares n) k a z = tt
beside_server c o ne s (Loses n q) k a z = tt
beside_server c o ne s (Repaired done e) k a z = tt
beside_server c o ne s (Rebuilds n cells) k a z = tt
beside_server c o ne s e k a z = absurd k

pub beside_drive : (c : ℕ) (s : State) (e : Event) → IsOfDrive e → Allowed s e → Safe s → IsBeside c s e
beside_drive c s (SetsTag n) k a z = tt
beside_drive c s (Performs m) k a z = tt
beside_drive c s (Shows j n) k a z = tt
beside_drive c s (Fails n) k a z = tt
beside_drive c s (Repairs n cells e) k a z = tt
beside_drive c s e k a z = absurd k

-- events of a kind, one behind the other
pub beside_all : (c : ℕ) (P : Event → Type 0) → ((s : State) (e : Event) → P e → Allowed s e → Safe s → IsBeside c s e) →
    (s : State) (es : List Event) → AreAll P es → Lawful s es → Safe s → AreBeside c s es
beside_all c P f s [] k l z = tt
beside_all c P f s (e ∷ es) k l z =
    (f s e k.0 l.0 z, beside_all c P f (after s e) es k.1 l.1 (keep_safe s e l.0 z))

-- ---- the server's slots

asker_is : (i : Input) (q : ClientRequest) (c : ℕ) → asker i ≡ Some q.client → (asker i ≡ Some c → ⊥) → q.client ≡ c → ⊥
asker_is i q c e ne x = ne (e ∙ ap (λ (n : ℕ). Some n) x)

pub slot_beside : (s : Server) (chosen : List ℕ) (i : Input) (c : ℕ) → (asker i ≡ Some c → ⊥) →
    slot_of (server_step s chosen i).state.slots c ≡ slot_of s.slots c
slot_beside s chosen i c ne = by_did (step_did s chosen i)
  where
    by_did : ServerDid s chosen i (server_step s chosen i) → slot_of (server_step s chosen i).state.slots c ≡ slot_of s.slots c
    by_did (Quiet k) = ap (λ (ss : List Slot). slot_of ss c) k.slots
    by_did (Asked now q k e) =
        rw e (other_slot s now chosen q c
        (ne_eqb q.client c (asker_is i q c (ap asker k.is) ne)))

-- ---- a client that stays

-- the same client, with the same answer, in a machine that keeps what it has of it
client_stays : (s t : State) (c : ℕ) → IsSpared s t c → (file file2 : ℕ) (m m2 : RawMap) (x y : Client) (o p : Option Answer) →
    file2 ≡ file → m2 ≡ m → y ≡ x → p ≡ o → IsClient file m s c x o → IsClient file2 m2 t c y p
client_stays s t c k file file2 m m2 x y o p ef em ey ep w = rw (ef, em, ey, ep) (client_spared s t c k file m x o w)

module _ (w : World) (h : List Line) (m : Move) (f g : File) (s : State) (k : FollowsWhole w h m f g s) (z : Safe s)
    (number : g.kept.number ≡ f.kept.number) (map : g.kept.map ≡ f.kept.map) where
  abbrev v : World
  v = (move w m).world

  abbrev es : List Event
  es = joined (events_of s w (owed k.follows.related) f m)

  -- by the client and its slot behind the move
  pub stays : (c : ℕ) → c < CLIENTS → AreBeside c s es → client_of v c ≡ client_of w c →
      slot_of v.server.slots c ≡ slot_of w.server.slots c →
      IsClient g.kept.number g.kept.map (whole_behind k) c (client_of v c)
      (kept_for (slot_of v.server.slots c) (client_of v c).outstanding)
  stays c low beside client slot =
      client_stays s (whole_behind k) c (spares_all c s es beside) f.kept.number g.kept.number f.kept.map g.kept.map
      (client_of w c) (client_of v c) (kept_for (slot_of w.server.slots c) (client_of w c).outstanding)
      (kept_for (slot_of v.server.slots c) (client_of v c).outstanding) number map client
      (rw (client, slot) refl) (k.follows.related.clients c low).client

  -- neither a client nor the server goes on
  pub calls_by_drive : going_in w m.action ≡ None → input_in w m.action ≡ None → AreCalls (whole_behind k) v g
  calls_by_drive none nothing c low =
      stays c low
      (beside_all c IsOfDrive (beside_drive c) s es
      (all_joined IsOfDrive (events_of s w (owed k.follows.related) f m)
      (by_drive_lines s w (owed k.follows.related) f m none nothing)) k.lawful z)
      (clients_rest w h k.follows.moment m k.follows.is_due none c)
      (ap (λ (y : Server). slot_of y.slots c) (server_rests w m nothing))

  -- another client goes on
  pub calls_beside : (n : Going) → going_in w m.action ≡ Some n → (c : ℕ) → c < CLIENTS → (c ≡ n.client → ⊥) →
      IsClient g.kept.number g.kept.map (whole_behind k) c (client_of v c)
      (kept_for (slot_of v.server.slots c) (client_of v c).outstanding)
  calls_beside n is c low ne =
      stays c low
      (beside_all c (IsOfClient n.client) (beside_client c n.client (λ e. ne (sym e))) s es
      (all_joined (IsOfClient n.client) (events_of s w (owed k.follows.related) f m)
      (by_client_lines s w (owed k.follows.related) f m n is)) k.lawful z)
      (client_beside w m n (client_goes w h k.follows.moment m k.follows.is_due n is) c ne)
      (ap (λ (y : Server). slot_of y.slots c) (server_rests w m (client_alone w m.action n is)))

  -- the server takes a step that isn't on the client's request
  pub calls_unasked : (i : Input) → input_in w m.action ≡ Some i → (c : ℕ) → c < CLIENTS → (asker i ≡ Some c → ⊥) →
      IsClient g.kept.number g.kept.map (whole_behind k) c (client_of v c)
      (kept_for (slot_of v.server.slots c) (client_of v c).outstanding)
  calls_unasked i is c low ne =
      stays c low
      (beside_all c (IsOfServer (asker i)) (beside_server c (asker i) ne) s es
      (all_joined (IsOfServer (asker i)) (events_of s w (owed k.follows.related) f m)
      (by_server_lines s w (owed k.follows.related) f m i is)) k.lawful z)
      (clients_rest w h k.follows.moment m k.follows.is_due (server_alone w m.action i is) c)
      (ap (λ (y : Server). slot_of y.slots c) (server_steps w m i is)
      ∙ slot_beside w.server m.chosen i c ne)
