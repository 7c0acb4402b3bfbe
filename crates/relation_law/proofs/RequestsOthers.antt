-- A move of another party keeps what the machine has of a client's requests.
use Rattle.std.proofs.Common.{◌≡◌, ℕ, List, Option, Some, refl, ap, ◌∙◌}
use Rattle.std.proofs.lemmas.Bool.{ne_eqb}
use Rattle.server_rules.specs.Files.{Step}
use Rattle.server_rules.specs.History.{Input, step}
use Rattle.server_rules.specs.Requests.{on_request}
use Rattle.server_rules.specs.Slots.{slot_of}
use Rattle.server_rules.proofs.FileLaws.{keep_other}
use Rattle.world_history.specs.ServerNames.{Server, Slot, ClientRequest}
use Rattle.history_law.specs.Answers.{ServerDid, Quiet, Asked}
use Rattle.history_law.proofs.Answers.{step_did}
use Rattle.history_law.proofs.Steps.{each_request}
use Rattle.fence_law.specs.State.{State, Event}
use Rattle.fence_law.specs.Machine.{after_all}
use Rattle.file_simulation.specs.ServerEvents.{asker}
use Rattle.relation_law.specs.Frames.{AreAll, IsOfClient, IsOfServer, IsOfDrive}
use Rattle.relation_law.specs.Requests.{HasStayed}
use Rattle.relation_law.proofs.FramesGrow.{log_grows}
use Rattle.relation_law.proofs.FramesStay.{server_stays_all}
use Rattle.relation_law.proofs.FramesOthers.{client_by_clients, client_by_server, client_by_drives, slot_by_server, kept_by_drives}

-- ---- the server's slot for another client

module _ (s : Server) (chosen : List ℕ) (c : ℕ) where
  slot_request : (now : ℕ) (q : ClientRequest) → (q.client ≡ c → ⊥)
      → slot_of (on_request s now chosen q).state.slots c ≡ slot_of s.slots c
  slot_request now q other =
      each_request s now chosen q (λ (t : Step). slot_of t.state.slots c ≡ slot_of s.slots c) (record {
        again = λ kept is. refl;
        misordered = λ expected is. refl;
        without = λ new none. keep_other s.slots _ c (ne_eqb q.client c other);
        served = λ new f found. keep_other s.slots _ c (ne_eqb q.client c other);
      })

  pub slot_other : (i : Input) → (asker i ≡ Some c → ⊥) → slot_of (step s chosen i).state.slots c ≡ slot_of s.slots c
  slot_other i other = by_did (step_did s chosen i)
    where
      by_did : ServerDid s chosen i (step s chosen i) → slot_of (step s chosen i).state.slots c ≡ slot_of s.slots c
      by_did (Quiet q) = ap (λ (l : List Slot). slot_of l c) q.slots
      by_did (Asked now q k is) =
          ap (λ (t : Step). slot_of t.state.slots c) is
          ∙ slot_request now q (λ same. other (ap asker k.is ∙ ap Some same))

-- ---- what the machine has of a client

-- behind events of another client
pub stayed_by_client : (c d : ℕ) → (c ≡ d → ⊥) → (s : State) (es : List Event) → AreAll (IsOfClient d) es
    → HasStayed c s (after_all s es)
stayed_by_client c d other s es all =
    let k = client_by_clients c d other s es all in
    record {
      slot = ap (λ (f : ℕ → ℕ). f c) (server_stays_all d s es all).slot;
      sequence = k.sequence;
      waiting = k.waiting;
      away = k.away;
      asked = k.asked;
      requests = (log_grows s es).requests;
      answers = (log_grows s es).answers;
    }

-- of a step of the server that is on no request of its
pub stayed_by_server : (c : ℕ) (o : Option ℕ) → (o ≡ Some c → ⊥) → (s : State) (es : List Event) → AreAll (IsOfServer o) es
    → HasStayed c s (after_all s es)
stayed_by_server c o other s es all =
    let k = client_by_server c o other s es all in
    record {
      slot = (slot_by_server c o other s es all).slot;
      sequence = k.sequence;
      waiting = k.waiting;
      away = k.away;
      asked = k.asked;
      requests = (log_grows s es).requests;
      answers = (log_grows s es).answers;
    }

-- and of a drive
pub stayed_by_drive : (c : ℕ) (s : State) (es : List Event) → AreAll IsOfDrive es → HasStayed c s (after_all s es)
stayed_by_drive c s es all =
    let k = client_by_drives c s es all in
    record {
      slot = ap (λ (f : ℕ → ℕ). f c) (kept_by_drives s es all).slot;
      sequence = k.sequence;
      waiting = k.waiting;
      away = k.away;
      asked = k.asked;
      requests = (log_grows s es).requests;
      answers = (log_grows s es).answers;
    }
