-- What the events of each party leave as it was: what another client has, and the server's slot for it.
use Rattle.std.proofs.Common.{◌≡◌, ℕ, List, Option, Some, refl, sym, ap, ◌∙◌}
use Rattle.fence_law.specs.State.{State, Event}
use Rattle.fence_law.specs.State.Event.{Asks, Grants, Refuses, Takes, AsksOther, ServesOther, TakesOther, GivesBack, Reports, Forgets, Frees, Fences, SetsTag, Fenced, Refenced, StartsWrite, Sends, Performs, Learns, Acknowledges, Breaks, StartsRead, Shows, Answers, EndsRead, Fails, Drops, Declares, Loses, Leaves, Tells, PerformsLost, AsksCommit, Commits, RefusesCommit, TakesCommit, TakesRefusal, Repairs, Repaired, Rebuilds}
use Rattle.fence_law.specs.Machine.{after, after_all}
use Rattle.fence_law.proofs.Words.{updated_other}
use Rattle.relation_law.specs.Frames.{AreAll, IsOfClient, IsOfServer, IsOfDrive, ClientStays, SlotStays}
use Rattle.relation_law.proofs.FramesStay.{related_by_all}
pub use Rattle.relation_law.proofs.FramesRest.{clients_same, clients_more, clients_by_step, clients_by_server, kept_same, kept_more, kept_by_drive, kept_by_drives, replies_same, replies_more, replies_by_step, replies_by_server}

-- ---- what a client has

pub client_same : (d : ℕ) (s : State) → ClientStays d s s
client_same d s = record {
  sequence = refl;
  waiting = refl;
  away = refl;
  asked = refl;
  held = refl;
  nonce = refl;
  call = refl;
  known_size = refl;
  commit = refl;
  out = refl;
}

pub client_more : (d : ℕ) (s t u : State) → ClientStays d s t → ClientStays d t u → ClientStays d s u
client_more d s t u a b = record {
  sequence = b.sequence ∙ a.sequence;
  waiting = b.waiting ∙ a.waiting;
  away = b.away ∙ a.away;
  asked = b.asked ∙ a.asked;
  held = b.held ∙ a.held;
  nonce = b.nonce ∙ a.nonce;
  call = b.call ∙ a.call;
  known_size = b.known_size ∙ a.known_size;
  commit = b.commit ∙ a.commit;
  out = b.out ∙ a.out;
}

pub client_by_client : (d c : ℕ) → (d ≡ c → ⊥) → (s : State) (e : Event) → IsOfClient c e → ClientStays d s (after s e)
client_by_client d c other s (Asks b rw) is = record {
  sequence = updated_other s.sequence b _ d (λ x. other (x ∙ is));
  waiting = updated_other s.waiting b _ d (λ x. other (x ∙ is));
  away = refl;
  asked = updated_other s.asked b _ d (λ x. other (x ∙ is));
  held = refl;
  nonce = refl;
  call = refl;
  known_size = refl;
  commit = refl;
  out = refl;
}
client_by_client d c other s (Takes b o size) is = record {
  sequence = refl;
  waiting = updated_other s.waiting b _ d (λ x. other (x ∙ is));
  away = refl;
  asked = refl;
  held = updated_other s.held b _ d (λ x. other (x ∙ is));
  nonce = refl;
  call = refl;
  known_size = updated_other s.known_size b _ d (λ x. other (x ∙ is));
  commit = refl;
  out = refl;
}
client_by_client d c other s (AsksOther b) is = record {
  sequence = updated_other s.sequence b _ d (λ x. other (x ∙ is));
  waiting = refl;
  away = updated_other s.away b _ d (λ x. other (x ∙ is));
  asked = refl;
  held = refl;
  nonce = refl;
  call = refl;
  known_size = refl;
  commit = refl;
  out = refl;
}
client_by_client d c other s (TakesOther b) is = record {
  sequence = refl;
  waiting = refl;
  away = updated_other s.away b _ d (λ x. other (x ∙ is));
  asked = refl;
  held = refl;
  nonce = refl;
  call = refl;
  known_size = refl;
  commit = refl;
  out = refl;
}
client_by_client d c other s (GivesBack b g) is = record {
  sequence = updated_other s.sequence b _ d (λ x. other (x ∙ is));
  waiting = updated_other s.waiting b _ d (λ x. other (x ∙ is));
  away = refl;
  asked = updated_other s.asked b _ d (λ x. other (x ∙ is));
  held = updated_other s.held b _ d (λ x. other (x ∙ is));
  nonce = refl;
  call = refl;
  known_size = refl;
  commit = refl;
  out = refl;
}
client_by_client d c other s (Reports b g) is = record {
  sequence = updated_other s.sequence b _ d (λ x. other (x ∙ is));
  waiting = updated_other s.waiting b _ d (λ x. other (x ∙ is));
  away = refl;
  asked = updated_other s.asked b _ d (λ x. other (x ∙ is));
  held = updated_other s.held b _ d (λ x. other (x ∙ is));
  nonce = refl;
  call = updated_other s.call b _ d (λ x. other (x ∙ is));
  known_size = refl;
  commit = refl;
  out = refl;
}
client_by_client d c other s (Forgets b) is = record {
  sequence = refl;
  waiting = refl;
  away = refl;
  asked = refl;
  held = updated_other s.held b _ d (λ x. other (x ∙ is));
  nonce = refl;
  call = updated_other s.call b _ d (λ x. other (x ∙ is));
  known_size = refl;
  commit = refl;
  out = refl;
}
client_by_client d c other s (StartsWrite b g i bytes touch hit seen past part) is = record {
  sequence = refl;
  waiting = refl;
  away = refl;
  asked = refl;
  held = refl;
  nonce = refl;
  call = updated_other s.call b _ d (λ x. other (x ∙ is));
  known_size = refl;
  commit = refl;
  out = updated_other s.out b _ d (λ x. other (x ∙ is));
}
client_by_client d c other s (Sends b k g j i v) is = record {
  sequence = refl;
  waiting = refl;
  away = refl;
  asked = refl;
  held = refl;
  nonce = updated_other s.nonce b _ d (λ x. other (x ∙ is));
  call = refl;
  known_size = refl;
  commit = refl;
  out = updated_other s.out b _ d (λ x. other (x ∙ is));
}
client_by_client d c other s (Learns b k j v i) is = record {
  sequence = refl;
  waiting = refl;
  away = refl;
  asked = refl;
  held = refl;
  nonce = refl;
  call = refl;
  known_size = refl;
  commit = refl;
  out = updated_other s.out b _ d (λ x. other (x ∙ is));
}
client_by_client d c other s (Acknowledges b j) is = record {
  sequence = refl;
  waiting = refl;
  away = refl;
  asked = refl;
  held = refl;
  nonce = refl;
  call = updated_other s.call b _ d (λ x. other (x ∙ is));
  known_size = refl;
  commit = refl;
  out = refl;
}
client_by_client d c other s (Breaks b j) is = record {
  sequence = refl;
  waiting = refl;
  away = refl;
  asked = refl;
  held = refl;
  nonce = refl;
  call = updated_other s.call b _ d (λ x. other (x ∙ is));
  known_size = refl;
  commit = refl;
  out = refl;
}
client_by_client d c other s (StartsRead b g lo hi reach) is = record {
  sequence = refl;
  waiting = refl;
  away = refl;
  asked = refl;
  held = refl;
  nonce = refl;
  call = updated_other s.call b _ d (λ x. other (x ∙ is));
  known_size = refl;
  commit = refl;
  out = refl;
}
client_by_client d c other s (Answers b j bytes) is = record {
  sequence = refl;
  waiting = refl;
  away = refl;
  asked = refl;
  held = refl;
  nonce = refl;
  call = updated_other s.call b _ d (λ x. other (x ∙ is));
  known_size = refl;
  commit = refl;
  out = refl;
}
client_by_client d c other s (EndsRead b j) is = record {
  sequence = refl;
  waiting = refl;
  away = refl;
  asked = refl;
  held = refl;
  nonce = refl;
  call = updated_other s.call b _ d (λ x. other (x ∙ is));
  known_size = refl;
  commit = refl;
  out = refl;
}
client_by_client d c other s (AsksCommit b j) is = record {
  sequence = refl;
  waiting = refl;
  away = refl;
  asked = refl;
  held = refl;
  nonce = refl;
  call = refl;
  known_size = refl;
  commit = updated_other s.commit b _ d (λ x. other (x ∙ is));
  out = refl;
}
client_by_client d c other s (TakesCommit b j) is = record {
  sequence = refl;
  waiting = refl;
  away = refl;
  asked = refl;
  held = refl;
  nonce = refl;
  call = refl;
  known_size = updated_other s.known_size b _ d (λ x. other (x ∙ is));
  commit = updated_other s.commit b _ d (λ x. other (x ∙ is));
  out = refl;
}
client_by_client d c other s (TakesRefusal b j) is = record {
  sequence = refl;
  waiting = refl;
  away = refl;
  asked = refl;
  held = updated_other s.held b _ d (λ x. other (x ∙ is));
  nonce = refl;
  call = updated_other s.call b _ d (λ x. other (x ∙ is));
  known_size = refl;
  commit = updated_other s.commit b _ d (λ x. other (x ∙ is));
  out = refl;
}
client_by_client d c other s (Grants b number rw range extending) is = absurd is
client_by_client d c other s (Refuses b kind) is = absurd is
client_by_client d c other s (ServesOther b) is = absurd is
client_by_client d c other s (Frees b) is = absurd is
client_by_client d c other s Fences is = absurd is
client_by_client d c other s (SetsTag k) is = absurd is
client_by_client d c other s Fenced is = absurd is
client_by_client d c other s Refenced is = absurd is
client_by_client d c other s (Performs m) is = absurd is
client_by_client d c other s (Shows j k) is = absurd is
client_by_client d c other s (Fails k) is = absurd is
client_by_client d c other s (Drops k) is = absurd is
client_by_client d c other s (Declares k) is = absurd is
client_by_client d c other s (Loses b k) is = absurd is
client_by_client d c other s (Leaves b g) is = absurd is
client_by_client d c other s (PerformsLost m) is = absurd is
client_by_client d c other s (Commits b j g) is = absurd is
client_by_client d c other s (RefusesCommit b j) is = absurd is
client_by_client d c other s (Repairs k cells a_) is = absurd is
client_by_client d c other s (Repaired done a_) is = absurd is
client_by_client d c other s (Rebuilds k cells) is = absurd is
client_by_client d c other s a_ is = client_same d s

-- A client's events leave what another has.
pub client_by_clients : (d c : ℕ) → (d ≡ c → ⊥) → (s : State) (es : List Event) → AreAll (IsOfClient c) es
    → ClientStays d s (after_all s es)
client_by_clients d c other =
    related_by_all (IsOfClient c) (ClientStays d) (client_same d) (client_more d) (client_by_client d c other)

pub client_by_step : (d : ℕ) (asker : Option ℕ) → (asker ≡ Some d → ⊥) → (s : State) (e : Event) → IsOfServer asker e
    → ClientStays d s (after s e)
client_by_step d asker other s (Acknowledges b j) is = record {
  sequence = refl;
  waiting = refl;
  away = refl;
  asked = refl;
  held = refl;
  nonce = refl;
  call = updated_other s.call b _ d (λ x. other (is ∙ ap Some (sym x)));
  known_size = refl;
  commit = refl;
  out = refl;
}
client_by_step d asker other s (Leaves b g) is = record {
  sequence = refl;
  waiting = refl;
  away = refl;
  asked = refl;
  held = updated_other s.held b _ d (λ x. other (is ∙ ap Some (sym x)));
  nonce = refl;
  call = refl;
  known_size = refl;
  commit = refl;
  out = refl;
}
client_by_step d asker other s (Commits b j g) is = record {
  sequence = refl;
  waiting = refl;
  away = refl;
  asked = refl;
  held = refl;
  nonce = refl;
  call = refl;
  known_size = refl;
  commit = updated_other s.commit b _ d (λ x. other (is ∙ ap Some (sym x)));
  out = refl;
}
client_by_step d asker other s (RefusesCommit b j) is = record {
  sequence = refl;
  waiting = refl;
  away = refl;
  asked = refl;
  held = refl;
  nonce = refl;
  call = refl;
  known_size = refl;
  commit = updated_other s.commit b _ d (λ x. other (is ∙ ap Some (sym x)));
  out = refl;
}
client_by_step d asker other s (Asks b rw) is = absurd is
client_by_step d asker other s (Takes b o size) is = absurd is
client_by_step d asker other s (AsksOther b) is = absurd is
client_by_step d asker other s (TakesOther b) is = absurd is
client_by_step d asker other s (GivesBack b g) is = absurd is
client_by_step d asker other s (Reports b g) is = absurd is
client_by_step d asker other s (Forgets b) is = absurd is
client_by_step d asker other s (SetsTag k) is = absurd is
client_by_step d asker other s (StartsWrite b g i bytes touch hit seen past part) is = absurd is
client_by_step d asker other s (Sends b k g j i v) is = absurd is
client_by_step d asker other s (Performs m) is = absurd is
client_by_step d asker other s (Learns b k j v i) is = absurd is
client_by_step d asker other s (Breaks b j) is = absurd is
client_by_step d asker other s (StartsRead b g lo hi reach) is = absurd is
client_by_step d asker other s (Shows j k) is = absurd is
client_by_step d asker other s (Answers b j bytes) is = absurd is
client_by_step d asker other s (EndsRead b j) is = absurd is
client_by_step d asker other s (Tells j) is = absurd is
client_by_step d asker other s (PerformsLost m) is = absurd is
client_by_step d asker other s (AsksCommit b j) is = absurd is
client_by_step d asker other s (TakesCommit b j) is = absurd is
client_by_step d asker other s (TakesRefusal b j) is = absurd is
client_by_step d asker other s (Repairs k cells a_) is = absurd is
client_by_step d asker other s a_ is = client_same d s

-- The server's events leave what a client has on whose request it doesn't act.
pub client_by_server : (d : ℕ) (asker : Option ℕ) → (asker ≡ Some d → ⊥) → (s : State) (es : List Event)
    → AreAll (IsOfServer asker) es → ClientStays d s (after_all s es)
client_by_server d asker other =
    related_by_all (IsOfServer asker) (ClientStays d) (client_same d) (client_more d) (client_by_step d asker other)

pub client_by_drive : (d : ℕ) (s : State) (e : Event) → IsOfDrive e → ClientStays d s (after s e)
client_by_drive d s (Asks b rw) is = absurd is
client_by_drive d s (Grants b number rw range extending) is = absurd is
client_by_drive d s (Refuses b kind) is = absurd is
client_by_drive d s (Takes b o size) is = absurd is
client_by_drive d s (AsksOther b) is = absurd is
client_by_drive d s (ServesOther b) is = absurd is
client_by_drive d s (TakesOther b) is = absurd is
client_by_drive d s (GivesBack b g) is = absurd is
client_by_drive d s (Reports b g) is = absurd is
client_by_drive d s (Forgets b) is = absurd is
client_by_drive d s (Frees b) is = absurd is
client_by_drive d s Fences is = absurd is
client_by_drive d s Fenced is = absurd is
client_by_drive d s Refenced is = absurd is
client_by_drive d s (StartsWrite b g i bytes touch hit seen past part) is = absurd is
client_by_drive d s (Sends b k g j i v) is = absurd is
client_by_drive d s (Learns b k j v i) is = absurd is
client_by_drive d s (Acknowledges b j) is = absurd is
client_by_drive d s (Breaks b j) is = absurd is
client_by_drive d s (StartsRead b g lo hi reach) is = absurd is
client_by_drive d s (Answers b j bytes) is = absurd is
client_by_drive d s (EndsRead b j) is = absurd is
client_by_drive d s (Drops k) is = absurd is
client_by_drive d s (Declares k) is = absurd is
client_by_drive d s (Loses b k) is = absurd is
client_by_drive d s (Leaves b g) is = absurd is
client_by_drive d s (Tells j) is = absurd is
client_by_drive d s (PerformsLost m) is = absurd is
client_by_drive d s (AsksCommit b j) is = absurd is
client_by_drive d s (Commits b j g) is = absurd is
client_by_drive d s (RefusesCommit b j) is = absurd is
client_by_drive d s (TakesCommit b j) is = absurd is
client_by_drive d s (TakesRefusal b j) is = absurd is
client_by_drive d s (Repaired done a_) is = absurd is
client_by_drive d s (Rebuilds k cells) is = absurd is
client_by_drive d s a_ is = client_same d s

-- Those of drives leave what any client has.
pub client_by_drives : (d : ℕ) (s : State) (es : List Event) → AreAll IsOfDrive es → ClientStays d s (after_all s es)
client_by_drives d = related_by_all IsOfDrive (ClientStays d) (client_same d) (client_more d) (client_by_drive d)

pub slot_same : (d : ℕ) (s : State) → SlotStays d s s
slot_same d s = record {
  slot = refl;
  kept_grant = refl;
  kept_size = refl;
}

pub slot_more : (d : ℕ) (s t u : State) → SlotStays d s t → SlotStays d t u → SlotStays d s u
slot_more d s t u a b = record {
  slot = b.slot ∙ a.slot;
  kept_grant = b.kept_grant ∙ a.kept_grant;
  kept_size = b.kept_size ∙ a.kept_size;
}

pub slot_by_step : (d : ℕ) (asker : Option ℕ) → (asker ≡ Some d → ⊥) → (s : State) (e : Event) → IsOfServer asker e
    → SlotStays d s (after s e)
slot_by_step d asker other s (Grants b number rw range extending) is = record {
  slot = updated_other s.slot b _ d (λ x. other (is ∙ ap Some (sym x)));
  kept_grant = updated_other s.kept_grant b _ d (λ x. other (is ∙ ap Some (sym x)));
  kept_size = updated_other s.kept_size b _ d (λ x. other (is ∙ ap Some (sym x)));
}
slot_by_step d asker other s (Refuses b kind) is = record {
  slot = updated_other s.slot b _ d (λ x. other (is ∙ ap Some (sym x)));
  kept_grant = updated_other s.kept_grant b _ d (λ x. other (is ∙ ap Some (sym x)));
  kept_size = updated_other s.kept_size b _ d (λ x. other (is ∙ ap Some (sym x)));
}
slot_by_step d asker other s (ServesOther b) is = record {
  slot = updated_other s.slot b _ d (λ x. other (is ∙ ap Some (sym x)));
  kept_grant = refl;
  kept_size = refl;
}
slot_by_step d asker other s (Frees b) is = record {
  slot = updated_other s.slot b _ d (λ x. other (is ∙ ap Some (sym x)));
  kept_grant = updated_other s.kept_grant b _ d (λ x. other (is ∙ ap Some (sym x)));
  kept_size = updated_other s.kept_size b _ d (λ x. other (is ∙ ap Some (sym x)));
}
slot_by_step d asker other s (Asks b rw) is = absurd is
slot_by_step d asker other s (Takes b o size) is = absurd is
slot_by_step d asker other s (AsksOther b) is = absurd is
slot_by_step d asker other s (TakesOther b) is = absurd is
slot_by_step d asker other s (GivesBack b g) is = absurd is
slot_by_step d asker other s (Reports b g) is = absurd is
slot_by_step d asker other s (Forgets b) is = absurd is
slot_by_step d asker other s (SetsTag k) is = absurd is
slot_by_step d asker other s (StartsWrite b g i bytes touch hit seen past part) is = absurd is
slot_by_step d asker other s (Sends b k g j i v) is = absurd is
slot_by_step d asker other s (Performs m) is = absurd is
slot_by_step d asker other s (Learns b k j v i) is = absurd is
slot_by_step d asker other s (Breaks b j) is = absurd is
slot_by_step d asker other s (StartsRead b g lo hi reach) is = absurd is
slot_by_step d asker other s (Shows j k) is = absurd is
slot_by_step d asker other s (Answers b j bytes) is = absurd is
slot_by_step d asker other s (EndsRead b j) is = absurd is
slot_by_step d asker other s (Tells j) is = absurd is
slot_by_step d asker other s (PerformsLost m) is = absurd is
slot_by_step d asker other s (AsksCommit b j) is = absurd is
slot_by_step d asker other s (TakesCommit b j) is = absurd is
slot_by_step d asker other s (TakesRefusal b j) is = absurd is
slot_by_step d asker other s (Repairs k cells a_) is = absurd is
slot_by_step d asker other s a_ is = slot_same d s

-- The server's events leave its slot for another client.
pub slot_by_server : (d : ℕ) (asker : Option ℕ) → (asker ≡ Some d → ⊥) → (s : State) (es : List Event)
    → AreAll (IsOfServer asker) es → SlotStays d s (after_all s es)
slot_by_server d asker other =
    related_by_all (IsOfServer asker) (SlotStays d) (slot_same d) (slot_more d) (slot_by_step d asker other)
