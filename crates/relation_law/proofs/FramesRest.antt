-- What the events of the server and of drives leave as it was: what clients sent, what the server keeps, what drives told.
use Rattle.std.proofs.Common.{ℕ, List, Option, refl, ◌∙◌}
use Rattle.fence_law.specs.State.{State, Event}
use Rattle.fence_law.specs.State.Event.{Asks, Grants, Refuses, Takes, AsksOther, ServesOther, TakesOther, GivesBack, Reports, Forgets, Frees, Fences, SetsTag, Fenced, Refenced, StartsWrite, Sends, Performs, Learns, Acknowledges, Breaks, StartsRead, Shows, Answers, EndsRead, Drops, Declares, Loses, Leaves, Tells, PerformsLost, AsksCommit, Commits, RefusesCommit, TakesCommit, TakesRefusal, Repairs, Repaired, Rebuilds}
use Rattle.fence_law.specs.Machine.{after, after_all}
use Rattle.relation_law.specs.Frames.{AreAll, IsOfServer, IsOfDrive, ClientsStay, KeptStays, RepliesStay}
use Rattle.relation_law.proofs.FramesStay.{related_by_all}

-- ---- what clients sent and asked

pub clients_same : (s : State) → ClientsStay s s
clients_same s = record {
  sequence = refl;
  waiting = refl;
  away = refl;
  asked = refl;
  nonce = refl;
  known_size = refl;
  out = refl;
  requests = refl;
  writes = refl;
  told_client = refl;
}

pub clients_more : (s t u : State) → ClientsStay s t → ClientsStay t u → ClientsStay s u
clients_more s t u a b = record {
  sequence = b.sequence ∙ a.sequence;
  waiting = b.waiting ∙ a.waiting;
  away = b.away ∙ a.away;
  asked = b.asked ∙ a.asked;
  nonce = b.nonce ∙ a.nonce;
  known_size = b.known_size ∙ a.known_size;
  out = b.out ∙ a.out;
  requests = b.requests ∙ a.requests;
  writes = b.writes ∙ a.writes;
  told_client = b.told_client ∙ a.told_client;
}

pub clients_by_step : (asker : Option ℕ) (s : State) (e : Event) → IsOfServer asker e → ClientsStay s (after s e)
clients_by_step asker s (Asks b rw) is = absurd is
clients_by_step asker s (Takes b o size) is = absurd is
clients_by_step asker s (AsksOther b) is = absurd is
clients_by_step asker s (TakesOther b) is = absurd is
clients_by_step asker s (GivesBack b g) is = absurd is
clients_by_step asker s (Reports b g) is = absurd is
clients_by_step asker s (Forgets b) is = absurd is
clients_by_step asker s (SetsTag k) is = absurd is
clients_by_step asker s (StartsWrite b g i bytes touch hit seen past part) is = absurd is
clients_by_step asker s (Sends b k g j i v) is = absurd is
clients_by_step asker s (Performs m) is = absurd is
clients_by_step asker s (Learns b k j v i) is = absurd is
clients_by_step asker s (Breaks b j) is = absurd is
clients_by_step asker s (StartsRead b g lo hi reach) is = absurd is
clients_by_step asker s (Shows j k) is = absurd is
clients_by_step asker s (Answers b j bytes) is = absurd is
clients_by_step asker s (EndsRead b j) is = absurd is
clients_by_step asker s (Tells j) is = absurd is
clients_by_step asker s (PerformsLost m) is = absurd is
clients_by_step asker s (AsksCommit b j) is = absurd is
clients_by_step asker s (TakesCommit b j) is = absurd is
clients_by_step asker s (TakesRefusal b j) is = absurd is
clients_by_step asker s (Repairs k cells a_) is = absurd is
clients_by_step asker s a_ is = clients_same s

-- The server's events leave what clients sent and asked.
pub clients_by_server : (asker : Option ℕ) (s : State) (es : List Event) → AreAll (IsOfServer asker) es
    → ClientsStay s (after_all s es)
clients_by_server asker = related_by_all (IsOfServer asker) ClientsStay clients_same clients_more (clients_by_step asker)

-- ---- what the server keeps

pub kept_same : (s : State) → KeptStays s s
kept_same s = record {
  layout = refl;
  gone = refl;
  dropped = refl;
  missing = refl;
  fencing = refl;
  repairing = refl;
  ended_tag = refl;
  repaired_at = refl;
  tag = refl;
  outstanding = refl;
  next = refl;
  granted_since = refl;
  slot = refl;
  kept_grant = refl;
  kept_size = refl;
  size = refl;
  answers = refl;
  set_tags = refl;
  held = refl;
  call = refl;
  commit = refl;
}

pub kept_more : (s t u : State) → KeptStays s t → KeptStays t u → KeptStays s u
kept_more s t u a b = record {
  layout = b.layout ∙ a.layout;
  gone = b.gone ∙ a.gone;
  dropped = b.dropped ∙ a.dropped;
  missing = b.missing ∙ a.missing;
  fencing = b.fencing ∙ a.fencing;
  repairing = b.repairing ∙ a.repairing;
  ended_tag = b.ended_tag ∙ a.ended_tag;
  repaired_at = b.repaired_at ∙ a.repaired_at;
  tag = b.tag ∙ a.tag;
  outstanding = b.outstanding ∙ a.outstanding;
  next = b.next ∙ a.next;
  granted_since = b.granted_since ∙ a.granted_since;
  slot = b.slot ∙ a.slot;
  kept_grant = b.kept_grant ∙ a.kept_grant;
  kept_size = b.kept_size ∙ a.kept_size;
  size = b.size ∙ a.size;
  answers = b.answers ∙ a.answers;
  set_tags = b.set_tags ∙ a.set_tags;
  held = b.held ∙ a.held;
  call = b.call ∙ a.call;
  commit = b.commit ∙ a.commit;
}

pub kept_by_drive : (s : State) (e : Event) → IsOfDrive e → KeptStays s (after s e)
kept_by_drive s (Asks b rw) is = absurd is
kept_by_drive s (Grants b number rw range extending) is = absurd is
kept_by_drive s (Refuses b kind) is = absurd is
kept_by_drive s (Takes b o size) is = absurd is
kept_by_drive s (AsksOther b) is = absurd is
kept_by_drive s (ServesOther b) is = absurd is
kept_by_drive s (TakesOther b) is = absurd is
kept_by_drive s (GivesBack b g) is = absurd is
kept_by_drive s (Reports b g) is = absurd is
kept_by_drive s (Forgets b) is = absurd is
kept_by_drive s (Frees b) is = absurd is
kept_by_drive s Fences is = absurd is
kept_by_drive s Fenced is = absurd is
kept_by_drive s Refenced is = absurd is
kept_by_drive s (StartsWrite b g i bytes touch hit seen past part) is = absurd is
kept_by_drive s (Sends b k g j i v) is = absurd is
kept_by_drive s (Learns b k j v i) is = absurd is
kept_by_drive s (Acknowledges b j) is = absurd is
kept_by_drive s (Breaks b j) is = absurd is
kept_by_drive s (StartsRead b g lo hi reach) is = absurd is
kept_by_drive s (Answers b j bytes) is = absurd is
kept_by_drive s (EndsRead b j) is = absurd is
kept_by_drive s (Drops k) is = absurd is
kept_by_drive s (Declares k) is = absurd is
kept_by_drive s (Loses b k) is = absurd is
kept_by_drive s (Leaves b g) is = absurd is
kept_by_drive s (Tells j) is = absurd is
kept_by_drive s (PerformsLost m) is = absurd is
kept_by_drive s (AsksCommit b j) is = absurd is
kept_by_drive s (Commits b j g) is = absurd is
kept_by_drive s (RefusesCommit b j) is = absurd is
kept_by_drive s (TakesCommit b j) is = absurd is
kept_by_drive s (TakesRefusal b j) is = absurd is
kept_by_drive s (Repaired done a_) is = absurd is
kept_by_drive s (Rebuilds k cells) is = absurd is
kept_by_drive s a_ is = kept_same s

-- Events of drives leave what the server keeps, and the calls and grants of clients.
pub kept_by_drives : (s : State) (es : List Event) → AreAll IsOfDrive es → KeptStays s (after_all s es)
kept_by_drives = related_by_all IsOfDrive KeptStays kept_same kept_more kept_by_drive

-- ---- what drives told

pub replies_same : (s : State) → RepliesStay s s
replies_same s = record {
  layout = refl;
  last_nonce = refl;
  replies = refl;
  shown = refl;
  tag_replies = refl;
}

pub replies_more : (s t u : State) → RepliesStay s t → RepliesStay t u → RepliesStay s u
replies_more s t u a b = record {
  layout = b.layout ∙ a.layout;
  last_nonce = b.last_nonce ∙ a.last_nonce;
  replies = b.replies ∙ a.replies;
  shown = b.shown ∙ a.shown;
  tag_replies = b.tag_replies ∙ a.tag_replies;
}

pub replies_by_step : (asker : Option ℕ) (s : State) (e : Event) → IsOfServer asker e → RepliesStay s (after s e)
replies_by_step asker s (Asks b rw) is = absurd is
replies_by_step asker s (Takes b o size) is = absurd is
replies_by_step asker s (AsksOther b) is = absurd is
replies_by_step asker s (TakesOther b) is = absurd is
replies_by_step asker s (GivesBack b g) is = absurd is
replies_by_step asker s (Reports b g) is = absurd is
replies_by_step asker s (Forgets b) is = absurd is
replies_by_step asker s (SetsTag k) is = absurd is
replies_by_step asker s (StartsWrite b g i bytes touch hit seen past part) is = absurd is
replies_by_step asker s (Sends b k g j i v) is = absurd is
replies_by_step asker s (Performs m) is = absurd is
replies_by_step asker s (Learns b k j v i) is = absurd is
replies_by_step asker s (Breaks b j) is = absurd is
replies_by_step asker s (StartsRead b g lo hi reach) is = absurd is
replies_by_step asker s (Shows j k) is = absurd is
replies_by_step asker s (Answers b j bytes) is = absurd is
replies_by_step asker s (EndsRead b j) is = absurd is
replies_by_step asker s (Tells j) is = absurd is
replies_by_step asker s (PerformsLost m) is = absurd is
replies_by_step asker s (AsksCommit b j) is = absurd is
replies_by_step asker s (TakesCommit b j) is = absurd is
replies_by_step asker s (TakesRefusal b j) is = absurd is
replies_by_step asker s (Repairs k cells a_) is = absurd is
replies_by_step asker s a_ is = replies_same s

-- Events of the server leave what drives told and performed of clients' commands.
pub replies_by_server : (asker : Option ℕ) (s : State) (es : List Event) → AreAll (IsOfServer asker) es
    → RepliesStay s (after_all s es)
replies_by_server asker = related_by_all (IsOfServer asker) RepliesStay replies_same replies_more (replies_by_step asker)
