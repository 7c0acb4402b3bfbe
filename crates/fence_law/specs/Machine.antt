-- The steps of the machine of one striped file: clients under layouts, a server that grants, fences and repairs,
-- drives, the network between them, and the file's log.
use Rattle.std.specs.Prelude.{◌≡◌, ℕ, max, min, ◌-◌, ◌+◌, ◌<◌, ◌≤◌, true, false, cond, ◌||◌, ◌==◌, List, [], ◌∷◌, Some, None, ◌⊎◌}
use Rattle.fence_law.specs.Words.{updated, In, over}
use Rattle.fence_law.specs.State.{State, Layout, Event, Grant, ReadReply}
use Rattle.fence_law.specs.State.RequestKind.{Get, Return}
use Rattle.fence_law.specs.State.Call.{Idle, Writes, Reads, Broken}
use Rattle.fence_law.specs.State.Commit.{NoCommit, CommitAsked, CommitDone, CommitRefused}
use Rattle.fence_law.specs.State.PartState.{NotSent, Sent, Done}
use Rattle.fence_law.specs.State.Event.{Asks, Grants, Refuses, Takes, AsksOther, ServesOther, TakesOther, GivesBack, Reports, Forgets, Frees, Fences, SetsTag, Fenced, Refenced, StartsWrite, Sends, Performs, Learns, Acknowledges, Breaks, StartsRead, Shows, Answers, EndsRead, Fails, Drops, Declares, Loses, Leaves, Tells, PerformsLost, AsksCommit, Commits, RefusesCommit, TakesCommit, TakesRefusal, Repairs, Repaired, Rebuilds}
use Rattle.fence_law.specs.Columns.{spans, overlaid, only, AreBytes, Agrees, Stands, Short, Stood, Untouched, NotClean, HaveNextTag}
use Rattle.fence_law.specs.Starts.{performed, granted, written_start, read_start, repair_start, rebuilt_start, settled}

-- when an event can happen: a name for each part of its guard
abbrev pub Allowed : State → Event → Type 0
Allowed b (Asks c rw) = record {
  free : b.waiting c ≡ false;
  home : b.away c ≡ false;
  none : b.held c ≡ None;
  idle : b.call c ≡ Idle;
}
Allowed b (Grants c number rw range extending) = record {
  new : b.next ≤ number;
  asks : In (record { client = c; sequence = b.slot c + 1; kind = Get rw }) b.requests;
  over : b.fencing ≡ false;
  repaired : b.repairing ≡ false;
  none : b.outstanding c ≡ None;
  apart : (d : ℕ) (g : Grant) → b.outstanding d ≡ Some g → (x : ℕ) → range x ≡ true → g.covers x ≡ true →
      (rw || g.rw) ≡ false;
  apart_ext : (d : ℕ) (g : Grant) → b.outstanding d ≡ Some g → (extending || g.extending) ≡ false;
}
Allowed b (Refuses c kind) = record {
  asks : In (record { client = c; sequence = b.slot c + 1; kind = kind }) b.requests;
  unclean : NotClean kind;
}
Allowed b (Takes c o s0) = record {
  waits : b.waiting c ≡ true;
  comes : In (record { client = c; sequence = b.sequence c; grant = o; size = s0 }) b.answers;
}
Allowed b (AsksOther c) = record { free : b.waiting c ≡ false; home : b.away c ≡ false }
Allowed b (ServesOther c) = record {
  free : b.waiting c ≡ false;
  out : b.away c ≡ true;
  next : b.slot c + 1 ≡ b.sequence c;
}
Allowed b (TakesOther c) = record { out : b.away c ≡ true; served : b.slot c ≡ b.sequence c }
Allowed b (GivesBack c g) = record {
  free : b.waiting c ≡ false;
  home : b.away c ≡ false;
  has : b.held c ≡ Some g;
  idle : b.call c ≡ Idle;
}
Allowed b (Reports c g) = record {
  free : b.waiting c ≡ false;
  home : b.away c ≡ false;
  has : b.held c ≡ Some g;
  broken : b.call c ≡ Broken;
}
Allowed b (Forgets c) = record { free : b.waiting c ≡ false; plain : b.commit c ≡ NoCommit }
Allowed b (Frees c) = In (record { client = c; sequence = b.slot c + 1; kind = Return true }) b.requests
Allowed b Fences = record { over : b.fencing ≡ false }
Allowed b (SetsTag k) = In (b.object_tag k) b.set_tags
Allowed b Fenced = record {
  runs : b.fencing ≡ true;
  first : b.repairing ≡ false;
  all : HaveNextTag b;
}
Allowed b Refenced = record {
  runs : b.fencing ≡ true;
  again : b.repairing ≡ true;
  all : HaveNextTag b;
}
Allowed b (StartsWrite c g i d touch hit seen e1 part) = record {
  some : (p v : ℕ) × (d p ≡ Some v) × (p + 1 ≡ e1);
  ends : (p v : ℕ) → d p ≡ Some v → p < e1;
  room : (g.extending ≡ true) ⊎ (e1 ≤ b.known_size c);
  has : b.held c ≡ Some g;
  may : g.rw ≡ true;
  gathers : b.call c ≡ Reads i;
  gathered : (x : ℕ) → touch x ≡ true → (b.start i).reach x ≡ true;
  touches : (p v : ℕ) → d p ≡ Some v → touch (b.layout.col p) ≡ true;
  hits : (k z : ℕ) → hit k z ≡ true → (b.layout.is_cell k z ≡ true) × (touch (b.layout.cell_col k z) ≡ true);
  lands : (p v : ℕ) → d p ≡ Some v → (k z : ℕ) × (hit k z ≡ true) × (b.layout.cell_col k z ≡ b.layout.col p);
  misses : (k z : ℕ) → b.layout.is_cell k z ≡ true → g.left k ≡ false → hit k z ≡ false → (e : ℕ → ℕ) →
      b.layout.word k z (overlaid d e) ≡ b.layout.word k z e;
  bytes : (p v : ℕ) → d p ≡ Some v → v < 256;
  sees : (k z : ℕ) → hit k z ≡ true → (e : ℕ → ℕ) → AreBytes e → Agrees b i (b.layout.cell_col k z) e →
      b.layout.word k z (overlaid d seen) ≡ b.layout.word k z (overlaid d e);
}
Allowed b (Sends c k g j i v) = record {
  new : b.nonce c < v;
  runs : b.call c ≡ Writes j;
  has : b.held c ≡ Some g;
  listed : (b.start j).left k ≡ false;
  first : b.out c k i ≡ NotSent;
}
Allowed b (Performs m) = record {
  comes : In m b.writes;
  there : m.at < b.layout.components;
  stands : b.lost m.at ≡ false;
  here : b.gone m.at ≡ false;
  right : m.tag ≡ b.object_tag m.at;
  new : b.last_nonce m.at m.holder < m.nonce;
}
Allowed b (Learns c k j v i) = record {
  runs : b.call c ≡ Writes j;
  sent : b.out c k i ≡ Sent v;
  comes : In (record { holder = c; nonce = v; at = k }) b.replies;
}
Allowed b (Acknowledges c j) = record {
  runs : b.call c ≡ Writes j;
  plain : b.commit c ≡ NoCommit;
  fits : ((b.start j).end_ ≤ (b.start j).clip) ⊎ (b.committed j ≡ true);
  told : (k i v : ℕ) → b.out c k i ≡ Sent v → b.gone k ≡ true;
  all : (k z v : ℕ) → (b.start j).content k z ≡ Some v → (b.out c k ((b.start j).part k z) ≡ Done) ⊎
      ((b.gone k ≡ true) × ((b.start j).tag ≡ b.tag));
}
Allowed b (Breaks c j) = record { runs : b.call c ≡ Writes j; plain : b.commit c ≡ NoCommit }
Allowed b (StartsRead c g lo hi reach) = record {
  has : b.held c ≡ Some g;
  idle : b.call c ≡ Idle;
  within : (x : ℕ) → reach x ≡ true → g.covers x ≡ true;
  reaches : (p : ℕ) → spans lo (min hi (b.known_size c) - lo) p ≡ true → reach (b.layout.col p) ≡ true;
}
Allowed b (Shows j k) = record {
  client : (b.start j).server ≡ false;
  in_log : j < b.count;
  right : (b.start j).tag ≡ b.object_tag k;
  there : k < b.layout.components;
  stands : b.lost k ≡ false;
}
Allowed b (Answers c j f) = record {
  runs : b.call c ≡ Reads j;
  told : (r : ReadReply) × In r b.shown × (r.entry ≡ j);
  all : (p : ℕ) → (b.start j).wanted p ≡ true → (d : ℕ → ℕ) → AreBytes d → Agrees b j (b.layout.col p) d → f p ≡ d p;
}
Allowed b (EndsRead c j) = b.call c ≡ Reads j
Allowed b (Fails k) = Unit {0}
Allowed b (Loses c k) = record {
  over : b.fencing ≡ false;
  repaired : b.repairing ≡ false;
  has : (g : Grant) × (b.outstanding c ≡ Some g);
  only : (d : ℕ) → (d ≡ c → ⊥) → b.outstanding d ≡ None;
}
Allowed b (Leaves c g) = record { has : b.held c ≡ Some g; idle : b.call c ≡ Idle }
Allowed b (Tells j) = record { low : j < b.count; on : b.acknowledged j ≡ true }
Allowed b (PerformsLost m) = record {
  comes : In m b.writes;
  there : m.at < b.layout.components;
  lost : b.gone m.at ≡ true;
  right : m.tag ≡ b.object_tag m.at;
  new : b.last_nonce m.at m.holder < m.nonce;
}
Allowed b (Declares k) = b.lost k ≡ true
Allowed b (Drops k) = record {
  there : k < b.layout.components;
  stands : b.lost k ≡ false;
  over : b.fencing ≡ false;
  unused : b.granted_since ≡ false;
}
Allowed b (AsksCommit c j) = record { runs : b.call c ≡ Writes j; plain : b.commit c ≡ NoCommit }
Allowed b (Commits c j g) = record {
  asks : b.commit c ≡ CommitAsked j;
  live : b.outstanding c ≡ Some g;
  extending : g.extending ≡ true;
  over : b.fencing ≡ false;
}
Allowed b (RefusesCommit c j) = b.commit c ≡ CommitAsked j
Allowed b (TakesCommit c j) = b.commit c ≡ CommitDone j
Allowed b (TakesRefusal c j) = b.commit c ≡ CommitRefused j
Allowed b (Repairs k cells e) = record {
  at_work : b.repairing ≡ true;
  stands : b.lost k ≡ false;
  all : (z q : ℕ) → cells z ≡ true → b.layout.col q ≡ b.layout.cell_col k z → (f y : ℕ) × (b.layout.copy f y q ≡ true) ×
      (b.gone f ≡ false) × (e q ≡ b.cell f y);
}
Allowed b (Repaired done e) = record {
  runs : b.repairing ≡ true;
  left : (x : ℕ) → done x ≡ false → Short b x;
  right : (x : ℕ) → done x ≡ true → Stands b x e;
  copies : (q : ℕ) → done (b.layout.col q) ≡ true → (f y : ℕ) × (b.layout.copy f y q ≡ true) × (b.lost f ≡ false);
}
Allowed b (Rebuilds k cells) = record {
  gone : b.lost k ≡ true;
  over : b.fencing ≡ false;
  repaired : b.repairing ≡ false;
  unused : b.granted_since ≡ false;
  none : (c : ℕ) → b.outstanding c ≡ None;
  right : (z : ℕ) → b.layout.is_cell k z ≡ true →
      ((d : ℕ → ℕ) → AreBytes d → Stood b (b.layout.cell_col k z) d → cells z ≡ b.layout.word k z d) ⊎
      (Untouched b (b.layout.cell_col k z) × (cells z ≡ 0));
}

-- what an event changes: its guard has decided
abbrev pub after : State → Event → State
after b (Asks c rw) = record b {
  sequence = updated b.sequence c (b.sequence c + 1);
  waiting = updated b.waiting c true;
  asked = updated b.asked c (Get rw);
  requests = record { client = c; sequence = b.sequence c + 1; kind = Get rw } ∷ b.requests;
}
after b (Grants c number rw range extending) = record b {
  kept_size = updated b.kept_size c b.size;
  slot = updated b.slot c (b.slot c + 1);
  kept_grant = updated b.kept_grant c (Some (granted b c number rw range extending));
  outstanding = updated b.outstanding c (Some (granted b c number rw range extending));
  next = number + 1;
  granted_since = true;
  gone = λ k. b.gone k || b.missing k;
  answers = record {
    client = c;
    sequence = b.slot c + 1;
    grant = Some (granted b c number rw range extending);
    size = b.size;
  } ∷ b.answers;
}
after b (Refuses c kind) = record b {
  kept_size = updated b.kept_size c b.size;
  slot = updated b.slot c (b.slot c + 1);
  kept_grant = updated b.kept_grant c None;
  answers = record { client = c; sequence = b.slot c + 1; grant = None; size = b.size } ∷ b.answers;
}
after b (Takes c o s0) = record b {
  known_size = updated b.known_size c s0;
  waiting = updated b.waiting c false;
  held = updated b.held c o;
}
after b (AsksOther c) = record b { sequence = updated b.sequence c (b.sequence c + 1); away = updated b.away c true }
after b (ServesOther c) = record b { slot = updated b.slot c (b.slot c + 1) }
after b (TakesOther c) = record b { away = updated b.away c false }
after b (GivesBack c g) = record b {
  held = updated b.held c None;
  sequence = updated b.sequence c (b.sequence c + 1);
  waiting = updated b.waiting c true;
  asked = updated b.asked c (Return true);
  requests = record { client = c; sequence = b.sequence c + 1; kind = Return true } ∷ b.requests;
}
after b (Reports c g) = record b {
  held = updated b.held c None;
  call = updated b.call c Idle;
  sequence = updated b.sequence c (b.sequence c + 1);
  waiting = updated b.waiting c true;
  asked = updated b.asked c (Return false);
  requests = record { client = c; sequence = b.sequence c + 1; kind = Return false } ∷ b.requests;
}
after b (Forgets c) = record b { held = updated b.held c None; call = updated b.call c Idle }
after b (Frees c) = record b {
  kept_size = updated b.kept_size c b.size;
  slot = updated b.slot c (b.slot c + 1);
  kept_grant = updated b.kept_grant c None;
  outstanding = updated b.outstanding c None;
  answers = record { client = c; sequence = b.slot c + 1; grant = None; size = b.size } ∷ b.answers;
}
after b Fences = record b { fencing = true; set_tags = b.tag ∷ b.set_tags }
after b (SetsTag k) = record b {
  object_tag = updated b.object_tag k (b.object_tag k + 1);
  tag_replies = (k, b.object_tag k + 1) ∷ b.tag_replies;
}
after b Refenced = record b { tag = b.tag + 1; fencing = false; outstanding = λ c. None; granted_since = false }
after b Fenced = record b {
  tag = b.tag + 1;
  ended_tag = b.tag;
  fencing = false;
  repairing = true;
  gone = b.lost;
  outstanding = λ c. None;
  granted_since = false;
}
after b (StartsWrite c g i d touch hit seen e1 part) = record b {
  count = b.count + 1;
  start = updated b.start b.count (written_start b c g d touch hit seen e1 part);
  applied = updated b.applied b.count (λ k z. false);
  chosen = updated b.chosen b.count (λ p. false);
  committed = updated b.committed b.count false;
  acknowledged = updated b.acknowledged b.count false;
  answer = updated b.answer b.count None;
  call = updated b.call c (Writes b.count);
  out = updated b.out c (λ k i2. NotSent);
}
after b (Sends c k g j i v) = record b {
  nonce = updated b.nonce c v;
  out = updated b.out c (updated (b.out c) k (updated (b.out c k) i (Sent v)));
  writes = record { holder = c; grant = g.number; tag = g.tag; nonce = v; at = k; entry = j; part = i } ∷ b.writes;
}
after b (Performs m) = record b {
  cell =
      updated b.cell m.at (λ z. over ((b.start m.entry).part m.at z == m.part) ((b.start m.entry).content m.at z)
      (b.cell m.at z));
  last_nonce = updated b.last_nonce m.at (updated (b.last_nonce m.at) m.holder m.nonce);
  replies = record { holder = m.holder; nonce = m.nonce; at = m.at } ∷ b.replies;
  applied = performed b m;
}
after b (Learns c k j v i) = record b { out = updated b.out c (updated (b.out c) k (updated (b.out c k) i Done)) }
after b (Acknowledges c j) = record b {
  acknowledged = updated b.acknowledged j true;
  chosen = updated b.chosen j (λ p. true);
  call = updated b.call c Idle;
}
after b (Breaks c j) = record b { call = updated b.call c Broken }
after b (StartsRead c g lo hi reach) = record b {
  count = b.count + 1;
  start = updated b.start b.count (read_start b c g lo hi reach);
  applied = updated b.applied b.count (λ k z. false);
  chosen = updated b.chosen b.count (λ p. false);
  committed = updated b.committed b.count false;
  acknowledged = updated b.acknowledged b.count false;
  answer = updated b.answer b.count None;
  call = updated b.call c (Reads b.count);
}
after b (Shows j k) = record b { shown = record { entry = j; at = k; cells = b.cell k } ∷ b.shown }
after b (Answers c j f) = record b { answer = updated b.answer j (Some f); call = updated b.call c Idle }
after b (EndsRead c j) = record b { call = updated b.call c Idle }
after b (Fails k) = record b { lost = updated b.lost k true }
after b (Drops k) = record b {
  lost = updated b.lost k true;
  dropped = updated b.dropped k true;
  missing = updated b.missing k true;
}
after b (Loses c k) = record b {
  lost = updated b.lost k true;
  missing = updated b.missing k true;
  gone = updated b.gone k true;
}
after b (Leaves c g) = record b { held = updated b.held c None; outstanding = updated b.outstanding c None }
after b (Tells j) = record b { told_client = updated b.told_client j true }
after b (PerformsLost m) = record b {
  cell =
      updated b.cell m.at (λ z. over ((b.start m.entry).part m.at z == m.part) ((b.start m.entry).content m.at z)
      (b.cell m.at z));
  last_nonce = updated b.last_nonce m.at (updated (b.last_nonce m.at) m.holder m.nonce);
}
after b (Declares k) = record b { missing = updated b.missing k true }
after b (AsksCommit c j) = record b { commit = updated b.commit c (CommitAsked j) }
after b (Commits c j g) = record b {
  commit = updated b.commit c (CommitDone j);
  size = max b.size (b.start j).end_;
  committed = updated b.committed j true;
}
after b (RefusesCommit c j) = record b { commit = updated b.commit c (CommitRefused j) }
after b (TakesCommit c j) = record b {
  commit = updated b.commit c NoCommit;
  known_size = updated b.known_size c (max (b.known_size c) (b.start j).end_);
}
after b (TakesRefusal c j) = record b {
  commit = updated b.commit c NoCommit;
  held = updated b.held c None;
  call = updated b.call c Idle;
}
after b (Repairs k cells e) = record b {
  count = b.count + 1;
  start = updated b.start b.count (repair_start b k cells e);
  applied = updated b.applied b.count (λ f y. updated (λ w. false) k true f);
  chosen = updated b.chosen b.count (λ p. false);
  committed = updated b.committed b.count false;
  acknowledged = updated b.acknowledged b.count false;
  answer = updated b.answer b.count None;
  cell = updated b.cell k (λ y. cond (cells y) (b.layout.word k y e) (b.cell k y));
}
after b (Repaired done e) = record b {
  repairing = false;
  gone = b.lost;
  repaired_at = λ x. cond (done x) b.count (b.repaired_at x);
  chosen = settled b done e;
}
after b (Rebuilds k cells) = record b {
  count = b.count + 1;
  start = updated b.start b.count (rebuilt_start b k cells);
  applied = updated b.applied b.count (λ f y. updated (λ w. false) k true f);
  chosen = updated b.chosen b.count (λ p. false);
  committed = updated b.committed b.count false;
  acknowledged = updated b.acknowledged b.count false;
  answer = updated b.answer b.count None;
  lost = updated b.lost k false;
  gone = updated b.gone k false;
  dropped = updated b.dropped k false;
  missing = updated b.missing k false;
  cell = updated b.cell k cells;
  object_tag = updated b.object_tag k b.tag;
}

-- after a list of events
abbrev pub after_all : State → List Event → State
after_all b [] = b
after_all b (e ∷ es) = after_all (after b e) es

-- each event is allowed where it comes
abbrev pub Lawful : State → List Event → Type 0
Lawful b [] = Unit {0}
Lawful b (e ∷ es) = Allowed b e × Lawful (after b e) es

-- a new file
abbrev pub new_file_state : Layout → State
new_file_state m = record {
  layout = m;
  object_tag = λ k. m.first_tag;
  last_nonce = λ k c. 0;
  cell = λ k z. 0;
  lost = λ k. false;
  gone = λ k. false;
  dropped = λ k. false;
  missing = λ k. false;
  granted_since = false;
  repairing = false;
  ended_tag = 0;
  repaired_at = λ x. 0;
  tag = m.first_tag;
  fencing = false;
  outstanding = λ c. None;
  next = 1;
  slot = λ c. 0;
  kept_grant = λ c. None;
  kept_size = λ c. 0;
  size = 0;
  known_size = λ c. 0;
  commit = λ c. NoCommit;
  committed = λ j. false;
  told_client = λ j. false;
  sequence = λ c. 0;
  waiting = λ c. false;
  away = λ c. false;
  asked = λ c. Get false;
  held = λ c. None;
  nonce = λ c. 0;
  call = λ c. Idle;
  out = λ c k i. NotSent;
  requests = [];
  answers = [];
  writes = [];
  replies = [];
  shown = [];
  set_tags = [];
  tag_replies = [];
  count = 0;
  start = λ j. record {
    client = 0;
    grant = 0;
    tag = 0;
    alive = false;
    is_write = false;
    is_read = false;
    server = false;
    end_ = 0;
    clip = 0;
    from_ = 0;
    to_ = 0;
    left = λ k. false;
    part = λ k z. 0;
    data_at = λ p. None;
    touch = λ x. false;
    reach = λ x. false;
    content = λ k z. None;
    wanted = λ p. false;
  };
  applied = λ j k z. false;
  chosen = λ j p. false;
  acknowledged = λ j. false;
  answer = λ j. None;
}

-- x
