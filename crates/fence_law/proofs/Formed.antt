-- Kept: what is fixed of an entry at its start agrees with the layout and the tags; what is gone is lost; no grant is outstanding
-- while a repair runs, and the tag that it settles is old.
-- The guards of the starts say it, and later events change no entry's start.
use Rattle.std.proofs.Common.{◌≡◌, ℕ, ◌+◌, ◌<◌, ◌≤◌, Bool, true, false, ◌==◌, Some, None, refl, sym, ◌∙◌, inl, inr, arith}
use Rattle.std.proofs.lemmas.Bool.{false_from_ne_true, eqb-false, true≢false, or_cases}
use Rattle.fence_law.specs.Words.{updated}
use Rattle.fence_law.specs.State.{State, Event, Grant, Call, Start}
use Rattle.fence_law.specs.Columns.{spans, overlaid, only}
use Rattle.fence_law.specs.Starts.{granted, written_start, read_start, repair_start, rebuilt_start}
use Rattle.fence_law.specs.Machine.{Allowed, after}
use Rattle.fence_law.specs.State.Call.{Idle, Writes, Reads, Broken}
use Rattle.fence_law.specs.State.Event.{Grants, Reports, Forgets, Frees, Fenced, Refenced, StartsWrite, StartsRead, Acknowledges, Breaks, Answers, EndsRead, Fails, Drops, Declares, Repairs, Repaired, Rebuilds, TakesRefusal, Loses, Leaves}
use Rattle.fence_law.specs.Log.{gives}
use Rattle.fence_law.specs.Law.{byte_before}
use Rattle.fence_law.specs.Columns.{AreBytes}
use Rattle.fence_law.proofs.Chains.{chain_low}
use Rattle.fence_law.proofs.Words.{up_on, updated_other, updated_read, updated_same}
use Rattle.fence_law.proofs.Holds.{Holds}
use Rattle.fence_law.proofs.Commands.{Calls}

-- a new entry, of which the components in this row are written at once
abbrev pub added : State → Start → (ℕ → ℕ → Bool) → State
added b s row = record b {
  count = b.count + 1;
  start = updated b.start b.count s;
  applied = updated b.applied b.count row;
  chosen = updated b.chosen b.count (λ p. false);
  committed = updated b.committed b.count false;
  acknowledged = updated b.acknowledged b.count false;
  answer = updated b.answer b.count None;
}

pub old_low : (b : State) (g : Grant) (c : ℕ) → b.held c ≡ Some g → Holds b → (g.tag == b.tag) ≡ false → g.tag < b.tag
old_low b g c has o e = grind (arith, o.has c g has, eqb-false g.tag b.tag e)

-- no grant is outstanding while a repair runs, and the writes that it settles have a tag below the file's
abbrev pub Mending : State → Type 0
Mending b =
    record { outstanding : (c : ℕ) → b.repairing ≡ true → b.outstanding c ≡ None; low : b.repairing ≡ true → b.ended_tag < b.tag }

pub keep_mending : (b : State) (e : Event) → Allowed b e → Mending b → Mending (after b e)
keep_mending b (Grants c number rw range extending) a h = record {
  outstanding =
      λ d m. grind (
        arith,
        updated_read b.outstanding c (Some (granted b c number rw range extending)) d,
        h.outstanding d m,
        a.repaired,
        m,
      );
  low = h.low;
}
keep_mending b (Leaves c g) a h =
    record { outstanding = λ d m. grind (arith, updated_read b.outstanding c None d, h.outstanding d m); low = h.low }
keep_mending b (Frees c) a h =
    record { outstanding = λ d m. grind (arith, updated_read b.outstanding c None d, h.outstanding d m); low = h.low }
keep_mending b Fenced a h = record { outstanding = λ d m. refl; low = λ m. omega arith }
keep_mending b Refenced a h = record { outstanding = λ d m. refl; low = λ m. let l = h.low m in omega (arith, l) }
keep_mending b (Repaired done e0) a h =
    record { outstanding = λ d m. absurd (true≢false (sym m)); low = λ m. absurd (true≢false (sym m)) }
keep_mending b e a h = h

-- what was lost is lost
abbrev pub Gone_lost : State → Type 0
Gone_lost b = (k : ℕ) → b.gone k ≡ true → b.lost k ≡ true

-- what layouts leave out is lost; whose drive lives though it was lost is left out
abbrev pub Missing_lost : State → Type 0
Missing_lost b =
    record { lost : (k : ℕ) → b.missing k ≡ true → b.lost k ≡ true; dropped : (k : ℕ) → b.dropped k ≡ true → b.missing k ≡ true }

pub keep_missing : (b : State) (e : Event) → Allowed b e → Missing_lost b → Missing_lost (after b e)
keep_missing b (Fails k0) a h =
    record { lost = λ k m. grind (arith, updated_read b.lost k0 true k, h.lost k m); dropped = h.dropped }
keep_missing b (Loses c k0) a h =
    record {
      lost = λ k m. grind (arith, updated_read b.lost k0 true k, updated_read b.missing k0 true k, h.lost k, m);
      dropped = λ k m. up_on b.missing k0 k (h.dropped k m);
    }
keep_missing b (Drops k0) a h =
    record {
      lost = λ k m. grind (arith, updated_read b.lost k0 true k, updated_read b.missing k0 true k, h.lost k, m);
      dropped = λ k m. grind (arith, updated_read b.dropped k0 true k, updated_read b.missing k0 true k, h.dropped k, m);
    }
keep_missing b (Declares k0) a h =
    record {
      lost = λ k m. grind (arith, updated_read b.missing k0 true k, h.lost k, m, a);
      dropped = λ k m. grind (
        arith,
        updated_read b.missing k0 true k,
        h.dropped k m,
      );
    }
keep_missing b (Rebuilds k0 cells) a h =
    record {
      lost = λ k m. grind (arith, updated_read b.lost k0 false k, updated_read b.missing k0 false k, h.lost k, m);
      dropped = λ k m. grind (arith, updated_read b.dropped k0 false k, updated_read b.missing k0 false k, h.dropped k, m);
    }
keep_missing b e a h = h

pub keep_gone_lost : (b : State) (e : Event) → Missing_lost b → Gone_lost b → Gone_lost (after b e)
keep_gone_lost b (Grants c number rw range extending) m h =
    λ k g. elim (or_cases (b.gone k) (b.missing k) g) [ inl x ↦ h k x | inr x ↦ m.lost k x ]
keep_gone_lost b Fenced m h = λ k g. g
keep_gone_lost b (Repaired done e0) m h = λ k g. g
keep_gone_lost b (Fails k0) m h = λ k g. grind (arith, updated_read b.lost k0 true k, h k g)
keep_gone_lost b (Loses c k0) m h = λ k g. grind (arith, updated_read b.lost k0 true k, updated_read b.gone k0 true k, h k, g)
keep_gone_lost b (Drops k0) m h = λ k g. grind (arith, updated_read b.lost k0 true k, h k g)
keep_gone_lost b (Rebuilds k0 cells) m h =
    λ k g. grind (arith, updated_read b.lost k0 false k, updated_read b.gone k0 false k, h k, g)
keep_gone_lost b e m h = h

pub not_gone : (b : State) (k : ℕ) → Gone_lost b → b.lost k ≡ false → b.gone k ≡ false
not_gone b k h l = false_from_ne_true (b.gone k) (λ g. true≢false (sym (h k g) ∙ l))

-- what is fixed of an entry
abbrev pub FormedOne : State → Start → Type 0
FormedOne b s = record {
  low : s.tag ≤ b.tag;
  number : s.is_write ≡ true → s.grant < b.next;
  touches : (p v : ℕ) → s.data_at p ≡ Some v → s.touch (b.layout.col p) ≡ true;
  none : (p : ℕ) → s.is_write ≡ false → s.data_at p ≡ None;
  apart : (p : ℕ) → s.wanted p ≡ true → s.data_at p ≡ None;
  payless : (k z : ℕ) → s.touch (b.layout.cell_col k z) ≡ false → s.content k z ≡ None;
  reaches : (x : ℕ) → s.touch x ≡ true → s.reach x ≡ true;
  wants : (p : ℕ) → s.wanted p ≡ true → s.reach (b.layout.col p) ≡ true;
  own : s.is_write ≡ true → s.server ≡ false;
  reads : s.is_read ≡ true → s.server ≡ false;
  plain : s.is_read ≡ true → s.is_write ≡ false;
  asks : s.is_read ≡ true → (p : ℕ) → s.wanted p ≡ spans s.from_ (gives s) p;
  some : s.is_write ≡ true → (p v : ℕ) × (s.data_at p ≡ Some v);
  silent : s.is_read ≡ true → (k z : ℕ) → s.content k z ≡ None;
  lands : (p v : ℕ) → s.is_write ≡ true → s.data_at p ≡ Some v →
      (k z u : ℕ) × (s.content k z ≡ Some u) × (b.layout.cell_col k z ≡ b.layout.col p) × (b.layout.is_cell k z ≡ true);
  bytes : (p v : ℕ) → s.data_at p ≡ Some v → v < 256;
  misses : (k z : ℕ) → s.is_write ≡ true → b.layout.is_cell k z ≡ true → s.left k ≡ false → s.content k z ≡ None → (e : ℕ → ℕ) →
      b.layout.word k z (overlaid s.data_at e) ≡ b.layout.word k z e;
}

abbrev pub Formed : State → Type 0
Formed b = (j : ℕ) → j < b.count → FormedOne b (b.start j)

formed_added : (b : State) (s : Start) (row : ℕ → ℕ → Bool) → FormedOne b s → Formed b → Formed (added b s row)
formed_added b s row new h j low = elim (updated_read b.start b.count s j).1 [
  | inl w ↦ rw w.1 new
  | inr w ↦ rw w.1 (h j (grind (arith, w.0, low)))
]

only_true : (w : Bool) (v : ℕ) → w ≡ true → only w v ≡ Some v
only_true true v e = refl
only_true false v e = absurd (true≢false (sym e))

only_false : (w : Bool) (v : ℕ) → w ≡ false → only w v ≡ None
only_false true v e = absurd (true≢false e)
only_false false v e = refl

only_none : (w : Bool) (v : ℕ) → only w v ≡ None → w ≡ false
only_none true v e = absurd (cc e)
only_none false v e = refl

pub keep_formed : (b : State) (e : Event) → Allowed b e → Holds b → Formed b → Formed (after b e)
keep_formed b (Grants c number rw range extending) a o h = λ j l. let x = h j l in record {
  low = x.low;
  number = λ w. grind (arith, x.number w);
  touches = x.touches;
  none = x.none;
  apart = x.apart;
  payless = x.payless;
  reaches = x.reaches;
  wants = x.wants;
  own = x.own;
  reads = x.reads;
  plain = x.plain;
  asks = x.asks;
  some = x.some;
  silent = x.silent;
  lands = x.lands;
  misses = x.misses;
  bytes = x.bytes;
}
keep_formed b Fenced a o h = λ j l. let x = h j l in record {
  low = grind (arith, x.low);
  number = x.number;
  touches = x.touches;
  none = x.none;
  apart = x.apart;
  payless = x.payless;
  reaches = x.reaches;
  wants = x.wants;
  own = x.own;
  reads = x.reads;
  plain = x.plain;
  asks = x.asks;
  some = x.some;
  silent = x.silent;
  lands = x.lands;
  misses = x.misses;
  bytes = x.bytes;
}
keep_formed b Refenced a o h = λ j l. let x = h j l in record {
  low = grind (arith, x.low);
  number = x.number;
  touches = x.touches;
  none = x.none;
  apart = x.apart;
  payless = x.payless;
  reaches = x.reaches;
  wants = x.wants;
  own = x.own;
  reads = x.reads;
  plain = x.plain;
  asks = x.asks;
  some = x.some;
  silent = x.silent;
  lands = x.lands;
  misses = x.misses;
  bytes = x.bytes;
}
keep_formed b (StartsWrite c g i d touch hit seen e1 pt) a o h =
    formed_added b (written_start b c g d touch hit seen e1 pt) (λ k z. false) (record {
      low = grind (arith, o.has c g a.has);
      number = λ w. (o.has c g a.has).0;
      touches = a.touches;
      none = λ p w. absurd (true≢false w);
      apart = λ p w. absurd (true≢false (sym w));
      payless = λ k z t. only_false (hit k z) _ (false_from_ne_true (hit k z) (λ on. true≢false (sym ((a.hits k z on).1) ∙ t)));
      reaches = λ x t. t;
      wants = λ p w. absurd (true≢false (sym w));
      own = λ w. refl;
      reads = λ w. refl;
      plain = λ w. absurd (true≢false (sym w));
      asks = λ w. absurd (true≢false (sym w));
      some = λ w. (a.some.0, a.some.1, a.some.2);
      silent = λ w. absurd (true≢false (sym w));
      lands = λ p v w e. let x = a.lands p v e in
          (x.0, x.1, b.layout.word x.0 x.1 (overlaid d seen), only_true (hit x.0 x.1) _ x.2, x.3, (a.hits x.0 x.1 x.2).0);
      bytes = a.bytes;
      misses = λ k z w is lf n. a.misses k z is lf (only_none (hit k z) _ n);
    }) h
keep_formed b (StartsRead c g lo hi reach) a o h = formed_added b (read_start b c g lo hi reach) (λ k z. false) (record {
  low = grind (arith, o.has c g a.has);
  number = λ w. absurd (true≢false (sym w));
  touches = λ p v e. absurd (cc e);
  none = λ p w. refl;
  apart = λ p w. refl;
  payless = λ k z t. refl;
  reaches = λ x t. absurd (true≢false (sym t));
  wants = a.reaches;
  own = λ w. refl;
  reads = λ w. refl;
  plain = λ w. refl;
  asks = λ w p. refl;
  some = λ w. absurd (true≢false (sym w));
  silent = λ w k z. refl;
  lands = λ p v w. absurd (true≢false (sym w));
  misses = λ k z w. absurd (true≢false (sym w));
  bytes = λ p v e. absurd (cc e);
}) h
keep_formed b (Repairs k which e0) a o h =
    formed_added b (repair_start b k which e0) (λ f y. updated (λ w. false) k true f) (record {
      low = grind arith;
      number = λ w. absurd (true≢false (sym w));
      touches = λ p v e. absurd (cc e);
      none = λ p w. refl;
      apart = λ p w. refl;
      payless = λ f y t. absurd (true≢false t);
      reaches = λ y t. t;
      wants = λ p w. absurd (true≢false (sym w));
      own = λ w. absurd (true≢false (sym w));
      reads = λ w. absurd (true≢false (sym w));
      plain = λ w. absurd (true≢false (sym w));
      asks = λ w. absurd (true≢false (sym w));
      some = λ w. absurd (true≢false (sym w));
      silent = λ w. absurd (true≢false (sym w));
      lands = λ p v w. absurd (true≢false (sym w));
      misses = λ f y w. absurd (true≢false (sym w));
      bytes = λ p v e. absurd (cc e);
    }) h
keep_formed b (Rebuilds k cells) a o h = formed_added b (rebuilt_start b k cells) (λ f y. updated (λ w. false) k true f) (record {
  low = grind arith;
  number = λ w. absurd (true≢false (sym w));
  touches = λ p v e. absurd (cc e);
  none = λ p w. refl;
  apart = λ p w. refl;
  payless = λ f y t. absurd (true≢false t);
  reaches = λ y t. t;
  wants = λ p w. absurd (true≢false (sym w));
  own = λ w. absurd (true≢false (sym w));
  reads = λ w. absurd (true≢false (sym w));
  plain = λ w. absurd (true≢false (sym w));
  asks = λ w. absurd (true≢false (sym w));
  some = λ w. absurd (true≢false (sym w));
  silent = λ w. absurd (true≢false (sym w));
  lands = λ p v w. absurd (true≢false (sym w));
  misses = λ f y w. absurd (true≢false (sym w));
  bytes = λ p v e. absurd (cc e);
}) h
keep_formed b e a o h = h

-- what runs is a write or a read that isn't acknowledged
abbrev pub Running : State → Type 0
Running b = record {
  writes : (c j : ℕ) → b.call c ≡ Writes j → ((b.start j).is_write ≡ true) × (b.acknowledged j ≡ false);
  reads : (c j : ℕ) → b.call c ≡ Reads j → (b.start j).is_read ≡ true;
}

running_call : (b : State) (c : ℕ) (x : Call) → ((j : ℕ) → x ≡ Writes j → ⊥) → ((j : ℕ) → x ≡ Reads j → ⊥) → Running b →
    Running (record b { call = updated b.call c x })
running_call b c x nw nr h = record {
  writes = λ d j e. h.writes d j (grind (arith, updated_read b.call c x d, nw j, e));
  reads = λ d j e. h.reads d j (grind (arith, updated_read b.call c x d, nr j, e));
}

running_old_w : (b : State) (s : Start) (row : ℕ → ℕ → Bool) (d j : ℕ) → Calls b → Running b → b.call d ≡ Writes j →
    ((updated b.start b.count s j).is_write ≡ true) × (updated b.acknowledged b.count false j ≡ false)
running_old_w b s row d j r h e = let u = r.writes d j e in let ne : j ≡ b.count → ⊥ = grind (arith, u.below) in
    rw (updated_other b.start b.count s j ne, updated_other b.acknowledged b.count false j ne) (h.writes d j e)

running_old_r : (b : State) (s : Start) (d j : ℕ) → Calls b → Running b → b.call d ≡ Reads j →
    (updated b.start b.count s j).is_read ≡ true
running_old_r b s d j r h e = let u = r.reads d j e in let ne : j ≡ b.count → ⊥ = grind (arith, u.below) in
    rw (updated_other b.start b.count s j ne) (h.reads d j e)

running_acks : (b : State) (c j : ℕ) → Allowed b (Acknowledges c j) → Calls b → Running b → Running (after b (Acknowledges c j))
running_acks b c i a r h = record {
  writes = λ d j e. elim (updated_read b.call c Idle d).1 [
    | inl w ↦ absurd (grind (arith, w, e))
    | inr w ↦ let e2 : b.call d ≡ Writes j = sym w.1 ∙ e in
        let ne : j ≡ i → ⊥ = λ same. w.0 (grind (arith, (r.writes d j e2).by, (r.writes c i a.runs).by, same)) in
        rw (updated_other b.acknowledged i true j ne) (h.writes d j e2)
  ];
  reads = λ d j e. h.reads d j (grind (arith, updated_read b.call c Idle d, e));
}

pub keep_running : (b : State) (e : Event) → Allowed b e → Calls b → Running b → Running (after b e)
keep_running b (Reports c g) a r h = running_call b c Idle (λ j e. cc) (λ j e. cc) h
keep_running b (Forgets c) a r h = running_call b c Idle (λ j e. cc) (λ j e. cc) h
keep_running b (TakesRefusal c j0) a r h = running_call b c Idle (λ j e. cc) (λ j e. cc) h
keep_running b (StartsWrite c g i d touch hit seen e1 pt) a r h = record {
  writes = λ f j e. elim (updated_read b.call c (Writes b.count) f).1 [
    | inl w ↦ let same : j ≡ b.count = grind (arith, w, e) in
        rw (
          same,
          updated_same b.start b.count (written_start b c g d touch hit seen e1 pt),
          updated_same b.acknowledged b.count false,
        ) (refl, refl)
    | inr w ↦ running_old_w b (written_start b c g d touch hit seen e1 pt) (λ k z. false) f j r h (sym w.1 ∙ e)
  ];
  reads =
      λ f j e. running_old_r b (written_start b c g d touch hit seen e1 pt) f j r h
      (grind (arith, updated_read b.call c (Writes b.count) f, e));
}
keep_running b (StartsRead c g lo hi reach) a r h = record {
  writes =
      λ f j e. running_old_w b (read_start b c g lo hi reach) (λ k z. false) f j r h
      (grind (arith, updated_read b.call c (Reads b.count) f, e));
  reads = λ f j e. elim (updated_read b.call c (Reads b.count) f).1 [
    | inl w ↦ let same : j ≡ b.count = grind (arith, w, e) in
        rw (same, updated_same b.start b.count (read_start b c g lo hi reach)) refl
    | inr w ↦ running_old_r b (read_start b c g lo hi reach) f j r h (sym w.1 ∙ e)
  ];
}
keep_running b (Repairs k which e0) a r h = record {
  writes = λ f j e. running_old_w b (repair_start b k which e0) (λ f y. updated (λ w. false) k true f) f j r h e;
  reads = λ f j e. running_old_r b (repair_start b k which e0) f j r h e;
}
keep_running b (Rebuilds k cells) a r h = record {
  writes = λ f j e. running_old_w b (rebuilt_start b k cells) (λ f y. updated (λ w. false) k true f) f j r h e;
  reads = λ f j e. running_old_r b (rebuilt_start b k cells) f j r h e;
}
keep_running b (Acknowledges c j) a r h = running_acks b c j a r h
keep_running b (Breaks c j) a r h = running_call b c Broken (λ j e. cc) (λ j e. cc) h
keep_running b (Answers c j f) a r h = running_call b c Idle (λ j e. cc) (λ j e. cc) h
keep_running b (EndsRead c j) a r h = running_call b c Idle (λ j e. cc) (λ j e. cc) h
keep_running b e a r h = h

-- the bytes that the log leaves are bytes
pub bytes_before : (b : State) (j : ℕ) → j ≤ b.count → Formed b → AreBytes (byte_before b j)
bytes_before b j low f q =
    chain_low (λ i. b.chosen i q) (λ i. (b.start i).data_at q) j (λ i l v e. (f i (omega (arith, l, low))).bytes q v e)
