-- Kept: a READ's reply shows the codeword of the bytes before its call; so what a write sends is the word of its data over these.
-- This is where the guards "for all data that agree with the replies" are used.
use Rattle.std.proofs.Common.{◌≡◌, ℕ, ◌<◌, Bool, true, false, ◌==◌, Option, Some, None, refl, sym, ap, ◌∙◌, inl, inr, arith}
use Rattle.std.proofs.lemmas.Bool.{true_from_ne_false, eqb-true, cases_eq, true≢false}
use Rattle.std.proofs.lemmas.Option.{same_Some}
use Rattle.fence_law.specs.Words.{updated, over}
use Rattle.fence_law.specs.State.{State, Event, Grant, ReadReply, Call, Start}
use Rattle.fence_law.specs.Columns.{overlaid, only, payload, Agrees}
use Rattle.fence_law.specs.Starts.{written_start, read_start, repair_start, rebuilt_start}
use Rattle.fence_law.specs.Machine.{Allowed, after}
use Rattle.fence_law.specs.State.Call.{Idle, Writes, Reads, Broken}
use Rattle.fence_law.specs.State.Event.{Reports, Forgets, StartsWrite, StartsRead, Acknowledges, Breaks, Answers, EndsRead, Shows, Repairs, Repaired, Rebuilds, TakesRefusal}
use Rattle.fence_law.specs.Law.{byte_before, IsCode}
use Rattle.fence_law.proofs.Words.{updated_at, updated_other, updated_read}
use Rattle.fence_law.proofs.Tags.{Tags}
use Rattle.fence_law.proofs.Holds.{Holds}
use Rattle.fence_law.proofs.Commands.{Calls}
use Rattle.fence_law.proofs.Chains.{chain_quiet}
use Rattle.fence_law.proofs.Formed.{Gone_lost, not_gone, added, Mending, Formed, Running, bytes_before}
use Rattle.fence_law.proofs.Open.{Dead}
use Rattle.fence_law.proofs.Acked.{Known_done}
use Rattle.fence_law.proofs.Later.{Later, before_unsettled, byte_or_touch, pay_or_touch}
use Rattle.fence_law.proofs.Chosen.{Late_ack, at_acks, at_mended}
use Rattle.fence_law.proofs.Held.{Beside_reads, at_added, Cells}
use Rattle.fence_law.proofs.Before.{Before_whole, Shows_right}

shows_call : (b : State) (c : ℕ) (x : Call) → ((j : ℕ) → x ≡ Reads j → ⊥) → Shows_right b →
    Shows_right (record b { call = updated b.call c x })
shows_call b c x none h r i = let w = h r i in record {
  below = w.below;
  alive = w.alive;
  client = w.client;
  cells = λ d p run. w.cells d p (grind (arith, updated_read b.call c x d, none r.entry, run));
}

-- the bytes before its call stay
shows_moves : (b b2 : State) → IsCode b.layout → (r : ReadReply) → ((q : ℕ) → (b.start r.entry).reach (b.layout.col q) ≡ true →
    byte_before b2 r.entry q ≡ byte_before b r.entry q) → (z : ℕ) → (b.start r.entry).reach (b.layout.cell_col r.at z) ≡ true →
    b.layout.word r.at z (byte_before b r.entry) ≡ b.layout.word r.at z (byte_before b2 r.entry)
shows_moves b b2 code r at z rx = code.local r.at z _ _ (λ q here. sym (at q (ap (b.start r.entry).reach here ∙ rx)))

shows_added : (b : State) (s : Start) (row : ℕ → ℕ → Bool) → IsCode b.layout → Shows_right b → Shows_right (added b s row)
shows_added b s row code h r i = let w = h r i in
    let e : updated b.start b.count s r.entry ≡ b.start r.entry =
    grind (arith, updated_read b.start b.count s r.entry, w.below) in
    record {
      below = grind (arith, w.below);
      alive = rw e w.alive;
      client = rw e w.client;
      cells = λ d z run is rx. w.cells d z run is (rw e at rx)
          ∙ shows_moves b (added b s row) code r (λ q y. at_added b s row r.entry q (omega (arith, w.below))) z (rw e at rx);
    }

shows_starts : (b : State) (s : Start) (c : ℕ) (x : Call) → ((j : ℕ) → j < b.count → x ≡ Reads j → ⊥) → IsCode b.layout →
    Shows_right b →
    Shows_right (record (added b s (λ k z. false)) { call = updated b.call c x })
shows_starts b s c x none code h r i = let w = shows_added b s (λ k z. false) code h r i in let low = (h r i).below in
    record {
      below = w.below;
      alive = w.alive;
      client = w.client;
      cells = λ d q run. w.cells d q (grind (arith, updated_read b.call c x d, none r.entry low, run));
    }

shows_acks : (b : State) (c j : ℕ) → Allowed b (Acknowledges c j) → IsCode b.layout → Calls b → Running b → Formed b →
    Known_done b → Dead b → Late_ack b → Later b → Shows_right b →
    Shows_right (record b { acknowledged = updated b.acknowledged j true; chosen = updated b.chosen j (λ p. true) })
shows_acks b c j a code u run f kd dead late lt h r i = let w = h r i in record {
  below = w.below;
  alive = w.alive;
  client = w.client;
  cells = λ d z go is rx. w.cells d z go is rx
      ∙ shows_moves b (after b (Acknowledges c j)) code r
      (λ q y. at_acks b c j r.entry q a code u run f kd dead late
      (λ v t. before_unsettled b j r.entry (b.layout.col q) v lt w.below w.alive y w.client t)) z rx;
}

shows_mended : (b : State) (done : ℕ → Bool) (e0 : ℕ → ℕ) → b.repairing ≡ true → IsCode b.layout → Formed b → Later b →
    Shows_right b → Shows_right (after b (Repaired done e0))
shows_mended b done e0 m code f lt h r i = let w = h r i in record {
  below = w.below;
  alive = w.alive;
  client = w.client;
  cells = λ d z go is rx. w.cells d z go is rx
      ∙ shows_moves b (after b (Repaired done e0)) code r
      (λ q y. at_mended b done e0 r.entry q m (omega (arith, w.below)) f
      (λ j v t. before_unsettled b j r.entry (b.layout.col q) v lt w.below w.alive y w.client t)) z rx;
}

shows_new : (b : State) (j k : ℕ) → Allowed b (Shows j k) → Gone_lost b → IsCode b.layout → Tags b → Formed b → Holds b →
    Calls b → Running b → Dead b → Mending b → Beside_reads b → Cells b → Before_whole b → Shows_right b →
    Shows_right (after b (Shows j k))
shows_new b j k a gl code t f o r run dead m quiet con bw h w i = elim i [
  | inr old ↦ h w old
  | inl e ↦
      let here : (c : ℕ) → b.call c ≡ Reads j → (b.start j).tag ≡ b.tag = λ c go. let u = r.reads c j go in
      grind (arith, t.at k a.there a.stands, a.right, u.under.2, o.has c u.under.0 u.under.1) in
      let al : (b.start j).alive ≡ true =
      true_from_ne_false (b.start j).alive (λ no_. grind (arith, dead j a.in_log no_, t.at k a.there a.stands, a.right)) in
      let sv : (b.start j).server ≡ false = a.client in
      rw e (record {
        below = a.in_log;
        alive = al;
        client = sv;
        cells = λ c z go is rx. con k z (not_gone b k gl a.stands)
            ∙ chain_quiet (λ i. b.applied i k z) (λ i. (b.start i).content k z) j b.count (omega (arith, a.in_log))
            (λ x low high. elim (pay_or_touch b x k z high f) [
              | inl n ↦ inr n
              | inr tx ↦
                  inl ((quiet c j go (here c go) x (b.layout.cell_col k z) low high rx tx).0 k z)
            ])
            ∙ bw j (b.layout.cell_col k z) a.in_log al rx sv (inr (c, go, here c go)) k z is refl (not_gone b k gl a.stands);
      })
]

pub keep_shows : (b : State) (e : Event) → Allowed b e → Gone_lost b → IsCode b.layout → Tags b → Formed b → Holds b → Calls b →
    Running b → Known_done b → Dead b → Late_ack b → Mending b → Later b → Beside_reads b → Cells b → Before_whole b →
    Shows_right b → Shows_right (after b e)
keep_shows b (Reports c g) a gl code t f o r run kd dead late m lt q con bw h = shows_call b c Idle (λ j e. cc) h
keep_shows b (Forgets c) a gl code t f o r run kd dead late m lt q con bw h = shows_call b c Idle (λ j e. cc) h
keep_shows b (TakesRefusal c j0) a gl code t f o r run kd dead late m lt q con bw h = shows_call b c Idle (λ j e. cc) h
keep_shows b (StartsWrite c g i d touch hit seen e1 pt) a gl code t f o r run kd dead late m lt q con bw h =
    shows_starts b (written_start b c g d touch hit seen e1 pt) c (Writes b.count) (λ j low e. cc) code h
keep_shows b (StartsRead c g lo hi reach) a gl code t f o r run kd dead late m lt q con bw h =
    shows_starts b (read_start b c g lo hi reach) c (Reads b.count) (λ j low e. grind (arith, low, e)) code h
keep_shows b (Repairs k which e0) a gl code t f o r run kd dead late m lt q con bw h =
    shows_added b (repair_start b k which e0) (λ f y. updated (λ w. false) k true f) code h
keep_shows b (Rebuilds k cells) a gl code t f o r run kd dead late m lt q con bw h =
    shows_added b (rebuilt_start b k cells) (λ f y. updated (λ w. false) k true f) code h
keep_shows b (Acknowledges c j) a gl code t f o r run kd dead late m lt q con bw h =
    shows_call (record b { acknowledged = updated b.acknowledged j true; chosen = updated b.chosen j (λ p. true) }) c Idle
    (λ j e. cc) (shows_acks b c j a code r run f kd dead late lt h)
keep_shows b (Breaks c j) a gl code t f o r run kd dead late m lt q con bw h = shows_call b c Broken (λ j e. cc) h
keep_shows b (Answers c j g) a gl code t f o r run kd dead late m lt q con bw h = shows_call b c Idle (λ j e. cc) h
keep_shows b (EndsRead c j) a gl code t f o r run kd dead late m lt q con bw h = shows_call b c Idle (λ j e. cc) h
keep_shows b (Repaired done e0) a gl code t f o r run kd dead late m lt q con bw h = shows_mended b done e0 a.runs code f lt h
keep_shows b (Shows j k) a gl code t f o r run kd dead late m lt q con bw h =
    shows_new b j k a gl code t f o r run dead m q con bw h
keep_shows b e a gl code t f o r run kd dead late m lt q con bw h = h

-- what a living write sends to a cell is that cell's word of its bytes over those that the log leaves before it
abbrev pub Sound : State → Type 0
Sound b = (j k z v : ℕ) → j < b.count → (b.start j).is_write ≡ true → (b.start j).alive ≡ true →
    (b.start j).content k z ≡ Some v → v ≡ b.layout.word k z (overlaid (b.start j).data_at (byte_before b j))

-- a word over bytes that stay
pub word_moves : (b b2 : State) (j i k z : ℕ) → IsCode b.layout →
    ((q : ℕ) → b.layout.col q ≡ b.layout.cell_col k z → byte_before b2 i q ≡ byte_before b i q) →
    b.layout.word k z (overlaid (b.start j).data_at (byte_before b i)) ≡ b.layout.word k z
    (overlaid (b.start j).data_at (byte_before b2 i))
word_moves b b2 j i k z code at = code.local k z _ _ (λ q here. ap (over true ((b.start j).data_at q)) (sym (at q here)))

sound_added : (b : State) (s : Start) (row : ℕ → ℕ → Bool) → IsCode b.layout →
    (s.is_write ≡ true → s.alive ≡ true → (k z v : ℕ) → s.content k z ≡ Some v →
    v ≡ b.layout.word k z (overlaid s.data_at (byte_before b b.count))) → Sound b → Sound (added b s row)
sound_added b s row code new h j k z v low w alive content = elim (cases_eq j b.count) [
  | inl e ↦ let st : updated b.start b.count s j ≡ s = updated_at b.start b.count s j e in
      rw (st, e) (new (rw st at w) (rw st at alive) k z v (rw st at content)
      ∙ code.local k z _ _ (λ q here. ap (over true (s.data_at q)) (sym (at_added b s row b.count q (omega arith)))))
  | inr ne ↦ let st : updated b.start b.count s j ≡ b.start j = updated_other b.start b.count s j ne in
      rw st (h j k z v (omega arith) (rw st at w) (rw st at alive) (rw st at content)
      ∙ word_moves b (added b s row) j j k z code (λ q here. at_added b s row j q (omega arith)))
]

only_some : (w : Bool) (u v : ℕ) → only w u ≡ Some v → (w ≡ true) × (v ≡ u)
only_some true u v e = (refl, sym (same_Some u v e))
only_some false u v e = absurd (cc e)

sound_write : (b : State) (c : ℕ) (g : Grant) (i : ℕ) (d : ℕ → Option ℕ) (touch : ℕ → Bool) (hit : ℕ → ℕ → Bool) (seen : ℕ →
    ℕ) (e1 : ℕ) (pt : ℕ → ℕ → ℕ) → Allowed b (StartsWrite c g i d touch hit seen e1 pt) →
    IsCode b.layout → Formed b → Calls b → Beside_reads b → Shows_right b →
    (g.tag == b.tag) ≡ true → (k z v : ℕ) → payload b.layout hit d seen k z ≡ Some v →
    v ≡ b.layout.word k z (overlaid d (byte_before b b.count))
sound_write b c g i d touch hit seen e1 pt a code f r quiet s alive k z v content =
    let p = only_some (hit k z) _ v content in let u = r.reads c i a.gathers in
    let same : Some u.under.0 ≡ Some g = sym u.under.1 ∙ a.has in
    let tag : (b.start i).tag ≡ b.tag = grind (arith, u.under.2, same, eqb-true g.tag b.tag alive) in
    let tq : touch (b.layout.cell_col k z) ≡ true = (a.hits k z p.0).1 in
    let rq : (b.start i).reach (b.layout.cell_col k z) ≡ true = a.gathered (b.layout.cell_col k z) tq in
    let agrees : Agrees b i (b.layout.cell_col k z) (byte_before b i) = λ y iy ey w is col. let sh = s y iy in
    sh.cells c w (a.gathers ∙ ap Reads (sym ey)) is (ap (λ n. (b.start n).reach (b.layout.cell_col y.at w)) ey
    ∙ ap (b.start i).reach col ∙ rq) ∙ ap (λ n. b.layout.word y.at w (byte_before b n)) ey in
    p.1 ∙ a.sees k z p.0 (byte_before b i) (bytes_before b i (omega (arith, u.below)) f) agrees
    ∙ code.local k z _ _ (λ q here. ap (over true (d q))
    (sym (chain_quiet (λ n. b.chosen n q) (λ n. (b.start n).data_at q) i b.count (omega (arith, u.below))
    (λ n low high. elim (byte_or_touch b n q high f) [
      | inl no_ ↦ inr no_
      | inr tn ↦
          (quiet c i a.gathers tag n (b.layout.col q) low high (ap (b.start i).reach here ∙ rq) tn).1 q
    ]))))

sound_stays : (b b2 : State) (j k z : ℕ) → IsCode b.layout → Formed b → j < b.count → (v : ℕ) → (b.start j).content k z ≡ Some v →
    ((q : ℕ) → b.layout.col q ≡ b.layout.cell_col k z → (b.start j).reach (b.layout.col q) ≡ true →
    byte_before b2 j q ≡ byte_before b j q) →
    b.layout.word k z (overlaid (b.start j).data_at (byte_before b j)) ≡ b.layout.word k z
    (overlaid (b.start j).data_at (byte_before b2 j))
sound_stays b b2 j k z code f low v content at =
    word_moves b b2 j j k z code (λ q here. at q here (elim (pay_or_touch b j k z low f) [
      | inl n ↦ absurd (none_some n)
      | inr t ↦ ap (b.start j).reach here ∙ (f j low).reaches _ t
    ]))
  where
    none_some : (b.start j).content k z ≡ None → ⊥
    none_some n = let e : None ≡ Some v = sym n ∙ content in cc e

pub keep_sound : (b : State) (e : Event) → Allowed b e → IsCode b.layout → Formed b → Calls b → Running b → Known_done b →
    Dead b → Late_ack b → Later b → Beside_reads b → Shows_right b → Sound b → Sound (after b e)
keep_sound b (StartsWrite c g i d touch hit seen e1 pt) a code f r run kd dead late lt q s h =
    sound_added b (written_start b c g d touch hit seen e1 pt) (λ k z. false) code
    (λ w al. sound_write b c g i d touch hit seen e1 pt a code f r q s al) h
keep_sound b (StartsRead c g lo hi reach) a code f r run kd dead late lt q s h =
    sound_added b (read_start b c g lo hi reach) (λ k z. false) code (λ w. absurd (true≢false (sym w))) h
keep_sound b (Repairs k which e0) a code f r run kd dead late lt q s h =
    sound_added b (repair_start b k which e0) (λ f y. updated (λ w. false) k true f) code (λ w. absurd (true≢false (sym w))) h
keep_sound b (Rebuilds k cells) a code f r run kd dead late lt q s h =
    sound_added b (rebuilt_start b k cells) (λ f y. updated (λ w. false) k true f) code (λ w. absurd (true≢false (sym w))) h
keep_sound b (Acknowledges c i) a code f r run kd dead late lt q s h = λ j k z v low w al content. h j k z v low w al content ∙
    sound_stays b (after b (Acknowledges c i)) j k z code f low v content
    (λ y here rx. at_acks b c i j y a code r run f kd dead late
    (λ u t. before_unsettled b i j (b.layout.col y) u lt low al rx ((f j low).own w) t))
keep_sound b (Repaired done e0) a code f r run kd dead late lt q s h = λ j k z v low w al content. h j k z v low w al content ∙
    sound_stays b (after b (Repaired done e0)) j k z code f low v content
    (λ y here rx. at_mended b done e0 j y a.runs (omega (arith, low)) f
    (λ i u t. before_unsettled b i j (b.layout.col y) u lt low al rx ((f j low).own w) t))
keep_sound b e a code f r run kd dead late lt q s h = h
