-- Kept: what the log leaves before an unsettled write, or before a running read, is a codeword in each column that it reaches.
-- It was whole when the call started, and only that write touches it since.
use Rattle.std.proofs.Common.{◌≡◌, ℕ, ◌<◌, Bool, true, false, ◌==◌, Some, ◌⊎◌, refl, sym, ap, ◌∙◌, inl, inr, arith}
use Rattle.std.proofs.lemmas.Bool.{cases_eq, true≢false}
use Rattle.osd_lists.proofs.Tests.{first_false}
use Rattle.fence_law.specs.Words.{updated, In}
use Rattle.fence_law.specs.State.{State, Event, Grant, Write, ReadReply, Call, Start}
use Rattle.fence_law.specs.Starts.{written_start, read_start, repair_start, rebuilt_start}
use Rattle.fence_law.specs.Machine.{Allowed, after}
use Rattle.fence_law.specs.State.Call.{Idle, Writes, Reads, Broken}
use Rattle.fence_law.specs.State.Event.{Grants, Reports, Forgets, Fenced, Refenced, StartsWrite, StartsRead, Performs, Acknowledges, Breaks, Answers, EndsRead, Repairs, Repaired, Rebuilds, TakesRefusal, Loses}
use Rattle.fence_law.specs.Law.{byte_before, cell_before, IsCode}
use Rattle.fence_law.proofs.Words.{up_off, updated_at, updated_other, updated_read}
use Rattle.fence_law.proofs.Tags.{Tags}
use Rattle.fence_law.proofs.Holds.{Holds}
use Rattle.fence_law.proofs.Commands.{Calls}
use Rattle.fence_law.proofs.Formed.{Gone_lost, not_gone, added, Mending, Formed, Running}
use Rattle.fence_law.proofs.Open.{Dead, Known, Unacked, Open, fresh_open, now_fresh}
use Rattle.fence_law.proofs.Live.{Open_granted}
use Rattle.fence_law.proofs.Acked.{Known_done}
use Rattle.fence_law.proofs.Later.{Unsettled, open_unsettled, unsettled_added, unsettled_acks, unsettled_fenced, unsettled_mended, unsettled_none, Later, gathered_covers, before_unsettled, pay_or_touch, unsettled_refenced}
use Rattle.fence_law.proofs.Chosen.{Late_ack, at_acks}
use Rattle.fence_law.proofs.Held.{read_over, at_added, ct_added, ct_performs}

-- what the log leaves in a column before entry i is a codeword, in the components that aren't lost
abbrev pub WholeAt : State → ℕ → ℕ → Type 0
WholeAt b i x = (k z : ℕ) → b.layout.is_cell k z ≡ true → b.layout.cell_col k z ≡ x → b.gone k ≡ false →
    cell_before b i k z ≡ b.layout.word k z (byte_before b i)

-- an unsettled write, or a read that runs under an outstanding grant
abbrev pub Current : State → ℕ → Type 0
Current b i = (Unsettled b i) ⊎ ((c : ℕ) × (b.call c ≡ Reads i) × ((b.start i).tag ≡ b.tag))

-- before it each column that it reaches is a codeword
abbrev pub Before_whole : State → Type 0
Before_whole b = (i x : ℕ) → i < b.count → (b.start i).alive ≡ true → (b.start i).reach x ≡ true → (b.start i).server ≡ false →
    Current b i → WholeAt b i x

-- how a column's codeword moves with the bytes
pub whole_moves : (b b2 : State) (i x : ℕ) → IsCode b.layout → b2.layout ≡ b.layout →
    ((q : ℕ) → b.layout.col q ≡ x → byte_before b2 i q ≡ byte_before b i q) →
    ((k z : ℕ) → b.layout.cell_col k z ≡ x → cell_before b2 i k z ≡ cell_before b i k z) →
    ((k : ℕ) → b2.gone k ≡ false → b.gone k ≡ false) → WholeAt b i x → (k z : ℕ) → b.layout.is_cell k z ≡ true →
    b.layout.cell_col k z ≡ x → b2.gone k ≡ false → cell_before b2 i k z ≡ b.layout.word k z (byte_before b2 i)
whole_moves b b2 i x code m at ct lost h k z is here l =
    ct k z here ∙ h k z is here (lost k l) ∙ code.local k z _ _ (λ q same. sym (at q (same ∙ here)))

bw_call : (b : State) (c : ℕ) (x : Call) → ((j : ℕ) → x ≡ Reads j → ⊥) → Before_whole b →
    Before_whole (record b { call = updated b.call c x })
bw_call b c x none h i y low al r sv cur = h i y low al r sv (elim cur [
  | inl u ↦ inl u
  | inr w ↦ inr (w.0, grind (arith, updated_read b.call c x w.0, none i, w.1), w.2)
])

bw_added : (b : State) (s : Start) (row : ℕ → ℕ → Bool) → IsCode b.layout →
    ((x : ℕ) → s.alive ≡ true → s.reach x ≡ true → s.server ≡ false → WholeAt b b.count x) →
    ((c i : ℕ) → b.call c ≡ Reads i → i < b.count) → Before_whole b → Before_whole (added b s row)
bw_added b s row code new below h i x low al r sv cur = elim (cases_eq i b.count) [
  | inl e ↦ let st : updated b.start b.count s i ≡ s = updated_at b.start b.count s i e in
      rw e (whole_moves b (added b s row) b.count x code refl (λ q here. at_added b s row b.count q (omega arith))
      (λ k z here. ct_added b s row b.count k z (omega arith)) (λ k l. l)
      (new x (rw st at al) (rw st at r) (rw st at sv)))
  | inr ne ↦ let st : updated b.start b.count s i ≡ b.start i = updated_other b.start b.count s i ne in
      let l : i < b.count = omega arith in
      whole_moves b (added b s row) i x code refl (λ q here. at_added b s row i q (omega arith))
      (λ k z here. ct_added b s row i k z (omega arith)) (λ k l. l)
      (h i x l (rw st at al) (rw st at r) (rw st at sv) (elim cur [
        | inl u ↦ elim (unsettled_added b s row i u) [ inl w ↦ absurd (ne w.0) | inr w ↦ inl w.1 ]
        | inr w ↦ inr (w.0, w.1, rw st at w.2)
      ]))
]

bw_performs : (b : State) (m : Write) → IsCode b.layout → Open b m.entry → Formed b → Later b → Before_whole b →
    Before_whole (after b (Performs m))
bw_performs b m code o f lt h i x low al r sv cur =
    whole_moves b (after b (Performs m)) i x code refl (λ q here. refl)
    (λ k z here. ct_performs b m i k z (elim (pay_or_touch b m.entry k z o.0 f) [
      | inl n ↦ inl n
      | inr t ↦
          inr
          (inl
          (before_unsettled b m.entry i x (open_unsettled b m.entry o) lt low al r sv
          (ap (b.start m.entry).touch (sym here) ∙ t)))
    ]))
    (λ k l. l) (h i x low al r sv cur)

bw_acks : (b : State) (c j : ℕ) → Allowed b (Acknowledges c j) → IsCode b.layout → Calls b → Running b → Formed b → Known_done b →
    Dead b → Late_ack b → Later b → Before_whole b → Before_whole (after b (Acknowledges c j))
bw_acks b c j a code u run f kd dead late lt h i x low al r sv cur =
    whole_moves b (after b (Acknowledges c j)) i x code refl
    (λ q here. at_acks b c j i q a code u run f kd dead late
    (λ z t. before_unsettled b j i (b.layout.col q) z lt low al (ap (b.start i).reach here ∙ r) sv t))
    (λ k z here. refl) (λ k l. l)
    (h i x low al r sv (elim cur [
      | inl w ↦ inl (unsettled_acks b j i w).1
      | inr w ↦ inr (w.0, grind (arith, updated_read b.call c Idle w.0, w.1), w.2)
    ]))

pub keep_before_whole : (b : State) (e : Event) → Allowed b e → IsCode b.layout → Tags b → Formed b → Holds b → Calls b →
    Running b → Known b → Unacked b → Known_done b → Dead b → Late_ack b → Mending b → Open_granted b → Later b →
    ((c : ℕ) (g : Grant) → b.held c ≡ Some g → (b.call c ≡ Idle) ⊎ ((i : ℕ) × (b.call c ≡ Reads i)) → (g.tag == b.tag) ≡ true →
    (x : ℕ) → g.covers x ≡ true → WholeAt b b.count x) →
    Gone_lost b → Before_whole b → Before_whole (after b e)
keep_before_whole b (Reports c g) a code t f o r run n u kd dead late m q lt now gl h = bw_call b c Idle (λ j e. cc) h
keep_before_whole b (Forgets c) a code t f o r run n u kd dead late m q lt now gl h = bw_call b c Idle (λ j e. cc) h
keep_before_whole b (TakesRefusal c j0) a code t f o r run n u kd dead late m q lt now gl h = bw_call b c Idle (λ j e. cc) h
keep_before_whole b (StartsWrite c g i d touch hit seen e1 pt) a code t f o r run n u kd dead late m q lt now gl h =
    bw_call (added b (written_start b c g d touch hit seen e1 pt) (λ k z. false)) c (Writes b.count) (λ j e. cc)
    (bw_added b (written_start b c g d touch hit seen e1 pt) (λ k z. false) code
    (λ x al rx sv. now c g a.has (inr (i, a.gathers)) al x (gathered_covers b c g i d touch hit seen e1 pt a r x rx))
    (λ c2 i2 go. (r.reads c2 i2 go).below) h)
keep_before_whole b (StartsRead c g lo hi reach) a code t f o r run n u kd dead late m q lt now gl h =
    λ i x low al rx sv cur. elim (cases_eq i b.count) [
      | inl e ↦ let s : Start = read_start b c g lo hi reach in
          let st : updated b.start b.count s i ≡ s = updated_at b.start b.count s i e in
          rw e (whole_moves b (added b s (λ k z. false)) b.count x code refl
          (λ q2 here. at_added b s (λ k z. false) b.count q2 (omega arith))
          (λ k z here. ct_added b s (λ k z. false) b.count k z (omega arith)) (λ k l. l)
          (now c g a.has (inl a.idle) (rw st at al) x (a.within x (rw st at rx))))
      | inr ne ↦
          bw_added b (read_start b c g lo hi reach) (λ k z. false) code
          (λ y al2 rx2 sv2. now c g a.has (inl a.idle) al2 y (a.within y rx2)) (λ c2 i2 go. (r.reads c2 i2 go).below) h
          i x low al rx
          sv (elim cur [
            | inl w ↦ inl w
            | inr w ↦
                inr (
                  w.0,
                  elim (updated_read b.call c (Reads b.count) w.0).1 [
                    | inl y ↦ absurd (ne (grind (arith, y, w.1)))
                    | inr y ↦
                        sym y.1 ∙ w.1
                  ],
                  w.2,
                )
          ])
    ]
keep_before_whole b (Repairs k which e0) a code t f o r run n u kd dead late m q lt now gl h =
    bw_added b (repair_start b k which e0) (λ f y. updated (λ w. false) k true f) code (λ x al rx sv. absurd (true≢false sv))
    (λ c2 i2 go. (r.reads c2 i2 go).below) h
keep_before_whole b (Rebuilds k cells) a code t f o r run n u kd dead late m q lt now gl h = λ i x low al rx sv cur.
    absurd (elim cur [
      | inl w ↦ elim (unsettled_added b (rebuilt_start b k cells) (λ f y. updated (λ w. false) k true f) i w) [
        | inl y ↦
            true≢false (sym y.1)
        | inr y ↦ unsettled_none b i a.repaired q a.none y.1
      ]
      | inr w ↦ let v = r.reads w.0 i w.1 in
          let e : updated b.start b.count (rebuilt_start b k cells) i ≡ b.start i =
          grind (arith, updated_read b.start b.count (rebuilt_start b k cells) i, v.below) in
          let tag2 : (b.start i).tag ≡ b.tag = rw e at w.2 in
          grind (arith, o.has w.0 v.under.0 v.under.1, v.under.2, tag2, a.none w.0)
    ])
keep_before_whole b (Acknowledges c j) a code t f o r run n u kd dead late m q lt now gl h =
    bw_acks b c j a code r run f kd dead late lt h
keep_before_whole b (Breaks c j) a code t f o r run n u kd dead late m q lt now gl h = bw_call b c Broken (λ j e. cc) h
keep_before_whole b (Answers c j g) a code t f o r run n u kd dead late m q lt now gl h = bw_call b c Idle (λ j e. cc) h
keep_before_whole b (EndsRead c j) a code t f o r run n u kd dead late m q lt now gl h = bw_call b c Idle (λ j e. cc) h
keep_before_whole b (Performs w) a code t f o r run n u kd dead late m q lt now gl h =
    bw_performs b w code (fresh_open b w a.comes (now_fresh b w a t f n) n dead u) f lt h
keep_before_whole b (Grants c number rw range extending) a code t f o r run n u kd dead late m q lt now gl h =
    λ i x low al rx sv cur k z is here l. h i x low al rx sv cur k z is here (first_false (b.gone k) (b.missing k) l)
keep_before_whole b (Loses c k0) a code t f o r run n u kd dead late m q lt now gl h =
    λ i x low al rx sv cur k z is here l. h i x low al rx sv cur k z is here (up_off b.gone k0 k l)
keep_before_whole b Fenced a code t f o r run n u kd dead late m q lt now gl h =
    λ i x low al rx sv cur k z is here l. h i x low al rx sv (elim cur [
      | inl w ↦ inl (unsettled_fenced b i f w)
      | inr w ↦ absurd (let v = r.reads w.0 i w.1 in grind (arith, o.has w.0 v.under.0 v.under.1, v.under.2, w.2))
    ]) k z is here (not_gone b k gl l)
keep_before_whole b Refenced a code t f o r run n u kd dead late m q lt now gl h =
    λ i x low al rx sv cur k z is here l. h i x low al rx sv (elim cur [
      | inl w ↦ inl (unsettled_refenced b i f w)
      | inr w ↦ absurd (let v = r.reads w.0 i w.1 in grind (arith, o.has w.0 v.under.0 v.under.1, v.under.2, w.2))
    ]) k z is here l
keep_before_whole b (Repaired done e0) a code t f o r run n u kd dead late m q lt now gl h = λ i x low al rx sv cur.
    absurd (elim cur [
      | inl w ↦ unsettled_mended b i a.runs m q w
      | inr w ↦ true≢false (sym a.runs ∙ read_over b w.0 i w.1 w.2 o r m)
    ])
keep_before_whole b e a code t f o r run n u kd dead late m q lt now gl h = h

-- a READ's reply shows the codeword of what the log leaves before its call
abbrev pub Shows_right : State → Type 0
Shows_right b = (r : ReadReply) → In r b.shown → record {
  below : r.entry < b.count;
  alive : (b.start r.entry).alive ≡ true;
  client : (b.start r.entry).server ≡ false;
  cells : (c z : ℕ) → b.call c ≡ Reads r.entry → b.layout.is_cell r.at z ≡ true →
      (b.start r.entry).reach (b.layout.cell_col r.at z) ≡ true → r.cells z ≡ b.layout.word r.at z (byte_before b r.entry);
}
