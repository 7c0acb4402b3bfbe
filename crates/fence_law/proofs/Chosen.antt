-- Kept: an acknowledged write's bytes count, an unsettled one's don't yet, and a settled one's that was performed whole do.
-- Which bytes count changes at an acknowledgement and at a repair's end alone.
use Rattle.std.proofs.Common.{◌≡◌, ℕ, ◌<◌, ◌≤◌, Bool, true, false, not, Some, None, ◌⊎◌, refl, sym, ap, ◌∙◌, inl, inr, arith}
use Rattle.std.proofs.lemmas.Bool.{and_right, and_parts, not-true, cases_Bool, eqb-true, cases_eq, true≢false}
use Rattle.fence_law.specs.Words.{updated, over}
use Rattle.fence_law.specs.State.{State, Event, Start}
use Rattle.fence_law.specs.Starts.{written_start, read_start, repair_start, rebuilt_start, ended}
use Rattle.fence_law.specs.Machine.{Allowed, after}
use Rattle.fence_law.specs.State.Event.{Fenced, Refenced, StartsWrite, StartsRead, Acknowledges, Repairs, Repaired, Rebuilds}
use Rattle.fence_law.specs.Law.{byte_before, IsCode}
use Rattle.fence_law.proofs.Words.{updated_at, updated_other, updated_read}
use Rattle.fence_law.proofs.Commands.{Calls}
use Rattle.fence_law.proofs.Chains.{chain_cares}
use Rattle.fence_law.proofs.Formed.{added, Mending, Formed, Running}
use Rattle.fence_law.proofs.Open.{Dead}
use Rattle.fence_law.proofs.Live.{Open_granted}
use Rattle.fence_law.proofs.Acked.{Full, Known_done, acks_full, option_cases}
use Rattle.fence_law.proofs.Later.{Unsettled, unsettled_added, unsettled_acks, unsettled_fenced, unsettled_mended, byte_or_touch, unsettled_refenced}

-- a write that was settled by the end of an earlier repair
abbrev pub Old : State → ℕ → Type 0
Old b j = (j < b.count) × ((b.start j).is_write ≡ true) × ((b.start j).alive ≡ true) × (b.acknowledged j ≡ false)
    × ((b.start j).tag < b.tag) × ((b.repairing ≡ false) ⊎ ((b.start j).tag ≡ b.ended_tag → ⊥))

pub old_apart : (b : State) (j : ℕ) → Old b j → Unsettled b j → ⊥
old_apart b j o u = elim u.4 [
  | inl e ↦ let l = o.4 in absurd (omega (arith, l, e))
  | inr e ↦ elim o.5 [ inl off ↦ true≢false (sym e.0 ∙ off) | inr ne ↦ ne e.1 ]
]

pub three : (b : State) (j : ℕ) → j < b.count → (b.start j).is_write ≡ true → b.acknowledged j ≡ false → Formed b →
    (Unsettled b j) ⊎ ((Old b j) ⊎ ((b.start j).alive ≡ false))
three b j low w a f = elim (cases_Bool (b.start j).alive) [
  | inr dead ↦ inr (inr dead)
  | inl al ↦ elim (cases_eq (b.start j).tag b.tag) [
    | inl e ↦ inl (low, w, al, a, inl e)
    | inr ne ↦ elim (cases_Bool b.repairing) [
      | inr over ↦ inr (inl (low, w, al, a, grind (arith, (f j low).low, ne), inl over))
      | inl m ↦ elim (cases_eq (b.start j).tag b.ended_tag) [
        | inl e ↦ inl (low, w, al, a, inr (m, e))
        | inr ne2 ↦ inr (inl (low, w, al, a, grind (arith, (f j low).low, ne), inr ne2))
      ]
    ]
  ]
]

-- an acknowledged write counts everywhere
abbrev pub Chosen_acked : State → Type 0
Chosen_acked b = (j p : ℕ) → j < b.count → b.acknowledged j ≡ true → b.chosen j p ≡ true

ca_added : (b : State) (s : Start) (row : ℕ → ℕ → Bool) → Chosen_acked b → Chosen_acked (added b s row)
ca_added b s row h j p low a = elim (cases_eq j b.count) [
  | inl e ↦ absurd (grind (arith, updated_read b.acknowledged b.count false j, e, a))
  | inr ne ↦
      rw (updated_other b.chosen b.count (λ q. false) j ne)
      (h j p (omega arith) (sym (updated_other b.acknowledged b.count false j ne) ∙ a))
]

acked_not_ended : (b : State) (j : ℕ) → b.acknowledged j ≡ true → ended b j ≡ false
acked_not_ended b j a = rw a (and_right (b.start j).is_write _ (and_right (b.start j).alive _ refl))

pub keep_chosen_acked : (b : State) (e : Event) → Allowed b e → Chosen_acked b → Chosen_acked (after b e)
keep_chosen_acked b (StartsWrite c g i d touch hit seen e1 pt) a h =
    ca_added b (written_start b c g d touch hit seen e1 pt) (λ k z. false) h
keep_chosen_acked b (StartsRead c g lo hi reach) a h = ca_added b (read_start b c g lo hi reach) (λ k z. false) h
keep_chosen_acked b (Repairs k which e0) a h = ca_added b (repair_start b k which e0) (λ f y. updated (λ w. false) k true f) h
keep_chosen_acked b (Rebuilds k cells) a h = ca_added b (rebuilt_start b k cells) (λ f y. updated (λ w. false) k true f) h
keep_chosen_acked b (Acknowledges c i) a h = λ j p low x. elim (cases_eq j i) [
  | inl e ↦ ap (λ y. y p) (updated_at b.chosen i (λ q. true) j e)
  | inr ne ↦ rw (updated_other b.chosen i (λ q. true) j ne) (h j p low (sym (updated_other b.acknowledged i true j ne) ∙ x))
]
keep_chosen_acked b (Repaired done e0) a h = λ j p low x. rw (acked_not_ended b j x) (h j p low x)
keep_chosen_acked b e a h = h

-- an unsettled write doesn't count yet
abbrev pub Chosen_open : State → Type 0
Chosen_open b = (j p : ℕ) → Unsettled b j → b.chosen j p ≡ false

co_added : (b : State) (s : Start) (row : ℕ → ℕ → Bool) → Chosen_open b → Chosen_open (added b s row)
co_added b s row h j p o = elim (unsettled_added b s row j o) [
  | inl w ↦ ap (λ y. y p) (updated_at b.chosen b.count (λ q. false) j w.0)
  | inr w ↦ rw (updated_other b.chosen b.count (λ q. false) j w.0) (h j p w.1)
]

pub keep_chosen_open : (b : State) (e : Event) → Allowed b e → Formed b → Mending b → Open_granted b → Chosen_open b →
    Chosen_open (after b e)
keep_chosen_open b (StartsWrite c g i d touch hit seen e1 pt) a f n q h =
    co_added b (written_start b c g d touch hit seen e1 pt) (λ k z. false) h
keep_chosen_open b (StartsRead c g lo hi reach) a f n q h = co_added b (read_start b c g lo hi reach) (λ k z. false) h
keep_chosen_open b (Repairs k which e0) a f n q h =
    co_added b (repair_start b k which e0) (λ f y. updated (λ w. false) k true f) h
keep_chosen_open b (Rebuilds k cells) a f n q h = co_added b (rebuilt_start b k cells) (λ f y. updated (λ w. false) k true f) h
keep_chosen_open b (Acknowledges c i) a f n q h =
    λ j p o. let x = unsettled_acks b i j o in rw (updated_other b.chosen i (λ z. true) j x.0) (h j p x.1)
keep_chosen_open b Fenced a f n q h = λ j p o. h j p (unsettled_fenced b j f o)
keep_chosen_open b Refenced a f n q h = λ j p o. h j p (unsettled_refenced b j f o)
keep_chosen_open b (Repaired done e0) a f n q h = λ j p o. absurd (unsettled_mended b j a.runs n q o)
keep_chosen_open b e a f n q h = h

-- a settled write of which all was performed counts where it has bytes
abbrev pub Late_ack : State → Type 0
Late_ack b = (j p v : ℕ) → Old b j → Full b j → (b.start j).data_at p ≡ Some v → b.chosen j p ≡ true

-- what an acknowledgement changes for a write that isn't unsettled: nothing
pub acks_same : (b : State) (c j p : ℕ) → Allowed b (Acknowledges c j) → IsCode b.layout → Calls b → Running b → Formed b →
    Known_done b → Dead b → Late_ack b → (Unsettled b j → ⊥) →
    (b.chosen j p ≡ true) ⊎ ((b.start j).data_at p ≡ None)
acks_same b c j p a code r run f kd dead late no_ = let low = (r.writes c j a.runs).below in let x = run.writes c j a.runs in
    option_cases ((b.start j).data_at p) (λ n. inr n) (λ v is. elim (three b j low x.0 x.1 f) [
      | inl u ↦ absurd (no_ u)
      | inr w ↦ elim w [
        | inl old ↦ inl (late j p v old (acks_full b c j a kd old.4) is)
        | inr d ↦ let c1 = (f j low).lands p v x.0 is in
            absurd (true≢false (sym (acks_full b c j a kd (dead j low d).0 c1.0 c1.1 c1.2 c1.3) ∙ (dead j low d).1 c1.0 c1.1))
      ]
    ])

-- the bytes before entry i stay through an acknowledgement, unless an unsettled write of their column stands before it
pub at_acks : (b : State) (c j i q : ℕ) → Allowed b (Acknowledges c j) → IsCode b.layout → Calls b → Running b → Formed b →
    Known_done b → Dead b → Late_ack b →
    (Unsettled b j → (b.start j).touch (b.layout.col q) ≡ true → i ≤ j) →
    byte_before (after b (Acknowledges c j)) i q ≡ byte_before b i q
at_acks b c j i q a code r run f kd dead late before = let low = (r.writes c j a.runs).below in let x = run.writes c j a.runs in
    chain_cares _ _ _ i (λ y l. elim (cases_eq y j) [
      | inr ne ↦ inl (rw (updated_other b.chosen j (λ z. true) y ne) refl)
      | inl e ↦ elim (three b j low x.0 x.1 f) [
        | inl u ↦
            elim (byte_or_touch b j q low f) [
              | inl n ↦ inr (ap (λ z. (b.start z).data_at q) e ∙ n)
              | inr t ↦
                  absurd (grind (arith, before u t, l, e))
            ]
        | inr w ↦
            elim
            (acks_same b c j q a code r run f kd dead late
            (λ u. elim w [ inl o ↦ old_apart b j o u | inr d ↦ true≢false (sym u.2 ∙ d) ])) [
              | inl on ↦ inl (ap (λ z. z q) (updated_at b.chosen j (λ z. true) y e) ∙ sym (ap (λ z. b.chosen z q) e ∙ on))
              | inr n ↦ inr (ap (λ z. (b.start z).data_at q) e ∙ n)
            ]
      ]
    ])

-- a write that is settled by a repair's end was unsettled
pub ended_unsettled : (b : State) (j : ℕ) → j < b.count → b.repairing ≡ true → ended b j ≡ true → Unsettled b j
ended_unsettled b j low m e =
    let p = and_parts (b.start j).is_write _ e in let q = and_parts (b.start j).alive _ p.1 in
    let r = and_parts (not (b.acknowledged j)) _ q.1 in
    (low, p.0, q.0, not-true (b.acknowledged j) r.0, inr (m, eqb-true (b.start j).tag b.ended_tag r.1))

pub at_mended : (b : State) (done : ℕ → Bool) (e0 : ℕ → ℕ) (i q : ℕ) → b.repairing ≡ true → i ≤ b.count → Formed b →
    ((j : ℕ) → Unsettled b j → (b.start j).touch (b.layout.col q) ≡ true → i ≤ j) →
    byte_before (after b (Repaired done e0)) i q ≡ byte_before b i q
at_mended b done e0 i q m high f before = chain_cares _ _ _ i (λ y l. elim (cases_Bool (ended b y)) [
  | inr n ↦ inl (rw n refl)
  | inl e ↦ let u = ended_unsettled b y (omega arith) m e in
      elim (byte_or_touch b y q u.0 f) [ inl n ↦ inr n | inr t ↦ absurd (grind (arith, before y u t, l)) ]
])
