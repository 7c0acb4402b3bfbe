-- Which events keep the machine of a file calm: all but the end of a first fence, and the loss of a component while a repair
-- runs.
use Rattle.std.proofs.Common.{◌≡◌, ◌<◌, ◌≤◌, ◌+◌, ℕ, Bool, true, false, cond, refl, sym, ap, subst, ◌∙◌, inl, inr, arith}
use Rattle.std.proofs.lemmas.Bool.{true≢false, cases_eq}
use Rattle.fence_law.specs.Columns.{IsCalm, Torn, Disturbed, Short}
use Rattle.fence_law.specs.Machine.{Allowed, after}
use Rattle.fence_law.specs.Starts.{written_start, read_start, repair_start, rebuilt_start}
use Rattle.fence_law.specs.State.{State, Event, Start, Layout, Write}
use Rattle.fence_law.specs.State.Event.{Acknowledges, StartsWrite, StartsRead, Repairs, Rebuilds, Repaired, Performs, Fenced, Refenced, Fails, Drops, Loses}
use Rattle.fence_law.specs.Words.{updated}
use Rattle.fence_law.proofs.Accepted.{Sure}
use Rattle.fence_law.proofs.Formed.{added}
use Rattle.fence_law.proofs.Later.{none_open}
use Rattle.fence_law.proofs.Open.{Open, now_fresh, fresh_open}
use Rattle.fence_law.proofs.SmallFiles.{same_map}
use Rattle.fence_law.proofs.Words.{updated_at, updated_other}

-- ---- what disturbs a column

-- the disturbance is torn, if its grant is over
abbrev pub torn_of : (s : State) (x : ℕ) (d : Disturbed s x) → (s.start d.0).tag < s.tag → Torn s x
torn_of s x d l = (d.0, d.1, d.2, d.3, d.4, d.5, d.6, d.7, d.8, d.9, d.10, d.11, l)

abbrev pub disturbs : (s : State) (x : ℕ) → Torn s x → Disturbed s x
disturbs s x t = (t.0, t.1, t.2, t.3, t.4, t.5, t.6, t.7, t.8, t.9, t.10, t.11)

-- what disturbs a column behind an event disturbed it before, as the same entry
abbrev pub Came : (s t : State) (x : ℕ) → Disturbed t x → Type 0
Came s t x d = (b : Disturbed s x) × (b.0 ≡ d.0) × (t.start d.0 ≡ s.start d.0)

-- a new entry of which nothing was performed, or that is no write
came_added : (s : State) (y : Start) (row : ℕ → ℕ → Bool) (x : ℕ) → (y.is_write ≡ true → (k z : ℕ) → row k z ≡ false) →
    (d : Disturbed (added s y row) x) → Came s (added s y row) x d
came_added s y row x none d = elim (cases_eq d.0 s.count) [
  | inl new ↦
      let is : y.is_write ≡ true =
      ap (λ (q : Start). q.is_write) (sym (updated_at s.start s.count y d.0 new)) ∙ d.6 in
      absurd (true≢false (sym d.11
      ∙ ap (λ (r : ℕ → ℕ → Bool). r d.1 d.2) (updated_at s.applied s.count row d.0 new) ∙ none is d.1 d.2))
  | inr old ↦
      let start : updated s.start s.count y d.0 ≡ s.start d.0 = updated_other s.start s.count y d.0 old in
      let applied : updated s.applied s.count row d.0 ≡ s.applied d.0 = updated_other s.applied s.count row d.0 old in
      let acknowledged : updated s.acknowledged s.count false d.0 ≡ s.acknowledged d.0 =
      updated_other s.acknowledged s.count false d.0 old in
      let low : d.0 < s.count + 1 = d.5 in (
        (
          d.0,
          d.1,
          d.2,
          d.3,
          d.4,
          omega (arith, low, old),
          sym (ap (λ (q : Start). q.is_write) start) ∙ d.6,
          sym acknowledged ∙ d.7,
          sym (ap (λ (q : Start). q.content d.1 d.2) start) ∙ d.8,
          d.9,
          d.10,
          sym (ap (λ (r : ℕ → ℕ → Bool). r d.1 d.2) applied) ∙ d.11,
        ),
        refl,
        start,
      )
]

came_acknowledged : (s : State) (c j x : ℕ) (d : Disturbed (after s (Acknowledges c j)) x) →
    Came s (after s (Acknowledges c j)) x d
came_acknowledged s c j x d = elim (cases_eq d.0 j) [
  | inl this ↦ absurd (true≢false (sym (updated_at s.acknowledged j true d.0 this) ∙ d.7))
  | inr other ↦ (
    (
      d.0,
      d.1,
      d.2,
      d.3,
      d.4,
      d.5,
      d.6,
      sym (updated_other s.acknowledged j true d.0 other) ∙ d.7,
      d.8,
      d.9,
      d.10,
      d.11,
    ),
    refl,
    refl,
  )
]

past : (w : Bool) (n o j : ℕ) → cond w n o ≤ j → j < n → o ≤ j
past true n o j l low = absurd (omega (arith, l, low))
past false n o j l low = l

came_repaired : (s : State) (done : ℕ → Bool) (e : ℕ → ℕ) (x : ℕ) (d : Disturbed (after s (Repaired done e)) x) →
    Came s (after s (Repaired done e)) x d
came_repaired s done e x d = (
  (
    d.0,
    d.1,
    d.2,
    d.3,
    past (done x) s.count (s.repaired_at x) d.0 d.4 d.5,
    d.5,
    d.6,
    d.7,
    d.8,
    d.9,
    d.10,
    d.11,
  ),
  refl,
  refl,
)

-- a WRITE that is performed disturbs by its own entry alone
pub came_performed : (s : State) (m : Write) (x : ℕ) (d : Disturbed (after s (Performs m)) x) → (d.0 ≡ m.entry → ⊥) →
    Came s (after s (Performs m)) x d
came_performed s m x d other = (
  (
    d.0,
    d.1,
    d.2,
    d.3,
    d.4,
    d.5,
    d.6,
    d.7,
    d.8,
    d.9,
    d.10,
    sym (ap (λ (r : ℕ → ℕ → Bool). r d.1 d.2) (updated_other s.applied m.entry _ d.0 other)) ∙ d.11,
  ),
  refl,
  refl,
)

-- no WRITE is performed
abbrev pub PerformsNone : Event → Type 0
PerformsNone (Performs m) = ⊥
PerformsNone e = Unit {0}

pub came : (s : State) (e : Event) → PerformsNone e → (x : ℕ) (d : Disturbed (after s e) x) → Came s (after s e) x d
came s (StartsWrite c g i bytes touch hit seen past_ part) none x d =
    came_added s (written_start s c g bytes touch hit seen past_ part) (λ k z. false) x (λ w k z. refl) d
came s (StartsRead c g lo hi reach) none x d =
    came_added s (read_start s c g lo hi reach) (λ k z. false) x (λ w k z. refl) d
came s (Repairs k cells e) none x d =
    came_added s (repair_start s k cells e) (λ f y. updated (λ w. false) k true f) x (λ w. absurd (true≢false (sym w))) d
came s (Rebuilds k cells) none x d =
    came_added s (rebuilt_start s k cells) (λ f y. updated (λ w. false) k true f) x (λ w. absurd (true≢false (sym w))) d
came s (Acknowledges c j) none x d = came_acknowledged s c j x d
came s (Repaired done e) none x d = came_repaired s done e x d
came s (Performs m) none x d = absurd none
came s e none x d = (d, refl, refl)

-- ---- what is short

-- none of these components was lost since
abbrev pub LosesNone : Event → Type 0
LosesNone (Fails k) = ⊥
LosesNone (Drops k) = ⊥
LosesNone (Loses c k) = ⊥
LosesNone e = Unit {0}

short_rebuilt : (s : State) (k : ℕ) (cells : ℕ → ℕ) (x : ℕ) → Short (after s (Rebuilds k cells)) x → Short s x
short_rebuilt s k cells x d = (
  d.0,
  d.1,
  d.2,
  d.3,
  λ f y is col at. elim (cases_eq f k) [
    | inl here ↦ absurd (true≢false (sym (d.4 f y is col at) ∙ updated_at s.lost k false f here))
    | inr other ↦ sym (updated_other s.lost k false f other) ∙ d.4 f y is col at
  ],
)

pub short_before : (s : State) (e : Event) → LosesNone e → (x : ℕ) → Short (after s e) x → Short s x
short_before s (Rebuilds k cells) none x d = short_rebuilt s k cells x d
short_before s (Fails k) none x d = absurd none
short_before s (Drops k) none x d = absurd none
short_before s (Loses c k) none x d = absurd none
short_before s e none x d = d

-- a component that is made anew and fails at once leaves the same short
short_refailed : (s : State) (k : ℕ) (cells : ℕ → ℕ) (x : ℕ) → s.lost k ≡ true →
    Short (after (after s (Rebuilds k cells)) (Fails k)) x → Short s x
short_refailed s k cells x was d = (
  d.0,
  d.1,
  d.2,
  d.3,
  λ f y is col at. elim (cases_eq f k) [
    | inl here ↦ ap s.lost here ∙ was
    | inr other ↦
        sym (updated_other s.lost k false f other)
        ∙ sym (updated_other (updated s.lost k false) k true f other) ∙ d.4 f y is col at
  ],
)

-- ---- torn and short

-- a column with parity is torn only while a repair runs
pub torn_repairing : (s : State) → Sure s → (x : ℕ) → s.layout.coded x ≡ true → Torn s x → s.repairing ≡ true
torn_repairing s sure x coded t =
    elim (sure.settled_ t.0 t.1 t.2 t.3 t.5 t.6 t.7 t.8 t.10 (subst (λ (y : ℕ). s.repaired_at y ≤ t.0) (sym t.9) t.4)) [
      | inl u ↦ elim u.4 [
        | inl same ↦ let l : (s.start t.0).tag < s.tag = t.12 in absurd (omega (arith, l, same))
        | inr runs ↦ runs.0
      ]
      | inr o ↦ elim o [
        | inl off ↦ absurd (true≢false (sym t.11 ∙ off))
        | inr gone ↦ absurd (true≢false (sym coded ∙ ap s.layout.coded (sym t.9) ∙ gone.1))
      ]
    ]

-- so is what a further fence leaves
torn_refenced : (s : State) → Sure s → Allowed s Refenced → (x : ℕ) → s.layout.coded x ≡ true → Torn (after s Refenced) x →
    Torn s x
torn_refenced s sure a x coded t =
    elim (sure.settled_ t.0 t.1 t.2 t.3 t.5 t.6 t.7 t.8 t.10 (subst (λ (y : ℕ). s.repaired_at y ≤ t.0) (sym t.9) t.4)) [
      | inl u ↦ elim u.4 [
        | inl same ↦
            absurd (none_open s t.0 a.again sure.safe.mending sure.safe.open_granted (u.0, u.1, u.2, u.3, same))
        | inr runs ↦
            let low : s.ended_tag < s.tag = sure.safe.mending.low a.again in
            let is : (s.start t.0).tag ≡ s.ended_tag = runs.1 in
            torn_of s x (disturbs (after s Refenced) x t) (omega (arith, low, is))
      ]
      | inr o ↦ elim o [
        | inl off ↦ absurd (true≢false (sym t.11 ∙ off))
        | inr gone ↦ absurd (true≢false (sym coded ∙ ap s.layout.coded (sym t.9) ∙ gone.1))
      ]
    ]

-- ---- calm

-- the fence that is over is no first one
abbrev pub KeepsTag : Event → Type 0
KeepsTag Fenced = ⊥
KeepsTag Refenced = ⊥
KeepsTag e = Unit {0}

pub tag_kept : (s : State) (e : Event) → KeepsTag e → (after s e).tag ≡ s.tag
tag_kept s Fenced is = absurd is
tag_kept s Refenced is = absurd is
tag_kept s e is = refl

calm_by : (s : State) (e : Event) → KeepsTag e → PerformsNone e → LosesNone e → IsCalm s → IsCalm (after s e)
calm_by s e keeps none loses calm x coded torn short =
    let d : Disturbed (after s e) x = disturbs (after s e) x torn in
    let c : Came s (after s e) x d = came s e none x d in
    let l : ((after s e).start torn.0).tag < (after s e).tag = torn.12 in
    let tag : (after s e).tag ≡ s.tag = tag_kept s e keeps in
    let start : ((after s e).start torn.0).tag ≡ (s.start c.0.0).tag =
    ap (λ (y : Start). y.tag) c.2 ∙ ap (λ (j : ℕ). (s.start j).tag) (sym c.1) in
    calm x (ap (λ (y : Layout). y.coded x) (sym (same_map s e)) ∙ coded)
    (torn_of s x c.0 (omega (arith, l, tag, start))) (short_before s e loses x short)

calm_performed : (s : State) (m : Write) → Sure s → Allowed s (Performs m) → IsCalm s → IsCalm (after s (Performs m))
calm_performed s m sure a calm x coded torn short = elim (cases_eq torn.0 m.entry) [
  | inl here ↦
      let open_ : Open s m.entry =
      fresh_open s m a.comes (now_fresh s m a sure.safe.tags sure.safe.formed sure.safe.known) sure.safe.known sure.safe.dead
      sure.safe.unacked in
      let same : (s.start torn.0).tag ≡ s.tag = ap (λ (j : ℕ). (s.start j).tag) here ∙ open_.4 in
      let l : (s.start torn.0).tag < s.tag = torn.12 in
      absurd (omega (arith, l, same))
  | inr other ↦
      let c : Came s (after s (Performs m)) x (disturbs (after s (Performs m)) x torn) =
      came_performed s m x (disturbs (after s (Performs m)) x torn) other in
      let l : (s.start torn.0).tag < s.tag = torn.12 in
      let at : (s.start torn.0).tag ≡ (s.start c.0.0).tag = ap (λ (j : ℕ). (s.start j).tag) (sym c.1) in
      calm x coded (torn_of s x c.0 (omega (arith, l, at))) short
]

calm_lost : (s : State) (c k : ℕ) → Sure s → Allowed s (Loses c k) → IsCalm s → IsCalm (after s (Loses c k))
calm_lost s c k sure a calm x coded torn short =
    absurd (true≢false (sym (torn_repairing s sure x coded torn) ∙ a.repaired))

-- these events alone may end calm
abbrev pub IsPeaceful : Event → Type 0
IsPeaceful Fenced = ⊥
IsPeaceful (Drops k) = ⊥
IsPeaceful (Fails k) = ⊥
IsPeaceful e = Unit {0}

pub calm_peaceful : (s : State) (e : Event) → IsPeaceful e → Allowed s e → Sure s → IsCalm s → IsCalm (after s e)
calm_peaceful s Fenced is a sure calm = absurd is
calm_peaceful s (Drops k) is a sure calm = absurd is
calm_peaceful s (Fails k) is a sure calm = absurd is
calm_peaceful s (Loses c k) is a sure calm = calm_lost s c k sure a calm
calm_peaceful s (Performs m) is a sure calm = calm_performed s m sure a calm
calm_peaceful s Refenced is a sure calm =
    λ x coded torn short. calm x coded (torn_refenced s sure a x coded torn) short
calm_peaceful s e is a sure calm = calm_by s e tt tt tt calm

pub calm_refailed : (s : State) (k : ℕ) (cells : ℕ → ℕ) → Allowed s (Rebuilds k cells) → IsCalm s →
    IsCalm (after (after s (Rebuilds k cells)) (Fails k))
calm_refailed s k cells a calm x coded torn short =
    let t : State = after s (Rebuilds k cells) in
    let c : Came s t x (disturbs t x torn) = came s (Rebuilds k cells) tt x (disturbs t x torn) in
    let l : (t.start torn.0).tag < s.tag = torn.12 in
    let start : (t.start torn.0).tag ≡ (s.start c.0.0).tag =
    ap (λ (y : Start). y.tag) c.2 ∙ ap (λ (j : ℕ). (s.start j).tag) (sym c.1) in
    calm x coded (torn_of s x c.0 (omega (arith, l, start))) (short_refailed s k cells x a.gone short)

-- ---- where a repair doesn't run, no column with parity is torn

pub calm_unrepairing : (s : State) → Sure s → s.repairing ≡ false → IsCalm s
calm_unrepairing s sure none x coded torn short = true≢false (sym (torn_repairing s sure x coded torn) ∙ none)
