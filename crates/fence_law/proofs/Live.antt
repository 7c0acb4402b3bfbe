-- Kept: an open write's grant is outstanding, for writing, and covers it; its client is at it or has given up, and sends no clean
-- return.
-- So the server can't free the grant, and a fence that ends it lifts the tag.
use Rattle.std.proofs.Common.{◌≡◌, ℕ, ◌+◌, ◌<◌, ◌≤◌, Bool, true, false, Option, Some, None, ◌⊎◌, refl, sym, ◌∙◌, inl, inr, arith}
use Rattle.std.proofs.lemmas.Bool.{cases_eq, true≢false}
use Rattle.std.proofs.lemmas.Option.{same_Some}
use Rattle.fence_law.specs.Words.{updated, In}
use Rattle.fence_law.specs.State.{State, Event, RequestKind, Grant, Call, Start}
use Rattle.fence_law.specs.Starts.{granted, written_start, read_start, repair_start, rebuilt_start}
use Rattle.fence_law.specs.Machine.{Allowed, after}
use Rattle.fence_law.specs.State.RequestKind.{Get, Return}
use Rattle.fence_law.specs.State.Call.{Idle, Writes, Reads, Broken}
use Rattle.fence_law.specs.State.Event.{Asks, Grants, Refuses, Takes, AsksOther, ServesOther, GivesBack, Reports, Forgets, Frees, Fenced, Refenced, StartsWrite, StartsRead, Acknowledges, Breaks, Answers, EndsRead, Repairs, Rebuilds, TakesRefusal, Leaves}
use Rattle.fence_law.proofs.Words.{updated_other, updated_read, updated_same}
use Rattle.fence_law.proofs.Slots.{Slots}
use Rattle.fence_law.proofs.Holds.{Holds, taken_now, served_now}
use Rattle.fence_law.proofs.Commands.{Calls}
use Rattle.fence_law.proofs.Formed.{added, Formed}
use Rattle.fence_law.proofs.Open.{Open, open_added, open_acks, open_fenced}

-- under a grant that its client hasn't taken yet nothing was started
abbrev pub Unused : State → Type 0
Unused b = (j : ℕ) → j < b.count → (b.start j).is_write ≡ true → (g : Grant) →
    b.waiting (b.start j).client ≡ true → b.slot (b.start j).client ≡ b.sequence (b.start j).client →
    b.kept_grant (b.start j).client ≡ Some g → (b.start j).grant < g.number

unused_asks : (b : State) (c : ℕ) → b.waiting c ≡ false → Slots b → Unused b →
    Unused (record b { sequence = updated b.sequence c (b.sequence c + 1); waiting = updated b.waiting c true })
unused_asks b c free s h j l w g x e k = let d : ℕ = (b.start j).client in
    grind (arith, updated_read b.sequence c (b.sequence c + 1) d, updated_read b.waiting c true d, s.near d, h j l w g)

unused_served : (b : State) (c : ℕ) → Unused b →
    Unused (record b { slot = updated b.slot c (b.slot c + 1); kept_grant = updated b.kept_grant c None })
unused_served b c h j l w g x e k = let d : ℕ = (b.start j).client in
    grind (arith, updated_read b.slot c (b.slot c + 1) d, updated_read b.kept_grant c None d, h j l w g)

unused_grants : (b : State) (c number : ℕ) (rw : Bool) (range : ℕ → Bool) (extending : Bool) → b.next ≤ number → Formed b →
    Unused b → Unused (after b (Grants c number rw range extending))
unused_grants b c number rw range extending new f h j l w g x e k = let d : ℕ = (b.start j).client in
    grind (
      arith,
      updated_read b.slot c (b.slot c + 1) d,
      updated_read b.kept_grant c (Some (granted b c number rw range extending)) d,
      h j l w g,
      (f j l).number w,
      new,
    )

unused_takes : (b : State) (c : ℕ) → Unused b → Unused (record b { waiting = updated b.waiting c false })
unused_takes b c h j l w g x e k = grind (arith, updated_read b.waiting c false (b.start j).client, h j l w g)

unused_added : (b : State) (s : Start) (row : ℕ → ℕ → Bool) → (s.is_write ≡ true → b.waiting s.client ≡ true → ⊥) → Unused b →
    Unused (added b s row)
unused_added b s row free h j l w g x e k = elim (updated_read b.start b.count s j).1 [
  | inl y ↦ absurd (free (rw y.1 at w) (rw y.1 at x))
  | inr y ↦ rw y.1 (h j (grind (arith, y.0, l)) (rw y.1 at w) g (rw y.1 at x) (rw y.1 at e) (rw y.1 at k))
]

pub keep_unused : (b : State) (e : Event) → Allowed b e → Slots b → Holds b → Formed b → Unused b → Unused (after b e)
keep_unused b (Asks c rw) a s r f h = unused_asks b c a.free s h
keep_unused b (GivesBack c g) a s r f h = unused_asks b c a.free s h
keep_unused b (Reports c g) a s r f h = unused_asks b c a.free s h
keep_unused b (Refuses c kind) a s r f h = unused_served b c h
keep_unused b (Frees c) a s r f h = unused_served b c h
keep_unused b (Grants c number rw range extending) a s r f h = unused_grants b c number rw range extending a.new f h
keep_unused b (Takes c o s0) a s r f h = unused_takes b c h
keep_unused b (AsksOther c) a s r f h =
    λ j l w g x e k. h j l w g x (grind (arith, updated_read b.sequence c (b.sequence c + 1) (b.start j).client, e, x, a.free)) k
keep_unused b (ServesOther c) a s r f h =
    λ j l w g x e k. h j l w g x (grind (arith, updated_read b.slot c (b.slot c + 1) (b.start j).client, e, x, a.free)) k
keep_unused b (StartsWrite c g i d touch hit seen e1 pt) a s r f h =
    unused_added b (written_start b c g d touch hit seen e1 pt) (λ k z. false) (λ w x. grind (arith, r.waits c x, a.has)) h
keep_unused b (StartsRead c g lo hi reach) a s r f h =
    unused_added b (read_start b c g lo hi reach) (λ k z. false) (λ w. absurd (true≢false (sym w))) h
keep_unused b (Repairs k which e0) a s r f h =
    unused_added b (repair_start b k which e0) (λ f y. updated (λ w. false) k true f) (λ w. absurd (true≢false (sym w))) h
keep_unused b (Rebuilds k cells) a s r f h =
    unused_added b (rebuilt_start b k cells) (λ f y. updated (λ w. false) k true f) (λ w. absurd (true≢false (sym w))) h
keep_unused b e a s r f h = h

-- the grant of an open write is outstanding, and for writing
abbrev pub Open_granted : State → Type 0
Open_granted b = (j : ℕ) → Open b j →
    (g : Grant) × (b.outstanding (b.start j).client ≡ Some g) × (g.number ≡ (b.start j).grant) × (g.rw ≡ true) × ((x : ℕ) →
    (b.start j).touch x ≡ true → g.covers x ≡ true)

-- its client is at it, or has given it up
abbrev pub Open_at_work : State → Type 0
Open_at_work b = (j : ℕ) → Open b j →
    (b.held (b.start j).client ≡ None) ⊎ ((b.call (b.start j).client ≡ Writes j) ⊎ (b.call (b.start j).client ≡ Broken))

-- and sends no clean return
abbrev pub Unclean : State → Type 0
Unclean b = (j : ℕ) → Open b j → b.waiting (b.start j).client ≡ true → b.asked (b.start j).client ≡ Return true →
    b.slot (b.start j).client ≡ b.sequence (b.start j).client

eras_grants : (b : State) (c number : ℕ) (rw : Bool) (range : ℕ → Bool) (extending : Bool) →
    Allowed b (Grants c number rw range extending) → Open_granted b → Open_granted (after b (Grants c number rw range extending))
eras_grants b c number rw range extending a h j o = let x = h j o in (
  x.0,
  grind (arith, x.1, a.none, updated_read b.outstanding c (Some (granted b c number rw range extending)) (b.start j).client),
  x.2,
  x.3,
  x.4,
)

eras_frees : (b : State) (c : ℕ) → Allowed b (Frees c) → Slots b → Unclean b → Open_granted b → Open_granted (after b (Frees c))
eras_frees b c a s u h j o = let x = h j o in (
  x.0,
  grind (arith, x.1, updated_read b.outstanding c None (b.start j).client, u j o, served_now b c (Return true) a s),
  x.2,
  x.3,
  x.4,
)

eras_added : (b : State) (s : Start) (row : ℕ → ℕ → Bool) →
    (s.is_write ≡ true → s.tag ≡ b.tag →
    (g : Grant) × (b.outstanding s.client ≡ Some g) × (g.number ≡ s.grant) × (g.rw ≡ true) × ((x : ℕ) → s.touch x ≡ true →
    g.covers x ≡ true)) → Open_granted b → Open_granted (added b s row)
eras_added b s row new h j o = elim (open_added b s row j o) [
  | inl w ↦ rw (w.0, updated_same b.start b.count s) (new w.1 w.3)
  | inr w ↦ rw (updated_other b.start b.count s j w.0) (h j w.1)
]

-- a client that holds a grant and is at no write has no open write
pub busy_free : (b : State) (c j : ℕ) (g : Grant) → b.held c ≡ Some g → (b.call c ≡ Idle) ⊎ ((i : ℕ) × (b.call c ≡ Reads i)) →
    Open_at_work b → Open b j → (b.start j).client ≡ c → ⊥
busy_free b c j g has free h o by = elim free [
  | inl e ↦ grind (arith, h j o, e, has, by)
  | inr e ↦ grind (arith, h j o, e.1, has, by)
]

pub keep_open_granted : (b : State) (e : Event) → Allowed b e → Calls b → Slots b → Holds b → Formed b → Unclean b →
    Open_at_work b → Open_granted b → Open_granted (after b e)
keep_open_granted b (Grants c number rw range extending) a r s o f u y h = eras_grants b c number rw range extending a h
keep_open_granted b (Leaves c g) a r s o f u y h = λ j op. let x = h j op in (
  x.0,
  updated_other b.outstanding c None (b.start j).client (λ e. busy_free b c j g a.has (inl a.idle) y op e) ∙ x.1,
  x.2,
  x.3,
  x.4,
)
keep_open_granted b (Frees c) a r s o f u y h = eras_frees b c a s u h
keep_open_granted b Fenced a r s o f u y h = λ j x. absurd (open_fenced b j f x)
keep_open_granted b Refenced a r s o f u y h = λ j x. absurd (open_fenced b j f x)
keep_open_granted b (StartsWrite c g i d touch hit seen e1 pt) a r s o f u y h =
    eras_added b (written_start b c g d touch hit seen e1 pt) (λ k z. false)
    (λ w t. (
      g,
      grind (arith, o.has c g a.has, t),
      refl,
      a.may,
      λ x z. let u2 = r.reads c i a.gathers in
          let same : Some u2.under.0 ≡ Some g = sym u2.under.1 ∙ a.has in
          rw (same_Some u2.under.0 g same) at (u2.under.3 x (a.gathered x z)),
    )) h
keep_open_granted b (StartsRead c g lo hi reach) a r s o f u y h =
    eras_added b (read_start b c g lo hi reach) (λ k z. false) (λ w. absurd (true≢false (sym w))) h
keep_open_granted b (Repairs k which e0) a r s o f u y h =
    eras_added b (repair_start b k which e0) (λ f y. updated (λ w. false) k true f) (λ w. absurd (true≢false (sym w))) h
keep_open_granted b (Rebuilds k cells) a r s o f u y h =
    eras_added b (rebuilt_start b k cells) (λ f y. updated (λ w. false) k true f) (λ w. absurd (true≢false (sym w))) h
keep_open_granted b (Acknowledges c j) a r s o f u y h = λ i x. h i (open_acks b j i x).1
keep_open_granted b e a r s o f u y h = h

busy_added_idle : (b : State) (s : Start) (row : ℕ → ℕ → Bool) (c : ℕ) (x : Call) →
    (s.is_write ≡ true → (s.client ≡ c) × (x ≡ Writes b.count)) →
    ((j : ℕ) → Open b j → (b.start j).client ≡ c → ⊥) → Open_at_work b →
    Open_at_work (record (added b s row) { call = updated b.call c x })
busy_added_idle b s row c x new free h j o = elim (open_added b s row j o) [
  | inl w ↦ rw (w.0, updated_same b.start b.count s) (inr (inl (rw ((new w.1).0, updated_same b.call c x) ((new w.1).1))))
  | inr w ↦ rw (updated_other b.start b.count s j w.0, updated_other b.call c x (b.start j).client (free j w.1)) (h j w.1)
]

busy_added : (b : State) (s : Start) (row : ℕ → ℕ → Bool) → s.is_write ≡ false → Open_at_work b → Open_at_work (added b s row)
busy_added b s row no_write h j o = elim (open_added b s row j o) [
  | inl w ↦ absurd (true≢false (sym w.1 ∙ no_write))
  | inr w ↦ rw (updated_other b.start b.count s j w.0) (h j w.1)
]

busy_drops : (b : State) (c : ℕ) → Open_at_work b → Open_at_work (record b { held = updated b.held c None })
busy_drops b c h j o = grind (arith, updated_read b.held c None (b.start j).client, h j o)

busy_leaves : (b : State) (c : ℕ) → Open_at_work b →
    Open_at_work (record b { held = updated b.held c None; call = updated b.call c Idle })
busy_leaves b c h j o =
    grind (arith, updated_read b.held c None (b.start j).client, updated_read b.call c Idle (b.start j).client, h j o)

busy_breaks : (b : State) (c : ℕ) → Open_at_work b → Open_at_work (record b { call = updated b.call c Broken })
busy_breaks b c h j o = grind (arith, updated_read b.call c Broken (b.start j).client, h j o)

busy_takes : (b : State) (c : ℕ) (o : Option Grant) (s0 : ℕ) → Allowed b (Takes c o s0) → Slots b → Holds b → Unused b →
    Open_granted b → Open_at_work b → Open_at_work (after b (Takes c o s0))
busy_takes b c o s0 a s r u q h j x = let y = q j x in let d : ℕ = (b.start j).client in
    grind (
      arith,
      updated_read b.held c o d,
      h j x,
      taken_now b c o s0 a.comes s a.waits,
      r.comes d y.0,
      u j x.0 x.1 y.0,
      y,
      a.waits,
      r.comes c,
      u j x.0 x.1,
    )

busy_acks : (b : State) (c i : ℕ) → Allowed b (Acknowledges c i) → Open_at_work b → Open_at_work (after b (Acknowledges c i))
busy_acks b c i a h j o =
    let x = open_acks b i j o in grind (arith, updated_read b.call c Idle (b.start j).client, h j x.1, x.0, a.runs)

busy_reads : (b : State) (c i : ℕ) → b.call c ≡ Reads i → Open_at_work b →
    Open_at_work (record b { call = updated b.call c Idle })
busy_reads b c i run h j o = grind (arith, updated_read b.call c Idle (b.start j).client, h j o, run)

pub keep_open_at_work : (b : State) (e : Event) → Allowed b e → Slots b → Holds b → Formed b → Unused b → Open_granted b →
    Open_at_work b → Open_at_work (after b e)
keep_open_at_work b (Takes c o s0) a s r f u q h = busy_takes b c o s0 a s r u q h
keep_open_at_work b (Leaves c g) a s r f u q h = busy_drops b c h
keep_open_at_work b (GivesBack c g) a s r f u q h = busy_drops b c h
keep_open_at_work b (Reports c g) a s r f u q h = busy_leaves b c h
keep_open_at_work b (Forgets c) a s r f u q h = busy_leaves b c h
keep_open_at_work b (TakesRefusal c j0) a s r f u q h = busy_leaves b c h
keep_open_at_work b (StartsWrite c g i d touch hit seen e1 pt) a s r f u q h =
    busy_added_idle b (written_start b c g d touch hit seen e1 pt) (λ k z. false) c (Writes b.count) (λ w. (refl, refl))
    (λ j o by. busy_free b c j g a.has (inr (i, a.gathers)) h o by) h
keep_open_at_work b (StartsRead c g lo hi reach) a s r f u q h =
    busy_added_idle b (read_start b c g lo hi reach) (λ k z. false) c (Reads b.count) (λ w. absurd (true≢false (sym w)))
    (λ j o by. busy_free b c j g a.has (inl a.idle) h o by) h
keep_open_at_work b (Repairs k which e0) a s r f u q h =
    busy_added b (repair_start b k which e0) (λ f y. updated (λ w. false) k true f) refl h
keep_open_at_work b (Rebuilds k cells) a s r f u q h =
    busy_added b (rebuilt_start b k cells) (λ f y. updated (λ w. false) k true f) refl h
keep_open_at_work b (Acknowledges c j) a s r f u q h = busy_acks b c j a h
keep_open_at_work b (Breaks c j) a s r f u q h = busy_breaks b c h
keep_open_at_work b (Answers c j f2) a s r f u q h = busy_reads b c j a.runs h
keep_open_at_work b (EndsRead c j) a s r f u q h = busy_reads b c j a h
keep_open_at_work b Fenced a s r f u q h = λ j x. absurd (open_fenced b j f x)
keep_open_at_work b Refenced a s r f u q h = λ j x. absurd (open_fenced b j f x)
keep_open_at_work b e a s r f u q h = h

unclean_asks : (b : State) (c : ℕ) (kind : RequestKind) →
    ((kind ≡ Return true) → (j : ℕ) → Open b j → (b.start j).client ≡ c → ⊥) → b.waiting c ≡ false → Unclean b →
    Unclean
    (record b {
      sequence = updated b.sequence c (b.sequence c + 1);
      waiting = updated b.waiting c true;
      asked = updated b.asked c kind;
    })
unclean_asks b c kind other free h j o w e = let d : ℕ = (b.start j).client in elim (cases_eq d c) [
  | inl y ↦ absurd (other (sym (updated_same b.asked c kind) ∙ rw y at e) j o y)
  | inr ne ↦
      grind (
        arith,
        updated_read b.sequence c (b.sequence c + 1) d,
        updated_read b.waiting c true d,
        updated_read b.asked c kind d,
        h j o,
        ne,
        w,
        e,
      )
]

unclean_served : (b : State) (c : ℕ) (kind : RequestKind) →
    In (record { client = c; sequence = b.slot c + 1; kind = kind }) b.requests → Slots b → Unclean b →
    Unclean (record b { slot = updated b.slot c (b.slot c + 1) })
unclean_served b c kind a s h j o w e =
    grind (arith, updated_read b.slot c (b.slot c + 1) (b.start j).client, served_now b c kind a s, h j o)

unclean_takes : (b : State) (c : ℕ) → Unclean b → Unclean (record b { waiting = updated b.waiting c false })
unclean_takes b c h j o w e = grind (arith, updated_read b.waiting c false (b.start j).client, h j o)

unclean_added : (b : State) (s : Start) (row : ℕ → ℕ → Bool) → (s.is_write ≡ true → b.waiting s.client ≡ true → ⊥) → Unclean b →
    Unclean (added b s row)
unclean_added b s row free h j o w e = elim (open_added b s row j o) [
  | inl y ↦ absurd (free y.1 (rw (y.0, updated_same b.start b.count s) at w))
  | inr y ↦
      rw (updated_other b.start b.count s j y.0)
      (h j y.1 (rw (updated_other b.start b.count s j y.0) at w) (rw (updated_other b.start b.count s j y.0) at e))
]

pub keep_unclean : (b : State) (e : Event) → Allowed b e → Slots b → Holds b → Formed b → Open_at_work b → Unclean b →
    Unclean (after b e)
keep_unclean b (Asks c rw) a s r f y h = unclean_asks b c (Get rw) (λ e. absurd (cc e)) a.free h
keep_unclean b (GivesBack c g) a s r f y h =
    unclean_asks b c (Return true) (λ e j o by. busy_free b c j g a.has (inl a.idle) y o by) a.free h
keep_unclean b (Reports c g) a s r f y h = unclean_asks b c (Return false) (λ e. absurd (cc e)) a.free h
keep_unclean b (Grants c number rw range extending) a s r f y h = unclean_served b c (Get rw) a.asks s h
keep_unclean b (Refuses c kind) a s r f y h = unclean_served b c kind a.asks s h
keep_unclean b (Frees c) a s r f y h = unclean_served b c (Return true) a s h
keep_unclean b (Takes c o s0) a s r f y h = unclean_takes b c h
keep_unclean b (AsksOther c) a s r f y h =
    λ j o w e. grind (arith, updated_read b.sequence c (b.sequence c + 1) (b.start j).client, h j o w e, w, a.free)
keep_unclean b (ServesOther c) a s r f y h =
    λ j o w e. grind (arith, updated_read b.slot c (b.slot c + 1) (b.start j).client, h j o w e, w, a.free)
keep_unclean b (StartsWrite c g i d touch hit seen e1 pt) a s r f y h =
    unclean_added b (written_start b c g d touch hit seen e1 pt) (λ k z. false) (λ w x. grind (arith, r.waits c x, a.has)) h
keep_unclean b (StartsRead c g lo hi reach) a s r f y h =
    unclean_added b (read_start b c g lo hi reach) (λ k z. false) (λ w. absurd (true≢false (sym w))) h
keep_unclean b (Repairs k which e0) a s r f y h =
    unclean_added b (repair_start b k which e0) (λ f y. updated (λ w. false) k true f) (λ w. absurd (true≢false (sym w))) h
keep_unclean b (Rebuilds k cells) a s r f y h =
    unclean_added b (rebuilt_start b k cells) (λ f y. updated (λ w. false) k true f) (λ w. absurd (true≢false (sym w))) h
keep_unclean b (Acknowledges c i) a s r f y h = λ j o. h j (open_acks b i j o).1
keep_unclean b Fenced a s r f y h = λ j x. absurd (open_fenced b j f x)
keep_unclean b Refenced a s r f y h = λ j x. absurd (open_fenced b j f x)
keep_unclean b e a s r f y h = h
