-- Kept: a held grant is its client's outstanding one or has an older tag; outstanding grants that share a column don't conflict.
-- The server grants only where that client has none and nothing conflicts; a fence lifts the tag as it empties the table.
use Rattle.std.proofs.Common.{◌≡◌, ℕ, ◌+◌, ◌<◌, Bool, true, false, ◌||◌, Option, Some, None, ◌⊎◌, arith}
use Rattle.fence_law.specs.Words.{updated, In}
use Rattle.fence_law.specs.State.{State, Event, RequestKind, Grant}
use Rattle.fence_law.specs.Starts.{granted}
use Rattle.fence_law.specs.Machine.{Allowed, after}
use Rattle.fence_law.specs.State.RequestKind.{Get, Return}
use Rattle.fence_law.specs.State.Event.{Asks, Grants, Refuses, Takes, AsksOther, ServesOther, GivesBack, Reports, Forgets, Frees, Fenced, Refenced, TakesRefusal, Leaves}
use Rattle.fence_law.proofs.Words.{updated_read}
use Rattle.fence_law.proofs.Slots.{Slots}

-- A client's grant is its outstanding one, or an old one in place of which it has none.
abbrev pub Good : ℕ → ℕ → (ℕ → Option Grant) → ℕ → Grant → Type 0
Good tag next outstanding c g =
    (g.number < next) × (((g.tag ≡ tag) × (outstanding c ≡ Some g)) ⊎ ((g.tag < tag) × (outstanding c ≡ None)))

abbrev pub Holds : State → Type 0
Holds b = record {
  waits : (c : ℕ) → b.waiting c ≡ true → b.held c ≡ None;
  has : (c : ℕ) (g : Grant) → b.held c ≡ Some g → Good b.tag b.next b.outstanding c g;
  comes : (c : ℕ) (g : Grant) → b.waiting c ≡ true → b.slot c ≡ b.sequence c → b.kept_grant c ≡ Some g →
      Good b.tag b.next b.outstanding c g;
  stands : (c : ℕ) (g : Grant) → b.outstanding c ≡ Some g → (g.tag ≡ b.tag) × (g.number < b.next);
  apart : (c d : ℕ) (g h : Grant) → (c ≡ d → ⊥) → b.outstanding c ≡ Some g → b.outstanding d ≡ Some h → (x : ℕ) →
      g.covers x ≡ true → h.covers x ≡ true → (g.rw || h.rw) ≡ false;
}

-- a request that is carried out is the one that its client waits for
pub served_now : (b : State) (c : ℕ) (kind : RequestKind) →
    In (record { client = c; sequence = b.slot c + 1; kind = kind }) b.requests → Slots b →
    (b.waiting c ≡ true) × (b.slot c + 1 ≡ b.sequence c) × (b.asked c ≡ kind)
served_now b c kind i s = let f = s.asks (record { client = c; sequence = b.slot c + 1; kind = kind }) i in let n = s.near c in
    let e : b.slot c + 1 ≡ b.sequence c = grind (arith, f, n) in (grind (arith, f, n), e, grind (arith, f, n, e))

-- an answer that is taken is the one that the slot keeps
pub taken_now : (b : State) (c : ℕ) (o : Option Grant) (s0 : ℕ) →
    In (record { client = c; sequence = b.sequence c; grant = o; size = s0 }) b.answers → Slots b →
    b.waiting c ≡ true → (b.slot c ≡ b.sequence c) × (b.kept_grant c ≡ o)
taken_now b c o s0 i s w =
    let f = s.told (record { client = c; sequence = b.sequence c; grant = o; size = s0 }) i in let n = s.near c in
    let e : b.slot c ≡ b.sequence c = grind (arith, f, n) in (e, grind (arith, f, e))

keep_asks : (b : State) (c : ℕ) (rw : Bool) → Allowed b (Asks c rw) → Slots b → Holds b → Holds (after b (Asks c rw))
keep_asks b c rw a s h = record {
  waits = λ d w. grind (arith, updated_read b.waiting c true d, h.waits d, a.none);
  has = h.has;
  comes =
      λ d g w e k. grind (
        arith,
        updated_read b.waiting c true d,
        updated_read b.sequence c (b.sequence c + 1) d,
        s.near d,
        h.comes d g,
      );
  stands = h.stands;
  apart = h.apart;
}

keep_grants : (b : State) (c number : ℕ) (rw : Bool) (range : ℕ → Bool) (extending : Bool) →
    Allowed b (Grants c number rw range extending) → Slots b → Holds b → Holds (after b (Grants c number rw range extending))
keep_grants b c number rw range extending a s h = let now = served_now b c (Get rw) a.asks s in record {
  waits = h.waits;
  has =
      λ d g e. grind (
        arith,
        updated_read b.outstanding c (Some (granted b c number rw range extending)) d,
        h.has d g,
        h.waits c,
        now,
      );
  comes =
      λ d g w e k. grind (
        arith,
        updated_read b.slot c (b.slot c + 1) d,
        updated_read b.kept_grant c (Some (granted b c number rw range extending)) d,
        updated_read b.outstanding c (Some (granted b c number rw range extending)) d,
        h.comes d g,
      );
  stands = λ d g e. grind (arith, updated_read b.outstanding c (Some (granted b c number rw range extending)) d, h.stands d g);
  apart = λ d f g k ne x y z p q. grind (
    arith,
    updated_read b.outstanding c (Some (granted b c number rw range extending)) d,
    updated_read b.outstanding c (Some (granted b c number rw range extending)) f,
    λ (u : b.outstanding d ≡ Some g) (v : b.outstanding f ≡ Some k). h.apart d f g k ne u v z p q,
    λ (u : b.outstanding d ≡ Some g). a.apart d g u z,
    λ (u : b.outstanding f ≡ Some k). a.apart f k u z,
  );
}

keep_refuses : (b : State) (c : ℕ) (kind : RequestKind) → Allowed b (Refuses c kind) → Slots b → Holds b →
    Holds (after b (Refuses c kind))
keep_refuses b c kind a s h = record {
  waits = h.waits;
  has = h.has;
  comes = λ d g w e k. grind (arith, updated_read b.slot c (b.slot c + 1) d, updated_read b.kept_grant c None d, h.comes d g);
  stands = h.stands;
  apart = h.apart;
}

keep_frees : (b : State) (c : ℕ) → Allowed b (Frees c) → Slots b → Holds b → Holds (after b (Frees c))
keep_frees b c a s h = let now = served_now b c (Return true) a s in record {
  waits = h.waits;
  has = λ d g e. grind (arith, updated_read b.outstanding c None d, h.has d g, h.waits c, now);
  comes =
      λ d g w e k. grind (
        arith,
        updated_read b.slot c (b.slot c + 1) d,
        updated_read b.kept_grant c None d,
        updated_read b.outstanding c None d,
        h.comes d g,
      );
  stands = λ d g e. grind (arith, updated_read b.outstanding c None d, h.stands d g);
  apart =
      λ d f g k ne x y z p q. h.apart d f g k ne (grind (arith, updated_read b.outstanding c None d, x))
      (grind (arith, updated_read b.outstanding c None f, y)) z p q;
}

keep_takes : (b : State) (c : ℕ) (o : Option Grant) (s0 : ℕ) → Allowed b (Takes c o s0) → Slots b → Holds b →
    Holds (after b (Takes c o s0))
keep_takes b c o s0 a s h = let now = taken_now b c o s0 a.comes s a.waits in record {
  waits = λ d w. grind (arith, updated_read b.waiting c false d, updated_read b.held c o d, h.waits d);
  has = λ d g e. grind (arith, updated_read b.held c o d, h.has d g, h.comes d g, now, a.waits);
  comes = λ d g w e k. grind (arith, updated_read b.waiting c false d, h.comes d g);
  stands = h.stands;
  apart = h.apart;
}

-- a client that gives its grant up and asks
keep_leaves : (b : State) (c : ℕ) (kind : RequestKind) → b.waiting c ≡ false → Slots b → Holds b →
    Holds
    (record b {
      held = updated b.held c None;
      sequence = updated b.sequence c (b.sequence c + 1);
      waiting = updated b.waiting
          c true;
      asked = updated b.asked c kind;
    })
keep_leaves b c kind free s h = record {
  waits = λ d w. grind (arith, updated_read b.waiting c true d, updated_read b.held c None d, h.waits d);
  has = λ d g e. grind (arith, updated_read b.held c None d, h.has d g);
  comes =
      λ d g w e k. grind (
        arith,
        updated_read b.waiting c true d,
        updated_read b.sequence c (b.sequence c + 1) d,
        s.near d,
        h.comes d g,
      );
  stands = h.stands;
  apart = h.apart;
}

keep_forgets : (b : State) (c : ℕ) → Slots b → Holds b → Holds (after b (Forgets c))
keep_forgets b c s h = record {
  waits = λ d w. grind (arith, updated_read b.held c None d, h.waits d);
  has = λ d g e. grind (arith, updated_read b.held c None d, h.has d g);
  comes = h.comes;
  stands = h.stands;
  apart = h.apart;
}

keep_fenced : (b : State) → Slots b → Holds b → Holds (after b Fenced)
keep_fenced b s h = record {
  waits = h.waits;
  has = λ d g e. grind (arith, h.has d g e);
  comes = λ d g w e k. grind (arith, h.comes d g w e k);
  stands = λ d g e. grind arith;
  apart = λ d f g k ne x y. absurd (cc x);
}

-- what happens in other files doesn't matter to a client that doesn't wait here
keep_asks_other : (b : State) (c : ℕ) → Allowed b (AsksOther c) → Holds b → Holds (after b (AsksOther c))
keep_asks_other b c a h =
    record {
      waits = h.waits;
      has = h.has;
      comes = λ d g w e k. grind (
        arith,
        updated_read b.sequence c (b.sequence c + 1) d,
        h.comes d g,
        w,
        a.free,
      );
      stands = h.stands;
      apart = h.apart;
    }

keep_serves_other : (b : State) (c : ℕ) → Allowed b (ServesOther c) → Holds b → Holds (after b (ServesOther c))
keep_serves_other b c a h =
    record {
      waits = h.waits;
      has = h.has;
      comes = λ d g w e k. grind (
        arith,
        updated_read b.slot c (b.slot c + 1) d,
        h.comes d g,
        w,
        a.free,
      );
      stands = h.stands;
      apart = h.apart;
    }

pub keep_holds : (b : State) (e : Event) → Allowed b e → Slots b → Holds b → Holds (after b e)
keep_holds b (Asks c rw) a s h = keep_asks b c rw a s h
keep_holds b (Grants c number rw range extending) a s h = keep_grants b c number rw range extending a s h
keep_holds b (Refuses c kind) a s h = keep_refuses b c kind a s h
keep_holds b (Frees c) a s h = keep_frees b c a s h
keep_holds b (Takes c o s0) a s h = keep_takes b c o s0 a s h
keep_holds b (GivesBack c g) a s h = keep_leaves b c (Return true) a.free s h
keep_holds b (Reports c g) a s h = keep_leaves b c (Return false) a.free s h
keep_holds b (Forgets c) a s h = keep_forgets b c s h
keep_holds b (TakesRefusal c j0) a s h = keep_forgets b c s h
keep_holds b (Leaves c g) a s h = record {
  waits = λ d w. grind (arith, updated_read b.held c None d, h.waits d);
  has = λ d f e. grind (arith, updated_read b.held c None d, updated_read b.outstanding c None d, h.has d f, e);
  comes = λ d f w e k. grind (arith, updated_read b.outstanding c None d, h.comes d f w e k, h.waits c, a.has, w);
  stands = λ d f e. h.stands d f (grind (arith, updated_read b.outstanding c None d, e));
  apart =
      λ d f g2 k ne x y z p q. h.apart d f g2 k ne (grind (arith, updated_read b.outstanding c None d, x))
      (grind (arith, updated_read b.outstanding c None f, y)) z p q;
}
keep_holds b (AsksOther c) a s h = keep_asks_other b c a h
keep_holds b (ServesOther c) a s h = keep_serves_other b c a h
keep_holds b Fenced a s h = keep_fenced b s h
keep_holds b Refenced a s h = keep_fenced b s h
keep_holds b e a s h = h
