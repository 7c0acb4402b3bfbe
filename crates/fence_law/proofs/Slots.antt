-- Kept: a client's slot is at its last request or one behind, so there is one request to carry out and one answer to take.
-- Each request takes the next number, and the server carries out the number after its slot alone.
use Rattle.std.proofs.Common.{◌≡◌, ℕ, ◌+◌, ◌<◌, ◌≤◌, Bool, true, false, List, ◌∷◌, Option, Some, None, ◌⊎◌, inl, inr, arith}
use Rattle.fence_law.specs.Words.{updated, In}
use Rattle.fence_law.specs.State.{State, Event, RequestKind, Request, Answer, Grant}
use Rattle.fence_law.specs.Starts.{granted}
use Rattle.fence_law.specs.Machine.{Allowed, after}
use Rattle.fence_law.specs.State.RequestKind.{Get, Return}
use Rattle.fence_law.specs.State.Event.{Asks, Grants, Refuses, Takes, AsksOther, ServesOther, TakesOther, GivesBack, Reports, Frees}
use Rattle.fence_law.proofs.Words.{updated_read}

-- A client's requests are carried out in turn, and it waits for the last.
abbrev pub SlotsOf : (slot sequence : ℕ → ℕ) (waiting away : ℕ → Bool) (asked : ℕ → RequestKind) (kept_grant : ℕ → Option Grant) →
    List Request → List Answer → Type 0
SlotsOf slot sequence waiting away asked kept_grant requests answers = record {
  near : (c : ℕ) → ((waiting c ≡ false) × (away c ≡ false) × (slot c ≡ sequence c)) ⊎
      ((((waiting c ≡ true) × (away c ≡ false)) ⊎ ((waiting c ≡ false) × (away c ≡ true)))
      × ((slot c ≡ sequence c) ⊎ (slot c + 1 ≡ sequence c)));
  asks : (r : Request) → In r requests →
      (r.sequence ≤ sequence r.client) × (r.sequence ≡ sequence r.client → r.kind ≡ asked r.client) × (away r.client ≡ true →
      r.sequence < sequence r.client);
  told : (a : Answer) → In a answers →
      (a.sequence ≤ slot a.client) × (a.sequence ≡ slot a.client → a.grant ≡ kept_grant a.client);
}

abbrev pub Slots : State → Type 0
Slots b = SlotsOf b.slot b.sequence b.waiting b.away b.asked b.kept_grant b.requests b.answers

ask : (slot sequence : ℕ → ℕ) (waiting away : ℕ → Bool) (asked : ℕ → RequestKind) (kept_grant : ℕ →
    Option Grant) (rs : List Request) (ans : List Answer) (c : ℕ) (kind : RequestKind) →
    waiting c ≡ false → away c ≡ false → SlotsOf slot sequence waiting away asked kept_grant rs ans →
    SlotsOf slot (updated sequence c (sequence c + 1)) (updated waiting c true) away (updated asked c kind) kept_grant
    (record { client = c; sequence = sequence c + 1; kind = kind } ∷ rs) ans
ask slot sequence waiting away asked kept_grant rs ans c kind free home h = record {
  near = λ d. grind (arith, updated_read sequence c (sequence c + 1) d, updated_read waiting c true d, h.near d);
  asks = λ r i. elim i [
    | inl e ↦ (
      grind (arith, e, updated_read sequence c (sequence c + 1) r.client),
      λ s. grind (arith, e, updated_read asked c kind r.client),
      λ s. grind (arith, e, s, home),
    )
    | inr o ↦ let x = h.asks r o in (
      grind (arith, updated_read sequence c (sequence c + 1) r.client, x.0),
      λ s. grind (arith, updated_read sequence c (sequence c + 1) r.client, updated_read asked c kind r.client, x.0, x.1, s),
      λ s. grind (arith, updated_read sequence c (sequence c + 1) r.client, x.0, x.2 s),
    )
  ];
  told = h.told;
}

serve : (sz : ℕ) (slot sequence : ℕ → ℕ) (waiting away : ℕ → Bool) (asked : ℕ → RequestKind) (kept_grant : ℕ →
    Option Grant) (rs : List Request) (ans : List Answer) (c : ℕ) (kind : RequestKind) (o : Option Grant) →
    In (record { client = c; sequence = slot c + 1; kind = kind }) rs →
    SlotsOf slot sequence waiting away asked kept_grant rs ans →
    SlotsOf (updated slot c (slot c + 1)) sequence waiting away asked (updated kept_grant c o) rs
    (record { client = c; sequence = slot c + 1; grant = o; size = sz } ∷ ans)
serve sz slot sequence waiting away asked kept_grant rs ans c kind o i h = record {
  near =
      λ d. grind (
        arith,
        updated_read slot c (slot c + 1) d,
        h.near d,
        h.asks (record { client = c; sequence = slot c + 1; kind = kind }) i,
      );
  asks = h.asks;
  told = λ a j. grind (arith, updated_read slot c (slot c + 1) a.client, updated_read kept_grant c o a.client, h.told a);
}

take_answer : (sz : ℕ) (slot sequence : ℕ → ℕ) (waiting away : ℕ → Bool) (asked : ℕ → RequestKind) (kept_grant : ℕ →
    Option Grant) (rs : List Request) (ans : List Answer) (c : ℕ) (o : Option Grant) →
    waiting c ≡ true → In (record { client = c; sequence = sequence c; grant = o; size = sz }) ans →
    SlotsOf slot sequence waiting away asked kept_grant rs ans →
    SlotsOf slot sequence (updated waiting c false) away asked kept_grant rs ans
take_answer sz slot sequence waiting away asked kept_grant rs ans c o w i h = record {
  near =
      λ d. grind (
        arith,
        updated_read waiting c false d,
        h.near d,
        h.told (record { client = c; sequence = sequence c; grant = o; size = sz }) i,
        w,
      );
  asks = h.asks;
  told = h.told;
}

-- another file's request, or a commit, takes a number of the slot
ask_other : (b : State) (c : ℕ) → Allowed b (AsksOther c) → Slots b → Slots (after b (AsksOther c))
ask_other b c a h = record {
  near = λ d. grind (arith, updated_read b.sequence c (b.sequence c + 1) d, updated_read b.away c true d, h.near d, a.free);
  asks = λ r i. let x = h.asks r i in (
    grind (arith, updated_read b.sequence c (b.sequence c + 1) r.client, x.0),
    λ s. grind (arith, updated_read b.sequence c (b.sequence c + 1) r.client, x.0, x.1, s),
    λ s. grind (arith, updated_read b.sequence c (b.sequence c + 1) r.client, updated_read b.away c true r.client, x.0, x.2, s),
  );
  told = h.told;
}

serve_other : (b : State) (c : ℕ) → Allowed b (ServesOther c) → Slots b → Slots (after b (ServesOther c))
serve_other b c a h = record {
  near = λ d. grind (arith, updated_read b.slot c (b.slot c + 1) d, h.near d, a.free, a.out, a.next);
  asks = h.asks;
  told = λ r i. grind (arith, updated_read b.slot c (b.slot c + 1) r.client, h.told r i);
}

take_other : (b : State) (c : ℕ) → Allowed b (TakesOther c) → Slots b → Slots (after b (TakesOther c))
take_other b c a h = record {
  near = λ d. grind (arith, updated_read b.away c false d, h.near d, a.served, a.out);
  asks = λ r i. let x = h.asks r i in (x.0, x.1, λ s. grind (arith, updated_read b.away c false r.client, x.2, s));
  told = h.told;
}

pub keep_slots : (b : State) (e : Event) → Allowed b e → Slots b → Slots (after b e)
keep_slots b (Asks c rw) a h = ask _ _ _ _ _ _ _ _ c (Get rw) a.free a.home h
keep_slots b (GivesBack c g) a h = ask _ _ _ _ _ _ _ _ c (Return true) a.free a.home h
keep_slots b (Reports c g) a h = ask _ _ _ _ _ _ _ _ c (Return false) a.free a.home h
keep_slots b (Grants c number rw range extending) a h =
    serve b.size _ _ _ _ _ _ _ _ c (Get rw) (Some (granted b c number rw range extending)) a.asks h
keep_slots b (Refuses c kind) a h = serve b.size _ _ _ _ _ _ _ _ c kind None a.asks h
keep_slots b (Frees c) a h = serve b.size _ _ _ _ _ _ _ _ c (Return true) None a h
keep_slots b (Takes c o s0) a h = take_answer s0 _ _ _ _ _ _ _ _ c o a.waits a.comes h
keep_slots b (AsksOther c) a h = ask_other b c a h
keep_slots b (ServesOther c) a h = serve_other b c a h
keep_slots b (TakesOther c) a h = take_other b c a h
keep_slots b e a h = h
