-- What the machine keeps of cells while a repair is under way: through the events of a step, and through those of a drive.
-- Towards `OweFollows` (`specs/Parts.antt`).
use Rattle.std.proofs.Common.{◌≡◌, ◌⊎◌, ℕ, ◌<◌, ◌≤◌, Bool, true, false, cond, Option, List, [], ◌∷◌, refl, sym, ap, ◌∙◌, inl, inr, arith}
use Rattle.std.proofs.lemmas.Bool.{cases_Bool, true≢false}
use Rattle.fence_law.specs.State.{State, Event, Layout}
use Rattle.fence_law.specs.State.Event.{Grants, Fenced, Loses, Repaired, Rebuilds, Fails, Drops, SetsTag, Performs, Shows, Repairs, PerformsLost}
use Rattle.fence_law.specs.Machine.{Allowed, Lawful, after, after_all}
use Rattle.fence_law.proofs.Safe.{Safe, keep_safe}
use Rattle.fence_law.proofs.Words.{updated_read}
use Rattle.fence_law.proofs.EveryRun.{tag_next}
use Rattle.relation_law.specs.Frames.{AreAll, IsOfServer}

-- ---- tags

tag_all : (b : State) (es : List Event) → b.tag ≤ (after_all b es).tag
tag_all b [] = omega arith
tag_all b (e ∷ es) = let one = tag_next b e in let rest = tag_all (after b e) es in omega (arith, one, rest)

-- a repair begins only where a fence is over
begins_on : (b : State) (e : Event) → b.repairing ≡ false → (after b e).repairing ≡ true → b.tag < (after b e).tag
begins_on b Fenced off on = omega arith
begins_on b (Repaired done e) off on = absurd (true≢false (sym on))
begins_on b e off on = absurd (true≢false (sym on ∙ off))

begins_all : (b : State) (es : List Event) → b.repairing ≡ false → (after_all b es).repairing ≡ true →
    b.tag < (after_all b es).tag
begins_all b [] off on = absurd (true≢false (sym on ∙ off))
begins_all b (e ∷ es) off on = elim (cases_Bool (after b e).repairing) [
  | inl now ↦ let one = begins_on b e off now in let rest = tag_all (after b e) es in omega (arith, one, rest)
  | inr still ↦ let rest = begins_all (after b e) es still on in let one = tag_next b e in omega (arith, one, rest)
]

-- so it is where one has begun
pub begun_tag : (b : State) (es : List Event) → b.repairing ≡ false → (after_all b es).repairing ≡ true →
    b.tag < (after_all b es).tag
begun_tag = begins_all

-- ---- a step of the server

-- cells stay, and so does what is gone; no component is found again
pub record KeepsCells (b t : State) : Type 0 where
  pub layout : t.layout ≡ b.layout
  pub cell : t.cell ≡ b.cell
  pub gone : t.gone ≡ b.gone
  pub lost : (k : ℕ) → t.lost k ≡ false → b.lost k ≡ false

pub keeps_here : (b : State) → KeepsCells b b
keeps_here b = record { layout = refl; cell = refl; gone = refl; lost = λ k e. e }

keeps_then : (b t u : State) → KeepsCells b t → KeepsCells t u → KeepsCells b u
keeps_then b t u x y = record {
  layout = y.layout ∙ x.layout;
  cell = y.cell ∙ x.cell;
  gone = y.gone ∙ x.gone;
  lost = λ k e. x.lost k (y.lost k e);
}

-- as long as the repair lasts
keeps_on : (b : State) (asker : Option ℕ) (e : Event) → IsOfServer asker e → Allowed b e → b.repairing ≡ true →
    (after b e).repairing ≡ true → KeepsCells b (after b e)
keeps_on b asker (Grants c number rw_ range extending) is a on now = absurd (true≢false (sym on ∙ a.repaired))
keeps_on b asker (Loses c k) is a on now = absurd (true≢false (sym on ∙ a.repaired))
keeps_on b asker Fenced is a on now = absurd (true≢false (sym on ∙ a.first))
keeps_on b asker (Repaired done e) is a on now = absurd (true≢false (sym now))
keeps_on b asker (Rebuilds k cells) is a on now = absurd (true≢false (sym on ∙ a.repaired))
keeps_on b asker (Fails k) is a on now = record {
  layout = refl;
  cell = refl;
  gone = refl;
  lost = λ i h. grind (arith, h, updated_read b.lost k true i);
}
keeps_on b asker (Drops k) is a on now = record {
  layout = refl;
  cell = refl;
  gone = refl;
  lost = λ i h. grind (arith, h, updated_read b.lost k true i);
}
keeps_on b asker (SetsTag k) is a on now = absurd is
keeps_on b asker (Performs m) is a on now = absurd is
keeps_on b asker (PerformsLost m) is a on now = absurd is
keeps_on b asker (Repairs k cells e) is a on now = absurd is
keeps_on b asker e is a on now = record { layout = refl; cell = refl; gone = refl; lost = λ k h. h }

-- Where a repair is under way before the step and behind it, and no fence was over in it, cells and what is gone stay.
pub repair_keeps : (b : State) (asker : Option ℕ) (es : List Event) → AreAll (IsOfServer asker) es → Lawful b es →
    b.repairing ≡ true → (after_all b es).repairing ≡ true → (after_all b es).tag ≡ b.tag → KeepsCells b (after_all b es)
repair_keeps b asker [] all l on now same = keeps_here b
repair_keeps b asker (e ∷ es) all l on now same = elim (cases_Bool (after b e).repairing) [
  | inl still ↦
      let first = tag_next b e in
      let rest = tag_all (after b e) es in
      keeps_then b (after b e) (after_all (after b e) es) (keeps_on b asker e all.0 l.0 on still)
      (repair_keeps (after b e) asker es all.1 l.1 still now (omega (arith, first, rest, same)))
  | inr over ↦
      let first = tag_next b e in
      let rest = begins_all (after b e) es over now in
      absurd (omega (arith, first, rest, same))
]

-- ---- a move of a drive

-- an event of a drive, of which a repair's has the words of e
abbrev pub IsOwed : (e : ℕ → ℕ) → Event → Type 0
IsOwed e (Repairs k cells d) = d ≡ e
IsOwed e (SetsTag k) = Unit {0}
IsOwed e (Performs m) = Unit {0}
IsOwed e (Shows j k) = Unit {0}
IsOwed e (Fails k) = Unit {0}
IsOwed e x = ⊥

-- each cell stays, or becomes its word of e; what is gone stays, and no component is found again
pub record WritesWords (e : ℕ → ℕ) (b t : State) : Type 0 where
  pub layout : t.layout ≡ b.layout
  pub cell : (k z : ℕ) → (t.cell k z ≡ b.cell k z) ⊎ (t.cell k z ≡ b.layout.word k z e)
  pub gone : t.gone ≡ b.gone
  pub lost : (k : ℕ) → t.lost k ≡ false → b.lost k ≡ false
  pub repairing : t.repairing ≡ b.repairing
  pub unused : t.granted_since ≡ b.granted_since

words_here : (e : ℕ → ℕ) (b : State) → WritesWords e b b
words_here e b = record {
  layout = refl;
  cell = λ k z. inl refl;
  gone = refl;
  lost = λ k h. h;
  repairing = refl;
  unused = refl;
}

words_then : (e : ℕ → ℕ) (b t u : State) → WritesWords e b t → WritesWords e t u → WritesWords e b u
words_then e b t u x y = record {
  layout = y.layout ∙ x.layout;
  cell = λ k z. elim (y.cell k z) [
    | inl same ↦ elim (x.cell k z) [ inl old ↦ inl (same ∙ old) | inr word ↦ inr (same ∙ word) ]
    | inr word ↦ inr (word ∙ ap (λ (l : Layout). l.word k z e) x.layout)
  ];
  gone = y.gone ∙ x.gone;
  lost = λ k h. x.lost k (y.lost k h);
  repairing = y.repairing ∙ x.repairing;
  unused = y.unused ∙ x.unused;
}

-- a client's WRITE isn't performed while no grant was issued since the fence
none_performs : (b : State) (m : _) → Safe b → b.granted_since ≡ false → Allowed b (Performs m) → ⊥
none_performs b m safe unused a =
    let known = safe.known m a.comes in
    let client = (safe.formed m.entry known.entry).own known.write in
    let low = safe.unissued.entries m.entry known.entry client unused in
    elim (safe.tags.at m.at a.there a.stands) [
      | inl same ↦ omega (arith, low, known.tag, a.right, same)
      | inr next ↦ omega (arith, low, known.tag, a.right, next.1)
    ]

written_cell : (b : State) (k : ℕ) (cells : ℕ → Bool) (e : ℕ → ℕ) (i z : ℕ) →
    ((after b (Repairs k cells e)).cell i z ≡ b.cell i z) ⊎ ((after b (Repairs k cells e)).cell i z ≡ b.layout.word i z e)
written_cell b k cells e i z =
    elim (updated_read b.cell k (λ y. cond (cells y) (b.layout.word k y e) (b.cell k y)) i).1 [
      | inl here ↦ by_cell (cells z) refl (ap (λ (row : ℕ → ℕ). row z) here.1) here.0
      | inr other ↦ inl (ap (λ (row : ℕ → ℕ). row z) other.1)
    ]
  where
    by_cell : (c : Bool) → cells z ≡ c →
        (after b (Repairs k cells e)).cell i z ≡ cond (cells z) (b.layout.word k z e) (b.cell k z) → i ≡ k →
        ((after b (Repairs k cells e)).cell i z ≡ b.cell i z) ⊎
        ((after b (Repairs k cells e)).cell i z ≡ b.layout.word i z e)
    by_cell true is new here =
        inr (new ∙ ap (λ (c : Bool). cond c (b.layout.word k z e) (b.cell k z)) is
        ∙ ap (λ (n : ℕ). b.layout.word n z e) (sym here))
    by_cell false is new here =
        inl (new ∙ ap (λ (c : Bool). cond c (b.layout.word k z e) (b.cell k z)) is ∙ ap (λ (n : ℕ). b.cell n z) (sym here))

words_on : (e : ℕ → ℕ) (b : State) (x : Event) → IsOwed e x → Allowed b x → Safe b → b.granted_since ≡ false →
    WritesWords e b (after b x)
words_on e b (Repairs k cells d) is a safe unused = record {
  layout = refl;
  cell = λ i z. elim (written_cell b k cells d i z) [
    | inl same ↦ inl same
    | inr word ↦ inr (word ∙ ap (λ (f : ℕ → ℕ). b.layout.word i z f) is)
  ];
  gone = refl;
  lost = λ i h. h;
  repairing = refl;
  unused = refl;
}
words_on e b (Fails k) is a safe unused = record {
  layout = refl;
  cell = λ i z. inl refl;
  gone = refl;
  lost = λ i h. grind (arith, h, updated_read b.lost k true i);
  repairing = refl;
  unused = refl;
}
words_on e b (SetsTag k) is a safe unused = record {
  layout = refl;
  cell = λ i z. inl refl;
  gone = refl;
  lost = λ i h. h;
  repairing = refl;
  unused = refl;
}
words_on e b (Shows j k) is a safe unused = record {
  layout = refl;
  cell = λ i z. inl refl;
  gone = refl;
  lost = λ i h. h;
  repairing = refl;
  unused = refl;
}
words_on e b (Performs m) is a safe unused = absurd (none_performs b m safe unused a)
words_on e b x is a safe unused = absurd is

-- While no grant was issued since the fence, a move of a drive makes of each cell its word, or leaves it.
pub words_by_drives : (e : ℕ → ℕ) (b : State) (es : List Event) → AreAll (IsOwed e) es → Lawful b es → Safe b →
    b.granted_since ≡ false → WritesWords e b (after_all b es)
words_by_drives e b [] all l safe unused = words_here e b
words_by_drives e b (x ∷ es) all l safe unused =
    let one = words_on e b x all.0 l.0 safe unused in
    words_then e b (after b x) (after_all (after b x) es) one
    (words_by_drives e (after b x) es all.1 l.1 (keep_safe b x l.0 safe) (one.unused ∙ unused))
