-- In a run each grant that is answered has a number of its own, and what a client holds was answered to it.
-- Towards `CutsKeepEntries` (`specs/EntriesTied.antt`).
use Rattle.std.proofs.Common.{◌≡◌, ◌<◌, ◌≤◌, ◌+◌, ℕ, Bool, true, false, List, [], ◌∷◌, Option, Some, None, refl, sym, ap, subst, ◌∙◌, inl, inr, arith}
use Rattle.std.proofs.lemmas.Bool.{cases_eq, true≢false}
use Rattle.fence_law.specs.Machine.{Allowed, Lawful, after, after_all, new_file_state}
use Rattle.fence_law.specs.State.{State, Event, Grant, Answer}
use Rattle.fence_law.specs.State.Event.{Asks, Grants, Refuses, Takes, AsksOther, GivesBack, Reports, Forgets, Frees, Leaves, TakesRefusal}
use Rattle.fence_law.specs.Starts.{granted}
use Rattle.fence_law.specs.Words.{updated, In}
use Rattle.fence_law.proofs.Words.{updated_at, updated_other}
use Rattle.file_simulation.specs.Showing.{IsRun}

-- the number of each grant that was answered is below the next
abbrev Below : State → Type 0
Below s = (a : Answer) (x : Grant) → In a s.answers → a.grant ≡ Some x → x.number < s.next

-- answers with grants of one number are to one request
abbrev Single : State → Type 0
Single s =
    (a b : Answer) (x y : Grant) → In a s.answers → In b s.answers → a.grant ≡ Some x → b.grant ≡ Some y →
    x.number ≡ y.number → (a.client ≡ b.client) × (a.sequence ≡ b.sequence)

-- the grant was answered to the client, which doesn't wait for that answer any more
abbrev pub WasTaken : State → (c : ℕ) → Grant → Type 0
WasTaken s c x =
    (n : ℕ) × (size : ℕ) × In (record { client = c; sequence = n; grant = Some x; size = size }) s.answers
    × (n ≤ s.sequence c) × (n ≡ s.sequence c → s.waiting c ≡ false)

-- so it is of each grant that is held
abbrev Taken : State → Type 0
Taken s = (c : ℕ) (x : Grant) → s.held c ≡ Some x → WasTaken s c x

-- all three
pub record AreNumbered (s : State) : Type 0 where
  pub below : Below s
  pub single : Single s
  pub taken : Taken s

-- ---- numbers

-- an answer without a grant
below_none : (s : State) (b : Answer) → b.grant ≡ None → Below s → (a : Answer) (x : Grant) → In a (b ∷ s.answers) →
    a.grant ≡ Some x → x.number < s.next
below_none s b none k a x (inl e) is = absurd (cc (sym is ∙ ap (λ (y : Answer). y.grant) e ∙ none))
below_none s b none k a x (inr i) is = k a x i is

single_none : (s : State) (d : Answer) → d.grant ≡ None → Single s → (a b : Answer) (x y : Grant) → In a (d ∷ s.answers) →
    In b (d ∷ s.answers) → a.grant ≡ Some x → b.grant ≡ Some y → x.number ≡ y.number →
    (a.client ≡ b.client) × (a.sequence ≡ b.sequence)
single_none s d none k a b x y (inl e) j is its same = absurd (cc (sym is ∙ ap (λ (z : Answer). z.grant) e ∙ none))
single_none s d none k a b x y (inr i) (inl e) is its same = absurd (cc (sym its ∙ ap (λ (z : Answer). z.grant) e ∙ none))
single_none s d none k a b x y (inr i) (inr j) is its same = k a b x y i j is its same

-- one with a grant of a later number
below_given : (s : State) (b : Answer) (z : Grant) → b.grant ≡ Some z → s.next ≤ z.number → Below s → (a : Answer)
    (x : Grant) → In a (b ∷ s.answers) → a.grant ≡ Some x → x.number < z.number + 1
below_given s b z given high k a x (inl e) is =
    let it : Some x ≡ Some z = sym is ∙ ap (λ (y : Answer). y.grant) e ∙ given in
    let one : x ≡ z = cc it in
    let new : x.number ≡ z.number = ap (λ (y : Grant). y.number) one in
    omega (arith, new)
below_given s b z given high k a x (inr i) is =
    let low : x.number < s.next = k a x i is in
    omega (arith, low, high)

of_given : (d a : Answer) (z x : Grant) → d.grant ≡ Some z → a ≡ d → a.grant ≡ Some x → x.number ≡ z.number
of_given d a z x given e is =
    let it : Some x ≡ Some z = sym is ∙ ap (λ (y : Answer). y.grant) e ∙ given in
    let one : x ≡ z = cc it in
    ap (λ (y : Grant). y.number) one

single_given : (s : State) (d : Answer) (z : Grant) → d.grant ≡ Some z → s.next ≤ z.number → Below s → Single s →
    (a b : Answer) (x y : Grant) → In a (d ∷ s.answers) → In b (d ∷ s.answers) → a.grant ≡ Some x → b.grant ≡ Some y →
    x.number ≡ y.number → (a.client ≡ b.client) × (a.sequence ≡ b.sequence)
single_given s d z given high low k a b x y (inl e) (inl f) is its same =
    (ap (λ (v : Answer). v.client) (e ∙ sym f), ap (λ (v : Answer). v.sequence) (e ∙ sym f))
single_given s d z given high low k a b x y (inl e) (inr j) is its same =
    let new : x.number ≡ z.number = of_given d a z x given e is in
    let old : y.number < s.next = low b y j its in
    absurd (omega (arith, new, old, high, same))
single_given s d z given high low k a b x y (inr i) (inl f) is its same =
    let new : y.number ≡ z.number = of_given d b z y given f its in
    let old : x.number < s.next = low a x i is in
    absurd (omega (arith, new, old, high, same))
single_given s d z given high low k a b x y (inr i) (inr j) is its same = k a b x y i j is its same

keep_below : (s : State) (e : Event) → Allowed s e → Below s → Below (after s e)
keep_below s (Grants c n wide range extending) may k = below_given s _ (granted s c n wide range extending) refl may.new k
keep_below s (Refuses c kind) may k = below_none s _ refl k
keep_below s (Frees c) may k = below_none s _ refl k
keep_below s e may k = k

keep_single : (s : State) (e : Event) → Allowed s e → Below s → Single s → Single (after s e)
keep_single s (Grants c n wide range extending) may low k =
    single_given s _ (granted s c n wide range extending) refl may.new low k
keep_single s (Refuses c kind) may low k = single_none s _ refl k
keep_single s (Frees c) may low k = single_none s _ refl k
keep_single s e may low k = k

-- ---- what is held

-- one answer more
more : (s : State) (a : Answer) (c : ℕ) (x : Grant) → WasTaken s c x →
    (n : ℕ) × (size : ℕ) × In (record { client = c; sequence = n; grant = Some x; size = size }) (a ∷ s.answers)
    × (n ≤ s.sequence c) × (n ≡ s.sequence c → s.waiting c ≡ false)
more s a c x k = (k.0, k.1, inr k.2, k.3, k.4)

-- a client gives its grant up, and may ask
abbrev Given : State → (c : ℕ) → (sequence : ℕ → ℕ) → (waiting : ℕ → Bool) → Type 0
Given s c sequence waiting =
    (d : ℕ) (x : Grant) → updated s.held c None d ≡ Some x →
    (n : ℕ) × (size : ℕ) × In (record { client = d; sequence = n; grant = Some x; size = size }) s.answers
    × (n ≤ sequence d) × (n ≡ sequence d → waiting d ≡ false)

gone : (s : State) (c : ℕ) (sequence : ℕ → ℕ) (waiting : ℕ → Bool) → ((d : ℕ) → (d ≡ c → ⊥) → sequence d ≡ s.sequence d) →
    ((d : ℕ) → (d ≡ c → ⊥) → waiting d ≡ s.waiting d) → Taken s → Given s c sequence waiting
gone s c sequence waiting same waits k d x has = elim (cases_eq d c) [
  | inl e ↦ absurd (cc (sym (updated_at s.held c None d e) ∙ has))
  | inr other ↦
      let z : WasTaken s d x = k d x (sym (updated_other s.held c None d other) ∙ has) in
      let low : z.0 ≤ s.sequence d = z.3 in
      let is : sequence d ≡ s.sequence d = same d other in
      (z.0, z.1, z.2, omega (arith, low, is), λ e. waits d other ∙ z.4 (e ∙ is))
]

keep_taken : (s : State) (e : Event) → Allowed s e → Taken s → Taken (after s e)
keep_taken s (Grants c n wide range extending) may k = λ d x has. more s _ d x (k d x has)
keep_taken s (Refuses c kind) may k = λ d x has. more s _ d x (k d x has)
keep_taken s (Frees c) may k = λ d x has. more s _ d x (k d x has)
keep_taken s (Takes c o size) may k = λ d x has. elim (cases_eq d c) [
  | inl e ↦
      let it : o ≡ Some x = sym (updated_at s.held c o d e) ∙ has in
      let there : In (record { client = d; sequence = s.sequence d; grant = Some x; size = size }) s.answers =
      subst (λ (n : ℕ). In (record { client = n; sequence = s.sequence n; grant = Some x; size = size }) s.answers) (sym e)
      (subst (λ (p : Option Grant). In (record { client = c; sequence = s.sequence c; grant = p; size = size }) s.answers) it
      may.comes) in
      (s.sequence d, size, there, omega arith, λ same. updated_at s.waiting c false d e)
  | inr other ↦
      let z : WasTaken s d x = k d x (sym (updated_other s.held c o d other) ∙ has) in
      (z.0, z.1, z.2, z.3, λ e. updated_other s.waiting c false d other ∙ z.4 e)
]
keep_taken s (Asks c wide) may k = λ d x has. elim (cases_eq d c) [
  | inl e ↦ absurd (cc (sym has ∙ ap s.held e ∙ may.none))
  | inr other ↦
      let z : WasTaken s d x = k d x has in
      let low : z.0 ≤ s.sequence d = z.3 in
      let is : updated s.sequence c (s.sequence c + 1) d ≡ s.sequence d =
      updated_other s.sequence c (s.sequence c + 1) d other in
      (z.0, z.1, z.2, omega (arith, low, is), λ e. updated_other s.waiting c true d other ∙ z.4 (e ∙ is))
]
keep_taken s (AsksOther c) may k = λ d x has. elim (cases_eq d c) [
  | inl e ↦
      let z : WasTaken s d x = k d x has in
      let low : z.0 ≤ s.sequence d = z.3 in
      let is : updated s.sequence c (s.sequence c + 1) d ≡ s.sequence d + 1 =
      updated_at s.sequence c (s.sequence c + 1) d e ∙ ap (λ (n : ℕ). s.sequence n + 1) (sym e) in
      (z.0, z.1, z.2, omega (arith, low, is), λ f. absurd (omega (arith, low, is, f)))
  | inr other ↦
      let z : WasTaken s d x = k d x has in
      let low : z.0 ≤ s.sequence d = z.3 in
      let is : updated s.sequence c (s.sequence c + 1) d ≡ s.sequence d =
      updated_other s.sequence c (s.sequence c + 1) d other in
      (z.0, z.1, z.2, omega (arith, low, is), λ e. z.4 (e ∙ is))
]
keep_taken s (GivesBack c g) may k =
    gone s c _ _ (λ d other. updated_other s.sequence c (s.sequence c + 1) d other)
    (λ d other. updated_other s.waiting c true d other) k
keep_taken s (Reports c g) may k =
    gone s c _ _ (λ d other. updated_other s.sequence c (s.sequence c + 1) d other)
    (λ d other. updated_other s.waiting c true d other) k
keep_taken s (Forgets c) may k = gone s c s.sequence s.waiting (λ d other. refl) (λ d other. refl) k
keep_taken s (Leaves c g) may k = gone s c s.sequence s.waiting (λ d other. refl) (λ d other. refl) k
keep_taken s (TakesRefusal c j) may k = gone s c s.sequence s.waiting (λ d other. refl) (λ d other. refl) k
keep_taken s e may k = k

-- ---- a run

pub numbered_all : (s : State) (es : List Event) → Lawful s es → AreNumbered s → AreNumbered (after_all s es)
numbered_all s [] l k = k
numbered_all s (e ∷ es) l k =
    numbered_all (after s e) es l.1 (record {
      below = keep_below s e l.0 k.below;
      single = keep_single s e l.0 k.below k.single;
      taken = keep_taken s e l.0 k.taken;
    })

pub numbered_run : (s : State) → IsRun s → AreNumbered s
numbered_run s r =
    subst AreNumbered (sym r.state)
    (numbered_all (new_file_state s.layout) r.events r.lawful (record {
      below = λ a x i is. absurd i;
      single = λ a b x y i j is its same. absurd i;
      taken = λ c x has. absurd (cc has);
    }))

-- ---- what follows

-- Where a client holds a grant, no other client holds one of its number, and none can take one.
module _ (s : State) (k : AreNumbered s) (c : ℕ) (x : Grant) (held : s.held c ≡ Some x) where
  pub held_alone : (d : ℕ) (y : Grant) → s.held d ≡ Some y → y.number ≡ x.number → d ≡ c
  held_alone d y has same =
      let a : WasTaken s c x = k.taken c x held in
      let b : WasTaken s d y = k.taken d y has in
      (k.single _ _ y x b.2 a.2 refl refl same).0

  pub held_untaken : (d size : ℕ) (y : Grant) → s.waiting d ≡ true →
      In (record { client = d; sequence = s.sequence d; grant = Some y; size = size }) s.answers → y.number ≡ x.number → ⊥
  held_untaken d size y waits i same =
      let a : WasTaken s c x = k.taken c x held in
      let z = k.single _ _ y x i a.2 refl refl same in
      let mine : d ≡ c = z.0 in
      let at_ : s.sequence d ≡ a.0 = z.1 in
      true≢false (sym waits ∙ ap s.waiting mine ∙ a.4 (sym at_ ∙ ap s.sequence mine))
