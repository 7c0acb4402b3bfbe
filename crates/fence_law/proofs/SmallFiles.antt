-- The two small files of the example runs: their codes, and what the steps of their runs need.
use Rattle.std.proofs.Common.{◌≡◌, ℕ, zero, suc, ◌+◌, ◌<◌, true, false, ◌==◌, ◌&&◌, List, [], ◌∷◌, ◌++◌, Some, ◌⊎◌, refl, sym, ap, ◌∙◌, inl, inr, arith}
use Rattle.std.proofs.lemmas.Bool.Decides.{nat_tests}
use Rattle.std.proofs.lemmas.Bool.{and_parts, eq-eqb, eqb-true, true≢false}
use Rattle.std.proofs.lemmas.Option.{same_Some}
use Rattle.fence_law.specs.Words.{updated, over}
use Rattle.fence_law.specs.State.{State, Event}
use Rattle.fence_law.specs.Columns.{spans, Short}
use Rattle.fence_law.specs.Machine.{Lawful, after, after_all}
use Rattle.fence_law.specs.State.Event.{Fenced, Fails, Drops, Rebuilds, Loses}
use Rattle.fence_law.specs.State.{PartState}
use Rattle.fence_law.specs.Columns.{only}
use Rattle.fence_law.specs.State.PartState.{NotSent, Sent, Done}
use Rattle.fence_law.specs.Law.{IsCode, Calms}
use Rattle.fence_law.specs.Runs.{among, at_first, byte, file, nothing, first_cells, doubles, doubled, tripled, CalmsNow}
use Rattle.fence_law.proofs.Words.{updated_other, updated_read}

-- runs without losses are calm
unfoldable pub Keeps : Event → Type 0
Keeps (Fails k) = ⊥
Keeps (Drops k) = ⊥
Keeps (Loses c k) = ⊥
Keeps (Rebuilds k cells) = ⊥
Keeps e = Unit {0}

abbrev pub AllKeep : List Event → Type 0
AllKeep [] = Unit {0}
AllKeep (e ∷ es) = Keeps e × AllKeep es

pub keeps_lost : (b : State) (e : Event) → Keeps e → (after b e).lost ≡ b.lost
unfolding Keeps
keeps_lost b (Fails k) n = absurd n
keeps_lost b (Drops k) n = absurd n
keeps_lost b (Loses c k) n = absurd n
keeps_lost b (Rebuilds k cells) n = absurd n
keeps_lost b e n = refl

pub calm_unlost : (b : State) → ((k : ℕ) → b.lost k ≡ false) → (x : ℕ) → Short b x → ⊥
calm_unlost b none x s = true≢false (sym (s.4 s.0 s.1 s.2 s.3 refl) ∙ none s.0)

pub calms_unlost : (b : State) (es : List Event) → AllKeep es → ((k : ℕ) → b.lost k ≡ false) → Calms b es
calms_unlost b [] n none = λ x c t s. calm_unlost b none x s
calms_unlost b (e ∷ es) n none =
    (λ x c t s. calm_unlost b none x s, calms_unlost (after b e) es n.1 (λ k. ap (λ f. f k) (keeps_lost b e n.0) ∙ none k))

pub lawful_more : (b : State) (es fs : List Event) → Lawful b es → Lawful (after_all b es) fs → Lawful b (es ++ fs)
lawful_more b [] fs l m = m
lawful_more b (e ∷ es) fs l m = (l.0, lawful_more (after b e) es fs l.1 m)

pub doubled_code : IsCode doubled
doubled_code =
    record {
      local = local;
      zeros = zeros;
      copies = copies;
      has_copy = λ p. (0, p, rw (eq-eqb p p refl) refl);
      plain = λ k z f y c. absurd (true≢false c);
    }
  where
    local : (k z : ℕ) (d f : ℕ → ℕ) → ((q : ℕ) → q ≡ z → d q ≡ f q) → doubles k z d ≡ doubles k z f
    local zero z d f h = h z refl
    local (suc k) z d f h = ap (λ y. y + d z) (h z refl) ∙ ap (λ y. f z + y) (h z refl)

    zeros : (k z : ℕ) → doubles k z (λ q. 0) ≡ 0
    zeros zero z = refl
    zeros (suc k) z = refl

    copies : (k z p : ℕ) → ((k == 0) && (z == p)) ≡ true → (among 2 k ≡ true) × (z ≡ p) × ((d : ℕ → ℕ) → doubles k z d ≡ d p)
    copies k z p c = let w = and_parts (k == 0) (z == p) c in let k0 : k ≡ 0 = eqb-true k 0 w.0 in
        let zp : z ≡ p = eqb-true z p w.1 in
        (rw k0 refl, zp, λ d. rw k0 (ap d zp))

pub two_cases : (P : ℕ → Type 0) → P 0 → P 1 → (k : ℕ) → k < 2 → P k
two_cases P a b zero l = a
two_cases P a b (suc zero) l = b
two_cases P a b (suc (suc k)) l = absurd (omega (arith, l))

pub three_cases : (P : ℕ → Type 0) → P 0 → P 1 → P 2 → (k : ℕ) → k < 3 → P k
three_cases P a b c zero l = a
three_cases P a b c (suc zero) l = b
three_cases P a b c (suc (suc zero)) l = c
three_cases P a b c (suc (suc (suc k))) l = absurd (omega (arith, l))

pub byte_place : (v p w : ℕ) → byte v p ≡ Some w → (at_first p ≡ true) × (p < 1)
byte_place v zero w e = (refl, omega arith)
byte_place v (suc p) w e = absurd (cc e)

pub lands_first : (v p w : ℕ) → byte v p ≡ Some w → 0 ≡ p
lands_first v zero w e = refl
lands_first v (suc p) w e = absurd (cc e)

pub hits_first : (n k z : ℕ) → first_cells n k z ≡ true → (among n k ≡ true) × (at_first z ≡ true)
hits_first n k zero e = (e, refl)
hits_first n k (suc z) e = absurd (true≢false (sym e))

pub misses_double : (v k z : ℕ) → among 2 k ≡ true → first_cells 2 k z ≡ false → (e : ℕ → ℕ) →
    doubles k z (λ p. over true (byte v p) (e p)) ≡ doubles k z e
misses_double v k zero a n e = absurd (true≢false (sym a ∙ n))
misses_double v zero (suc z) a n e = refl
misses_double v (suc k) (suc z) a n e = refl

pub at_first_zero : (y : ℕ) → at_first y ≡ true → y ≡ 0
at_first_zero zero e = refl
at_first_zero (suc y) e = absurd (true≢false (sym e))

pub byte_low : (v p w : ℕ) → v < 256 → byte v p ≡ Some w → w < 256
byte_low v zero w l e = let same : v ≡ w = same_Some v w e in rw (← same) l
byte_low v (suc p) w l e = absurd (cc e)

pub sees_double : (v k z : ℕ) → first_cells 2 k z ≡ true → (e : ℕ → ℕ) →
    doubles k z (λ p. over true (byte v p) (nothing p)) ≡ doubles k z (λ p. over true (byte v p) (e p))
sees_double v zero zero h e = refl
sees_double v (suc k) zero h e = refl
sees_double v k (suc z) h e = absurd (true≢false (sym h))

pub sees_triple : (v k z : ℕ) → first_cells 3 k z ≡ true → (e : ℕ → ℕ) →
    over true (byte v z) (nothing z) ≡ over true (byte v z) (e z)
sees_triple v k zero h e = refl
sees_triple v k (suc z) h e = absurd (true≢false (sym h))

-- the parts of a call once both replies have come
abbrev pub outs : ℕ → ℕ → ℕ → ℕ → PartState
outs a w =
    updated
    (updated (updated (updated (λ k i. NotSent) 0 (updated (λ i. NotSent) 0 (Sent a))) 1 (updated (λ i. NotSent) 0 (Sent w))) 0
    (updated (updated (λ i. NotSent) 0 (Sent a)) 0 Done)) 1 (updated (updated (λ i. NotSent) 0 (Sent w)) 0 Done)

pub outs_told : (a w k i v : ℕ) → outs a w k i ≡ Sent v → ⊥
outs_told a w k i v e = go (updated_read _ 1 _ k).1
  where
    part : (x : PartState) → updated (updated (λ i2. NotSent) 0 x) 0 Done i ≡ Sent v → ⊥
    part x f = elim (updated_read (updated (λ i2. NotSent) 0 x) 0 Done i).1 [
      | inl y ↦ let z : Done ≡ Sent v = sym y.1 ∙ f in cc z
      | inr y ↦ let z : NotSent ≡ Sent v = sym (updated_other (λ i2. NotSent) 0 x i y.0) ∙ sym y.1 ∙ f in cc z
    ]

    go : ((k ≡ 1) × (outs a w k ≡ updated (updated (λ i2. NotSent) 0 (Sent w)) 0 Done))
        ⊎ ((k ≡ 1 →
        ⊥)
        × (outs a w k ≡ updated (updated (updated (λ k2 i2. NotSent) 0 (updated (λ i2. NotSent) 0 (Sent a))) 1
        (updated (λ i2. NotSent) 0 (Sent w))) 0 (updated (updated (λ i2. NotSent) 0 (Sent a)) 0 Done) k)) → ⊥
    go (inl y) = part (Sent w) (sym (ap (λ f. f i) y.1) ∙ e)
    go (inr y) =
        elim
        (updated_read (updated (updated (λ k2 i2. NotSent) 0 (updated (λ i2. NotSent) 0 (Sent a))) 1
        (updated (λ i2. NotSent) 0 (Sent w))) 0 (updated (updated (λ i2. NotSent) 0 (Sent a)) 0 Done) k).1 [
          | inl x ↦ part (Sent a) (sym (ap (λ f. f i) (y.1 ∙ x.1)) ∙ e)
          | inr x ↦ let z : NotSent ≡ Sent v =
              sym
              (ap (λ f. f i) (y.1 ∙ x.1
              ∙ updated_other (updated (λ k2 i2. NotSent) 0 (updated (λ i2. NotSent) 0 (Sent a))) 1 _ k y.0
              ∙ updated_other (λ k2 i2. NotSent) 0 _ k x.0)) ∙ e in cc z
        ]

pub outs_all : (a w x k z v : ℕ) → only (first_cells 2 k z) x ≡ Some v → outs a w k 0 ≡ Done
unfolding updated
outs_all a w x zero zero v e = refl
outs_all a w x (suc zero) zero v e = refl
outs_all a w x (suc (suc k)) zero v e = absurd (cc e)
outs_all a w x k (suc z) v e = absurd (cc e)

pub four_cells : (c : ℕ → ℕ → ℕ) (v : ℕ) → c 0 0 ≡ v → ((z : ℕ) → c 0 (suc z) ≡ 0) → c 1 0 ≡ v + v → ((z : ℕ) → c 1 (suc z) ≡ 0) →
    (k z : ℕ) → among 2 k ≡ true → c k z ≡ doubles k z (file v)
four_cells c v a d f g zero zero e = a
four_cells c v a d f g zero (suc z) e = d z
four_cells c v a d f g (suc zero) zero e = f
four_cells c v a d f g (suc zero) (suc z) e = g z
four_cells c v a d f g (suc (suc k)) z e = absurd (true≢false (sym e))

-- an answer of one byte is what the reply shows
pub shown_first : (v : ℕ) (cells d : ℕ → ℕ) → cells 0 ≡ v → (p : ℕ) → spans 0 1 p ≡ true → cells p ≡ d p → file v p ≡ d p
shown_first v cells d c zero s h = sym c ∙ h
shown_first v cells d c (suc p) s h = absurd (grind (arith, nat_tests, s))

pub all_keep : (es fs : List Event) → AllKeep es → AllKeep fs → AllKeep (es ++ fs)
all_keep [] fs a c = c
all_keep (e ∷ es) fs a c = (a.0, all_keep es fs a.1 c)

pub tripled_code : IsCode tripled
tripled_code = record {
  local = λ k z d f h. h z refl;
  zeros = λ k z. refl;
  copies = copies;
  has_copy = λ p. (0, p, rw (eq-eqb p p refl) refl);
  plain = λ k z f y c a d e. (z, rw (a, eq-eqb z z refl) refl, rw (d, eq-eqb y z e) refl, refl);
}
  where
    copies : (k z p : ℕ) → (among 3 k && (z == p)) ≡ true → (among 3 k ≡ true) × (z ≡ p) × ((d : ℕ → ℕ) → d z ≡ d p)
    copies k z p c = let w = and_parts (among 3 k) (z == p) c in (w.0, eqb-true z p w.1, λ d. ap d (eqb-true z p w.1))

pub misses_plain : (v k z : ℕ) → among 3 k ≡ true → first_cells 3 k z ≡ false → (e : ℕ → ℕ) → over true (byte v z) (e z) ≡ e z
misses_plain v k zero a n e = absurd (true≢false (sym a ∙ n))
misses_plain v k (suc z) a n e = refl

pub same_map : (b : State) (e : Event) → (after b e).layout ≡ b.layout
same_map b Fenced = refl
same_map b e = refl

pub calms_plain : (b : State) (es : List Event) → ((x : ℕ) → b.layout.coded x ≡ false) → CalmsNow b es
calms_plain b [] p = λ x c t s. true≢false (sym c ∙ p x)
calms_plain b (e ∷ es) p =
    (λ x c t s. true≢false (sym c ∙ p x), calms_plain (after b e) es (λ x. ap (λ m. m.coded x) (same_map b e) ∙ p x))

pub calms_uncoded : (b : State) (es : List Event) → ((x : ℕ) → b.layout.coded x ≡ false) → Calms b es
calms_uncoded b [] p = λ x c t s. true≢false (sym c ∙ p x)
calms_uncoded b (e ∷ es) p =
    (λ x c t s. true≢false (sym c ∙ p x), calms_uncoded (after b e) es (λ x. ap (λ m. m.coded x) (same_map b e) ∙ p x))
