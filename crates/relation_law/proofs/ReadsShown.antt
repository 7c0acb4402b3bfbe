-- What a call got of the columns was shown to its entry: the words of the relation give those of the plans.
-- Towards `ReadsGoOn` (`specs/Steps.antt`).
use Rattle.std.proofs.Common.{eqb-true, ◌≡◌, ℕ, ◌+◌, ◌-◌, ◌<◌, ◌≤◌, Bool, true, false, List, [], ◌∷◌, length, refl, sym, ap, ◌∙◌, inl, inr, arith}
use Rattle.std.specs.Prelude.{◌==◌, ◌&&◌, nat_le, nat_lt, IsTrue, ◌⊎◌}
use Rattle.std.proofs.lemmas.Bool.{cases_Bool, and_parts}
use Rattle.std.proofs.lemmas.Bool.Decides.{nat_tests}
use Rattle.data_map.specs.declared.check.RawMap.{RawMap}
use Rattle.stripe_plan.specs.declared.plan.Column.{Column}
use Rattle.stripe_plan.specs.Words.{has_byte, byte_at as byte_got}
use Rattle.server_rules.specs.Laws.{In}
use Rattle.fence_law.specs.State.{State, Layout}
use Rattle.plan_law.specs.FileLayout.{layout_of}
use Rattle.plan_law.specs.Got.{IsShown}
use Rattle.file_simulation.specs.Messages.{WasShown}

-- each of these columns was shown to entry j
abbrev pub AllShown : State → (j : ℕ) → List Column → Type 0
AllShown s j got = (col : Column) → In col got → (k : ℕ) × WasShown s j k col

at_least : (a b : ℕ) → nat_le a b ≡ true → a ≤ b
at_least a b e = grind (arith, nat_tests, e)

below : (a b : ℕ) → nat_lt a b ≡ true → a < b
below a b e = grind (arith, nat_tests, e)

pub shown_is : (m : RawMap) (tag : ℕ) (s : State) (j : ℕ) (got : List Column) → s.layout ≡ layout_of m tag →
    AllShown s j got → IsShown m s j got
unfolding byte_got
shown_is m tag s j [] lay h p z i = absurd i
shown_is m tag s j (c ∷ cs) lay h p z i = elim (cases_Bool (has_byte c p z)) [
  | inr none ↦
      let rest = shown_is m tag s j cs lay (λ col there. h col (inr there)) p z (behind (has_byte c p z) none i) in
      rw none rest
  | inl has ↦
      let k = h c (inl refl) in
      let parts = and_parts (c.position == p) (nat_le c.offset z && nat_lt z (c.offset + length c.bytes)) has in
      let ends = and_parts (nat_le c.offset z) (nat_lt z (c.offset + length c.bytes)) parts.1 in
      let low : c.offset ≤ z = at_least c.offset z ends.0 in
      let high : z < c.offset + length c.bytes = below z (c.offset + length c.bytes) ends.1 in
      let inside : z - c.offset < length c.bytes = omega (arith, low, high) in
      let again : c.offset + (z - c.offset) ≡ z = omega (arith, low) in
      let same : c.position ≡ p = eqb-true c.position p parts.0 in
      let comps : s.layout.components ≡ m.comps = ap (λ (y : Layout). y.components) lay in
      let there : k.1.reply.at < m.comps = omega (arith, k.1.below, comps, k.1.at_) in
      let position : (layout_of m tag).position k.1.reply.at ≡ p =
      ap (layout_of m tag).position k.1.at_ ∙ sym (ap (λ (y : Layout). y.position k.0) lay) ∙ k.1.position ∙ same in
      rw has (k.1.reply, k.1.shown, k.1.entry, there, position, ap k.1.reply.cells (sym again) ∙ k.1.cells (z - c.offset) inside)
]
  where
    behind : {A : Type 0} (b : Bool) → b ≡ false → IsTrue b ⊎ A → A
    behind true f i = absurd (cc f)
    behind false f (inl t) = absurd (cc t)
    behind false f (inr a) = a
