-- The entries of a file stay paired where the log takes the writes under one grant as lost, and the machine has acknowledged
-- them.
-- Towards `CutsShowEntries` (`specs/Parts.antt`).
use Rattle.std.proofs.Common.{◌≡◌, ◌==◌, ◌&&◌, ◌<◌, ◌≤◌, ℕ, Bool, true, false, not, List, map, slice_get, Option, Some, None, refl, sym, ap, subst, ◌∙◌, inl, inr, arith}
use Rattle.std.specs.Prelude.{option_map}
use Rattle.std.proofs.lemmas.Bool.{cases_Bool, cases_lt, cases_eq, eq-eqb, ne_eqb}
use Rattle.component_law.proofs.Lists.{get_map}
use Rattle.world_history.specs.Calm.{taken_under}
use Rattle.world_history.specs.ReadLog.{Logged}
use Rattle.world_history.specs.Stripes.{is_acknowledged, is_unfinished}
use Rattle.fence_law.specs.State.{State, Start}
use Rattle.fence_law.specs.Log.{IsEntry, IsPassed}
use Rattle.file_simulation.specs.Showing.{Pairs, IsPair, IsSame, ArePaired}
use Rattle.headline_law.proofs.EntriesPairs.{entry_by}

-- Each entry of the machine stays as it is, but that each write under the grant is acknowledged; the log passes over further
-- ones.
pub record TakesUnder (s t : State) (grant : ℕ) : Type 0 where
  pub count : s.count ≤ t.count
  pub start : (j : ℕ) → j < s.count → t.start j ≡ s.start j
  pub told : (j : ℕ) → j < s.count → t.told_client j ≡ s.told_client j
  pub answer : (j : ℕ) → j < s.count → t.answer j ≡ s.answer j
  -- under the grant each write is acknowledged, and others as before
  pub under : (j : ℕ) → j < s.count → (s.start j).is_write ≡ true → (s.start j).grant ≡ grant → t.acknowledged j ≡ true
  pub beside : (j : ℕ) → j < s.count → ((s.start j).grant ≡ grant → ⊥) → t.acknowledged j ≡ s.acknowledged j
  pub passed : (j : ℕ) → s.count ≤ j → j < t.count → IsPassed t j

-- ---- entries

taken_none : (a : Bool) → (not a && not true) ≡ false
taken_none true = refl
taken_none false = refl

under_is : (n : ℕ) (e : Logged) → e.grant ≡ n → taken_under n e ≡ record e { taken = true }
under_is n e is = rw (eq-eqb e.grant n is) refl

beside_is : (n : ℕ) (e : Logged) → (e.grant ≡ n → ⊥) → taken_under n e ≡ e
beside_is n e ne = rw (ne_eqb e.grant n ne) refl

-- all but whether it is taken stays
file_stays : (n : ℕ) (e : Logged) → (taken_under n e).file ≡ e.file
file_stays n e = elim (cases_Bool (e.grant == n)) [ inl t ↦ rw t refl | inr f ↦ rw f refl ]

client_stays : (n : ℕ) (e : Logged) → (taken_under n e).client ≡ e.client
client_stays n e = elim (cases_Bool (e.grant == n)) [ inl t ↦ rw t refl | inr f ↦ rw f refl ]

grant_stays : (n : ℕ) (e : Logged) → (taken_under n e).grant ≡ e.grant
grant_stays n e = elim (cases_Bool (e.grant == n)) [ inl t ↦ rw t refl | inr f ↦ rw f refl ]

entry_stays : (n : ℕ) (e : Logged) → (taken_under n e).entry ≡ e.entry
entry_stays n e = elim (cases_Bool (e.grant == n)) [ inl t ↦ rw t refl | inr f ↦ rw f refl ]

-- ---- pairs

module _ (s t : State) (n : ℕ) (k : TakesUnder s t n) (file : ℕ) where
  same_taken : (j : ℕ) (e : Logged) → IsSame s file j e → IsSame t file j (taken_under n e)
  same_taken j e x = record {
    file_is = file_stays n e ∙ x.file_is;
    below = let l : j < s.count = x.below in let c : s.count ≤ t.count = k.count in omega (arith, l, c);
    client = ap (λ (z : Start). z.client) (k.start j x.below) ∙ x.client ∙ sym (client_stays n e);
    grant = ap (λ (z : Start). z.grant) (k.start j x.below) ∙ x.grant ∙ sym (grant_stays n e);
    entry =
        subst (IsEntry (t.start j) (t.told_client j) (t.answer j)) (sym (entry_stays n e))
        (entry_by (s.start j) (t.start j) (s.told_client j) (t.told_client j) (s.answer j) (t.answer j) e.entry
        (k.start j x.below) (k.told j x.below) (k.answer j x.below) x.entry);
    unfinished = λ w.
        let write : (s.start j).is_write ≡ true = sym (ap (λ (z : Start). z.is_write) (k.start j x.below)) ∙ w in
        elim (cases_eq e.grant n) [
          | inl is ↦
              ap is_unfinished (under_is n e is) ∙ taken_none (is_acknowledged e.entry)
              ∙ sym (ap not (k.under j x.below write (x.grant ∙ is)))
          | inr ne ↦
              ap is_unfinished (beside_is n e ne) ∙ x.unfinished write
              ∙ sym (ap not (k.beside j x.below (λ q. ne (sym x.grant ∙ q))))
        ];
  }

  -- The log takes the writes under the grant as lost.
  pub taken_paired : (es : List Logged) (pairs : Pairs) → ArePaired s file es pairs →
      ArePaired t file (map (taken_under n) es) pairs
  taken_paired es pairs p = record {
    same = λ i j q.
        let x = p.same i j q in
        (taken_under n x.0, get_map (taken_under n) es i ∙ ap (option_map (taken_under n)) x.1, same_taken j x.0 x.2);
    each = λ i e at_ here. by i e here (slice_get es i) refl (sym (get_map (taken_under n) es i) ∙ at_);
    rising = p.rising;
    others = λ j l none. elim (cases_lt j s.count) [
      | inl low ↦
          let q = p.others j low none in
          record {
            write = ap (λ (z : Start). z.is_write) (k.start j low) ∙ q.write;
            answer = k.answer j low ∙ q.answer;
          }
      | inr high ↦ k.passed j high l
    ];
  }
    where
      by : (i : ℕ) (e : Logged) → e.file ≡ file → (o : Option Logged) → slice_get es i ≡ o →
          option_map (taken_under n) o ≡ Some e → (j : ℕ) × IsPair pairs i j
      by i e here None there at_ = absurd (cc at_)
      by i e here (Some x) there at_ =
          let same : taken_under n x ≡ e = cc at_ in
          p.each i x there (sym (file_stays n x) ∙ ap (λ (y : Logged). y.file) same ∙ here)
