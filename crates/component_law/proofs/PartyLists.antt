-- Lists of grants whose numbers rise, and files whose grants are below the next one.
use Rattle.std.proofs.Common.{◌≡◌, ℕ, ◌+◌, ◌<◌, ◌≤◌, Bool, List, [], ◌∷◌, ◌++◌, filter, refl, sym, subst, arith, inl, inr}
use Rattle.std.proofs.lemmas.Bool.{cases_Bool}
use Rattle.server_rules.specs.Grants.{without}
use Rattle.server_rules.specs.Laws.{In}
use Rattle.server_rules.proofs.GrantLaws.{in_more, in_filter}
use Rattle.world_history.specs.ServerNames.{File, Grant}
use Rattle.component_law.specs.Order.{Rise, IsInOrder}

-- one more behind the others
pub rise_more : (gs : List Grant) (g : Grant) → Rise gs → ((h : Grant) → In h gs → h.number < g.number)
    → Rise (gs ++ (g ∷ []))
rise_more [] g r less = (λ h i. absurd i, tt)
rise_more (x ∷ gs) g r less = (
  λ h i. elim (in_more gs g h i) [
    | inl j ↦ r.0 h j
    | inr e ↦ subst (λ (y : Grant). x.number < y.number) (sym e) (less x (inl refl))
  ],
  rise_more gs g r.1 (λ h i. less h (inr i)),
)

pub rise_filter : (p : Grant → Bool) (gs : List Grant) → Rise gs → Rise (filter p gs)
rise_filter p [] r = r
rise_filter p (g ∷ gs) r = elim (cases_Bool (p g)) [
  | inl t ↦ rw t (λ h i. r.0 h (in_filter p gs h i), rise_filter p gs r.1)
  | inr f ↦ rw f (rise_filter p gs r.1)
]

-- ---- of a file

-- by its grants alone
pub same_order : (next : ℕ) (f h : File) → h.kept.grants ≡ f.kept.grants → IsInOrder next f → IsInOrder next h
same_order next f h e o = record {
  rise = subst Rise (sym e) o.rise;
  below = λ g i. o.below g (subst (In g) e i);
}

pub none_order : (next : ℕ) (f : File) → f.kept.grants ≡ [] → IsInOrder next f
none_order next f e = record {
  rise = subst Rise (sym e) tt;
  below = λ g i. absurd (subst (In g) e i);
}

-- the next number rises
pub later_order : (next later : ℕ) (f : File) → next ≤ later → IsInOrder next f → IsInOrder later f
later_order next later f le o = record { rise = o.rise; below = λ g i. omega (arith, o.below g i, le) }

-- the grant with the next number is given
pub more_order : (next : ℕ) (f h : File) (g : Grant) → h.kept.grants ≡ f.kept.grants ++ (g ∷ []) → g.number ≡ next
    → IsInOrder next f → IsInOrder (next + 1) h
more_order next f h g e is o = record {
  rise = subst Rise (sym e) (rise_more f.kept.grants g o.rise (λ x i. omega (arith, o.below x i, is)));
  below = λ x i. elim (in_more f.kept.grants g x (subst (In x) e i)) [
    | inl j ↦ omega (arith, o.below x j)
    | inr same ↦ subst (λ (y : Grant). y.number < next + 1) (sym same) (omega (arith, is))
  ];
}

-- a client's grant goes
pub less_order : (next client : ℕ) (f h : File) → h.kept.grants ≡ without f.kept.grants client → IsInOrder next f
    → IsInOrder next h
less_order next client f h e o = record {
  rise = subst Rise (sym e) (rise_filter _ f.kept.grants o.rise);
  below = λ g i. o.below g (in_filter _ f.kept.grants g (subst (In g) e i));
}
