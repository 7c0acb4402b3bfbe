-- Stripes that lack nothing.
use Rattle.std.specs.Prelude.{ℕ, zero, suc, false, List, [], ◌∷◌, None, refl, ◌≡◌, ◌≤◌, ◌+◌, ◌*◌, is_some}
use Rattle.std.proofs.Common.{arith}
use Rattle.std.proofs.lemmas.Bool.Decides.{nat_tests}
use Rattle.data_map.specs.declared.check.RawMap.{RawMap}
use Rattle.data_map.specs.Striping.{group_width, group_of}
use Rattle.stripe_plan.specs.Touched.{stripes}
use Rattle.stripe_plan.specs.Lost.{out_from, positions_out, is_short, unwritable}
use Rattle.stripe_plan.proofs.WriteFollows.{no_stripes}
use Rattle.stripe_plan.proofs.WriteLaws.{none_out}
use Rattle.client_rules.specs.declared.calls.CallOp.{CallOp}
use Rattle.client_rules.specs.declared.grants.Held.{Held}
use Rattle.client_rules.specs.declared.grants.Reach.{Reach}
use Rattle.client_rules.specs.Grants.{missing_from}
use Rattle.client_rules.specs.Layouts.{granted_span, is_lacking}

-- ---- no component is out

none_out_from : (m : RawMap) (p n : ℕ) → out_from m [] p n ≡ []
unfolding out_from
none_out_from m p zero = refl
none_out_from m p (suc n) = rw (none_out m p) (none_out_from m (p + 1) n)

none_short : (m : RawMap) (s : ℕ) → is_short m [] s ≡ false
unfolding is_short positions_out
none_short m s = rw (none_out_from m (group_of m s * group_width m) (group_width m)) (grind (arith, nat_tests))

pub all_writable : (m : RawMap) (ss : List ℕ) → unwritable m [] ss ≡ None
unfolding unwritable
all_writable m [] = refl
all_writable m (s ∷ ss) = rw (none_short m s) (all_writable m ss)

pub none_lacking : (h : Held) (op : CallOp) → missing_from h.components 0 ≡ [] → is_lacking h op ≡ false
unfolding is_lacking
none_lacking h op e = rw e (rw (all_writable h.map _, all_writable h.map _) refl)

-- ---- no byte was granted

pub none_granted : (m : RawMap) (out : List ℕ) (g : Reach) → g.end ≤ g.first →
    is_some (unwritable m out (stripes m (granted_span g))) ≡ false
unfolding unwritable
none_granted m out g l = rw (no_stripes m (granted_span g) (omega (arith, l))) refl
