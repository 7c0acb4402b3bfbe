-- The holder and the rights that are read of a capability are those that were spelled.
use Rattle.std.proofs.Common.{◌≡◌, ℕ, ◌<◌, ◌^◌, Bool, true, false, eqb, not, List, [], length, Option, Some, None, Ok, sym, ap, subst, ◌∙◌, arith, inl, inr}
use Rattle.std.proofs.lemmas.Nat.{from_be_bytes-to_be_bytes_4}
use Rattle.osd_capability.specs.declared.layout.Capability.{Capability}
use Rattle.osd_capability.specs.Layout.{spelling, capability_at, stray, unless_reserved, is_format, reading}
use Rattle.osd_capability.specs.declared.layout.TheConstants.{CAPABILITY_BYTES}
use Rattle.osd_capability.specs.declared.layout.CapErr.TheVariants.{Length, Format}
use Rattle.std.specs.Prelude.{slice_index}
use Rattle.osd_lists.proofs.Options.{guard_ok}
use Rattle.layout_types.specs.declared.cred.ObjectCred.{ObjectCred}
use Rattle.server_rules.specs.declared.grants.Grant.{Grant}
use Rattle.history_law.proofs.Layouts.{Bears, rights_by}

unreserved : (o : Option ℕ) (x c : Capability) → unless_reserved o x ≡ Ok c → x ≡ c
unreserved None x c e = cc e
unreserved (Some at) x c e = absurd (cc e)

-- what is read are the numbers at their places
read_at : (bytes : List ℕ) (c : Capability) → reading bytes ≡ Ok c → capability_at bytes ≡ c
unfolding reading
read_at bytes c e =
    let long = guard_ok (not (eqb (length bytes) CAPABILITY_BYTES)) Length _ c e in
    let format = guard_ok (not (is_format (slice_index bytes 0))) Format _ c long.1 in
    unreserved (stray bytes) (capability_at bytes) c format.1

holder_at : (x : Capability) → x.holder < 2 ^ 32 → (capability_at (spelling x)).holder ≡ x.holder
unfolding capability_at spelling
holder_at x fits = from_be_bytes-to_be_bytes_4 x.holder fits

-- whatever the other numbers are
pub holder_read : (x c : Capability) → x.holder < 2 ^ 32 → reading (spelling x) ≡ Ok c → c.holder ≡ x.holder
holder_read x c fits e = ap (λ (y : Capability). y.holder) (sym (read_at (spelling x) c e)) ∙ holder_at x fits

rights_at : (x : Capability) → x.rights < 2 ^ 32 → (capability_at (spelling x)).rights ≡ x.rights
unfolding capability_at spelling
rights_at x fits = from_be_bytes-to_be_bytes_4 x.rights fits

pub rights_read : (x c : Capability) → x.rights < 2 ^ 32 → reading (spelling x) ≡ Ok c → c.rights ≡ x.rights
rights_read x c fits e = ap (λ (y : Capability). y.rights) (sym (read_at (spelling x) c e)) ∙ rights_at x fits

nothing_read : (c : Capability) → reading [] ≡ Ok c → ⊥
unfolding reading
nothing_read c e = absurd (cc e)

-- a capability that is read in a credential of a grant has the grant's client
pub bears_holder : (g : Grant) (o : ObjectCred) (c : Capability) → g.client < 2 ^ 32 → Bears g o
    → reading o.oc_capability ≡ Ok c → c.holder ≡ g.client
bears_holder g o c fits (inl none) e = absurd (nothing_read c (ap reading (sym none) ∙ e))
bears_holder g o c fits (inr (x, is, spells)) e =
    holder_read x c (subst (λ (n : ℕ). n < 2 ^ 32) (sym is.0) fits) (ap reading (sym spells) ∙ e) ∙ is.0

pub few_rights : (rw : Bool) → rights_by rw < 2 ^ 32
few_rights true = omega arith
few_rights false = omega arith

-- and its rights
pub bears_rights : (g : Grant) (o : ObjectCred) (c : Capability) → Bears g o → reading o.oc_capability ≡ Ok c
    → c.rights ≡ rights_by g.rw
bears_rights g o c (inl none) e = absurd (nothing_read c (ap reading (sym none) ∙ e))
bears_rights g o c (inr (x, is, spells)) e =
    rights_read x c (subst (λ (n : ℕ). n < 2 ^ 32) (sym is.1) (few_rights g.rw)) (ap reading (sym spells) ∙ e) ∙ is.1
