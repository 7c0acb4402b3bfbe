-- Reading an enumeration and spelling it are each other's inverse.
use Rattle.std.proofs.Common.{◌≡◌, ◌⊎◌, ℕ, ◌<◌, ◌^◌, ◌&&◌, cond, eqb, leb, ltb, Option, None, Some, inl, inr, refl, sym, ap, ◌∙◌, arith}
use Rattle.std.specs.Prelude.{⊤}
use Rattle.std.proofs.lemmas.Bool.{leb-true, le-leb, ltb-true, lt-ltb, eqb-true, and_parts}
use Rattle.std.proofs.lemmas.Option.{none-some}
use Rattle.xdr_codec.specs.Items.{u32_item}
use Rattle.xdr_codec.proofs.Codec.{IsCodec}
use Rattle.xdr_codec.proofs.ItemLaws.{chosen}
use Rattle.layout_types.specs.declared.cred.OsdVersion.{OsdVersion}
use Rattle.layout_types.specs.declared.cred.OsdVersion.TheVariants as version
use Rattle.layout_types.specs.declared.cred.KeySecurity.{KeySecurity}
use Rattle.layout_types.specs.declared.cred.KeySecurity.TheVariants as security
use Rattle.layout_types.specs.declared.device_addr.TargetId.TheVariants as target
use Rattle.layout_types.specs.declared.ioerrs.Errno.{Errno}
use Rattle.layout_types.specs.declared.ioerrs.Errno.TheVariants as errno
use Rattle.layout_types.specs.Enumerations.{version_number, version_of, security_number, security_of, errno_number, errno_of, IsAlgorithm, algorithm_of}
use Rattle.layout_types.specs.Grammar.{enum_part}
use Rattle.layout_types.proofs.Steps.{enum_law}

algorithm_only : (n v : ℕ) → algorithm_of n ≡ Some v → (v ≡ n) × IsAlgorithm v
algorithm_only n v e =
    elim (chosen (ltb 0 n && leb n 4) (Some n) None (Some v) e) [
      | inl p ↦
          let same : n ≡ v = cc in
          let both = and_parts (ltb 0 n) (leb n 4) p.0 in
          (sym same, rw (← same) (ltb-true 0 n both.0, leb-true n 4 both.1))
      | inr p ↦ absurd cc
    ]

algorithm_back : (n : ℕ) → IsAlgorithm n → algorithm_of n ≡ Some n
algorithm_back n fits = rw (lt-ltb 0 n fits.0, le-leb n 4 fits.1) refl

pub algorithm_law : IsCodec (enum_part algorithm_of) u32_item IsAlgorithm
algorithm_law =
    enum_law algorithm_of (λ n. n) IsAlgorithm
    (record { back = algorithm_back; small = λ n fits. omega (arith, fits.1); only = algorithm_only })

some_is : {V : Type 0} (n m : ℕ) (x v : V) (o : Option V) → cond (eqb n m) (Some x) o ≡ Some v →
    ((n ≡ m) × (x ≡ v)) ⊎ (o ≡ Some v)
some_is n m x v o e =
    elim (chosen (eqb n m) (Some x) o (Some v) e) [
      | inl p ↦ inl (eqb-true n m p.0, cc)
      | inr p ↦ inr p.1
    ]

version_only : (n : ℕ) (v : OsdVersion) → version_of n ≡ Some v → (version_number v ≡ n) × ⊤
version_only n v e =
    elim (some_is n 0 version.Missing v _ e) [
      | inl p ↦ (ap version_number (sym p.1) ∙ sym p.0, tt)
      | inr q0 ↦
          elim (some_is n 1 version.Version1 v _ q0) [
            | inl p ↦ (ap version_number (sym p.1) ∙ sym p.0, tt)
            | inr q1 ↦
                elim (some_is n 2 version.Version2 v _ q1) [
                  | inl p ↦ (ap version_number (sym p.1) ∙ sym p.0, tt)
                  | inr q2 ↦
                      absurd (none-some v q2)
                ]
          ]
    ]

version_back : (v : OsdVersion) → version_of (version_number v) ≡ Some v
version_back version.Missing = refl
version_back version.Version1 = refl
version_back version.Version2 = refl

version_small : (v : OsdVersion) → version_number v < 2 ^ 32
version_small version.Missing = omega arith
version_small version.Version1 = omega arith
version_small version.Version2 = omega arith

pub version_law : IsCodec (enum_part version_of) (λ v. u32_item (version_number v)) (λ v. ⊤)
version_law =
    enum_law version_of version_number (λ v. ⊤)
    (record { back = λ v fits. version_back v; small = λ v fits. version_small v; only = version_only })

security_only : (n : ℕ) (v : KeySecurity) → security_of n ≡ Some v → (security_number v ≡ n) × ⊤
security_only n v e =
    elim (some_is n 0 security.None v _ e) [
      | inl p ↦ (ap security_number (sym p.1) ∙ sym p.0, tt)
      | inr q0 ↦
          elim (some_is n 1 security.Ssv v _ q0) [
            | inl p ↦ (ap security_number (sym p.1) ∙ sym p.0, tt)
            | inr q1 ↦
                absurd (none-some v q1)
          ]
    ]

security_back : (v : KeySecurity) → security_of (security_number v) ≡ Some v
security_back security.None = refl
security_back security.Ssv = refl

security_small : (v : KeySecurity) → security_number v < 2 ^ 32
security_small security.None = omega arith
security_small security.Ssv = omega arith

pub security_law : IsCodec (enum_part security_of) (λ v. u32_item (security_number v)) (λ v. ⊤)
security_law =
    enum_law security_of security_number (λ v. ⊤)
    (record { back = λ v fits. security_back v; small = λ v fits. security_small v; only = security_only })

errno_only : (n : ℕ) (v : Errno) → errno_of n ≡ Some v → (errno_number v ≡ n) × ⊤
errno_only n v e =
    elim (some_is n 1 errno.Eio v _ e) [
      | inl p ↦ (ap errno_number (sym p.1) ∙ sym p.0, tt)
      | inr q0 ↦
          elim (some_is n 2 errno.NotFound v _ q0) [
            | inl p ↦ (ap errno_number (sym p.1) ∙ sym p.0, tt)
            | inr q1 ↦
                elim (some_is n 3 errno.NoSpace v _ q1) [
                  | inl p ↦ (ap errno_number (sym p.1) ∙ sym p.0, tt)
                  | inr q2 ↦
                      elim (some_is n 4 errno.BadCred v _ q2) [
                        | inl p ↦ (ap errno_number (sym p.1) ∙ sym p.0, tt)
                        | inr q3 ↦
                            elim (some_is n 5 errno.NoAccess v _ q3) [
                              | inl p ↦ (ap errno_number (sym p.1) ∙ sym p.0, tt)
                              | inr q4 ↦
                                  elim (some_is n 6 errno.Unreachable v _ q4) [
                                    | inl p ↦ (ap errno_number (sym p.1) ∙ sym p.0, tt)
                                    | inr q5 ↦
                                        elim (some_is n 7 errno.Resource v _ q5) [
                                          | inl p ↦ (ap errno_number (sym p.1) ∙ sym p.0, tt)
                                          | inr q6 ↦
                                              absurd (none-some v q6)
                                        ]
                                  ]
                            ]
                      ]
                ]
          ]
    ]

errno_back : (v : Errno) → errno_of (errno_number v) ≡ Some v
errno_back errno.Eio = refl
errno_back errno.NotFound = refl
errno_back errno.NoSpace = refl
errno_back errno.BadCred = refl
errno_back errno.NoAccess = refl
errno_back errno.Unreachable = refl
errno_back errno.Resource = refl

errno_small : (v : Errno) → errno_number v < 2 ^ 32
errno_small errno.Eio = omega arith
errno_small errno.NotFound = omega arith
errno_small errno.NoSpace = omega arith
errno_small errno.BadCred = omega arith
errno_small errno.NoAccess = omega arith
errno_small errno.Unreachable = omega arith
errno_small errno.Resource = omega arith

pub errno_law : IsCodec (enum_part errno_of) (λ v. u32_item (errno_number v)) (λ v. ⊤)
errno_law = enum_law errno_of errno_number (λ v. ⊤)
    (record { back = λ v fits. errno_back v; small = λ v fits. errno_small v; only = errno_only })
