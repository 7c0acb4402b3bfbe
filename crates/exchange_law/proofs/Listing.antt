-- A client lists the credentials of the server as they are.
use Rattle.std.proofs.Common.{◌≡◌, ◌<◌, ◌≤◌, ℕ, suc, ◌+◌, ◌++◌, ◌^◌, Bool, true, false, List, [], ◌∷◌, Some, None, length, replicate, slice_get, nat_eq, nat_lt, refl, ap, subst, ◌∙◌, arith, inl, inr, if◌then◌else◌}
use Rattle.std.specs.Prelude.{IsTrue}
use Rattle.std.specs.Int.{w64, w128, from_be_bytes, to_be_bytes}
use Rattle.std.proofs.lemmas.Bool.{cases_eq, le-ltb, ne_eqb}
use Rattle.std.proofs.lemmas.Nat.{from_be_bytes-to_be_bytes_8}
use Rattle.hmac_tags.specs.Mac.{hmac_sha1, hmac_sha256}
use Rattle.hmac_tags.proofs.Lengths.{long_sha1, long_sha256}
use Rattle.osd_capability.specs.declared.layout.TheConstants.{FORMAT_SHA256}
use Rattle.osd_capability.specs.declared.keys.CapKey.{CapKey}
use Rattle.osd_capability.specs.declared.keys.CapKey.TheVariants.{One, Two}
use Rattle.osd_capability.specs.Layout as cap
use Rattle.osd_capability.proofs.LayoutLaws.{reading-spelling}
use Rattle.layout_types.specs.declared.cred.ObjectCred.{ObjectCred}
use Rattle.world_history.specs.ClientNames.{Capability}
use Rattle.client_rules.specs.declared.limits.TheConstants.{MAX_DRIVE}
use Rattle.client_rules.specs.Layouts.{drive_of, key_of, with_key, with_capability, is_secured, any_secured, listed, all_listed}
use Rattle.world_history.specs.ServerNames.{Component, Drive, Grant, Kept}
use Rattle.server_rules.specs.Commands.{key_at}
use Rattle.server_rules.specs.Layouts.{capability_for, device_of, key_bytes, no_credential, credential, credentials_from}
use Rattle.exchange_law.specs.Held.{credential_of, listed_at, listed_from}

-- ---- the drive

pub device_read : (xs : List ℕ) → from_be_bytes w128 (replicate 8 0 ++ xs) ≡ from_be_bytes w64 xs
device_read xs = omega arith

pub drive_again : (d : ℕ) → d ≤ MAX_DRIVE → drive_of (device_of d) ≡ d
drive_again d few =
    let low : d < 2 ^ 64 = omega (arith, few) in device_read (to_be_bytes w64 d) ∙ from_be_bytes-to_be_bytes_8 d low

-- ---- the key

-- a key of the capability's format
abbrev pub key_in : (format : ℕ) → (one two : List ℕ) → CapKey
key_in format one two = if nat_eq format FORMAT_SHA256 then Two two else One one

pub a_format : (n : ℕ) → IsTrue (cap.is_format n) → (n ≡ 1 → ⊥) → n ≡ 2
a_format n is not = elim (cases_eq n 2) [ inl e ↦ e | inr e ↦ absurd (cc (rw (ne_eqb n 1 not, ne_eqb n 2 e) at is)) ]

pub key_again : (format : ℕ) (one two : List ℕ) → IsTrue (cap.is_format format) → length one ≡ 20 → length two ≡ 32
    → key_of format (key_bytes (key_in format one two)) ≡ Some (key_in format one two)
key_again format one two is first second = elim (cases_eq format 1) [
  | inl e ↦ rw (e, first) refl
  | inr e ↦ rw (a_format format is e, second) refl
]

-- ---- a component

module _ (ds : List Drive) (f : Kept) (g : Grant) where
  read_in : (at : Component) (k : ℕ) → cap.Fits (capability_for f g at k)
      → with_capability (credential ds f g at k) (cap.reading (credential ds f g at k).oc_capability)
      ≡ with_key (credential ds f g at k) (capability_for f g at k)
      (key_of (capability_for f g at k).format (credential ds f g at k).oc_capability_key)
  unfolding credential
  read_in at k fits =
      ap (with_capability (credential ds f g at k)) (reading-spelling (capability_for f g at k) fits)

  listed_one : (at : Component) (k : ℕ) (b : Bool) → at.drive ≤ MAX_DRIVE → cap.Fits (capability_for f g at k)
      → listed (if b then no_credential at else credential ds f g at k) ≡ Some (record {
        id = (listed_at ds f g at k).id;
        credential = if b then None else Some (credential_of ds f g at k);
      })
  unfolding listed credential
  listed_one at k true near fits = refl
  listed_one at k false near fits =
      let o : ObjectCred = credential ds f g at k in
      let c : Capability = capability_for f g at k in
      let key : CapKey = (credential_of ds f g at k).key in
      ap (λ (n : ℕ). if nat_lt MAX_DRIVE n then None else with_capability o (cap.reading o.oc_capability))
      (drive_again at.drive near)
      ∙ ap (λ (b : Bool). if b then None else with_capability o (cap.reading o.oc_capability))
      (le-ltb MAX_DRIVE at.drive near)
      ∙ read_in at k fits
      ∙ ap (with_key o c)
      (key_again c.format (hmac_sha1 (key_at ds at.drive) (cap.spelling c))
      (hmac_sha256 (key_at ds at.drive) (cap.spelling c)) fits.format (long_sha1 _ _) (long_sha256 _ _))
      ∙ ap (λ (d : ℕ). Some (record {
        id = o.oc_object_id;
        credential = Some (record { drive = d; key = key; capability = c });
      })) (drive_again at.drive near)

  -- each stands on a drive that a client takes, and its capability fits
  abbrev pub AreFit : List Component → (k : ℕ) → Type 0
  AreFit cs k = (i : ℕ) (at : Component) → slice_get cs i ≡ Some at → (at.drive ≤ MAX_DRIVE)
      × cap.Fits (capability_for f g at (k + i))

  others_fit : (at : Component) (cs : List Component) (k : ℕ) → AreFit (at ∷ cs) k → AreFit cs (k + 1)
  others_fit at cs k fit i c found =
      let it = fit (suc i) c found in
      let same : k + suc i ≡ k + 1 + i = omega arith in
      (it.0, subst (λ (n : ℕ). cap.Fits (capability_for f g c n)) same it.1)

  pub listed_all : (cs : List Component) (k : ℕ) → AreFit cs k
      → all_listed (credentials_from ds f g cs k) ≡ Some (listed_from ds f g cs k)
  unfolding all_listed credentials_from listed_from
  listed_all [] k fit = refl
  listed_all (at ∷ cs) k fit =
      let it = fit 0 at refl in
      let same : k + 0 ≡ k = omega arith in
      rw (
        listed_one at k at.missing it.0 (subst (λ (n : ℕ). cap.Fits (capability_for f g at n)) same it.1),
        listed_all cs (k + 1) (others_fit at cs k fit),
      ) refl

  in_clear : (at : Component) (k : ℕ) (b : Bool)
      → is_secured (if b then no_credential at else credential ds f g at k).oc_cap_key_sec ≡ false
  unfolding credential
  in_clear at k true = refl
  in_clear at k false = refl

  -- keys are in clear
  pub none_secured : (cs : List Component) (k : ℕ) → any_secured (credentials_from ds f g cs k) ≡ false
  unfolding credentials_from
  none_secured [] k = refl
  none_secured (at ∷ cs) k = rw (in_clear at k at.missing) (none_secured cs (k + 1))

  pub length_credentials : (cs : List Component) (k : ℕ) → length (credentials_from ds f g cs k) ≡ length cs
  unfolding credentials_from
  length_credentials [] k = refl
  length_credentials (at ∷ cs) k = ap suc (length_credentials cs (k + 1))
