-- A command under a credential of a drive's key has the check value that the drive expects, and names its key.
use Rattle.std.proofs.Common.{◌≡◌, ℕ, Bool, true, false, List, [], ◌∷◌, ◌++◌, nat_eq, Option, Some, None, unwrap_or, slice_get, bit_and, refl, sym, ap, ◌∙◌}
use Rattle.std.specs.Cmp.Lexicographic.{pointwise}
use Rattle.osd_capability.specs.declared.keys.CapKey.{CapKey}
use Rattle.osd_capability.specs.Keys.{key_of, check_of}
use Rattle.osd_commands.specs.declared.actions.Action.{Action}
use Rattle.osd_commands.specs.Actions.{right_of}
use Rattle.osd_commands.specs.Commands.{head, fields}
use Rattle.osd_drive.specs.declared.keys.DriveKey.{DriveKey}
use Rattle.osd_drive.specs.State.{key_of_version}
use Rattle.osd_drive.specs.Table.{is_checked}
use Rattle.server_rules.specs.declared.limits.TheConstants.{KEY_VERSION}
use Rattle.client_rules.specs.Commands.{no_credential, credential_in, credential_of, sealed, bare, command}
use Rattle.history_law.proofs.IssuedLaw.{nothing_allowed}
use Rattle.world_history.specs.ClientNames.{Credential, Listed, Held, Store}
use Rattle.world_history.specs.Drives.{first_key}
use Rattle.component_law.proofs.Sealing.{same_bytes}

-- ---- the check value

-- where the credential's key is the one that this key makes for its capability
pub made_checked : (h : Held) (write : Bool) (w : Store) (nonce : ℕ) (key : List ℕ)
    → (credential_of h w.ask.component).key ≡ key_of key (credential_of h w.ask.component).capability
    → is_checked key (command h write w nonce) ≡ true
unfolding command sealed head fields
made_checked h write w nonce key e =
    ap (λ (k : CapKey). pointwise nat_eq (check_of k (head (bare h write w nonce) ++ w.bytes))
    (check_of (key_of key (credential_of h w.ask.component).capability) (head (bare h write w nonce) ++ w.bytes))) e
    ∙ same_bytes (check_of (key_of key (credential_of h w.ask.component).capability) (head (bare h write w nonce) ++ w.bytes))

-- ---- the key

pub version_found : (keys : List DriveKey) (key : List ℕ) (v : ℕ) → keys ≡ first_key key ∷ [] → v ≡ KEY_VERSION
    → key_of_version keys v ≡ Some (first_key key)
version_found keys key v one version =
    ap (λ (ks : List DriveKey). key_of_version ks v) one
    ∙ ap (λ (n : ℕ). key_of_version (first_key key ∷ []) n) version

-- ---- the credential

-- component k has this credential
pub record HasCredential (ls : List Listed) (k : ℕ) : Type 0 where
  pub listed : Listed
  pub found : slice_get ls k ≡ Some listed
  pub credential : Credential
  pub has : listed.credential ≡ Some credential

-- a component that has no credential has no right
pub with_right : (h : Held) (k : ℕ) (a : Action)
    → nat_eq (bit_and (credential_of h k).capability.rights (right_of a)) 0 ≡ false → HasCredential h.components k
unfolding credential_of
with_right h k a right = by (slice_get h.components k) refl right
  where
    listed_has : (l : Listed) → slice_get h.components k ≡ Some l → (c : Option Credential) → l.credential ≡ c
        → nat_eq (bit_and (unwrap_or c no_credential).capability.rights (right_of a)) 0 ≡ false
        → HasCredential h.components k
    listed_has l found None is e = absurd (cc (sym (nothing_allowed a) ∙ e))
    listed_has l found (Some c) is e = record { listed = l; found = found; credential = c; has = is }

    by : (o : Option Listed) → slice_get h.components k ≡ o
        → nat_eq (bit_and (unwrap_or (credential_in o) no_credential).capability.rights (right_of a)) 0 ≡ false
        → HasCredential h.components k
    by None found e = absurd (cc (sym (nothing_allowed a) ∙ e))
    by (Some l) found e = listed_has l found l.credential refl e
