-- A command that is made under a grant whose keys fit its capabilities is read from its bytes as it was made.
use Rattle.std.proofs.Common.{◌≡◌, ◌==◌, ℕ, zero, suc, ◌<◌, ◌^◌, Bool, true, false, List, [], ◌∷◌, length, replicate, Option, Some, None, Ok, slice_get, unwrap_or, nat_eq, refl, sym, subst, ◌∙◌, eq-eqb, arith}
use Rattle.std.proofs.lemmas.Bool.{eqb-true}
use Rattle.std.proofs.lemmas.List.{drop_all, drop_at, length-append, length-replicate}
use Rattle.hmac_tags.specs.Mac.{hmac_sha1, hmac_sha256}
use Rattle.hmac_tags.proofs.Lengths.{long_sha1, long_sha256}
use Rattle.osd_capability.specs.declared.keys.CapKey.{CapKey}
use Rattle.osd_capability.specs.declared.keys.CapKey.TheVariants.{One, Two}
use Rattle.osd_capability.specs.Keys.{check_of}
use Rattle.osd_capability.specs.Layout.{is_format}
use Rattle.osd_commands.specs.Commands.{spelling, reading, allows, IsCheck}
use Rattle.osd_commands.proofs.CommandLaws.{reading-command}
use Rattle.client_rules.specs.Commands.{no_credential, credential_in, credential_of, action_of, sealed, command}
use Rattle.world_history.specs.ClientNames.{Credential, Held, Listed, Store}
use Rattle.exchange_law.proofs.Commands.{MaySend}
use Rattle.cause_law.proofs.KeyedGrants.{IsKeyFor, IsKeyed, AreKeyed}
use Rattle.cause_law.proofs.MadeCommands.{Carries}

-- ---- check values

two_left : (n : ℕ) → is_format n ≡ true → (n == 1) ≡ false → n ≡ 2
two_left n known other = let two : nat_eq n 2 ≡ true = rw other at known in eqb-true n 2 two

sha1_check : (key text : List ℕ) → IsCheck 1 (check_of (One key) text)
sha1_check key text = record {
  long =
      length-append (hmac_sha1 key text) (replicate 12 0)
      ∙ omega (arith, long_sha1 key text, length-replicate {A = ℕ} 12 0);
  zeros = drop_at (hmac_sha1 key text) (replicate 12 0) 20 (long_sha1 key text);
}

sha256_check : (key text : List ℕ) → IsCheck 2 (check_of (Two key) text)
sha256_check key text = record {
  long = long_sha256 key text;
  zeros = drop_all 32 (hmac_sha256 key text) (omega (arith, long_sha256 key text));
}

check_fits : (format : ℕ) (key : CapKey) (text : List ℕ) → is_format format ≡ true → IsKeyFor format key
    → IsCheck format (check_of key text)
check_fits format (One key) text known fits =
    subst (λ (n : ℕ). IsCheck n (check_of (One key) text)) (sym (eqb-true format 1 fits)) (sha1_check key text)
check_fits format (Two key) text known fits =
    subst (λ (n : ℕ). IsCheck n (check_of (Two key) text)) (sym (two_left format known fits)) (sha256_check key text)

-- ---- the credential of a component

-- this one, or what stands for none
abbrev pub given : Option Listed → Credential
given o = unwrap_or (credential_in o) no_credential

abbrev HasKey : Credential → Type 0
HasKey c = IsKeyFor c.capability.format c.key

given_key : (o : Option Credential) → IsKeyed o → HasKey (unwrap_or o no_credential)
given_key None k = refl
given_key (Some c) k = k

has_key : (ls : List Listed) (k : ℕ) → AreKeyed ls → HasKey (given (slice_get ls k))
has_key [] k a = refl
has_key (l ∷ ls) zero a = given_key l.credential a.0
has_key (l ∷ ls) (suc k) a = has_key ls k a.1

-- ---- a command that was made

allowed : (write : Bool) (w : Store) → Carries write w → allows (action_of write) w.ask.length (length w.bytes) ≡ true
allowed true w k = eq-eqb (length w.bytes) w.ask.length k
allowed false w k = eq-eqb (length w.bytes) 0 k

short : (write : Bool) (w : Store) → Carries write w → w.ask.length < 2 ^ 32 → length w.bytes < 2 ^ 32
short true w k l = omega (arith, k, l)
short false w k l = omega (arith, k)

key_of_made : (h : Held) (k : ℕ) → AreKeyed h.components → HasKey (credential_of h k)
unfolding credential_of
key_of_made h k a = has_key h.components k a

pub made_read : (h : Held) (write : Bool) (w : Store) (nonce d : ℕ) → AreKeyed h.components → Carries write w
    → MaySend d (command h write w nonce) → nonce < 2 ^ 64 → w.ask.length < 2 ^ 32
    → reading (spelling (command h write w nonce)) ≡ Ok (command h write w nonce)
unfolding command sealed
made_read h write w nonce d keyed carries may low few = reading-command (command h write w nonce) (record {
  whole = record {
    format = may.capability.format;
    check =
        check_fits (credential_of h w.ask.component).capability.format (credential_of h w.ask.component).key _
        may.capability.format (key_of_made h w.ask.component keyed);
    allowed = allowed write w carries;
    payload = short write w carries few;
  };
  numbers = record {
    partition = omega (arith, may.placed.partition, may.capability.partition);
    object = omega (arith, may.placed.object, may.capability.object);
    offset = may.offset;
    length = may.length;
    nonce = low;
    attribute = omega arith;
  };
  capability = may.capability;
})

pub nonce_of : (h : Held) (write : Bool) (w : Store) (nonce : ℕ) → (command h write w nonce).nonce < 2 ^ 64
    → nonce < 2 ^ 64
unfolding command sealed
nonce_of h write w nonce l = l
