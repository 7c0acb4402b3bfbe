-- The lines tell each CREATE of the server, and nothing else as a CREATE.
use Rattle.std.proofs.Common.{◌≡◌, ℕ, zero, suc, ◌-◌, ◌<◌, ◌^◌, ◌∷◌, [], List, ◌++◌, Bool, true, false, nat_lt, nat_eq, not, length, get_or, take, replicate, Option, Some, None, Result, Ok, Err, refl, sym, ap, ◌∙◌, arith, if◌then◌else◌}
use Rattle.std.specs.Prelude.{slice_range}
use Rattle.std.specs.Int.{w16, w32, w64, to_be_bytes, from_be_bytes, byte_at, bytes_high_first}
use Rattle.std.proofs.lemmas.Nat.{be_bytes_4, be_bytes_8}
use Rattle.std.proofs.lemmas.Bool.Decides.{nat_tests}
use Rattle.osd_lists.proofs.BlockLaws.{below_32, below_64}
use Rattle.osd_capability.specs.declared.layout.Capability.{Capability}
use Rattle.osd_capability.specs.declared.layout.CapErr.{CapErr}
use Rattle.osd_capability.specs.Layout as Cap
use Rattle.osd_commands.specs.declared.actions.Action.{Action}
use Rattle.osd_commands.specs.declared.actions.Action.TheVariants.{Create, Read, Write, GetAttr, SetAttr, SetTag}
use Rattle.osd_commands.specs.declared.commands.Command.{Command}
use Rattle.osd_commands.specs.declared.commands.CommandErr.{CommandErr}
use Rattle.osd_commands.specs.Actions.{number_of, action_of}
use Rattle.osd_commands.specs.Commands.{magic, check_len, fields, head, spelling, command_at, is_sized, with_capability, unless_reserved, with_action, stray, reading, Fits}
use Rattle.osd_commands.proofs.CommandLaws.{reading-command}
use Rattle.osd_drive.specs.Table.{is_create}
use Rattle.scenario_text.specs.declared.names.TheConstants.{DRIVES}
use Rattle.world_history.specs.ServerNames.{Kept, Drive, Awaited}
use Rattle.server_rules.specs.Commands.{Creating, label, check_under, sealed, sent_to}
use Rattle.world_history.specs.Book.{created_by}
use Rattle.history_law.proofs.Checks.{is_check}

-- ---- numbers as their bytes have them

byte_low : (i n : ℕ) → byte_at i n < 256
byte_low zero n = omega arith
byte_low (suc i) n = omega arith

bytes_low : (k n i : ℕ) → get_or (bytes_high_first k n) i 0 < 256
bytes_low zero n i = omega arith
bytes_low (suc k) n zero = byte_low k n
bytes_low (suc k) n (suc i) = bytes_low k n i

abbrev cut_32 : ℕ → ℕ
cut_32 n = from_be_bytes w32 (to_be_bytes w32 n)

abbrev cut_64 : ℕ → ℕ
cut_64 n = from_be_bytes w64 (to_be_bytes w64 n)

same_32 : (n : ℕ) → to_be_bytes w32 (cut_32 n) ≡ to_be_bytes w32 n
same_32 n = be_bytes_4 (to_be_bytes w32 n) (cut_32 n) refl (bytes_low 4 n) refl

same_64 : (n : ℕ) → to_be_bytes w64 (cut_64 n) ≡ to_be_bytes w64 n
same_64 n = be_bytes_8 (to_be_bytes w64 n) (cut_64 n) refl (bytes_low 8 n) refl

low_32 : (n : ℕ) → cut_32 n < 2 ^ 32
low_32 n = below_32 (to_be_bytes w32 n) (bytes_low 4 n)

low_64 : (n : ℕ) → cut_64 n < 2 ^ 64
low_64 n = below_64 (to_be_bytes w64 n) (bytes_low 8 n)

-- ---- a command with such numbers

abbrev cut : Command → Command
cut c = record c {
  object = cut_64 c.object;
  nonce = cut_64 c.nonce;
  capability = record c.capability { tag = cut_32 c.capability.tag; object = cut_64 c.capability.object };
}

-- the bytes of a command, with these for the numbers that are cut
abbrev capability_with : Capability → (tag object : List ℕ) → List ℕ
capability_with c tag object =
    (c.format ∷ [])
    ++ (replicate 1 0 ++ (to_be_bytes w16 c.key_version ++ (to_be_bytes w32 c.rights ++ (to_be_bytes w64 c.expiry
    ++ (to_be_bytes w32 c.grant ++ (to_be_bytes w32 c.holder ++ (tag ++ (replicate 4 0
    ++ (to_be_bytes w64 c.partition ++ (object
    ++ (to_be_bytes w64 c.range_start ++
    (to_be_bytes w64 c.range_len ++ replicate 32 0))))))))))))

abbrev bytes_with : Command → (object nonce tag capability_object : List ℕ) → List ℕ
bytes_with c object nonce tag other =
    ((to_be_bytes w32 magic ++ (to_be_bytes w16 (number_of c.action) ++ (replicate 2 0 ++ (to_be_bytes w64 c.partition
    ++ (object ++ (to_be_bytes w64 c.offset ++ (to_be_bytes w64 c.length ++ (nonce
    ++ (to_be_bytes w32 c.attribute ++ (replicate 4 0 ++ (to_be_bytes w32 (length c.payload) ++ replicate 4 0)))))))))))
    ++ (capability_with c.capability tag other ++ replicate (96 - check_len c.capability.format) 0))
    ++ (take (check_len c.capability.format) c.check ++ c.payload)

in_bytes : (c : Command)
    → spelling c ≡ bytes_with c (to_be_bytes w64 c.object) (to_be_bytes w64 c.nonce) (to_be_bytes w32 c.capability.tag)
    (to_be_bytes w64 c.capability.object)
unfolding spelling head fields Cap.spelling
in_bytes c = refl

spelled_alike : (c : Command) → spelling (cut c) ≡ spelling c
spelled_alike c =
    let k = c.capability in
    in_bytes (cut c)
    ∙ ap (λ (b : List ℕ). bytes_with c b (to_be_bytes w64 (cut_64 c.nonce)) (to_be_bytes w32 (cut_32 k.tag))
    (to_be_bytes w64 (cut_64 k.object))) (same_64 c.object)
    ∙ ap (λ (b : List ℕ). bytes_with c (to_be_bytes w64 c.object) b (to_be_bytes w32 (cut_32 k.tag))
    (to_be_bytes w64 (cut_64 k.object))) (same_64 c.nonce)
    ∙ ap (λ (b : List ℕ). bytes_with c (to_be_bytes w64 c.object) (to_be_bytes w64 c.nonce) b
    (to_be_bytes w64 (cut_64 k.object))) (same_32 k.tag)
    ∙ ap (λ (b : List ℕ). bytes_with c (to_be_bytes w64 c.object) (to_be_bytes w64 c.nonce) (to_be_bytes w32 k.tag) b)
    (same_64 k.object)
    ∙ sym (in_bytes c)

-- ---- a CREATE

module _ (ds : List Drive) (f : Kept) (k drive object nonce : ℕ) where
  abbrev create : Command
  create = sealed ds (sent_to f Creating k drive object nonce)

  short_label : length (label f.map f.number k) < 2 ^ 32
  unfolding label
  short_label = omega arith

  fits : Cap.is_format f.format ≡ true → drive < DRIVES → Fits (cut create)
  unfolding check_under
  fits format named = record {
    whole = record {
      format = format;
      check = is_check f.format _ _ _;
      allowed = refl;
      payload = short_label;
    };
    numbers = record {
      partition = omega (arith, named);
      object = low_64 object;
      offset = omega arith;
      length = omega arith;
      nonce = low_64 nonce;
      attribute = omega arith;
    };
    capability = record {
      format = format;
      key_version = omega arith;
      rights = omega arith;
      expiry = omega arith;
      grant = omega arith;
      holder = omega arith;
      tag = low_32 f.tag;
      partition = omega (arith, named);
      object = low_64 object;
      range_start = omega arith;
      range_len = omega arith;
    };
  }

  create_read : Cap.is_format f.format ≡ true → drive < DRIVES → reading (spelling create) ≡ Ok (cut create)
  create_read format named = ap reading (sym (spelled_alike create)) ∙ reading-command (cut create) (fits format named)

-- ---- what the lines tell of a command

-- the drives that the line of a command to one names as those of a CREATE
unfoldable pub place : List Drive → Awaited → List ℕ
place ds a = if nat_lt a.drive DRIVES then created_by a.drive (reading (spelling (sealed ds a))) else []

either_list : (b : Bool) (xs ys : List ℕ) → b ≡ true → (if b then xs else ys) ≡ xs
either_list true xs ys e = refl
either_list false xs ys e = absurd (cc e)

-- that of a CREATE names its drive
pub place_create : (ds : List Drive) (f : Kept) (k drive object nonce : ℕ) → Cap.is_format f.format ≡ true
    → drive < DRIVES
    → place ds (sent_to f Creating k drive object nonce) ≡ drive ∷ []
unfolding place
place_create ds f k drive object nonce format named =
    either_list (nat_lt drive DRIVES) _ [] (grind (arith, named, nat_tests))
    ∙ ap (λ (r : Result Command CommandErr). created_by drive r) (create_read ds f k drive object nonce format named)

-- ---- any other command names none

pub numbered : (a : Action) → action_of (from_be_bytes w16 (to_be_bytes w16 (number_of a))) ≡ Some a
numbered Create = refl
numbered Read = refl
numbered Write = refl
numbered GetAttr = refl
numbered SetAttr = refl
numbered SetTag = refl

module _ (d : ℕ) where
  none_of_two : (b : Bool) (x y : Result Command CommandErr) → created_by d x ≡ [] → created_by d y ≡ []
      → created_by d (if b then x else y) ≡ []
  none_of_two true x y p q = p
  none_of_two false x y p q = q

  not_create : (b : Bool) → b ≡ false → (if b then d ∷ [] else []) ≡ []
  not_create true e = absurd (cc e)
  not_create false e = refl

  module _ (bytes : List ℕ) (a : Action) (other : is_create a ≡ false) where
    none_with : (r : Result Capability CapErr) → created_by d (with_capability bytes a r) ≡ []
    unfolding command_at
    none_with (Ok cap) = none_of_two (is_sized bytes a _ _) _ _ (not_create (is_create a) other) refl
    none_with (Err e) = refl

    none_unless : (o : Option ℕ) → created_by d (unless_reserved bytes a o) ≡ []
    none_unless None = none_with (Cap.reading (slice_range bytes 64 160))
    none_unless (Some at) = refl

  none_read : (bytes : List ℕ) (a : Action) → action_of (from_be_bytes w16 (slice_range bytes 4 6)) ≡ Some a
      → is_create a ≡ false → created_by d (reading bytes) ≡ []
  unfolding reading
  none_read bytes a is other =
      none_of_two (nat_lt (length bytes) 256) _ _ refl
      (none_of_two (not (nat_eq (from_be_bytes w32 (slice_range bytes 0 4)) magic)) _ _ refl
      (ap (λ (o : Option Action). created_by d (with_action bytes o)) is ∙ none_unless bytes a other (stray bytes)))

  none_spelled : (c : Command) → is_create c.action ≡ false → created_by d (reading (spelling c)) ≡ []
  unfolding spelling head fields
  none_spelled c other = none_read (spelling c) c.action (numbered c.action) other

none_of : (b : Bool) (xs : List ℕ) → xs ≡ [] → (if b then xs else []) ≡ []
none_of true xs e = e
none_of false xs e = refl

pub place_other : (ds : List Drive) (a : Awaited) → is_create a.command.action ≡ false → place ds a ≡ []
unfolding place
place_other ds a other = none_of (nat_lt a.drive DRIVES) _ (none_spelled a.drive (sealed ds a) other)
