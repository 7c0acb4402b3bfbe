-- What a drive reads in the bytes of a command that was sent.
-- Towards `ComponentsGoOn` (`specs/Steps.antt`).
use Rattle.std.proofs.Common.{◌≡◌, ◌<◌, ◌≤◌, ◌^◌, ◌%◌, ℕ, ◌+◌, ◌-◌, true, false, List, ◌++◌, length, take, drop, Option, Some, None, Result, Ok, Err, nat_eq, nat_lt, min, refl, sym, ap, subst, ◌∙◌, inl, inr, arith}
use Rattle.std.specs.Prelude.{slice_index, slice_range, not, replicate}
use Rattle.std.specs.Int.{w16, w32, w64, to_be_bytes, from_be_bytes}
use Rattle.std.proofs.lemmas.Bool.{and_parts, cases_lt, eqb-true}
use Rattle.std.proofs.Math.Seq.{drop-append-add}
use Rattle.std.proofs.lemmas.Bool.Decides.{nat_tests}
use Rattle.std.proofs.lemmas.List.{drop_at, length-append, length-drop, length-replicate, length-take}
use Rattle.std.proofs.lemmas.Nat.{from_be_bytes-to_be_bytes_8}
use Rattle.osd_lists.proofs.Options.{guard_ok}
use Rattle.osd_capability.specs.declared.layout.Capability.{Capability}
use Rattle.osd_capability.specs.declared.layout.CapErr.{CapErr}
use Rattle.osd_capability.specs.declared.layout.CapErr.TheVariants.{Length as CapLength, Format as CapFormat}
use Rattle.osd_capability.specs.Layout as cap
use Rattle.osd_capability.proofs.LayoutLaws.{length-spelling}
use Rattle.osd_commands.specs.declared.actions.Action.{Action}
use Rattle.osd_commands.specs.declared.actions.Action.TheVariants.{Write}
use Rattle.osd_commands.specs.declared.commands.Command.{Command}
use Rattle.osd_commands.specs.declared.commands.CommandErr.TheVariants.{Short, Magic}
use Rattle.osd_commands.specs.Actions.{action_of}
use Rattle.osd_commands.specs.Commands.{magic, check_len, fields, head, spelling, stray, command_at, with_capability, unless_reserved, with_action, reading}
use Rattle.osd_commands.proofs.Passing.{if_ok}
use Rattle.osd_commands.proofs.Writing.{length-fields, check_len-bounds}
use Rattle.history_law.proofs.Spelled.{command_reads}
use Rattle.history_law.proofs.Carried.{read_spelled}
use Rattle.relation_law.specs.DriveHearing.{IsReadAs}
use Rattle.relation_law.proofs.Hearing.{unreserved}

-- ---- what is read of bytes

-- the command that is read, and that its payload is as long as is stated
pub record IsTaken (bytes : List ℕ) (x : Command) : Type 0 where
  pub action : Action
  pub capability : Capability
  pub is : command_at action capability bytes ≡ x
  pub long : nat_lt (length bytes) 256 ≡ false
  pub stated : nat_eq (from_be_bytes w32 (slice_range bytes 56 60)) (length x.payload) ≡ true

record IsSized (bytes : List ℕ) (x : Command) : Type 0 where
  action : Action
  capability : Capability
  is : command_at action capability bytes ≡ x
  stated : nat_eq (from_be_bytes w32 (slice_range bytes 56 60)) (length x.payload) ≡ true

by_capability : (bytes : List ℕ) (a : Action) (r : Result Capability CapErr) (x : Command) →
    with_capability bytes a r ≡ Ok x → IsSized bytes x
by_capability bytes a (Err e) x is = absurd (cc is)
by_capability bytes a (Ok k) x is =
    let r = if_ok _ _ (command_at a k bytes) x is in
    record {
      action = a;
      capability = k;
      is = r.1;
      stated = subst (λ (y : Command). nat_eq (from_be_bytes w32 (slice_range bytes 56 60)) (length y.payload) ≡ true) r.1
          (and_parts (nat_eq (from_be_bytes w32 (slice_range bytes 56 60)) (length (command_at a k bytes).payload)) _ r.0).0;
    }

by_stray : (bytes : List ℕ) (a : Action) (o : Option ℕ) (x : Command) → unless_reserved bytes a o ≡ Ok x → IsSized bytes x
by_stray bytes a None x is = by_capability bytes a (cap.reading (slice_range bytes 64 160)) x is
by_stray bytes a (Some at) x is = absurd (cc is)

by_action : (bytes : List ℕ) (o : Option Action) (x : Command) → with_action bytes o ≡ Ok x → IsSized bytes x
by_action bytes None x is = absurd (cc is)
by_action bytes (Some a) x is = by_stray bytes a (stray bytes) x is

pub taken : (bytes : List ℕ) (x : Command) → reading bytes ≡ Ok x → IsTaken bytes x
unfolding reading
taken bytes x e =
    let action : Option Action = action_of (from_be_bytes w16 (slice_range bytes 4 6)) in
    let long = guard_ok (nat_lt (length bytes) 256) Short _ x e in
    let ours = guard_ok (not (nat_eq (from_be_bytes w32 (slice_range bytes 0 4)) magic)) Magic (with_action bytes action) x
    long.1 in
    let r = by_action bytes action x ours.1 in
    record { action = r.action; capability = r.capability; is = r.is; long = long.0; stated = r.stated }

payload_at : (bytes : List ℕ) (a : Action) (k : Capability) → (command_at a k bytes).payload ≡ drop 256 bytes
unfolding command_at
payload_at bytes a k = refl

offset_at : (bytes : List ℕ) (a : Action) (k : Capability) →
    (command_at a k bytes).offset ≡ from_be_bytes w64 (slice_range bytes 24 32)
unfolding command_at
offset_at bytes a k = refl

-- ---- the payload

stated_there : (y : Command) → slice_range (spelling y) 56 60 ≡ to_be_bytes w32 (length y.payload)
unfolding spelling head fields
stated_there y = refl

read_32 : (n : ℕ) → from_be_bytes w32 (to_be_bytes w32 n) ≡ n % 2 ^ 32
read_32 n = omega arith

-- what stands behind the head
rest_of : Command → List ℕ
rest_of y = take (check_len y.capability.format) y.check ++ y.payload

spelled_is : (y : Command) → spelling y ≡ head y ++ rest_of y
unfolding spelling rest_of
spelled_is y = refl

head_long : (y : Command) → length (head y) ≡ 256 - check_len y.capability.format
unfolding head
head_long y =
    let size = check_len-bounds y.capability.format in
    let zeros : List ℕ = replicate (96 - check_len y.capability.format) 0 in
    omega (
      arith,
      size.1,
      length-append (fields y) (cap.spelling y.capability ++ zeros),
      length-append (cap.spelling y.capability) zeros,
      length-fields y,
      length-spelling y.capability,
      length-replicate {A = ℕ} (96 - check_len y.capability.format) 0,
    )

-- a difference of at most 32 isn't lost where it stays the same in 32 bits
no_shift : (p t c n : ℕ) → c ≤ 32 → t < c → c ≤ t + p → n ≡ p % 2 ^ 32 → n ≡ (t + p) - c → ⊥
no_shift p t c n small less enough read is = omega (arith, small, less, enough, read, is)

behind_head : (y : Command) → drop 256 (spelling y) ≡ drop (check_len y.capability.format) (rest_of y)
behind_head y =
    let size = check_len-bounds y.capability.format in
    let all : 256 ≡ length (head y) + check_len y.capability.format = omega (arith, size.1, head_long y) in
    ap (drop 256) (spelled_is y) ∙ ap (λ (n : ℕ). drop n (head y ++ rest_of y)) all
    ∙ drop-append-add (head y) (rest_of y) (check_len y.capability.format)

payload_read : (y x : Command) → reading (spelling y) ≡ Ok x → x.payload ≡ y.payload
unfolding rest_of
payload_read y x e =
    let t = taken (spelling y) x e in
    let size : ℕ = check_len y.capability.format in
    let bounds = check_len-bounds y.capability.format in
    let kept : List ℕ = take (check_len y.capability.format) y.check in
    let is : x.payload ≡ drop (check_len y.capability.format) (rest_of y) =
    ap (λ (z : Command). z.payload) (sym t.is) ∙ payload_at (spelling y) t.action t.capability ∙ behind_head y in
    let counts : length kept ≡ min (check_len y.capability.format) (length y.check) =
    length-take (check_len y.capability.format) y.check in
    let whole : length (rest_of y) ≡ length kept + length y.payload = length-append kept y.payload in
    let all : length (spelling y) ≡ length (head y) + length (rest_of y) =
    ap (λ (l : List ℕ). length l) (spelled_is y) ∙ length-append (head y) (rest_of y) in
    let enough : 256 ≤ length (spelling y) = grind (arith, nat_tests, t.long) in
    let read : length x.payload ≡ length y.payload % 2 ^ 32 =
    sym (eqb-true (from_be_bytes w32 (slice_range (spelling y) 56 60)) (length x.payload) t.stated)
    ∙ ap (from_be_bytes w32) (stated_there y) ∙ read_32 (length y.payload) in
    let rest : length x.payload ≡ length (rest_of y) - check_len y.capability.format =
    ap (λ (l : List ℕ). length l) is ∙ length-drop (check_len y.capability.format) (rest_of y) in
    elim (cases_lt (length kept) (check_len y.capability.format)) [
      | inl less ↦ absurd (no_shift (length y.payload) (length kept) (check_len y.capability.format) (length x.payload)
          bounds.1 less (omega (arith, enough, all, whole, head_long y, bounds.1)) read (omega (arith, rest, whole)))
      | inr more ↦ is ∙ drop_at kept y.payload (check_len y.capability.format)
          (omega (arith, more, counts, min_low (check_len y.capability.format) (length y.check)))
    ]
  where
    min_low : (a b : ℕ) → min a b ≤ a
    min_low a b = omega arith

-- ---- the offset

offset_there : (y : Command) → slice_range (spelling y) 24 32 ≡ to_be_bytes w64 y.offset
unfolding spelling head fields
offset_there y = refl

pub offset_read : (y x : Command) → reading (spelling y) ≡ Ok x → y.offset < 2 ^ 64 → x.offset ≡ y.offset
offset_read y x e low =
    let t = taken (spelling y) x e in
    ap (λ (z : Command). z.offset) (sym t.is) ∙ offset_at (spelling y) t.action t.capability
    ∙ ap (from_be_bytes w64) (offset_there y) ∙ from_be_bytes-to_be_bytes_8 y.offset low

-- ---- the format

format_in : (bytes : List ℕ) (c : Capability) → cap.reading bytes ≡ Ok c → c.format ≡ slice_index bytes 0
unfolding cap.reading cap.capability_at
format_in bytes c e =
    let long = guard_ok (not (nat_eq (length bytes) 96)) CapLength _ c e in
    let format = guard_ok (not (cap.is_format (slice_index bytes 0))) CapFormat _ c long.1 in
    ap (λ (y : Capability). y.format) (sym (unreserved (cap.stray bytes) _ c format.1))

first_byte : (c : Capability) → slice_index (cap.spelling c) 0 ≡ c.format
unfolding cap.spelling
first_byte c = refl

format_read : (y x : Command) → reading (spelling y) ≡ Ok x → x.capability.format ≡ y.capability.format
format_read y x e = format_in (cap.spelling y.capability) x.capability (read_spelled y x e) ∙ first_byte y.capability

-- the numbers of a command fit their places, but for those of its bytes
pub record HasRoom (y : Command) : Type 0 where
  pub object : y.object < 2 ^ 64
  pub nonce : y.nonce < 2 ^ 64
  pub offset : y.action ≡ Write → y.offset < 2 ^ 64
  pub tag : y.capability.tag < 2 ^ 32
  pub holder : y.capability.holder < 2 ^ 32

-- so it is read as it was sent
pub read_as : (y x : Command) → HasRoom y → reading (spelling y) ≡ Ok x → IsReadAs y x
read_as y x room e =
    let r = command_reads y x e in
    record {
      action = r.action;
      object = r.object room.object;
      nonce = r.nonce room.nonce;
      payload = payload_read y x e;
      offset = λ write. offset_read y x e (room.offset (sym r.action ∙ write));
      tag = r.tag room.tag;
      holder = r.holder room.holder;
      format = format_read y x e;
    }
