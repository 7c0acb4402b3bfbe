-- What a drive reads in the bytes of a placed command is placed.
use Rattle.std.proofs.Common.{◌≡◌, ◌⊎◌, ◌<◌, ℕ, ◌^◌, false, List, Option, Some, None, Result, Ok, Err, bit_and, length, nat_eq, nat_lt, refl, sym, ap, subst, ◌∙◌}
use Rattle.std.specs.Prelude.{slice_range, not}
use Rattle.std.specs.Int.{w16, w32, w64, to_be_bytes, from_be_bytes}
use Rattle.std.proofs.lemmas.Nat.{from_be_bytes-to_be_bytes_8}
use Rattle.osd_lists.proofs.Options.{guard_ok}
use Rattle.osd_capability.specs.declared.layout.Capability.{Capability}
use Rattle.osd_capability.specs.declared.layout.CapErr.{CapErr}
use Rattle.osd_capability.specs.Layout as cap
use Rattle.osd_commands.specs.declared.actions.Action.{Action}
use Rattle.osd_commands.specs.declared.actions.Action.TheVariants.{Read, Write}
use Rattle.osd_commands.specs.declared.commands.Command.{Command}
use Rattle.osd_commands.specs.declared.commands.CommandErr.TheVariants.{Short, Magic}
use Rattle.osd_commands.specs.Actions.{number_of, action_of, right_of}
use Rattle.osd_commands.specs.Commands.{magic, fields, head, spelling, stray, command_at, with_capability, unless_reserved, with_action, reading}
use Rattle.osd_commands.proofs.Passing.{if_ok}
use Rattle.history_law.proofs.Carried.{fits_read}
use Rattle.history_law.proofs.Creating.{numbered}
use Rattle.exchange_law.specs.Placed.{IsPlaced, SpellsPlaced}
use Rattle.exchange_law.proofs.Commands.{MaySend}

-- ---- where the numbers stand

-- what is read of these bytes
record IsRead (bytes : List ℕ) (c : Command) : Type 0 where
  action : action_of (from_be_bytes w16 (slice_range bytes 4 6)) ≡ Some c.action
  partition : c.partition ≡ from_be_bytes w64 (slice_range bytes 8 16)
  object : c.object ≡ from_be_bytes w64 (slice_range bytes 16 24)
  offset : c.offset ≡ from_be_bytes w64 (slice_range bytes 24 32)
  count : c.length ≡ from_be_bytes w64 (slice_range bytes 32 40)

by_capability : (bytes : List ℕ) (a : Action) (r : Result Capability CapErr) (c : Command)
    → with_capability bytes a r ≡ Ok c → (k : Capability) × (command_at a k bytes ≡ c)
by_capability bytes a (Err e) c is = absurd (cc is)
by_capability bytes a (Ok k) c is = (k, (if_ok _ _ (command_at a k bytes) c is).1)

by_stray : (bytes : List ℕ) (a : Action) (o : Option ℕ) (c : Command) → unless_reserved bytes a o ≡ Ok c
    → (k : Capability) × (command_at a k bytes ≡ c)
by_stray bytes a None c is = by_capability bytes a (cap.reading (slice_range bytes 64 160)) c is
by_stray bytes a (Some at) c is = absurd (cc is)

at_place : (bytes : List ℕ) (a : Action) (k : Capability) (c : Command) → command_at a k bytes ≡ c
    → action_of (from_be_bytes w16 (slice_range bytes 4 6)) ≡ Some a → IsRead bytes c
unfolding command_at
at_place bytes a k c is named = record {
  action = named ∙ ap (λ (x : Command). Some x.action) is;
  partition = ap (λ (x : Command). x.partition) (sym is);
  object = ap (λ (x : Command). x.object) (sym is);
  offset = ap (λ (x : Command). x.offset) (sym is);
  count = ap (λ (x : Command). x.length) (sym is);
}

by_action : (bytes : List ℕ) (o : Option Action) (c : Command)
    → action_of (from_be_bytes w16 (slice_range bytes 4 6)) ≡ o → with_action bytes o ≡ Ok c → IsRead bytes c
by_action bytes None c named is = absurd (cc is)
by_action bytes (Some a) c named is =
    let k = by_stray bytes a (stray bytes) c is in at_place bytes a k.0 c k.1 named

is_read : (bytes : List ℕ) (c : Command) → reading bytes ≡ Ok c → IsRead bytes c
unfolding reading
is_read bytes c is =
    let action : Option Action = action_of (from_be_bytes w16 (slice_range bytes 4 6)) in
    let long = guard_ok (nat_lt (length bytes) 256) Short _ c is in
    let ours = guard_ok (not (nat_eq (from_be_bytes w32 (slice_range bytes 0 4)) magic)) Magic
    (with_action bytes action)
    c long.1 in
    by_action bytes action c refl ours.1

-- ---- of a command that was spelled

record HasNumbers (c : Command) (bytes : List ℕ) : Type 0 where
  action : slice_range bytes 4 6 ≡ to_be_bytes w16 (number_of c.action)
  partition : slice_range bytes 8 16 ≡ to_be_bytes w64 c.partition
  object : slice_range bytes 16 24 ≡ to_be_bytes w64 c.object
  offset : slice_range bytes 24 32 ≡ to_be_bytes w64 c.offset
  count : slice_range bytes 32 40 ≡ to_be_bytes w64 c.length

has_numbers : (c : Command) → HasNumbers c (spelling c)
unfolding spelling head fields
has_numbers c = record { action = refl; partition = refl; object = refl; offset = refl; count = refl }

again : (n m : ℕ) (bytes : List ℕ) → n ≡ from_be_bytes w64 bytes → bytes ≡ to_be_bytes w64 m → m < 2 ^ 64 → n ≡ m
again n m bytes read spelled low = read ∙ ap (from_be_bytes w64) spelled ∙ from_be_bytes-to_be_bytes_8 m low

-- ---- a placed command

pub placed_read : (d : ℕ) (x c : Command) → MaySend d x → reading (spelling x) ≡ Ok c → IsPlaced d c
placed_read d x c s is =
    let r = is_read (spelling x) c is in
    let h = has_numbers x in
    let p = s.placed in
    let capability : c.capability ≡ x.capability = fits_read x c s.capability is in
    let same : c.action ≡ x.action =
    cc (sym r.action ∙ ap (λ (bytes : List ℕ). action_of (from_be_bytes w16 bytes)) h.action ∙ numbered x.action) in
    let fits_partition : x.partition < 2 ^ 64 = rw p.partition s.capability.partition in
    let fits_object : x.object < 2 ^ 64 = rw p.object s.capability.object in
    let partition = again c.partition x.partition _ r.partition h.partition fits_partition in
    let object = again c.object x.object _ r.object h.object fits_object in
    let offset = again c.offset x.offset _ r.offset h.offset s.offset in
    let count = again c.length x.length _ r.count h.count s.length in
    record {
      partition = partition ∙ p.partition ∙ ap (λ (k : Capability). k.partition) (sym capability);
      here = partition ∙ p.here;
      object = object ∙ p.object ∙ ap (λ (k : Capability). k.object) (sym capability);
      action = subst (λ (a : Action). (a ≡ Read) ⊎ (a ≡ Write)) (sym same) p.action;
      right =
          subst (λ (a : Action). nat_eq (bit_and c.capability.rights (right_of a)) 0 ≡ false) (sym same)
          (subst (λ (k : Capability). nat_eq (bit_and k.rights (right_of x.action)) 0 ≡ false) (sym capability)
          p.right);
      first = rw (capability, offset) p.first;
      end = rw (capability, offset, count) p.end;
    }

pub spells_placed : (d : ℕ) (bytes : List ℕ) (x : Command) → bytes ≡ spelling x → MaySend d x → SpellsPlaced d bytes
spells_placed d bytes x spells s = record {
  command = x;
  spells = spells;
  placed = s.placed;
  read = λ c is. placed_read d x c s (ap reading (sym spells) ∙ is);
}
