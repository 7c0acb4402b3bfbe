-- The capability that a drive reads in a command's bytes is the one that was spelled.
use Rattle.std.proofs.Common.{◌≡◌, ℕ, ◌-◌, Bool, true, false, List, ◌++◌, length, take, replicate, Option, Some, None, Result, Ok, Err, refl, sym, ap, ◌∙◌, arith, append_assoc, if◌then◌else◌}
use Rattle.std.specs.Prelude.{slice_range, IfOk, nat_lt, nat_eq, not}
use Rattle.std.specs.Int.{w16, w32, from_be_bytes}
use Rattle.std.proofs.lemmas.List.{take_at, drop_at}
use Rattle.osd_lists.specs.Blocks.{IsBytes}
use Rattle.osd_capability.specs.declared.layout.Capability.{Capability}
use Rattle.osd_capability.specs.declared.layout.CapErr.{CapErr}
use Rattle.osd_capability.specs.Layout as cap
use Rattle.osd_capability.proofs.LayoutLaws.{length-spelling, reading-spelling, reading-found}
use Rattle.osd_commands.specs.declared.actions.Action.{Action}
use Rattle.osd_commands.specs.declared.commands.Command.{Command}
use Rattle.osd_commands.specs.declared.commands.CommandErr.{CommandErr}
use Rattle.osd_commands.specs.declared.commands.CommandErr.TheVariants.{Short, Magic}
use Rattle.osd_commands.specs.Actions.{action_of}
use Rattle.osd_commands.specs.Commands.{magic, check_len, fields, head, spelling, stray, command_at, with_capability, unless_reserved, with_action, reading}
use Rattle.osd_commands.proofs.Passing.{if_ok}
use Rattle.osd_commands.proofs.Writing.{length-fields}
use Rattle.client_rules.specs.Commands.{no_capability}

-- ---- where it stands

cut : (bytes before part rest : List ℕ) (a b : ℕ) → bytes ≡ before ++ (part ++ rest) → length before ≡ a
    → length part ≡ b - a → slice_range bytes a b ≡ part
cut bytes before part rest a b e at size = rw (e, drop_at before (part ++ rest) a at) (take_at part rest (b - a) size)

spelled_there : (c : Command) → slice_range (spelling c) 64 160 ≡ cap.spelling c.capability
unfolding spelling head
spelled_there c =
    let zeros : List ℕ = replicate (96 - check_len c.capability.format) 0 in
    let end : List ℕ = take (check_len c.capability.format) c.check ++ c.payload in
    cut (spelling c) (fields c) (cap.spelling c.capability) (zeros ++ end) 64 160
    (append_assoc (fields c) (cap.spelling c.capability ++ zeros) end
    ∙ ap (λ (t : List ℕ). fields c ++ t) (append_assoc (cap.spelling c.capability) zeros end))
    (length-fields c) (length-spelling c.capability)

-- ---- what is read there

by_capability : (bytes : List ℕ) (a : Action) (r : Result Capability CapErr) (c : Command)
    → with_capability bytes a r ≡ Ok c → r ≡ Ok c.capability
unfolding command_at
by_capability bytes a (Err e) c is = absurd (cc is)
by_capability bytes a (Ok x) c is =
    ap (λ (y : Command). Ok y.capability) ((if_ok _ _ (command_at a x bytes) c is).1)

by_stray : (bytes : List ℕ) (a : Action) (o : Option ℕ) (c : Command) → unless_reserved bytes a o ≡ Ok c
    → cap.reading (slice_range bytes 64 160) ≡ Ok c.capability
by_stray bytes a None c is = by_capability bytes a (cap.reading (slice_range bytes 64 160)) c is
by_stray bytes a (Some at) c is = absurd (cc is)

by_action : (bytes : List ℕ) (o : Option Action) (c : Command) → with_action bytes o ≡ Ok c
    → cap.reading (slice_range bytes 64 160) ≡ Ok c.capability
by_action bytes None c is = absurd (cc is)
by_action bytes (Some a) c is = by_stray bytes a (stray bytes) c is

pub unless_either : (b d : Bool) (x y : CommandErr) (r : Result Command CommandErr) (c : Command)
    → (if b then Err x else if d then Err y else r) ≡ Ok c → r ≡ Ok c
unless_either true d x y r c is = absurd (cc is)
unless_either false true x y r c is = absurd (cc is)
unless_either false false x y r c is = is

read_there : (bytes : List ℕ) (c : Command) → reading bytes ≡ Ok c
    → cap.reading (slice_range bytes 64 160) ≡ Ok c.capability
unfolding reading
read_there bytes c is =
    let action : Option Action = action_of (from_be_bytes w16 (slice_range bytes 4 6)) in
    by_action bytes action c
    (unless_either (nat_lt (length bytes) 256) (not (nat_eq (from_be_bytes w32 (slice_range bytes 0 4)) magic)) Short
    Magic
    (with_action bytes action) c is)

-- what is read of a command that was spelled
pub read_spelled : (x c : Command) → reading (spelling x) ≡ Ok c
    → cap.reading (cap.spelling x.capability) ≡ Ok c.capability
read_spelled x c is = ap cap.reading (sym (spelled_there x)) ∙ read_there (spelling x) c is

pub same_read : (a b : Capability) (r : Result Capability CapErr) → r ≡ Ok a → r ≡ Ok b → a ≡ b
same_read a b r is as_well = cc (sym is ∙ as_well)

-- one that fits its place is read again
pub fits_read : (x c : Command) → cap.Fits x.capability → reading (spelling x) ≡ Ok c → c.capability ≡ x.capability
fits_read x c fits is =
    same_read c.capability x.capability (cap.reading (cap.spelling x.capability)) (read_spelled x c is)
    (reading-spelling x.capability fits)

-- one that was read in bytes fits
found_fits : (bytes : List ℕ) (x : Capability) (r : Result Capability CapErr) → r ≡ Ok x
    → IfOk r (λ y. cap.Fits y × (bytes ≡ cap.spelling y)) → cap.Fits x
found_fits bytes x (Ok y) is found = let same : y ≡ x = cc is in rw (← same) found.0
found_fits bytes x (Err e) is found = absurd (cc is)

pub read_again : (bytes : List ℕ) (x c : Command) → IsBytes bytes → cap.reading bytes ≡ Ok x.capability
    → reading (spelling x) ≡ Ok c → cap.reading bytes ≡ Ok c.capability
read_again bytes x c are read is =
    let found = reading-found bytes (cap.reading bytes) are refl in
    let fits = found_fits bytes x.capability (cap.reading bytes) read found in
    read ∙ ap (λ (y : Capability). Ok y) (sym (fits_read x c fits is))

-- that which allows nothing
none_fits : cap.Fits no_capability
none_fits = record {
  format = refl;
  key_version = omega arith;
  rights = omega arith;
  expiry = omega arith;
  grant = omega arith;
  holder = omega arith;
  tag = omega arith;
  partition = omega arith;
  object = omega arith;
  range_start = omega arith;
  range_len = omega arith;
}

pub none_read : (x c : Command) → x.capability ≡ no_capability → reading (spelling x) ≡ Ok c
    → c.capability ≡ no_capability
none_read x c none is = fits_read x c (rw none none_fits) is ∙ none
