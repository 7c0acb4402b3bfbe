-- What is read is spelled so, and what is spelled so is read.
use Rattle.std.proofs.Common.{◌≡◌, ℕ, ◌+◌, ◌-◌, ◌≤◌, true, cond, eqb, List, [], ◌++◌, length, get_or, take, drop, replicate, Option, None, Some, Result, Ok, Err, refl, sym, ap, subst, ◌∙◌, arith, ◌⊎◌, inl, inr, append_assoc}
use Rattle.std.specs.Prelude.{IfOk, IsTrue, slice_range}
use Rattle.std.specs.Int.{w16, w32, w64, to_be_bytes, from_be_bytes}
use Rattle.std.proofs.lemmas.Bool.{eqb-true, eq-eqb, ltb-false, le-ltb, and_parts}
use Rattle.std.proofs.lemmas.Bool.Decides.{eqb_tells}
use Rattle.std.proofs.lemmas.List.{nil_from_length, take_at, drop_at, drop-drop, length-append, length-replicate, length-take, take-append-drop, get_or-take, get_or-drop}
use Rattle.std.proofs.lemmas.Nat.{from_be_bytes-to_be_bytes_4, from_be_bytes-to_be_bytes_8}
use Rattle.osd_lists.specs.Blocks.{first_nonzero, IsBytes}
use Rattle.osd_lists.proofs.BlockLaws.{next, joined, zeros, first_nonzero-zeros, option_or-none, IsBytes-range, length-range, number_16, number_32, number_64, below_32, below_64}
use Rattle.osd_lists.proofs.Options.{guard_ok}
use Rattle.osd_lists.proofs.Tests.{not_false}
use Rattle.osd_capability.specs.declared.layout.Capability.{Capability}
use Rattle.osd_capability.specs.declared.layout.CapErr.{CapErr}
use Rattle.osd_capability.specs.Layout as Cap
use Rattle.osd_capability.proofs.LayoutLaws.{length-spelling, spelling-format, reading-spelling}
use Rattle.osd_capability.proofs.LayoutLaws.{reading-found as capability-found}
use Rattle.osd_commands.specs.declared.actions.Action.{Action}
use Rattle.osd_commands.specs.declared.actions.Action.TheVariants.{Create, Read, Write, GetAttr, SetAttr, SetTag}
use Rattle.osd_commands.specs.declared.commands.Command.{Command}
use Rattle.osd_commands.specs.declared.commands.CommandErr.{CommandErr}
use Rattle.osd_commands.specs.Actions.{number_of, action_of}
use Rattle.osd_commands.specs.Commands.{magic, check_len, fields, head, spelling, stray, allows, command_at, sized, with_capability, unless_reserved, with_action, reading, ReadsAs, IsCheck, Fits}
use Rattle.osd_commands.proofs.Passing.{if_ok, same_length}
use Rattle.osd_commands.proofs.Writing.{length-fields, check_len-bounds}

-- ---- what an answer shows, test by test

action_ok : (bytes : List ℕ) (o : Option Action) (c : Command) → with_action bytes o ≡ Ok c →
    (a : Action) × ((o ≡ Some a) × (unless_reserved bytes a (stray bytes) ≡ Ok c))
action_ok bytes (Some a) c e = (a, (refl, e))
action_ok bytes None c e = absurd cc

reserved_ok : (bytes : List ℕ) (a : Action) (o : Option ℕ) (c : Command) → unless_reserved bytes a o ≡ Ok c →
    (o ≡ None) × (with_capability bytes a (Cap.reading (slice_range bytes 64 160)) ≡ Ok c)
reserved_ok bytes a None c e = (refl, e)
reserved_ok bytes a (Some at) c e = absurd cc

capability_ok : (bytes : List ℕ) (a : Action) (r : Result Capability CapErr) (c : Command) → with_capability bytes a r ≡ Ok c →
    (cap : Capability) × ((r ≡ Ok cap) × (sized bytes (command_at a cap bytes) ≡ Ok c))
capability_ok bytes a (Ok cap) c e = (cap, (refl, e))
capability_ok bytes a (Err f) c e = absurd cc

-- a number that is an action's
one_of : (n k : ℕ) (x a : Action) (rest : Option Action) → number_of x ≡ k → cond (eqb n k) (Some x) rest ≡ Some a →
    (n ≡ number_of a) ⊎ (rest ≡ Some a)
one_of n k x a rest numbered e =
    elim (eqb_tells n k) [
      | inl p ↦ let same : x ≡ a = let found = rw p.0 at e in cc in inl (p.1 ∙ sym numbered ∙ ap number_of same)
      | inr p ↦ inr (rw p.0 at e)
    ]

number_of-action : (n : ℕ) (a : Action) → action_of n ≡ Some a → n ≡ number_of a
number_of-action n a e =
    elim (one_of n 1 Create a _ refl e) [
      | inl p ↦ p
      | inr e2 ↦ elim (one_of n 2 Read a _ refl e2) [
        | inl p ↦ p
        | inr e3 ↦ elim (one_of n 3 Write a _ refl e3) [
          | inl p ↦ p
          | inr e4 ↦ elim (one_of n 4 GetAttr a _ refl e4) [
            | inl p ↦ p
            | inr e5 ↦ elim (one_of n 5 SetAttr a _ refl e5) [
              | inl p ↦ p
              | inr e6 ↦ elim (one_of n 6 SetTag a _ refl e6) [ inl p ↦ p | inr e7 ↦ absurd cc ]
            ]
          ]
        ]
      ]
    ]

-- ---- what is read

record IsRead (bytes : List ℕ) (a : Action) (cap : Capability) : Type 0 where
  pub long : 256 ≤ length bytes
  pub start : from_be_bytes w32 (slice_range bytes 0 4) ≡ magic
  pub action : from_be_bytes w16 (slice_range bytes 4 6) ≡ number_of a
  pub zeros_6 : slice_range bytes 6 8 ≡ replicate 2 0
  pub zeros_52 : slice_range bytes 52 56 ≡ replicate 4 0
  pub zeros_60 : slice_range bytes 60 64 ≡ replicate 4 0
  pub zeros_160 : slice_range bytes 160 (256 - check_len cap.format) ≡ replicate (96 - check_len cap.format) 0
  pub capability : Cap.Fits cap × (slice_range bytes 64 160 ≡ Cap.spelling cap)
  pub stated : from_be_bytes w32 (slice_range bytes 56 60) ≡ length (drop 256 bytes)
  pub allowed : IsTrue (allows a (from_be_bytes w64 (slice_range bytes 32 40)) (length (drop 256 bytes)))

found_cap : (bytes : List ℕ) (r : Result Capability CapErr) (cap : Capability) →
    IfOk r (λ c. Cap.Fits c × (bytes ≡ Cap.spelling c)) → r ≡ Ok cap → Cap.Fits cap × (bytes ≡ Cap.spelling cap)
found_cap bytes (Ok c) cap h e = let same : c ≡ cap = cc in rw (← same) h
found_cap bytes (Err f) cap h e = absurd cc

format_at : (bytes : List ℕ) (cap : Capability) → slice_range bytes 64 160 ≡ Cap.spelling cap → get_or bytes 64 0 ≡ cap.format
format_at bytes cap e =
    let here : get_or (slice_range bytes 64 160) 0 0 ≡ get_or bytes 64 0 =
    get_or-take 96 (drop 64 bytes) 0 0 (omega arith) ∙ get_or-drop 64 bytes 0 0 in
    sym here ∙ ap (λ (t : List ℕ). get_or t 0 0) e ∙ spelling-format cap

read_ok : (bytes : List ℕ) (c : Command) → IsBytes bytes → reading bytes ≡ Ok c →
    (a : Action) × ((cap : Capability) × (IsRead bytes a cap × (command_at a cap bytes ≡ c)))
unfolding reading stray command_at
read_ok bytes c fits e =
    let one = guard_ok _ _ _ c e in
    let two = guard_ok _ _ _ c one.1 in
    let three = action_ok bytes _ c two.1 in
    let a = three.0 in
    let four = reserved_ok bytes a (stray bytes) c three.1.1 in
    let five = capability_ok bytes a _ c four.1 in
    let cap = five.0 in
    let six = if_ok _ _ (command_at a cap bytes) c five.1.1 in
    let long : 256 ≤ length bytes = ltb-false _ _ one.0 in
    let tests = and_parts _ _ six.0 in
    let last = option_or-none _ (first_nonzero bytes 160 (256 - check_len (get_or bytes 64 0))) four.0 in
    let third = option_or-none _ (first_nonzero bytes 60 64) last.0 in
    let second = option_or-none (first_nonzero bytes 6 8) (first_nonzero bytes 52 56) third.0 in
    let capability =
    found_cap _ _ cap
    (capability-found (slice_range bytes 64 160) (Cap.reading (slice_range bytes 64 160))
    (IsBytes-range bytes 64 160 fits) refl) five.1.0 in
    let format = format_at bytes cap capability.1 in
    let bounds = check_len-bounds cap.format in
    let end : first_nonzero bytes 160 (256 - check_len cap.format) ≡ None = rw (← format) last.1 in
    let width : 256 - check_len cap.format - 160 ≡ 96 - check_len cap.format = omega arith in (
      a,
      (
        cap,
        (
          record {
            long = long;
            start = eqb-true _ _ (not_false _ two.0);
            action = number_of-action _ a three.1.0;
            zeros_6 = zeros bytes 6 8 (omega arith) (omega arith) second.0;
            zeros_52 = zeros bytes 52 56 (omega arith) (omega arith) second.1;
            zeros_60 = zeros bytes 60 64 (omega arith) (omega arith) third.1;
            zeros_160 = zeros bytes 160 (256 - check_len cap.format) (omega arith) (omega arith) end
                ∙ ap (λ (n : ℕ). replicate n 0) width;
            capability = capability;
            stated = eqb-true _ _ tests.0;
            allowed = tests.1;
          },
          six.1,
        ),
      ),
    )

fields_read : (bytes : List ℕ) (a : Action) (cap : Capability) → IsBytes bytes → IsRead bytes a cap →
    fields (command_at a cap bytes) ≡ slice_range bytes 0 64
unfolding fields command_at
fields_read bytes a cap fits h =
    let long = h.long in
    let start : to_be_bytes w32 magic ≡ slice_range bytes 0 4 =
    ap (to_be_bytes w32) (sym h.start) ∙ number_32 bytes 0 4 fits refl (omega arith) in
    let action : to_be_bytes w16 (number_of a) ≡ slice_range bytes 4 6 =
    ap (to_be_bytes w16) (sym h.action) ∙ number_16 bytes 4 6 fits refl (omega arith) in
    let stated : to_be_bytes w32 (length (drop 256 bytes)) ≡ slice_range bytes 56 60 =
    ap (to_be_bytes w32) (sym h.stated) ∙ number_32 bytes 56 60 fits refl (omega arith) in
    joined bytes 0 4 64 _ _ (omega arith) (omega arith) start
    (joined bytes 4 6 64 _ _ (omega arith) (omega arith) action
    (joined bytes 6 8 64 _ _ (omega arith) (omega arith) (sym h.zeros_6)
    (joined bytes 8 16 64 _ _ (omega arith) (omega arith) (number_64 bytes 8 16 fits refl (omega arith))
    (joined bytes 16 24 64 _ _ (omega arith) (omega arith) (number_64 bytes 16 24 fits refl (omega arith))
    (joined bytes 24 32 64 _ _ (omega arith) (omega arith) (number_64 bytes 24 32 fits refl (omega arith))
    (joined bytes 32 40 64 _ _ (omega arith) (omega arith) (number_64 bytes 32 40 fits refl (omega arith))
    (joined bytes 40 48 64 _ _ (omega arith) (omega arith) (number_64 bytes 40 48 fits refl (omega arith))
    (joined bytes 48 52 64 _ _ (omega arith) (omega arith) (number_32 bytes 48 52 fits refl (omega arith))
    (joined bytes 52 56 64 _ _ (omega arith) (omega arith) (sym h.zeros_52)
    (joined bytes 56 60 64 _ _ (omega arith) (omega arith) stated (sym h.zeros_60)))))))))))

-- the check value of a format, cut from the place of 32 bytes
check_cut : (bytes : List ℕ) (size : ℕ) → 256 ≤ length bytes → size ≤ 32 →
    take size (slice_range bytes (256 - size) 256 ++ replicate (32 - size) 0) ≡ slice_range bytes (256 - size) 256
check_cut bytes size long within =
    take_at (slice_range bytes (256 - size) 256) (replicate (32 - size) 0) size
    (length-range bytes (256 - size) 256 (omega arith) long ∙ omega arith)

spelled : (bytes : List ℕ) (a : Action) (cap : Capability) → IsBytes bytes → IsRead bytes a cap →
    spelling (command_at a cap bytes) ≡ bytes
unfolding spelling head command_at
spelled bytes a cap fits h =
    let size = check_len cap.format in
    let bounds = check_len-bounds cap.format in
    let long = h.long in
    let front = fields_read bytes a cap fits h in
    let inner = joined bytes 64 160 (256 - size) _ _ (omega arith) (omega arith) (sym h.capability.1) (sym h.zeros_160) in
    let start = joined bytes 0 64 (256 - size) _ _ (omega arith) (omega arith) front inner in
    let end = next bytes (256 - size) 256 _ (drop 256 bytes) (omega arith) (check_cut bytes size long bounds.1) refl in
    next bytes 0 (256 - size) _ _ (omega arith) start end

fits_at : (bytes : List ℕ) (a : Action) (cap : Capability) → IsBytes bytes → IsRead bytes a cap → Fits (command_at a cap bytes)
unfolding command_at
fits_at bytes a cap fits h =
    let size = check_len cap.format in
    let bounds = check_len-bounds cap.format in
    let long = h.long in
    let part : length (slice_range bytes (256 - size) 256) ≡ size =
    length-range bytes (256 - size) 256 (omega arith) long ∙ omega arith in
    record {
      whole = record {
        format = h.capability.0.format;
        check = record {
          long = length-append (slice_range bytes (256 - size) 256) (replicate (32 - size) 0)
              ∙ omega (arith, part, length-replicate {A = ℕ} (32 - size) 0);
          zeros = drop_at (slice_range bytes (256 - size) 256) (replicate (32 - size) 0) size part;
        };
        allowed = h.allowed;
        payload = rw (← h.stated) (below_32 _ (IsBytes-range bytes 56 60 fits));
      };
      numbers = record {
        partition = below_64 _ (IsBytes-range bytes 8 16 fits);
        object = below_64 _ (IsBytes-range bytes 16 24 fits);
        offset = below_64 _ (IsBytes-range bytes 24 32 fits);
        length = below_64 _ (IsBytes-range bytes 32 40 fits);
        nonce = below_64 _ (IsBytes-range bytes 40 48 fits);
        attribute = below_32 _ (IsBytes-range bytes 48 52 fits);
      };
      capability = h.capability.0;
    }

reading-found : (bytes : List ℕ) (c : Command) → IsBytes bytes → reading bytes ≡ Ok c → Fits c × (bytes ≡ spelling c)
reading-found bytes c fits e =
    let h = read_ok bytes c fits e in
    rw (← h.1.1.1) (fits_at bytes h.0 h.1.0 fits h.1.1.0, sym (spelled bytes h.0 h.1.0 fits h.1.1.0))

-- ---- what is spelled so

record HasParts (c : Command) (bytes : List ℕ) : Type 0 where
  pub long : length bytes ≡ 256 + length c.payload
  pub start : slice_range bytes 0 4 ≡ to_be_bytes w32 magic
  pub action : slice_range bytes 4 6 ≡ to_be_bytes w16 (number_of c.action)
  pub zeros_6 : slice_range bytes 6 8 ≡ replicate 2 0
  pub partition : slice_range bytes 8 16 ≡ to_be_bytes w64 c.partition
  pub object : slice_range bytes 16 24 ≡ to_be_bytes w64 c.object
  pub offset : slice_range bytes 24 32 ≡ to_be_bytes w64 c.offset
  pub count : slice_range bytes 32 40 ≡ to_be_bytes w64 c.length
  pub nonce : slice_range bytes 40 48 ≡ to_be_bytes w64 c.nonce
  pub attribute : slice_range bytes 48 52 ≡ to_be_bytes w32 c.attribute
  pub zeros_52 : slice_range bytes 52 56 ≡ replicate 4 0
  pub stated : slice_range bytes 56 60 ≡ to_be_bytes w32 (length c.payload)
  pub zeros_60 : slice_range bytes 60 64 ≡ replicate 4 0
  pub capability : slice_range bytes 64 160 ≡ Cap.spelling c.capability
  pub zeros_160 : slice_range bytes 160 (256 - check_len c.capability.format) ≡ replicate (96 - check_len c.capability.format) 0
  pub check : slice_range bytes (256 - check_len c.capability.format) 256 ≡ take (check_len c.capability.format) c.check
  pub payload : drop 256 bytes ≡ c.payload

-- a part of a list that stands behind another part
cut : (bytes before part rest : List ℕ) (a b : ℕ) → bytes ≡ before ++ (part ++ rest) → length before ≡ a → length part ≡ b - a →
    slice_range bytes a b ≡ part
cut bytes before part rest a b e at size = rw (e, drop_at before (part ++ rest) a at) (take_at part rest (b - a) size)

drop_twice : (xs : List ℕ) (m n k : ℕ) → m + n ≡ k → drop k xs ≡ drop n (drop m xs)
drop_twice xs m n k e = ap (λ (i : ℕ). drop i xs) (sym e) ∙ sym (drop-drop n m xs)

has_parts : (c : Command) → IsCheck c.capability.format c.check → HasParts c (spelling c)
unfolding spelling head fields
has_parts c check =
    let size = check_len c.capability.format in
    let bounds = check_len-bounds c.capability.format in
    let front : List ℕ = fields c in
    let cap : List ℕ = Cap.spelling c.capability in
    let zeros : List ℕ = replicate (96 - size) 0 in
    let value : List ℕ = take size c.check in
    let end : List ℕ = value ++ c.payload in
    let in_parts : spelling c ≡ front ++ (cap ++ (zeros ++ end)) =
    append_assoc front (cap ++ zeros) end ∙ ap (λ (t : List ℕ). front ++ t) (append_assoc cap zeros end) in
    let long_front : length front ≡ 64 = length-fields c in
    let long_cap : length cap ≡ 96 = length-spelling c.capability in
    let long_zeros : length zeros ≡ 96 - size = length-replicate (96 - size) 0 in
    let long_value : length value ≡ size = omega (arith, length-take size c.check, check.long) in
    let behind_cap : length (front ++ cap) ≡ 160 = omega (arith, length-append front cap) in
    let behind_zeros : length (front ++ (cap ++ zeros)) ≡ 256 - size =
    omega (arith, length-append front (cap ++ zeros), length-append cap zeros) in
    let to_zeros : spelling c ≡ (front ++ cap) ++ (zeros ++ end) = in_parts ∙ sym (append_assoc front cap (zeros ++ end)) in
    let to_value : spelling c ≡ (front ++ (cap ++ zeros)) ++ (value ++ c.payload) = refl in
    let rest : drop (256 - size) (spelling c) ≡ end = drop_at (front ++ (cap ++ zeros)) end (256 - size) behind_zeros in
    let whole : (256 - size) + size ≡ 256 = omega arith in
    record {
      long = length-append (front ++ (cap ++ zeros)) end ∙ omega (arith, length-append value c.payload);
      start = refl;
      action = refl;
      zeros_6 = refl;
      partition = refl;
      object = refl;
      offset = refl;
      count = refl;
      nonce = refl;
      attribute = refl;
      zeros_52 = refl;
      stated = refl;
      zeros_60 = refl;
      capability = cut (spelling c) front cap (zeros ++ end) 64 160 in_parts long_front long_cap;
      zeros_160 = cut (spelling c) (front ++ cap) zeros end 160 (256 - size) to_zeros behind_cap (omega arith);
      check = cut (spelling c) (front ++ (cap ++ zeros)) value c.payload (256 - size) 256 to_value behind_zeros (omega arith);
      payload = drop_twice (spelling c) (256 - size) size 256 whole ∙ ap (drop size) rest
          ∙ drop_at value c.payload size long_value;
    }

action_of-number : (a : Action) → action_of (from_be_bytes w16 (to_be_bytes w16 (number_of a))) ≡ Some a
action_of-number Create = refl
action_of-number Read = refl
action_of-number Write = refl
action_of-number GetAttr = refl
action_of-number SetAttr = refl
action_of-number SetTag = refl

no_stray : (c : Command) (bytes : List ℕ) → HasParts c bytes → stray bytes ≡ None
unfolding stray
no_stray c bytes h =
    let size = check_len c.capability.format in
    let format = format_at bytes c.capability h.capability in
    let first = first_nonzero-zeros bytes 6 8 2 h.zeros_6 in
    let second = first_nonzero-zeros bytes 52 56 4 h.zeros_52 in
    let third = first_nonzero-zeros bytes 60 64 4 h.zeros_60 in
    let last = first_nonzero-zeros bytes 160 (256 - size) (96 - size) h.zeros_160 in
    rw (first, second, third, format, last) refl

at_parts : (c : Command) (bytes : List ℕ) → Fits c → HasParts c bytes → command_at c.action c.capability bytes ≡ c
unfolding command_at
at_parts c bytes fits h =
    let size = check_len c.capability.format in
    let n = fits.numbers in
    let check : take size c.check ++ replicate (32 - size) 0 ≡ c.check =
    rw (← fits.whole.check.zeros) (take-append-drop size c.check) in
    rw (
      h.partition,
      from_be_bytes-to_be_bytes_8 c.partition n.partition,
      h.object,
      from_be_bytes-to_be_bytes_8 c.object n.object,
      h.offset,
      from_be_bytes-to_be_bytes_8 c.offset n.offset,
      h.count,
      from_be_bytes-to_be_bytes_8 c.length n.length,
      h.nonce,
      from_be_bytes-to_be_bytes_8 c.nonce n.nonce,
      h.attribute,
      from_be_bytes-to_be_bytes_4 c.attribute n.attribute,
      h.payload,
      h.check,
      check,
    ) refl

sized_parts : (c : Command) (bytes : List ℕ) → Fits c → HasParts c bytes → sized bytes c ≡ Ok c
sized_parts c bytes fits h =
    rw (
      h.stated,
      from_be_bytes-to_be_bytes_4 (length c.payload) fits.whole.payload,
      eq-eqb (length c.payload) (length c.payload) refl,
      fits.whole.allowed,
    ) refl

-- what is spelled so is read
pub reading-command : (c : Command) → Fits c → reading (spelling c) ≡ Ok c
unfolding reading
reading-command c fits =
    let bytes : List ℕ = spelling c in
    let h = has_parts c fits.whole.check in
    let long : 256 ≤ length bytes = omega (arith, h.long) in
    let start : eqb (from_be_bytes w32 (slice_range bytes 0 4)) magic ≡ true = rw h.start refl in
    let action : action_of (from_be_bytes w16 (slice_range bytes 4 6)) ≡ Some c.action =
    rw h.action (action_of-number c.action) in
    let capability : Cap.reading (slice_range bytes 64 160) ≡ Ok c.capability =
    rw h.capability (reading-spelling c.capability fits.capability) in
    rw (le-ltb (length bytes) 256 long, start, action, no_stray c bytes h, capability, at_parts c bytes fits h)
    (sized_parts c bytes fits h)

-- ---- answers, which may also be that there is no memory

pub answer-found : (bytes : List ℕ) (r : Result Command CommandErr) → IsBytes bytes → ReadsAs r (reading bytes) →
    IfOk r (λ c. Fits c × (bytes ≡ spelling c))
answer-found bytes (Ok c) fits e = reading-found bytes c fits e
answer-found bytes (Err f) fits e = tt

pub answer-only : (bytes : List ℕ) (r : Result Command CommandErr) (c : Command) → ReadsAs r (reading bytes) → Fits c →
    bytes ≡ spelling c → ReadsAs r (Ok c)
answer-only bytes r c answer fits e =
    subst (λ (whole : Result Command CommandErr). ReadsAs r whole) (ap reading e ∙ reading-command c fits) answer

-- no command's bytes begin another's
spelling-alone : (bytes rest : List ℕ) (c d : Command) → Fits c → bytes ≡ spelling c → Fits d → spelling d ≡ bytes ++ rest →
    rest ≡ []
spelling-alone bytes rest c d fits_c e fits_d longer =
    let one : HasParts c bytes = rw e (has_parts c fits_c.whole.check) in
    let two : HasParts d (bytes ++ rest) = rw (← longer) (has_parts d fits_d.whole.check) in
    let same : length c.payload ≡ length d.payload =
    same_length bytes rest 56 60 (length c.payload) (length d.payload) (omega arith)
    (omega (arith, one.long)) fits_c.whole.payload fits_d.whole.payload one.stated two.stated in
    nil_from_length rest (omega (arith, one.long, two.long, length-append bytes rest, same))

pub answer-alone : (bytes : List ℕ) (x : Result Command CommandErr) → IsBytes bytes → ReadsAs x (reading bytes) →
    IfOk x (λ c. (d : Command) (rest : List ℕ) → Fits d → spelling d ≡ bytes ++ rest → rest ≡ [])
answer-alone bytes (Ok c) fits e = λ d rest fits_d longer. let h = reading-found bytes c fits e in
    spelling-alone bytes rest c d h.0 h.1 fits_d longer
answer-alone bytes (Err f) fits e = tt
