-- What the writing of a command makes.
use Rattle.std.proofs.Common.{◌≡◌, ℕ, ◌+◌, ◌-◌, ◌≤◌, true, false, cond, eqb, List, ◌++◌, length, take, drop, replicate, refl, sym, ap, ◌∙◌, arith}
use Rattle.std.proofs.Math.Seq.{take-append-add}
use Rattle.std.proofs.lemmas.List.{take_at, drop_at, drop-drop, take-replicate}
use Rattle.osd_capability.specs.Layout as Cap
use Rattle.osd_capability.proofs.LayoutLaws.{length-spelling}
use Rattle.osd_commands.specs.declared.commands.Command.{Command}
use Rattle.osd_commands.specs.Commands.{fields, head, check_len}

pub length-fields : (c : Command) → length (fields c) ≡ 64
unfolding fields
length-fields c = refl

-- a check value has 20 or 32 bytes
pub check_len-bounds : (format : ℕ) → (20 ≤ check_len format) × (check_len format ≤ 32)
check_len-bounds format =
    elim (eqb format 2) as (λ b. (20 ≤ cond b 32 20) × (cond b 32 20 ≤ 32))
    [ true ↦ (omega arith, omega arith) | false ↦ (omega arith, omega arith) ]

-- two fields that are put at the beginning of zeros
pub put_both : (f c : List ℕ) → length f ≡ 64 → length c ≡ 96 →
    take 64 (f ++ replicate 172 0) ++ (c ++ drop 160 (f ++ replicate 172 0)) ≡ f ++ (c ++ replicate 76 0)
put_both f c long_f long_c =
    let rest : drop 160 (f ++ replicate 172 0) ≡ replicate 76 0 =
    sym (drop-drop 96 64 (f ++ replicate 172 0)) ∙ ap (drop 96) (drop_at f (replicate 172 0) 64 long_f) in
    rw (take_at f (replicate 172 0) 64 long_f, rest) refl

-- the bytes before the check value, cut from those of the longest
pub head-cut : (c : Command) →
    take (256 - check_len c.capability.format) (fields c ++ (Cap.spelling c.capability ++ replicate 76 0)) ≡ head c
unfolding head
head-cut c =
    let size = check_len c.capability.format in
    let bounds = check_len-bounds c.capability.format in
    let f : List ℕ = fields c in
    let cap : List ℕ = Cap.spelling c.capability in
    let zeros : List ℕ = replicate 76 0 in
    let outer : 256 - size ≡ length f + (length cap + (96 - size)) =
    omega (arith, length-fields c, length-spelling c.capability) in
    ap (λ (n : ℕ). take n (f ++ (cap ++ zeros))) outer
    ∙ take-append-add f (cap ++ zeros) (length cap + (96 - size))
    ∙ ap (λ (t : List ℕ). f ++ t)
    (take-append-add cap zeros (96 - size) ∙ ap (λ (t : List ℕ). cap ++ t) (take-replicate (96 - size) 76 0 (omega arith)))

-- the check value stands behind the head
pub head-check : (c : Command) (check : List ℕ) → head (record c { check = check }) ≡ head c
unfolding head fields
head-check c check = refl
