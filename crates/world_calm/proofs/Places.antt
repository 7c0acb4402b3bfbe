-- The stripe of a row of a group.
use Rattle.std.proofs.Common.{◌≡◌, ℕ, ◌+◌, ◌-◌, ◌*◌, ◌/◌, ◌%◌, sym, ap, ◌∙◌, arith}
use Rattle.std.proofs.Math.Nat.{mul_comm, mul_assoc, add-mul, mod-eq-sub-div-mul, div-mul-le_self}

turned : (q depth groups group : ℕ) → q * depth * groups + group * depth ≡ (q * groups + group) * depth
turned q depth groups group =
    ap (λ x. x + group * depth)
    (mul_assoc q depth groups ∙ ap (λ x. q * x) (mul_comm depth groups) ∙ sym (mul_assoc q groups depth))
    ∙ sym (add-mul (q * groups) group depth)

pub stripe_sum : (row depth groups group : ℕ)
    → (row - row % depth) * groups + group * depth + row % depth
    ≡ ((row / depth) * groups + group) * depth + row % depth
stripe_sum row depth groups group =
    let whole : row - row % depth ≡ row / depth * depth =
    omega (arith, mod-eq-sub-div-mul row depth, div-mul-le_self row depth) in
    ap (λ x. x * groups + group * depth + row % depth) whole
    ∙ ap (λ x. x + row % depth) (turned (row / depth) depth groups group)
