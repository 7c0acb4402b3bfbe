use Rattle.std.proofs.Common.{sym, ◌∙◌, arith, ◌+◌, ◌%◌, ℕ, get_or}
use Rattle.gf256.specs.declared.tables.TheConstants.{EXPONENTS}
use Rattle.gf256.proofs.Computed.{power_at}
use Rattle.gf256.proofs.Laws.{two_to_mod, product_of_exponents}
use Rattle.gf256.proofs.Product.{zero_product, product_zero}
use Rattle.gf256.proofs.elements.mul.Goals as goal
use Rattle.gf256.proofs.elements.mul.Goals.{then-a-eq0-via-then-a-eq0, then-a-eq0-via-else-a-eq0+then-b-eq0}

pub returns-then-a-eq0 : goal.returns-then-a-eq0
returns-then-a-eq0 c = elim c.then-a-eq0.branch [
  | then-a-eq0-via-then-a-eq0 w ↦ rw w.if-a-eq0.true (sym (zero_product c.args.b))
  | then-a-eq0-via-else-a-eq0+then-b-eq0 w ↦ rw w.if-b-eq0.true (sym (product_zero c.args.a))
]

pub returns : goal.returns
returns c =
    let sum : ℕ = get_or EXPONENTS c.args.a 0 + get_or EXPONENTS c.args.b 0 in
    power_at (sum % 255) (omega arith) ∙ two_to_mod sum
    ∙ sym (product_of_exponents c.args.a c.args.b (omega arith) (omega arith) (omega arith) (omega arith))
