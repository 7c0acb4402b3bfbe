use Rattle.std.proofs.Common.{◌≡◌, ap, ◌∙◌, arith, ◌-◌, ◌%◌, ◌<◌, get_or}
use Rattle.gf256.specs.Field.{product}
use Rattle.gf256.specs.declared.tables.TheConstants.{EXPONENTS, POWERS}
use Rattle.gf256.proofs.Computed.{power_at}
use Rattle.gf256.proofs.Laws.{inverse_power, two_to_lt}
use Rattle.gf256.proofs.Inverses.{inverse_only}
use Rattle.gf256.proofs.elements.inverse.Goals as goal

pub returns-clause-undoes : goal.returns-clause-undoes
returns-clause-undoes c =
    ap (product c.args.a) (power_at ((255 - get_or EXPONENTS c.args.a 0) % 255) (omega arith))
    ∙ inverse_power c.args.a (omega arith) (omega arith)

pub returns-clause-value : goal.returns-clause-value
returns-clause-value c =
    let undoes : product c.args.a (get_or POWERS ((255 - get_or EXPONENTS c.args.a 0) % 255) 0) ≡ 1 =
    ap (product c.args.a) (power_at ((255 - get_or EXPONENTS c.args.a 0) % 255) (omega arith))
    ∙ inverse_power c.args.a (omega arith) (omega arith) in
    let byte : get_or POWERS ((255 - get_or EXPONENTS c.args.a 0) % 255) 0 < 256 =
    rw (power_at ((255 - get_or EXPONENTS c.args.a 0) % 255) (omega arith)) (two_to_lt _) in
    inverse_only c.args.a _ (omega arith) byte undoes
