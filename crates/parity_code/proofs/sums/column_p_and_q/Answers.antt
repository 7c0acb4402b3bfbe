use Rattle.std.proofs.Common.{◌≡◌, ◌∙◌, ◌-◌, ◌≤◌, ap, sym, refl, get_or, drop, arith, ℕ, length, List}
use Rattle.std.specs.Prelude.{bit_xor}
use Rattle.std.proofs.lemmas.List.{length-map}
use Rattle.parity_code.specs.Parity.{column}
use Rattle.parity_code.proofs.ColumnLaws.{cell}
use Rattle.parity_code.proofs.ParityLaws.{AreBytes, p_next, q_next, bytes_next}
use Rattle.parity_code.proofs.sums.column_p_and_q.Goals as goal

pub loop-i-preserved : goal.loop-i-preserved
loop-i-preserved c =
    let col : List ℕ = column c.args.units.now c.args.k in
    let long : c.loop-i.i ≤ length col = omega (arith, length-map c.args.units.now (λ (row : List ℕ). get_or row c.args.k 0)) in
    let unit : c.byte_at-unit.result ≡ get_or col (c.loop-i.i - 1) 0 =
    c.byte_at-unit.ensures ∙ ap (λ (row : List ℕ). get_or row c.args.k 0) c.index-units-i.is
    ∙ sym (cell c.args.units.now (c.loop-i.i - 1) c.args.k c.index-units-i.result (omega arith)) in
    let bytes : AreBytes (drop (c.loop-i.i - 1) col) =
    bytes_next col c.loop-i.i c.byte_at-unit.result
    (omega arith) long unit c.byte_at-unit.type_inv c.loop-i.invariant.bytes in
    record {
      p = p_next col c.loop-i.i c.byte_at-unit.result c.loop-i.p (bit_xor c.byte_at-unit.result c.loop-i.p)
          (omega arith) long unit c.loop-i.invariant.p refl;
      q = q_next col c.loop-i.i c.byte_at-unit.result c.loop-i.q (bit_xor c.mul.result c.byte_at-unit.result)
          (omega arith) long unit bytes c.loop-i.invariant.q (ap (λ (n : ℕ). bit_xor n c.byte_at-unit.result) c.mul.ensures);
      bytes = bytes;
    }
