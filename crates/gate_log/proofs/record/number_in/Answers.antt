use Rattle.std.proofs.Common.{ℕ, ap, ◌∙◌, refl}
use Rattle.std.proofs.lemmas.Nat.{be_bytes_4}
use Rattle.std.specs.Int.{w32, to_be_bytes}
use Rattle.gate_log.proofs.record.number_in.Goals as goal

pub returns : goal.returns
returns c = ap (λ (n : ℕ). to_be_bytes w32 n) c.from_be_bytes.ensures
    ∙ be_bytes_4 c.args.bytes.now _ c.told-bytes c.fits-bytes refl
