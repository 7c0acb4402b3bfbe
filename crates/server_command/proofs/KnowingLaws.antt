-- The drives that a server knows.
use Rattle.std.proofs.Common.{◌≡◌, ℕ, Bool, true, false, List, [], ◌∷◌, ◌||◌, refl, arith}
use Rattle.std.proofs.lemmas.Bool.Decides.{nat_tests}
use Rattle.std.specs.Prelude.{nat_eq}
use Rattle.std.proofs.lemmas.Bool.{or_parts}
use Rattle.server_rules.specs.declared.server.Drive.{Drive}
use Rattle.layout_server.specs.Adding.{IsNew}
use Rattle.server_command.specs.Drives.{has_number}

pub is_new : (ds : List Drive) (number : ℕ) → has_number ds number ≡ false → IsNew number ds
is_new [] number h = tt
is_new (d ∷ ds) number h =
    let n = or_parts (nat_eq d.number number) (has_number ds number) h in
    (λ e. grind (arith, nat_tests, n.0, e), is_new ds number n.1)
