-- All pieces of stripes that begin inside the longest file may be worked.
use Rattle.std.proofs.Common.{ℕ, zero, suc, ◌+◌, ◌-◌, ◌*◌, ◌/◌, ◌<◌, ◌≤◌, List, [], ◌∷◌, arith}
use Rattle.std.specs.List.{All}
use Rattle.std.proofs.lemmas.List.Elements.{All-nil, All-cons, All-append, All-tail}
use Rattle.data_map.specs.declared.check.TheConstants.{MAX_STRIPE_UNIT}
use Rattle.data_map.specs.declared.ranges.TheConstants.{MAX_FILE_SIZE}
use Rattle.server_rules.specs.declared.grants.Stripes.{Stripes}
use Rattle.server_rules.specs.declared.limits.TheConstants.{MAX_PIECE}
use Rattle.server_rules.specs.Maps.{pieces_from, pieces_along, pieces}
use Rattle.stripe_repair.specs.Pieces.{IsPiece}
use Rattle.stripe_repair.specs.Repairing.{AreInside}

from_column : (unit stripe column n : ℕ) → unit ≤ MAX_STRIPE_UNIT → stripe < MAX_FILE_SIZE →
    n * MAX_PIECE + column < unit + MAX_PIECE → All IsPiece (pieces_from unit stripe column n)
unfolding pieces_from
from_column unit stripe column zero short low few = All-nil IsPiece
from_column unit stripe column (suc n) short low few =
    All-cons IsPiece _ (pieces_from unit stripe (column + MAX_PIECE) n)
    (record { stripe = low; column = omega (arith, few, short); count = omega arith })
    (from_column unit stripe (column + MAX_PIECE) n short low (omega (arith, few)))

pub along_are : (unit stripe n : ℕ) → unit ≤ MAX_STRIPE_UNIT → (0 < n → stripe + n ≤ MAX_FILE_SIZE) →
    All IsPiece (pieces_along unit stripe n)
unfolding pieces_along
along_are unit stripe zero short low = All-nil IsPiece
along_are unit stripe (suc n) short low =
    let end : stripe + suc n ≤ MAX_FILE_SIZE = low (omega arith) in
    All-append IsPiece (pieces_from unit stripe 0 ((unit + (MAX_PIECE - 1)) / MAX_PIECE)) (pieces_along unit (stripe + 1) n)
    (from_column unit stripe 0 ((unit + (MAX_PIECE - 1)) / MAX_PIECE) short (omega (arith, end)) (omega arith))
    (along_are unit (stripe + 1) n short (λ some. omega (arith, end)))

pub ranges_are : (unit : ℕ) (ranges : List Stripes) → unit ≤ MAX_STRIPE_UNIT → AreInside ranges → All IsPiece (pieces unit ranges)
unfolding pieces
ranges_are unit [] short low = All-nil IsPiece
ranges_are unit (r ∷ rs) short low =
    let end : r.end ≤ MAX_FILE_SIZE = low 0 r (omega arith) in
    All-append IsPiece (pieces_along unit r.first (r.end - r.first)) (pieces unit rs)
    (along_are unit r.first (r.end - r.first) short (λ some. omega (arith, end, some)))
    (ranges_are unit rs short (All-tail (λ (x : Stripes). x.end ≤ MAX_FILE_SIZE) r rs low))
