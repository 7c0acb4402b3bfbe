-- Positions of a group that have no present replica.
use Rattle.std.proofs.Common.{ℕ, Bool, List, length, nat_lt}
use Rattle.std.specs.Prelude.{filter, is_none}
use Rattle.std.specs.List.{range_with_len}
use Rattle.data_map.specs.declared.check.RawMap.{RawMap}
use Rattle.server_rules.specs.declared.files.Component.{Component}
use Rattle.server_rules.specs.Standing.{replica}

-- one of these positions has none
abbrev pub any_lacking : RawMap → List Component → (position count : ℕ) → Bool
any_lacking m cs p n = nat_lt 0 (length (filter (λ q. is_none (replica m cs q)) (range_with_len p n)))
