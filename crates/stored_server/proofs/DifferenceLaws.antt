-- The map of a file that a journal has.
use Rattle.std.proofs.Common.{◌≡◌, Option, Some, None, refl, ap}
use Rattle.std.specs.Prelude.{Bool, false, not}
use Rattle.std.specs.Option.{option_map}
use Rattle.data_map.specs.declared.check.RawMap.{RawMap}
use Rattle.server_rules.specs.declared.files.File.{File}
use Rattle.server_rules.specs.declared.files.Kept.{Kept}
use Rattle.stored_server.specs.Differences.{has_other_map, is_same_map}

pub other_map : (k : Kept) (has : Option File) (map : RawMap) → Some k ≡ option_map (λ f. f.kept) has
    → not (is_same_map k.map map) ≡ has_other_map has map
other_map k None map is = absurd (cc is)
other_map k (Some f) map is =
    let same : k ≡ f.kept = cc is in ap (λ (x : Kept). not (is_same_map x.map map)) same

pub no_map : (has : Option File) (map : RawMap) → None ≡ option_map (λ (f : File). f.kept) has → false ≡ has_other_map has map
no_map None map is = refl
no_map (Some f) map is = absurd (cc is)
