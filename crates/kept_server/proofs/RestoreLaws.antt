-- Records, one after the other.
use Rattle.std.specs.Prelude.{◌<◌}
use Rattle.std.proofs.Common.{◌≡◌, ◌+◌, ℕ, List, [], ◌∷◌, ◌++◌, length, take, get_or, Option, Some, refl, ap, ◌∙◌}
use Rattle.std.proofs.lemmas.List.{take_more}
use Rattle.server_rules.specs.declared.server.Server.{Server}
use Rattle.server_rules.specs.Making.{new_server}
use Rattle.server_entries.specs.declared.record.Record.{Record}
use Rattle.server_entries.specs.Applying.{applied_to, replayed_to}
use Rattle.kept_server.specs.Restoring.{restored}

replayed-more : (s : Option Server) (rs : List Record) (r : Record) →
    replayed_to s (rs ++ r ∷ []) ≡ applied_to (replayed_to s rs) r.entries
replayed-more s [] r = refl
replayed-more s (q ∷ rs) r = replayed-more (applied_to s q.entries) rs r

-- one record more
pub restored_more : (rs : List Record) (i : ℕ) (r : Record) → i < length rs →
    restored (take (i + 1) rs) ≡ applied_to (restored (take i rs)) (get_or rs i r).entries
restored_more rs i r l = ap restored (take_more rs i r l) ∙ replayed-more (Some (new_server [])) (take i rs) (get_or rs i r)
