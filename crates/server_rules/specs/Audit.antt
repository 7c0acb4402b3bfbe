-- Audit: the lengths of the present components, and then the rows of all stripes.
use Rattle.std.specs.Prelude.{ℕ, List, [], ◌∷◌, ◌+◌, ◌==◌, ◌&&◌, not, nat_lt, nat_le, length, if◌then◌else◌, filter, sum_by, map}
use Rattle.std.specs.Int.{w64, from_be_bytes}
use Rattle.data_map.specs.Striping.{group_of}
use Rattle.server_rules.specs.declared.limits.TheConstants.{MAX_OBJECT_LENGTH}
use Rattle.server_rules.specs.State.{Kept, Piece, Heard, Component, Tally, Measured, Auditing, Lengths, Checks, Audit}
use Rattle.server_rules.specs.Numbers.{among, marked}
use Rattle.server_rules.specs.Maps.{pieces_along}
use Rattle.server_rules.specs.Standing.{is_short}
use Rattle.server_rules.specs.Commands.{Measuring, All, to_all}
use Rattle.server_rules.specs.Pieces.{reads, stores, short_with}
use Rattle.server_rules.specs.Going.{Going, over, noting, rests_or}

-- ---- lengths

-- eight bytes with a length that an object may have, else 0
unfoldable pub length_in : List ℕ → ℕ
length_in bytes =
    if (length bytes == 8) && nat_le (from_be_bytes w64 bytes) MAX_OBJECT_LENGTH then from_be_bytes w64 bytes else 0

-- the lengths that the replies carry
abbrev pub lengths_of : List Heard → List Measured
lengths_of heard = map (λ h. record { component = h.component; length = length_in h.payload }) heard

-- the lengths of the components that are still present, from number k on
unfoldable pub present_lengths : List Measured → List Component → (k : ℕ) → ℕ
present_lengths ms [] k = 0
present_lengths ms (at ∷ cs) k =
    (if at.missing then 0 else sum_by (λ m. m.length) (filter (λ m. m.component == k) ms)) + present_lengths ms cs
    (k + 1)

-- ---- the audit

-- the audit is over: the stripes that were bad and aren't short are bad
abbrev pub audited : Going → Tally → Going
audited g t =
    over (noting g (Audit g.file.kept.high (length t.short) (length (filter (λ s. not (among s t.short)) t.bad))
    (present_lengths t.lengths g.file.kept.components 0)))

-- the tally with the stripe of this piece, where it is short
abbrev pub tallied : Kept → Piece → Tally → Tally
tallied f p t = record t { short = short_with f p t.short }

-- the audit goes on with these pieces
unfoldable pub audits : Going → List Piece → Tally → Going
audits g [] t = audited g t
audits g (p ∷ ps) t =
    rests_or (reads g.file.kept p g.effects.nonce) g Auditing (Checks (p ∷ ps) (tallied g.file.kept p t))
    (audits g ps (tallied g.file.kept p t))

-- the rows of a piece are read
unfoldable pub checked : Kept → Piece → List Heard → Tally → Tally
checked f p heard t =
    if not (is_short f.map f.components (group_of f.map p.stripe)) && nat_lt 0 (length (stores f p heard 0))
    then record t { bad = marked p.stripe t.bad } else t

-- the lengths are read, and the stripes come
abbrev pub audits_all : Going → List Heard → Going
audits_all g heard = audits g (pieces_along g.file.kept.map.unit 0 g.file.kept.high)
    (record { lengths = lengths_of heard; short = []; bad = [] })

-- an audit begins
unfoldable pub audit_begins : Going → Going
audit_begins g = rests_or (to_all g.file.kept All Measuring g.effects.nonce) g Auditing Lengths (audits_all g [])
