-- Repair: the stripes of the ended grants become codewords of their data with equal replicas.
use Rattle.std.specs.Prelude.{ℕ, Bool, true, false, List, [], ◌∷◌, ◌++◌, ◌==◌, length, if◌then◌else◌}
use Rattle.data_map.specs.Striping.{group_of, parities}
use Rattle.server_rules.specs.State.{Kept, Piece, Heard, Awaited, JobKind, Making, Revoking, Rebuilding, Auditing, Fetches, Stores, Still, Repaired}
use Rattle.server_rules.specs.Maps.{pieces}
use Rattle.server_rules.specs.Standing.{is_short}
use Rattle.server_rules.specs.Grants.{merged, count_stripes}
use Rattle.server_rules.specs.Going.{Going, over, keeping, noting, rests_or}
use Rattle.server_rules.specs.Pieces.{reads, stores, short_with}
use Rattle.server_rules.specs.Audit.{audit_begins}
use Rattle.server_rules.specs.Rebuild.{rebuild_begins}

-- what follows the repair
abbrev pub after_repair : JobKind → Going → Going
after_repair Making g = over g
after_repair Revoking g = over g
after_repair Rebuilding g = rebuild_begins g
after_repair Auditing g = audit_begins g

-- the repair is over
abbrev pub mended : Going → List ℕ → Going
mended g short =
    let h : Going = keeping (noting g (Repaired (count_stripes (merged g.file.kept.ended)) (length short)))
    (record g.file.kept { ended = []; phase = Still })
    in record h {
      effects = record h.effects {
        mended = h.effects.mended
            ++ (record { file = g.file.kept.number; worked = merged g.file.kept.ended; short = short } ∷ []);
      };
    }

-- nothing of the piece is read: its stripe has parity and is short, or the file has neither parity nor mirrors
abbrev pub is_left : Kept → Piece → Bool
is_left f p = if parities f.map == 0 then f.map.mirrors == 0 else is_short f.map f.components (group_of f.map p.stripe)

-- the READs of a piece
unfoldable pub repair_reads : Kept → Piece → (nonce : ℕ) → List Awaited
repair_reads f p nonce = if is_left f p then [] else reads f p nonce

-- the repair goes on with these pieces; these stripes were left short
unfoldable pub repairs : JobKind → Going → List Piece → List ℕ → Going
repairs kind g [] short = after_repair kind (mended g short)
repairs kind g (p ∷ ps) short =
    rests_or (repair_reads g.file.kept p g.effects.nonce) g kind (Fetches (p ∷ ps) (short_with g.file.kept p short))
    (repairs kind g ps (short_with g.file.kept p short))

-- the rows of a piece are read
unfoldable pub storing : JobKind → Going → Piece → List Piece → List ℕ → List Heard → Going
storing kind g p ps short heard =
    rests_or (stores g.file.kept p heard g.effects.nonce) g kind (Stores (p ∷ ps) short false) (repairs kind g ps short)

-- the rows of a piece are written; where a component became missing meanwhile, the piece begins again
abbrev pub stored : JobKind → Going → Piece → List Piece → List ℕ → Bool → Going
stored kind g p ps short true = repairs kind g (p ∷ ps) short
stored kind g p ps short false = repairs kind g ps short

-- a repair begins
unfoldable pub repair_begins : JobKind → Going → Going
repair_begins kind g = repairs kind g (pieces g.file.kept.map.unit (merged g.file.kept.ended)) []
