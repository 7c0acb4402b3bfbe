-- An audit between its messages: what is found of a piece, the pieces that are left, and what was found so far.
use Rattle.std.specs.Prelude.{ℕ, List, [], ◌∷◌, not, nat_lt, length, filter, if◌then◌else◌}
use Rattle.data_map.specs.Striping.{group_of}
use Rattle.server_rules.specs.declared.files.Kept.{Kept}
use Rattle.server_rules.specs.declared.jobs.Piece.{Piece}
use Rattle.server_rules.specs.declared.jobs.Heard.{Heard}
use Rattle.server_rules.specs.declared.jobs.Tally.{Tally}
use Rattle.server_rules.specs.declared.jobs.Measured.{Measured}
use Rattle.server_rules.specs.declared.jobs.Awaited.{Awaited}
use Rattle.server_rules.specs.declared.jobs.JobKind.TheVariants.{Auditing}
use Rattle.server_rules.specs.declared.jobs.Work.TheVariants.{Checks}
use Rattle.server_rules.specs.Numbers.{among, marked}
use Rattle.server_rules.specs.Maps.{pieces_along}
use Rattle.server_rules.specs.Standing.{is_short}
use Rattle.server_rules.specs.Pieces.{reads, stores, short_with}
use Rattle.server_rules.specs.Audit.{audited, lengths_of}
use Rattle.server_rules.specs.Going.{Going, rests_or}
use Rattle.stripe_repair.specs.declared.stripe_state.StripeState.{StripeState}
use Rattle.stripe_repair.specs.declared.stripe_state.StripeState.TheVariants.{Whole, Short, Bad}

-- a piece whose rows were read: short where a position has no present replica, bad where it isn't short and some row
-- isn't the wanted one
unfoldable pub state_of : Kept → Piece → List Heard → StripeState
state_of f p heard =
    if is_short f.map f.components (group_of f.map p.stripe) then Short
    else if nat_lt 0 (length (stores f p heard 0)) then Bad
    else Whole

-- the bad stripes, with that of this piece where it is
abbrev pub bad_by : StripeState → (stripe : ℕ) → List ℕ → List ℕ
bad_by Bad stripe bad = marked stripe bad
bad_by state stripe bad = bad

-- ---- the machine

-- the pieces that are left, the first of which is in work, and what was found so far
pub record AuditState : Type 0 where
  pub todo : List Piece
  pub tally : Tally

-- lengths, short stripes and bad ones
abbrev pub tally_of : List Measured → (short bad : List ℕ) → Tally
tally_of lengths short bad = record { lengths = lengths; short = short; bad = bad }

-- an audit begins: all pieces below high, of components of which these replies told the lengths
abbrev pub audit_of : (unit high : ℕ) → List Heard → AuditState
audit_of unit high heard = record {
  todo = pieces_along unit 0 high;
  tally = record { lengths = lengths_of heard; short = []; bad = [] };
}

-- the audit sends these READs and rests, or is over if there are none
abbrev pub rests_auditing : List Awaited → Going → AuditState → Going
rests_auditing cs g s = rests_or cs g Auditing (Checks s.todo s.tally) (audited g s.tally)

-- the pieces that are left, the stripes found short, and the READs of the first piece
pub record Inspecting : Type 0 where
  pub todo : List Piece
  pub short : List ℕ
  pub reads : List Awaited

abbrev pub inspects_or : List Awaited → List Piece → List ℕ → Inspecting → Inspecting
inspects_or [] todo short later = later
inspects_or (c ∷ cs) todo short later = record { todo = todo; short = short; reads = c ∷ cs }

-- the audit goes past each piece of which there is nothing to read
unfoldable pub inspects : Kept → (nonce : ℕ) → List Piece → List ℕ → Inspecting
inspects f nonce [] short = record { todo = []; short = short; reads = [] }
inspects f nonce (p ∷ ps) short =
    inspects_or (reads f p nonce) (p ∷ ps) (short_with f p short) (inspects f nonce ps (short_with f p short))

-- the stripes that were bad and aren't short
abbrev pub bad_whole : Tally → List ℕ
bad_whole t = filter (λ s. not (among s t.short)) t.bad
