-- A crash of the server, and the opening after it.
use Rattle.std.specs.Prelude.{ℕ, Bool, true, false, List, [], ◌∷◌, None, ◌==◌, ◌||◌, not, nat_lt, length, map, if◌then◌else◌}
use Rattle.server_rules.specs.declared.limits.TheConstants.{GREATEST_TAG}
use Rattle.server_rules.specs.State.{Server, File, Kept, Drive, Phase, Still, Effects, Revoking, Spent}
use Rattle.server_rules.specs.Going.{Going, over, noting}
use Rattle.server_rules.specs.Jobs.{making, fence_begins}
use Rattle.server_rules.specs.Files.{Step, still, begins}
use Rattle.server_rules.specs.Rounds.{Round, then_files, step_round}
use Rattle.server_rules.specs.Messages.{counters_have_room}

-- what is kept of a file
abbrev pub crashed_file : File → File
crashed_file f = record f { spent = false; job = None }

-- no job runs; all that is kept stays
abbrev pub crash : Server → Server
crash s = record s { files = map crashed_file s.files }

-- ---- the opening

-- no fence is under way, and no repair
abbrev pub is_still : Phase → Bool
is_still Still = true
is_still phase = false

-- the file has a grant that nothing ended, or a fence that no repair followed
abbrev pub is_unsettled : Kept → Bool
is_unsettled f = nat_lt 0 (length f.grants) || not (is_still f.phase)

-- the file's CREATEs go again if it isn't ready
abbrev pub opens_made : Going → (ready : Bool) → Going
opens_made g true = over g
opens_made g false = making g

-- a fence was refused, since the tag is spent
abbrev pub opens_spent : Going → Going
opens_spent g = noting (record g { file = record g.file { spent = true } }) Spent

-- a fence on its grants
unfoldable pub opens_fenced : (format : ℕ) → Going → Going
opens_fenced format g = if g.file.kept.tag == GREATEST_TAG then opens_spent g else fence_begins Revoking format g

-- a file is opened
unfoldable pub opens : (format : ℕ) → Going → Going
opens format g = if is_unsettled g.file.kept then opens_fenced format g else opens_made g g.file.kept.ready

-- each file in order
unfoldable pub opens_each : (format : ℕ) → List Drive → List File → Effects → Round
opens_each format ds [] m = record { files = []; effects = m; chosen = [] }
opens_each format ds (f ∷ fs) m =
    let g : Going = opens format (record { file = f; effects = m; drives = ds; chosen = [] })
    in then_files g (opens_each format ds fs g.effects)

-- a server that crashed is opened
unfoldable pub reopen : Server → Step
reopen s = if counters_have_room s then step_round s (opens_each s.format s.drives s.files (begins s)) else still s
