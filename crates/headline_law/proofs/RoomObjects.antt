-- A step of the server uses one object number at most at each file, besides those of a file that it makes.
-- Towards `CutsHaveRoom` (`specs/Parts.antt`).
use Rattle.std.proofs.Common.{◌≡◌, ◌≤◌, ◌+◌, ℕ, Bool, List, [], ◌∷◌, length, None, arith}
use Rattle.data_map.specs.declared.check.RawMap.{RawMap}
use Rattle.server_rules.specs.declared.limits.TheConstants.{MAX_FILE_COMPONENTS}
use Rattle.server_rules.specs.Files.{Step, begins, at_file}
use Rattle.server_rules.specs.Going.{Going}
use Rattle.server_rules.specs.History.{Input, Makes, step}
use Rattle.server_rules.specs.Jobs.{making, declares}
use Rattle.server_rules.specs.Making.{with_file, makes_file, refusal}
use Rattle.server_rules.specs.Openings.{opens, opens_each}
use Rattle.server_rules.specs.Orders.{offline, declare, declares_each}
use Rattle.server_rules.specs.Replies.{hearing}
use Rattle.server_rules.specs.Requests.{on_request}
use Rattle.history_law.specs.Names.{Server, File}
use Rattle.world_history.specs.ServerNames.{Drive, Effects, ClientRequest}
use Rattle.history_law.specs.Steps.{new_file, StepCases}
use Rattle.history_law.proofs.Steps.{each_step, each_request}
use Rattle.relation_law.proofs.Walk.{Place, JobCases}
use Rattle.headline_law.proofs.PartWalk.{PartCases, part_fence, part_making, part_opens, part_declares, part_hears, part_serves}

-- ---- a part of a job

-- the next object number is n at most, and one more where the part is over
abbrev AtMost : (n : ℕ) → Place → Going → Type 0
AtMost n place g = g.effects.object ≤ n

abbrev pub OneMore : (n : ℕ) → Going → Type 0
OneMore n g = g.effects.object ≤ n + 1

one_more : (n : ℕ) (g : Going) → g.effects.object ≤ n → OneMore n g
one_more n g q = omega (arith, q)

object_cases : (n : ℕ) → JobCases (AtMost n) (OneMore n)
object_cases n = record {
  asks = λ place work c cs kind g q a. one_more n g q;
  aims = λ t g q is. omega (arith, q, is);
  readied = λ g q. one_more n g q;
  rests_behind = λ g q. one_more n g q;
  built = λ m g q. one_more n g q;
  counted = λ t g q. one_more n g q;
  raises = λ g q. q;
  skips = λ p ps g q e. q;
  unchanged = λ p ps heard g q e. q;
  repaired = λ short g q. q;
  begins = λ g q. q;
  passes = λ b m g q. q;
  builds = λ t g q. q;
  loses_it = λ t p ps lacked g q e. q;
  gone = λ t todo g q. q;
  full = λ t todo g q. q;
  zeros = λ t p ps heard g q e. q;
  lengths = λ g q. q;
  counts = λ p ps g q. q;
}

-- so it is where the part begins
abbrev Low : (n : ℕ) → Going → Type 0
Low n g = g.effects.object ≤ n

-- and where it ends
abbrev Within : (n : ℕ) → Effects → Type 0
Within n m = m.object ≤ n + 1

-- the part of a file uses one at most
few_part : (n : ℕ) → PartCases (Low n) (AtMost n) (Within n)
few_part n = record {
  jobs = object_cases n;
  at_any = λ place g q. q;
  out = one_more n;
  ends = λ format g q. q;
  loses = λ cs g q. q;
  lacks = λ cs k g q. q;
  again = λ j a g q. one_more n g q;
  spent = λ g q. q;
  reported = λ k g q. q;
}

-- ---- a step through all files

declared_few : (d : ℕ) (ds : List Drive) (fs : List File) (m : Effects) (chosen : List ℕ) →
    (declares_each d ds fs m chosen).effects.object ≤ m.object + length fs
unfolding declares_each
declared_few d ds [] m chosen = omega arith
declared_few d ds (f ∷ fs) m chosen =
    let g : Going = record { file = f; effects = m; drives = ds; chosen = chosen } in
    let one : OneMore m.object (declares g d) = part_declares (few_part m.object) d g (omega arith) in
    let rest = declared_few d ds fs (declares g d).effects (declares g d).chosen in
    omega (arith, rest, one)

opened_few : (format : ℕ) (ds : List Drive) (fs : List File) (m : Effects) →
    (opens_each format ds fs m).effects.object ≤ m.object + length fs
unfolding opens_each
opened_few format ds [] m = omega arith
opened_few format ds (f ∷ fs) m =
    let g : Going = record { file = f; effects = m; drives = ds; chosen = [] } in
    let one : OneMore m.object (opens format g) = part_opens (few_part m.object) format g (omega arith) in
    let rest = opened_few format ds fs (opens format g).effects in
    omega (arith, rest, one)

-- ---- a step

module _ (s : Server) (chosen : List ℕ) (i : Input) where
  -- no more numbers than there are files, and than a file has components
  abbrev Few : Step → Type 0
  Few t = t.state.next_object ≤ s.next_object + length s.files + MAX_FILE_COMPONENTS + 1

  none_used : s.next_object ≤ s.next_object + length s.files + MAX_FILE_COMPONENTS + 1
  none_used = omega arith

  one_used : (n : ℕ) → n ≤ s.next_object + 1 → n ≤ s.next_object + length s.files + MAX_FILE_COMPONENTS + 1
  one_used n l = omega (arith, l)

  many_used : (n : ℕ) → n ≤ s.next_object + length s.files → n ≤ s.next_object + length s.files + MAX_FILE_COMPONENTS + 1
  many_used n l = omega (arith, l)

  asked : (now : ℕ) (q : ClientRequest) → Few (on_request s now chosen q)
  asked now q = each_request s now chosen q Few (record {
    again = λ kept is. none_used;
    misordered = λ expected is. none_used;
    without = λ new none. none_used;
    served = λ new f found. one_used _
        (part_serves (few_part s.next_object) (at_file s chosen f) (omega arith) s.next_grant s.format now q.client q.args);
  })

  -- a file that is made has few components
  abbrev pub MakesFew : Type 0
  MakesFew =
      (n : ℕ) (m : RawMap) (tag : ℕ) (zoned : Bool) → i ≡ Makes n m tag zoned → refusal s n m zoned ≡ None →
      length (new_file s chosen n m tag zoned).kept.components ≤ MAX_FILE_COMPONENTS

  made : (f : File) → length f.kept.components ≤ MAX_FILE_COMPONENTS → Few (makes_file s f)
  made f few =
      let start : Going = at_file (with_file s f) [] f in
      let one : OneMore (s.next_object + length f.kept.components) (making start) =
      part_making (few_part (s.next_object + length f.kept.components)) start (omega arith) in
      omega (arith, few, one)

  cases : MakesFew → StepCases s chosen i Few
  unfolding declare
  cases few = record {
    rests = none_used;
    asked = λ now q is. asked now q;
    answered = λ x is. one_used _
        (part_hears (few_part s.next_object) (at_file s chosen x.file) x.job x.awaited x.reply
        (hearing x.file.kept x.awaited x.reply) (omega arith));
    recalled = λ f is. none_used;
    refused = λ f is n why. none_used;
    fenced = λ f is kind none low. one_used _
        (part_fence (few_part s.next_object) kind s.format (at_file s chosen f) (omega arith));
    declared = λ d known. many_used _ (declared_few d (offline s.drives d) s.files (begins s) chosen);
    told = λ t now o is result k. k;
    made = λ n m tag zoned is none. made (new_file s chosen n m tag zoned) (few n m tag zoned is none);
    added = λ d is. none_used;
    zoned = λ d zone is. none_used;
    formats = λ n is. none_used;
    resends = λ is. none_used;
    crashes = λ is. none_used;
    opened = λ is low. many_used _ (opened_few s.format s.drives s.files (begins s));
  }

  pub step_uses_few : MakesFew → Few (step s chosen i)
  step_uses_few few = each_step s chosen i Few (cases few)
