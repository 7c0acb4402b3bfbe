-- What the command of a client leaves, and why it stops.
use Rattle.std.specs.Prelude.{◌≡◌, ◌⊎◌, ◌<◌, ℕ, List, [], length, take, Option, Some, None}
use Rattle.std.specs.Io.KnownBytes.{Appends}
use Rattle.osd_bytes.specs.Causes.{Rose}
use Rattle.osd_bytes.specs.Connections.{Standing}
use Rattle.cluster_text.specs.declared.cluster.Cluster.{Cluster}
use Rattle.cluster_text.specs.Inputs.{IsTooLong}
use Rattle.cluster_text.specs.Lines.{PutsLine, stop_line}
use Rattle.cluster_text.specs.declared.stop.CommandStop.{CommandStop}
use Rattle.cluster_text.specs.declared.stop.CommandStop.TheVariants.{BadCluster, ReadFault, WriteFault, Memory}
use Rattle.cluster_text.specs.declared.stop.CommandStop.TheVariants.{Full, LinkFault}
use Rattle.command_words.specs.declared.words.ClientWords.{ClientWords}
use Rattle.cluster_text.specs.Outside.{Streams}
use Rattle.cluster_text.specs.Peers.{IsSettled}
use Rattle.client_command.specs.declared.work_ends.ClientEnd.{ClientEnd}
use Rattle.client_command.specs.declared.work_ends.Report.{Report}
use Rattle.client_command.specs.Inputs.{GivesWork, RefusesText}
use Rattle.client_command.specs.OnLinks.{OnLinks}
use Rattle.client_command.specs.Reports.{CutsWork, Reports}

-- ---- a report that is told

-- all of its text went out, and it ended so
pub record ToldAll (report : Report) (before now : Option (List ℕ)) (end : ClientEnd) : Type 0 where
  pub told : Appends before now report.text
  pub how : report.end ≡ Some end

-- all of its text went out, and the server's answer hadn't come
pub record ToldLoss (report : Report) (before now : Option (List ℕ)) : Type 0 where
  pub told : Appends before now report.text
  pub lost : report.end ≡ None

-- a part of its text went out, from the front, before the sink failed
pub record ToldPart (report : Report) (before now : Option (List ℕ)) : Type 0 where
  pub upto : ℕ
  pub part : upto < length report.text
  pub told : Appends before now (take upto report.text)

abbrev pub StopsTelling : Report → (before now : Option (List ℕ)) → (failed_before failed : ℕ) → CommandStop → Type 0
StopsTelling report before now failed_before failed LinkFault = ToldLoss report before now
StopsTelling report before now failed_before failed WriteFault = ToldPart report before now × Rose failed_before failed
StopsTelling report before now failed_before failed other = ⊥

-- ---- the work, over links that know the cluster

abbrev pub ReportsFor : ClientWords → (before now : OnLinks) → Report → Type 0
ReportsFor words before now report = Reports words.number words.first words.work before now report

-- the work ended so, and all that tells of it went out
abbrev pub Tells : ClientWords → (before now : OnLinks) → (taken_before taken : Option (List ℕ)) → ClientEnd → Type 0
Tells words before now taken_before taken end =
    (report : Report) × ReportsFor words before now report × ToldAll report taken_before taken end

-- the links weren't settled, and nothing came or went
pub record IsUnsettled (before now : OnLinks) : Type 0 where
  pub rose : Rose before.faults.listening now.faults.listening
  pub told : now.told ≡ before.told

-- the links don't listen, and know the server and the drives of the cluster
abbrev pub KnowsCluster : Cluster → Standing → Type 0
KnowsCluster cluster standing = IsSettled cluster [] standing

-- why it wasn't done and told: the links don't take the addresses, the server's answer doesn't come, the sink fails, or there is
-- no memory, behind what was sent till then
abbrev pub StopsWork : ClientWords → Cluster → (before now : OnLinks) → Standing → (taken_before taken : Option (List ℕ))
    → (failed_before failed : ℕ) → CommandStop → Type 0
StopsWork words cluster before now standing taken_before taken failed_before failed LinkFault =
    (IsUnsettled before now × (taken ≡ taken_before))
    ⊎ (KnowsCluster cluster standing
    × (report : Report) × ReportsFor words before now report × ToldLoss report taken_before taken)
StopsWork words cluster before now standing taken_before taken failed_before failed WriteFault =
    KnowsCluster cluster standing
    × (report : Report) × ReportsFor words before now report × ToldPart report taken_before taken
    × Rose failed_before failed
StopsWork words cluster before now standing taken_before taken failed_before failed Memory =
    (taken ≡ taken_before)
    × ((now ≡ before)
    ⊎ (KnowsCluster cluster standing × CutsWork words.number words.first words.work before now))
StopsWork words cluster before now standing taken_before taken failed_before failed other = ⊥

-- ---- the command

-- the text describes a cluster, and the client's work in it, with the bytes behind the text, ended so
pub record WorksAs (words : ClientWords) (in_before in_now : Streams) (before now : OnLinks) (standing : Standing)
    (end : ClientEnd) : Type 0 where
  pub cluster : Cluster
  pub asked : ClientWords
  pub gives : GivesWork words in_before.left in_now.left cluster asked
  pub knows : KnowsCluster cluster standing
  pub tells : Tells asked before now in_before.taken in_now.taken end

-- nothing was told, and nothing came or went
abbrev pub IsUntouched : (in_before in_now : Streams) → (before now : OnLinks) → Type 0
IsUntouched in_before in_now before now = (in_now.taken ≡ in_before.taken) × (now ≡ before)

-- the text describes a cluster, and the work in it stopped so
abbrev pub StopsInCluster : ClientWords → (in_before in_now : Streams) → (before now : OnLinks) → Standing → CommandStop → Type 0
StopsInCluster words in_before in_now before now standing stop =
    (c : Cluster) × (asked : ClientWords) × GivesWork words in_before.left in_now.left c asked
    × StopsWork asked c before now standing in_before.taken in_now.taken in_before.writes_failed in_now.writes_failed stop

-- why the client's work wasn't done and told, and what it told till then; without a cluster nothing is sent
abbrev pub StopsClient : ClientWords → (in_before in_now : Streams) → (before now : OnLinks) → Standing → CommandStop → Type 0
StopsClient words in_before in_now before now standing (BadCluster kind) =
    RefusesText words in_before.left in_now.left kind × IsUntouched in_before in_now before now
StopsClient words in_before in_now before now standing ReadFault =
    Rose in_before.reads_failed in_now.reads_failed × IsUntouched in_before in_now before now
StopsClient words in_before in_now before now standing Full =
    IsTooLong in_before.left in_now.left × IsUntouched in_before in_now before now
StopsClient words in_before in_now before now standing Memory =
    IsUntouched in_before in_now before now ⊎ StopsInCluster words in_before in_now before now standing Memory
StopsClient words in_before in_now before now standing LinkFault =
    StopsInCluster words in_before in_now before now standing LinkFault
StopsClient words in_before in_now before now standing WriteFault =
    StopsInCluster words in_before in_now before now standing WriteFault

-- the same, and then the line that tells why
pub record EndsClient (words : ClientWords) (in_before in_now : Streams) (before now : OnLinks) (standing : Standing)
    (stop : CommandStop) : Type 0 where
  pub told : Streams
  pub why : StopsClient words in_before told before now standing stop
  pub left : (in_now.left ≡ told.left) × (in_now.reads_failed ≡ told.reads_failed)
  pub line : PutsLine told.taken in_now.taken told.writes_failed in_now.writes_failed (stop_line stop)
