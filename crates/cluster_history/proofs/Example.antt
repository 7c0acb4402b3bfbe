-- A run in which each premise of a step is met: a drive, a client and a file are made, the client asks for the file and is told
-- to ask again, parties end and begin again, a stranger's bytes come, and in the end the drive is lost and declared.
use Rattle.std.proofs.Common.{List, [], ◌∷◌, ◌++◌, refl, arith}
use Rattle.osd_lists.specs.declared.node.Node.TheVariants as node
use Rattle.data_map.specs.declared.check.RawMap.{RawMap}
use Rattle.world_history.specs.ServerNames.{ToDeclare}
use Rattle.world_history.specs.ClientNames.{Read}
use Rattle.cluster_history.proofs.Opened.{opened_world, opened_server, opened_client, opened_text}
use Rattle.cluster_history.specs.State.{Cluster, empty_cluster}
use Rattle.cluster_history.specs.Steps.{Step, Knows, Raises, Makes, Hears, Obeys, Passes, Resends, Crashes, Opens, Takes, IsHit, Falls, Rises, IsLost, Begins, Calls, Learns, Misses, Leaves, SendsAgain, Ends}
use Rattle.cluster_history.specs.Deeds.{up_drives, unheard}
use Rattle.cluster_history.specs.History.{deed, message_lines, after, AreSteps, cluster_after}

abbrev map : RawMap
map = record { comps = 1; unit = 4; width = 0; depth = 0; mirrors = 0; algorithm = 1 }

-- the server, one drive and one client come to be, and a file
abbrev first : List Step
first = Raises 1 ∷ Knows 0 [] 20000 ∷ Begins 0 ∷ Leaves 0 ∷ Makes [] 0 map ∷ []

first_may : AreSteps empty_cluster first
unfolding opened_world opened_server opened_client opened_text deed message_lines up_drives unheard
first_may = (
  refl,
  (
    (refl, record { named = omega arith; absent = refl; unknown = refl }),
    (
      record { named = omega arith; absent = refl },
      (
        (record { here = _; found = refl; live = refl }, refl),
        ((refl, record { algorithm = refl; step = _; made = refl }), tt),
      ),
    ),
  ),
)

abbrev made : Cluster
made = cluster_after empty_cluster first

-- the drive takes its CREATE; the client is called, asks, is answered, sends again and misses an answer of the drive
abbrev second : List Step
second =
    Takes 0 5 0 ∷
    Calls 0 (Read 0 0 1) ∷
    Hears 7 [] 2 ∷
    Learns 0 3 ∷
    SendsAgain 0 ∷
    Misses 0 0 ∷
    Passes 8 [] (node.Client 0) (1 ∷ 2 ∷ 3 ∷ []) ∷
    []

second_may : AreSteps made second
unfolding opened_world opened_server opened_client opened_text deed message_lines up_drives unheard
second_may = (
  (
    record { here = _; found = refl; up = refl; kept = refl },
    record { message = _; there = refl; receiver = refl },
  ),
  (
    record { here = _; found = refl; live = refl },
    (
      (refl, record { message = _; there = refl; receiver = refl }),
      (
        (
          record { here = _; found = refl; live = refl },
          record { message = _; there = refl; receiver = refl },
        ),
        (
          record { here = _; found = refl; live = refl },
          (
            record { here = _; found = refl; live = refl },
            ((refl, record { state = refl; notes = refl }), tt),
          ),
        ),
      ),
    ),
  ),
)

abbrev asked : Cluster
asked = cluster_after made second

-- the drive and the server end and begin again, a stranger's bytes come to the drive, the client ends; and the drive is lost,
-- and declared
abbrev third : List Step
third =
    IsHit 0 9 (1 ∷ 2 ∷ 3 ∷ []) ∷
    Falls 0 ∷
    Rises 0 ∷
    Crashes ∷
    Opens ∷
    Resends ∷
    Ends 0 ∷
    IsLost 0 ∷
    Obeys 10 [] (record { order = ToDeclare; target = 0 }) ∷
    []

third_may : AreSteps asked third
unfolding opened_world opened_server opened_client opened_text deed message_lines up_drives unheard
third_may = (
  record { here = _; found = refl; up = refl; kept = refl },
  (
    record { here = _; found = refl; up = refl; kept = refl },
    (
      record { here = _; found = refl; down = refl; kept = refl },
      (
        refl,
        (
          refl,
          (
            refl,
            (
              record { here = _; found = refl; live = refl },
              (
                record { here = _; found = refl; kept = refl },
                ((refl, λ known. record { here = _; found = refl; gone = refl }), tt),
              ),
            ),
          ),
        ),
      ),
    ),
  ),
)

-- ---- all of it is one run

joined : (k : Cluster) (xs ys : List Step) → AreSteps k xs → AreSteps (cluster_after k xs) ys → AreSteps k (xs ++ ys)
joined k [] ys p q = q
joined k (x ∷ xs) ys p q = (p.0, joined (after k x) xs ys p.1 q)

pub is_a_run : AreSteps empty_cluster (first ++ (second ++ third))
is_a_run = joined empty_cluster first (second ++ third) first_may (joined made second third second_may third_may)
