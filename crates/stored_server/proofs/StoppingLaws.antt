-- Why the command of a server with a store stops.
use Rattle.std.proofs.Common.{◌≡◌, ◌∙◌, ℕ, List, Option, ap, inl, inr, refl, sym, subst}
use Rattle.osd_bytes.specs.Asking.{Ends, ends_of}
use Rattle.osd_bytes.specs.Connections.{Standing, Traffic}
use Rattle.osd_bytes.specs.Counts.{Faults}
use Rattle.cluster_text.specs.declared.cluster.Cluster.{Cluster}
use Rattle.cluster_text.specs.declared.cluster.Reader.TheVariants.{Server as ServerReads}
use Rattle.cluster_text.specs.Inputs.{GivesCluster}
use Rattle.cluster_text.specs.Outside.{Streams}
use Rattle.osd_disk.specs.declared.disk.Disk.{Ghosts as DiskGhosts}
use Rattle.drive_command.specs.declared.stored_stop.StoredStop.{StoredStop}
use Rattle.drive_command.specs.declared.stored_stop.StoredStop.TheVariants.{BadStore}
use Rattle.drive_command.specs.StoredStops.{IsTold, no_memory}
use Rattle.server_command.specs.declared.server_stop.ServerStop.{ServerStop}
use Rattle.server_command.specs.declared.server_stop.ServerStop.TheVariants as server
use Rattle.server_command.specs.Ends.{IsSettledAs}
use Rattle.server_command.specs.Notes.{TellsSome}
use Rattle.server_command.proofs.CutLaws.{tells_none}
use Rattle.stored_server.specs.Beginning.{StopsBeginning}
use Rattle.stored_server.specs.Differences.{difference_lines}
use Rattle.stored_server.specs.Ends.{ServesStoredAs, StopsStoredServer}
use Rattle.stored_server.specs.Service.{ServesFrom, StopsFrom, stored_stop_of}

-- a server that was open has a journal
never_bad : (at : ℕ) (cause : ServerStop) → BadStore at ≡ stored_stop_of cause → ⊥
never_bad at (server.Command stop) is = cc is
never_bad at server.DiskFault is = cc is

-- links that were settled tell what they told before
pub settled_as : (told now_told : Option Traffic) (faults now_faults : Faults) (times : Option (List ℕ)) → now_told ≡ told
    → now_faults ≡ faults
    → ends_of now_told now_faults times ≡ ends_of told faults times
settled_as told now_told faults now_faults times tells same =
    ap (λ (t : Option Traffic). ends_of t now_faults times) tells ∙ ap (λ (f : Faults). ends_of told f times) same

module _ {D : Type 0} (s : DiskGhosts D) (connections : ℕ) (standing : Standing) (disk left : D)
    (in_before in_now : Streams) (before now : Ends) where
  -- there was no memory for the line of a place at which serving doesn't begin
  shut_without : (c : Cluster) (at : ℕ) (told now_told : Option Traffic)
      → StopsBeginning s c disk left told now_told (BadStore at) → StopsBeginning s c disk left told now_told no_memory
  shut_without c at told now_told (inl opening) = inl (tt, opening.1)
  shut_without c at told now_told (inr (inl other)) =
      inr (inr (record {
        begun = other.begun;
        own = other.own;
        step = other.step;
        begins = other.begins;
        cause = refl;
        some = subst (λ (t : Option Traffic). TellsSome (difference_lines c other.begun) told t) (sym other.silent)
            (tells_none (difference_lines c other.begun) told);
      }))
  shut_without c at told now_told (inr (inr cut)) = absurd (cc cut.cause)

  -- there was no memory for the line of a place: nothing else happened
  without_line : (at : ℕ) → StopsStoredServer s connections in_before in_now before now standing disk left (BadStore at)
      → StopsStoredServer s connections in_before in_now before now standing disk left no_memory
  without_line at (inl x) = absurd x.why
  without_line at (inr x) = elim x.why [
    | inl y ↦ absurd y.why
    | inr y ↦ elim y.1 [
      | inl shut ↦
          inr (record {
            cluster = x.cluster;
            gives = x.gives;
            why =
                inr (
                  y.0,
                  inl (record {
                    why = shut_without x.cluster at before.told now.told shut.why;
                    faults = shut.faults;
                    times = shut.times;
                    silent = shut.silent;
                    stays = shut.stays;
                  }),
                );
          })
      | inr broke ↦ absurd (never_bad at broke.cause broke.is)
    ]
  ]

  pub told_as : (stop told : StoredStop) → IsTold stop told
      → StopsStoredServer s connections in_before in_now before now standing disk left stop
      → StopsStoredServer s connections in_before in_now before now standing disk left told
  told_as stop told (inl same) x =
      subst (λ (e : StoredStop). StopsStoredServer s connections in_before in_now before now standing disk left e) (sym same) x
  told_as stop told (inr (none, at, is)) x =
      subst (λ (e : StoredStop). StopsStoredServer s connections in_before in_now before now standing disk left e) (sym none)
      (without_line at
      (subst (λ (e : StoredStop). StopsStoredServer s connections in_before in_now before now standing disk left e) is x))

  -- ---- in the cluster that the text describes, once the links were settled

  pub served_in : (c : Cluster) (settled : Ends) → GivesCluster ServerReads in_before.left in_now.left c
      → IsSettledAs c standing → settled ≡ before
      → ServesFrom s connections c settled now in_before.taken in_now.taken disk left
      → ServesStoredAs s connections in_before in_now before now standing disk left
  served_in c settled gives at same x = record {
    cluster = c;
    gives = gives;
    settled = at;
    serves = subst (λ (b : Ends). ServesFrom s connections c b now in_before.taken in_now.taken disk left) same x;
  }

  pub stopped_in : (c : Cluster) (settled : Ends) (stop : StoredStop) → GivesCluster ServerReads in_before.left in_now.left c
      → IsSettledAs c standing → settled ≡ before
      → StopsFrom s connections c settled now in_before.taken in_now.taken in_before.writes_failed in_now.writes_failed
      disk left stop
      → StopsStoredServer s connections in_before in_now before now standing disk left stop
  stopped_in c settled stop gives at same x = inr (record {
    cluster = c;
    gives = gives;
    why =
        inr (
          at,
          subst
              (λ (b : Ends). StopsFrom s connections c b now in_before.taken in_now.taken in_before.writes_failed
              in_now.writes_failed disk left stop) same x,
        );
  })
