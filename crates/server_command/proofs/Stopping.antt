-- Why the command stops.
use Rattle.std.proofs.Common.{◌≡◌, ℕ, List, Option, Ok, true, [], subst, inl, inr}
use Rattle.cluster_text.specs.declared.cluster.Cluster.{Cluster}
use Rattle.cluster_text.specs.declared.cluster.ClusterFile.{ClusterFile}
use Rattle.cluster_text.specs.declared.cluster.Reader.TheVariants.{Server as ServerReads}
use Rattle.cluster_text.specs.Inputs.{GivesCluster}
use Rattle.cluster_text.specs.declared.stop.CommandStop.{CommandStop}
use Rattle.cluster_text.specs.declared.stop.CommandStop.TheVariants.{BadCluster, ReadFault, WriteFault, Memory, Full, LinkFault}
use Rattle.osd_bytes.specs.Asking.{Ends}
use Rattle.osd_bytes.specs.Connections.{Standing}
use Rattle.server_rules.specs.declared.server.Server.{Server}
use Rattle.server_command.specs.Messages.{serving}
use Rattle.server_command.specs.Cuts.{CutsFiles}
use Rattle.server_command.specs.Drives.{server_in}
use Rattle.server_command.specs.Files.{LosesFiles, MakesFiles, RefusesFiles, StopsBy}
use Rattle.server_command.specs.Steps.{ServerStep}
use Rattle.server_command.specs.declared.server_stop.ServerStop.{ServerStop}
use Rattle.server_command.specs.declared.server_stop.ServerStop.TheVariants.{Command}
use Rattle.cluster_text.specs.Outside.{Streams}
use Rattle.server_command.specs.Ends.{HasMade, IsSettledAs, StopsCore, StopsIn, StopsServer, StopsServing}
use Rattle.server_command.proofs.Described.{sound}
use Rattle.server_command.proofs.Refusing.{is_served}
use Rattle.server_command.proofs.Rising.{makes_files, rises}

-- ---- as the server of a cluster

pub has_made : (cluster : Cluster) (before settled between : Ends) (first made : Server) (steps : List ServerStep)
    (files : List ClusterFile) → settled ≡ before → files ≡ cluster.files → server_in cluster ≡ Ok first
    → MakesFiles files (serving first [] true [] settled) (serving made [] true steps between)
    → HasMade cluster before made steps between
has_made cluster before settled between first made steps files e f is makes = record {
  first = first;
  is = is;
  makes =
      subst (λ (x : Ends). MakesFiles cluster.files (serving first [] true [] x) (serving made [] true steps between)) e
      (subst (λ (fs : List ClusterFile). MakesFiles fs (serving first [] true [] settled) (serving made [] true steps between)) f
      makes);
}

module _ (connections : ℕ) (cluster : Cluster) (before now : Ends) (standing : Standing)
    (taken_before taken : Option (List ℕ)) (failed_before failed : ℕ) (at : IsSettledAs cluster standing)
    (served unserved : List ServerStep) where
  pub serving_in : (stop : CommandStop) (made last : Server) (steps : List ServerStep) (between : Ends)
      → HasMade cluster before made steps between
      → StopsServing connections made last steps served unserved between now taken_before taken failed_before failed stop
      → StopsIn connections cluster before now standing taken_before taken failed_before failed stop
  serving_in WriteFault made last steps between has s = (
    record {
      settled = at;
      made = made;
      steps = steps;
      between = between;
      has_made = has;
      last = last;
      has = served;
      cuts = s.0;
    },
    s.2,
  )
  serving_in LinkFault made last steps between has s =
      inr (inr (
        record {
          settled = at;
          made = made;
          steps = steps;
          between = between;
          has_made = has;
          last = last;
          has = served;
          refused = s.2;
          rose = rises connections made last steps served before between now
              (makes_files cluster.files (serving has.first [] true [] before) (serving made [] true steps between)
              has.makes) s.2;
        },
        s.0,
      ))
  serving_in Memory made last steps between has s =
      inr (inr (record {
        settled = at;
        made = made;
        steps = steps;
        between = between;
        has_made = has;
        served = served;
        unserved = unserved;
        cuts = s;
      }))
  serving_in (BadCluster kind) made last steps between has s = absurd s
  serving_in ReadFault made last steps between has s = absurd s
  serving_in Full made last steps between has s = absurd s

  -- the same, where the server has no disk
  pub serving_in_memory : (told : ServerStop) (stop : CommandStop) (made last : Server) (steps : List ServerStep) (between : Ends)
      → told ≡ Command stop → HasMade cluster before made steps between
      → StopsCore connections made last steps served unserved between now taken_before taken failed_before failed told
      → StopsIn connections cluster before now standing taken_before taken failed_before failed stop
  serving_in_memory told stop made last steps between is has s = serving_in stop made last steps between has
      (subst
      (λ (x : ServerStop). StopsCore connections made last steps served unserved between now taken_before taken failed_before
      failed
      x) is s)

  -- the files weren't made
  making_in : (stop : CommandStop) (first last : Server) → server_in cluster ≡ Ok first → taken ≡ taken_before
      → StopsBy (λ has. LosesFiles cluster.files (serving first [] true [] before) last has now)
      (RefusesFiles cluster.files (serving first [] true [] before))
      (CutsFiles cluster.files (serving first [] true [] before) now) (Command stop) served unserved
      → StopsIn connections cluster before now standing taken_before taken failed_before failed stop
  making_in WriteFault first last is same s = absurd s
  making_in LinkFault first last is same s = inr (inl ((at, first, is, last, served, s.0), same))
  making_in Memory first last is same s =
      inr (inl (record {
        settled = at;
        first = first;
        is = is;
        served = served;
        unserved = unserved;
        cuts = s;
        silent = same;
      }))
  making_in (BadCluster kind) first last is same s = inr (s.0, first, is, s.1)
  making_in ReadFault first last is same s = absurd s
  making_in Full first last is same s = absurd s

  -- why they weren't
  abbrev StopsMaking : (first last : Server) → List ClusterFile → (begun : Ends) → ServerStop → Type 0
  StopsMaking first last files begun told =
      StopsBy (λ has. LosesFiles files (serving first [] true [] begun) last has now)
      (RefusesFiles files (serving first [] true [] begun)) (CutsFiles files (serving first [] true [] begun) now) told served
      unserved

  pub making_in_memory : (told : ServerStop) (stop : CommandStop) (first last : Server) (settled : Ends)
      (files : List ClusterFile)
      → told ≡ Command stop → settled ≡ before → files ≡ cluster.files → server_in cluster ≡ Ok first → taken ≡ taken_before
      → StopsBy (λ has. LosesFiles files (serving first [] true [] settled) last has now)
      (RefusesFiles files (serving first [] true [] settled)) (CutsFiles files (serving first [] true [] settled) now) told served
      unserved
      → StopsIn connections cluster before now standing taken_before taken failed_before failed stop
  making_in_memory told stop first last settled files is e f known same s = making_in stop first last known same
      (subst (λ (x : ServerStop). StopsMaking first last cluster.files before x) is
      (subst (λ (x : Ends). StopsMaking first last cluster.files x told) e
      (subst (λ (fs : List ClusterFile). StopsMaking first last fs settled told) f s)))

-- ---- the command

module _ (connections : ℕ) (in_before in_now : Streams) (before now : Ends) (standing : Standing) where
  pub acting : (stop : CommandStop) (c : Cluster) → GivesCluster ServerReads in_before.left in_now.left c
      → StopsIn connections c before now standing in_before.taken in_now.taken in_before.writes_failed in_now.writes_failed stop
      → StopsServer connections in_before in_now before now standing stop
  acting (BadCluster kind) c gives s = absurd (is_served c before kind (sound gives.text c gives.is) s)
  acting LinkFault c gives s = (c, gives, s)
  acting WriteFault c gives s = (c, gives, s.0, s.1)
  acting Memory c gives s = inr (c, gives, s)
  acting ReadFault c gives s = absurd s
  acting Full c gives s = absurd s
