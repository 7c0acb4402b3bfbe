-- Each run of a cluster has a history.
use Rattle.std.proofs.Common.{◌≡◌, true, List, [], ◌∷◌, ◌++◌, refl, sym, subst, append_assoc}
use Rattle.std.proofs.lemmas.List.{append-nil}
use Rattle.scenario_text.specs.declared.line.Line.{Line}
use Rattle.world_history.specs.State.{World, empty_world}
use Rattle.world_history.specs.History.{StandsFor}
use Rattle.world_history.proofs.Histories.{stands_empty}
use Rattle.cluster_history.specs.State.{Cluster, empty_cluster}
use Rattle.cluster_history.specs.Steps.{Step, May, Knows, Raises, Makes, Hears, Obeys, Passes, Resends, Crashes, Opens, Takes, IsHit, Falls, Rises, IsLost, Begins, Calls, Learns, Misses, Leaves, SendsAgain, Ends}
use Rattle.cluster_history.specs.History.{after, told, AreSteps, cluster_after, history_of}
use Rattle.cluster_history.specs.Like.{cluster_of, AreStored, LeadsTo}
use Rattle.cluster_history.specs.Laws.{EachRunHasAHistory}
use Rattle.cluster_history.proofs.DriveSteps as drive
use Rattle.cluster_history.proofs.ClientSteps as client
use Rattle.cluster_history.proofs.ServerSteps as server
use Rattle.cluster_history.proofs.FileSteps.{makes_file}

module _ (w : World) (h : List Line) (s : StandsFor w h) (stored : AreStored w.drives) where
  -- each step leads on
  step_more : (x : Step) → May (cluster_of w) x → LeadsTo (h ++ told (cluster_of w) x) (after (cluster_of w) x)
  step_more (Knows d key capacity) m = server.knows w h s stored d key capacity m
  step_more (Raises format) m = server.raises w h s stored format m
  step_more (Makes chosen f map) m = makes_file w h s stored chosen f map m
  step_more (Hears time chosen n) m = server.is_heard w h s stored time chosen n m
  step_more (Obeys time chosen o) m = server.is_obeyed w h s stored time chosen o m
  step_more (Passes time chosen from bytes) m = server.passes w h s stored time chosen from bytes m
  step_more Resends m = server.sends_again w h s stored m
  step_more Crashes m = server.crashes w h s stored m
  step_more Opens m = server.opens w h s stored m
  step_more (Takes d time n) m = drive.takes w h s stored d time n m
  step_more (IsHit d time bytes) m = drive.is_hit w h s stored d time bytes m
  step_more (Falls d) m = drive.falls w h s stored d m
  step_more (Rises d) m = drive.rises w h s stored d m
  step_more (IsLost d) m = drive.lost_for_good w h s stored d m
  step_more (Begins c) m = client.begins_new w h s stored c m
  step_more (Calls c op) m = client.is_called w h s stored c op m
  step_more (Learns c n) m = client.learns w h s stored c n m
  step_more (Misses c component) m = client.misses w h s stored c component m
  step_more (Leaves c) m = client.leaves_all w h s stored c m
  step_more (SendsAgain c) m = client.sends_again w h s stored c m
  step_more (Ends c) m = client.ends w h s stored c m

-- one step more
pub one_step_more : (k : Cluster) (h : List Line) (x : Step) → LeadsTo h k → May k x → LeadsTo (h ++ told k x) (after k x)
one_step_more k h x l =
    subst (λ (y : Cluster). May y x → LeadsTo (h ++ told y x) (after y x)) l.like.same
    (step_more l.world h l.stands l.like.stored x)

-- all steps more
pub steps_more : (k : Cluster) (h : List Line) (steps : List Step) → LeadsTo h k → AreSteps k steps
    → LeadsTo (h ++ history_of k steps) (cluster_after k steps)
steps_more k h [] l are = subst (λ (ls : List Line). LeadsTo ls k) (sym (append-nil h)) l
steps_more k h (x ∷ steps) l are =
    subst (λ (ls : List Line). LeadsTo ls (cluster_after (after k x) steps))
    (append_assoc h (told k x) (history_of (after k x) steps))
    (steps_more (after k x) (h ++ told k x) steps (one_step_more k h x l are.0) are.1)

empty_leads : LeadsTo [] empty_cluster
empty_leads = record { world = empty_world; stands = stands_empty; like = record { same = refl; stored = tt } }

pub each_run_has_a_history : EachRunHasAHistory
each_run_has_a_history steps are = steps_more empty_cluster [] steps empty_leads are
