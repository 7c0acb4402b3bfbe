-- What a server does before its first connection, and where it stops.
use Rattle.std.proofs.Common.{◌≡◌, ◌∙◌, ◌+◌, ℕ, Bool, true, List, [], ◌∷◌, ◌++◌, length, take, Option, None, Some, Ok, ap, inl, inr, refl, subst, sym}
use Rattle.std.specs.Prelude.{filter, slice_get}
use Rattle.std.proofs.lemmas.Bool.{cases_Bool}
use Rattle.std.proofs.lemmas.List.Elements.{filter-append}
use Rattle.osd_lists.proofs.Slices.{take_more}
use Rattle.osd_bytes.specs.Asking.{Ends, ends_of}
use Rattle.osd_bytes.specs.Connections.{Traffic, after_notes}
use Rattle.osd_bytes.specs.Counts.{Faults}
use Rattle.cluster_text.specs.declared.cluster.Cluster.{Cluster}
use Rattle.cluster_text.specs.declared.cluster.ClusterDrive.{ClusterDrive}
use Rattle.cluster_text.specs.declared.cluster.ClusterFile.{ClusterFile}
use Rattle.cluster_text.specs.declared.stop.CommandStop.TheVariants.{BadCluster, ReadFault, WriteFault, Memory, Full, LinkFault}
use Rattle.server_rules.specs.declared.server.Server.{Server}
use Rattle.server_rules.specs.Making.{set_format}
use Rattle.server_state.specs.declared.step.Step.{Step}
use Rattle.server_command.proofs.Described.{AreKnowable, AreMakeable}
use Rattle.server_command.proofs.MakingLaws.{stops_by}
use Rattle.server_command.specs.Cuts.{CutsMaking, CutsWork}
use Rattle.server_command.specs.Files.{LosesAll, Makes, StopsBy}
use Rattle.server_command.specs.Steps.{ServerStep}
use Rattle.server_command.specs.Messages.{Serving, UntilNone, WorksAll, serving}
use Rattle.server_requests.specs.declared.outgoing.Sent.{Sent}
use Rattle.server_command.specs.Notes.{note_texts}
use Rattle.server_command.specs.ServerStops.{stop_of_step}
use Rattle.server_command.specs.declared.metadata_server.StepErr.{StepErr}
use Rattle.server_command.specs.declared.metadata_server.StepErr.TheVariants as step_err
use Rattle.server_command.specs.declared.server_stop.ServerStop.{ServerStop}
use Rattle.server_command.specs.declared.server_stop.ServerStop.TheVariants.{Command, DiskFault}
use Rattle.stored_server.specs.Lacking.{CutsLacking, LosesLacking, MakesAllLacking, RefusesLacking, StopsLacking, with_all_lacking}
use Rattle.stored_server.proofs.LackingLaws.{few_drives, never_wrong}
use Rattle.stored_server.specs.Preparing.{CutsResuming, LosesResuming, Prepares, Resumes, Settles, StopsPreparing, new_of, opened, picked_of, rest_of}

-- ---- what is picked

picked_one : (p : Sent → Bool) (m : Sent) → filter p (m ∷ []) ≡ picked_of (p m) m
picked_one p m = elim (cases_Bool (p m)) [
  | inl is ↦ rw is refl
  | inr isnt ↦ rw isnt refl
]

-- one message more
pub picked_more : (p : Sent → Bool) (sends : List Sent) (i : ℕ) (m : Sent) (old new : List Sent) (does : Bool)
    → slice_get sends i ≡ Some m → does ≡ p m → old ≡ filter p (take i sends) → new ≡ old ++ picked_of does m
    → new ≡ filter p (take (i + 1) sends)
picked_more p sends i m old new does got same so_far more =
    more ∙ ap (λ (ms : List Sent). ms ++ picked_of does m) so_far
    ∙ ap (λ (b : Bool). filter p (take i sends) ++ picked_of b m) same
    ∙ ap (λ (ms : List Sent). filter p (take i sends) ++ ms) (sym (picked_one p m))
    ∙ sym (filter-append p (take i sends) (m ∷ [])) ∙ ap (filter p) (sym (take_more sends i m got))

-- ---- what the opening gave

-- behind what it noted
pub opened_at : (begun : Server) (step : Step) (waiting : List Sent) (had : List ServerStep) (told now_told : Option Traffic)
    (faults now_faults : Faults) (times : Option (List ℕ)) → now_told ≡ after_notes (note_texts step.notes) told
    → now_faults ≡ faults
    → serving begun waiting true had (ends_of now_told now_faults times)
    ≡ opened begun step waiting had (ends_of told faults times)
opened_at begun step waiting had told now_told faults now_faults times tells same =
    ap (λ (t : Option Traffic). serving begun waiting true had (ends_of t now_faults times)) tells
    ∙ ap (λ (f : Faults). serving begun waiting true had (ends_of (after_notes (note_texts step.notes) told) f times)) same

module _ (knows : ℕ → ℕ → Bool) (begun : Server) (step : Step) (had : List ServerStep) (before first : Ends)
    (new others : List Sent) (told : serving begun new true had first ≡ opened begun step new had before)
    (are : new ≡ new_of knows step) (rest : others ≡ rest_of knows step) where
  -- what is so of these is so of the new objects
  at_new : (P : Serving → Type 0) → P (serving begun new true had first) → P (opened begun step (new_of knows step) had before)
  at_new P p = subst (λ (ms : List Sent). P (opened begun step ms had before)) are (subst (λ (x : Serving). P x) told p)

  -- the new objects were made, and the rest was worked
  pub resumed : (made server : Server) (mids has : List ServerStep) (between now : Ends) (still : Bool)
      → UntilNone Makes (serving begun new true had first) (serving made [] true mids between)
      → WorksAll None (serving made others true mids between) (serving server [] still has now)
      → Resumes knows begun step had before server has now
  resumed made server mids has between now still makes works = record {
    made = serving made [] true mids between;
    makes = at_new (λ x. UntilNone Makes x (serving made [] true mids between)) makes;
    worked = serving server [] still has now;
    works =
        subst (λ (ms : List Sent). WorksAll None (serving made ms true mids between) (serving server [] still has now)) rest
        works;
    is = refl;
    steps = refl;
    ends = refl;
  }

  -- a new object wasn't made
  pub resumed_not : (last : Server) (now : Ends) (stop : ServerStop) (served unserved : List ServerStep)
      → StopsBy (λ has. LosesAll (serving begun new true had first) last has now) ⊥
      (CutsMaking (serving begun new true had first) now) stop served unserved
      → StopsBy (λ has. LosesResuming knows begun step had before last has now) ⊥
      (CutsResuming knows begun step had before now) stop served unserved
  resumed_not last now stop served unserved stops =
      stops_by (λ has. LosesAll (serving begun new true had first) last has now)
      (λ has. LosesResuming knows begun step had before last has now) ⊥ ⊥
      (CutsMaking (serving begun new true had first) now) (CutsResuming knows begun step had before now) served unserved
      (λ l. at_new (λ x. LosesAll x last served now) l) (λ never. never)
      (λ c. inr (inl (at_new (λ x. CutsMaking x now served unserved) c))) stop stops

  -- the rest was cut off
  pub resumed_cut : (made : Server) (mids : List ServerStep) (between now : Ends) (served unserved : List ServerStep)
      → UntilNone Makes (serving begun new true had first) (serving made [] true mids between)
      → CutsWork None (serving made others true mids between) now served unserved
      → CutsResuming knows begun step had before now served unserved
  resumed_cut made mids between now served unserved makes cuts = inr (inr (
    serving made [] true mids between,
    at_new (λ x. UntilNone Makes x (serving made [] true mids between)) makes,
    subst (λ (ms : List Sent). CutsWork None (serving made ms true mids between) now served unserved) rest cuts,
  ))

module _ (knows : ℕ → ℕ → Bool) (cluster : Cluster) (begun : Server) (step : Step) (had : List ServerStep) (before : Ends) where
  -- the cluster's format and drives are known
  pub settled : (worked raised known : Server) (mids more all : List ServerStep) (ds : List ClusterDrive) (now : Ends)
      → ds ≡ cluster.drives → all ≡ mids ++ more → Resumes knows begun step had before worked mids now
      → raised ≡ set_format worked cluster.format → with_all_lacking raised ds ≡ Ok known
      → Settles knows cluster begun step had before known all now
  settled worked raised known mids more all ds now e are r is has = record {
    server = worked;
    resumed = mids;
    resumes = r;
    has_all = subst (λ (xs : List ClusterDrive). with_all_lacking (set_format worked cluster.format) xs ≡ Ok known) e
        (subst (λ (s : Server). with_all_lacking s ds ≡ Ok known) is has);
    more = more;
    steps = are;
  }

  pub prepared : (known made : Server) (mids has : List ServerStep) (fs : List ClusterFile) (between now : Ends)
      → fs ≡ cluster.files → Settles knows cluster begun step had before known mids between
      → MakesAllLacking fs (serving known [] true mids between) (serving made [] true has now)
      → Prepares knows cluster begun step had before made has now
  prepared known made mids has fs between now e settles makes = record {
    known = known;
    steps = mids;
    between = between;
    settles = settles;
    makes =
        subst (λ (xs : List ClusterFile). MakesAllLacking xs (serving known [] true mids between) (serving made [] true has now))
        e makes;
  }

  -- ---- why it stopped

  -- a step of the settling wasn't done
  pub stopped_step : (last worked : Server) (mids more served unserved : List ServerStep) (now : Ends) (e : StepErr)
      → Resumes knows begun step had before worked mids now → served ≡ mids ++ more
      → StopsPreparing knows cluster begun step had before last now (stop_of_step e) served unserved
  stopped_step last worked mids more served unserved now step_err.DiskFault r are =
      inr (inl (record { server = worked; resumed = mids; resumes = r; more = more; steps = are }))
  stopped_step last worked mids more served unserved now step_err.Memory r are =
      inr (inl (record { server = worked; resumed = mids; resumes = r; more = more; steps = are }))

  -- a new object of the opening wasn't made, or the rest was cut off
  pub stopped_resuming : (last : Server) (now : Ends) (stop : ServerStop) (served unserved : List ServerStep)
      → StopsBy (λ has. LosesResuming knows begun step had before last has now) ⊥
      (CutsResuming knows begun step had before now) stop served unserved
      → StopsPreparing knows cluster begun step had before last now stop served unserved
  stopped_resuming last now (Command (BadCluster kind)) served unserved s = absurd s.1
  stopped_resuming last now (Command ReadFault) served unserved s = absurd s
  stopped_resuming last now (Command WriteFault) served unserved s = absurd s
  stopped_resuming last now (Command Memory) served unserved s = inl s
  stopped_resuming last now (Command Full) served unserved s = absurd s
  stopped_resuming last now (Command LinkFault) served unserved s = (s.1, inl s.0)
  stopped_resuming last now DiskFault served unserved s = inl s

  -- a drive wasn't added, but none of them is wrong
  pub stopped_adding : (raised last worked : Server) (mids more served unserved : List ServerStep) (ds : List ClusterDrive)
      (now : Ends) (stop : ServerStop) → ds ≡ cluster.drives → AreKnowable cluster.drives
      → Resumes knows begun step had before worked mids now → served ≡ mids ++ more
      → StopsLacking (with_all_lacking raised ds) stop
      → StopsPreparing knows cluster begun step had before last now stop served unserved
  stopped_adding raised last worked mids more served unserved ds now stop e sound r are stops =
      go stop (subst (λ (xs : List ClusterDrive). StopsLacking (with_all_lacking raised xs) stop) e stops)
    where
      go : (x : ServerStop) → StopsLacking (with_all_lacking raised cluster.drives) x
          → StopsPreparing knows cluster begun step had before last now x served unserved
      go (Command (BadCluster kind)) wrong = absurd (never_wrong raised cluster.drives kind sound wrong)
      go (Command ReadFault) x = absurd x
      go (Command WriteFault) x = absurd x
      go (Command Memory) x =
          inr (inl (record { server = worked; resumed = mids; resumes = r; more = more; steps = are }))
      go (Command Full) x = absurd x
      go (Command LinkFault) x = absurd x
      go DiskFault x = inr (inl (record { server = worked; resumed = mids; resumes = r; more = more; steps = are }))

  -- a file wasn't made
  pub stopped_making : (known last : Server) (mids served unserved : List ServerStep) (fs : List ClusterFile) (between now : Ends)
      (stop : ServerStop) → fs ≡ cluster.files → Settles knows cluster begun step had before known mids between
      → AreMakeable (length cluster.drives) cluster.files
      → StopsBy (λ has. LosesLacking fs (serving known [] true mids between) last has now)
      (RefusesLacking fs (serving known [] true mids between)) (CutsLacking fs (serving known [] true mids between) now) stop
      served unserved
      → StopsPreparing knows cluster begun step had before last now stop served unserved
  stopped_making known last mids served unserved fs between now stop e settles sound stops = go stop
      (subst (λ (xs : List ClusterFile). StopsBy (λ has. LosesLacking xs (serving known [] true mids between) last has now)
      (RefusesLacking xs (serving known [] true mids between)) (CutsLacking xs (serving known [] true mids between) now) stop
      served unserved) e stops)
    where
      go : (x : ServerStop) → StopsBy (λ has. LosesLacking cluster.files (serving known [] true mids between) last has now)
          (RefusesLacking cluster.files (serving known [] true mids between))
          (CutsLacking cluster.files (serving known [] true mids between) now) x served unserved
          → StopsPreparing knows cluster begun step had before last now x served unserved
      go (Command (BadCluster kind)) x = (
        x.0,
        x.2,
        (
          known,
          mids,
          between,
          settles,
          few_drives (length cluster.drives) cluster.files (serving known [] true mids between) sound x.1,
        ),
      )
      go (Command ReadFault) x = absurd x
      go (Command WriteFault) x = absurd x
      go (Command Memory) x = inr (inr (known, mids, between, settles, x))
      go (Command Full) x = absurd x
      go (Command LinkFault) x = (x.1, inr (known, mids, between, settles, x.0))
      go DiskFault x = inr (inr (known, mids, between, settles, x))
