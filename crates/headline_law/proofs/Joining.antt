-- From the parts of the induction to its statements: each move takes the machine of a file further, and each cut of a move
-- shows each file that was there before it.
use Rattle.std.proofs.Common.{◌≡◌, ◌≤◌, ℕ, ◌++◌, List, length, slice_get, Option, Some, None, refl, sym, ap, subst, ◌∙◌, arith}
use Rattle.std.specs.Prelude.{take}
use Rattle.std.proofs.lemmas.Option.{same_Some}
use Rattle.scenario_text.specs.declared.line.Line.{Line}
use Rattle.server_rules.specs.Files.{file_at}
use Rattle.server_rules.specs.History.{Input}
use Rattle.server_rules.proofs.FileLaws.{number_at}
use Rattle.world_history.specs.ServerNames.{File, Component, Job}
use Rattle.world_history.specs.State.{World}
use Rattle.world_history.specs.Sending.{Move, move}
use Rattle.world_history.specs.Calm.{moment_of, first_seen}
use Rattle.world_history.specs.Reading.{steps_of}
use Rattle.world_history.specs.History.{OneEventMore}
use Rattle.world_history.specs.Laws.{MomentGoesOn, AllLinesGoOn}
use Rattle.component_law.specs.LeftPending.{PendingIsRead}
use Rattle.history_law.specs.BookMoments.{IsMoment, lines_in}
use Rattle.history_law.specs.Doing.{input_in, did_in}
use Rattle.component_law.specs.Naming.{AreNamed}
use Rattle.component_law.specs.Seeing.{SeenIsSound}
use Rattle.component_law.specs.Sound.{IsSound}
use Rattle.component_law.specs.Tags.{EachStepRaisesTags}
use Rattle.component_law.proofs.NamedLines.{are_named}
use Rattle.component_law.proofs.SeenServer.{seen_server}
use Rattle.fence_law.specs.State.{State}
use Rattle.fence_law.specs.Machine.{after_all, Lawful as IsLawfulRun}
use Rattle.plan_law.specs.FileLayout.{layout_of}
use Rattle.file_simulation.specs.Claim.{IsCalmHistory, IsOfScenario}
use Rattle.file_simulation.specs.Cuts.{rebuilt_ahead, notes_behind}
use Rattle.file_simulation.specs.ClientEvents.{Going, going_in}
use Rattle.file_simulation.specs.EventLists.{Lines}
use Rattle.file_simulation.specs.Events.{joined, events_of}
use Rattle.file_simulation.specs.Jobs.{JobIs, AreOwned, AreQuiet}
use Rattle.file_simulation.specs.Relation.{IsRelated}
use Rattle.file_simulation.specs.Showing.{Pairs, ShowsLines, ShowsFile, ShowsComponent, IsRun}
use Rattle.file_simulation.specs.Simulation.{StandsAt, StandsBehind, IsNext, EachMoveGoesOn}
use Rattle.file_simulation.proofs.Fronts.{before_move}
use Rattle.relation_law.specs.KeptFollows.{KeptParts}
use Rattle.relation_law.specs.Runs.{ClientsKeepRuns}
use Rattle.file_simulation.specs.Tied.{AreTied, WritesAreTied}
use Rattle.exchange_law.specs.Text.{AreOfText}
use Rattle.relation_law.specs.Steps.{HasRoom, Follows, FollowsWhole, behind, owed, whole_behind, GoesOn, ComponentsGoOn, RequestsGoOn, CallsGoOn, SentGoesOn}
use Rattle.relation_law.proofs.Followed.{all_taken}
use Rattle.relation_law.proofs.FramesFiles.{file_stays}
use Rattle.relation_law.proofs.FramesParties.{server_rests, server_steps}
use Rattle.relation_law.proofs.ReadsStay.{shown_grows}
use Rattle.headline_law.proofs.ShownWhole.{ShownLaws, WholeShown, whole_shown, earlier_over}
use Rattle.headline_law.proofs.Room.{room_whole}
use Rattle.headline_law.specs.ClientTold.{ToldFollows}
use Rattle.headline_law.specs.EntriesTied.{EntriesKept, CutsKeepEntries}
use Rattle.headline_law.specs.MarksShown.{CutsShowTheirMarks}
use Rattle.headline_law.specs.MarksTied.{WritesStayTied}
use Rattle.headline_law.specs.Parts.{SameShown, ClientsAreLawful, DrivesAreLawful, FollowsShown, AreLawful, ServersKeepRuns, DrivesKeepRuns, ServersAreLawful, AheadIsLawful, CutShown, cut_at, lines_to, CutsAreRuns, EntriesShown, CutsShowCalm, PartsBehind, OweFollows, RowsFollow, DoneFollows, TargetsFollow, ReadsFollow, EventsHaveLines, NotesAreTold}

-- ---- what is joined

-- that events can happen, and keep the run calm
pub record RunParts : Type 0 where
  pub clients_lawful : ClientsAreLawful
  pub drives_lawful : DrivesAreLawful
  pub servers_lawful : ServersAreLawful
  pub ahead_lawful : AheadIsLawful
  pub clients_run : ClientsKeepRuns
  pub servers_run : ServersKeepRuns
  pub drives_run : DrivesKeepRuns
  pub cuts_run : CutsAreRuns

-- what the lines show
pub record ShownParts : Type 0 where
  pub entries : CutsKeepEntries
  pub marks : CutsShowTheirMarks
  pub writes : WritesStayTied
  pub calm : CutsShowCalm

-- the parts of the relation
pub record RelationParts : Type 0 where
  pub components : ComponentsGoOn
  pub kept : KeptParts
  pub requests : RequestsGoOn
  pub calls : CallsGoOn
  pub sent : SentGoesOn
  pub owned : GoesOn AreOwned
  pub quiet : GoesOn AreQuiet
  pub owe : OweFollows
  pub rows : RowsFollow
  pub done : DoneFollows
  pub targets : TargetsFollow
  pub reads : ReadsFollow
  pub told : ToldFollows

-- what is known of the world
pub record WorldParts : Type 0 where
  pub sound : SeenIsSound
  pub raises : EachStepRaisesTags
  pub lines : EventsHaveLines
  pub notes : NotesAreTold
  pub shown : ShownLaws

-- ---- the world

module _ (world : WorldParts) (w : World) (h : List Line) (k : IsMoment w h) (scenario : IsOfScenario h) where
  sound : IsSound w.server
  sound =
      let named : AreNamed h = are_named h scenario.written in
      subst IsSound (ap (λ x. x.server) (seen_server first_seen (steps_of h) ∙ world.shown.book w h k scenario.written))
      (world.sound h named)

  -- a file that is there before a move is there behind it
  goes : (m : Move) (f : File) → file_at w.server.files f.kept.number ≡ Some f
      → (g : File) × (file_at (move w m).world.server.files f.kept.number ≡ Some g)
  goes m f there = by_input (input_in w m.action) refl
    where
      by_input : (o : Option Input) → input_in w m.action ≡ o
          → (g : File) × (file_at (move w m).world.server.files f.kept.number ≡ Some g)
      by_input None none = (f, ap (λ s. file_at s.files f.kept.number) (server_rests w m none) ∙ there)
      by_input (Some i) comes =
          let r = world.raises w.server m.chosen i sound f.kept.number f there in
          (r.behind, ap (λ s. file_at s.files f.kept.number) (server_steps w m i comes) ∙ r.there)

-- ---- a cut

module _ (runs : RunParts) (w : World) (h : List Line) (m : Move) (count : ℕ) (f g : File) (s : State) (pairs : Pairs)
    (k : FollowsShown w h m count f g s pairs) where
  abbrev pub Goes : Type 0
  Goes = AreLawful k.follows count × IsRun (behind k.follows.related m count)

  of_client : (j : Going) → going_in w m.action ≡ Some j → Goes
  of_client j is =
      let lawful = runs.clients_lawful w h m count f g s k.follows j is in
      (lawful, runs.clients_run w h m count f g s k.follows j is lawful)

  of_server : (i : Input) → input_in w m.action ≡ Some i → Goes
  of_server i is =
      let lawful = runs.servers_lawful runs.servers_run w h m count f g s pairs k i is in
      (lawful, runs.servers_run w h m count f g s pairs k i is count (omega arith) lawful)

  of_drive : going_in w m.action ≡ None → input_in w m.action ≡ None → Goes
  of_drive none nothing =
      let lawful = runs.drives_lawful w h m count f g s k.follows none nothing in
      (lawful, runs.drives_run w h m count f g s pairs k none nothing lawful)

  by_party : (o : Option Going) → going_in w m.action ≡ o → (p : Option Input) → input_in w m.action ≡ p → Goes
  by_party (Some j) is p comes = of_client j is
  by_party None none (Some i) comes = of_server i comes
  by_party None none None nothing = of_drive none nothing

  pub goes_there : Goes
  goes_there = by_party (going_in w m.action) refl (input_in w m.action) refl

  unfoldable pub cut : CutShown w h m count f g s pairs
  cut = record {
    shown = k;
    lawful = goes_there.0;
    run = goes_there.1;
    ahead_lawful = runs.ahead_lawful runs.servers_run w h m count f g s pairs k goes_there.0;
  }

  -- the run there
  pub cut_run : IsRun (cut_at k.follows)
  unfolding cut
  cut_run = runs.cuts_run w h m count f g s pairs cut

  module _ (shown : ShownParts) where
    pub kept : EntriesKept w h m count (cut_at k.follows) f.kept.number pairs
    unfolding cut
    kept = shown.entries w h m count f g s pairs cut k.tied

    -- the pairs of entries there
    abbrev pub entries : EntriesShown (lines_to w h m count) (cut_at k.follows) f.kept.number pairs
    entries = kept.shown

    pub shows_file : (x : File) → file_at (moment_of (lines_to w h m count)).server.files f.kept.number ≡ Some x
        → SameShown f x
        → ((i : ℕ) (at : Component) → slice_get x.kept.components i ≡ Some at
        → ShowsComponent (lines_to w h m count) (cut_at k.follows) i at)
        → ShowsFile (lines_to w h m count) (cut_at k.follows) entries.pairs x
    unfolding cut
    shows_file x there same components =
        let grows = shown_grows s (joined (take count (events_of s w (owed k.follows.related) f m))) in
        record {
          layout =
              (shown_grows (behind k.follows.related m count)
              (rebuilt_ahead (behind k.follows.related m count) w f (notes_behind count m.action (did_in w m)))).layout
              ∙ grows.layout
              ∙ k.follows.related.layout
              ∙ ap (λ x. layout_of x f.kept.first_tag) (sym same.map)
              ∙ ap (λ n. layout_of x.kept.map n) (sym same.first_tag);
          components = components;
          marks = λ q d. shown.marks w h m count f g s pairs cut k.writes entries x there q d;
        }

    -- the machine shows the lines at the cut, where it shows the file
    pub shows : ((x : File) → file_at (moment_of (lines_to w h m count)).server.files f.kept.number ≡ Some x
        → ShowsFile (lines_to w h m count) (cut_at k.follows) entries.pairs x)
        → ShowsLines (lines_to w h m count) (cut_at k.follows) f.kept.number entries.pairs
    unfolding cut
    shows file = record {
      paired = entries.paired;
      log = entries.log;
      shown = file;
      calm = λ last is calm. shown.calm w h m count f g s pairs cut last is calm;
    }

-- ---- a whole move

module _ (parts : RelationParts) (w : World) (h : List Line) (m : Move) (f g : File) (s : State) (k : FollowsWhole w h m f g s)
    (run : IsRun (whole_behind k)) where
  parts_behind : PartsBehind k
  parts_behind = record {
    run = run;
    components = parts.components w h m f g s k;
    kept = parts.kept.kept w h m f g s k;
    high = parts.kept.high w h m f g s k;
    requests = parts.requests w h m f g s k;
    calls = parts.calls w h m f g s k;
    sent = parts.sent w h m f g s k;
    owned = parts.owned w h m f g s k;
    quiet = parts.quiet w h m f g s k;
  }

  job : (o : Option Job) → g.job ≡ o → JobIs (whole_behind k) (move w m).world g o
  job None is = tt
  job (Some j) is = record {
    rows = parts.rows w h m f g s k parts_behind j is;
    done = parts.done w h m f g s k parts_behind j is;
    target = parts.targets w h m f g s k parts_behind j is;
  }

  related : IsRelated (whole_behind k) (move w m).world g
  related =
      let stays = file_stays w h k.follows.moment m k.follows.is_due f.kept.number f g k.follows.there k.follows.goes in
      let grows = shown_grows s (joined (events_of s w (owed k.follows.related) f m)) in
      record {
        layout =
            grows.layout ∙ k.follows.related.layout ∙ ap (λ x. layout_of x f.kept.first_tag) (sym stays.same.map)
            ∙ ap (λ n. layout_of g.kept.map n) (sym stays.same.first_tag);
        components = parts_behind.components;
        kept = parts_behind.kept;
        low = parts_behind.high;
        clients = λ c low. record {
          slot = parts_behind.requests c low;
          client = parts_behind.calls c low;
          shown = parts.reads w h m f g s k parts_behind c low;
          told = parts.told w h m f g s k c low;
        };
        sent = parts_behind.sent;
        jobs = record {
          owned = parts_behind.owned;
          owe = parts.owe w h m f g s k parts_behind;
          job = job g.job refl;
          quiet = parts_behind.quiet;
        };
      }

-- ---- the statements

-- a machine that stands for a file before a move, and the history is calm up to a cut of it
module _ (world : WorldParts) (further : OneEventMore) (moments : MomentGoesOn) (lines : AllLinesGoOn) (pending : PendingIsRead)
    (w : World) (h : List Line) (m : Move) (count : ℕ) (next : IsNext w h m (lines_in w m))
    (text : AreOfText (h ++ lines_in w m)) (room : HasRoom w m) (calm : IsCalmHistory (h ++ take count (lines_in w m)))
    (f : File) (s : State)
    (pairs : Pairs) (stands : StandsAt w h f s pairs) where
  file_is : stands.related.kept_file ≡ f
  file_is = same_Some stands.related.kept_file f (sym stands.related.there ∙ stands.there)

  before : IsCalmHistory h
  before = before_move moments lines pending w h m count calm

  pub behind_it : (g : File) × (file_at (move w m).world.server.files f.kept.number ≡ Some g)
  behind_it = goes world w h next.moment before.scenario m f stands.there

  follows : Follows w h m count f behind_it.0 s
  follows = record {
    moment = next.moment;
    is_due = next.is_due;
    text = text;
    room = room;
    calm = calm;
    there = stands.there;
    goes = behind_it.1;
    run = stands.run;
    related = subst (IsRelated s w) file_is stands.related.related;
  }

  pub shown_there : count ≤ length (lines_in w m) → FollowsShown w h m count f behind_it.0 s pairs
  shown_there low = record {
    follows = follows;
    low = low;
    shown = stands.shown;
    over = stands.over;
    tied = stands.tied;
    writes = stands.writes;
  }

-- what the statements follow from
pub record InductionParts : Type 0 where
  pub runs : RunParts
  pub shown : ShownParts
  pub relation : RelationParts
  pub world : WorldParts
  pub more : OneEventMore
  pub moments : MomentGoesOn
  pub lines : AllLinesGoOn
  pub pending : PendingIsRead

module _ (parts : InductionParts) where
  module _ (w : World) (h : List Line) (m : Move) (next : IsNext w h m (lines_in w m)) (calm : IsCalmHistory (h ++ lines_in w m))
      (f : File) (s : State) (pairs : Pairs) (stands : StandsAt w h f s pairs) where
    all_calm : IsCalmHistory (h ++ take (length (lines_in w m)) (lines_in w m))
    all_calm = subst (λ ls. IsCalmHistory (h ++ ls)) (sym (all_taken (lines_in w m))) calm

    has_room : HasRoom w m
    has_room = room_whole w h m next.moment next.is_due calm.scenario

    abbrev behind_file : File
    behind_file =
        (behind_it parts.world parts.more parts.moments parts.lines parts.pending w h m (length (lines_in w m)) next
        calm.scenario.text has_room all_calm f s pairs stands).0

    abbrev followed : FollowsShown w h m (length (lines_in w m)) f behind_file s pairs
    followed =
        shown_there parts.world parts.more parts.moments parts.lines parts.pending w h m (length (lines_in w m))
        next calm.scenario.text has_room all_calm f s pairs stands (omega arith)

    abbrev all_events : Lines
    all_events = events_of s w (owed followed.follows.related) f m

    all_joined : joined (take (length (lines_in w m)) all_events) ≡ joined all_events
    all_joined = parts.world.lines w h m f behind_file s (owed followed.follows.related) followed.follows

    abbrev whole : FollowsWhole w h m f behind_file s
    whole = record {
      follows = followed.follows;
      lawful =
          subst (λ es. IsLawfulRun s es) all_joined
          (goes_there parts.runs w h m (length (lines_in w m)) f behind_file s pairs followed).0;
    }

    run_behind : IsRun (whole_behind whole)
    run_behind =
        subst (λ es. IsRun (after_all s es)) all_joined
        (goes_there parts.runs w h m (length (lines_in w m)) f behind_file s pairs followed).1

    -- the machine behind the last line is that behind the move
    abbrev with_rebuilt : State → State
    with_rebuilt x =
        after_all x (rebuilt_ahead x w f (notes_behind (length (lines_in w m)) m.action (did_in w m)))

    at_end : cut_at followed.follows ≡ whole_behind whole
    unfolding rebuilt_ahead
    at_end =
        ap (λ es. with_rebuilt (after_all s es)) all_joined
        ∙ ap (λ ns. after_all (whole_behind whole) (rebuilt_ahead (whole_behind whole) w f ns))
        (parts.world.notes w h m f behind_file s followed.follows)

    abbrev pairs_there : Pairs
    pairs_there = (entries parts.runs w h m (length (lines_in w m)) f behind_file s pairs followed parts.shown).pairs

    -- what is so behind the move is so at its last cut
    back : (P : List Line → State → Type 0) → P (h ++ lines_in w m) (whole_behind whole) →
        P (lines_to w h m (length (lines_in w m))) (cut_at followed.follows)
    back P is =
        subst (P (lines_to w h m (length (lines_in w m)))) (sym at_end)
        (subst (λ ls. P (h ++ ls) (whole_behind whole)) (sym (all_taken (lines_in w m))) is)

    file_behind : (x : File) → file_at (moment_of (lines_to w h m (length (lines_in w m)))).server.files f.kept.number ≡ Some x →
        WholeShown whole x
    file_behind x there =
        whole_shown parts.world.shown w h m f behind_file s whole run_behind
        (parts.relation.components w h m f behind_file s whole) (parts.relation.kept.kept w h m f behind_file s whole) x
        (subst (λ ls. file_at (moment_of (h ++ ls)).server.files f.kept.number ≡ Some x) (all_taken (lines_in w m)) there)

    shows_file_behind : (x : File) →
        file_at (moment_of (lines_to w h m (length (lines_in w m)))).server.files f.kept.number ≡ Some x →
        ShowsFile (lines_to w h m (length (lines_in w m))) (cut_at followed.follows) pairs_there x
    shows_file_behind x there =
        shows_file parts.runs w h m (length (lines_in w m)) f behind_file s pairs followed parts.shown x there
        (file_behind x there).same
        (λ i at is. back (λ ls u. ShowsComponent ls u i at) ((file_behind x there).components i at is))

    shows_behind : ShowsLines (h ++ lines_in w m) (whole_behind whole) f.kept.number pairs_there
    shows_behind =
        subst (λ ls. ShowsLines (h ++ ls) (whole_behind whole) f.kept.number pairs_there) (all_taken (lines_in w m))
        (subst (λ x. ShowsLines (lines_to w h m (length (lines_in w m))) x f.kept.number pairs_there) at_end
        (shows parts.runs w h m (length (lines_in w m)) f behind_file s pairs followed parts.shown shows_file_behind))

    tied_behind : AreTied (move w m).world (h ++ lines_in w m) (whole_behind whole) f.kept.number pairs_there
    tied_behind =
        subst (λ ls. AreTied (move w m).world (h ++ ls) (whole_behind whole) f.kept.number pairs_there) (all_taken (lines_in w m))
        (subst (λ x. AreTied (move w m).world (lines_to w h m (length (lines_in w m))) x f.kept.number pairs_there) at_end
        ((kept parts.runs w h m (length (lines_in w m)) f behind_file s pairs followed parts.shown).tied refl))

    writes_behind : WritesAreTied (move w m).world (h ++ lines_in w m) (whole_behind whole) behind_file pairs_there
    unfolding cut
    writes_behind =
        subst (λ ls. WritesAreTied (move w m).world (h ++ ls) (whole_behind whole) behind_file pairs_there)
        (all_taken (lines_in w m))
        (subst (λ x. WritesAreTied (move w m).world (lines_to w h m (length (lines_in w m))) x behind_file pairs_there) at_end
        (parts.shown.writes w h m f behind_file s pairs
        (cut parts.runs w h m (length (lines_in w m)) f behind_file s pairs followed) stands.tied stands.writes
        (kept parts.runs w h m (length (lines_in w m)) f behind_file s pairs followed parts.shown)))

    number : behind_file.kept.number ≡ f.kept.number
    number = number_at (move w m).world.server.files f.kept.number behind_file followed.follows.goes

    whole_there : StandsBehind w (h ++ lines_in w m) f s m
    whole_there = record {
      bytes = owed followed.follows.related;
      pairs = pairs_there;
      file = behind_file;
      number = number;
      stands = record {
        there = subst (λ n. file_at (move w m).world.server.files n ≡ Some behind_file) (sym number) followed.follows.goes;
        run = run_behind;
        related = record {
          kept_file = behind_file;
          there = subst (λ n. file_at (move w m).world.server.files n ≡ Some behind_file) (sym number) followed.follows.goes;
          related = related parts.relation w h m f behind_file s whole run_behind;
        };
        shown = subst (λ n. ShowsLines (h ++ lines_in w m) (whole_behind whole) n pairs_there) (sym number) shows_behind;
        over =
            earlier_over parts.world.shown w h m f behind_file s whole run_behind
            (parts.relation.components w h m f behind_file s whole) (parts.relation.kept.kept w h m f behind_file s whole);
        tied = subst (λ n. AreTied (move w m).world (h ++ lines_in w m) (whole_behind whole) n pairs_there) (sym number)
            tied_behind;
        writes = writes_behind;
      };
    }

  pub each_move_goes_on : EachMoveGoesOn
  each_move_goes_on w h more m next calm f s pairs stands =
      let is : more ≡ lines_in w m = next.lines in
      subst (λ ls. StandsBehind w (h ++ ls) f s m) (sym is)
      (whole_there w h m (record { moment = next.moment; is_due = next.is_due; lines = refl })
      (subst (λ ls. IsCalmHistory (h ++ ls)) is calm) f s pairs stands)
