-- No object of a component that isn't missing has a tag behind its file's, from each moment to the next.
use Rattle.std.proofs.Common.{◌≡◌, ◌⊎◌, ◌<◌, ◌^◌, ◌++◌, ◌+◌, ℕ, Bool, true, false, length, List, [], Option, Some, sym, ap, subst, arith, inl, inr}
use Rattle.std.proofs.lemmas.Bool.{cases_Bool}
use Rattle.std.proofs.lemmas.List.{append-nil}
use Rattle.osd_lists.specs.declared.node.Node.TheVariants as node
use Rattle.scenario_text.specs.declared.line.Line.{Line}
use Rattle.server_rules.specs.History.{Input, Hears}
use Rattle.server_rules.specs.Laws.{In}
use Rattle.server_rules.specs.Messages.{Replies as RepliesTo, awaited_by, counters_have_room}
use Rattle.server_rules.proofs.Members.{one_in}
use Rattle.world_history.specs.ServerNames.{Server, File, Component}
use Rattle.world_history.specs.State.{World, DriveAt, at_number, empty_world}
use Rattle.world_history.specs.Moves.{acts}
use Rattle.history_law.specs.Moves.{down_behind}
use Rattle.world_history.specs.Sending.{Move, move}
use Rattle.world_history.specs.Plans.{due}
use Rattle.world_history.specs.History.{OneEventMore}
use Rattle.history_law.proofs.DriveEvents.{IsRead}
use Rattle.history_law.proofs.DriveLines.{drive_read}
use Rattle.history_law.proofs.Each.{EachBehind}
use Rattle.history_law.proofs.Histories.{stands}
use Rattle.history_law.proofs.Spending.{all_spend}
use Rattle.history_law.specs.BookMoments.{IsMoment, lines_in, plan_at}
use Rattle.history_law.specs.Fencing.{Reached, AreFencing, IsHeardTruly}
use Rattle.history_law.proofs.JobFiles.{found_file}
use Rattle.history_law.specs.Reaching.{has_reached, reached_in, OwnAt}
use Rattle.history_law.proofs.Ending.{next_moment, own_each, at_moment, fits_reached}
use Rattle.history_law.proofs.Heard.{heard_reached}
use Rattle.history_law.proofs.Holding.{Holds}
use Rattle.history_law.proofs.FencingMoves.{IsSent}
use Rattle.history_law.specs.Unforged.{AreUnforged}
use Rattle.history_law.proofs.Unforged.{unforged_front}
use Rattle.history_law.specs.Holder.{UnforgedHolderIsServer}
use Rattle.exchange_law.proofs.Knowing.{lawful_at}
use Rattle.exchange_law.proofs.Replied.{read_at}
use Rattle.exchange_law.proofs.SlotMoments.{always}
use Rattle.component_law.specs.Naming.{IsNamed, AreNamed}
use Rattle.exchange_law.specs.Text.{AreOfText, AreFew}
use Rattle.exchange_law.specs.Files.{ComponentFits, KeptFits, AllFilesFit}
use Rattle.exchange_law.specs.Counters.{ServerIsCounted}
use Rattle.exchange_law.proofs.CountGrowing.{as_many, fewer, text_front}
use Rattle.exchange_law.proofs.CountWorlds.{few_have_room}
use Rattle.component_law.specs.Tagged.{NoCommandIsAhead}
use Rattle.component_law.specs.Origin.{EachTagWasSent}
use Rattle.component_law.specs.Standing.{IsCreating, IsCutOff, IsThere, IsSettled, StandsBy, AreStanding, AreMadeTruly, EachStepStands}
use Rattle.component_law.specs.First.{CreatesAreFirst}
use Rattle.component_law.specs.Sent.{ServerSentItsRun}
use Rattle.component_law.proofs.Doing.{Does, Rests, Serves, does}
use Rattle.component_law.proofs.Moments.{each_first, each_second, named_action, allowed_at}
use Rattle.component_law.specs.Least.{NoTagIsBehind}
use Rattle.component_law.proofs.There.{any_stays}
use Rattle.component_law.proofs.TagTags.{made_reached}

-- ---- all moves

-- each file stands so behind the lines, where these are of a scenario's text and nothing is forged
abbrev pub Stand : World → List Line → Type 0
Stand w h =
    AreNamed h → AreOfText h → AreFew h → AreUnforged h → AreStanding w.down (reached_in h) w.server.files

module _ (run : ServerSentItsRun) (given : EachTagWasSent) (ahead : NoCommandIsAhead) (files : AllFilesFit)
    (counted : ServerIsCounted) (holder : UnforgedHolderIsServer) (stands_on : EachStepStands)
    (first : CreatesAreFirst) where
  module _ (w : World) (h : List Line) (k : IsMoment w h) (m : Move) (d : due (plan_at k) w ≡ Some m.action)
      (before : Stand w h) (named : AreNamed (h ++ lines_in w m)) (text : AreOfText (h ++ lines_in w m))
      (few : AreFew (h ++ lines_in w m)) (fair : AreUnforged (h ++ lines_in w m)) where
    abbrev R : Reached
    R = reached_in (h ++ lines_in w m)

    -- so it is of the lines before the move
    named_before : AreNamed h
    named_before = each_first IsNamed h (lines_in w m) named

    text_before : AreOfText h
    text_before = text_front h (lines_in w m) text

    few_before : AreFew h
    few_before = fewer h (lines_in w m) few

    fair_before : AreUnforged h
    fair_before = unforged_front h (lines_in w m) fair

    own : EachBehind OwnAt [] h
    own = own_each [] h (holder h (lawful_at w h k) fair_before)

    now : Holds w h
    now = at_moment w h k

    read : IsRead (move w m).world (h ++ lines_in w m)
    read = read_at (move w m).world (h ++ lines_in w m) (next_moment w h k m d)

    -- what was reached before the move is so behind it
    stays : (drive object tag : ℕ) → reached_in h drive object tag ≡ true → R drive object tag ≡ true
    stays drive object tag e =
        any_stays (h ++ lines_in w m) h (lines_in w m) [] (all_spend (h ++ lines_in w m) read.lines)
        (ap (λ (l : List Line). h ++ l) (sym (append-nil (lines_in w m)))) drive object tag e

    fencing : AreFencing R w.server.files
    fencing f i e =
        let was = now.fences own f i e in
        record {
          raises = was.raises;
          each = λ at j there. elim (was.each at j there) [
            | inl asked ↦ inl asked
            | inr reached ↦ inr (stays at.drive at.object (f.kept.tag + 1) reached)
          ];
        }

    there_on : (f : File) (drive object : ℕ) → IsThere (reached_in h) f drive object → IsThere R f drive object
    there_on f drive object (inl asked) = inl asked
    there_on f drive object (inr reached) = inr (stays drive object f.kept.tag reached)

    settled_on : (f : File) → IsSettled (reached_in h) f → IsSettled R f
    settled_on f was = record {
      made = λ ready at j there. stays at.drive at.object f.kept.tag (was.made ready at j there);
      unmade = was.unmade;
    }

    stands_by : (down : Bool) (f : File) → StandsBy down (reached_in h) f → StandsBy down R f
    stands_by true f was = record { settled = settled_on f was.settled; quiet = was.quiet }
    stands_by false f was = record {
      settled = settled_on f was.settled;
      makes = was.makes;
      quiet = was.quiet;
      creates = was.creates;
      each = λ at j there. there_on f at.drive at.object (was.each at j there);
      target = λ t is. there_on f t.drive t.object (was.target t is);
    }

    standing : AreStanding w.down R w.server.files
    standing f i = stands_by w.down f (before named_before text_before few_before fair_before f i)

    heard_truly : (i : Input) → IsSent w i → IsHeardTruly R w.server i
    heard_truly i sent = record {
      alone = now.numbers.alone;
      tells = λ time d r is low f j a l raises answer done.
          let s : IsSent w (Hears time (node.Drive d) (RepliesTo r)) = subst (IsSent w) is sent in
          stays a.drive a.command.object (f.kept.tag + 1)
          (heard_reached w h now.read now.numbers own low d s.0 s.1 s.2 s.3 s.4 r s.5 f j a l raises answer done);
    }

    made_truly : (i : Input) → IsSent w i → AreMadeTruly R w.server i
    made_truly i sent = λ time d r is low f j a l creates answer done.
        let s : IsSent w (Hears time (node.Drive d) (RepliesTo r)) = subst (IsSent w) is sent in
        stays a.drive a.command.object f.kept.tag
        (made_reached run given ahead files counted first w h k now.numbers named_before text_before few_before
        fair_before f j a l creates.action low d s.0 s.1 s.2 s.3 s.4 r s.5 answer done)

    -- the server's counters have room
    room : counters_have_room w.server ≡ true
    room =
        few_have_room w.server (length w.network.messages) (counted w h k text_before)
        (omega (arith, as_many w h (read_at w h k), few_before))

    by_does : Does w m.chosen (acts w m.chosen m.action)
        → AreStanding (move w m).world.down R (move w m).world.server.files
    by_does (Rests same as_down tells) =
        subst (λ (b : Bool). AreStanding b R (move w m).world.server.files) (sym as_down)
        (subst (λ (s : Server). AreStanding w.down R s.files) (sym same) standing)
    by_does (Serves i comes goes as_down tells) =
        subst (λ (b : Bool). AreStanding b R (move w m).world.server.files) (sym as_down)
        (subst (λ (s : Server). AreStanding (down_behind w.down i) R s.files) (sym goes)
        (stands_on R w.server w.down m.chosen i comes.turn (λ is. room) fencing standing (heard_truly i comes.sent)
        (made_truly i comes.sent)))

    stands_behind : AreStanding (move w m).world.down R (move w m).world.server.files
    stands_behind =
        by_does (does w m.chosen m.action
        (named_action m.action (move w m).lines (each_second IsNamed h (lines_in w m) named))
        (allowed_at w h k m.action d))

  at_first : Stand empty_world []
  at_first named text few fair f i = absurd i

  -- ---- at each moment

  module _ (more : OneEventMore) where
    -- what is reached of a component's object is so at its drive
    pub reached_there : (w : World) (h : List Line) (k : IsMoment w h) → AreOfText h → AreFew h → (f : File)
        → In f w.server.files → (at : Component) → In at f.kept.components
        → reached_in h at.drive at.object f.kept.tag ≡ true
        → has_reached at.object f.kept.tag (at_number w.drives at.drive) ≡ true
    reached_there w h k text few f i at j e =
        let read = read_at w h k in
        let fits : KeptFits w.server.next_object f.kept =
        one_in (λ (y : File). KeptFits w.server.next_object y.kept) w.server.files f (files w h k text) i in
        let object : ComponentFits w.server.next_object at =
        one_in (ComponentFits w.server.next_object) f.kept.components at fits.components j in
        let next : w.server.next_object < 2 ^ 64 =
        omega (arith, (counted w h k text).objects, as_many w h read, few) in
        subst (λ (o : Option DriveAt). has_reached at.object f.kept.tag o ≡ true)
        (drive_read w read.injected h at.drive read.drives)
        (fits_reached at.object f.kept.tag _ (omega (arith, object.object, next)) (omega (arith, fits.tag)) e)

    -- up, the component has its object, or gets it; down, it has it once the file is ready
    is_there : (w : World) (h : List Line) (k : IsMoment w h) → AreOfText h → AreFew h → (f : File)
        → In f w.server.files → (at : Component) → In at f.kept.components → at.missing ≡ false → (down : Bool)
        → StandsBy down (reached_in h) f
        → IsCreating (awaited_by f.job) at.drive at.object f.kept.tag
        ⊎ (has_reached at.object f.kept.tag (at_number w.drives at.drive) ≡ true) ⊎ IsCutOff f
    is_there w h k text few f i at j there false stands = elim (stands.each at j there) [
      | inl creating ↦ inl creating
      | inr reached ↦ inr (inl (reached_there w h k text few f i at j reached))
    ]
    is_there w h k text few f i at j there true stands = elim (cases_Bool f.kept.ready) [
      | inl ready ↦
          inr (inl (reached_there w h k text few f i at j (stands.settled.made ready at j there)))
      | inr unready ↦ inr (inr (unready, stands.quiet))
    ]

    pub stand_at : (w : World) (h : List Line) → IsMoment w h → Stand w h
    stand_at w h k = always Stand (record {
      starts = at_first;
      moves = λ v g l m d before named_g text_g few_g fair_g.
          stands_behind v g l m d before named_g text_g few_g fair_g;
    }) more w h k

    pub no_tag_is_behind : NoTagIsBehind
    no_tag_is_behind w h k named text few fair n f there at j stays_there =
        let i : In f w.server.files = (found_file w.server.files n f there).0 in
        is_there w h k text few f i at j stays_there w.down (stand_at w h k named text few fair f i)
