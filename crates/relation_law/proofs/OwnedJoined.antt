-- Behind a whole move what may still come to a component is of the file's repair.
-- Towards `JobsGoOn` (`relation_law`).
use Rattle.std.proofs.Common.{◌≡◌, ◌⊎◌, ◌||◌, ◌&&◌, ◌++◌, ℕ, ◌<◌, ◌^◌, Bool, true, false, not, nat_lt, length, map, List, [], ◌∷◌, slice_get, Option, Some, None, refl, sym, ap, subst, ◌∙◌, inl, inr, arith}
use Rattle.std.specs.Prelude.{take}
use Rattle.std.proofs.lemmas.Bool.{cases_eq}
use Rattle.std.proofs.lemmas.Bool.Decides.{nat_tests}
use Rattle.std.proofs.lemmas.Option.{same_Some}
use Rattle.osd_lists.specs.declared.node.Node.TheVariants as node
use Rattle.osd_commands.specs.declared.actions.Action.TheVariants as action
use Rattle.osd_commands.specs.declared.commands.Command.{Command}
use Rattle.scenario_text.specs.declared.line.Line.{Line}
use Rattle.server_rules.specs.Files.{file_at}
use Rattle.server_rules.specs.History.{Input, Hears, step, state_after, Act as ServerAct}
use Rattle.server_rules.specs.Laws.{In}
use Rattle.server_rules.specs.Making.{new_server}
use Rattle.server_rules.specs.Messages.{Replies, awaited_by, counters_have_room}
use Rattle.server_rules.proofs.FileLaws.{number_at}
use Rattle.server_rules.proofs.Members.{in_either, in_map}
use Rattle.history_law.specs.Names.{Server, File, Repairing, Component, Awaited, Job, Target, Work, Creates, Fences, Fetches, Stores, Targets, Gathers, Fills, Lengths, Checks, Fenced, ToDrive}
use Rattle.history_law.specs.Fencing.{IsHeardTruly, FencesHold}
use Rattle.history_law.specs.Numbered.{Awaits, IsOf}
use Rattle.history_law.proofs.JobSteps.{fences_wait}
use Rattle.world_history.specs.declared.messages.Body.TheVariants.{Command as OfCommand}
use Rattle.world_history.specs.Handed.{Post}
use Rattle.world_history.specs.Moves.{Act, acts}
use Rattle.world_history.specs.ReadDrives.{drive_after}
use Rattle.world_history.specs.Sending.{Move, move}
use Rattle.world_history.specs.State.{World, at_number}
use Rattle.history_law.specs.BookMoments.{IsMoment, lines_in}
use Rattle.history_law.specs.Spent.{IsSpent}
use Rattle.history_law.specs.Unforged.{UnguessedAreUnforged}
use Rattle.history_law.proofs.Coming.{clean_front}
use Rattle.history_law.proofs.DriveLines.{drive_read}
use Rattle.history_law.proofs.Each.{EachBehind}
use Rattle.component_law.specs.Distinct.{AreDistinct}
use Rattle.component_law.specs.Sound.{IsSound}
use Rattle.component_law.proofs.Making.{each_step_is_sound}
use Rattle.component_law.specs.Tags.{EachStepRaisesTags}
use Rattle.exchange_law.specs.Files.{AllFilesFit, KeptFits}
use Rattle.exchange_law.proofs.CountMoments.{reached}
use Rattle.exchange_law.proofs.Knowing.{lawful_at}
use Rattle.exchange_law.proofs.Parts.{each_in}
use Rattle.history_law.specs.Holder.{UnforgedHolderIsServer}
use Rattle.history_law.specs.Reaching.{has_reached, is_spellable, reached_in, OwnAt}
use Rattle.history_law.proofs.Heard.{heard_reached}
use Rattle.history_law.proofs.FencingMoves.{messages_in, IsSent, Acts, Others, Serves, each_acts}
use Rattle.history_law.proofs.Numbers.{to_drive, sent_anew, none_anew, messages_sent}
use Rattle.history_law.proofs.Reaching.{reached_spent}
use Rattle.history_law.proofs.Ending.{own_each}
use Rattle.component_law.specs.Objects.{target_in, target_of, IsOwned}
use Rattle.component_law.specs.Tagged.{AreNamedActs}
use Rattle.fence_law.specs.State as machine
use Rattle.file_simulation.specs.Claim.{IsOfScenario}
use Rattle.file_simulation.specs.Components.{has_failed, AreComponents}
use Rattle.file_simulation.specs.Jobs.{IsFresh, AreOwned, IsInPiece, IsOfPhase, IsOfJob, IsOfWork}
use Rattle.file_simulation.specs.Messages.{HasCommanded}
use Rattle.component_law.specs.KeptWalk.{WorkFits}
use Rattle.relation_law.specs.Steps.{FollowsWhole, whole_behind, ComponentsGoOn}
use Rattle.relation_law.proofs.ComponentsRaised.{behind_file}
use Rattle.relation_law.proofs.ComponentsWorld.{laid_out}
use Rattle.relation_law.proofs.DriveMoves.{got_in}
use Rattle.relation_law.proofs.FramesFiles.{files_distinct}
use Rattle.relation_law.proofs.KeptServer.{at_place}
use Rattle.relation_law.specs.Awaiting.{IsOfComponent, IsOfTarget, IsAskedIn, FitsIn}
use Rattle.relation_law.specs.Joined.{NewAreSpent, RebuiltAreSpent}
use Rattle.relation_law.specs.Owning.{IsOld, EndsFence}
use Rattle.relation_law.proofs.Followed as followed
use Rattle.relation_law.proofs.Growing.{drives_grow, spent_grows}
use Rattle.relation_law.proofs.Hearing.{low_nonce}
use Rattle.relation_law.proofs.OwnedBefore.{none_at, coming, not_lost, OwnedLaws, run, room, held, work_fits, owns, fits_in, ready_before}
use Rattle.relation_law.proofs.OwningSteps.{owned_go_on}
use Rattle.relation_law.proofs.Sending.{each_send_is_awaited}

-- ---- small facts

pub old_or_new : (f : File) (n : ℕ) (at : Component) → IsOld f n at ⊎ (IsOld f n at → ⊥)
old_or_new f n at = by_place (slice_get f.kept.components n) refl
  where
    by_place : (o : Option Component) → slice_get f.kept.components n ≡ o → IsOld f n at ⊎ (IsOld f n at → ⊥)
    by_place None none = inr (λ old. cc (sym none ∙ old.1))
    by_place (Some b) there = elim (cases_eq b.object at.object) [
      | inl same ↦ inl (b, there, same)
      | inr other ↦ inr (λ old.
          other (ap (λ (y : Component). y.object) (same_Some b old.0 (sym there ∙ old.1)) ∙ old.2))
    ]

sound_over : (s : Server) (acts : List ServerAct) → AreNamedActs acts → IsSound s → IsSound (state_after s acts)
sound_over s [] named sound = sound
sound_over s (a ∷ acts) named sound =
    sound_over (step s a.chosen a.input).state acts named.1 (each_step_is_sound s a.chosen a.input sound named.0)

reached_by_fit : (b c : Bool) → b ≡ true → (not b || c) ≡ true → c ≡ true
reached_by_fit true c is e = e
reached_by_fit false c is e = absurd (cc is)

spells : (object tag : ℕ) → object < 2 ^ 64 → tag < 2 ^ 32 → is_spellable object tag ≡ true
spells object tag small low =
    both (nat_lt object (2 ^ 64)) (nat_lt tag (2 ^ 32)) (grind (arith, small, nat_tests)) (grind (arith, low, nat_tests))
  where
    both : (a b : Bool) → a ≡ true → b ≡ true → (a && b) ≡ true
    both true b x y = y
    both false b x y = absurd (cc x)

-- what is known of the world
pub record JoinLaws : Type 0 where
  pub world : OwnedLaws
  pub fits : AllFilesFit
  pub unforged : UnguessedAreUnforged
  pub holder : UnforgedHolderIsServer
  pub raises : EachStepRaisesTags

module _ (laws : JoinLaws) (w : World) (h : List Line) (m : Move) (f g : File) (s : machine.State)
    (k : FollowsWhole w h m f g s) where
  abbrev v : World
  v = (move w m).world

  abbrev a : Act
  a = acts w m.chosen m.action

  abbrev lines : List Line
  lines = lines_in w m

  abbrev before : IsMoment w h
  before = k.follows.moment

  behind : IsMoment v (h ++ lines)
  behind = followed.behind w h m f g s k

  later : IsOfScenario (h ++ lines)
  later = followed.later w h m f g s k

  scenario : IsOfScenario h
  scenario = followed.scenario w h m f g s k

  in_before : In f w.server.files
  in_before = followed.in_before w h m f g s k

  in_behind_ : In g v.server.files
  in_behind_ = followed.in_behind w h m f g s k

  apart_behind : AreDistinct v.server.files
  apart_behind = files_distinct v (reached v (h ++ lines) behind)

  -- a file with that number is this one
  pub same_file : (x : File) → In x v.server.files → x.kept.number ≡ g.kept.number → x ≡ g
  same_file x i number =
      same_Some x g (sym (at_place v.server.files x apart_behind i) ∙ ap (file_at v.server.files) number
      ∙ at_place v.server.files g apart_behind in_behind_)

  -- what is unspent behind the move was so before
  pub unspent_before : (d : ℕ) (x : Command) → (IsSpent (at_number v.drives d) x → ⊥) → IsSpent (at_number w.drives d) x → ⊥
  unspent_before d x unspent spent =
      unspent (spent_grows (at_number w.drives d) (at_number v.drives d) x
      (drives_grow w h before m k.follows.is_due d) spent)

  pub sent_either : (d : ℕ) (x : Command) → HasCommanded v d x → messages_in a.world ≡ messages_in w →
      HasCommanded w d x ⊎ In (to_drive d (OfCommand x)) (map (λ (p : Post). p.message) a.posts)
  sent_either d x sent same =
      elim (in_either (to_drive d (OfCommand x)) (messages_in a.world) (map (λ (p : Post). p.message) a.posts)
      (subst (In (to_drive d (OfCommand x))) (messages_sent a.world.network.messages a.posts) sent)) [
        | inl old ↦ inl (subst (In (to_drive d (OfCommand x))) same old)
        | inr new ↦ inr new
      ]

  -- a WRITE that a repair sends in the move, to component n
  pub record IsSentNow (n : ℕ) (x : Command) : Type 0 where
    pub repairs : g.kept.phase ≡ Repairing
    pub job : Job
    pub runs : g.job ≡ Some job
    pub own : IsOfWork g.kept.map job.awaited n x job.work

  is_now : (n : ℕ) (x : Command) → IsSentNow n x → IsOfPhase g n x g.kept.phase
  is_now n x now =
      subst (IsOfPhase g n x) (sym now.repairs)
      (subst (λ (o : Option Job). IsOfJob g.kept.map n x o) (sym now.runs) now.own)

  -- ---- the end of a fence

  pub own : EachBehind OwnAt [] h
  own =
      let lawful = lawful_at w h before in
      own_each [] h (laws.holder h lawful (laws.unforged h lawful (clean_front h (take (length lines) lines)
      k.follows.calm.is_unguessed)))

  module _ (chosen : List ℕ) (i : Input) (sent : IsSent w i) (goes_on : v.server ≡ (step w.server chosen i).state) where
    heard_truly : IsHeardTruly (reached_in h) w.server i
    heard_truly = record {
      alone = (held laws.world w h before scenario).numbers.alone;
      tells = λ now d r is low x j b l raises answer done.
          let p : IsSent w (Hears now (node.Drive d) (Replies r)) = subst (IsSent w) is sent in
          heard_reached w h (held laws.world w h before scenario).read (held laws.world w h before scenario).numbers own
          low d p.0 p.1 p.2 p.3 p.4 r p.5 x j b l raises answer done;
    }

    fences_hold : FencesHold (reached_in h) (step w.server chosen i)
    fences_hold =
        fences_wait (reached_in h) w.server chosen i ((held laws.world w h before scenario).fences own) heard_truly

    pub sound_before : IsSound w.server
    sound_before =
        let r = run laws.world w h before scenario in
        let first : IsSound (new_server []) =
        record { distinct = tt; components = tt; aimed = tt; files = tt; drives = tt }
        in subst IsSound (sym r.server) (sound_over (new_server []) r.acts r.named first)

    -- where a fence of the file is over, what was sent before is spent
    pub ended_spent : EndsFence f.kept.number (step w.server chosen i).notes → (n : ℕ) (at : Component) (x : Command) →
        slice_get g.kept.components n ≡ Some at → at.missing ≡ false → IsOld f n at → HasCommanded w at.drive x →
        x.object ≡ at.object → IsSpent (at_number w.drives at.drive) x
    ended_spent (tag, note) n at x there stands old before_ object =
        let r = fences_hold.fenced (record { file = f.kept.number; kind = Fenced tag }) tag note refl in
        let same : r.0 ≡ g =
        same_file r.0 (subst (λ (y : Server). In r.0 y.files) (sym goes_on) r.1) (r.2 ∙ sym number) in
        let tag_is : g.kept.tag ≡ tag = ap (λ (y : File). y.kept.tag) (sym same) ∙ r.3 in
        let raised : reached_in h at.drive at.object tag ≡ true =
        r.4 at (subst (λ (y : File). In at y.kept.components) (sym same) (got_in g.kept.components n at there)) stands in
        let mine = (owns laws.world w h before scenario).1 f in_before in
        let used : at.object < w.server.next_object =
        subst (λ (o : ℕ). o < w.server.next_object) old.2
        (mine.components old.0.object (in_map (λ (y : Component). y.object) old.0 f.kept.components
        (got_in f.kept.components n old.0 old.1))).0 in
        let low = low_object (room laws.world w h before scenario) in
        let fit : KeptFits v.server.next_object g.kept =
        each_in (λ (y : File). KeptFits v.server.next_object y.kept) v.server.files g
        (laws.fits v (h ++ lines) behind later.text) in_behind_ in
        let here : has_reached at.object tag (drive_after h at.drive) ≡ true =
        reached_by_fit (is_spellable at.object tag) _
        (spells at.object tag (omega (arith, used, low)) (omega (arith, fit.tag, tag_is))) raised in
        let now : has_reached at.object tag (at_number w.drives at.drive) ≡ true =
        ap (has_reached at.object tag) (sym (drive_read w (held laws.world w h before scenario).read.injected h at.drive
        (held laws.world w h before scenario).read.drives)) ∙ here in
        let behind_ =
        behind_file laws.world.ahead w (run laws.world w h before scenario) f k.follows.there at.drive n x old.0 before_
        old.1 (object ∙ sym old.2) in
        let rises = (laws.raises w.server chosen i sound_before f.kept.number f k.follows.there).later tag note in
        reached_spent (at_number w.drives at.drive) at.object tag x now object (omega (arith, behind_.0, rises))
      where
        number : g.kept.number ≡ f.kept.number
        number = number_at v.server.files f.kept.number g k.follows.goes

        low_object : counters_have_room w.server ≡ true → w.server.next_object < 2 ^ 63
        low_object e = (low_nonce w e).1

    -- ---- what is sent in the step

    pub sent_now : (n : ℕ) (at : Component) (x : Command) → slice_get g.kept.components n ≡ Some at → x.action ≡ action.Write →
        x.object ≡ at.object → In (ToDrive at.drive x) (step w.server chosen i).sends → IsSentNow n x
    sent_now n at x there write object among =
        let r = each_send_is_awaited w.server chosen i at.drive x among in
        let waits : Awaits v.server.files r.0 = subst (λ (y : Server). Awaits y.files r.0) (sym goes_on) r.2 in
        by_file r.0 r.1 waits.0 waits.1 waits.0.job refl waits.2
      where
        all : (owner : ℕ → ℕ) × ((y : File) → In y v.server.files → IsOwned owner v.server.next_object y)
        all = owns laws.world v (h ++ lines) behind later

        its_number : all.0 at.object ≡ g.kept.number
        its_number =
            ((all.1 g in_behind_).components at.object (in_map (λ (y : Component). y.object) at g.kept.components
            (got_in g.kept.components n at there))).1

        by_work : (b : Awaited) → IsOf at.drive x b → (j : Job) → g.job ≡ Some j → In b j.awaited → (work : Work) →
            j.work ≡ work → IsAskedIn g.kept work b → IsSentNow n x
        by_work b of j runs waits Creates is asked =
            absurd (cc (sym asked.action_is ∙ ap (λ (c : Command). c.action) (sym of.1) ∙ write))
        by_work b of j runs waits Fences is asked =
            absurd (cc (sym asked.action_is ∙ ap (λ (c : Command). c.action) (sym of.1) ∙ write))
        by_work b of j runs waits (Fetches [] short) is asked = absurd asked
        by_work b of j runs waits (Fetches (p ∷ ps) short) is asked =
            absurd (cc (sym asked.action_is ∙ ap (λ (c : Command). c.action) (sym of.1) ∙ write))
        by_work b of j runs waits (Stores [] short q) is asked = absurd asked
        by_work b of j runs waits (Stores (p ∷ ps) short q) is asked =
            let place : b.component ≡ n =
            (laid_out v (h ++ lines) behind (laws.fits v (h ++ lines) behind later.text)
            (run laws.world v (h ++ lines) behind later) g
            (at_place v.server.files g apart_behind in_behind_)).differ b.component n asked.of.component at asked.of.there
            there (sym asked.of.object ∙ ap (λ (c : Command). c.object) (sym of.1) ∙ object) in
            let repairs : g.kept.phase ≡ Repairing =
            subst (WorkFits g.kept.phase) is (work_fits laws.world v (h ++ lines) behind later g in_behind_ j runs) in
            let inside : IsInPiece g.kept.map p n x =
            subst (λ (y : Command). IsInPiece g.kept.map p n y) (sym of.1)
            (subst (λ (q : ℕ). IsInPiece g.kept.map p q b.command) place asked.inside) in
            record {
              repairs = repairs;
              job = j;
              runs = runs;
              own = subst (λ (y : Work). IsOfWork g.kept.map j.awaited n x y) (sym is) ((b, waits, place, of.1), inside);
            }
        by_work b of j runs waits (Targets t) is asked =
            absurd (cc (sym asked.action_is ∙ ap (λ (c : Command). c.action) (sym of.1) ∙ write))
        by_work b of j runs waits (Gathers t []) is asked = absurd asked
        by_work b of j runs waits (Gathers t (p ∷ ps)) is asked =
            absurd (cc (sym asked.action_is ∙ ap (λ (c : Command). c.action) (sym of.1) ∙ write))
        by_work b of j runs waits (Fills t []) is asked = absurd asked
        by_work b of j runs waits (Fills t (p ∷ ps)) is asked =
            absurd (none_at t.object g.kept.components n at
            ((all.1 g in_behind_).apart t (ap target_of runs ∙ ap target_in is)) there
            (sym object ∙ ap (λ (c : Command). c.object) of.1 ∙ asked.of.object))
        by_work b of j runs waits Lengths is asked =
            absurd (cc (sym asked.action_is ∙ ap (λ (c : Command). c.action) (sym of.1) ∙ write))
        by_work b of j runs waits (Checks [] t) is asked = absurd asked
        by_work b of j runs waits (Checks (p ∷ ps) t) is asked =
            absurd (cc (sym asked.action_is ∙ ap (λ (c : Command). c.action) (sym of.1) ∙ write))

        by_owner : (b : Awaited) → IsOf at.drive x b → (y : File) → In y v.server.files → (j : Job) → y.job ≡ Some j →
            In b j.awaited → y.kept.number ≡ g.kept.number → IsSentNow n x
        by_owner b of y i_ j runs waits number =
            let same : y ≡ g = same_file y i_ number in
            let runs_ : g.job ≡ Some j = ap (λ (z : File). z.job) (sym same) ∙ runs in
            by_work b of j runs_ waits j.work refl
            ((subst (FitsIn g.kept) runs_ (fits_in laws.world v (h ++ lines) behind later g in_behind_)).asked b waits)

        of_component : (b : Awaited) → IsOf at.drive x b → (y : File) → In y v.server.files →
            IsOfComponent y.kept.components b → y.kept.number ≡ g.kept.number
        of_component b of y i_ c =
            sym ((all.1 y i_).components c.component.object
            (in_map (λ (z : Component). z.object) c.component y.kept.components
            (got_in y.kept.components b.component c.component c.there))).1
            ∙ ap all.0 (sym c.object ∙ ap (λ (z : Command). z.object) (sym of.1) ∙ object) ∙ its_number

        of_target : (b : Awaited) → IsOf at.drive x b → (y : File) → In y v.server.files → (t : Target) →
            target_of y.job ≡ Some t → IsOfTarget t b → y.kept.number ≡ g.kept.number
        of_target b of y i_ t aim c =
            sym ((all.1 y i_).target t aim).1
            ∙ ap all.0 (sym c.object ∙ ap (λ (z : Command). z.object) (sym of.1) ∙ object) ∙ its_number

        number_by : (b : Awaited) → IsOf at.drive x b → (y : File) → In y v.server.files → (j : Job) → y.job ≡ Some j →
            (work : Work) → j.work ≡ work → IsAskedIn y.kept work b → y.kept.number ≡ g.kept.number
        number_by b of y i_ j runs Creates is asked = of_component b of y i_ asked.of
        number_by b of y i_ j runs Fences is asked = of_component b of y i_ asked.of
        number_by b of y i_ j runs (Fetches [] short) is asked = absurd asked
        number_by b of y i_ j runs (Fetches (p ∷ ps) short) is asked = of_component b of y i_ asked.of
        number_by b of y i_ j runs (Stores [] short q) is asked = absurd asked
        number_by b of y i_ j runs (Stores (p ∷ ps) short q) is asked = of_component b of y i_ asked.of
        number_by b of y i_ j runs (Targets t) is asked =
            of_target b of y i_ t (ap target_of runs ∙ ap target_in is) asked.of
        number_by b of y i_ j runs (Gathers t []) is asked = absurd asked
        number_by b of y i_ j runs (Gathers t (p ∷ ps)) is asked = of_component b of y i_ asked.of
        number_by b of y i_ j runs (Fills t []) is asked = absurd asked
        number_by b of y i_ j runs (Fills t (p ∷ ps)) is asked =
            of_target b of y i_ t (ap target_of runs ∙ ap target_in is) asked.of
        number_by b of y i_ j runs Lengths is asked = of_component b of y i_ asked.of
        number_by b of y i_ j runs (Checks [] t) is asked = absurd asked
        number_by b of y i_ j runs (Checks (p ∷ ps) t) is asked = of_component b of y i_ asked.of

        by_file : (b : Awaited) → IsOf at.drive x b → (y : File) → In y v.server.files → (o : Option Job) → y.job ≡ o →
            In b (awaited_by y.job) → IsSentNow n x
        by_file b of y i_ None none waits =
            absurd (subst (λ (o : Option Job). In b (awaited_by o)) none waits)
        by_file b of y i_ (Some j) runs waits =
            let here : In b j.awaited = subst (λ (o : Option Job). In b (awaited_by o)) runs waits in
            by_owner b of y i_ j runs here
            (number_by b of y i_ j runs j.work refl
            ((subst (FitsIn y.kept) runs (fits_in laws.world v (h ++ lines) behind later y i_)).asked b here))

  -- ---- the move

  module _ (components : AreComponents (whole_behind k) v g) (new : NewAreSpent v f g) where
    first_false : (p q : Bool) → (p || q) ≡ false → p ≡ false
    first_false true q e = absurd (cc e)
    first_false false q e = refl

    present : (n : ℕ) (x : Command) → (y : IsFresh (whole_behind k) v g n x) → y.component.missing ≡ false
    present n x y =
        first_false y.component.missing (has_failed (at_number v.drives y.component.drive))
        (sym ((components n y.component y.there).lost) ∙ y.stands)

    by_act : Acts w a.world a.told a.posts → AreOwned (whole_behind k) v g
    by_act (Others server messages told others) n x fresh =
        let same : f ≡ g =
        same_Some f g (sym k.follows.there ∙ ap (λ (y : Server). file_at y.files f.kept.number) (sym server)
        ∙ k.follows.goes) in
        let there : slice_get f.kept.components n ≡ Some fresh.component =
        subst (λ (y : File). slice_get y.kept.components n ≡ Some fresh.component) (sym same) fresh.there in
        let unspent = unspent_before fresh.component.drive x fresh.unspent in
        subst (λ (y : File). IsOfPhase y n x y.kept.phase) same
        (k.follows.related.jobs.owned n x (record {
          component = fresh.component;
          there = there;
          sent = elim (sent_either fresh.component.drive x fresh.sent messages) [
            | inl old ↦ old
            | inr now ↦ absurd (none_anew a.posts fresh.component.drive (OfCommand x) others now)
          ];
          write = fresh.write;
          object = fresh.object;
          unspent = unspent;
          stands = (k.follows.related.components n fresh.component there).lost
              ∙ not_lost w fresh.component x (present n x fresh) unspent;
        }))
    by_act (Serves chosen i sent server messages told posts) n x fresh =
        let at : Component = fresh.component in
        let stands = present n x fresh in
        let unspent = unspent_before at.drive x fresh.unspent in
        elim (old_or_new f n at) [
          | inr other ↦ absurd (fresh.unspent (new n at x fresh.there stands other fresh.sent fresh.write fresh.object))
          | inl old ↦ elim (sent_either at.drive x fresh.sent messages) [
            | inr now ↦
                let r = sent_anew (step w.server chosen i).sends at.drive (OfCommand x)
                (subst (λ (ps : List Post). In (to_drive at.drive (OfCommand x)) (map (λ (p : Post). p.message) ps)) posts
                now) in
                let same : x ≡ r.0 = cc r.2 in
                is_now n x (sent_now chosen i sent server n at x fresh.there fresh.write fresh.object
                (subst (λ (c : Command). In (ToDrive at.drive c) (step w.server chosen i).sends) (sym same) r.1))
            | inl earlier ↦ elim (owned_go_on (coming w) w.server chosen i (files_distinct w (reached w h before))
                f.kept.number f g k.follows.there
                (ap (λ (y : Server). file_at y.files f.kept.number) (sym server) ∙ k.follows.goes)
                (ready_before laws.world w h before scenario s f k.follows.there k.follows.related.jobs.owned
                k.follows.related.components i sent)) [
                  | inl ended ↦
                      absurd (unspent (ended_spent chosen i sent server ended n at x fresh.there stands old earlier
                      fresh.object))
                  | inr owned ↦ owned n at x fresh.there stands old (earlier, fresh.write, unspent) fresh.object
                ]
          ]
        ]

-- Whose the commands of jobs are goes on behind each whole move, if all that was sent to a new component is spent.
pub owned_joined : JoinLaws → ComponentsGoOn → RebuiltAreSpent → (w : World) (h : List Line) (m : Move) (f g : File)
    (s : machine.State) → (k : FollowsWhole w h m f g s) → AreOwned (whole_behind k) (move w m).world g
owned_joined laws go_on rebuilt w h m f g s k =
    by_act laws w h m f g s k (go_on w h m f g s k) (rebuilt w h m f g s k) (each_acts w m.chosen m.action)
