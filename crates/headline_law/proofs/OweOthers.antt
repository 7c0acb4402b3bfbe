-- What a repair owes and has done, through a move that isn't of the server.
-- Towards `OweFollows` and `DoneFollows` (`specs/Parts.antt`).
use Rattle.std.proofs.Common.{◌≡◌, ◌⊎◌, ℕ, List, [], ◌∷◌, Bool, true, false, Option, Some, None, refl, sym, ap, subst, ◌∙◌, inl, inr, ◌<◌, length, slice_get, arith, ◌-◌}
use Rattle.scenario_text.specs.declared.line.Line.{Line}
use Rattle.world_history.specs.ServerNames.{File, Job, Piece, Work, Stores, Repairing, Component, Creates, Fences, Fetches, Targets, Gathers, Fills, Lengths, Checks, Awaited, Server}
use Rattle.world_history.specs.State.{World, DriveAt, at_number}
use Rattle.world_history.specs.Sending.{Move, move}
use Rattle.history_law.specs.Doing.{input_in}
use Rattle.fence_law.specs.State.{State, Layout}
use Rattle.file_simulation.specs.Jobs.{AreDue, AreDone, HasColumn, IsDone, IsFresh, IsInPiece, IsOfPhase, IsOfJob, IsOfWork, is_quiet, IsDue}
use Rattle.relation_law.specs.Steps.{FollowsWhole, whole_behind, owed}
use Rattle.std.specs.Prelude.{nat_lt, slice_index}
use Rattle.std.proofs.lemmas.Bool.Decides.{nat_tests}
use Rattle.osd_commands.specs.declared.actions.Action.TheVariants.{Write, SetTag, SetAttr}
use Rattle.osd_commands.specs.declared.commands.Command.{Command}
use Rattle.server_rules.specs.Laws.{In}
use Rattle.exchange_law.specs.Sent.{HasSent}
use Rattle.history_law.specs.Spent.{IsSpent, HasPassed}
use Rattle.osd_lists.proofs.Slices.{some_at}
use Rattle.component_law.proofs.NamedLines.{are_named}
use Rattle.component_law.proofs.Moments.{allowed_at}
use Rattle.fence_law.specs.Columns.{Stands}
use Rattle.plan_law.specs.FileLayout.{column_of_cell}
use Rattle.file_simulation.specs.Components.{AreComponents, object_on, object_of, ObjectIs, IsMade, IsUnmade}
use Rattle.file_simulation.specs.Phases.{PhaseIs, IsRepairing}
use Rattle.relation_law.specs.DriveHearing.{IsLaidOut, IsPerformed, IsOfServer}
use Rattle.relation_law.proofs.Followed as followed
use Rattle.headline_law.specs.OweAsking.{AreSingle, AreInside, AsksIn, AsksOf}
use Rattle.headline_law.proofs.OweAskedRun.{repairs_ask_all}
use Rattle.headline_law.proofs.OweBecomes.{becomes}
use Rattle.headline_law.proofs.OweDrives.{Same, Changed, Turn, Rests, Writes, IsBeside, IsCellOf, turns, rests_same}
use Rattle.headline_law.proofs.OweInto.{short_on}
use Rattle.headline_law.proofs.OweReplicas.{in_columns}
use Rattle.osd_objects.specs.Store.{lane_or_none, object_at}
use Rattle.server_rules.specs.declared.limits.TheConstants.{SERVER_HOLDER}
use Rattle.std.proofs.lemmas.Option.{slice_get_within}
use Rattle.server_rules.specs.Messages.{awaited_by}
use Rattle.history_law.proofs.Spending.{free}
use Rattle.component_law.specs.Naming.{AreNamed}
use Rattle.component_law.specs.Standing.{IsCreate}
use Rattle.relation_law.specs.Awaiting.{IsFit, FitsIn, IsStore, IsAskedIn}
use Rattle.relation_law.proofs.DriveObjects.{sets_tag}
use Rattle.relation_law.proofs.FittingSteps.{jobs_ask}
use Rattle.headline_law.proofs.OweAttrs.{none_sets_attr}
use Rattle.fence_law.specs.Law.{IsCode}
use Rattle.server_rules.specs.Files.{file_at}
use Rattle.plan_law.proofs.Codes.{layouts_are_codes}
use Rattle.file_simulation.specs.ClientEvents.{Going, going_in}
use Rattle.file_simulation.specs.DriveEvents.{drive_events}
use Rattle.file_simulation.specs.Events.{joined, events_of}
use Rattle.relation_law.specs.Frames.{AreAll, IsOfClient}
use Rattle.relation_law.proofs.FramesStay.{all_joined, server_stays_all}
use Rattle.relation_law.proofs.FramesParties.{by_client_lines, client_goes, server_rests}
use Rattle.relation_law.proofs.ComponentsGoOn.{its_events}
use Rattle.relation_law.proofs.KeptGoing.{safe_of}
use Rattle.headline_law.specs.Parts.{PartsBehind}
use Rattle.headline_law.proofs.OweEvents.{drive_owed}
use Rattle.headline_law.proofs.OweMachine.{IsOwed, words_by_drives}
use Rattle.headline_law.proofs.OweLaws.{OweLaws}
use Rattle.headline_law.proofs.OweWords.{KeepsWords, by_drives, word_lasts}

module _ (laws : OweLaws) (w : World) (h : List Line) (m : Move) (f g : File) (s : State) (k : FollowsWhole w h m f g s)
    (b : PartsBehind k) (none : input_in w m.action ≡ None) where
  -- the file is the same
  pub same_file : f ≡ g
  same_file =
      let c = k.follows in
      let same : (move w m).world.server ≡ w.server = server_rests w m none in
      let both : Some f ≡ Some g =
      sym c.there ∙ ap (λ (x : Server). file_at x.files f.kept.number) (sym same) ∙ c.goes in
      cc both

  -- each cell stays, or becomes its word
  pub words_stay : (s.granted_since ≡ false) → KeepsWords (owed k.follows.related) s (whole_behind k)
  words_stay unused = by_going (going_in w m.action) refl
    where
      e : ℕ → ℕ
      e = owed k.follows.related

      of_going : (x : Going) → going_in w m.action ≡ Some x → KeepsWords e s (whole_behind k)
      of_going x is =
          let stay =
          server_stays_all x.client s (joined (events_of s w e f m))
          (all_joined (IsOfClient x.client) (events_of s w e f m) (by_client_lines s w e f m x is)) in
          record {
            layout = stay.layout;
            cell = λ n z. inl (ap (λ (c : ℕ → ℕ → ℕ). c n z) stay.cell);
            gone = stay.gone;
            lost = λ n lost. sym (ap (λ (q : ℕ → Bool). q n) stay.lost) ∙ lost;
          }

      of_drives : going_in w m.action ≡ None → KeepsWords e s (whole_behind k)
      of_drives rests =
          let c = k.follows in
          let code : IsCode s.layout =
          subst IsCode (sym c.related.layout)
          (layouts_are_codes f.kept.map f.kept.first_tag (laws.moves w h m f g s k).laid.checked) in
          let same : joined (events_of s w e f m) ≡ joined (drive_events s w e f m.action) =
          its_events w h m f g s c.moment c.is_due c.there c.run c.related rests none in
          by_drives e s (whole_behind k)
          (words_by_drives e s (joined (events_of s w e f m))
          (subst (AreAll (IsOwed e)) (sym same)
          (all_joined (IsOwed e) (drive_events s w e f m.action) (drive_owed e s w f m.action)))
          k.lawful (safe_of s c.run code) unused)

      by_going : (o : Option Going) → going_in w m.action ≡ o → KeepsWords e s (whole_behind k)
      by_going (Some x) is = of_going x is
      by_going None is = of_drives is

  laid : IsLaidOut f
  laid = (laws.moves w h m f g s k).laid

  abbrev t : State
  t = whole_behind k

  abbrev v : World
  v = (move w m).world

  behind : AreComponents t v f
  behind = subst (λ (y : File). AreComponents t v y) (sym same_file) b.components

  asks : AsksOf f.kept f.job
  asks =
      repairs_ask_all laws.join.world.more w h k.follows.moment (are_named h (followed.scenario w h m f g s k).written) f
      (followed.in_before w h m f g s k)

  -- while a repair is under way
  module _ (j : Job) (repairs : f.kept.phase ≡ Repairing) (runs : f.job ≡ Some j) where
    phase : IsRepairing false s f
    phase = subst (PhaseIs s f) repairs k.follows.related.kept.phase

    words : KeepsWords (owed k.follows.related) s t
    words = words_stay phase.unused

    is_of : (n : ℕ) (c : Command) → IsFresh s w f n c → IsOfWork f.kept.map j.awaited n c j.work
    is_of n c fresh =
        subst (λ (y : Option Job). IsOfJob f.kept.map n c y) runs
        (subst (IsOfPhase f n c) repairs (k.follows.related.jobs.owned n c fresh))

    module _ (n : ℕ) (at : Component) (there : slice_get f.kept.components n ≡ Some at) (lost : t.lost n ≡ false) where
      stood : s.lost n ≡ false
      stood = words.lost n lost

      quiet : (c : ℕ) (y : Command) → HasSent w c at.drive y → y.action ≡ Write → y.object ≡ at.object →
          IsSpent (at_number w.drives at.drive) y
      quiet c y sent write object =
          k.follows.related.jobs.quiet (ap (is_quiet f.job) repairs) c n y at there stood sent write object

      by_going : (o : Option Going) → going_in w m.action ≡ o → Turn s t w v f n at
      by_going (Some x) is =
          let c = k.follows in
          rests_same s t w v f c.related.components behind n at there lost stood
          (ap (λ (ds : List (ℕ × DriveAt)). object_on (at_number ds at.drive) at.object)
          (client_goes w h c.moment m c.is_due x is).drives)
      by_going None is =
          let c = k.follows in
          let o = (laws.moves w h m f g s k).drive is none in
          turns s t w v f c.related.components behind n at there lost stood m.action o.0.senders o.1 quiet
          (becomes w m.action at.drive at.object m.chosen (allowed_at w h c.moment m.action c.is_due))

      turn : Turn s t w v f n at
      turn = by_going (going_in w m.action) refl

    -- no other command of the server is performed on a component while a repair writes
    none_changes : (p : Piece) (ps : List Piece) (short : List ℕ) (broken : Bool) → j.work ≡ Stores (p ∷ ps) short broken →
        (n : ℕ) (at : Component) → slice_get f.kept.components n ≡ Some at → s.lost n ≡ false →
        (a : DriveAt) (x : Command) → IsPerformed w at.drive a x → IsOfServer w at.drive x →
        x.object ≡ at.object → (x.action ≡ SetTag) ⊎ ((x.action ≡ SetAttr) ⊎ (object_of w at ≡ None)) → ⊥
    none_changes p ps short broken work n at there stood a x q of object kind = elim kind [
      | inl raises ↦ by_tag raises
      | inr (inl sets) ↦
          none_sets_attr laws.join.world.more w h k.follows.moment named at.drive of.command of.sent
          (sym of.reads.action ∙ sets)
      | inr (inr none) ↦ by_none none
    ]
      where
        named : AreNamed h
        named = are_named h (followed.scenario w h m f g s k).written

        was : ObjectIs s f n at (object_of w at)
        was = ((k.follows.related.components n at there).stands stood).object

        before_at : object_of w at ≡ object_at a.state.store x.object
        before_at =
            ap (λ (o : Option DriveAt). object_on o at.object) q.there ∙ ap (object_at a.state.store) (sym object)

        below : n < s.layout.components
        below =
            let low : n < length f.kept.components = slice_get_within f.kept.components n at there in
            omega (arith, low, laid.components, ap (λ (y : Layout). y.components) k.follows.related.layout)

        by_tag : x.action ≡ SetTag → ⊥
        by_tag raises =
            let l = sets_tag a.state x raises (free a.state a.clock x q.clear) in
            let made : IsMade s n l.before = subst (ObjectIs s f n at) (before_at ∙ l.there) was in
            let in_ = k.follows.related.sent.raised at.drive n of.command at of.sent (sym of.reads.action ∙ raises) there
            (sym of.reads.object ∙ object) in
            let code : IsCode s.layout =
            subst IsCode (sym k.follows.related.layout) (layouts_are_codes f.kept.map f.kept.first_tag laid.checked) in
            let safe = safe_of s k.follows.run code in
            let tag : s.object_tag n ≡ of.command.capability.tag = made.tag ∙ l.tag ∙ of.reads.tag in
            elim (safe.tags.at n below stood) [
              | inl same ↦ elim (safe.tags.sent of.command.capability.tag in_) [
                | inl low ↦ omega (arith, low, same, tag)
                | inr (_, on) ↦ cc (sym phase.fences ∙ on)
              ]
              | inr (on, _) ↦ cc (sym phase.fences ∙ on)
            ]

        by_none : object_of w at ≡ None → ⊥
        by_none none =
            let un : IsUnmade s f n at = subst (ObjectIs s f n at) none was in
            elim un.due [
              | inl creates ↦ by_creates creates.0
                  (subst (λ (o : Option Job). In creates.0 (awaited_by o)) runs creates.1) creates.2
              | inr idle ↦ cc (sym runs ∙ idle)
            ]
          where
            fits : IsFit f.kept j
            fits =
                subst (FitsIn f.kept) runs
                (jobs_ask laws.join.world.more w h k.follows.moment named f (followed.in_before w h m f g s k))

            by_creates : (c : Awaited) → In c j.awaited → IsCreate f.kept.tag c → ⊥
            by_creates c i is =
                let asked : IsStore f.kept.map f.kept.components p c =
                subst (λ (y : Work). IsAskedIn f.kept y c) work (fits.asked c i) in
                cc (sym asked.action_is ∙ is.action)

    -- a fresh WRITE lies in the first piece
    in_piece : (p : Piece) (ps : List Piece) (short : List ℕ) (broken : Bool) → j.work ≡ Stores (p ∷ ps) short broken →
        (n z : ℕ) (c : Command) → IsFresh s w f n c → IsCellOf t n z c → HasColumn f.kept.map p (column_of_cell f.kept.map n z)
    in_piece p ps short broken work n z c fresh cell =
        let of = subst (λ (y : Work). IsOfWork f.kept.map j.awaited n c y) work (is_of n c fresh) in
        let asked : AreSingle j.awaited × AreInside f.kept.map (p ∷ ps) =
        subst (λ (y : Work). AsksIn f.kept j y) work (subst (AsksOf f.kept) runs asks) in
        let lies : IsInPiece f.kept.map p n c = of.1 in
        in_columns f.kept.map p n z laid.checked lies.group (asked.1 p (inl refl)) (omega (arith, lies.low, cell.low))
        (omega (arith, lies.high, cell.past))

    -- a cell that is in no piece that is to be done stays
    module _ (todo : List Piece)
        (first : (p : Piece) (ps : List Piece) (short : List ℕ) (broken : Bool) → j.work ≡ Stores (p ∷ ps) short broken →
        (qs : List Piece) × (todo ≡ p ∷ qs)) where
      not_written : (n z : ℕ) (c : Command) → IsDone f.kept.map todo (column_of_cell f.kept.map n z) → IsFresh s w f n c →
          IsCellOf t n z c → ⊥
      not_written n z c past fresh cell = by_work j.work refl (is_of n c fresh)
        where
          by_work : (y : Work) → j.work ≡ y → IsOfWork f.kept.map j.awaited n c y → ⊥
          by_work (Stores (p ∷ ps) short broken) is own =
              let r = first p ps short broken is in
              past p (subst (In p) (sym r.1) (inl refl)) (in_piece p ps short broken is n z c fresh cell)
          by_work (Stores [] short broken) is own = own
          by_work Creates is own = own
          by_work Fences is own = own
          by_work (Fetches ps short) is own = own
          by_work (Targets y) is own = own
          by_work (Gathers y ps) is own = own
          by_work (Fills y ps) is own = own
          by_work Lengths is own = own
          by_work (Checks ps y) is own = own

      cell_stays : (n z : ℕ) (at : Component) → slice_get f.kept.components n ≡ Some at → t.lost n ≡ false →
          IsDone f.kept.map todo (column_of_cell f.kept.map n z) → t.cell n z ≡ s.cell n z
      cell_stays n z at there lost past = by (turn n at there lost)
        where
          by : Turn s t w v f n at → t.cell n z ≡ s.cell n z
          by (Rests same left) = same z
          by (Writes c fresh cells) = elim (cells z) [
            | inl beside ↦ beside.same
            | inr cell ↦ absurd (not_written n z c past fresh cell)
          ]

      stands_still : (x : ℕ) (d : ℕ → ℕ) → IsDone f.kept.map todo x → Stands s x d → Stands t x d
      stands_still x d past stands n z is_cell col lost =
          let below : n < length f.kept.components =
          less n (length f.kept.components)
          (sym (ap (λ (y : Layout). y.is_cell n z) (words.layout ∙ k.follows.related.layout)) ∙ is_cell) laid.components in
          let at = some_at f.kept.components n below in
          let column : column_of_cell f.kept.map n z ≡ x =
          sym (ap (λ (y : Layout). y.cell_col n z) (words.layout ∙ k.follows.related.layout)) ∙ col in
          cell_stays n z at.0 at.1 lost (subst (IsDone f.kept.map todo) (sym column) past)
          ∙ stands n z (ap (λ (y : Layout). y.is_cell n z) (sym words.layout) ∙ is_cell)
          (ap (λ (y : Layout). y.cell_col n z) (sym words.layout) ∙ col) (words.lost n lost)
          ∙ ap (λ (y : Layout). y.word n z d) (sym words.layout)
        where
          less : (i c : ℕ) → nat_lt i f.kept.map.comps ≡ true → c ≡ f.kept.map.comps → i < c
          less i c e same = grind (arith, nat_tests, e, same)

  -- while a repair writes, what isn't there yet is due still
  pub due_stays : (j : Job) (p : Piece) (ps : List Piece) (short : List ℕ) (broken : Bool) → f.kept.phase ≡ Repairing →
      f.job ≡ Some j → j.work ≡ Stores (p ∷ ps) short broken →
      AreDue s w f (owed k.follows.related) j.awaited p →
      AreDue (whole_behind k) (move w m).world f (owed k.follows.related) j.awaited p
  due_stays j p ps short broken repairs runs work due n z at there lost has = by (turn j repairs runs n at there lost)
    where
      e : ℕ → ℕ
      e = owed k.follows.related

      keeps : KeepsWords e s t
      keeps = words j repairs runs

      stood_ : s.lost n ≡ false
      stood_ = keeps.lost n lost

      code : IsCode s.layout
      code =
          subst IsCode (sym k.follows.related.layout) (layouts_are_codes f.kept.map f.kept.first_tag laid.checked)

      word_of_due : (d : IsDue s w at e j.awaited n z) →
          slice_index d.command.command.payload (z - d.command.command.offset) ≡ t.layout.word n z e
      word_of_due d = d.word ∙ ap (λ (y : Layout). y.word n z e) (sym keeps.layout)

      -- the only one that is awaited of the component is what was performed
      performed_due : (d : IsDue s w at e j.awaited n z) (c : Command) → IsFresh s w f n c →
          IsBeside s t n z c ⊎ IsCellOf t n z c → t.cell n z ≡ t.layout.word n z e
      performed_due d c fresh cell =
          let of = subst (λ (y : Work). IsOfWork f.kept.map j.awaited n c y) work (is_of j repairs runs n c fresh) in
          let asked : AreSingle j.awaited × AreInside f.kept.map (p ∷ ps) =
          subst (λ (y : Work). AsksIn f.kept j y) work (subst (AsksOf f.kept) runs asks) in
          let a = of.0 in
          let one : a.0 ≡ d.command = asked.0 a.0 d.command a.1 d.awaits (a.2 ∙ sym d.component) in
          let same : c ≡ record d.command.command { check = c.check } =
          a.3 ∙ ap (λ (y : Awaited). record y.command { check = c.check }) one in
          let offset : c.offset ≡ d.command.command.offset = ap (λ (y : Command). y.offset) same in
          let payload : c.payload ≡ d.command.command.payload = ap (λ (y : Command). y.payload) same in
          let long : length c.payload ≡ length d.command.command.payload = ap (λ (y : List ℕ). length y) payload in
          elim cell [
            | inl beside ↦ absurd (beside.out (omega (arith, offset, d.first)) (omega (arith, offset, long, d.past)))
            | inr own ↦
                own.byte ∙ ap (λ (y : List ℕ). slice_index y (z - c.offset)) payload
                ∙ ap (λ (o : ℕ). slice_index d.command.command.payload (z - o)) offset ∙ word_of_due d
          ]

      by : Turn s t w v f n at → (t.cell n z ≡ t.layout.word n z e) ⊎ IsDue t v at e j.awaited n z
      by x = elim (due n z at there stood_ has) [
        | inl word ↦ inl (word_lasts e s t code keeps n z word)
        | inr d ↦ by_due d x
      ]
        where
          still : (d : IsDue s w at e j.awaited n z) → object_of v at ≡ object_of w at → IsDue t v at e j.awaited n z
          still d same = record {
            command = d.command;
            awaits = d.awaits;
            component = d.component;
            first = d.first;
            past = d.past;
            word = word_of_due d;
            ahead = λ q. d.ahead (subst (λ o. HasPassed (lane_or_none o SERVER_HOLDER) d.command.command.nonce) same q);
          }

          by_due : (d : IsDue s w at e j.awaited n z) → Turn s t w v f n at →
              (t.cell n z ≡ t.layout.word n z e) ⊎ IsDue t v at e j.awaited n z
          by_due d (Rests cells (Same same)) = inr (still d same)
          by_due d (Rests cells (Changed a x q of object kind)) =
              absurd (none_changes j repairs runs p ps short broken work n at there stood_ a x q of object
              kind)
          by_due d (Writes c fresh cells) = inl (performed_due d c fresh (cells z))

  -- what a repair has done stays
  pub done_stays : (j : Job) (todo : List Piece) → f.kept.phase ≡ Repairing → f.job ≡ Some j →
      ((p : Piece) (ps : List Piece) (short : List ℕ) (broken : Bool) → j.work ≡ Stores (p ∷ ps) short broken →
      (qs : List Piece) × (todo ≡ p ∷ qs)) → AreDone s f todo → AreDone (whole_behind k) f todo
  done_stays j todo repairs runs first done x ended past short =
      let q = words j repairs runs in
      let r = done x ended past (λ was. short (short_on s t q.layout q.lost x was)) in
      (r.0, stands_still j repairs runs todo first x r.0 past r.1)
