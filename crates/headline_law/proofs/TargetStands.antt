-- Where a step of the server makes a component anew, the target's object has all that the rebuild makes.
-- Towards `EachRebuiltStands` (`relation_law/specs/ComponentsFollow.antt`).
use Rattle.std.proofs.Common.{◌≡◌, ◌⊎◌, ℕ, ◌<◌, ◌≤◌, true, false, List, [], ◌∷◌, get_or, slice_get, Option, Some, None, refl, sym, ap, subst, ◌∙◌, arith, inl, inr}
use Rattle.std.proofs.lemmas.Bool.{cases_eq, cases_lt, lt-ltb, le-ltb}
use Rattle.std.proofs.lemmas.Option.{same_Some, slice_get_within}
use Rattle.data_map.specs.Inverse.{stripe_at}
use Rattle.osd_lists.specs.declared.node.Node.TheVariants as node
use Rattle.osd_commands.specs.declared.actions.Action.TheVariants as action
use Rattle.osd_commands.specs.declared.replies.Reply.{Reply}
use Rattle.osd_objects.specs.declared.object.StoredObject.{StoredObject}
use Rattle.scenario_text.specs.declared.line.Line.{Line}
use Rattle.server_rules.specs.Commands.{command}
use Rattle.server_rules.specs.Files.{file_at}
use Rattle.server_rules.specs.History.{Input, Hears, step}
use Rattle.server_rules.specs.Laws.{In}
use Rattle.server_rules.specs.Maps.{group_with, pieces_in}
use Rattle.server_rules.specs.Messages.{Replies, awaited_by}
use Rattle.server_rules.specs.Rebuild.{made}
use Rattle.server_rules.specs.Replies.{Done, answers, hearing, heard_with}
use Rattle.world_history.specs.ServerNames.{File, Component, Awaited, Piece, Target, Job, Work, Creates, Fences, Fetches, Stores, Targets, Gathers, Fills, Lengths, Checks}
use Rattle.history_law.specs.Doing.{input_in}
use Rattle.history_law.specs.Said.{IsHeardByServer}
use Rattle.cause_law.proofs.Answering.{safe_at}
use Rattle.component_law.proofs.NamedLines.{are_named}
use Rattle.component_law.specs.Objects.{target_in, target_of}
use Rattle.world_history.specs.Sending.{Move}
use Rattle.world_history.specs.State.{World, at_number}
use Rattle.fence_law.specs.State.{State}
use Rattle.plan_law.specs.FileLayout.{position_in}
use Rattle.file_simulation.specs.Components.{object_on, has_failed}
use Rattle.file_simulation.specs.Jobs.{IsFilled, IsTarget, TargetIn, word_now, stripe_for}
use Rattle.file_simulation.specs.ServerEvents.{cells_made}
use Rattle.relation_law.specs.ComponentsBehind.{WasRebuilt}
use Rattle.relation_law.specs.Owning.{Coming}
use Rattle.relation_law.specs.Steps.{Follows}
use Rattle.relation_law.specs.TargetWrites.{IsLatest}
use Rattle.relation_law.proofs.ComponentsGoOn.{goes_there}
use Rattle.relation_law.proofs.ComponentsMoved.{MovedLaws}
use Rattle.exchange_law.proofs.CountMoments.{reached}
use Rattle.component_law.specs.Distinct.{AreDistinct}
use Rattle.relation_law.proofs.FramesFiles.{files_distinct, file_stays}
use Rattle.relation_law.proofs.OwnedBefore.{none_at, owns}
use Rattle.relation_law.proofs.RequestsHeard.{heard_in}
use Rattle.relation_law.proofs.TargetMoments.{each_fill_is_latest}
use Rattle.relation_law.proofs.TargetSteps.{EndsClear, LastClear, IsPrepared, targets_go}
use Rattle.relation_law.proofs.TargetWalk.{NoneComes}
use Rattle.headline_law.specs.TargetLaws.{EachTargetIsWellMade, WasTarget, RebuiltWereTargets}
use Rattle.headline_law.proofs.TargetBefore.{TargetLaws, awaited_holder, before, scenario, in_before, laid, well, job_is, made_right}
use Rattle.headline_law.proofs.TargetPieces.{all_planned}
use Rattle.headline_law.proofs.TargetDone.{on_drive, filled_zeros, filled_written, bytes_stand}

-- what is known of the world, and of steps
pub record RebuiltLaws : Type 0 where
  pub target : TargetLaws
  pub well : EachTargetIsWellMade
  pub moved : MovedLaws
  pub were : RebuiltWereTargets

-- a number that isn't different is the same
stable : (a b : ℕ) → ((a ≡ b → ⊥) → ⊥) → a ≡ b
stable a b twice = elim (cases_eq a b) [ inl same ↦ same | inr other ↦ absurd (twice other) ]

module _ (laws : RebuiltLaws) (w : World) (h : List Line) (m : Move) {count : ℕ} (f g : File) (s : State)
    (k : Follows w h m count f g s) where
  -- the target's object has all that the rebuild makes
  abbrev HasAll : Target → Type 0
  HasAll t =
      (o : StoredObject) → object_on (at_number w.drives t.drive) t.object ≡ Some o → IsFilled s f t [] o

  -- it is there, or there is nothing to make
  abbrev HasNone : Target → Type 0
  HasNone t =
      object_on (at_number w.drives t.drive) t.object ≡ None → (z : ℕ) → stripe_for f.kept.map t.component z < f.kept.high → ⊥

  abbrev IsFilledUp : Target → Type 0
  IsFilledUp t =
      t.component < f.kept.map.comps → has_failed (at_number w.drives t.drive) ≡ false → HasAll t × HasNone t

  abbrev IsUp : (drive object : ℕ) → Type 0
  IsUp d object =
      (t : Target) × (target_of f.job ≡ Some t) × (t.drive ≡ d) × (t.object ≡ object) × IsFilledUp t

  -- in the words of the walk over a job's parts: what isn't so comes
  abbrev C : Coming
  C d x = IsUp d x.object → ⊥

  clear : (t : Target) → target_of f.job ≡ Some t → IsFilledUp t → NoneComes C f t
  clear t aim up x comes object = comes (t, aim, refl, sym object, up)

  -- what is read or written for is there
  none_there : (j : Job) → f.job ≡ Some j → (t : Target) (todo : List Piece) →
      (j.work ≡ Gathers t todo) ⊎ (j.work ≡ Fills t todo) → has_failed (at_number w.drives t.drive) ≡ false → HasNone t
  none_there j runs t todo works lives none z below =
      let o = (well laws.target w h m f g s k laws.well).made j t todo runs works lives in
      cc (sym none ∙ o.1)

  all_there : (t : Target) (todo : List Piece) → IsTarget s w f t todo → todo ≡ [] →
      has_failed (at_number w.drives t.drive) ≡ false → HasAll t
  all_there t todo target none lives o is =
      subst (λ (ps : List Piece). IsFilled s f t ps o) none (target.object lives o is)

  -- where no piece is planned, no stripe is below `high`
  none_planned : (t : Target) → pieces_in f.kept.map (group_with f.kept.map t.component) f.kept.high ≡ [] →
      t.component < f.kept.map.comps → HasNone t
  none_planned t none low nothing z below =
      let p = all_planned f.kept.map t.component z f.kept.high (laid laws.target w h m f g s k).checked low below in
      subst (In p.0) none p.1

  ends : (j : Job) → f.job ≡ Some j → (work : Work) → j.work ≡ work → TargetIn s w f work → EndsClear C f work
  ends j runs Creates is target = tt
  ends j runs Fences is target = tt
  ends j runs (Fetches todo short) is target = tt
  ends j runs (Stores todo short b) is target = tt
  ends j runs (Targets t) is target = λ none.
      clear t (ap target_of runs ∙ ap target_in is) (λ low lives. (all_there t _ target none lives, none_planned t none low))
  ends j runs (Gathers t todo) is target = λ none.
      clear t (ap target_of runs ∙ ap target_in is)
      (λ low lives. (all_there t todo target none lives, none_there j runs t todo (inl is) lives))
  ends j runs (Fills t todo) is target = λ none.
      clear t (ap target_of runs ∙ ap target_in is)
      (λ low lives. (all_there t todo target.target none lives, none_there j runs t todo (inr is) lives))
  ends j runs Lengths is target = tt
  ends j runs (Checks todo tally) is target = tt

  module _ (i : Input) (comes : input_in w m.action ≡ Some i) where
    heard : IsHeardByServer w i
    heard = heard_in w m.action i comes

    last : (now drive : ℕ) (r : Reply) (j : Job) (a : Awaited) → i ≡ Hears now (node.Drive drive) (Replies r) →
        f.job ≡ Some j → In a j.awaited → answers drive r a ≡ true → hearing f.kept a r ≡ Done →
        LastClear C f j a r j.work
    last now drive r j a it runs awaits answer done = by_work j.work refl
      where
        message : IsHeardByServer w (Hears now (node.Drive drive) (Replies r))
        message = subst (IsHeardByServer w) it heard

        target_is : (work : Work) → j.work ≡ work → TargetIn s w f work
        target_is work is =
            subst (TargetIn s w f) is (job_is laws.target w h m f g s k j runs).target

        by_work : (work : Work) → j.work ≡ work → LastClear C f j a r work
        by_work Creates is = tt
        by_work Fences is = tt
        by_work (Fetches todo short) is = tt
        by_work (Stores todo short b) is = tt
        by_work (Targets t) is = tt
        by_work (Gathers t []) is = tt
        by_work (Gathers t (p ∷ ps)) is = λ rest zeros none.
            clear t (ap target_of runs ∙ ap target_in is) (λ low lives. (
              λ o there.
                  subst (λ (qs : List Piece). IsFilled s f t qs o) none
                  (filled_zeros laws.target w h m f g s k t p ps (made f.kept t p (heard_with j a r)) low
                  (made_right laws.target w h m f g s k j runs t p ps is drive r message.0 (sym message.2) message.3 a awaits
                  answer done rest) zeros o ((target_is (Gathers t (p ∷ ps)) is).object lives o there)),
              none_there j runs t (p ∷ ps) (inl is) lives,
            ))
        by_work (Fills t []) is = tt
        by_work (Fills t (p ∷ ps)) is = λ none.
            clear t (ap target_of runs ∙ ap target_in is) (λ low lives. (
              λ o there.
                  let waits : In a (awaited_by f.job) = subst (λ (y : Option Job). In a (awaited_by y)) (sym runs) awaits in
                  subst (λ (qs : List Piece). IsFilled s f t qs o) none
                  (filled_written laws.target w h m f g s k j runs t p ps is drive r message.0 (sym message.2) message.3 a awaits
                  answer done o
                  (on_drive t.drive t.object w (at_number w.drives t.drive) refl lives o there (λ x here up object.
                  bytes_stand laws.target w h m f g s k j runs t p ps is drive r message.0 (sym message.2) message.3 a awaits
                  answer done laws.well x o here up object (awaited_holder laws.target w h m f g s k a waits)))
                  ((target_is (Fills t (p ∷ ps)) is).target.object lives o there)),
              none_there j runs t (p ∷ ps) (inr is) lives,
            ))
        by_work Lengths is = tt
        by_work (Checks todo tally) is = tt

    prepared : IsPrepared C i f
    prepared = record {
      one = λ j t todo runs is.
          let l : IsLatest w t j.awaited =
          each_fill_is_latest laws.target.join.world.more w h (before laws.target w h m f g s k)
          (are_named h (scenario laws.target w h m f g s k).written) f
          (in_before laws.target w h m f g s k) j t todo runs is in
          (l.command, l.only);
      ends = λ j runs. ends j runs j.work refl (job_is laws.target w h m f g s k j runs).target;
      last = last;
    }

    -- ---- a component that was made anew

    module _ (n : ℕ) (at : Component) (there : slice_get g.kept.components n ≡ Some at)
        (was : WasRebuilt f (step w.server m.chosen i).notes n at)
        (parts : (at.missing ≡ false) × (has_failed (at_number w.drives at.drive) ≡ false)) where
      apart : AreDistinct w.server.files
      apart = files_distinct w (reached w h k.moment)

      goes : file_at (step w.server m.chosen i).state.files f.kept.number ≡ Some g
      goes = goes_there w h m f g s k.moment k.is_due k.there k.run k.related i comes k.goes

      pub was_target : WasTarget i f g n at
      was_target =
          laws.were w.server m.chosen i apart (safe_at laws.target.safe w h k.moment) f.kept.number f g
          k.there goes
          (λ x j. (laws.target.asked w h k.moment (scenario laws.target w h m f g s k) x j).at_piece) n at there
          parts.0 was

      abbrev x : WasTarget i f g n at
      x = was_target

      -- its object
      up : IsUp at.drive at.object → IsFilledUp x.target
      up u = subst IsFilledUp (same_Some u.0 x.target (sym u.1 ∙ x.aimed)) u.4

      twice : (IsUp at.drive at.object → ⊥) → ⊥
      twice none =
          elim ((targets_go C w.server m.chosen i apart f.kept.number f g k.there goes prepared).0 n at
          there parts.0) [
            | inl old ↦
                none_at x.target.object f.kept.components n old.0
                (((owns laws.target.join.world w h k.moment (scenario laws.target w h m f g s k)).1 f
                (in_before laws.target w h m f g s k)).apart x.target x.aimed) old.1 (old.2 ∙ x.object)
            | inr new ↦ new.none (command f.kept at.drive at.object 0 action.Write 0 0 0 []) none refl
          ]

      low : x.target.component < f.kept.map.comps
      low =
          let inside = slice_get_within g.kept.components n at there in
          let stays = file_stays w h k.moment m k.is_due f.kept.number f g k.there k.goes in
          omega (arith, inside, stays.components, (laid laws.target w h m f g s k).components, x.component)

      lives : has_failed (at_number w.drives x.target.drive) ≡ false
      lives = ap (λ (d : ℕ). has_failed (at_number w.drives d)) (sym x.place) ∙ parts.1

      module _ (o : StoredObject) (is : object_on (at_number w.drives x.target.drive) x.target.object ≡ Some o) where
        pub tag_is : o.tag ≡ f.kept.tag
        tag_is = stable o.tag f.kept.tag (λ other. twice (λ u. other (((up u) low lives).0 o is).tag))

        low_is : (z : ℕ) → stripe_for f.kept.map x.target.component z < f.kept.high →
            get_or o.content.bytes z 0 ≡ word_now s x.target.component z
        low_is z below =
            stable (get_or o.content.bytes z 0) (word_now s x.target.component z)
            (λ other. twice (λ u. other ((((up u) low lives).0 o is).done z below (λ p i_. absurd i_))))

        high_is : (z : ℕ) → f.kept.high ≤ stripe_for f.kept.map x.target.component z → get_or o.content.bytes z 0 ≡ 0
        high_is z above =
            stable (get_or o.content.bytes z 0) 0 (λ other. twice (λ u. other ((((up u) low lives).0 o is).above z above)))

        pub cells_are : (z : ℕ) → cells_made s f.kept.map f.kept.high x.target.component z ≡ get_or o.content.bytes z 0
        unfolding cells_made
        cells_are z = elim (cases_lt (stripe_at f.kept.map (position_in f.kept.map x.target.component) z) f.kept.high) [
          | inl below ↦ rw (lt-ltb _ _ below) (sym (low_is z below))
          | inr above ↦ rw (le-ltb _ _ above) (sym (high_is z above))
        ]

      -- where it isn't there, the rebuild makes nothing but zeros
      pub cells_none : object_on (at_number w.drives x.target.drive) x.target.object ≡ None → (z : ℕ) →
          cells_made s f.kept.map f.kept.high x.target.component z ≡ 0
      unfolding cells_made
      cells_none none z = elim (cases_lt (stripe_at f.kept.map (position_in f.kept.map x.target.component) z) f.kept.high) [
        | inl below ↦ absurd (twice (λ u. ((up u) low lives).1 none z below))
        | inr above ↦ rw (le-ltb _ _ above) refl
      ]
