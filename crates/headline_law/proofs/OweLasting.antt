-- What was sent in a repair that was cut off lasts, until its fence is over again.
-- Towards `OweFollows` (`specs/Parts.antt`).
use Rattle.std.proofs.Common.{◌≡◌, ◌++◌, ◌||◌, ℕ, Bool, true, false, List, map, Option, Some, None, refl, sym, ap, subst, ◌∙◌, inl, inr, arith}
use Rattle.std.specs.List.{filter_map}
use Rattle.std.proofs.lemmas.Bool.{cases_Bool}
use Rattle.osd_commands.specs.declared.commands.Command.{Command}
use Rattle.scenario_text.specs.declared.line.Line.{Line}
use Rattle.server_rules.specs.Files.{file_at}
use Rattle.server_rules.specs.History.{Input, step}
use Rattle.server_rules.specs.Laws.{In}
use Rattle.world_history.specs.declared.messages.Body.TheVariants.{Command as OfCommand}
use Rattle.world_history.specs.Handed.{Post}
use Rattle.world_history.specs.Moves.{acts}
use Rattle.world_history.specs.Names.{known_note_line}
use Rattle.world_history.specs.ServerNames.{Server, File, Component, ToDrive}
use Rattle.world_history.specs.State.{World, at_number}
use Rattle.world_history.specs.Sending.{Move, move}
use Rattle.history_law.specs.Moments.{lines_in}
use Rattle.history_law.specs.Doing.{input_in}
use Rattle.history_law.specs.Spent.{IsSpent}
use Rattle.history_law.proofs.FencingMoves.{Acts, Others, Serves, each_acts}
use Rattle.history_law.proofs.Numbers.{to_drive, sent_anew, none_anew}
use Rattle.component_law.specs.FenceTags.{Rise, TagRises}
use Rattle.component_law.proofs.Doing.{Does, Rests as DoesRest, Serves as DoesServe, does}
use Rattle.component_law.proofs.NamedLines.{are_named}
use Rattle.component_law.proofs.Moments.{each_second, allowed_at, named_action}
use Rattle.fence_law.specs.State.{State}
use Rattle.file_simulation.specs.Components.{has_failed}
use Rattle.file_simulation.specs.Events.{joined, events_of}
use Rattle.file_simulation.specs.Jobs.{IsFresh}
use Rattle.file_simulation.specs.Messages.{HasCommanded}
use Rattle.file_simulation.specs.Phases.{PhaseIs}
use Rattle.relation_law.specs.Frames.{IsOfServer}
use Rattle.file_simulation.specs.ServerEvents.{asker}
use Rattle.exchange_law.proofs.CountMoments.{reached}
use Rattle.component_law.specs.Naming.{IsNamed}
use Rattle.relation_law.specs.Steps.{FollowsWhole, whole_behind, owed}
use Rattle.relation_law.proofs.Followed as followed
use Rattle.relation_law.proofs.FramesFiles.{files_distinct}
use Rattle.relation_law.proofs.FramesParties.{by_server_lines}
use Rattle.relation_law.proofs.FramesStay.{all_joined}
use Rattle.relation_law.proofs.OwnedBefore.{work_fits}
use Rattle.relation_law.proofs.OwnedJoined as owned
use Rattle.relation_law.proofs.Places.{KeepPlaces, keep_here}
use Rattle.headline_law.specs.Parts.{PartsBehind}
use Rattle.headline_law.proofs.OweIdle.{IsIdle, idle_keeps}
use Rattle.headline_law.proofs.OweLaws.{OweLaws}
use Rattle.headline_law.proofs.OweMachine.{KeepsCells, repair_keeps, begun_tag}
use Rattle.headline_law.proofs.OweOthers.{same_file, words_stay}
use Rattle.headline_law.proofs.OweTold.{told_or}
use Rattle.headline_law.proofs.OweWords.{KeepsWords, by_steps}

-- it could come before the move, and each cell stays or becomes its word in the move
pub record WasFresh {w : World} {h : List Line} {m : Move} {f g : File} {s : State} (k : FollowsWhole w h m f g s) (n : ℕ)
    (x : Command) : Type 0 where
  pub fresh : IsFresh s w f n x
  pub words : KeepsWords (owed k.follows.related) s (whole_behind k)

module _ (laws : OweLaws) (w : World) (h : List Line) (m : Move) (f g : File) (s : State) (k : FollowsWhole w h m f g s)
    (b : PartsBehind k) (idle : IsIdle g.kept.phase g.job) (n : ℕ) (x : Command)
    (fresh : IsFresh (whole_behind k) (move w m).world g n x) where
  abbrev v : World
  v = (move w m).world

  abbrev t : State
  t = whole_behind k

  abbrev at : Component
  at = fresh.component

  first_false : (p q : Bool) → (p || q) ≡ false → p ≡ false
  first_false true q e = absurd (cc e)
  first_false false q e = refl

  present : at.missing ≡ false
  present =
      first_false at.missing (has_failed (at_number v.drives at.drive))
      (sym ((b.components n at fresh.there).lost) ∙ fresh.stands)

  unspent : IsSpent (at_number w.drives at.drive) x → ⊥
  unspent = owned.unspent_before laws.join w h m f g s k at.drive x fresh.unspent

  -- it wasn't sent in the move
  sent_before : HasCommanded w at.drive x
  sent_before = by_acts (each_acts w m.chosen m.action)
    where
      not_now : owned.IsSentNow laws.join w h m f g s k n x → ⊥
      not_now now = elim idle [
        | inl again ↦ cc (sym again ∙ now.repairs)
        | inr both ↦ cc (sym both.1 ∙ now.runs)
      ]

      by_acts : Acts w (acts w m.chosen m.action).world (acts w m.chosen m.action).told (acts w m.chosen m.action).posts →
          HasCommanded w at.drive x
      by_acts (Others server messages told others) =
          elim (owned.sent_either laws.join w h m f g s k at.drive x fresh.sent messages) [
            | inl old ↦ old
            | inr now ↦ absurd (none_anew (acts w m.chosen m.action).posts at.drive (OfCommand x) others now)
          ]
      by_acts (Serves chosen i sent server messages told posts) =
          elim (owned.sent_either laws.join w h m f g s k at.drive x fresh.sent messages) [
            | inl old ↦ old
            | inr now ↦
                let r = sent_anew (step w.server chosen i).sends at.drive (OfCommand x)
                (subst (λ (ps : List Post). In (to_drive at.drive (OfCommand x)) (map (λ (p : Post). p.message) ps)) posts
                now) in
                let same : x ≡ r.0 = cc r.2 in
                absurd (not_now (owned.sent_now laws.join w h m f g s k chosen i sent server n at x fresh.there fresh.write
                fresh.object
                (subst (λ (c : Command). In (ToDrive at.drive c) (step w.server chosen i).sends) (sym same) r.1)))
          ]

  -- ---- the server

  -- the components keep their places, and the tag stays
  record Lasts : Type 0 where
    places : KeepPlaces f.kept.components g.kept.components
    tag : g.kept.tag ≡ f.kept.tag

  lasts : Lasts
  lasts =
      let c = k.follows in
      by_does
      (does w m.chosen m.action
      (named_action m.action (move w m).lines
      (each_second IsNamed h (lines_in w m) (are_named (h ++ lines_in w m) (followed.later w h m f g s k).written)))
      (allowed_at w h c.moment m.action c.is_due))
    where
      by_does : Does w m.chosen (acts w m.chosen m.action) → Lasts
      by_does (DoesRest same down tells) =
          let both : Some f ≡ Some g =
          sym k.follows.there ∙ ap (λ (y : Server). file_at y.files f.kept.number) (sym same) ∙ k.follows.goes in
          let is : f ≡ g = cc both in
          record {
            places = subst (λ (y : File). KeepPlaces f.kept.components y.kept.components) is (keep_here f.kept.components);
            tag = ap (λ (y : File). y.kept.tag) (sym is);
          }
      by_does (DoesServe i comes goes down tells) =
          let behind : file_at (step w.server m.chosen i).state.files f.kept.number ≡ Some g =
          ap (λ (y : Server). file_at y.files f.kept.number) (sym goes) ∙ k.follows.goes in
          let places : KeepPlaces f.kept.components g.kept.components =
          idle_keeps w.server m.chosen i (files_distinct w (reached w h k.follows.moment)) f.kept.number f g k.follows.there
          behind
          (λ j runs. work_fits laws.join.world w h k.follows.moment (followed.scenario w h m f g s k) f
          (followed.in_before w h m f g s k) j runs) idle in
          let rises : TagRises i (filter_map known_note_line (step w.server m.chosen i).notes) f.kept.number (Some f) (Some g) =
          subst (λ (o : Option File). TagRises i (filter_map known_note_line (step w.server m.chosen i).notes) f.kept.number
          (Some f) o) behind
          (subst (λ (o : Option File). TagRises i (filter_map known_note_line (step w.server m.chosen i).notes) f.kept.number
          o (file_at (step w.server m.chosen i).state.files f.kept.number)) k.follows.there
          (laws.tells w.server m.chosen i
          (owned.sound_before laws.join w h m f g s k m.chosen i comes.sent goes) comes.named f.kept.number)) in
          let old = places.back n at fresh.there in
          elim (told_or f.kept.number (step w.server m.chosen i).notes) [
            | inl none ↦ record {
              places = places;
              tag = subst (λ (ts : List ℕ). Rise f.kept.tag ts g.kept.tag) none rises;
            }
            | inr ends ↦ absurd (unspent (owned.ended_spent laws.join w h m f g s k m.chosen i comes.sent goes ends n at x
                fresh.there present (old.0, old.1, sym old.2.object) sent_before fresh.object))
          ]

  repairs : t.repairing ≡ true
  repairs = elim idle [
    | inl again ↦ (subst (PhaseIs t g) again b.kept.phase).repairing
    | inr both ↦ (subst (PhaseIs t g) both.0 b.kept.phase).repairing
  ]

  stays : t.tag ≡ s.tag
  stays = b.kept.tag ∙ lasts.tag ∙ sym k.follows.related.kept.tag

  by_server : (i : Input) → input_in w m.action ≡ Some i → KeepsCells s t
  by_server i is =
      let events = joined (events_of s w (owed k.follows.related) f m) in
      let was : s.repairing ≡ true = elim (cases_Bool s.repairing) [
        | inl on ↦ on
        | inr off ↦ absurd (let low = begun_tag s events off repairs in omega (arith, low, stays))
      ] in
      repair_keeps s (asker i) events
      (all_joined (IsOfServer (asker i)) (events_of s w (owed k.follows.related) f m)
      (by_server_lines s w (owed k.follows.related) f m i is)) k.lawful was repairs stays

  words_of : (o : Option Input) → input_in w m.action ≡ o → KeepsWords (owed k.follows.related) s t
  words_of (Some i) is = by_steps (owed k.follows.related) s t (by_server i is)
  words_of None is =
      let same : f ≡ g = same_file laws w h m f g s k b is in
      words_stay laws w h m f g s k b is (unused same)
    where
      unused : f ≡ g → s.granted_since ≡ false
      unused same = elim idle [
        | inl again ↦ (subst (PhaseIs s f) (ap (λ (y : File). y.kept.phase) same ∙ again) k.follows.related.kept.phase).unused
        | inr both ↦ (subst (PhaseIs s f) (ap (λ (y : File). y.kept.phase) same ∙ both.0) k.follows.related.kept.phase).unused
      ]

  -- so it is of each that may still come where no job of a repair runs
  pub was_fresh : WasFresh k n x
  was_fresh =
      let words = words_of (input_in w m.action) refl in
      let old = lasts.places.back n at fresh.there in
      record {
        fresh = record {
          component = old.0;
          there = old.1;
          sent = subst (λ (d : ℕ). HasCommanded w d x) old.2.drive sent_before;
          write = fresh.write;
          object = fresh.object ∙ old.2.object;
          unspent = subst (λ (d : ℕ). IsSpent (at_number w.drives d) x → ⊥) old.2.drive unspent;
          stands = words.lost n fresh.stands;
        };
        words = words;
      }
