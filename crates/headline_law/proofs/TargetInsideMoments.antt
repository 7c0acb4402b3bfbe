-- At each moment the target of a rebuild is one of the components.
use Rattle.std.proofs.Common.{◌≡◌, ◌++◌, ℕ, ◌<◌, ◌≤◌, length, List, Option, Some, None, refl, sym, subst, ◌∙◌, arith, inl, inr}
use Rattle.std.proofs.lemmas.Option.{same_Some}
use Rattle.data_map.specs.declared.check.RawMap.{RawMap}
use Rattle.scenario_text.specs.declared.line.Line.{Line}
use Rattle.server_rules.specs.Files.{file_at, at_file}
use Rattle.server_rules.specs.Going.{Going}
use Rattle.server_rules.specs.History.{Input, step}
use Rattle.server_rules.specs.Laws.{In}
use Rattle.server_rules.specs.Replies.{hearing}
use Rattle.world_history.specs.History.{OneEventMore}
use Rattle.world_history.specs.ServerNames.{Server, File, Target, Job}
use Rattle.world_history.specs.Moves.{Act, acts}
use Rattle.world_history.specs.Plans.{due}
use Rattle.world_history.specs.Sending.{Move, move}
use Rattle.world_history.specs.State.{World}
use Rattle.history_law.specs.Moments.{IsMoment, plan_at, lines_in}
use Rattle.history_law.specs.Steps.{Answering, IsAnswering, answered_file}
use Rattle.history_law.proofs.Ending.{next_moment}
use Rattle.history_law.proofs.FencingMoves.{Acts, Others, Serves, each_acts}
use Rattle.history_law.proofs.Running.{parties_run}
use Rattle.exchange_law.proofs.CountMoments.{reached}
use Rattle.exchange_law.proofs.Shapes.{files_have_shape}
use Rattle.exchange_law.proofs.SlotMoments.{always}
use Rattle.component_law.specs.Objects.{target_of}
use Rattle.relation_law.proofs.FramesFiles.{files_distinct, file_stays}
use Rattle.relation_law.proofs.KeptServer.{at_place}
use Rattle.relation_law.proofs.Ways.{FileWays}
use Rattle.relation_law.proofs.WaysSteps.{files_go}
use Rattle.headline_law.specs.TargetLaws.{TargetsAreInside, EachTargetIsInside}
use Rattle.headline_law.proofs.TargetAsking.{making_aims}
use Rattle.headline_law.proofs.TargetInside.{IsBelow, Below, below_hears, below_fence, below_declares, below_opens}

-- a target below a number, and the other way round
inside_from : (c : ℕ) (o : Option Target) → IsBelow c o → (t : Target) → o ≡ Some t → t.component < c
inside_from c None below t is = absurd (cc is)
inside_from c (Some u) below t is = subst (λ (x : Target). x.component < c) (same_Some u t is) below

below_from : (c : ℕ) (o : Option Target) → ((t : Target) → o ≡ Some t → t.component < c) → IsBelow c o
below_from c None inside = tt
below_from c (Some u) inside = inside u refl

abbrev Stand : World → List Line → Type 0
Stand w h = (f : File) → In f w.server.files → TargetsAreInside f

module _ (w : World) (h : List Line) (k : IsMoment w h) (m : Move) (d : due (plan_at k) w ≡ Some m.action)
    (before : Stand w h) where
  abbrev v : World
  v = (move w m).world

  abbrev a : Act
  a = acts w m.chosen m.action

  behind : IsMoment v (h ++ lines_in w m)
  behind = next_moment w h k m d

  its : (f : File) → In f w.server.files → IsBelow f.kept.map.comps (target_of f.job)
  its f i = below_from f.kept.map.comps (target_of f.job) (before f i)

  within : (f : File) → In f w.server.files → length f.kept.components ≤ f.kept.map.comps
  within f i =
      let shape = files_have_shape parties_run w (reached w h k) f.kept.number f
      (at_place w.server.files f (files_distinct w (reached w h k)) i) in
      omega (arith, shape.components)

  module _ (chosen : List ℕ) (i : Input) (server : v.server ≡ (step w.server chosen i).state) where
    -- what is so of a file so far
    abbrev P : File → Going → Type 0
    P f g = Below f.kept.map.comps g

    at_start : (f : File) (g : Going) → In f w.server.files → g.file ≡ f → Below f.kept.map.comps g
    at_start f g j same = subst (λ (x : File). IsBelow f.kept.map.comps (target_of x.job)) (sym same) (its f j)

    within_start : (f : File) (g : Going) → In f w.server.files → g.file ≡ f →
        length g.file.kept.components ≤ f.kept.map.comps
    within_start f g j same =
        subst (λ (x : File). length x.kept.components ≤ f.kept.map.comps) (sym same) (within f j)

    heard : (x : Answering) → IsAnswering w.server i x → P x.file (answered_file w.server chosen x)
    heard x is =
        below_hears x.file.kept.map.comps (at_file w.server chosen x.file) x.job x.awaited x.reply (its x.file is.there)
        (within x.file is.there) (hearing x.file.kept x.awaited x.reply)
        (subst (λ (o : Option Job). IsBelow x.file.kept.map.comps (target_of o)) is.runs (its x.file is.there))

    ways : FileWays w.server chosen i P (λ y. target_of y.job ≡ None)
    ways = record {
      stays = at_start;
      alike = λ f g y same p.
          subst (λ (o : Option Job). IsBelow f.kept.map.comps (target_of o)) (sym same.job) p;
      heard = heard;
      fenced = λ f g kind format j same. below_fence f.kept.map.comps kind format g (within_start f g j same);
      declared = λ f g drive j same.
          below_declares f.kept.map.comps drive g (at_start f g j same) (within_start f g j same);
      crashed = λ f g j same. subst (λ (x : File). IsBelow f.kept.map.comps (target_of x.job)) (sym same) tt;
      opened = λ f g format j same.
          below_opens f.kept.map.comps format g (at_start f g j same) (within_start f g j same);
      made = λ x there none. making_aims w.server chosen x;
    }

    served : (g : File) → In g v.server.files → TargetsAreInside g
    served g here t aim =
        let found : file_at v.server.files g.kept.number ≡ Some g =
        at_place v.server.files g (files_distinct v (reached v (h ++ lines_in w m) behind)) here in
        elim (files_go w.server chosen i P (λ y. target_of y.job ≡ None) ways (files_distinct w (reached w h k))
        g.kept.number g (subst (λ (q : Server). file_at q.files g.kept.number ≡ Some g) server found)) [
          | inl x ↦
              let map_ : g.kept.map ≡ x.before.kept.map =
              (file_stays w h k m d g.kept.number x.before g x.there found).same.map in
              subst (λ (y : RawMap). t.component < y.comps) (sym map_)
              (inside_from x.before.kept.map.comps (target_of g.job)
              (subst (λ (y : File). IsBelow x.before.kept.map.comps (target_of y.job)) x.is x.so) t aim)
          | inr new ↦ absurd (cc (sym new ∙ aim))
        ]

  by_act : Acts w a.world a.told a.posts → (g : File) → In g v.server.files → TargetsAreInside g
  by_act (Others server messages told others) g here = before g (subst (λ (q : Server). In g q.files) server here)
  by_act (Serves chosen i sent server messages told posts) g here = served chosen i server g here

-- So it is at each moment.
pub each_target_is_inside : OneEventMore → EachTargetIsInside
each_target_is_inside more w h k scenario =
    always Stand (record {
      starts = λ f i. absurd i;
      moves = λ u g j m d p. by_act u g j m d p (each_acts u m.chosen m.action);
    }) more w h k
