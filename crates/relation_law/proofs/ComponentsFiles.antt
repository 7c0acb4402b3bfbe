-- What landed laws give of a file over a step of the server, for the components.
-- Towards `ComponentsGoOn` (`specs/Steps.antt`).
use Rattle.std.proofs.Common.{◌≡◌, ◌≤◌, List, [], ◌∷◌, Some, sym, ap, subst, ◌∙◌, inl, inr}
use Rattle.scenario_text.specs.declared.line.Line.{Line}
use Rattle.server_rules.specs.Files.{file_at}
use Rattle.server_rules.specs.History.{Input}
use Rattle.server_rules.specs.Laws.{In}
use Rattle.world_history.specs.ServerNames.{File, Job, Target, Server}
use Rattle.world_history.specs.State.{World}
use Rattle.world_history.specs.Sending.{Move, move}
use Rattle.world_history.specs.Plans.{due}
use Rattle.history_law.specs.BookMoments.{IsMoment, plan_at}
use Rattle.history_law.specs.Doing.{input_in}
use Rattle.component_law.specs.Sound.{IsSound, IsAimed, IsAim}
use Rattle.component_law.specs.Tags.{EachStepRaisesTags}
use Rattle.component_law.specs.Words.{Each}
use Rattle.component_law.specs.Objects.{target_of, target_in}
use Rattle.exchange_law.proofs.CountMoments.{reached}
use Rattle.relation_law.specs.ComponentsBehind.{AreUnready}
use Rattle.relation_law.specs.ComponentsFacts.{IsFair, OfServer}
use Rattle.relation_law.proofs.FramesFiles.{file_stays, files_distinct}
use Rattle.relation_law.proofs.FramesParties.{server_steps}

of_each : {A : Type 0} (P : A → Type 0) (xs : List A) (x : A) → Each P xs → In x xs → P x
of_each P [] x all i = absurd i
of_each P (y ∷ ys) x all (inl same) = subst P (sym same) all.0
of_each P (y ∷ ys) x all (inr i) = of_each P ys x all.1 i

module _ (w : World) (h : List Line) (k : IsMoment w h) (m : Move) (d : due (plan_at k) w ≡ Some m.action) (f g : File)
    (there : file_at w.server.files f.kept.number ≡ Some f)
    (goes : file_at (move w m).world.server.files f.kept.number ≡ Some g) (i : Input) (is : input_in w m.action ≡ Some i)
    (sound : IsSound w.server) (raises : EachStepRaisesTags) where
  pub aimed : (x : File) → In x w.server.files → (j : Job) (t : Target) → x.job ≡ Some j → target_in j.work ≡ Some t →
      IsAim x.kept.components (Some t)
  aimed x inn j t job target =
      subst (IsAim x.kept.components) (ap target_of job ∙ target) (of_each IsAimed w.server.files x sound.aimed inn)

  rises : f.kept.tag ≤ g.kept.tag
  rises =
      let r = raises w.server m.chosen i sound f.kept.number f there in
      let both : Some r.behind ≡ Some g =
      sym r.there ∙ ap (λ (x : Server). file_at x.files f.kept.number) (sym (server_steps w m i is)) ∙ goes in
      let same : r.behind ≡ g = cc both in
      subst (λ (x : File). f.kept.tag ≤ x.kept.tag) same r.rises

  -- what the components' part needs, but for what of the drives and for files that aren't ready
  pub of_server : IsFair w f i → AreUnready (move w m).world g → OfServer w (move w m).world f g i
  of_server fair unready =
      let stays = file_stays w h k m d f.kept.number f g there goes in
      record {
        fair = fair;
        apart = files_distinct w (reached w h k);
        aimed = λ x inn j t job target. (aimed x inn j t job target).0;
        rises = rises;
        first_tag = stays.same.first_tag;
        count = stays.components;
        unready = unready;
      }
