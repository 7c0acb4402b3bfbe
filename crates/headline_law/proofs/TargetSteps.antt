-- Each target behind a step of the server is new, with a new object number, or the file's job had it and goes on so.
use Rattle.std.proofs.Common.{◌≡◌, ℕ, zero, suc, List, [], ◌∷◌, slice_get, Some, refl, sym, ap, subst, ◌∙◌, arith, inl, inr}
use Rattle.std.proofs.lemmas.Option.{same_Some}
use Rattle.server_rules.specs.Files.{at_file}
use Rattle.server_rules.specs.Going.{Going}
use Rattle.server_rules.specs.History.{Input}
use Rattle.server_rules.specs.Laws.{In, IsSafe}
use Rattle.server_rules.specs.Replies.{answers, hearing}
use Rattle.server_rules.proofs.FileLaws.{safe_at}
use Rattle.world_history.specs.ServerNames.{Server, File, Component, Awaited, Target, Job, Still}
use Rattle.history_law.specs.Steps.{IsAnswering, Answering, answered_file}
use Rattle.history_law.proofs.Hearing.{found_in}
use Rattle.component_law.specs.Objects.{objects_of, target_of}
use Rattle.cause_law.proofs.PlaceSteps.{step_since}
use Rattle.relation_law.proofs.OwnedBefore.{none_at}
use Rattle.headline_law.specs.TargetGoes.{IsSameStill, JobGoes, TargetGoes, New, Old, TargetsGo}
use Rattle.headline_law.proofs.OweGoes.{OwnWays, own_goes}
use Rattle.headline_law.proofs.TargetTurns.{here_out, fence_out, opens_out, declares_out, hears_out}
use Rattle.headline_law.proofs.TargetWays.{Out, Went, IsNew, IsOld, none_out}

module _ (s : Server) (chosen : List ℕ) (i : Input) (f : File) (safe : IsSafe f)
    (still : (t : Target) → target_of f.job ≡ Some t → f.kept.phase ≡ Still)
    (alone : (j : Job) → f.job ≡ Some j → (a b : Awaited) → In a j.awaited → In b j.awaited →
    a.command.nonce ≡ b.command.nonce → a ≡ b) where
  heard_out : (x : Answering) → IsAnswering s i x → x.file ≡ f → Out i f (answered_file s chosen x)
  heard_out x is same =
      let found = found_in (answers x.drive x.reply) x.job.awaited x.awaited is.awaits in
      subst (λ (y : File). Out i y (answered_file s chosen x)) same
      (hears_out i x.file (subst IsSafe (sym same) safe)
      (λ t aim.
      ap (λ (y : File). y.kept.phase) same ∙ still t (ap (λ (y : File). target_of y.job) (sym same) ∙ aim))
      (λ j runs. alone j (ap (λ (y : File). y.job) (sym same) ∙ runs))
      (at_file s chosen x.file).effects s.drives chosen x.now x.drive x.reply is.is x.job is.runs x.awaited found.0 found.1
      (hearing x.file.kept x.awaited x.reply) refl)

  ways : OwnWays s chosen i f (Out i f)
  ways = record {
    stays = here_out i f safe still alone;
    free = none_out i f;
    heard = heard_out;
    fenced = λ g kind format same none.
        fence_out i f safe still alone kind format g same (λ u aim. cc (sym (ap target_of none) ∙ aim));
    declared = declares_out i f safe still alone;
    opened = opens_out i f safe still alone;
  }

-- the object of a component
its_object : (cs : List Component) (k o : ℕ) → slice_get (objects_of cs) k ≡ Some o →
    (b : Component) × (slice_get cs k ≡ Some b) × (b.object ≡ o)
its_object [] k o e = absurd (cc e)
its_object (c ∷ cs) zero o e = (c, refl, cc e)
its_object (c ∷ cs) (suc k) o e = its_object cs k o e

pub targets_go : TargetsGo
targets_go s chosen i apart safe f g there behind may l t runs aims =
    let x = own_goes s chosen i f (Out i f)
    (ways s chosen i f (safe_at s.files f.kept.number f safe there) may.still may.alone) safe apart there g behind in
    by_went (x.2 l t (ap (λ (y : File). y.job) x.1 ∙ runs) aims) x.1
  where
    aimed : target_of g.job ≡ Some t
    aimed = ap target_of runs ∙ aims

    by_went : {h : Going} → Went i f h l t → h.file ≡ g → TargetGoes s.next_object i f g l t
    by_went {h} (IsOld j had aim still goes) same =
        Old j had aim (subst (λ (y : File). IsSameStill f.kept y.kept) same still)
        (subst (λ (y : File). JobGoes i f y j l t) same goes)
    by_went {h} (IsNew is common ahead) same =
        New is (elim ((step_since s chosen i apart).back f.kept.number t.component t.object (record {
          file = g;
          found = behind;
          has = inr (t, aimed, refl, refl);
        })) [
          | inr fresh ↦ fresh
          | inl old ↦
              let one : old.file ≡ f = same_Some old.file f (sym old.found ∙ there) in
              absurd (elim old.has [
                | inl component ↦
                    let b = its_object f.kept.components t.component t.object
                    (ap (λ (y : File). slice_get (objects_of y.kept.components) t.component) (sym one) ∙ component) in
                    elim (common t.component b.0 b.1) [
                      | inl was ↦
                          none_at t.object g.kept.components t.component was.0 (may.apart t aimed)
                          (ap (λ (y : File). slice_get y.kept.components t.component) (sym same) ∙ was.1) (was.2 ∙ b.2)
                      | inr aim ↦
                          let low = ahead aim.0 aim.1 in omega (arith, low, aim.2)
                    ]
                | inr target ↦
                    let low = ahead target.0 (ap (λ (y : File). target_of y.job) (sym one) ∙ target.1) in
                    omega (arith, low, target.2)
              ])
        ])
