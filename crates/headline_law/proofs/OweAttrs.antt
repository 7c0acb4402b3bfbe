-- The server sends no SET ATTR.
-- Towards `OweFollows` (`specs/Parts.antt`).
use Rattle.std.proofs.Common.{◌≡◌, ℕ, List, [], ◌∷◌, Option, Some, None, refl, sym, ap, ◌∙◌, inl, inr}
use Rattle.osd_commands.specs.declared.actions.Action.TheVariants as action
use Rattle.osd_commands.specs.declared.commands.Command.{Command}
use Rattle.scenario_text.specs.declared.line.Line.{Line}
use Rattle.server_rules.specs.History.{Act, step}
use Rattle.server_rules.specs.Laws.{In}
use Rattle.server_rules.specs.Messages.{awaited_by}
use Rattle.server_rules.specs.Making.{new_server}
use Rattle.history_law.specs.Moments.{IsMoment}
use Rattle.history_law.specs.Names.{Server, File, Kept, Awaited, Job, Work, Creates, Fences, Fetches, Stores, Targets, Gathers, Fills, Lengths, Checks, ToDrive}
use Rattle.history_law.specs.Numbered.{IsOf}
use Rattle.world_history.specs.History.{OneEventMore}
use Rattle.world_history.specs.State.{World}
use Rattle.component_law.specs.Naming.{AreNamed}
use Rattle.component_law.specs.Sent.{IsSentByRun}
use Rattle.component_law.specs.Sound.{IsSound}
use Rattle.component_law.specs.Tagged.{AreNamedActs, sent_over}
use Rattle.component_law.proofs.Making.{each_step_is_sound}
use Rattle.component_law.proofs.Moments.{server_sent_its_run}
use Rattle.file_simulation.specs.Messages.{HasCommanded}
use Rattle.relation_law.specs.Awaiting.{IsAskedIn, FitsIn}
use Rattle.relation_law.proofs.FittingSteps.{AllFit, fit_step, first_sound}
use Rattle.relation_law.proofs.Sending.{each_send_is_awaited}
use Rattle.server_rules.proofs.Members.{in_either}

-- no job asks for one
not_asked : (f : Kept) (work : Work) (a : Awaited) → IsAskedIn f work a → a.command.action ≡ action.SetAttr → ⊥
not_asked f Creates a asked is = cc (sym is ∙ asked.action_is)
not_asked f Fences a asked is = cc (sym is ∙ asked.action_is)
not_asked f (Fetches [] short) a asked is = asked
not_asked f (Fetches (p ∷ ps) short) a asked is = cc (sym is ∙ asked.action_is)
not_asked f (Stores [] short q) a asked is = asked
not_asked f (Stores (p ∷ ps) short q) a asked is = cc (sym is ∙ asked.action_is)
not_asked f (Targets t) a asked is = cc (sym is ∙ asked.action_is)
not_asked f (Gathers t []) a asked is = asked
not_asked f (Gathers t (p ∷ ps)) a asked is = cc (sym is ∙ asked.action_is)
not_asked f (Fills t []) a asked is = asked
not_asked f (Fills t (p ∷ ps)) a asked is = cc (sym is ∙ asked.action_is)
not_asked f Lengths a asked is = cc (sym is ∙ asked.action_is)
not_asked f (Checks [] tally) a asked is = asked
not_asked f (Checks (p ∷ ps) tally) a asked is = cc (sym is ∙ asked.action_is)

by_job : (f : File) (o : Option Job) → f.job ≡ o → FitsIn f.kept o → (a : Awaited) → In a (awaited_by o) →
    a.command.action ≡ action.SetAttr → ⊥
by_job f None is fit a i set = i
by_job f (Some j) is fit a i set = not_asked f.kept j.work a (fit.asked a i) set

in_step : (s : Server) (chosen : List ℕ) (i : _) → AllFit (step s chosen i).state.files → (d : ℕ) (x : Command) →
    In (ToDrive d x) (step s chosen i).sends → x.action ≡ action.SetAttr → ⊥
in_step s chosen i fit d x among set =
    let r = each_send_is_awaited s chosen i d x among in
    let of : IsOf d x r.0 = r.1 in
    by_job r.2.0 r.2.0.job refl (fit r.2.0 r.2.1) r.0 r.2.2 (ap (λ (c : Command). c.action) (sym of.1) ∙ set)

in_run : (s : Server) (acts : List Act) → AreNamedActs acts → IsSound s → AllFit s.files → (d : ℕ) (x : Command) →
    In (ToDrive d x) (sent_over s acts) → x.action ≡ action.SetAttr → ⊥
unfolding sent_over
in_run s [] named sound fit d x among set = among
in_run s (a ∷ acts) named sound fit d x among set =
    let next : IsSound (step s a.chosen a.input).state = each_step_is_sound s a.chosen a.input sound named.0 in
    let fits : AllFit (step s a.chosen a.input).state.files = fit_step s a.chosen a.input sound next fit in
    elim (in_either (ToDrive d x) (step s a.chosen a.input).sends (sent_over (step s a.chosen a.input).state acts) among) [
      | inl now ↦ in_step s a.chosen a.input fits d x now set
      | inr later ↦ in_run (step s a.chosen a.input).state acts named.1 next fits d x later set
    ]

-- at no moment
pub none_sets_attr : OneEventMore → (w : World) (h : List Line) → IsMoment w h → AreNamed h → (d : ℕ) (x : Command) →
    HasCommanded w d x → x.action ≡ action.SetAttr → ⊥
none_sets_attr more w h k named d x sent set =
    let r : IsSentByRun w = server_sent_its_run more w h k named in
    in_run (new_server []) r.acts r.named first_sound (λ g j. absurd j) d x (r.sends d x sent) set
