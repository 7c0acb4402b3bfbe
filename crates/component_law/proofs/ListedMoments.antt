-- At each moment what clients hold, and what is kept for them, lists the components that the server has.
use Rattle.std.proofs.Common.{◌++◌, ℕ, List, sym, subst}
use Rattle.scenario_text.specs.declared.line.Line.{Line}
use Rattle.server_rules.specs.History.{step}
use Rattle.server_rules.specs.Laws.{SlotsAreKept}
use Rattle.world_history.specs.ClientNames.{Held, Listed}
use Rattle.world_history.specs.ServerNames.{Server}
use Rattle.world_history.specs.History.{OneEventMore}
use Rattle.world_history.specs.Sending.{move}
use Rattle.world_history.specs.State.{World}
use Rattle.history_law.specs.BookMoments.{IsMoment, lines_in}
use Rattle.history_law.specs.Grants.{GrantsAreSafe}
use Rattle.history_law.specs.Parties.{AllPartiesRun}
use Rattle.exchange_law.specs.InStep.{client_of}
use Rattle.exchange_law.specs.Meeting.{IsReadableThrough, ClientsAgree}
use Rattle.exchange_law.specs.Taking.{AnswersAreOwn}
use Rattle.exchange_law.proofs.ClientsWalk.{holds_always}
use Rattle.exchange_law.proofs.Each.{clients_are_in_step}
use Rattle.exchange_law.proofs.HeldHearing.{step_is_fine}
use Rattle.exchange_law.proofs.HeldMoving.{IsSame}
use Rattle.exchange_law.proofs.HeldWorlds.{none_held, none_kept, own_request, next_moment, readable_fronts, readable_there, reached}
use Rattle.component_law.specs.Listed.{ListsComponents, ComponentsAgree}
use Rattle.component_law.proofs.DrivesKnown.{AllKnown, all_known}
use Rattle.component_law.proofs.Given.{KeepKeys}
use Rattle.component_law.proofs.Keys.{are_known}
use Rattle.component_law.proofs.Sealing.{keys_kept}
use Rattle.component_law.proofs.PartyStepping.{ListsAt, AllFitting, Lists, step_lists}

same_lists : (s : Server) (c n : ℕ) (h k : Held) → IsSame h k → ListsAt s c n h → ListsAt s c n k
same_lists s c n h k same lists f g found has =
    subst (λ (ls : List Listed). ListsComponents s.drives f.kept g ls) (sym same.components) (lists f g found has)

module _ (kept : SlotsAreKept) (more : OneEventMore) (run : AllPartiesRun) (safe : GrantsAreSafe) (own : AnswersAreOwn)
    (agree : ClientsAgree) where
  stands : (w : World) (h : List Line) → IsMoment w h → IsReadableThrough h → (c : ℕ) → Lists w.server c (client_of w c).held
  stands =
      holds_always (λ s c x. Lists s c x.held) IsReadableThrough (record {
        front = readable_fronts;
        starts = λ c. record {
          slot = λ slot e. absurd (none_kept c slot e);
          helds = λ file h e. absurd (none_held file h e);
        };
        client = λ w h k t s c a found i heard. record {
          slot = (s c).slot;
          helds =
              (step_is_fine own agree (ListsAt w.server c) (same_lists w.server c) w h k t c a found (s c).helds (s c).slot
              i heard).helds;
        };
        server = λ w h k m d t later s g c.
            let behind : Server = (step w.server m.chosen g.input).state in
            let v : World = (move w m).world in
            let moment : IsMoment v (h ++ lines_in w m) = next_moment w h k m d in
            let fit : AllFitting behind =
            subst AllFitting g.server (readable_there v (h ++ lines_in w m) moment later).files in
            let know : AllKnown behind =
            subst AllKnown g.server (all_known run v (reached v (h ++ lines_in w m) moment)) in
            let keep : KeepKeys w.server.drives behind.drives =
            subst (λ (x : Server). KeepKeys w.server.drives x.drives) g.server
            (keys_kept w h k m d (are_known more w h k)) in
            step_lists w.server m.chosen g.input c (client_of w c) (safe w (reached w h k)) fit know keep
            (own_request (clients_are_in_step kept more) w h k (readable_there w h k t) c g.input g.heard) (agree w h k t c)
            (s c);
      }) more

  pub components_agree : ComponentsAgree
  components_agree w h k t c n x f g holds found has = (stands w h k t c).helds n x holds f g found has
