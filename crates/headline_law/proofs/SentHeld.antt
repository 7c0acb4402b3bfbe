-- What a client's call awaits is under the grant that the client holds on the call's file: to which component it goes.
-- Towards `SentGoesOn` and `ReadsFollow` (`relation_law/specs/Steps.antt`, `headline_law/specs/Parts.antt`).
use Rattle.std.proofs.Common.{◌≡◌, ℕ, List, [], Option, Some, None, slice_get, refl, sym, ap, subst, ◌∙◌, arith}
use Rattle.std.proofs.lemmas.List.{append-nil}
use Rattle.scenario_text.specs.declared.line.Line.{Line}
use Rattle.server_rules.specs.Files.{file_at}
use Rattle.server_rules.specs.Laws.{In}
use Rattle.server_rules.proofs.Members.{in_map}
use Rattle.client_rules.specs.Calls.{file_of}
use Rattle.client_rules.specs.Grants.{held_of}
use Rattle.client_rules.specs.Io.{awaited_in}
use Rattle.world_history.specs.ServerNames.{Server, File, Component}
use Rattle.world_history.specs.ClientNames.{Awaited, Call, Held}
use Rattle.world_history.specs.State.{World, ClientAt, at_number}
use Rattle.history_law.specs.Moments.{IsMoment}
use Rattle.history_law.proofs.Files.{in_at}
use Rattle.component_law.proofs.ObjectRuns.{each_object_is_owned}
use Rattle.exchange_law.specs.InStep.{state_of}
use Rattle.exchange_law.specs.Meeting.{IsReadableThrough}
use Rattle.exchange_law.specs.Sent.{IsBacked, Names}
use Rattle.exchange_law.proofs.ClientMoves.{clients_always}
use Rattle.exchange_law.proofs.HeldWorlds.{reached}
use Rattle.exchange_law.proofs.Knowing.{lawful_at}
use Rattle.exchange_law.proofs.LaneGrowing.{names_of}
use Rattle.exchange_law.proofs.LaneMoves.{IsOf}
use Rattle.exchange_law.proofs.LatestLaw.{AllFine, fine_at}
use Rattle.cause_law.specs.Fresh.{GrantsAreFresh}
use Rattle.cause_law.proofs.Fresh.{owner_is}
use Rattle.cause_law.proofs.Moments.{Stands, WasHeld, stands}
use Rattle.file_simulation.specs.Claim.{IsOfScenario}
use Rattle.file_simulation.specs.Relation.{client_of}
use Rattle.relation_law.specs.Working.{CallWorks, ClientWorks}
use Rattle.relation_law.proofs.ComponentsSenders.{of_call}
use Rattle.relation_law.proofs.DriveMoves.{got_in}
use Rattle.relation_law.proofs.OwnFacts.{works_kept}
use Rattle.relation_law.proofs.RequestsReturns.{HeldLaws}
use Rattle.headline_law.proofs.SentPlaces.{same_place}
use Rattle.headline_law.proofs.SentTurn.{awaited_works}

-- the grant under which a client awaits a command
pub record IsHeldFor (w : World) (c : ℕ) (call : Call) (a : Awaited) : Type 0 where
  pub held : Held
  pub holds : held_of (client_of w c).held (file_of call.op) ≡ Some held
  pub of : IsOf held a

module _ (laws : HeldLaws) (fresh : GrantsAreFresh) (w : World) (h : List Line) (k : IsMoment w h) (scenario : IsOfScenario h)
  where
    pub readable_then : IsReadableThrough h
    readable_then = laws.right.readable h (lawful_at w h k) scenario.text scenario.few

    pub its : Stands w
    its = stands laws.right.world.more laws.own laws.right.world.agree w h k readable_then

    fine : AllFine w
    fine = fine_at laws.right.world.more h (fresh h readable_then (omega (arith, scenario.few))) w k

    pub works_at : (c : ℕ) (o : Option ClientAt) → at_number w.clients c ≡ o → ClientWorks (state_of c o)
    works_at c None e = tt
    works_at c (Some a) e = clients_always (λ n y. ClientWorks y) works_kept w (reached w h k) c a e

    module _ (c : ℕ) (call : Call) (is : (client_of w c).call ≡ Some call) (a : Awaited) (i : In a (awaited_in call.phase))
      where
        pub works : CallWorks (client_of w c).held (Some call)
        works = subst (CallWorks (client_of w c).held) is (works_at c (at_number w.clients c) refl)

        of_client : (o : Option ClientAt) → at_number w.clients c ≡ o → (state_of c o).call ≡ Some call → (n : Held) →
            held_of (state_of c o).held (file_of call.op) ≡ Some n → IsOf n a
        of_client None gone at n held = absurd (cc at)
        of_client (Some x) there at n held = of_call _ x.state.held x.state.call call n a at held i (fine c x there)

        pub held_for : IsHeldFor w c call a
        held_for =
            let n = works.0 (awaited_works call.phase a i) in
            record { held = n.0; holds = n.1; of = of_client (at_number w.clients c) refl is n.0 n.1 }

        module _ (backed : IsBacked a.command) where
          abbrev n : Held
          n = held_for.held

          pub was_held : WasHeld its.run (file_of call.op) held_for.held
          was_held = its.helds c (file_of call.op) held_for.held held_for.holds

          pub names : Names held_for.held a.ask.component a.command.object
          names = names_of held_for.held a held_for.of backed

          -- the file of a component with the command's object is the call's
          pub file_is : (f : File) → file_at w.server.files f.kept.number ≡ Some f → (j : ℕ) (at : Component) →
              slice_get f.kept.components j ≡ Some at → at.object ≡ a.command.object → file_of call.op ≡ f.kept.number
          file_is f there j at found object =
              let owns = each_object_is_owned its.run in
              let mine : owns.0 at.object ≡ f.kept.number =
              ((owns.1 its.run [] (sym (append-nil its.run)) f
              (subst (λ (s : Server). In f s.files) its.is (in_at w.server.files f.kept.number f there))).components at.object
              (in_map (λ (y : Component). y.object) at f.kept.components (got_in f.kept.components j at found))).1 in
              sym (owner_is its.run owns.0 owns.1 (file_of call.op) held_for.held was_held a.ask.component a.command.object names)
              ∙ ap owns.0 (sym object) ∙ mine

          -- and the component is the one that is asked
          pub component_is : (f : File) → file_at w.server.files (file_of call.op) ≡ Some f → (j : ℕ) (at : Component) →
              slice_get f.kept.components j ≡ Some at → at.object ≡ a.command.object → a.ask.component ≡ j
          component_is f there j at found object =
              same_place its.run (file_of call.op) held_for.held was_held a.ask.component a.command.object names f
              (subst (λ (s : Server). file_at s.files (file_of call.op) ≡ Some f) its.is there) j at found object
