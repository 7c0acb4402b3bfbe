-- A call that reads awaits READs of what its asks name (`reads` of `AwaitWell`, `relation_law/specs/ReadsDrive.antt`).
-- Towards `ReadsGoOn` (`relation_law/specs/Steps.antt`).
use Rattle.std.proofs.Common.{◌≡◌, ◌==◌, ◌<◌, ℕ, Bool, true, false, List, [], Option, Some, None, refl, sym, ap, subst, ◌∙◌}
use Rattle.std.proofs.lemmas.Bool.{eq-eqb}
use Rattle.scenario_text.specs.declared.line.Line.{Line}
use Rattle.scenario_text.specs.declared.names.TheConstants.{CLIENTS}
use Rattle.server_rules.specs.Laws.{In}
use Rattle.server_rules.specs.Slots.{slot_of}
use Rattle.client_rules.specs.Calls.{file_of}
use Rattle.client_rules.specs.Io.{awaited_in}
use Rattle.world_history.specs.ClientNames.{Awaited, Call, Phase, Starts, Needs, Waits, Reads, Probes, Gathers, Scatters}
use Rattle.world_history.specs.ServerNames.{File}
use Rattle.world_history.specs.State.{World, ClientAt, at_number}
use Rattle.history_law.specs.BookMoments.{IsMoment}
use Rattle.exchange_law.specs.InStep.{state_of}
use Rattle.exchange_law.specs.Text.{AreOfText}
use Rattle.exchange_law.proofs.ClientMoves.{clients_always}
use Rattle.exchange_law.proofs.HeldWorlds.{reached}
use Rattle.fence_law.specs.State.{State}
use Rattle.fence_law.specs.State.Call.{Reads as AtRead}
use Rattle.file_simulation.specs.Calls.{CallAt, CallIs, CallOn, IsScattering}
use Rattle.file_simulation.specs.Relation.{IsRelated, client_of}
use Rattle.file_simulation.specs.Requests.{kept_for}
use Rattle.relation_law.specs.CallsTurns.{IsWorking}
use Rattle.relation_law.specs.ReadsDrive.{IsAwaitedBy, IsReadOf}
use Rattle.relation_law.proofs.KeptCommits.{client_low}
use Rattle.relation_law.specs.Working.{CallWorks, ClientWorks}
use Rattle.file_simulation.specs.Messages.{is_scatter}
use Rattle.relation_law.proofs.OwnFacts.{works_kept}

module _ (w : World) (h : List Line) (k : IsMoment w h) (text : AreOfText h) (s : State) (f : File) (r : IsRelated s w f) where
  works_at : (c : ℕ) (o : Option ClientAt) → at_number w.clients c ≡ o → ClientWorks (state_of c o)
  works_at c None e = tt
  works_at c (Some a) e = clients_always (λ n y. ClientWorks y) works_kept w (reached w h k) c a e

  pub low_at : (c : ℕ) (call : Call) (o : Option ClientAt) → at_number w.clients c ≡ o →
      (state_of c o).call ≡ Some call → c < CLIENTS
  low_at c call None e is = absurd (cc is)
  low_at c call (Some a) e is = client_low w h k text c a e

  pub reads_well : (c j : ℕ) (a : Awaited) → IsAwaitedBy w f c a → s.call c ≡ AtRead j → IsReadOf a
  reads_well c j a by runs = by_phase by.call.phase refl
    where
      low : c < CLIENTS
      low = low_at c by.call (at_number w.clients c) refl by.is

      here : (file_of by.call.op == f.kept.number) ≡ true
      here = eq-eqb (file_of by.call.op) f.kept.number by.here

      its : CallIs f.kept.map s c by.call.op (kept_for (slot_of w.server.slots c) (client_of w c).outstanding) by.call.phase
      its =
          let one : CallOn (file_of by.call.op == f.kept.number) f.kept.map s c by.call
          (kept_for (slot_of w.server.slots c) (client_of w c).outstanding) =
          subst (CallAt f.kept.number f.kept.map s c (kept_for (slot_of w.server.slots c) (client_of w c).outstanding)) by.is
          (r.clients c low).client.call in
          subst (λ (b : Bool). CallOn b f.kept.map s c by.call
          (kept_for (slot_of w.server.slots c) (client_of w c).outstanding)) here one

      works : CallWorks (client_of w c).held (Some by.call)
      works = subst (CallWorks (client_of w c).held) by.is (works_at c (at_number w.clients c) refl)

      read : (p : Phase) → by.call.phase ≡ p → IsWorking p → is_scatter p ≡ false → IsReadOf a
      read p e z unsent =
          let h_ = works.0 (subst IsWorking (sym e) z) in
          ((works.1 h_.0 h_.1).ones a by.awaits).read (ap is_scatter e ∙ unsent)

      none : (p : Phase) → by.call.phase ≡ p → awaited_in p ≡ [] → IsReadOf a
      none p e empty = absurd (subst (In a) empty (subst (λ (q : Phase). In a (awaited_in q)) e by.awaits))

      by_phase : (p : Phase) → by.call.phase ≡ p → IsReadOf a
      by_phase (Reads io) e = read (Reads io) e tt refl
      by_phase (Probes io) e = read (Probes io) e tt refl
      by_phase (Gathers io) e = read (Gathers io) e tt refl
      by_phase (Scatters io queue) e =
          let z : (i : ℕ) × IsScattering s c by.call.op io queue i =
          subst (CallIs f.kept.map s c by.call.op (kept_for (slot_of w.server.slots c) (client_of w c).outstanding)) e its in
          absurd (cc (sym runs ∙ z.1.writing.at_))
      by_phase Starts e = none Starts e refl
      by_phase (Needs n) e = none (Needs n) e refl
      by_phase (Waits n) e = none (Waits n) e refl
