-- What a client's call awaits is asked of a component of the position, by the file's map.
-- Towards `ReadsFollow` (`headline_law/specs/Parts.antt`).
use Rattle.std.proofs.Common.{◌≡◌, ◌<◌, ℕ, List, Option, Some, None, refl, sym, ap, subst, ◌∙◌}
use Rattle.data_map.specs.declared.check.RawMap.{RawMap}
use Rattle.scenario_text.specs.declared.line.Line.{Line}
use Rattle.scenario_text.specs.declared.names.TheConstants.{CLIENTS}
use Rattle.server_rules.specs.Slots.{slot_of}
use Rattle.client_rules.specs.Calls.{file_of}
use Rattle.client_rules.specs.Grants.{held_of}
use Rattle.world_history.specs.ClientNames.{Awaited, Client, Held}
use Rattle.world_history.specs.ServerNames.{File}
use Rattle.world_history.specs.State.{World, ClientAt, at_number}
use Rattle.history_law.specs.Moments.{IsMoment}
use Rattle.exchange_law.specs.InStep.{state_of}
use Rattle.exchange_law.specs.Text.{AreOfText}
use Rattle.exchange_law.proofs.ClientMoves.{IsKeptByClients, clients_always}
use Rattle.exchange_law.proofs.CountGrowing.{text_front}
use Rattle.exchange_law.proofs.HeldWorlds.{reached}
use Rattle.plan_law.specs.FileLayout.{position_in}
use Rattle.fence_law.specs.State.{State}
use Rattle.file_simulation.specs.Calls.{HeldIs, IsHolding}
use Rattle.file_simulation.specs.Relation.{IsRelated, client_of}
use Rattle.file_simulation.specs.Requests.{kept_for}
use Rattle.relation_law.specs.ReadsDrive.{IsAwaitedBy}
use Rattle.relation_law.specs.Working.{CallWorks, ClientWorks}
use Rattle.relation_law.proofs.AwaitsReads.{low_at}
use Rattle.relation_law.proofs.OwnFacts.{works_kept}
use Rattle.headline_law.specs.Reads.{EachAskIsPlaced}
use Rattle.headline_law.proofs.AskedMoves.{PhaseAsks}
use Rattle.headline_law.proofs.AskedTurns.{CallAsks, ClientAsks, asks_kept}
use Rattle.headline_law.proofs.SentTurn.{awaited_works}

module _ (w : World) (h : List Line) (k : IsMoment w h) (text : AreOfText h) (s : State) (f : File) (r : IsRelated s w f) (c : ℕ)
    (a : Awaited) (by : IsAwaitedBy w f c a) where
  -- what each client keeps is so of this one
  kept_so : (P : Client → Type 0) → IsKeptByClients (λ n x. P x) → (o : Option ClientAt) → at_number w.clients c ≡ o →
      P (state_of c o)
  kept_so P kept None e = kept.made 0 c
  kept_so P kept (Some x) e = clients_always (λ n y. P y) kept w (reached w h k) c x e

  works : CallWorks (client_of w c).held (Some by.call)
  works =
      subst (CallWorks (client_of w c).held) by.is
      (kept_so (λ x. ClientWorks x) works_kept (at_number w.clients c) refl)

  asks : CallAsks (client_of w c).held (Some by.call)
  asks =
      subst (CallAsks (client_of w c).held) by.is
      (kept_so (λ x. ClientAsks x) asks_kept (at_number w.clients c) refl)

  -- the grant under which it is awaited
  under : (n : Held) × (held_of (client_of w c).held (file_of by.call.op) ≡ Some n)
  under = works.0 (awaited_works by.call.phase a by.awaits)

  low : c < CLIENTS
  low = low_at w h k text s f r c by.call (at_number w.clients c) refl by.is

  -- has the file's map
  holding : IsHolding f.kept.map s c under.0
  holding =
      subst (HeldIs f.kept.number f.kept.map s c (client_of w c)
      (kept_for (slot_of w.server.slots c) (client_of w c).outstanding))
      (ap (held_of (client_of w c).held) (sym by.here) ∙ under.1) (r.clients c low).client.held

  pub ask_is_placed : position_in f.kept.map a.ask.component ≡ a.ask.position
  ask_is_placed =
      let x : PhaseAsks under.0.map by.call.phase = asks under.0 under.1 in
      subst (λ (m : RawMap). position_in m a.ask.component ≡ a.ask.position) holding.same.agrees.map (x.awaited a by.awaits)

-- Each command that a client awaits is asked of a component of its position.
pub asks_are_placed : EachAskIsPlaced
asks_are_placed w h m f g s k c a by =
    ask_is_placed w h k.follows.moment (text_front h _ k.follows.calm.scenario.text) s f k.follows.related c a by
