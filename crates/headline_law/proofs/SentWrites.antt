-- The WRITEs of a client's turn, as the machine sends them: each carries the content of its entry.
-- Towards `SentGoesOn` (`relation_law/specs/Steps.antt`).
use Rattle.std.proofs.Common.{◌≡◌, ◌⊎◌, ◌==◌, ℕ, ◌+◌, ◌*◌, ◌≤◌, Bool, true, List, [], ◌∷◌, map, Some, refl, sym, ap, subst, ◌∙◌, inl, inr}
use Rattle.data_map.specs.declared.check.RawMap.{RawMap}
use Rattle.osd_commands.specs.declared.commands.Command.{Command}
use Rattle.server_rules.specs.Laws.{In}
use Rattle.server_rules.proofs.Members.{in_front, in_map}
use Rattle.client_rules.specs.declared.limits.TheConstants.{NONCES}
use Rattle.client_rules.specs.Calls.{file_of}
use Rattle.client_rules.specs.Grants.{held_of}
use Rattle.client_rules.specs.Messages.{to_drive}
use Rattle.world_history.specs.ClientNames.{Client, Call, Held, Awaited, Store, Io}
use Rattle.fence_law.specs.State.{State, Grant}
use Rattle.fence_law.specs.State.Event.{Sends}
use Rattle.fence_law.specs.State.Call.{Writes as AtWrite}
use Rattle.fence_law.specs.Machine.{after_all}
use Rattle.file_simulation.specs.EventLists.{entry_of}
use Rattle.file_simulation.specs.ClientEvents as table
use Rattle.file_simulation.specs.Calls.{CarriesContent, IsGathering, IsIdle}
use Rattle.file_simulation.specs.Messages.{WasSent}
use Rattle.relation_law.specs.CallsTurns.{PendsWrite, IsSending, IsStarting, store_of, stores_of}
use Rattle.relation_law.specs.MessagesSending.{write_sent, sent_behind, nonce_behind, out_behind, writes_behind}
use Rattle.relation_law.proofs.CallsGuards.{entry_writes}
use Rattle.relation_law.proofs.CallsStarts.{IsPlannedAt, PlanFits, gathered_none, gathering, same_behind, same_none, sending}
use Rattle.relation_law.proofs.CallsTells.{told, told_by, CommandsFit, CommandFits, one_sent}
use Rattle.relation_law.proofs.MessagesBehind.{write_there}

-- a command names the grant under which it goes out
pub record NamesGrant (y : Command) (g : Grant) : Type 0 where
  pub grant : y.capability.grant ≡ g.number
  pub tag : y.capability.tag ≡ g.tag

pub fit_of : (x : Client) (h : Held) (write : Bool) (cs : List Awaited) → CommandsFit x h write cs → (a : Awaited) → In a cs →
    CommandFits x h write a
fit_of x h write [] f a i = absurd i
fit_of x h write (b ∷ cs) f a (inl e) = subst (CommandFits x h write) (sym e) f.0
fit_of x h write (b ∷ cs) f a (inr i) = fit_of x h write cs f.1 a i

module _ (file c : ℕ) (x : Client) (call : Call) (call_is : x.call ≡ Some call) (here : (file_of call.op == file) ≡ true)
    (h : Held) (holds : held_of x.held file ≡ Some h) where
  -- the machine behind WRITEs of an entry that runs
  behind : (s : State) (g : Grant) (j : ℕ) (cs : List Awaited) → s.held c ≡ Some g → s.call c ≡ AtWrite j →
      CommandsFit x h true cs → told s file c x (map to_drive cs) ≡ sent_behind s c j g cs
  unfolding told nonce_behind out_behind writes_behind
  behind s g j [] has at f = refl
  behind s g j (a ∷ cs) has at f =
      told_by s file c x (to_drive a) (map to_drive cs) (Sends c a.ask.component g j a.ask.offset a.command.nonce ∷ [])
      (one_sent file c x call call_is here h holds s g a has j at f.0
      ∙ ap (λ (n : ℕ). Sends c a.ask.component g n a.ask.offset a.command.nonce ∷ []) (entry_writes s c j at))
      ∙ behind (after_all s (Sends c a.ask.component g j a.ask.offset a.command.nonce ∷ [])) g j cs has at f.1

  -- each of them is sent
  one_was : (s : State) (g : Grant) (j : ℕ) (cs : List Awaited) (a : Awaited) → In a cs → a.command.offset ≡ a.ask.offset →
      CarriesContent (s.start j) (store_of a) → NamesGrant a.command g →
      WasSent (sent_behind s c j g cs) c a.ask.component a.command
  one_was s g j cs a i offset carry names = record {
    write = write_sent c j g a;
    sent = write_there s.writes c j g cs a i;
    holder = refl;
    grant = sym names.grant;
    tag = sym names.tag;
    nonce = refl;
    at_ = refl;
    carries = record { content = rw offset carry.bytes; part = rw offset carry.part; just = rw offset carry.just };
  }

  sending_sent : (s : State) (g : Grant) (io : Io) (queue : List Store) (cs : List Awaited) → s.held c ≡ Some g →
      CommandsFit x h true cs → IsSending s c call.op io queue cs → (a : Awaited) → In a cs → NamesGrant a.command g →
      WasSent (told s file c x (map to_drive cs)) c a.ask.component a.command
  sending_sent s g io queue cs has f k a i names =
      subst (λ (t : State). WasSent t c a.ask.component a.command)
      (sym (behind s g k.entry cs has k.scattering.writing.at_ f))
      (one_was s g k.entry cs a i (fit_of x h true cs f a i).offset
      (k.scattering.content (store_of a) (in_front (store_of a) (stores_of cs) queue (in_map store_of a cs i))) names)

  -- a write that starts behind its gather
  gathered_sent : (m : RawMap) (s : State) (g : Grant) (io : Io) (queue : List Store) (cs : List Awaited) →
      s.held c ≡ Some g → s.nonce c ≤ h.number * NONCES + h.count → CommandsFit x h true cs → (j : ℕ) →
      IsGathering m s c call.op j → io.awaited ≡ cs → IsPlannedAt s c h call.op g io queue cs → (a : Awaited) → In a cs →
      NamesGrant a.command g → WasSent (told s file c x (map to_drive cs)) c a.ask.component a.command
  gathered_sent m s g io queue [] has low f j k all plan a i names = absurd i
  gathered_sent m s g io queue (b ∷ cs) has low f j k all plan a i names =
      subst (λ (t : State). WasSent t c a.ask.component a.command)
      (sym (same_behind file c x call call_is here h holds m s g io queue b cs has low f j k all plan))
      (sending_sent (after_all s (table.starts_write s c (entry_of s c) h call.op g)) g io queue (b ∷ cs) has f
      (sending file c x call call_is here h holds m s g io queue b cs has low f j k all plan) a i names)

  -- and one that starts without one
  idle_sent : (s : State) (g : Grant) (io : Io) (queue : List Store) (cs : List Awaited) →
      s.held c ≡ Some g → s.nonce c ≤ h.number * NONCES + h.count → CommandsFit x h true cs → IsIdle s c →
      io.awaited ≡ cs → IsPlannedAt (gathered_none s c h call.op g) c h call.op g io queue cs → (a : Awaited) → In a cs →
      NamesGrant a.command g → WasSent (told s file c x (map to_drive cs)) c a.ask.component a.command
  idle_sent s g io queue [] has low f idle all plan a i names = absurd i
  idle_sent s g io queue (b ∷ cs) has low f idle all plan a i names =
      subst (λ (t : State). WasSent t c a.ask.component a.command)
      (sym (same_none file c x call call_is here h holds s g io queue b cs has low f idle all plan))
      (gathered_sent h.map (gathered_none s c h call.op g) g io queue (b ∷ cs) has low f s.count
      (gathering file c x call call_is here h holds s g io queue b cs has low f idle all plan) all plan a i names)

  -- each WRITE that is still to be sent is sent in the machine
  pub writes_sent : (m : RawMap) (s : State) (g : Grant) (io : Io) (queue : List Store) (cs : List Awaited) →
      s.held c ≡ Some g → s.nonce c ≤ h.number * NONCES + h.count → CommandsFit x h true cs →
      (IsStarting m s c call.op io queue cs → PlanFits file c x call call_is here h holds m s g io queue cs) →
      PendsWrite m s c call.op io queue cs → (a : Awaited) → In a cs → NamesGrant a.command g →
      WasSent (told s file c x (map to_drive cs)) c a.ask.component a.command
  writes_sent m s g io queue cs has low f plan (inl k) a i names = sending_sent s g io queue cs has f k a i names
  writes_sent m s g io queue cs has low f plan (inr k) a i names = by k.from
    where
      by : ((j : ℕ) × IsGathering m s c call.op j) ⊎ IsIdle s c →
          WasSent (told s file c x (map to_drive cs)) c a.ask.component a.command
      by (inl (j, gathers)) =
          gathered_sent m s g io queue cs has low f j gathers k.all ((plan k).0 j gathers) a i names
      by (inr idle) = idle_sent s g io queue cs has low f idle k.all ((plan k).1 idle) a i names
