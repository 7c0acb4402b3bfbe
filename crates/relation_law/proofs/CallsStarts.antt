-- A write starts: the machine behind the first WRITEs of a call.
-- Towards `CallsGoOn` (`specs/Steps.antt`).
use Rattle.std.proofs.Common.{◌≡◌, ◌⊎◌, ◌==◌, ℕ, ◌+◌, ◌*◌, ◌≤◌, true, List, [], ◌∷◌, ◌++◌, map, Some, refl, sym, ap, ◌∙◌, inl, inr, if◌then◌else◌}
use Rattle.data_map.specs.declared.check.RawMap.{RawMap}
use Rattle.file_log.specs.Judge.{byte_for}
use Rattle.client_rules.specs.declared.limits.TheConstants.{NONCES}
use Rattle.client_rules.specs.Calls.{file_of, span_of, bytes_of}
use Rattle.client_rules.specs.Grants.{held_of}
use Rattle.client_rules.specs.Laws.{Awaiting}
use Rattle.client_rules.specs.Messages.{to_drive}
use Rattle.world_history.specs.ClientNames.{Client, Call, CallOp, Held, Awaited, Store, Io}
use Rattle.fence_law.specs.State.{State, Grant, Start}
use Rattle.fence_law.specs.State as machine
use Rattle.fence_law.specs.State.{Event as event}
use Rattle.fence_law.specs.State.Call.{Idle, Reads as AtRead}
use Rattle.fence_law.specs.Machine.{after, after_all}
use Rattle.fence_law.specs.Starts.{written_start}
use Rattle.fence_law.specs.Law.{byte_before}
use Rattle.plan_law.specs.Writes.{touches_column, hits_cell, part_of}
use Rattle.file_simulation.specs.EventLists.{entry_of, is_idle, is_writing}
use Rattle.file_simulation.specs.ClientEvents as table
use Rattle.file_simulation.specs.Calls.{IsGathering, IsScattering, IsIdle}
use Rattle.relation_law.specs.CallsTurns.{PendsWrite, IsSending, IsStarting, stores_of}
use Rattle.relation_law.proofs.CallsSends.{IsPlanned, gather_starts, write_starts}
use Rattle.relation_law.proofs.CallsTells.{told, told_by, CommandsFit, IsBeyond, write_command, one_sent, all_sent, beyond_more}

-- the entry of the call's write, behind the gather that its client is at
abbrev pub entry_started : State → (c : ℕ) → Held → CallOp → Grant → Start
entry_started s c h op g =
    written_start s c g (byte_for (span_of op).offset (bytes_of op)) (touches_column h.map (span_of op))
    (hits_cell h.map (span_of op) g.left) (byte_before s (entry_of s c)) ((span_of op).offset + (span_of op).length)
    (part_of h.map (span_of op))

-- the machine in which the client has gathered nothing
abbrev pub gathered_none : State → (c : ℕ) → Held → CallOp → Grant → State
gathered_none s c h op g = after s (event.StartsRead c g 0 0 (touches_column h.map (span_of op)))

-- What a write that starts needs of its plan, at the machine behind its gather.
abbrev pub IsPlannedAt : State → (c : ℕ) → Held → CallOp → Grant → Io → List Store → List Awaited → Type 0
IsPlannedAt s c h op g io queue cs = IsPlanned (entry_started s c h op g) io.timed (stores_of cs ++ queue)

module _ (file c : ℕ) (x : Client) (call : Call) (call_is : x.call ≡ Some call) (here : (file_of call.op == file) ≡ true)
    (h : Held) (holds : held_of x.held file ≡ Some h) where
  -- behind a gather
  module _ (m : RawMap) (s : State) (g : Grant) (io : Io) (queue : List Store) (a : Awaited) (cs : List Awaited)
      (has : s.held c ≡ Some g) (low : s.nonce c ≤ h.number * NONCES + h.count) (f : CommandsFit x h true (a ∷ cs)) (i : ℕ)
      (k : IsGathering m s c call.op i) (all : io.awaited ≡ a ∷ cs)
      (plan : IsPlannedAt s c h call.op g io queue (a ∷ cs)) where
    abbrev t : State
    t = after_all s (table.starts_write s c (entry_of s c) h call.op g)

    started : IsScattering t c call.op (record { awaited = []; got = io.got; timed = io.timed })
        (stores_of (a ∷ cs) ++ queue) s.count
    started = write_starts s c call.op g (entry_of s c) (byte_for (span_of call.op).offset (bytes_of call.op))
        (touches_column h.map (span_of call.op)) (hits_cell h.map (span_of call.op) g.left) (byte_before s (entry_of s c))
        ((span_of call.op).offset + (span_of call.op).length) (part_of h.map (span_of call.op)) io.got io.timed
        (stores_of (a ∷ cs) ++ queue) k.commit has (λ p. refl) refl plan

    pub sending : IsSending t c call.op io queue (a ∷ cs)
    sending = record { entry = s.count; before = []; awaited = all; scattering = started }

    pub first_events : table.sends s file c x (to_drive a)
        ≡ table.sends_first s c h call.op (Some a.ask.component) a.command g
    first_events = write_command file c x call call_is here h holds s g a has f.0 ∙ by_call (s.call c) k.at_
      where
        by_call : (n : machine.Call) → n ≡ AtRead i →
            (if is_writing n then table.sends_on s c (Some a.ask.component) a.command g
            else if is_idle n then table.sends_behind s c h call.op (Some a.ask.component) a.command g
            else table.sends_first s c h call.op (Some a.ask.component) a.command g)
            ≡ table.sends_first s c h call.op (Some a.ask.component) a.command g
        by_call n e = rw e refl

    pub same_behind : told s file c x (map to_drive (a ∷ cs)) ≡ told t file c x (map to_drive (a ∷ cs))
    same_behind =
        told_by s file c x (to_drive a) (map to_drive cs)
        (table.sends_first s c h call.op (Some a.ask.component) a.command g) first_events
        ∙ sym (told_by t file c x (to_drive a) (map to_drive cs)
        (event.Sends c a.ask.component g (entry_of t c) a.command.offset a.command.nonce ∷ [])
        (one_sent file c x call call_is here h holds t g a has s.count started.writing.at_ f.0
        ∙ ap (λ (n : ℕ). event.Sends c a.ask.component g (entry_of t c) n a.command.nonce ∷ []) (sym f.0.offset)))

    pub starts_behind : IsBeyond file c x call call_is here h holds s (told s file c x (map to_drive (a ∷ cs)))
        × ((j : ℕ) × IsScattering (told s file c x (map to_drive (a ∷ cs))) c call.op io queue j)
    starts_behind =
        let r = all_sent file c x call call_is here h holds t g io queue (a ∷ cs) has low f sending in
        rw same_behind (
          beyond_more file c x call call_is here h holds s t (told t file c x (map to_drive (a ∷ cs)))
              (record { held = refl; size = refl; nonce = low; waiting = refl; next = refl }) r.0,
          r.1,
        )

  -- where nothing was gathered
  module _ (s : State) (g : Grant) (io : Io) (queue : List Store) (a : Awaited) (cs : List Awaited)
      (has : s.held c ≡ Some g) (low : s.nonce c ≤ h.number * NONCES + h.count) (f : CommandsFit x h true (a ∷ cs))
      (idle : IsIdle s c) (all : io.awaited ≡ a ∷ cs)
      (plan : IsPlannedAt (gathered_none s c h call.op g) c h call.op g io queue (a ∷ cs)) where
    abbrev u : State
    u = gathered_none s c h call.op g

    pub gathering : IsGathering h.map u c call.op s.count
    gathering = gather_starts h.map s c call.op g idle has

    pub idle_events : table.sends s file c x (to_drive a)
        ≡ table.sends_behind s c h call.op (Some a.ask.component) a.command g
    idle_events = write_command file c x call call_is here h holds s g a has f.0 ∙ by_call (s.call c) idle.at_
      where
        by_call : (n : machine.Call) → n ≡ Idle →
            (if is_writing n then table.sends_on s c (Some a.ask.component) a.command g
            else if is_idle n then table.sends_behind s c h call.op (Some a.ask.component) a.command g
            else table.sends_first s c h call.op (Some a.ask.component) a.command g)
            ≡ table.sends_behind s c h call.op (Some a.ask.component) a.command g
        by_call n e = rw e refl

    pub same_none : told s file c x (map to_drive (a ∷ cs)) ≡ told u file c x (map to_drive (a ∷ cs))
    same_none =
        told_by s file c x (to_drive a) (map to_drive cs)
        (table.sends_behind s c h call.op (Some a.ask.component) a.command g) idle_events
        ∙ sym (told_by u file c x (to_drive a) (map to_drive cs)
        (table.sends_first u c h call.op (Some a.ask.component) a.command g)
        (first_events h.map u g io queue a cs has low f s.count gathering all plan))

    pub starts_idle : IsBeyond file c x call call_is here h holds s (told s file c x (map to_drive (a ∷ cs)))
        × ((j : ℕ) × IsScattering (told s file c x (map to_drive (a ∷ cs))) c call.op io queue j)
    starts_idle =
        let r = starts_behind h.map u g io queue a cs has low f s.count gathering all plan in
        rw same_none (
          beyond_more file c x call call_is here h holds s u (told u file c x (map to_drive (a ∷ cs)))
              (record { held = refl; size = refl; nonce = low; waiting = refl; next = refl }) r.0,
          r.1,
        )

  -- ---- all WRITEs of a turn

  -- what is asked of the plan, where the write is still to start
  abbrev pub PlanFits : RawMap → State → Grant → Io → List Store → List Awaited → Type 0
  PlanFits m s g io queue cs =
      ((i : ℕ) → IsGathering m s c call.op i → IsPlannedAt s c h call.op g io queue cs)
      × (IsIdle s c → IsPlannedAt (gathered_none s c h call.op g) c h call.op g io queue cs)

  starting_told : (m : RawMap) (s : State) (g : Grant) (io : Io) (queue : List Store) (cs : List Awaited) →
      s.held c ≡ Some g → s.nonce c ≤ h.number * NONCES + h.count → CommandsFit x h true cs →
      PlanFits m s g io queue cs → Awaiting cs → io.awaited ≡ cs → ((i : ℕ) × IsGathering m s c call.op i) ⊎ IsIdle s c →
      IsBeyond file c x call call_is here h holds s (told s file c x (map to_drive cs))
      × ((j : ℕ) × IsScattering (told s file c x (map to_drive cs)) c call.op io queue j)
  starting_told m s g io queue [] has low f plan some all from = absurd some
  starting_told m s g io queue (a ∷ cs) has low f plan some all (inl (i, k)) =
      starts_behind m s g io queue a cs has low f i k all (plan.0 i k)
  starting_told m s g io queue (a ∷ cs) has low f plan some all (inr idle) =
      starts_idle s g io queue a cs has low f idle all (plan.1 idle)

  pub writes_told : (m : RawMap) (s : State) (g : Grant) (io : Io) (queue : List Store) (cs : List Awaited) →
      s.held c ≡ Some g → s.nonce c ≤ h.number * NONCES + h.count → CommandsFit x h true cs →
      (IsStarting m s c call.op io queue cs → PlanFits m s g io queue cs) → PendsWrite m s c call.op io queue cs →
      IsBeyond file c x call call_is here h holds s (told s file c x (map to_drive cs))
      × ((j : ℕ) × IsScattering (told s file c x (map to_drive cs)) c call.op io queue j)
  writes_told m s g io queue cs has low f plan (inl k) =
      all_sent file c x call call_is here h holds s g io queue cs has low f k
  writes_told m s g io queue cs has low f plan (inr k) =
      starting_told m s g io queue cs has low f (plan k) k.some k.all k.from
