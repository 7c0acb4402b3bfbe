-- The first WRITEs of a call: the write starts behind its gather, or behind an empty one, and its WRITEs may be sent.
use Rattle.std.proofs.Common.{◌≡◌, ◌==◌, ◌<◌, ℕ, true, List, [], ◌∷◌, length, map, Some, refl, sym, ap, subst, inl, inr}
use Rattle.std.specs.List.{All}
use Rattle.data_map.specs.declared.check.RawMap.{RawMap}
use Rattle.data_map.specs.Check.{IsChecked}
use Rattle.stripe_plan.specs.declared.plan.Column.{Column}
use Rattle.server_rules.specs.Laws.{In}
use Rattle.client_rules.specs.Calls.{file_of, span_of, bytes_of}
use Rattle.client_rules.specs.Grants.{held_of}
use Rattle.client_rules.specs.Messages.{to_drive}
use Rattle.world_history.specs.ClientNames.{Client, Call, CallOp, Held, Awaited, Store, Io}
use Rattle.fence_law.specs.Law.{IsCode, IsWholeAt}
use Rattle.fence_law.specs.Machine.{Allowed}
use Rattle.fence_law.specs.State.{State, Grant}
use Rattle.fence_law.specs.State.{Event as event}
use Rattle.plan_law.specs.FileLayout.{layout_of}
use Rattle.plan_law.specs.Writes.{touches_column}
use Rattle.file_simulation.specs.Calls.{IsGathering, IsHolding, IsIdle}
use Rattle.file_simulation.specs.EventLists.{entry_in, entry_of}
use Rattle.file_simulation.specs.Showing.{IsRun}
use Rattle.relation_law.specs.CallsTurns.{IsStarting}
use Rattle.relation_law.specs.MessagesSending.{RiseFrom}
use Rattle.relation_law.proofs.CallsSends.{gather_starts}
use Rattle.relation_law.proofs.CallsStarts.{gathered_none}
use Rattle.relation_law.proofs.CallsTells.{CommandsFit}
use Rattle.relation_law.proofs.CalmRuns.{client_run, whole_now}
use Rattle.relation_law.proofs.MessagesScatter.{start_allowed, write_starts}
use Rattle.relation_law.proofs.Plans.{begins_at, plans_at}
use Rattle.relation_law.proofs.ReadsShown.{AllShown}
use Rattle.relation_law.proofs.ReadsStarts.{gather_may_start}
use Rattle.relation_law.proofs.Scatters.{Scattered}
use Rattle.headline_law.proofs.ClientMessages.{MaySendThese, gathered_may, idle_may}

module _ (m : RawMap) (tag c : ℕ) (h : Held) (op : CallOp) (got : List Column) (io : Io) (queue : List Store) (cs : List Awaited)
    (scat : Scattered h op got io queue cs) (long : length h.components ≡ m.comps)
    (small : All (λ v. v < 256) (bytes_of op)) where
  -- its write may start
  starts_at : (z : State) (j : ℕ) → z.layout ≡ layout_of m tag → (k : IsHolding m z c h) → IsGathering m z c op j →
      AllShown z j got → IsWholeAt z → Allowed z (write_starts z c h op k.grant.left k.grant (entry_of z c))
  starts_at z j lay k gathering shown whole =
      subst (λ (n : ℕ). Allowed z (write_starts z c h op k.grant.left k.grant n)) (sym (ap entry_in gathering.at_))
      (start_allowed m tag z c h op got io.timed j
      (begins_at m tag c h op got io queue cs scat long small z j lay k gathering shown whole))

module _ (m : RawMap) (tag file c : ℕ) (x : Client) (call : Call) (call_is : x.call ≡ Some call)
    (here : (file_of call.op == file) ≡ true) (h : Held) (holds : held_of x.held file ≡ Some h) (got : List Column) (io : Io)
    (queue : List Store) (long : length h.components ≡ m.comps) (small : All (λ v. v < 256) (bytes_of call.op)) (s : State)
    (lay : s.layout ≡ layout_of m tag) (checked : IsChecked m) (run : IsRun s) (code : IsCode s.layout) (k : IsHolding m s c h)
    (shown : (i : ℕ) → IsGathering m s c call.op i → AllShown s i got) (none : IsIdle s c → got ≡ []) where
  abbrev g : Grant
  g = k.grant

  -- the machine in which an empty gather was started
  abbrev u : State
  u = gathered_none s c h call.op k.grant

  held_there : IsHolding m (gathered_none s c h call.op k.grant) c h
  held_there = record { grant = k.grant; held = k.held; same = k.same; size = k.size; nonce = k.nonce }

  pub scatter_may : (cs : List Awaited) → Scattered h call.op got io queue cs → CommandsFit x h true cs →
      RiseFrom (s.nonce c) cs → IsStarting m s c call.op io queue cs → MaySendThese s file c x (map to_drive cs)
  unfolding held_there
  scatter_may [] scat fit rise starts = absurd starts.some
  scatter_may (a ∷ cs) scat fit rise starts =
      let plan =
      plans_at m tag c h call.op got io queue (a ∷ cs) scat long small g s lay checked run code k k.held shown none in
      elim starts.from [
        | inl r ↦
            gathered_may file c x call call_is here h holds m s k io queue a cs
            (starts_at m tag c h call.op got io queue (a ∷ cs) scat long small s r.0 lay k r.1 (shown r.0 r.1)
            (whole_now s run code)) rise fit r.0 r.1 starts.all (plan.0 r.0 r.1)
        | inr idle ↦
            let may : Allowed s (event.StartsRead c g 0 0 (touches_column h.map (span_of call.op))) =
            gather_may_start m tag s c h call.op checked lay k idle.at_ scat.is scat.covers in
            let there : IsRun (gathered_none s c h call.op k.grant) =
            client_run c s run (event.StartsRead c g 0 0 (touches_column h.map (span_of call.op)) ∷ []) (refl, tt) (may, tt) in
            let gathering : IsGathering m (gathered_none s c h call.op k.grant) c call.op s.count =
            subst (λ (n : RawMap). IsGathering n (gathered_none s c h call.op k.grant) c call.op s.count) k.same.agrees.map
            (gather_starts h.map s c call.op g idle k.held) in
            idle_may file c x call call_is here h holds m s k io queue a cs idle fit starts.all (plan.1 idle) may
            (gathered_may file c x call call_is here h holds m u held_there io queue a cs
            (starts_at m tag c h call.op got io queue (a ∷ cs) scat long small u s.count lay held_there gathering
            (λ col n. absurd (subst (In col) (none idle) n)) (whole_now u there code)) rise fit s.count gathering starts.all
            (plan.1 idle))
      ]
