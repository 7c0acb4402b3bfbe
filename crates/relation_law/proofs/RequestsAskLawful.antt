-- The events of a request that a client sends can happen, if it waits for nothing and its call is as the request needs.
-- Towards `EventsAreLawful` (`specs/Steps.antt`).
use Rattle.std.proofs.Common.{◌≡◌, ◌==◌, ℕ, Bool, true, false, [], ◌∷◌, Option, Some, None, refl, sym, subst, inl, inr, if◌then◌else◌}
use Rattle.std.proofs.lemmas.Bool.{cases_eq, eq-eqb, ne_eqb}
use Rattle.layout_ops.specs.declared.args.Args.{Args}
use Rattle.layout_ops.specs.declared.args.Args.TheVariants as args
use Rattle.layout_ops.specs.declared.statuses.TheConstants.{LAYOUTIOMODE4_RW}
use Rattle.world_history.specs.ClientNames.{Client, Request, Phase}
use Rattle.fence_law.specs.State.{State, Grant}
use Rattle.fence_law.specs.State.{Event as event}
use Rattle.fence_law.specs.State.Call.{Idle, Broken}
use Rattle.fence_law.specs.State.RequestKind.{Get, Return}
use Rattle.fence_law.specs.Machine.{Lawful}
use Rattle.file_simulation.specs.EventLists.{of_grant}
use Rattle.file_simulation.specs.Requests.{RequestClass, Own, Other, phase_of, return_class, AwaitsNothing}
use Rattle.file_simulation.specs.ClientEvents as table
use Rattle.relation_law.specs.Requests.{CallAllows}
use Rattle.relation_law.proofs.RequestsGuards.{asks_may, asks_other_may, gives_back_may, reports_may}

module _ (s : State) (c : ℕ) (rests : AwaitsNothing s c) where
  gives_back : (o : Option Grant) → s.held c ≡ o → s.call c ≡ Idle
      → Lawful s (of_grant o (λ g. event.GivesBack c g ∷ []))
  gives_back None held idle = tt
  gives_back (Some g) held idle = (gives_back_may s c g rests held idle, tt)

  reports : (o : Option Grant) → s.held c ≡ o → s.call c ≡ Broken → Lawful s (of_grant o (λ g. event.Reports c g ∷ []))
  reports None held broken = tt
  reports (Some g) held broken = (reports_may s c g rests held broken, tt)

  returned : (k : RequestClass) → (k ≡ Own (Return true) → s.call c ≡ Idle) → (k ≡ Own (Return false) → s.call c ≡ Broken)
      → Lawful s (table.returns s c k)
  returned (Own (Return true)) idle broken = gives_back (s.held c) refl (idle refl)
  returned (Own (Return false)) idle broken = reports (s.held c) refl (broken refl)
  returned (Own (Get b)) idle broken = tt
  returned Other idle broken = (asks_other_may s c rests, tt)

  here : (o : Option Phase) (a : Args) → CallAllows s c o a → Lawful s (table.asks_here s c o a)
  here o (args.LayoutGet x) k = (asks_may s c (x.iomode == LAYOUTIOMODE4_RW) rests k.held k.idle, tt)
  here o (args.LayoutCommit x) k = (asks_other_may s c rests, (k, tt))
  here o (args.LayoutReturn x) k = returned (return_class o) k.idle k.broken

  -- all events of the request
  pub asks_lawful : (file : ℕ) (y : Client) (r : Request) → (r.file ≡ file → CallAllows s c (phase_of y.call) r.args)
      → Lawful s (table.asks s file c y r)
  asks_lawful file y r k = elim (cases_eq r.file file) [
    | inl is ↦
        subst (λ (b : Bool). Lawful s (if b then table.asks_here s c (phase_of y.call) r.args
        else event.AsksOther c ∷ [])) (sym (eq-eqb r.file file is)) (here (phase_of y.call) r.args (k is))
    | inr other ↦
        subst (λ (b : Bool). Lawful s (if b then table.asks_here s c (phase_of y.call) r.args
        else event.AsksOther c ∷ [])) (sym (ne_eqb r.file file other)) (asks_other_may s c rests, tt)
  ]
