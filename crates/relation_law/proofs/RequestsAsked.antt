-- A client's own request goes out, and an answer is taken: what the machine then has of it.
use Rattle.std.proofs.Common.{◌≡◌, ◌==◌, ◌+◌, ℕ, Bool, true, false, [], ◌∷◌, Option, Some, None, refl, sym, ap, subst, ◌∙◌, inl, inr, arith, if◌then◌else◌}
use Rattle.std.proofs.lemmas.Bool.{cases_eq, eq-eqb, ne_eqb}
use Rattle.data_map.specs.declared.check.RawMap.{RawMap}
use Rattle.layout_ops.specs.declared.args.Args.{Args}
use Rattle.layout_ops.specs.declared.args.Args.TheVariants as args
use Rattle.layout_ops.specs.declared.statuses.TheConstants.{LAYOUTIOMODE4_RW}
use Rattle.server_rules.specs.Laws.{last_of}
use Rattle.client_rules.specs.declared.limits.TheConstants.{GREATEST_SEQUENCE}
use Rattle.client_rules.specs.Going.{after_number}
use Rattle.world_history.specs.ServerNames.{Slot}
use Rattle.world_history.specs.ClientNames.{Client, Request, Phase, Starts, Needs, Waits, Reads, Probes, Gathers, Scatters, First, Get as Gets, Commit, Report, Close}
use Rattle.exchange_law.specs.Messages.{last_before}
use Rattle.fence_law.specs.State.{State, Grant, RequestKind}
use Rattle.fence_law.specs.State.RequestKind.{Get, Return}
use Rattle.fence_law.specs.State.{Event as event}
use Rattle.fence_law.specs.Machine.{after, after_all}
use Rattle.fence_law.proofs.Words.{updated_same}
use Rattle.file_simulation.specs.EventLists.{of_grant, entry_of}
use Rattle.file_simulation.specs.Requests.{RequestClass, Own, Other, phase_of, return_class, class_by, class_of, kept_by, AnswerIs, ClassIs, AwaitsNothing, IsOutstanding}
use Rattle.file_simulation.specs.ClientEvents as table
use Rattle.relation_law.specs.Requests.{HoldsWhatReturns}

-- ---- numbers

next_after : (n : ℕ) → (n ≡ 0 → ⊥) → last_before n + 1 ≡ n
next_after n some = rw (ne_eqb n 0 some) (omega (arith, some))

pub last_after : (n : ℕ) → (n ≡ 0 → ⊥) → last_before (after_number n) ≡ n
last_after n some = elim (cases_eq n GREATEST_SEQUENCE) [
  | inl most ↦ rw (eq-eqb n GREATEST_SEQUENCE most) (sym most)
  | inr less ↦ rw (ne_eqb n GREATEST_SEQUENCE less, ne_eqb (n + 1) 0 (λ e. absurd (omega (arith, e)))) (omega arith)
]

-- the server has kept no answer to a request with the next number
not_kept : (p : Option Slot) (r : Request) (n : ℕ) → last_of p ≡ last_before n → r.sequence ≡ n → (n ≡ 0 → ⊥)
    → kept_by p r ≡ None
not_kept None r n last number some = refl
not_kept (Some t) r n last number some =
    rw (ne_eqb t.last r.sequence (λ same. absurd (omega (arith, next_after n some, last, number, same)))) refl

-- a return is no LAYOUTGET
pub return_no_get : (o : Option Phase) (b : Bool) → return_class o ≡ Own (Get b) → ⊥
return_no_get None b e = cc e
return_no_get (Some (Waits (Report timed))) b e = cc e
return_no_get (Some (Waits (Close u (x ∷ xs)))) b e = cc e
return_no_get (Some (Waits (Close u []))) b e = cc e
return_no_get (Some (Waits First)) b e = cc e
return_no_get (Some (Waits (Gets tries))) b e = cc e
return_no_get (Some (Waits (Commit timed))) b e = cc e
return_no_get (Some Starts) b e = cc e
return_no_get (Some (Needs n)) b e = cc e
return_no_get (Some (Reads io)) b e = cc e
return_no_get (Some (Probes io)) b e = cc e
return_no_get (Some (Gathers io)) b e = cc e
return_no_get (Some (Scatters io queue)) b e = cc e

-- ---- a request goes out

-- what the machine has of the request that a client has just sent
abbrev Sent : (file : ℕ) → RawMap → State → Option Slot → (c : ℕ) → Client → Request → Type 0
Sent file m s p c y r = (s.slot c ≡ last_of p) × IsOutstanding file m s p c y r

module _ (file : ℕ) (m : RawMap) (s : State) (c : ℕ) (y : Client) (p : Option Slot) (r : Request) (n : ℕ)
    (rests : AwaitsNothing s c) (sequence : s.sequence c ≡ last_before n) (slot : s.slot c ≡ last_of p)
    (number : r.sequence ≡ n) (some : n ≡ 0 → ⊥) where
  none_kept : kept_by p r ≡ None
  none_kept = not_kept p r n (sym slot ∙ rests.served ∙ sequence) number some

  numbered : (t : State) → t.sequence c ≡ s.sequence c + 1 → r.sequence ≡ t.sequence c
  numbered t taken = number ∙ sym (next_after n some) ∙ ap (λ (k : ℕ). k + 1) (sym sequence) ∙ sym taken

  -- one that the machine only counts
  away : (t : State) → t.sequence c ≡ s.sequence c + 1 → t.away c ≡ true → t.waiting c ≡ s.waiting c
      → t.slot c ≡ s.slot c → class_of file y r ≡ Other → Sent file m t p c y r
  away t taken out waits same is = (
    same ∙ slot,
    record {
      sequence = numbered t taken;
      waits = subst (ClassIs m t c y (kept_by p r)) (sym is) (record { waiting = waits ∙ rests.waiting; away = out });
    },
  )

  -- one that it has as its own
  own_one : (t : State) (kind : RequestKind) → t.sequence c ≡ s.sequence c + 1 → t.waiting c ≡ true → t.away c ≡ s.away c
      → t.asked c ≡ kind → t.slot c ≡ s.slot c
      → t.requests ≡ record { client = c; sequence = s.sequence c + 1; kind = kind } ∷ s.requests
      → class_of file y r ≡ Own kind → Sent file m t p c y r
  own_one t kind taken waits out asks same sent is = (
    same ∙ slot,
    record {
      sequence = numbered t taken;
      waits = subst (ClassIs m t c y (kept_by p r)) (sym is) (record {
        waiting = waits;
        away = out ∙ rests.away;
        asked = asks;
        request = rw (sent, taken) (inl refl);
        answer = subst (AnswerIs m t c y) (sym none_kept) tt;
      });
    },
  )

  -- by what it asks
  asks_other : class_of file y r ≡ Other → Sent file m (after s (event.AsksOther c)) p c y r
  asks_other is =
      away (after s (event.AsksOther c)) (updated_same s.sequence c _) (updated_same s.away c true) refl refl is

  asks_get : (rw_ : Bool) → class_of file y r ≡ Own (Get rw_) → Sent file m (after s (event.Asks c rw_)) p c y r
  asks_get rw_ is =
      own_one (after s (event.Asks c rw_)) (Get rw_) (updated_same s.sequence c _) (updated_same s.waiting c true) refl
      (updated_same s.asked c (Get rw_)) refl refl is

  gives_back : (g : Grant) → class_of file y r ≡ Own (Return true) → Sent file m (after s (event.GivesBack c g)) p c y r
  gives_back g is =
      own_one (after s (event.GivesBack c g)) (Return true) (updated_same s.sequence c _) (updated_same s.waiting c true) refl
      (updated_same s.asked c (Return true)) refl refl is

  reports : (g : Grant) → class_of file y r ≡ Own (Return false) → Sent file m (after s (event.Reports c g)) p c y r
  reports g is =
      own_one (after s (event.Reports c g)) (Return false) (updated_same s.sequence c _) (updated_same s.waiting c true) refl
      (updated_same s.asked c (Return false)) refl refl is

  -- a return
  returned : (k : RequestClass) → ((b : Bool) → k ≡ Own (Return b) → (g : Grant) × (s.held c ≡ Some g))
      → ((b : Bool) → k ≡ Own (Get b) → ⊥) → class_of file y r ≡ k
      → Sent file m (after_all s (table.returns s c k)) p c y r
  returned (Own (Return true)) holds get is =
      let h : (g : Grant) × (s.held c ≡ Some g) = holds true refl in
      subst (λ (o : Option Grant). Sent file m (after_all s (of_grant o (λ g. event.GivesBack c g ∷ []))) p c y r)
      (sym h.1) (gives_back h.0 is)
  returned (Own (Return false)) holds get is =
      let h : (g : Grant) × (s.held c ≡ Some g) = holds false refl in
      subst (λ (o : Option Grant). Sent file m (after_all s (of_grant o (λ g. event.Reports c g ∷ []))) p c y r)
      (sym h.1) (reports h.0 is)
  returned (Own (Get b)) holds get is = absurd (get b refl)
  returned Other holds get is = asks_other is

  -- a request on the file
  asks_here : (o : Option Phase) (a : Args) → HoldsWhatReturns s c o a → class_of file y r ≡ class_by o a
      → Sent file m (after_all s (table.asks_here s c o a)) p c y r
  asks_here o (args.LayoutGet x) holds is = asks_get (x.iomode == LAYOUTIOMODE4_RW) is
  asks_here o (args.LayoutCommit x) holds is =
      away (after_all s (event.AsksOther c ∷ (event.AsksCommit c (entry_of s c) ∷ [])))
      (updated_same s.sequence c _) (updated_same s.away c true) refl refl is
  asks_here o (args.LayoutReturn x) holds is =
      returned (return_class o) holds (return_no_get o) is

  -- any request
  pub request_sent : (r.file ≡ file → HoldsWhatReturns s c (phase_of y.call) r.args)
      → Sent file m (after_all s (table.asks s file c y r)) p c y r
  unfolding class_of
  request_sent holds = elim (cases_eq r.file file) [
    | inl here ↦
        subst (λ (b : Bool). Sent file m (after_all s (if b then table.asks_here s c (phase_of y.call) r.args
        else event.AsksOther c ∷ [])) p c y r) (sym (eq-eqb r.file file here))
        (asks_here (phase_of y.call) r.args (holds here)
        (ap (λ (b : Bool). if b then class_by (phase_of y.call) r.args else Other) (eq-eqb r.file file here)))
    | inr there ↦
        subst (λ (b : Bool). Sent file m (after_all s (if b then table.asks_here s c (phase_of y.call) r.args
        else event.AsksOther c ∷ [])) p c y r) (sym (ne_eqb r.file file there))
        (asks_other (ap (λ (b : Bool). if b then class_by (phase_of y.call) r.args else Other) (ne_eqb r.file file there)))
  ]
