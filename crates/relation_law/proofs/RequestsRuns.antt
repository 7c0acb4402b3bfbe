-- What a run of the machine says of requests: a client's slot is near its last request, and only a LAYOUTGET gets a grant.
use Rattle.std.proofs.Common.{◌≡◌, ℕ, ◌+◌, Bool, true, false, List, [], ◌∷◌, Some, None, refl, sym, ap, subst, ◌∙◌, inl, inr}
use Rattle.fence_law.specs.Words.{In}
use Rattle.fence_law.specs.State.{State, Layout, Event, Grant, Request, Answer}
use Rattle.fence_law.specs.State.RequestKind.{Get, Return}
use Rattle.fence_law.specs.State.Event.{Asks, Grants, Refuses, GivesBack, Reports, Frees}
use Rattle.fence_law.specs.Machine.{Allowed, Lawful, after, after_all, new_file_state}
use Rattle.fence_law.proofs.Slots.{Slots, keep_slots}
use Rattle.file_simulation.specs.Showing.{IsRun}
use Rattle.relation_law.specs.Requests.{GetsGetGrants}

kept_all : (P : State → Type 0) → ((s : State) (e : Event) → Allowed s e → P s → P (after s e)) → (s : State) (es : List Event)
    → Lawful s es → P s → P (after_all s es)
kept_all P keep s [] l x = x
kept_all P keep s (e ∷ es) l x = kept_all P keep (after s e) es l.1 (keep s e l.0 x)

of_run : (P : State → Type 0) → ((s : State) (e : Event) → Allowed s e → P s → P (after s e))
    → ((m : Layout) → P (new_file_state m)) → (s : State) → IsRun s → P s
of_run P keep first s r =
    subst P (sym r.state) (kept_all P keep (new_file_state s.layout) r.events r.lawful (first s.layout))

-- ---- slots

slots_first : (m : Layout) → Slots (new_file_state m)
slots_first m = record { near = λ c. inl (refl, refl, refl); asks = λ r i. absurd i; told = λ a i. absurd i }

pub slots_of_run : (s : State) → IsRun s → Slots s
slots_of_run = of_run Slots keep_slots slots_first

-- ---- grants

grants_first : (m : Layout) → GetsGetGrants (new_file_state m)
grants_first m a g i is = absurd i

more_requests : (s : State) (r : Request) → GetsGetGrants s → (a : Answer) (g : Grant) → In a s.answers → a.grant ≡ Some g
    → (rw : Bool) × In (record { client = a.client; sequence = a.sequence; kind = Get rw }) (r ∷ s.requests)
more_requests s r h a g i is = let x = h a g i is in (x.0, inr x.1)

more_none : (s : State) (b : Answer) → b.grant ≡ None → GetsGetGrants s → (a : Answer) (g : Grant) → In a (b ∷ s.answers)
    → a.grant ≡ Some g → (rw : Bool) × In (record { client = a.client; sequence = a.sequence; kind = Get rw }) s.requests
more_none s b none h a g (inl same) is = absurd (cc (sym none ∙ ap (λ (x : Answer). x.grant) (sym same) ∙ is))
more_none s b none h a g (inr i) is = h a g i is

keep_grants : (s : State) (e : Event) → Allowed s e → GetsGetGrants s → GetsGetGrants (after s e)
keep_grants s (Asks c rw) a h = more_requests s (record { client = c; sequence = s.sequence c + 1; kind = Get rw }) h
keep_grants s (GivesBack c g) a h = more_requests s (record { client = c; sequence = s.sequence c + 1; kind = Return true }) h
keep_grants s (Reports c g) a h = more_requests s (record { client = c; sequence = s.sequence c + 1; kind = Return false }) h
keep_grants s (Refuses c kind) a h =
    more_none s (record { client = c; sequence = s.slot c + 1; grant = None; size = s.size }) refl h
keep_grants s (Frees c) a h =
    more_none s (record { client = c; sequence = s.slot c + 1; grant = None; size = s.size }) refl h
keep_grants s (Grants c number rw range extending) a h = λ b g i is. elim i [
  | inl same ↦ (
    rw,
    subst (λ (x : Answer). In (record { client = x.client; sequence = x.sequence; kind = Get rw }) s.requests)
        (sym same) a.asks,
  )
  | inr j ↦ h b g j is
]
keep_grants s e a h = h

-- only a LAYOUTGET is answered with a grant
pub grants_of_run : (s : State) → IsRun s → GetsGetGrants s
grants_of_run = of_run GetsGetGrants keep_grants grants_first

-- so the answer to a return has none
pub return_gives_none : (s : State) → IsRun s → (c : ℕ) (b : Bool) (g : Grant) (size : ℕ) → s.asked c ≡ Return b
    → In (record { client = c; sequence = s.sequence c; grant = Some g; size = size }) s.answers → ⊥
return_gives_none s r c b g size asks i =
    let x = grants_of_run s r (record { client = c; sequence = s.sequence c; grant = Some g; size = size }) g i refl in
    let kind : Get x.0 ≡ s.asked c =
    ((slots_of_run s r).asks (record { client = c; sequence = s.sequence c; kind = Get x.0 }) x.1).1 refl in
    cc (kind ∙ asks)
