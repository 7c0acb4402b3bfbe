-- Requests of a slot are carried out in order, and a repeat gets the same answer.
use Rattle.std.specs.Prelude.{ℕ, List, [], ◌∷◌, ◌++◌, refl, ◌≡◌, ◌+◌, ◌<◌, ◌==◌, ◌&&◌, nat_lt}
use Rattle.std.proofs.Common.{arith, inl, inr, ap, ◌∙◌}
use Rattle.std.proofs.lemmas.Bool.{cases_Bool}
use Rattle.std.proofs.lemmas.Bool.Decides.{nat_tests}
use Rattle.server_rules.specs.declared.limits.TheConstants.{GREATEST_SEQUENCE}
use Rattle.server_rules.specs.Slots.{admit, admit_after}
use Rattle.server_rules.specs.Laws.{CountOnFrom}
use Rattle.grant_table.specs.declared.slot.Admit.{Admit}
use Rattle.grant_table.specs.declared.slot.Admit.TheVariants.{New, Again, Misordered}
use Rattle.grant_table.specs.Admitting.{SlotState, Request, admitted, without_answer, by_admit, after, after_all, where_new, carried, FollowTheRules, CarryOutInOrder, AnswerRepeatsAlike}

-- ---- the rules

pub follow : FollowTheRules
unfolding admitted admit
follow n = (grind (arith, nat_tests), λ s p. grind (arith, nat_tests, p))

-- ---- one request

new_after : (last n : ℕ) → without_answer (admit_after last n) ≡ New → n ≡ last + 1
unfolding admit_after
new_after last n e =
    elim (cases_Bool ((n == last + 1) && nat_lt last GREATEST_SEQUENCE))
    [ inl t ↦ grind (arith, nat_tests, t) | inr z ↦ absurd (cc (rw z at e)) ]

-- a new request has the number behind the last
new_is_next : (last n : ℕ) → admitted last n ≡ New → n ≡ last + 1
unfolding admitted
new_is_next last n e =
    elim (cases_Bool ((n == last) && nat_lt 0 last)) [ inl t ↦ absurd (cc (rw t at e)) | inr z ↦ new_after last n (rw z at e) ]

-- the last number, again
last_again : (n : ℕ) → 0 < n → admitted n n ≡ Again
unfolding admitted
last_again n p = grind (arith, nat_tests, p)

-- ---- many

count_by : (s : SlotState) (r : Request) (rs : List Request) → ((t : SlotState) → CountOnFrom t.last (carried t rs)) →
    (a : Admit) → admitted s.last r.sequence ≡ a → CountOnFrom s.last (where_new r.sequence a ++ carried (by_admit s r a) rs)
count_by s r rs more New e = (new_is_next s.last r.sequence e, more (record { last = r.sequence; kept = r.answer }))
count_by s r rs more Again e = more s
count_by s r rs more (Misordered expected) e = more s

pub in_order : CarryOutInOrder
in_order s [] = tt
in_order s (r ∷ rs) = count_by s r rs (λ t. in_order t rs) (admitted s.last r.sequence) refl

still_by : (s : SlotState) (r : Request) (rs : List Request) → ((t : SlotState) → carried t rs ≡ [] → after_all t rs ≡ t) →
    (a : Admit) → where_new r.sequence a ++ carried (by_admit s r a) rs ≡ [] → after_all (by_admit s r a) rs ≡ s
still_by s r rs more New e = absurd (cc e)
still_by s r rs more Again e = more s e
still_by s r rs more (Misordered expected) e = more s e

-- where none is carried out the slot stays
still : (s : SlotState) (rs : List Request) → carried s rs ≡ [] → after_all s rs ≡ s
still s [] e = refl
still s (r ∷ rs) e = still_by s r rs (λ t. still t rs) (admitted s.last r.sequence) e

pub alike : AnswerRepeatsAlike
alike s r rs new none =
    let at : after_all (after s r) rs ≡ record { last = r.sequence; kept = r.answer } =
    still (after s r) rs none ∙ ap (by_admit s r) new in
    let some : 0 < r.sequence = omega (arith, new_is_next s.last r.sequence new) in
    rw at (record { again = last_again r.sequence some; kept = refl })
