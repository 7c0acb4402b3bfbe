-- A client's slot, and what its requests are by their numbers.
use Rattle.std.specs.Prelude.{ℕ, List, [], ◌∷◌, ◌++◌, Some, None, ◌≡◌, ◌<◌, ◌==◌, ◌&&◌, nat_lt, if◌then◌else◌}
use Rattle.server_rules.specs.declared.server.Slot.{Slot as RulesSlot}
use Rattle.server_rules.specs.Slots.{Admit as RulesAdmit, New as RulesNew, Again as RulesAgain, Misordered as RulesMisordered, admit, admit_after}
use Rattle.server_rules.specs.Laws.{CountOnFrom}
use Rattle.grant_table.specs.declared.slot.Admit.{Admit}
use Rattle.grant_table.specs.declared.slot.Admit.TheVariants.{New, Again, Misordered}

-- the number of the last request, 0 before the first, and the answer to that
pub record SlotState : Type 0 where
  pub last : ℕ
  pub kept : List ℕ

abbrev pub new_slot : SlotState
new_slot = record { last = 0; kept = [] }

-- what the rules say, without the answer
abbrev pub without_answer : RulesAdmit → Admit
without_answer RulesNew = New
without_answer (RulesAgain kept) = Again
without_answer (RulesMisordered expected) = Misordered expected

-- what a request is; before the first one there is no last to come again
unfoldable pub admitted : (last sequence : ℕ) → Admit
admitted last sequence =
    if (sequence == last) && nat_lt 0 last then Again else without_answer (admit_after last sequence)

-- a slot admits what the rules say, of a client that made no request and of one that did
abbrev pub FollowTheRules : Type 0
FollowTheRules = (sequence : ℕ) → (without_answer (admit None sequence) ≡ admitted 0 sequence)
    × ((s : RulesSlot) → 0 < s.last → without_answer (admit (Some s) sequence) ≡ admitted s.last sequence)

-- ---- lists of requests

-- a request, and the answer that it gets where it is carried out
pub record Request : Type 0 where
  pub sequence : ℕ
  pub answer : List ℕ

-- the slot behind a request
abbrev pub by_admit : SlotState → Request → Admit → SlotState
by_admit s r New = record { last = r.sequence; kept = r.answer }
by_admit s r a = s

abbrev pub after : SlotState → Request → SlotState
after s r = by_admit s r (admitted s.last r.sequence)

abbrev pub after_all : SlotState → List Request → SlotState
after_all s [] = s
after_all s (r ∷ rs) = after_all (after s r) rs

-- the number of a request that is carried out
abbrev pub where_new : (sequence : ℕ) → Admit → List ℕ
where_new sequence New = sequence ∷ []
where_new sequence a = []

-- the numbers of those that are, in order
abbrev pub carried : SlotState → List Request → List ℕ
carried s [] = []
carried s (r ∷ rs) = where_new r.sequence (admitted s.last r.sequence) ++ carried (after s r) rs

abbrev pub CarryOutInOrder : Type 0
CarryOutInOrder = (s : SlotState) (rs : List Request) → CountOnFrom s.last (carried s rs)

-- the request that was carried out, again, gets its answer
pub record IsAnsweredAgain (s : SlotState) (r : Request) : Type 0 where
  pub again : admitted s.last r.sequence ≡ Again
  pub kept : s.kept ≡ r.answer

abbrev pub AnswerRepeatsAlike : Type 0
AnswerRepeatsAlike =
    (s : SlotState) (r : Request) (rs : List Request) → admitted s.last r.sequence ≡ New → carried (after s r) rs ≡ [] →
    IsAnsweredAgain (after_all (after s r) rs) r
