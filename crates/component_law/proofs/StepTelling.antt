-- The lines of a step of the server say that a loss is taken, where an answer of it does.
use Rattle.std.proofs.Common.{◌≡◌, ℕ, ◌+◌, ◌++◌, ◌∷◌, [], List, Bool, true, false, ◌||◌, nat_le, nat_lt, filter, map, refl, sym, subst, ◌∙◌, arith, inl, inr, if◌then◌else◌}
use Rattle.std.specs.List.{list_any}
use Rattle.std.proofs.lemmas.Bool.{cases_Bool}
use Rattle.std.proofs.lemmas.Bool.Decides.{nat_tests}
use Rattle.std.proofs.lemmas.List.Folds.{list_any-append}
use Rattle.scenario_text.specs.declared.names.TheConstants.{CLIENTS}
use Rattle.scenario_text.specs.declared.line.Line.{Line}
use Rattle.server_rules.specs.declared.limits.TheConstants.{MAX_CLIENT}
use Rattle.server_rules.specs.Making.{new_server}
use Rattle.world_history.specs.ServerNames.{Server, Answer, Outgoing, ToDrive, Recalls, Answers, AnswersOrder}
use Rattle.world_history.specs.Handed.{Post, is_addressed, server_post}
use Rattle.world_history.specs.Sending.{sent_line, sent_lines}
use Rattle.world_history.specs.Calm.{is_told_taken, is_taken_out, sent_taken}
use Rattle.history_law.specs.Parties.{AllPartiesRun}
use Rattle.component_law.specs.Told.{posts_of, LossesAreTold}
use Rattle.component_law.proofs.Answering.{IsPlain, SlotsPlain, SendsPlain, step_plain, runs_plain}
use Rattle.component_law.proofs.Trimming.{taken_read}

-- ---- lines of messages

-- where those behind say so, it doesn't matter whether a message before them is addressed
later : (b : Bool) (p : Post) (ps : List Post) (number : ℕ)
    → ((n : ℕ) → is_told_taken (sent_lines n ps) ≡ true)
    → is_told_taken (sent_lines number (if b then p ∷ ps else ps)) ≡ true
unfolding sent_lines
later false p ps number rest = rest number
later true p ps number rest = either (sent_taken (sent_line number p.message)) (rest (number + 1))
  where
    either : (b : Bool) → is_told_taken (sent_lines (number + 1) ps) ≡ true
        → (b || is_told_taken (sent_lines (number + 1) ps)) ≡ true
    either true e = refl
    either false e = e

is_named_too : (c : ℕ) → nat_le c MAX_CLIENT ≡ true → nat_lt c CLIENTS ≡ true
is_named_too c e = grind (arith, e, nat_tests)

-- an answer that takes a loss is addressed, and its line says so
here : (a : Answer) (ps : List Post) (number : ℕ) → IsPlain a → is_taken_out (Answers a) ≡ true
    → is_told_taken (sent_lines number (if is_addressed (server_post (Answers a)) then server_post (Answers a) ∷ ps
    else ps)) ≡ true
unfolding sent_lines
here a ps number plain e = rw (is_named_too a.client plain.named) (rw (taken_read a plain e) refl)

lines_taken : (os : List Outgoing) (number : ℕ) → SendsPlain os → list_any is_taken_out os ≡ true
    → is_told_taken (sent_lines number (filter is_addressed (map server_post os))) ≡ true
lines_taken [] number h e = absurd (cc e)
lines_taken (Answers a ∷ os) number h e = elim (cases_Bool (is_taken_out (Answers a))) [
  | inl t ↦ here a (filter is_addressed (map server_post os)) number h.0 t
  | inr f ↦
      later (is_addressed (server_post (Answers a))) (server_post (Answers a)) (filter is_addressed (map server_post os))
      number (λ n. lines_taken os n h.1 (rw f at e))
]
lines_taken (ToDrive d c ∷ os) number h e =
    later (is_addressed (server_post (ToDrive d c))) (server_post (ToDrive d c)) (filter is_addressed (map server_post os))
    number (λ n. lines_taken os n h e)
lines_taken (Recalls r ∷ os) number h e =
    later (is_addressed (server_post (Recalls r))) (server_post (Recalls r)) (filter is_addressed (map server_post os))
    number (λ n. lines_taken os n h e)
lines_taken (AnswersOrder a ∷ os) number h e =
    later (is_addressed (server_post (AnswersOrder a))) (server_post (AnswersOrder a))
    (filter is_addressed (map server_post os)) number (λ n. lines_taken os n h e)

behind_notes : (told lines : List Line) → is_told_taken lines ≡ true → is_told_taken (told ++ lines) ≡ true
behind_notes told lines e = list_any-append sent_taken told lines ∙ rw e (or_true (list_any sent_taken told))
  where
    or_true : (b : Bool) → (b || true) ≡ true
    or_true true = refl
    or_true false = refl

-- ---- at each moment

pub losses_told : AllPartiesRun → LossesAreTold
losses_told run w did told number reached servers e =
    let runs = (run w reached).server in
    let slots : SlotsPlain w.server.slots =
    subst (λ (s : Server). SlotsPlain s.slots) (sym runs.is) (runs_plain (new_server []) runs.acts tt) in
    let sends : SendsPlain did.sends =
    subst SendsPlain (sym servers.sends) (step_plain w.server servers.chosen servers.input slots).sends in
    behind_notes told (sent_lines number (posts_of did)) (lines_taken did.sends number sends e)
