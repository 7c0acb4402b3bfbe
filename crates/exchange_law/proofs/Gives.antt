-- Which grants a step of the server gives: the next number, in the answer to a request behind all that it answered.
use Rattle.std.proofs.Common.{◌≡◌, ◌⊎◌, ℕ, ◌≤◌, ◌<◌, ◌^◌, ◌++◌, ◌∷◌, [], List, inl, inr, Option, Some, None, refl, sym, ap, subst, ◌∙◌, arith, append_assoc}
use Rattle.std.proofs.lemmas.Bool.{cases_eq, eq-eqb, ne_eqb}
use Rattle.layout_ops.specs.declared.statuses.TheConstants.{NFS4ERR_SEQ_MISORDERED}
use Rattle.world_history.specs.ServerNames.{Server, Slot, Answer, ClientRequest, Outgoing, ToDrive, Recalls, Answers, AnswersOrder}
use Rattle.server_rules.specs.Laws.{In, last_of}
use Rattle.server_rules.specs.Served.{Served, tells}
use Rattle.server_rules.specs.Answers.{recalls_from, plain_answer}
use Rattle.server_rules.specs.Files.{Step, at_file, file_at, to_drives}
use Rattle.server_rules.specs.Slots.{Again, slot_of, keep}
use Rattle.server_rules.specs.Requests.{serves, no_file, size_in, answer_with, answer_without, carries_out, on_request}
use Rattle.server_rules.specs.History.{Input, step}
use Rattle.history_law.specs.Answers.{AnswersOnly, Never, IsQuiet, ServerDid, Quiet, Asked}
use Rattle.history_law.proofs.Answers.{more_only, drives_only, recalls_only, IsAdmitted, is_admitted, step_did}
use Rattle.history_law.proofs.Steps.{each_request}
use Rattle.exchange_law.proofs.RefusalTelling.{named, served_next, refused_names, answer_names}

-- ---- what is given

-- the number of the last request of a client that was answered
abbrev pub last_in : List Slot → (client : ℕ) → ℕ
last_in ss c = last_of (slot_of ss c)

-- the answer to request q that is kept for the client gives grant n
pub record KeepsGrant (ss : List Slot) (c q n : ℕ) : Type 0 where
  pub slot : Slot
  pub found : slot_of ss c ≡ Some slot
  pub last : q ≡ slot.last
  pub gives : named slot.kept.results ≡ Some n

-- so does an answer that is sent
pub record SendsGrant (os : List Outgoing) (c q n : ℕ) : Type 0 where
  pub answer : Answer
  pub sent : In (Answers answer) os
  pub client : answer.client ≡ c
  pub sequence : answer.sequence ≡ q
  pub gives : named answer.results ≡ Some n

-- each slot keeps an answer to its client, and to its last request
abbrev pub AreSlots : List Slot → Type 0
AreSlots ss = (c : ℕ) (t : Slot) → slot_of ss c ≡ Some t → (t.kept.client ≡ c) × (t.kept.sequence ≡ t.last)

-- a new grant has the next number, and is given in the answer to a later request
pub record IsNew (s : Server) (t : Step) (c q n : ℕ) : Type 0 where
  pub number : n ≡ s.next_grant
  pub next : n < t.state.next_grant
  pub later : last_in s.slots c < q
  pub last : q ≡ last_in t.state.slots c
  pub low : q < 2 ^ 32

pub record StepGives (s : Server) (t : Step) : Type 0 where
  pub slots : AreSlots t.state.slots
  pub grants : s.next_grant ≤ t.state.next_grant
  pub lasts : (c : ℕ) → last_in s.slots c ≤ last_in t.state.slots c
  pub kept : (c q n : ℕ) → KeepsGrant t.state.slots c q n → KeepsGrant s.slots c q n ⊎ IsNew s t c q n
  pub sent : (c q n : ℕ) → SendsGrant t.sends c q n → KeepsGrant s.slots c q n ⊎ IsNew s t c q n

-- ---- slots

keep_read : (ss : List Slot) (t : Slot) (c : ℕ)
    → ((t.client ≡ c) × (slot_of (keep ss t) c ≡ Some t)) ⊎ ((t.client ≡ c
    → ⊥) × (slot_of (keep ss t) c ≡ slot_of ss c))
unfolding keep
keep_read [] t c = elim (cases_eq t.client c) [
  | inl same ↦ inl (same, rw (eq-eqb t.client c same) refl)
  | inr other ↦ inr (other, rw (ne_eqb t.client c other) refl)
]
keep_read (x ∷ ss) t c = elim (cases_eq x.client t.client) [
  | inl here ↦ elim (cases_eq t.client c) [
    | inl same ↦ inl (same, rw (eq-eqb x.client t.client here, eq-eqb t.client c same) refl)
    | inr other ↦ inr (
      other,
      rw (
        eq-eqb x.client t.client here,
        ne_eqb t.client c other,
        ne_eqb x.client c (λ e. other (sym here ∙ e)),
      ) refl,
    )
  ]
  | inr there ↦ elim (cases_eq x.client c) [
    | inl found ↦ inr ((λ e. there (found ∙ sym e)), rw (ne_eqb x.client t.client there, eq-eqb x.client c found) refl)
    | inr next ↦ elim (keep_read ss t c) [
      | inl (same, is) ↦ inl (same, rw (ne_eqb x.client t.client there, ne_eqb x.client c next) is)
      | inr (other, is) ↦ inr (other, rw (ne_eqb x.client t.client there, ne_eqb x.client c next) is)
    ]
  ]
]

-- ---- steps without answers

none_sent : (a : Answer) (os : List Outgoing) → AnswersOnly Never os → In (Answers a) os → ⊥
none_sent a [] k i = i
none_sent a (ToDrive d c ∷ os) k (inl e) = cc e
none_sent a (ToDrive d c ∷ os) k (inr i) = none_sent a os k i
none_sent a (Recalls r ∷ os) k (inl e) = cc e
none_sent a (Recalls r ∷ os) k (inr i) = none_sent a os k i
none_sent a (Answers b ∷ os) k i = k.0
none_sent a (AnswersOrder b ∷ os) k (inl e) = cc e
none_sent a (AnswersOrder b ∷ os) k (inr i) = none_sent a os k i

-- only the last of what is sent is an answer
last_sent : (a b : Answer) (os : List Outgoing) → AnswersOnly Never os → In (Answers a) (os ++ Answers b ∷ []) → a ≡ b
last_sent a b [] k (inl e) = cc e
last_sent a b [] k (inr i) = absurd i
last_sent a b (ToDrive d c ∷ os) k (inl e) = absurd (cc e)
last_sent a b (ToDrive d c ∷ os) k (inr i) = last_sent a b os k i
last_sent a b (Recalls r ∷ os) k (inl e) = absurd (cc e)
last_sent a b (Recalls r ∷ os) k (inr i) = last_sent a b os k i
last_sent a b (Answers x ∷ os) k i = absurd k.0
last_sent a b (AnswersOrder x ∷ os) k (inl e) = absurd (cc e)
last_sent a b (AnswersOrder x ∷ os) k (inr i) = last_sent a b os k i

quiet_gives : (s : Server) (t : Step) → AreSlots s.slots → IsQuiet s t → StepGives s t
quiet_gives s t k q = record {
  slots = subst AreSlots (sym q.slots) k;
  grants = omega (arith, q.grants);
  lasts = λ c. let same : last_in t.state.slots c ≡ last_in s.slots c = ap (λ (ss : List Slot). last_in ss c) q.slots in
      omega (arith, same);
  kept = λ c i n x. inl (subst (λ (ss : List Slot). KeepsGrant ss c i n) q.slots x);
  sent = λ c i n x. absurd (none_sent x.answer t.sends q.sends x.sent);
}

-- ---- a request

module _ (s : Server) (k : AreSlots s.slots) (low : s.next_grant < 2 ^ 32) (q : ClientRequest) where
  -- an answer that isn't kept gives nothing, or is one that was kept
  only_gives : (a : Answer) → ((c i n : ℕ) → a.client ≡ c → a.sequence ≡ i → named a.results ≡ Some n
      → KeepsGrant s.slots c i n) → StepGives s (record { state = s; sends = Answers a ∷ []; notes = []; mended = [] })
  only_gives a was = record {
    slots = k;
    grants = omega arith;
    lasts = λ c. omega arith;
    kept = λ c i n x. inl x;
    sent =
        λ c i n x. let same : x.answer ≡ a = last_sent x.answer a [] tt x.sent in
        inl (was c i n (ap (λ (y : Answer). y.client) (sym same) ∙ x.client)
        (ap (λ (y : Answer). y.sequence) (sym same) ∙ x.sequence)
        (ap (λ (y : Answer). named y.results) (sym same) ∙ x.gives));
  }

  -- one that is kept gives nothing, or the next grant
  keeps_gives : (t : Step) (front : List Outgoing) (a : Answer)
      → (last_in s.slots q.client < q.sequence) × (q.sequence < 2 ^ 32) → a.client ≡ q.client
      → a.sequence ≡ q.sequence → s.next_grant ≤ t.state.next_grant
      → t.state.slots ≡ keep s.slots (record { client = a.client; last = a.sequence; kept = a })
      → t.sends ≡ front ++ Answers a ∷ [] → AnswersOnly Never front
      → ((n : ℕ) → named a.results ≡ Some n → (n ≡ s.next_grant) × (n < t.state.next_grant)) → StepGives s t
  keeps_gives t front a admitted client sequence grants slots sends none gives =
      let later : last_in s.slots q.client < q.sequence = admitted.0 in
      let below : q.sequence < 2 ^ 32 = admitted.1 in
      let slot : Slot = record { client = a.client; last = a.sequence; kept = a } in
      let read : (c : ℕ) → ((a.client ≡ c) × (slot_of t.state.slots c ≡ Some slot))
      ⊎ ((a.client ≡ c → ⊥) × (slot_of t.state.slots c ≡ slot_of s.slots c)) =
      λ c. elim (keep_read s.slots slot c) [
        | inl (same, is) ↦ inl (same, ap (λ (ss : List Slot). slot_of ss c) slots ∙ is)
        | inr (other, is) ↦ inr (other, ap (λ (ss : List Slot). slot_of ss c) slots ∙ is)
      ] in
      let new : (c i n : ℕ) → a.client ≡ c → a.sequence ≡ i → named a.results ≡ Some n → IsNew s t c i n =
      λ c i n of at named_.
      let given = gives n named_ in
      let last : last_in t.state.slots c ≡ a.sequence = elim (read c) [
        | inl (same, is) ↦ ap last_of is
        | inr (other, is) ↦ absurd (other of)
      ] in
      let before : last_in s.slots c ≡ last_in s.slots q.client = ap (last_in s.slots) (sym of ∙ client) in
      record {
        number = given.0;
        next = given.1;
        later = omega (arith, before, later, sequence, at);
        last = sym (last ∙ at);
        low = omega (arith, below, sequence, at);
      } in
      record {
        slots =
            λ c t0 found. elim (read c) [
              | inl (same, is) ↦ let it : slot ≡ t0 = cc (sym is ∙ found) in (
                ap (λ (y : Slot). y.kept.client) (sym it) ∙ same,
                ap (λ (y : Slot). y.kept.sequence) (sym it) ∙ ap (λ (y : Slot). y.last) it,
              )
              | inr (other, is) ↦ k c t0 (sym is ∙ found)
            ];
        grants = grants;
        lasts =
            λ c. elim (read c) [
              | inl (same, is) ↦
                  let before : last_in s.slots c ≡ last_in s.slots q.client = ap (last_in s.slots)
                  (sym same ∙ client) in
                  let last : last_in t.state.slots c ≡ a.sequence = ap last_of is in
                  omega (arith, before, last, later, sequence)
              | inr (other, is) ↦
                  let last : last_in t.state.slots c ≡ last_in s.slots c = ap last_of is in omega (arith, last)
            ];
        kept =
            λ c i n x. elim (read c) [
              | inl (same, is) ↦
                  let it : slot ≡ x.slot = cc (sym is ∙ x.found) in
                  inr (new c i n same (ap (λ (y : Slot). y.last) it ∙ sym x.last)
                  (ap (λ (y : Slot). named y.kept.results) it ∙ x.gives))
              | inr (other, is) ↦
                  inl (record { slot = x.slot; found = sym is ∙ x.found; last = x.last; gives = x.gives })
            ];
        sent =
            λ c i n x.
            let it : x.answer ≡ a =
            last_sent x.answer a front none (subst (λ (os : List Outgoing). In (Answers x.answer) os) sends x.sent) in
            inr (new c i n (ap (λ (y : Answer). y.client) (sym it) ∙ x.client)
            (ap (λ (y : Answer). y.sequence) (sym it) ∙ x.sequence)
            (ap (λ (y : Answer). named y.results) (sym it) ∙ x.gives));
      }

  request_gives : (now : ℕ) (chosen : List ℕ) → StepGives s (on_request s now chosen q)
  request_gives now chosen =
      let slot : Option Slot = slot_of s.slots q.client in
      each_request s now chosen q (StepGives s) (record {
        again = λ kept is.
            let x : IsAdmitted slot q.sequence (Again kept) =
            subst (IsAdmitted slot q.sequence) is (is_admitted slot q.sequence) in
            let own = k q.client x.0 x.1 in
            only_gives kept (λ c i n client sequence e.
            let of : c ≡ q.client = sym client ∙ ap (λ (y : Answer). y.client) x.2 ∙ own.0 in
            record {
              slot = x.0;
              found = ap (slot_of s.slots) of ∙ x.1;
              last = sym sequence ∙ ap (λ (y : Answer). y.sequence) x.2 ∙ own.1;
              gives = ap (λ (y : Answer). named y.results) (sym x.2) ∙ e;
            });
        misordered = λ expected is.
            only_gives (plain_answer q (tells NFS4ERR_SEQ_MISORDERED expected) (size_in (file_at s.files q.file)))
            (λ c i n client sequence e. absurd (cc (sym (refused_names q.args NFS4ERR_SEQ_MISORDERED) ∙ e)));
        without = λ new none.
            keeps_gives (carries_out s now chosen q None) [] (answer_without q)
            (subst (IsAdmitted slot q.sequence) new (is_admitted slot q.sequence)) refl refl (omega arith) refl refl tt
            (λ n e. absurd (cc (sym (refused_names q.args (no_file q.args)) ∙ e)));
        served = λ new f found.
            let v : Served = serves (at_file s chosen f) s.next_grant s.format now q.client q.args in
            let front : List Outgoing = to_drives s.drives v.going.effects.sent ++ recalls_from s.next_recall v.recalled in
            keeps_gives (carries_out s now chosen q (Some f)) front (answer_with s q v)
            (subst (IsAdmitted slot q.sequence) new (is_admitted slot q.sequence)) refl refl (omega arith) refl
            (sym (append_assoc (to_drives s.drives v.going.effects.sent) (recalls_from s.next_recall v.recalled) _))
            (more_only Never (to_drives s.drives v.going.effects.sent) _ (drives_only Never s.drives v.going.effects.sent)
            (recalls_only Never s.next_recall v.recalled))
            (λ n e. let it = answer_names s.next_grant s.drives v.going.file.kept v q.args v.told.grant n low refl
            (served_next (at_file s chosen f) s.next_grant s.format now q.client q.args low) e in
            (it.0, omega (arith, it.0, it.1)));
      })

-- ---- any step

module _ (s : Server) (k : AreSlots s.slots) (low : s.next_grant < 2 ^ 32) (chosen : List ℕ) (i : Input) where
  by_did : (t : Step) → ServerDid s chosen i t → StepGives s t
  by_did t (Quiet q) = quiet_gives s t k q
  by_did t (Asked now q is done) = subst (StepGives s) (sym done) (request_gives s k low q now chosen)

  pub step_gives : StepGives s (step s chosen i)
  step_gives = by_did (step s chosen i) (step_did s chosen i)
