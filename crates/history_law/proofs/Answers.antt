-- A step of the server answers a client's request, or leaves all slots and answers nobody. So what is so of each answer
-- that is kept, and of each to a request, is so of all answers that are kept behind a step, or sent in it.
use Rattle.std.proofs.Common.{◌≡◌, ◌<◌, ◌==◌, ◌&&◌, ◌^◌, ℕ, ◌+◌, ◌++◌, ◌∷◌, [], List, Bool, true, false, nat_lt, find, flat_map, Option, Some, None, refl, sym, subst, ◌∙◌, arith, if◌then◌else◌}
use Rattle.std.specs.Prelude.{min}
use Rattle.std.proofs.lemmas.Bool.{eqb-true, and_parts}
use Rattle.std.proofs.lemmas.Bool.Decides.{nat_tests}
use Rattle.osd_lists.specs.declared.node.Node.TheVariants.{Server as FromServer}
use Rattle.server_rules.specs.declared.limits.TheConstants.{GREATEST_SEQUENCE}
use Rattle.server_rules.specs.Answers.{recalls_from}
use Rattle.server_rules.specs.Files.{Step, begins, at_file, to_drives}
use Rattle.server_rules.specs.Going.{noting}
use Rattle.server_rules.specs.History.{Input, Hears, step}
use Rattle.server_rules.specs.Jobs.{fence_begins, making}
use Rattle.server_rules.specs.Laws.{last_of}
use Rattle.server_rules.specs.Making.{with_file}
use Rattle.server_rules.specs.Messages.{Orders, awaited_by}
use Rattle.server_rules.specs.Openings.{opens_each}
use Rattle.server_rules.specs.Orders.{offline, declares_each, declare}
use Rattle.server_rules.specs.Requests.{serves, on_request}
use Rattle.server_rules.specs.Served.{Served}
use Rattle.server_rules.specs.Slots.{Admit, New, Again, Misordered, slot_of, admit, admit_after, keep}
use Rattle.world_history.specs.ServerNames.{Server, Slot, File, Drive, Grant, Awaited, Answer, ClientRequest, Outgoing, ToDrive, Recalls, Answers, AnswersOrder, Order, OrderResult}
use Rattle.history_law.specs.Steps.{IsAsked, answered_file, new_file, with_answer}
use Rattle.history_law.specs.Answers.{AnswersOnly, SlotsKeep, StepAnswers, RequestAnswers, Never, ServerDid, Quiet, Asked}
use Rattle.history_law.proofs.Steps.{each_request, each_step}

-- ---- what is sent

module _ (P : Answer → Type 0) where
  pub more_only : (xs ys : List Outgoing) → AnswersOnly P xs → AnswersOnly P ys → AnswersOnly P (xs ++ ys)
  more_only [] ys k l = l
  more_only (ToDrive d c ∷ xs) ys k l = more_only xs ys k l
  more_only (Recalls r ∷ xs) ys k l = more_only xs ys k l
  more_only (Answers a ∷ xs) ys k l = (k.0, more_only xs ys k.1 l)
  more_only (AnswersOrder a ∷ xs) ys k l = more_only xs ys k l

  pub drives_only : (ds : List Drive) (cs : List Awaited) → AnswersOnly P (to_drives ds cs)
  drives_only ds [] = tt
  drives_only ds (c ∷ cs) = drives_only ds cs

  pub recalls_only : (n : ℕ) (gs : List Grant) → AnswersOnly P (recalls_from n gs)
  unfolding recalls_from
  recalls_only n [] = tt
  recalls_only n (g ∷ gs) = recalls_only (n + 1) gs

  resend_only : (ds : List Drive) (fs : List File) → AnswersOnly P (flat_map (λ f. to_drives ds (awaited_by f.job)) fs)
  resend_only ds [] = tt
  resend_only ds (f ∷ fs) =
      more_only (to_drives ds (awaited_by f.job)) _ (drives_only ds (awaited_by f.job)) (resend_only ds fs)

  -- where nobody is answered
  pub none_only : (os : List Outgoing) → AnswersOnly Never os → AnswersOnly P os
  none_only [] k = tt
  none_only (ToDrive d c ∷ os) k = none_only os k
  none_only (Recalls r ∷ os) k = none_only os k
  none_only (Answers a ∷ os) k = absurd k.0
  none_only (AnswersOrder a ∷ os) k = none_only os k

-- ---- any step

module _ (s : Server) (chosen : List ℕ) (i : Input) where
  abbrev Did : Step → Type 0
  Did t = ServerDid s chosen i t

  declared_did : (d : ℕ) → Did (declare s chosen d)
  unfolding declare
  declared_did d = Quiet (record {
    slots = refl;
    grants = refl;
    sends = drives_only Never (offline s.drives d)
        (declares_each d (offline s.drives d) s.files (begins s) chosen).effects.sent;
  })

  told_did : (t : Step) (now : ℕ) (o : Order) → i ≡ Hears now FromServer (Orders o) → (result : OrderResult) → Did t
      → Did (with_answer t o.order result)
  told_did t now o is result (Quiet q) =
      Quiet (record { slots = q.slots; grants = q.grants; sends = more_only Never t.sends _ q.sends tt })
  told_did t now o is result (Asked later q asked done) = absurd (cc (sym is ∙ asked.is))

  pub step_did : Did (step s chosen i)
  step_did = each_step s chosen i Did (record {
    rests = Quiet (record { slots = refl; grants = refl; sends = tt });
    asked = λ now q is. Asked now q is refl;
    answered = λ x is.
        Quiet (record {
          slots = refl;
          grants = refl;
          sends = drives_only Never s.drives (answered_file s chosen x).effects.sent;
        });
    recalled = λ f is.
        Quiet (record { slots = refl; grants = refl; sends = recalls_only Never s.next_recall f.kept.grants });
    refused = λ f is n why.
        Quiet (record {
          slots = refl;
          grants = refl;
          sends = drives_only Never s.drives (noting (at_file s chosen f) n).effects.sent;
        });
    fenced = λ f is kind none low.
        Quiet (record {
          slots = refl;
          grants = refl;
          sends = drives_only Never s.drives (fence_begins kind s.format (at_file s chosen f)).effects.sent;
        });
    declared = λ d known. declared_did d;
    told = told_did;
    made = λ n m tag zoned is none.
        let f : File = new_file s chosen n m tag zoned in
        Quiet (record {
          slots = refl;
          grants = refl;
          sends = drives_only Never s.drives (making (at_file (with_file s f) [] f)).effects.sent;
        });
    added = λ d is. Quiet (record { slots = refl; grants = refl; sends = tt });
    zoned = λ d zone is. Quiet (record { slots = refl; grants = refl; sends = tt });
    formats = λ n is. Quiet (record { slots = refl; grants = refl; sends = tt });
    resends = λ is. Quiet (record { slots = refl; grants = refl; sends = resend_only Never s.drives s.files });
    crashes = λ is. Quiet (record { slots = refl; grants = refl; sends = tt });
    opened = λ is low.
        Quiet (record {
          slots = refl;
          grants = refl;
          sends = drives_only Never s.drives (opens_each s.format s.drives s.files (begins s)).effects.sent;
        });
  })

-- ---- what a request is to its client's slot

-- a later one, whose number isn't beyond the greatest, or the last one, whose answer is kept
abbrev pub IsAdmitted : Option Slot → (sequence : ℕ) → Admit → Type 0
IsAdmitted o q New = (last_of o < q) × (q < 2 ^ 32)
IsAdmitted o q (Again kept) = (t : Slot) × (o ≡ Some t) × (kept ≡ t.kept)
IsAdmitted o q (Misordered expected) = Unit {0}

nat_less : (a b : ℕ) → nat_lt a b ≡ true → a < b
nat_less a b e = grind (arith, e, nat_tests)

after_admitted : (o : Option Slot) (last q : ℕ) → last_of o ≡ last → IsAdmitted o q (admit_after last q)
unfolding admit_after
after_admitted o last q is = either ((q == last + 1) && nat_lt last GREATEST_SEQUENCE) refl
  where
    either : (b : Bool) → ((q == last + 1) && nat_lt last GREATEST_SEQUENCE) ≡ b
        → IsAdmitted o q (if b then New else Misordered (min (last + 1) GREATEST_SEQUENCE))
    either true e =
        let both = and_parts (q == last + 1) (nat_lt last GREATEST_SEQUENCE) e in
        let next : q ≡ last + 1 = eqb-true q (last + 1) both.0 in
        let less : last < GREATEST_SEQUENCE = nat_less last GREATEST_SEQUENCE both.1 in
        (omega (arith, is, next), omega (arith, next, less))
    either false e = tt

pub is_admitted : (o : Option Slot) (q : ℕ) → IsAdmitted o q (admit o q)
unfolding admit
is_admitted None q = after_admitted None 0 q refl
is_admitted (Some t) q = either (q == t.last)
  where
    either : (b : Bool) → IsAdmitted (Some t) q (if b then Again t.kept else admit_after t.last q)
    either true = (t, refl, refl)
    either false = after_admitted (Some t) t.last q refl

-- ---- answers that are kept

module _ (P : Answer → Type 0) where
  found_keeps : (p : Slot → Bool) (ss : List Slot) (t : Slot) → SlotsKeep P ss → find p ss ≡ Some t → P t.kept
  found_keeps p [] t k e = absurd (cc e)
  found_keeps p (s ∷ ss) t k e = either (p s) e (found_keeps p ss t k.1)
    where
      either : (b : Bool) → (if b then Some s else find p ss) ≡ Some t → (find p ss ≡ Some t → P t.kept) → P t.kept
      either true is rest = let same : s ≡ t = cc is in subst (λ (x : Slot). P x.kept) same k.0
      either false is rest = rest is

  keep_keeps : (ss : List Slot) (s : Slot) → SlotsKeep P ss → P s.kept → SlotsKeep P (keep ss s)
  unfolding keep
  keep_keeps [] s k a = (a, tt)
  keep_keeps (t ∷ ts) s k a = either (t.client == s.client) (keep_keeps ts s k.1 a)
    where
      either : (b : Bool) → SlotsKeep P (keep ts s) → SlotsKeep P (if b then s ∷ ts else t ∷ keep ts s)
      either true rest = (a, k.1)
      either false rest = (k.0, rest)

  pub request_answers : (s : Server) (now : ℕ) (chosen : List ℕ) (q : ClientRequest) → SlotsKeep P s.slots
      → RequestAnswers P s now chosen q → StepAnswers P (on_request s now chosen q)
  request_answers s now chosen q k so = each_request s now chosen q (StepAnswers P) (record {
    again = λ kept is.
        let x : IsAdmitted (slot_of s.slots q.client) q.sequence (Again kept) =
        subst (IsAdmitted (slot_of s.slots q.client) q.sequence) is
        (is_admitted (slot_of s.slots q.client) q.sequence) in
        record { slots = k; sends = (subst P (sym x.2) (found_keeps _ s.slots x.0 k x.1), tt) };
    misordered = λ expected is. record { slots = k; sends = (so.misordered expected, tt) };
    without = λ new none. record { slots = keep_keeps s.slots _ k so.without; sends = (so.without, tt) };
    served = λ new f found.
        let v : Served = serves (at_file s chosen f) s.next_grant s.format now q.client q.args in
        record {
          slots = keep_keeps s.slots _ k (so.served f found);
          sends =
              more_only P (to_drives s.drives v.going.effects.sent) _ (drives_only P s.drives v.going.effects.sent)
              (more_only P (recalls_from s.next_recall v.recalled) _ (recalls_only P s.next_recall v.recalled)
              (so.served f found, tt));
        };
  })

  pub step_answers : (s : Server) (chosen : List ℕ) (i : Input) → SlotsKeep P s.slots
      → ((now : ℕ) (q : ClientRequest) → IsAsked s i now q → RequestAnswers P s now chosen q)
      → StepAnswers P (step s chosen i)
  step_answers s chosen i k so = by_did (step_did s chosen i)
    where
      by_did : ServerDid s chosen i (step s chosen i) → StepAnswers P (step s chosen i)
      by_did (Quiet q) = record {
        slots = subst (SlotsKeep P) (sym q.slots) k;
        sends = none_only P (step s chosen i).sends q.sends;
      }
      by_did (Asked now q is done) =
          subst (StepAnswers P) (sym done) (request_answers s now chosen q k (so now q is))
