-- What the server answers in a step: what it kept, or what gives a grant that is live as the step leaves its files.
use Rattle.std.proofs.Common.{◌≡◌, ◌⊎◌, ◌==◌, ℕ, ◌∷◌, [], List, Bool, true, false, find, Option, Some, None, refl, sym, subst, ◌∙◌, inl, inr, if◌then◌else◌}
use Rattle.std.proofs.lemmas.Bool.{cases_Bool}
use Rattle.layout_ops.specs.declared.results.LayoutGetResult.TheVariants as get
use Rattle.layout_ops.specs.declared.results.Results.TheVariants as results
use Rattle.layout_ops.specs.declared.statuses.TheConstants.{NFS4ERR_LAYOUTTRYLATER}
use Rattle.server_rules.specs.Answers.{result_of, result_with, recalls_from}
use Rattle.server_rules.specs.Files.{Step, file_at, at_file, to_drives}
use Rattle.server_rules.specs.History.{Input, step}
use Rattle.server_rules.specs.Laws.{In, FilesArePut}
use Rattle.server_rules.specs.Requests.{serves, answer_with, answer_without, carried_out, on_request}
use Rattle.server_rules.specs.Served.{Served}
use Rattle.server_rules.specs.Slots.{Again, slot_of, keep}
use Rattle.server_rules.proofs.Members.{in_behind}
use Rattle.world_history.specs.ServerNames.{Server, Slot, File, Grant, Answer, ClientRequest, RequestArgs, Get, Commit, Return, Outgoing, ToDrive, Recalls, Answers, AnswersOrder}
use Rattle.history_law.proofs.JobFiles.{found_file}
use Rattle.history_law.proofs.Asking.{handled_served}
use Rattle.history_law.specs.Answers.{AnswersOnly, ServerDid, Quiet, Asked}
use Rattle.history_law.proofs.Answers.{more_only, drives_only, recalls_only, none_only, IsAdmitted, is_admitted, step_did}
use Rattle.history_law.proofs.Steps.{each_request}
use Rattle.history_law.proofs.IssueTelling.{IsOwn, TellsOwn, served_own}
use Rattle.component_law.specs.Live.{GivesLive, AnswersLive}

-- ---- a step

-- an answer was kept, or gives a grant that is live then
abbrev pub Known : Server → Step → Answer → Type 0
Known s t a = ((x : Slot) × In x s.slots × (a ≡ x.kept)) ⊎ AnswersLive t.state a

pub record Says (s : Server) (t : Step) : Type 0 where
  -- what a slot keeps it kept before, or is sent
  pub slots : (x : Slot) → In x t.state.slots → In x s.slots ⊎ In (Answers x.kept) t.sends
  pub sends : AnswersOnly (Known s t) t.sends

-- an answer of those that are sent
pub only_in : (P : Answer → Type 0) (os : List Outgoing) (a : Answer) → AnswersOnly P os → In (Answers a) os → P a
only_in P [] a k i = absurd i
only_in P (Answers x ∷ os) a k (inl e) = subst P (same e) k.0
  where
    same : Answers a ≡ Answers x → x ≡ a
    same f = cc f
only_in P (ToDrive d c ∷ os) a k (inl e) = absurd (cc e)
only_in P (Recalls r ∷ os) a k (inl e) = absurd (cc e)
only_in P (AnswersOrder r ∷ os) a k (inl e) = absurd (cc e)
only_in P (Answers x ∷ os) a k (inr i) = only_in P os a k.1 i
only_in P (ToDrive d c ∷ os) a k (inr i) = only_in P os a k i
only_in P (Recalls r ∷ os) a k (inr i) = only_in P os a k i
only_in P (AnswersOrder r ∷ os) a k (inr i) = only_in P os a k i

-- ---- slots

in_kept : (ss : List Slot) (s x : Slot) → In x (keep ss s) → (x ≡ s) ⊎ In x ss
unfolding keep
in_kept [] s x (inl e) = inl e
in_kept [] s x (inr i) = absurd i
in_kept (t ∷ ts) s x i = either (t.client == s.client) i (in_kept ts s x)
  where
    either : (b : Bool) → In x (if b then s ∷ ts else t ∷ keep ts s) → (In x (keep ts s) → (x ≡ s) ⊎ In x ts)
        → (x ≡ s) ⊎ In x (t ∷ ts)
    either true (inl e) rest = inl e
    either true (inr j) rest = inr (inr j)
    either false (inl e) rest = inr (inl e)
    either false (inr j) rest = elim (rest j) [ inl e ↦ inl e | inr k ↦ inr (inr k) ]

pub found_slot : (p : Slot → Bool) (ss : List Slot) (s : Slot) → find p ss ≡ Some s → In s ss
found_slot p [] s e = absurd (cc e)
found_slot p (t ∷ ts) s e = elim (cases_Bool (p t)) [
  | inl y ↦ let same : t ≡ s = cc (rw y at e) in inl (sym same)
  | inr n ↦ inr (found_slot p ts s (rw n at e))
]

-- what is kept of the answer that is sent last
pub kept_sent : (ss : List Slot) (s x : Slot) (os : List Outgoing) → In (Answers s.kept) os → In x (keep ss s)
    → In x ss ⊎ In (Answers x.kept) os
kept_sent ss s x os there i = elim (in_kept ss s x i) [
  | inl e ↦ inr (subst (λ (y : Slot). In (Answers y.kept) os) (sym e) there)
  | inr j ↦ inl j
]

-- ---- a request

refused_live : (book : Server) (n c : ℕ) (a : RequestArgs) (status : ℕ) → GivesLive book n c (result_of a status)
refused_live book n c (Get iomode offset count) status = either (status == NFS4ERR_LAYOUTTRYLATER)
  where
    either : (b : Bool)
        → GivesLive book n c (results.LayoutGet (if b then get.TryLater false else get.Refused status))
    either true = tt
    either false = tt
refused_live book n c (Commit last) status = tt
refused_live book n c (Return report) status = tt

given_live : (book : Server) (n c : ℕ) (f : File) (args : RequestArgs) (status : ℕ) (o : Option Grant)
    → file_at book.files n ≡ Some f
    → ((g : Grant) → o ≡ Some g → (g.client ≡ c) × In g f.kept.grants)
    → GivesLive book n c (result_with book.drives f.kept args status o)
given_live book n c f args status None there own = refused_live book n c args status
given_live book n c f args status (Some g) there own =
    let it = own g refl in
    record { file = f; found = there; grant = g; live = it.1; client_is = it.0; is = refl }

among_live : (client : ℕ) (v : Served) → TellsOwn client v → (g : Grant) → v.told.grant ≡ Some g
    → (g.client ≡ client) × In g v.going.file.kept.grants
among_live client v own g e =
    let it : IsOwn client v g = own g e in
    (it.client_is, subst (In g) (sym it.latest) (in_behind g it.earlier (g ∷ []) (inl refl)))

module _ (put : FilesArePut) where
  says_out : (s : Server) (q : ClientRequest) (v : Served) (f : File) → file_at s.files q.file ≡ Some f
      → v.going.file.kept.number ≡ q.file → TellsOwn q.client v → Says s (carried_out s q v)
  says_out s q v f there number own =
      let t : Step = carried_out s q v in
      let a : Answer = answer_with s q v in
      let live : AnswersLive t.state a =
      given_live t.state q.file q.client v.going.file q.args v.told.status v.told.grant
      (put s.files q.file v.going.file f number there).0 (among_live q.client v own) in
      record {
        slots = λ x i.
            kept_sent s.slots (record { client = q.client; last = q.sequence; kept = a }) x t.sends
            (in_behind (Answers a) (to_drives s.drives v.going.effects.sent) _
            (in_behind (Answers a) (recalls_from s.next_recall v.recalled) (Answers a ∷ []) (inl refl))) i;
        sends =
            more_only (Known s t) (to_drives s.drives v.going.effects.sent) _
            (drives_only (Known s t) s.drives v.going.effects.sent)
            (more_only (Known s t) (recalls_from s.next_recall v.recalled) _
            (recalls_only (Known s t) s.next_recall v.recalled) (inr live, tt));
      }

  says_request : (s : Server) (now : ℕ) (chosen : List ℕ) (q : ClientRequest) → Says s (on_request s now chosen q)
  says_request s now chosen q = each_request s now chosen q (Says s) (record {
    again = λ kept is.
        let x : IsAdmitted (slot_of s.slots q.client) q.sequence (Again kept) =
        subst (IsAdmitted (slot_of s.slots q.client) q.sequence) is
        (is_admitted (slot_of s.slots q.client) q.sequence) in
        record { slots = λ y i. inl i; sends = (inl (x.0, found_slot _ s.slots x.0 x.1, x.2), tt) };
    misordered = λ expected is.
        record { slots = λ y i. inl i; sends = (inr (refused_live s q.file q.client q.args _), tt) };
    without = λ new none. record {
      slots = λ y i.
          kept_sent s.slots (record { client = q.client; last = q.sequence; kept = answer_without q }) y
          (Answers (answer_without q) ∷ []) (inl refl) i;
      sends = (inr (refused_live _ q.file q.client q.args _), tt);
    };
    served = λ new f found.
        says_out s q (serves (at_file s chosen f) s.next_grant s.format now q.client q.args) f found
        ((handled_served (λ d x tag. true) (at_file s chosen f) s.next_grant s.format now q.client q.args).goes.number_is
        ∙ (found_file s.files q.file f found).1)
        (served_own (at_file s chosen f) s.next_grant s.format now q.client q.args);
  })

  -- ---- any step

  says_did : (s : Server) (chosen : List ℕ) (i : Input) (t : Step) → ServerDid s chosen i t → Says s t
  says_did s chosen i t (Quiet q) = record {
    slots = λ x j. inl (subst (In x) q.slots j);
    sends = none_only (Known s t) t.sends q.sends;
  }
  says_did s chosen i t (Asked now q is done) = subst (Says s) (sym done) (says_request s now chosen q)

  pub says_step : (s : Server) (chosen : List ℕ) (i : Input) → Says s (step s chosen i)
  says_step s chosen i = says_did s chosen i (step s chosen i) (step_did s chosen i)
