-- The server keeps for a client an answer that tells the size of its file, as long as the client has a grant on it.
use Rattle.std.proofs.Common.{◌≡◌, ◌⊎◌, ◌==◌, ◌+◌, ◌&&◌, ◌||◌, ℕ, Bool, true, false, List, [], ◌∷◌, Option, Some, None, max, inl, inr, refl, sym, ap, subst, ◌∙◌, if◌then◌else◌}
use Rattle.std.proofs.lemmas.Bool.{cases_eq, eq-eqb, ne_eqb}
use Rattle.data_map.specs.Striping.{stripe_length}
use Rattle.layout_ops.specs.declared.statuses.TheConstants.{NFS4_OK}
use Rattle.layout_ops.specs.declared.messages.Answer.{Answer}
use Rattle.world_history.specs.ServerNames.{Server, File, Kept, Grant, Slot, ClientRequest, RequestArgs, Get, Commit, Return}
use Rattle.server_rules.specs.Commit.{Wrong, Sizes, may_commit, commit_under, by_commit, commits}
use Rattle.server_rules.specs.Files.{file_at, at_file}
use Rattle.server_rules.specs.Going.{Going}
use Rattle.server_rules.specs.Grants.{grant_of, conflicts}
use Rattle.server_rules.specs.History.{Input, step}
use Rattle.server_rules.specs.Laws.{In, Apart, AreSafe}
use Rattle.server_rules.specs.Requests.{serves, keeps, answer_without, answer_with, carried_out, carries_out, by_admit, on_request}
use Rattle.server_rules.specs.Served.{Served}
use Rattle.server_rules.specs.Slots.{Admit, New, Again, Misordered, slot_of, admit, keep}
use Rattle.server_rules.proofs.FileLaws.{number_at, safe_at, put_other, keep_same, keep_other}
use Rattle.osd_lists.proofs.Options.{same_some}
use Rattle.history_law.specs.Files.{FilesGo, Quiet, Asked}
use Rattle.history_law.proofs.Files.{put_gives}
use Rattle.exchange_law.proofs.HeldServing.{NoCommit, MayGive, serves_may}
use Rattle.exchange_law.proofs.HeldSteps.{IsFewer, HasNone, FewerAt, AllFewer, step_did}

-- ---- grants

-- a client's one grant is the one that is found
pub found_own : (gs : List Grant) (g : Grant) → Apart gs → In g gs → grant_of gs g.client ≡ Some g
found_own [] g apart i = absurd i
found_own (x ∷ gs) g apart i = elim (cases_eq x.client g.client) [
  | inl same ↦
      rw (eq-eqb x.client g.client same) (ap (λ (y : Grant). Some y) ((apart x g (inl refl) i).1 same))
  | inr other ↦
      rw (ne_eqb x.client g.client other)
      (found_own gs g (λ y z j l. apart y z (inr j) (inr l)) (behind i other))
]
  where
    behind : In g (x ∷ gs) → (x.client ≡ g.client → ⊥) → In g gs
    behind (inl e) other = absurd (other (ap (λ (y : Grant). y.client) (sym e)))
    behind (inr j) other = j

pub grant_in : (gs : List Grant) (c : ℕ) (g : Grant) → grant_of gs c ≡ Some g → In g gs × (g.client ≡ c)
grant_in [] c g e = absurd (cc e)
grant_in (x ∷ xs) c g e = elim (cases_eq x.client c) [
  | inl is ↦
      let same : x ≡ g = cc (rw (eq-eqb x.client c is) at e) in
      (inl (sym same), ap (λ (y : Grant). y.client) (sym same) ∙ is)
  | inr other ↦
      let later = grant_in xs c g (rw (ne_eqb x.client c other) at e) in
      (inr later.0, later.1)
]

-- an extending grant is alone
extending_conflicts : (a b : Grant) → (a.client == b.client) ≡ false → a.extending ≡ true → conflicts a b ≡ false → ⊥
unfolding conflicts
extending_conflicts a b other extending none =
    by ((a.rw || b.rw) && _) b.extending (rw (other, extending) at none)
  where
    by : (x y : Bool) → (true && (x || (true || y))) ≡ false → ⊥
    by true y e = cc e
    by false y e = cc e

pub alone : (gs : List Grant) (c d : ℕ) (g k : Grant) → Apart gs → grant_of gs c ≡ Some g → grant_of gs d ≡ Some k
    → k.extending ≡ true → (d ≡ c → ⊥) → ⊥
alone gs c d g k apart has it extending other =
    let a = grant_in gs c g has in
    let b = grant_in gs d k it in
    extending_conflicts k g (ne_eqb k.client g.client (λ (e : k.client ≡ g.client). other (sym b.1 ∙ e ∙ a.1)))
    extending (apart k g b.0 a.0).0

-- ---- a commit

-- the size stays, or the client has an extending grant, and is told that all is well
pub data Commits (f : Kept) (client : ℕ) (v : Served) : Type 0 where
  Stays : v.going.file.kept.size ≡ f.size → Commits f client v
  Grows : (k : Grant) → grant_of f.grants client ≡ Some k → k.extending ≡ true → v.told.status ≡ NFS4_OK
      → Commits f client v

pub record IsCommitOf (f : Kept) (client : ℕ) (v : Served) : Type 0 where
  pub number : v.going.file.kept.number ≡ f.number
  pub grants : v.going.file.kept.grants ≡ f.grants
  pub none : v.told.grant ≡ None
  pub comes : Commits f client v

under : (go : Going) (client : ℕ) (last : Option ℕ) (o : Option Grant) → grant_of go.file.kept.grants client ≡ o
    → IsCommitOf go.file.kept client
    (by_commit go (commit_under (stripe_length go.file.kept.map) go.file.kept.size last o))
unfolding commit_under may_commit
under go client last None e = record { number = refl; grants = refl; none = refl; comes = Stays refl }
under go client None (Some g) e = record { number = refl; grants = refl; none = refl; comes = Stays refl }
under go client (Some n) (Some g) e = either g.extending refl _
  where
    either : (x : Bool) → g.extending ≡ x → (y : Bool)
        → IsCommitOf go.file.kept client
        (by_commit go (if x && y then Sizes (max go.file.kept.size (n + 1)) else Wrong))
    either true is true = record { number = refl; grants = refl; none = refl; comes = Grows g e is refl }
    either true is false = record { number = refl; grants = refl; none = refl; comes = Stays refl }
    either false is y = record { number = refl; grants = refl; none = refl; comes = Stays refl }

pub commits_as : (go : Going) (next format now client : ℕ) (last : Option ℕ)
    → IsCommitOf go.file.kept client (serves go next format now client (Commit last))
unfolding commits
commits_as go next format now client last = under go client last (grant_of go.file.kept.grants client) refl

-- ---- any request, at the file

-- a grant of another client, under which the size stays
abbrev StaysFor : Kept → (client c : ℕ) → Served → Type 0
StaysFor f client c v =
    (g : Grant) → grant_of v.going.file.kept.grants c ≡ Some g
    → (grant_of f.grants c ≡ Some g) × (v.going.file.kept.size ≡ f.size)

may_stay : (f : Kept) (client c : ℕ) (a : RequestArgs) (v : Served) → (c ≡ client → ⊥) → NoCommit a
    → MayGive f client a v → StaysFor f client c v
may_stay f client c a v other none may g has = (old (may.grants c g has), may.size none)
  where
    old : (grant_of f.grants c ≡ Some g) ⊎ ((c ≡ client) × (v.told.grant ≡ Some g)) → grant_of f.grants c ≡ Some g
    old (inl e) = e
    old (inr new) = absurd (other new.0)

commit_stays : (f : Kept) (client c : ℕ) (v : Served) → Apart f.grants → (c ≡ client → ⊥) → IsCommitOf f client v
    → StaysFor f client c v
commit_stays f client c v apart other x g has =
    let old : grant_of f.grants c ≡ Some g = ap (λ (gs : List Grant). grant_of gs c) (sym x.grants) ∙ has in
    (old, by old x.comes)
  where
    by : grant_of f.grants c ≡ Some g → Commits f client v → v.going.file.kept.size ≡ f.size
    by old (Stays same) = same
    by old (Grows k its extending ok) =
        absurd (alone f.grants c client g k apart old its extending (λ (e : client ≡ c). other (sym e)))

pub serves_stay : (go : Going) (next format now client : ℕ) (a : RequestArgs) (c : ℕ) → Apart go.file.kept.grants
    → (c ≡ client → ⊥) → StaysFor go.file.kept client c (serves go next format now client a)
serves_stay go next format now client (Get iomode offset count) c apart other =
    may_stay go.file.kept client c (Get iomode offset count) _ other tt
    (serves_may go next format now client (Get iomode offset count))
serves_stay go next format now client (Commit last) c apart other =
    commit_stays go.file.kept client c _ apart other (commits_as go next format now client last)
serves_stay go next format now client (Return report) c apart other =
    may_stay go.file.kept client c (Return report) _ other tt (serves_may go next format now client (Return report))

-- ---- the answers that are kept

-- this is the size of file n, where client c has a grant on it
abbrev pub IsSize : Server → (c n size : ℕ) → Type 0
IsSize s c n size =
    (f : File) (g : Grant) → file_at s.files n ≡ Some f → grant_of f.kept.grants c ≡ Some g → size ≡ f.kept.size

abbrev pub AnswersSized : Server → Type 0
AnswersSized s = (c : ℕ) (t : Slot) → slot_of s.slots c ≡ Some t → IsSize s c t.kept.file t.kept.size

-- a quiet step
pub size_over : (s t : Server) (c n size : ℕ) → AllFewer t.drives s.files t.files → IsSize s c n size → IsSize t c n size
size_over s t c n size all is f g at has = by (all n f at)
  where
    by : FewerAt t.drives s.files n f → size ≡ f.kept.size
    by (inl (e, there, fewer)) = is e g there (fewer.grants c g has) ∙ sym fewer.size
    by (inr none) = absurd (cc (ap (λ (gs : List Grant). grant_of gs c) (sym none) ∙ has))

quiet_sized : (s t : Server) → AllFewer t.drives s.files t.files → t.slots ≡ s.slots → AnswersSized s → AnswersSized t
quiet_sized s t all same k c slot has =
    size_over s t c slot.kept.file slot.kept.size all
    (k c slot (ap (λ (ss : List Slot). slot_of ss c) (sym same) ∙ has))

-- ---- a new request

module _ (s : Server) (now : ℕ) (chosen : List ℕ) (q : ClientRequest) where
  module _ (f : File) (at : file_at s.files q.file ≡ Some f) where
    abbrev pub v : Served
    v = serves (at_file s chosen f) s.next_grant s.format now q.client q.args

    abbrev pub t : Server
    t = (carried_out s q v).state

    pub number : v.going.file.kept.number ≡ q.file
    number =
        (serves_may (at_file s chosen f) s.next_grant s.format now q.client q.args).number
        ∙ number_at s.files q.file f at

    pub its_file : (e : File) → file_at t.files q.file ≡ Some e → e ≡ v.going.file
    its_file e there = put_gives s.files q.file v.going.file e number there

    -- another client's size stays
    pub other_size : AreSafe s.files → (c n size : ℕ) → (c ≡ q.client → ⊥) → IsSize s c n size → IsSize t c n size
    other_size safe c n size other is e g there has = elim (cases_eq q.file n) [
      | inl same ↦
          let it : e ≡ v.going.file =
          its_file e (subst (λ (k : ℕ). file_at t.files k ≡ Some e) (sym same) there) in
          let stays =
          serves_stay (at_file s chosen f) s.next_grant s.format now q.client q.args c
          (safe_at s.files q.file f safe at).apart other g
          (ap (λ (y : File). grant_of y.kept.grants c) (sym it) ∙ has) in
          is f g (subst (λ (k : ℕ). file_at s.files k ≡ Some f) same at) stays.0 ∙ sym stays.1
          ∙ ap (λ (y : File). y.kept.size) (sym it)
      | inr not_it ↦
          is e g (sym (put_other s.files q.file v.going.file number n (ne_eqb q.file n not_it)) ∙ there) has
    ]

  pub kept_is : (u : Server) (a : Answer)
      → u.slots ≡ keep s.slots (record { client = q.client; last = q.sequence; kept = a })
      → (slot : Slot) → slot_of u.slots q.client ≡ Some slot
      → slot ≡ record { client = q.client; last = q.sequence; kept = a }
  kept_is u a same slot has =
      let mine : Slot = record { client = q.client; last = q.sequence; kept = a } in
      let there : slot_of u.slots q.client ≡ Some mine =
      ap (λ (ss : List Slot). slot_of ss q.client) same ∙ keep_same s.slots mine in
      same_some slot mine (slot_of u.slots q.client) has there

  pub slot_stays : (c : ℕ) (a : Answer) → (c ≡ q.client → ⊥)
      → slot_of (keep s.slots (record { client = q.client; last = q.sequence; kept = a })) c ≡ slot_of s.slots c
  slot_stays c a other =
      keep_other s.slots (record { client = q.client; last = q.sequence; kept = a }) c
      (ne_eqb q.client c (λ (e : q.client ≡ c). other (sym e)))

  carried_sized : (o : Option File) → file_at s.files q.file ≡ o → AreSafe s.files → AnswersSized s
      → AnswersSized (carries_out s now chosen q o).state
  carried_sized None e safe k c slot has = elim (cases_eq c q.client) [
    | inl same ↦
        let it = kept_is (keeps s (answer_without q)) (answer_without q) refl slot
        (subst (λ (n : ℕ). slot_of (keeps s (answer_without q)).slots n ≡ Some slot) same has) in
        λ f g at grant.
        absurd (cc (sym e ∙ ap (λ (x : Slot). file_at s.files x.kept.file) (sym it) ∙ at))
    | inr other ↦ k c slot (sym (slot_stays c (answer_without q) other) ∙ has)
  ]
  carried_sized (Some f) e safe k c slot has = elim (cases_eq c q.client) [
    | inl same ↦
        let it = kept_is (t f e) (answer_with s q (v f e)) refl slot
        (subst (λ (n : ℕ). slot_of (t f e).slots n ≡ Some slot) same has) in
        λ y g at grant.
        ap (λ (x : Slot). x.kept.size) it
        ∙ ap (λ (z : File). z.kept.size)
        (sym (its_file f e y (ap (λ (x : Slot). file_at (t f e).files x.kept.file) (sym it) ∙ at)))
    | inr other ↦
        other_size f e safe c slot.kept.file slot.kept.size other
        (k c slot (sym (slot_stays c (answer_with s q (v f e)) other) ∙ has))
  ]

  admitted_sized : (a : Admit) → AreSafe s.files → AnswersSized s → AnswersSized (by_admit s now chosen q a).state
  admitted_sized New safe k = carried_sized (file_at s.files q.file) refl safe k
  admitted_sized (Again kept) safe k = k
  admitted_sized (Misordered expected) safe k = k

did_sized : (s : Server) (chosen : List ℕ) (i : Input) → FilesGo IsFewer HasNone s chosen i (step s chosen i)
    → AreSafe s.files → AnswersSized s → AnswersSized (step s chosen i).state
unfolding on_request
did_sized s chosen i (Quiet all same) safe k = quiet_sized s (step s chosen i).state all same k
did_sized s chosen i (Asked now q is done) safe k =
    subst (λ (x : _). AnswersSized x.state) (sym done)
    (admitted_sized s now chosen q (admit (slot_of s.slots q.client) q.sequence) safe k)

pub step_sized : (s : Server) (chosen : List ℕ) (i : Input) → AreSafe s.files → AnswersSized s
    → AnswersSized (step s chosen i).state
step_sized s chosen i safe k = did_sized s chosen i (step_did s chosen i safe) safe k
