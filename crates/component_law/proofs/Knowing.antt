-- What a client knows of sizes beside the server's step.
use Rattle.std.proofs.Common.{◌≡◌, ◌⊎◌, ◌≤◌, ℕ, List, Option, Some, None, Result, Ok, Err, inl, inr, refl, sym, ap, subst, ◌∙◌, arith}
use Rattle.std.proofs.lemmas.Bool.{cases_eq, ne_eqb}
use Rattle.osd_lists.specs.declared.node.Node.TheVariants.{Client as FromClient}
use Rattle.layout_types.specs.declared.err.LayoutErr.{LayoutErr}
use Rattle.layout_types.specs.declared.ioerrs.IoErrs.{IoErrs}
use Rattle.layout_types.specs.Grammar.{whole}
use Rattle.layout_types.specs.Reading.{ioerrs_in}
use Rattle.layout_ops.specs.declared.args.Args.{Args}
use Rattle.layout_ops.specs.declared.args.Args.TheVariants as args
use Rattle.layout_ops.specs.declared.statuses.TheConstants.{NFS4_OK}
use Rattle.world_history.specs.ClientNames.{Client, Held, Request}
use Rattle.world_history.specs.ServerNames.{Server, File, Grant, Slot, ClientRequest, RequestArgs, Get, Commit, Return}
use Rattle.client_rules.specs.Grants.{held_of}
use Rattle.client_rules.specs.Results.{status_of}
use Rattle.server_rules.specs.Answers.{result_with}
use Rattle.server_rules.specs.Envelopes.{asked_in, return_in}
use Rattle.server_rules.specs.Files.{file_at, at_file}
use Rattle.server_rules.specs.Grants.{grant_of}
use Rattle.server_rules.specs.History.{Input, Hears, step}
use Rattle.server_rules.specs.Messages.{Asks}
use Rattle.server_rules.specs.declared.limits.TheConstants.{MAX_CLIENT}
use Rattle.server_rules.specs.Laws.{AreSafe, last_of}
use Rattle.server_rules.specs.Requests.{serves, keeps, answer_without, answer_with, carries_out, by_admit, on_request}
use Rattle.server_rules.specs.Served.{Served}
use Rattle.server_rules.specs.Slots.{Admit, New, Again, Misordered, slot_of, admit}
use Rattle.server_rules.proofs.FileLaws.{put_other, keep_same}
use Rattle.exchange_law.proofs.Admitting.{is_next}
use Rattle.exchange_law.specs.Calls.{CallFine, IsNoGet}
use Rattle.exchange_law.specs.Meeting.{KeptGood, IsMet, Reads}
use Rattle.exchange_law.proofs.HeldAsking.{IsItsGet, call_or_not, no_get_asked, none_told, IsOwn}
use Rattle.component_law.specs.Sizes.{IsCommit}
use Rattle.exchange_law.proofs.HeldServing.{NoCommit, serves_may}
use Rattle.exchange_law.proofs.HeldSteps.{IsFewer, HasNone, step_did}
use Rattle.component_law.proofs.Server.{IsSize, IsCommitOf, Commits, Stays, Grows, commits_as, size_over, v, t, number, its_file, other_size, slot_stays}
use Rattle.history_law.specs.Files.{FilesGo, Quiet, Asked}

-- its LAYOUTCOMMIT on the file is carried out
pub record IsLate (s : Server) (c : ℕ) (x : Client) (n : ℕ) : Type 0 where
  pub request : Request
  pub outstanding : x.outstanding ≡ Some request
  pub commits : IsCommit request.args
  pub file_is : request.file ≡ n
  pub slot : Slot
  pub kept : slot_of s.slots c ≡ Some slot
  pub last : slot.last ≡ request.sequence
  pub on : slot.kept.file ≡ n
  pub done : status_of slot.kept.results ≡ NFS4_OK

abbrev pub Known : Server → (c : ℕ) → Client → Type 0
Known s c x =
    (n : ℕ) (h : Held) → held_of x.held n ≡ Some h → IsSize s c n h.size ⊎ IsLate s c x n

late_over : (s t : Server) (c : ℕ) (x : Client) (n : ℕ) → slot_of t.slots c ≡ slot_of s.slots c → IsLate s c x n
    → IsLate t c x n
late_over s t c x n same l = record {
  request = l.request;
  outstanding = l.outstanding;
  commits = l.commits;
  file_is = l.file_is;
  slot = l.slot;
  kept = same ∙ l.kept;
  last = l.last;
  on = l.on;
  done = l.done;
}

known_over : (s t : Server) (c : ℕ) (x : Client) → slot_of t.slots c ≡ slot_of s.slots c
    → ((n size : ℕ) → IsSize s c n size → IsSize t c n size) → Known s c x → Known t c x
known_over s t c x same on k n h e = by (k n h e)
  where
    by : IsSize s c n h.size ⊎ IsLate s c x n → IsSize t c n h.size ⊎ IsLate t c x n
    by (inl is) = inl (on n h.size is)
    by (inr late) = inr (late_over s t c x n same late)

-- ---- what asks for a LAYOUTCOMMIT

by_errors : (u : Result IoErrs LayoutErr) (last : Option ℕ) → return_in u ≡ Some (Commit last) → ⊥
by_errors (Ok u) last e = cc e
by_errors (Err x) last e = cc e

commit_asked : (a : Args) (last : Option ℕ) → asked_in a ≡ Some (Commit last) → IsCommit a
commit_asked (args.LayoutGet g) last e = absurd (cc e)
commit_asked (args.LayoutCommit g) last e = tt
commit_asked (args.LayoutReturn g) last e = absurd (by_errors (whole ioerrs_in g.body) last e)

-- ---- the client's own request

module _ (s : Server) (now : ℕ) (chosen : List ℕ) (q : ClientRequest) (x : Client) (r : Request)
    (out : x.outstanding ≡ Some r) (reads : Reads q r) (met : IsMet s q.client x)
    (new : admit (slot_of s.slots q.client) q.sequence ≡ New) (k : Known s q.client x) where
  abbrev c : ℕ
  c = q.client

  -- it isn't answered yet
  none_late : (n : ℕ) → IsLate s c x n → ⊥
  none_late n l =
      let same : l.request ≡ r = cc (sym l.outstanding ∙ out) in
      let next = (is_next (slot_of s.slots c) q.sequence new).next in
      let last : last_of (slot_of s.slots c) ≡ l.slot.last = ap last_of l.kept in
      let sequence : l.request.sequence ≡ r.sequence = ap (λ (y : Request). y.sequence) same in
      absurd (omega (arith, next, last, sequence, l.last, reads.sequence))

  sized : (n : ℕ) (h : Held) → held_of x.held n ≡ Some h → IsSize s c n h.size
  sized n h e = by (k n h e)
    where
      by : IsSize s c n h.size ⊎ IsLate s c x n → IsSize s c n h.size
      by (inl is) = is
      by (inr late) = absurd (none_late n late)

  module _ (f : File) (at : file_at s.files q.file ≡ Some f) where
    abbrev w : Served
    w = v s now chosen q f at

    abbrev u : Server
    u = t s now chosen q f at

    -- a grant that is held isn't given
    not_given : (n : ℕ) (h : Held) (g : Grant) → q.file ≡ n → held_of x.held n ≡ Some h → w.told.grant ≡ Some g → ⊥
    not_given n h g same has told =
        by (call_or_not (KeptGood s c) x.held r x.call
        (subst (λ (o : Option Request). CallFine (KeptGood s c) x.held o x.call) out met.call))
      where
        by : IsNoGet r.args ⊎ IsItsGet x.held r → ⊥
        by (inl none) =
            none_told (at_file s chosen f) s.next_grant s.format now c q.args g
            (no_get_asked r.args q.args none reads.args) told
        by (inr it) =
            let here : held_of x.held n ≡ None = ap (held_of x.held) (sym same ∙ reads.file ∙ it.file) ∙ it.none in
            cc (sym has ∙ here)

    -- a file beside it
    beside : (n size : ℕ) → (q.file ≡ n → ⊥) → IsSize s c n size → IsSize u c n size
    beside n size other is e g there has =
        is e g
        (sym (put_other s.files q.file w.going.file (number s now chosen q f at) n (ne_eqb q.file n other)) ∙ there) has

    -- the file, where its size stays, and so does what is held
    here_stays : (n : ℕ) (h : Held) → q.file ≡ n → IsSize s c n h.size → w.going.file.kept.size ≡ f.kept.size
        → ((g : Grant) → grant_of w.going.file.kept.grants c ≡ Some g → grant_of f.kept.grants c ≡ Some g)
        → IsSize u c n h.size
    here_stays n h same is size old e g there has =
        let it : e ≡ w.going.file =
        its_file s now chosen q f at e (subst (λ (j : ℕ). file_at u.files j ≡ Some e) (sym same) there) in
        is f g (subst (λ (j : ℕ). file_at s.files j ≡ Some f) same at)
        (old g (ap (λ (y : File). grant_of y.kept.grants c) (sym it) ∙ has))
        ∙ sym size ∙ ap (λ (y : File). y.kept.size) (sym it)

    -- where it is no LAYOUTCOMMIT
    no_commit : (n : ℕ) (h : Held) → q.file ≡ n → held_of x.held n ≡ Some h → NoCommit q.args → IsSize u c n h.size
    no_commit n h same has none =
        let may = serves_may (at_file s chosen f) s.next_grant s.format now c q.args in
        here_stays n h same (sized n h has) (may.size none) (λ g e. old g (may.grants c g e))
      where
        old : (g : Grant) → (grant_of f.kept.grants c ≡ Some g) ⊎ ((c ≡ c) × (w.told.grant ≡ Some g))
            → grant_of f.kept.grants c ≡ Some g
        old g (inl e) = e
        old g (inr given) = absurd (not_given n h g same has given.1)

    -- a LAYOUTCOMMIT that is carried out
    late : (n : ℕ) (last : Option ℕ) → q.file ≡ n → q.args ≡ Commit last → w.told.grant ≡ None
        → w.told.status ≡ NFS4_OK → IsLate u c x n
    late n last same is none ok = record {
      request = r;
      outstanding = out;
      commits = commit_asked r.args last (reads.args ∙ ap (λ (a : RequestArgs). Some a) is);
      file_is = sym reads.file ∙ same;
      slot = record { client = c; last = q.sequence; kept = answer_with s q w };
      kept = keep_same s.slots (record { client = c; last = q.sequence; kept = answer_with s q w });
      last = reads.sequence;
      on = same;
      done =
          ap (λ (o : Option Grant). status_of (result_with s.drives w.going.file.kept q.args w.told.status o)) none
          ∙ ap (λ (a : RequestArgs). status_of (result_with s.drives w.going.file.kept a w.told.status None)) is
          ∙ ap (λ (n : ℕ). status_of (result_with s.drives w.going.file.kept (Commit last) n None)) ok;
    }

    by_commit : (n : ℕ) (h : Held) (last : Option ℕ) → q.file ≡ n → held_of x.held n ≡ Some h → q.args ≡ Commit last
        → IsCommitOf f.kept c w → IsSize u c n h.size ⊎ IsLate u c x n
    by_commit n h last same has is y = by y.comes
      where
        by : Commits f.kept c w → IsSize u c n h.size ⊎ IsLate u c x n
        by (Stays size) =
            inl (here_stays n h same (sized n h has) size
            (λ g e. ap (λ (gs : List Grant). grant_of gs c) (sym y.grants) ∙ e))
        by (Grows g its extending ok) = inr (late n last same is y.none ok)

    at_it : (n : ℕ) (h : Held) (a : RequestArgs) → q.file ≡ n → held_of x.held n ≡ Some h → q.args ≡ a
        → IsSize u c n h.size ⊎ IsLate u c x n
    at_it n h (Get iomode offset count) same has is =
        inl (no_commit n h same has (subst NoCommit (sym is) tt))
    at_it n h (Return report) same has is =
        inl (no_commit n h same has (subst NoCommit (sym is) tt))
    at_it n h (Commit last) same has is =
        by_commit n h last same has is
        (subst (λ (a : RequestArgs). IsCommitOf f.kept c (serves (at_file s chosen f) s.next_grant s.format now c a))
        (sym is) (commits_as (at_file s chosen f) s.next_grant s.format now c last))

    own_known : Known u c x
    own_known n h has = elim (cases_eq q.file n) [
      | inl same ↦ at_it n h q.args same has refl
      | inr other ↦ inl (beside n h.size other (sized n h has))
    ]

  own_carried : (o : Option File) → file_at s.files q.file ≡ o → Known (carries_out s now chosen q o).state c x
  own_carried None e n h has = inl (sized n h has)
  own_carried (Some f) e n h has = own_known f e n h has

-- ---- another client's request

others_carried : (s : Server) (now : ℕ) (chosen : List ℕ) (q : ClientRequest) (c : ℕ) (x : Client) → AreSafe s.files
    → (c ≡ q.client → ⊥) → (o : Option File) → file_at s.files q.file ≡ o → Known s c x
    → Known (carries_out s now chosen q o).state c x
others_carried s now chosen q c x safe other None e k =
    known_over s (keeps s (answer_without q)) c x (slot_stays s now chosen q c (answer_without q) other)
    (λ n size is. is) k
others_carried s now chosen q c x safe other (Some f) at k =
    known_over s (t s now chosen q f at) c x
    (slot_stays s now chosen q c (answer_with s q (v s now chosen q f at)) other)
    (λ n size is. other_size s now chosen q f at safe c n size other is) k

-- ---- any step

admitted : (s : Server) (now : ℕ) (chosen : List ℕ) (q : ClientRequest) (a : Admit) (c : ℕ) (x : Client)
    → AreSafe s.files → IsMet s c x → admit (slot_of s.slots q.client) q.sequence ≡ a
    → (q.client ≡ c → admit (slot_of s.slots c) q.sequence ≡ New → (r : Request) × (x.outstanding ≡ Some r) × Reads q r)
    → Known s c x → Known (by_admit s now chosen q a).state c x
admitted s now chosen q (Again kept) c x safe met e own k = k
admitted s now chosen q (Misordered expected) c x safe met e own k = k
admitted s now chosen q New c x safe met e own k = elim (cases_eq q.client c) [
  | inl same ↦
      let mine = own same (subst (λ (n : ℕ). admit (slot_of s.slots n) q.sequence ≡ New) same e) in
      subst (λ (n : ℕ). Known (carries_out s now chosen q (file_at s.files q.file)).state n x) same
      (own_carried s now chosen q x mine.0 mine.1 mine.2 (subst (λ (n : ℕ). IsMet s n x) (sym same) met) e
      (subst (λ (n : ℕ). Known s n x) (sym same) k) (file_at s.files q.file) refl)
  | inr other ↦
      others_carried s now chosen q c x safe (λ (i : c ≡ q.client). other (sym i)) (file_at s.files q.file) refl k
]

did_known : (s : Server) (chosen : List ℕ) (i : Input) (c : ℕ) (x : Client)
    → FilesGo IsFewer HasNone s chosen i (step s chosen i)
    → AreSafe s.files → IsMet s c x → IsOwn s c x i → Known s c x → Known (step s chosen i).state c x
unfolding on_request
did_known s chosen i c x (Quiet all same) safe met own k =
    known_over s (step s chosen i).state c x (ap (λ (ss : List Slot). slot_of ss c) same)
    (λ n size is. size_over s (step s chosen i).state c n size all is) k
did_known s chosen i c x (Asked now q is done) safe met own k =
    subst (λ (y : _). Known y.state c x) (sym done)
    (admitted s now chosen q (admit (slot_of s.slots q.client) q.sequence) c x safe met refl
    (λ same new. own now q (is.is ∙ ap (λ (n : ℕ). Hears now (FromClient n) (Asks q)) same) same
    (subst (λ (n : ℕ). n ≤ MAX_CLIENT) same is.named) new) k)

pub step_known : (s : Server) (chosen : List ℕ) (i : Input) (c : ℕ) (x : Client) → AreSafe s.files → IsMet s c x
    → IsOwn s c x i → Known s c x → Known (step s chosen i).state c x
step_known s chosen i c x safe met own k = did_known s chosen i c x (step_did s chosen i safe) safe met own k
