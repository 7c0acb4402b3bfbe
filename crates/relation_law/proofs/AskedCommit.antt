-- A commit that is carried out: the client has a grant outstanding in the machine, and the file has the size of the write.
-- Towards `CallsGoOn` (`relation_law/specs/Steps.antt`).
use Rattle.std.proofs.Common.{◌≡◌, ◌==◌, max, ℕ, true, false, List, [], ◌∷◌, Option, Some, None, refl, sym, subst, ◌∙◌, inl, inr}
use Rattle.std.proofs.lemmas.Bool.{true≢false, eqb-true}
use Rattle.layout_ops.specs.declared.statuses.TheConstants.{NFS4_OK}
use Rattle.server_rules.specs.Files.{at_file}
use Rattle.server_rules.specs.Grants.{grant_of}
use Rattle.server_rules.specs.Requests.{serves, answer_with}
use Rattle.client_rules.specs.Calls.{file_of}
use Rattle.client_rules.specs.Grants.{held_of}
use Rattle.client_rules.specs.Results.{status_of}
use Rattle.world_history.specs.ServerNames.{File, ClientRequest, RequestArgs, Commit as Commits, Still}
use Rattle.exchange_law.specs.Calls.{Has}
use Rattle.world_history.specs.ClientNames.{Client, CallOp, Held, Commit, Waits, TimedOut}
use Rattle.world_history.specs.State.{World}
use Rattle.fence_law.specs.Law.{IsCode}
use Rattle.fence_law.specs.State.{State, Grant, Event as event}
use Rattle.fence_law.specs.State.Commit.{CommitDone}
use Rattle.fence_law.specs.Machine.{Lawful, after}
use Rattle.fence_law.proofs.EveryRun.{keep_sized}
use Rattle.fence_law.proofs.Safe.{Safe, keep_safe}
use Rattle.fence_law.proofs.Words.{updated_same}
use Rattle.file_simulation.specs.Calls.{IsClient, IsHolding, HeldIs}
use Rattle.file_simulation.specs.Showing.{IsRun}
use Rattle.relation_law.specs.RequestsClients.{AsksFor}
use Rattle.relation_law.proofs.ComponentsMachine.{right_run}
use Rattle.server_rules.specs.Commit.{Committed, NoGrant, Wrong, Sizes, commit_row, by_commit, commits}
use Rattle.file_simulation.specs.Phases.{IsStill, PhaseIs}
use Rattle.relation_law.proofs.KeptCommitted.{sized_row, some_by}
use Rattle.relation_law.proofs.KeptReturns.{granted_still}
use Rattle.data_map.specs.declared.check.RawMap.{RawMap}

-- Behind the commit of write j the file's size is the greater of what its client knew and of the write's end.
pub size_committed : (s : State) → IsCode s.layout → IsRun s → Safe s → (c j : ℕ) (o : Grant) → s.outstanding c ≡ Some o →
    (y : Grant) → s.held c ≡ Some y → Lawful s (event.ServesOther c ∷ (event.Commits c j o ∷ [])) →
    (after (after s (event.ServesOther c)) (event.Commits c j o)).size
    ≡ max ((after s (event.ServesOther c)).known_size c) ((after s (event.ServesOther c)).start j).end_
size_committed s code run safe_ c j o out y held l =
    let s1 : State = after s (event.ServesOther c) in
    let c1 : State = after s1 (event.Commits c j o) in
    let safe1 : Safe s1 = keep_safe s (event.ServesOther c) l.0 safe_ in
    let safe2 : Safe c1 = keep_safe s1 (event.Commits c j o) l.1.0 safe1 in
    let sized =
    keep_sized s1 (event.Commits c j o) l.1.0 safe1
    (keep_sized s (event.ServesOther c) l.0 safe_ (right_run s code run).sized) in
    let tag : y.tag ≡ c1.tag = elim ((safe2.holds.has c y held).1) [
      | inl live ↦ live.0
      | inr older ↦ absurd (cc (sym older.1 ∙ out))
    ] in
    let done : c1.commit c ≡ CommitDone j = updated_same s1.commit c (CommitDone j) in
    elim (sized.knows.held c y held tag) [
      | inl plain ↦ absurd (plain.1 j done)
      | inr over ↦
          let same : over.0 ≡ j = cc (sym over.1 ∙ done) in
          subst (λ (n : ℕ). c1.size ≡ max (c1.known_size c) (c1.start n).end_) same over.2
    ]

-- a client that waits for its commit's answer holds a grant
pub held_some : (file : ℕ) (m : RawMap) (s : State) (c : ℕ) (x : Client) → IsClient file m s c x None → AsksFor x →
    (op : CallOp) (timed : List TimedOut) → x.call ≡ Some (record { op = op; phase = Waits (Commit timed) }) →
    (file_of op == file) ≡ true → (y : Grant) × (s.held c ≡ Some y)
held_some file m s c x is asks op timed call on =
    by_held (held_of x.held file) refl
    (subst (λ (n : ℕ). Has (held_of x.held n)) (eqb-true (file_of op) file on) (asks.commits op (Commit timed) call tt))
  where
    by_held : (o : Option Held) → held_of x.held file ≡ o → Has (held_of x.held file) → (y : Grant) × (s.held c ≡ Some y)
    by_held None e has = absurd (subst Has e has)
    by_held (Some hh) e has =
        let z : IsHolding m s c hh = subst (HeldIs file m s c x None) e is.held in (z.grant, z.held)

module _ (s : State) (w : World) (f : File) (phase : PhaseIs s f f.kept.phase) (chosen : List ℕ) (next format now : ℕ)
    (q : ClientRequest) (last : Option ℕ) (is : q.args ≡ Commits last) where
  by_row : (row : Committed) → commit_row f.kept q.client last ≡ row →
      (status_of (answer_with w.server q (by_commit (at_file w.server chosen f) row)).results == NFS4_OK) ≡ true →
      (x : Grant) × (s.outstanding q.client ≡ Some x)
  by_row NoGrant e good =
      let bad : (status_of (answer_with w.server q (by_commit (at_file w.server chosen f) NoGrant)).results == NFS4_OK) ≡ false =
      rw is refl in
      absurd (true≢false (sym good ∙ bad))
  by_row Wrong e good =
      let bad : (status_of (answer_with w.server q (by_commit (at_file w.server chosen f) Wrong)).results == NFS4_OK) ≡ false =
      rw is refl in
      absurd (true≢false (sym good ∙ bad))
  by_row (Sizes size) e good =
      let r = sized_row f.kept q.client last size e in
      let still : f.kept.phase ≡ Still = granted_still s f q.client r.grant r.has f.kept.phase phase in
      let st : IsStill s f = subst (PhaseIs s f) still phase in
      some_by f.kept (grant_of f.kept.grants q.client) (s.outstanding q.client) r.grant r.has (st.outstanding q.client)

  pub committed_under :
      (status_of (answer_with w.server q (serves (at_file w.server chosen f) next format now q.client q.args)).results == NFS4_OK)
      ≡ true → (x : Grant) × (s.outstanding q.client ≡ Some x)
  unfolding commits
  committed_under good =
      by_row (commit_row f.kept q.client last) refl
      (subst (λ (z : RequestArgs).
      (status_of (answer_with w.server q (serves (at_file w.server chosen f) next format now q.client z)).results
      == NFS4_OK) ≡ true) is good)
