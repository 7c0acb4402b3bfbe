-- A LAYOUTCOMMIT on a file that the server carries out: each of the step's events can happen.
use Rattle.std.proofs.Common.{◌≡◌, ◌==◌, ℕ, Bool, true, false, List, [], ◌∷◌, Option, refl, sym, ap, subst, ◌∙◌}
use Rattle.std.proofs.lemmas.Bool.{true≢false}
use Rattle.layout_ops.specs.declared.statuses.TheConstants.{NFS4_OK}
use Rattle.client_rules.specs.Results.{status_of}
use Rattle.server_rules.specs.Commit.{Committed, NoGrant, Wrong, Sizes, commit_row, by_commit, commits}
use Rattle.server_rules.specs.Files.{at_file}
use Rattle.server_rules.specs.Grants.{grant_of}
use Rattle.server_rules.specs.Requests.{answer_with}
use Rattle.world_history.specs.ServerNames.{File, Still, ClientRequest, Commit as Commits}
use Rattle.world_history.specs.State.{World}
use Rattle.fence_law.specs.State as machine
use Rattle.fence_law.specs.State.{State}
use Rattle.fence_law.specs.State.{Event as event}
use Rattle.fence_law.specs.State.Call.{Writes as AtWrite}
use Rattle.fence_law.specs.State.Commit.{CommitAsked}
use Rattle.fence_law.specs.Machine.{Allowed, Lawful, after}
use Rattle.file_simulation.specs.EventLists.{of_grant, entry_in, entry_of}
use Rattle.file_simulation.specs.Phases.{IsStill, PhaseIs}
use Rattle.file_simulation.specs.ServerEvents.{committed}
use Rattle.relation_law.specs.KeptSteps.{IsKeptAt}
use Rattle.relation_law.proofs.KeptCommitted.{sized_row, some_by}
use Rattle.relation_law.proofs.KeptGuards.{commits_allowed}
use Rattle.relation_law.proofs.KeptReturns.{granted_still}
use Rattle.relation_law.proofs.KeptServer.{light_kept}
use Rattle.headline_law.proofs.ServerOwn.{StandsSo}

-- the client's commit waits to be carried out, for the write that it is at
pub record CommitWaits (s : State) (c : ℕ) : Type 0 where
  pub entry : ℕ
  pub at_ : s.call c ≡ AtWrite entry
  pub asked : s.commit c ≡ CommitAsked entry

module _ (next : ℕ) (s : State) (w : World) (f : File) (k : StandsSo next s w f) (chosen : List ℕ) (q : ClientRequest)
    (last : Option ℕ) (is : q.args ≡ Commits last) (other : Allowed s (event.ServesOther q.client))
    (waits : CommitWaits s q.client) where
  abbrev c : ℕ
  c = q.client

  abbrev t : State
  t = after s (event.ServesOther c)

  kept : IsKeptAt next t f
  kept = light_kept next s (event.ServesOther c ∷ []) f (refl, tt) (other, tt) k.safe k.kept

  at_entry : entry_of s c ≡ waits.entry
  at_entry = ap entry_in waits.at_

  abbrev OkOf : Committed → Bool
  OkOf row = status_of (answer_with w.server q (by_commit (at_file w.server chosen f) row)).results == NFS4_OK

  -- it is carried out
  sizes : (size : ℕ) → commit_row f.kept c last ≡ Sizes size → Lawful t (committed s c true)
  sizes size row =
      let r = sized_row f.kept c last size row in
      let still : f.kept.phase ≡ Still = granted_still s f c r.grant r.has f.kept.phase k.kept.phase in
      let st : IsStill s f = subst (PhaseIs s f) still k.kept.phase in
      let x = some_by f.kept (grant_of f.kept.grants c) (s.outstanding c) r.grant r.has (st.outstanding c) in
      let es : committed s c true ≡ event.Commits c waits.entry x.0 ∷ [] =
      ap (λ (o : Option machine.Grant). of_grant o (λ y. event.Commits c (entry_of s c) y ∷ [])) x.1
      ∙ ap (λ (n : ℕ). event.Commits c n x.0 ∷ []) at_entry in
      subst (Lawful t) (sym es)
      (commits_allowed next t f c waits.entry r.grant x.0 waits.asked r.has r.extending x.1 kept, tt)

  -- or refused
  refused : Lawful t (committed s c false)
  refused = subst (λ (n : ℕ). Lawful t (event.RefusesCommit c n ∷ [])) (sym at_entry) (waits.asked, tt)

  by_row : (row : Committed) → commit_row f.kept c last ≡ row → (ok : Bool) → OkOf row ≡ ok → Lawful t (committed s c ok)
  by_row row e false ok = refused
  by_row (Sizes size) e true ok = sizes size e
  by_row NoGrant e true ok = absurd (true≢false (sym ok ∙ rw is refl))
  by_row Wrong e true ok = absurd (true≢false (sym ok ∙ rw is refl))

  pub commits_may : Lawful t
      (committed s c (status_of (answer_with w.server q (commits (at_file w.server chosen f) c last)).results == NFS4_OK))
  unfolding commits
  commits_may = by_row (commit_row f.kept c last) refl (OkOf (commit_row f.kept c last)) refl

  -- it has no note
  pub commits_silent : (commits (at_file w.server chosen f) c last).going.effects.notes ≡ []
  unfolding commits
  commits_silent = none (commit_row f.kept c last)
    where
      none : (row : Committed) → (by_commit (at_file w.server chosen f) row).going.effects.notes ≡ []
      none NoGrant = refl
      none Wrong = refl
      none (Sizes size) = refl
