-- A commit on a file: what the machine has behind its step.
-- Towards `KeptGoesOn` (`specs/Steps.antt`).
use Rattle.std.proofs.Common.{◌≡◌, ◌==◌, ◌&&◌, ℕ, ◌+◌, max, Bool, true, false, List, [], ◌∷◌, Option, Some, None, refl, sym, subst, arith, inl, inr}
use Rattle.std.proofs.lemmas.Bool.{cases_Bool}
use Rattle.layout_ops.specs.declared.statuses.TheConstants.{NFS4_OK, NFS4ERR_BADLAYOUT, NFS4ERR_INVAL}
use Rattle.data_map.specs.Striping.{stripe_length}
use Rattle.client_rules.specs.Results.{status_of}
use Rattle.server_rules.specs.Commit.{Committed, NoGrant, Wrong, Sizes, may_commit, commit_under, commit_row, by_commit, commits}
use Rattle.server_rules.specs.Files.{at_file}
use Rattle.server_rules.specs.Going.{Going, keeping}
use Rattle.server_rules.specs.Grants.{grant_of}
use Rattle.server_rules.specs.History.{Input}
use Rattle.server_rules.specs.Requests.{answer_with}
use Rattle.server_rules.specs.Served.{Served, says}
use Rattle.world_history.specs.ServerNames.{File, Kept, Still, Grant, Note, ClientRequest, Commit as Commits_}
use Rattle.world_history.specs.State.{World}
use Rattle.fence_law.specs.State as machine
use Rattle.fence_law.specs.State.{State, Event}
use Rattle.fence_law.specs.State.{Event as event}
use Rattle.fence_law.specs.Machine.{Lawful, after, after_all}
use Rattle.fence_law.proofs.Safe.{Safe, keep_safe}
use Rattle.file_simulation.specs.EventLists.{entry_of}
use Rattle.file_simulation.specs.Phases.{OutstandingIs, IsStill, PhaseIs}
use Rattle.file_simulation.specs.ServerEvents.{served_here, answered_here}
use Rattle.relation_law.specs.KeptAsked.{AsksAs, CommitIs}
use Rattle.relation_law.specs.KeptSteps.{notes_events, IsKeptAt}
use Rattle.relation_law.proofs.KeptReturns.{granted_still, commits_kept, sized}
use Rattle.relation_law.proofs.KeptServer.{light_kept}

-- ---- the row

-- a size is committed under the client's grant, which is extending
pub record IsSized (k : Kept) (c : ℕ) (last : Option ℕ) (size : ℕ) : Type 0 where
  pub offset : ℕ
  pub last_is : last ≡ Some offset
  pub grant : Grant
  pub has : grant_of k.grants c ≡ Some grant
  pub extending : grant.extending ≡ true
  pub size_is : size ≡ max k.size (offset + 1)

both_first : (a b : Bool) → (a && b) ≡ true → a ≡ true
both_first true b e = refl
both_first false b e = e

pub sized_row : (k : Kept) (c : ℕ) (last : Option ℕ) (size : ℕ) → commit_row k c last ≡ Sizes size → IsSized k c last size
unfolding commit_under may_commit
sized_row k c last size is = by last (grant_of k.grants c) refl refl is
  where
    by : (o : Option ℕ) (p : Option Grant) → last ≡ o → grant_of k.grants c ≡ p
        → commit_under (stripe_length k.map) k.size o p ≡ Sizes size → IsSized k c last size
    by None None l g e = absurd (cc e)
    by (Some n) None l g e = absurd (cc e)
    by None (Some x) l g e = absurd (cc e)
    by (Some n) (Some x) l g e = elim (cases_Bool (may_commit (stripe_length k.map) x n)) [
      | inl may ↦
          let same : max k.size (n + 1) ≡ size = cc (rw may at e) in
          record {
            offset = n;
            last_is = l;
            grant = x;
            has = g;
            extending = both_first x.extending _ may;
            size_is = sym same;
          }
      | inr z ↦ absurd (cc (rw z at e))
    ]

-- a client with a grant has one outstanding in the machine
pub some_by : (k : Kept) (o : Option Grant) (y : Option machine.Grant) (g : Grant) → o ≡ Some g → OutstandingIs k.map k.tag o y
    → (x : machine.Grant) × (y ≡ Some x)
some_by k None y g is h = absurd (cc is)
some_by k (Some z) None g is h = absurd h
some_by k (Some z) (Some x) g is h = (x, refl)

-- the events of a commit that is carried out
sized_seen : (s : State) (c : ℕ) (last : Option ℕ) (b : Bool) → b ≡ true → (x : machine.Grant) → s.outstanding c ≡ Some x
    → (f g : File)
    → served_here s c (Commits_ last) b f g ≡ event.ServesOther c ∷ (event.Commits c (entry_of s c) x ∷ [])
sized_seen s c last b good x out f g = rw (good, out) refl

-- ---- the step

module _ (next : ℕ) (s : State) (w : World) (f : File) (i : Input) (Given : State → List Note → Type 0) (safe : Safe s)
    (h : IsKeptAt next s f) (chosen : List ℕ) (q : ClientRequest) (last : Option ℕ) (is : q.args ≡ Commits_ last) where
  abbrev go : Going
  go = at_file w.server chosen f

  abbrev c : ℕ
  c = q.client

  -- all is well with the answer
  abbrev well : Served → Bool
  well v = status_of (answer_with w.server q v).results == NFS4_OK

  -- the first line's events, and what the machine has behind them, the notes and the answer
  pub record CommitsOn (v : Served) : Type 0 where
    pub events : List Event
    pub seen : served_here s c (Commits_ last) (well v) f v.going.file ≡ events
    pub asks : Lawful s events
        → AsksAs (next + v.numbers) (after_all s events) w f i (Given (after_all s events) v.going.effects.notes)
        v.going.effects.notes
        (λ (u : State). answered_here u c (Commits_ last) (answer_with w.server q v) v.going.file) v.going.file

  refused_on : (status detail : ℕ) → well (says go status detail) ≡ false → CommitsOn (says go status detail)
  unfolding notes_events
  refused_on status detail bad = record {
    events = event.ServesOther c ∷ (event.RefusesCommit c (entry_of s c) ∷ []);
    seen = rw bad refl;
    asks = λ a. record {
      lawful = λ x. tt;
      kept = λ x l.
          let n : next ≡ next + 0 = omega arith in
          let es : List Event = event.ServesOther c ∷ (event.RefusesCommit c (entry_of s c) ∷ []) in
          subst (λ (m : ℕ). IsKeptAt m (after_all s es) f) n (light_kept next s es f (refl, (refl, tt)) a safe h);
    };
  }

  sized_on : (size : ℕ) → IsSized f.kept c last size → CommitIs s c last
      → well (says (keeping go (record go.file.kept { size = size })) NFS4_OK 0) ≡ true
      → CommitsOn (says (keeping go (record go.file.kept { size = size })) NFS4_OK 0)
  unfolding notes_events
  sized_on size r end_ good =
      let still : f.kept.phase ≡ Still = granted_still s f c r.grant r.has f.kept.phase h.phase in
      let st : IsStill s f = subst (PhaseIs s f) still h.phase in
      let out = some_by f.kept (grant_of f.kept.grants c) (s.outstanding c) r.grant r.has (st.outstanding c) in
      let j : ℕ = entry_of s c in
      let es : List Event = event.ServesOther c ∷ (event.Commits c j out.0 ∷ []) in
      let v : Served = says (keeping go (record go.file.kept { size = size })) NFS4_OK 0 in
      record {
        events = es;
        seen = sized_seen s c last (well v) good out.0 out.1 f v.going.file;
        asks = λ a. record {
          lawful = λ x. tt;
          kept = λ x l.
              let t : State = after s (event.ServesOther c) in
              let st_ : Safe t = keep_safe s (event.ServesOther c) a.0 safe in
              let k : IsKeptAt next t f = light_kept next s (event.ServesOther c ∷ []) f (refl, tt) (a.0, tt) safe h in
              let e : r.offset + 1 ≡ (s.start j).end_ = subst (CommitIs s c) r.last_is end_ in
              let z : IsKeptAt next (after t (event.Commits c j out.0)) (sized f (max f.kept.size (r.offset + 1))) =
              commits_kept next t f c j r.offset out.0 a.1.0 st_ e k in
              let n : next ≡ next + 0 = omega arith in
              subst (λ (m : ℕ). IsKeptAt m (after_all s es) (sized f size)) n
              (subst (λ (m : ℕ). IsKeptAt next (after_all s es) (sized f m)) (sym r.size_is) z);
        };
      }

  by_row : (r : Committed) → commit_row f.kept c last ≡ r → CommitIs s c last → CommitsOn (by_commit go r)
  by_row NoGrant row e = refused_on NFS4ERR_BADLAYOUT 0 (rw is refl)
  by_row Wrong row e = refused_on NFS4ERR_INVAL 0 (rw is refl)
  by_row (Sizes size) row e = sized_on size (sized_row f.kept c last size row) e (rw is refl)

  -- a LAYOUTCOMMIT on the file
  pub commits_go : CommitIs s c last → CommitsOn (commits go c last)
  unfolding commits
  commits_go e = by_row (commit_row f.kept c last) refl e
