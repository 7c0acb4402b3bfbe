-- What a LAYOUTCOMMIT and a LAYOUTRETURN come to.
use Rattle.std.proofs.Common.{◌≡◌, ◌≢◌, ◌==◌, ◌&&◌, ◌*◌, ℕ, ◌+◌, Bool, true, false, nat_lt, nat_le, max, List, [], ◌∷◌, length, Option, Some, None, refl, sym, ap, subst, ◌∙◌, arith, inl, inr, if◌then◌else◌}
use Rattle.std.proofs.lemmas.Bool.{cases_Bool}
use Rattle.std.proofs.lemmas.Bool.Decides.{nat_tests}
use Rattle.data_map.specs.Striping.{stripe_length}
use Rattle.data_map.specs.declared.ranges.TheConstants.{MAX_FILE_SIZE}
use Rattle.server_rules.specs.declared.limits.TheConstants.{GREATEST_TAG}
use Rattle.server_rules.specs.Answers.{result_with}
use Rattle.server_rules.specs.Commit as committing
use Rattle.server_rules.specs.Commit.{may_commit, commit_under, by_commit, commits}
use Rattle.server_rules.specs.Going.{Going, keeping, noting_if}
use Rattle.server_rules.specs.Grants.{grant_of, without}
use Rattle.server_rules.specs.Jobs.{ending, fence_begins}
use Rattle.server_rules.specs.Numbers.{among}
use Rattle.server_rules.proofs.HandlerLaws.{fence_leaves_none}
use Rattle.server_rules.proofs.Runs.{ran_fences}
use Rattle.server_rules.specs.Laws.{In, Apart}
use Rattle.server_rules.specs.Return as returning
use Rattle.server_rules.specs.Return.{named, none_beyond, is_sole, bearable, loss, reports_from, takes_loss, by_loss, by_grant, return_row, by_return, returns_on}
use Rattle.server_rules.specs.Served.{Served}
use Rattle.server_rules.specs.Standing.{lose_from}
use Rattle.server_rules.proofs.GrantLaws.{nobody}
use Rattle.world_history.specs.ServerNames.{File, Component, Drive, Kept, Grant, IoErr, Commit, Return, Revoking, Reported}
use Rattle.cause_law.specs.Commits as commit_rows
use Rattle.cause_law.specs.Commits.{HasGrant, MayCommit, Commits}
use Rattle.cause_law.specs.Returns as return_rows
use Rattle.cause_law.specs.Returns.{IsLoss, LosesSome, Returns}
use Rattle.cause_law.proofs.Words.{found}

-- ---- the client's grant

has_none : (f : Kept) (client : ℕ) → grant_of f.grants client ≡ None → HasGrant f client → ⊥
has_none f client e h =
    absurd (grind (arith, nat_tests, h.client_is, nobody (λ (g : Grant). g.client == client) f.grants h.grant e h.live))

has : (f : Kept) (client : ℕ) (g : Grant) → grant_of f.grants client ≡ Some g → HasGrant f client
has f client g e =
    let r = found (λ (x : Grant). x.client == client) f.grants g e in
    record { grant = g; live = r.there; client_is = grind (arith, nat_tests, r.passes) }

-- it has one alone
its : (f : Kept) (client : ℕ) (g : Grant) (e : grant_of f.grants client ≡ Some g) → Apart f.grants → (h : HasGrant f client)
    → h.grant ≡ g
unfolding has
its f client g e apart h =
    let k : HasGrant f client = has f client g e in
    (apart h.grant k.grant h.live k.live).1 (h.client_is ∙ sym k.client_is)

-- ---- LAYOUTCOMMIT

four : (a b c d : Bool) → (a && (b && (c && d))) ≡ true → (a ≡ true) × (b ≡ true) × (c ≡ true) × (d ≡ true)
four true true true true e = (refl, refl, refl, refl)
four a b c d e = absurd (cc e)

may : (f : Kept) (g : Grant) (last : ℕ) → may_commit (stripe_length f.map) g last ≡ true → MayCommit f g last
unfolding may_commit
may f g last e =
    let r = four g.extending (nat_le (g.first * stripe_length f.map) last) (nat_lt last (g.end * stripe_length f.map))
    (nat_lt last MAX_FILE_SIZE) e in
    record {
      extending = r.0;
      from = grind (arith, nat_tests, r.1);
      upto = grind (arith, nat_tests, r.2);
      limit = grind (arith, nat_tests, r.3);
    }

may_not : (f : Kept) (g : Grant) (last : ℕ) → may_commit (stripe_length f.map) g last ≡ false → MayCommit f g last → ⊥
unfolding may_commit
may_not f g last e m =
    absurd (grind (arith, nat_tests, e, m.extending, m.from, m.upto, m.limit))

module _ (ds : List Drive) (go : Going) (client : ℕ) (apart : Apart go.file.kept.grants) where
  abbrev f : Kept
  f = go.file.kept

  abbrev CommitComes : Option ℕ → Served → Type 0
  CommitComes last v =
      Commits f v.going.file.kept client last v.told.detail
      (result_with ds v.going.file.kept (Commit last) v.told.status v.told.grant)

  by_may : (last : ℕ) (g : Grant) → grant_of f.grants client ≡ Some g → (b : Bool)
      → may_commit (stripe_length f.map) g last ≡ b
      → CommitComes (Some last) (by_commit go (if b then committing.Sizes (max f.size (last + 1)) else committing.Wrong))
  unfolding has
  by_may last g e true m = commit_rows.Sizes last (has f client g e) (may f g last m) refl
  by_may last g e false m =
      commit_rows.Wrong (Some last) (has f client g e) (λ h n is x.
      let same : last ≡ n = cc is in
      may_not f g last m (subst (λ (y : Grant). MayCommit f y last) (its f client g e apart h)
      (subst (MayCommit f h.grant) (sym same) x))) refl

  by_held : (last : Option ℕ) (o : Option Grant) → grant_of f.grants client ≡ o
      → CommitComes last (by_commit go (commit_under (stripe_length f.map) f.size last o))
  unfolding commit_under
  by_held last None e = commit_rows.NoGrant last (has_none f client e) refl
  by_held None (Some g) e = commit_rows.Wrong None (has f client g e) (λ h n is x. absurd (cc is)) refl
  by_held (Some last) (Some g) e = by_may last g e (may_commit (stripe_length f.map) g last) refl

  pub commit_comes : (last : Option ℕ) → CommitComes last (commits go client last)
  unfolding commits
  commit_comes last = by_held last (grant_of f.grants client) refl

  -- ---- LAYOUTRETURN

  sole_of : (gs : List Grant) (g : Grant) → In g gs → (length gs == 1) ≡ true → gs ≡ g ∷ []
  sole_of [] g i one = absurd i
  sole_of (x ∷ []) g (inr i) one = absurd i
  sole_of (x ∷ []) g (inl e) one = ap (λ (y : Grant). y ∷ []) (sym e)
  sole_of (x ∷ y ∷ gs) g i one = absurd (grind (arith, nat_tests, one))

  both : (a b : Bool) → (a && b) ≡ true → (a ≡ true) × (b ≡ true)
  both true true e = (refl, refl)
  both a b e = absurd (cc e)

  -- by the components that the report names
  by_named : (g : Grant) (report : List IoErr) (ks : List ℕ) (o : Option (List ℕ)) → named report f.components ≡ o
      → bearable f o ≡ Some ks
      → (named report f.components ≡ Some ks) × (none_beyond f.map (lose_from ks f.components 0) ks ≡ true)
  by_named g report ks None n e = absurd (cc e)
  by_named g report ks (Some js) n e = elim (cases_Bool (none_beyond f.map (lose_from js f.components 0) js)) [
    | inl t ↦
        let same : js ≡ ks = cc (rw t at e) in (
          n ∙ ap (λ (ls : List ℕ). Some ls) same,
          subst (λ (ls : List ℕ). none_beyond f.map (lose_from ls f.components 0) ls ≡ true) same t,
        )
    | inr z ↦ absurd (cc (rw z at e))
  ]

  a_loss : (g : Grant) (report : List IoErr) (ks : List ℕ) → In g f.grants → loss f g report ≡ Some ks → IsLoss f g report ks
  unfolding loss
  a_loss g report ks i e = elim (cases_Bool (is_sole f g)) [
    | inl t ↦
        let s = both g.rw (length f.grants == 1) t in
        let r = by_named g report ks (named report f.components) refl (rw t at e) in
        record { writes = s.0; sole = sole_of f.grants g i s.1; names = r.0; borne = r.1 }
    | inr z ↦ absurd (cc (rw z at e))
  ]

  loss_is : (g : Grant) (report : List IoErr) (ks : List ℕ) → IsLoss f g report ks → loss f g report ≡ Some ks
  unfolding loss
  loss_is g report ks l = rw (l.writes, l.sole, l.names, l.borne) refl

  -- notes change no file
  reports_same : (g : Going) (ks : List ℕ) (cs : List Component) (k : ℕ) → (reports_from g ks cs k).file ≡ g.file
  unfolding reports_from
  reports_same g ks [] k = refl
  reports_same g ks (at ∷ cs) k = reports_same (noting_if (among k ks) g (Reported k)) ks cs (k + 1)

  abbrev ReturnComes : List IoErr → Served → Type 0
  ReturnComes report v =
      Returns f v.going.file.kept client report v.told.detail
      (result_with ds v.going.file.kept (Return report) v.told.status v.told.grant)

  none_lost : (report : List IoErr) (g : Grant) → grant_of f.grants client ≡ Some g → loss f g report ≡ None
      → LosesSome f client report → ⊥
  none_lost report g e none l =
      absurd (cc (sym none ∙ loss_is g report l.components
      (subst (λ (y : Grant). IsLoss f y report l.components) (its f client g e apart l.has) l.loss)))

  by_tag : (format : ℕ) (report : List IoErr) → report ≢ [] → HasGrant f client → (LosesSome f client report → ⊥) → (b : Bool)
      → (f.tag == GREATEST_TAG) ≡ b
      → ReturnComes report (by_return go format client (if b then returning.TooMany else returning.Fencing))
  unfolding fence_begins
  by_tag format report some h none true e = return_rows.TagSpent report some h none (grind (arith, nat_tests, e)) refl
  by_tag format report some h none false e =
      return_rows.Fences report some h none (λ same. absurd (grind (arith, nat_tests, e, same)))
      (fence_leaves_none Revoking format go) (ran_fences Revoking (keeping go (ending go.file.kept format))).size

  by_loss_of : (format : ℕ) (report : List IoErr) (g : Grant) → report ≢ [] → grant_of f.grants client ≡ Some g
      → (o : Option (List ℕ)) → loss f g report ≡ o → ReturnComes report (by_return go format client (by_loss f o))
  unfolding has takes_loss
  by_loss_of format report g some e (Some ks) l =
      return_rows.Taken report some (record {
        has = has f client g e;
        components = ks;
        loss = a_loss g report ks (has f client g e).live l;
      }) (ap (λ (x : File). record x.kept { grants = without x.kept.grants client })
      (reports_same (keeping go (record f { components = lose_from ks f.components 0 })) ks f.components 0))
  by_loss_of format report g some e None l =
      by_tag format report some (has f client g e) (none_lost report g e l) (f.tag == GREATEST_TAG) refl

  by_own : (format : ℕ) (report : List IoErr) (o : Option Grant) → grant_of f.grants client ≡ o
      → ReturnComes report (by_return go format client (by_grant f report o))
  by_own format report None e = return_rows.NoGrant report (has_none f client e) refl
  by_own format [] (Some g) e = return_rows.Clean (has f client g e) refl
  by_own format (x ∷ xs) (Some g) e =
      by_loss_of format (x ∷ xs) g (λ none. absurd (cc none)) e (loss f g (x ∷ xs)) refl

  pub return_comes : (format : ℕ) (report : List IoErr) → ReturnComes report (returns_on go format client report)
  unfolding returns_on return_row
  return_comes format report = by_own format report (grant_of f.grants client) refl
