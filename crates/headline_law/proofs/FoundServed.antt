-- What a request leaves of a file whose grants are live, or whose fence runs.
-- Towards `EachHeldBecame` (`headline_law/specs/FoundHeld.antt`).
use Rattle.std.proofs.Common.{◌≡◌, ◌⊎◌, ◌==◌, ◌&&◌, ◌++◌, ℕ, Bool, true, false, List, [], ◌∷◌, length, Option, Some, None, refl, sym, ap, subst, ◌∙◌, inl, inr, suc, arith, if◌then◌else◌}
use Rattle.std.proofs.lemmas.Bool.{cases_eq, eq-eqb, eqb-true, ne_eqb}
use Rattle.layout_types.specs.declared.ioerrs.IoErr.{IoErr}
use Rattle.server_rules.specs.declared.limits.TheConstants.{GREATEST_TAG}
use Rattle.server_rules.specs.Commit.{Committed, NoGrant, Wrong, Sizes, by_commit, commits, commit_row}
use Rattle.server_rules.specs.Get.{Early, Late, BadMode, Invalid, Unable, Waits, On, NoNumber, Lacks, Conflict, Gives, after_fence, by_early, by_late, fence_first, gets, give_or_refuse, late, must_fence, on_grants}
use Rattle.server_rules.specs.Going.{Going}
use Rattle.server_rules.specs.Grants.{grant_of, without}
use Rattle.server_rules.specs.Jobs.{fence_begins}
use Rattle.server_rules.specs.Requests.{serves}
use Rattle.server_rules.specs.Return.{Returned, NoGrant as NotHeld, Clean, Taken, TooMany, Fencing as ToFence, bearable, by_grant, by_loss, by_return, ends_grant, loss, named, return_row, returns_on, takes_loss}
use Rattle.server_rules.specs.Served.{Served}
use Rattle.world_history.specs.ServerNames.{Grant, Job, Kept, RequestArgs, Get, Commit, Return, Revoking, Still, Fencing}
use Rattle.component_law.proofs.Without.{other_grant}
use Rattle.headline_law.proofs.FoundFences.{AreKept, ComesTo, fence_comes, kept_same, stays_comes}

-- while a grant of the file is live no fence of it is open
abbrev pub IsStillBeside : Kept → Type 0
IsStillBeside f = (c : ℕ) (g : Grant) → grant_of f.grants c ≡ Some g → f.phase ≡ Still

-- one more grant takes none away
grant_more : (gs : List Grant) (n : Grant) (c : ℕ) (g : Grant) → grant_of gs c ≡ Some g → grant_of (gs ++ (n ∷ [])) c ≡ Some g
grant_more [] n c g e = absurd (cc e)
grant_more (x ∷ gs) n c g e = elim (cases_eq x.client c) [
  | inl is ↦ rw (eq-eqb x.client c is) (rw (eq-eqb x.client c is) at e)
  | inr other ↦ rw (ne_eqb x.client c other) (grant_more gs n c g (rw (ne_eqb x.client c other) at e))
]

-- of one grant, one client has it
one_client : (gs : List Grant) (c d : ℕ) (x y : Grant) → (length gs == 1) ≡ true → grant_of gs c ≡ Some x →
    grant_of gs d ≡ Some y → c ≡ d
one_client [] c d x y one e f = absurd (cc e)
one_client (g ∷ []) c d x y one e f = elim (cases_eq g.client c) [
  | inl is ↦ elim (cases_eq g.client d) [
    | inl same ↦ sym is ∙ same
    | inr other ↦ absurd (cc (rw (ne_eqb g.client d other) at f))
  ]
  | inr other ↦ absurd (cc (rw (ne_eqb g.client c other) at e))
]
one_client (g ∷ h ∷ gs) c d x y one e f =
    let two : suc (suc (length gs)) ≡ 1 = eqb-true (length (g ∷ h ∷ gs)) 1 one in
    absurd (omega (arith, two))

-- where a report is taken as a loss its client has the only grant
none_taken : (b : Bool) (ks : List ℕ) → (if b then TooMany else ToFence) ≡ Taken ks → ⊥
none_taken true ks e = cc e
none_taken false ks e = cc e

sole_by : (f : Kept) (a b : Bool) (o : Option (List ℕ)) (ks : List ℕ) → by_loss f (if a && b then o else None) ≡ Taken ks →
    b ≡ true
sole_by f true true o ks e = refl
sole_by f true false o ks e = absurd (none_taken (f.tag == GREATEST_TAG) ks e)
sole_by f false b o ks e = absurd (none_taken (f.tag == GREATEST_TAG) ks e)

sole_taken : (f : Kept) (report : List IoErr) (o : Option Grant) (ks : List ℕ) → by_grant f report o ≡ Taken ks →
    (g : Grant) × (o ≡ Some g) × ((length f.grants == 1) ≡ true)
unfolding loss
sole_taken f report None ks e = absurd (cc e)
sole_taken f [] (Some g) ks e = absurd (cc e)
sole_taken f (x ∷ xs) (Some g) ks e =
    (g, refl, sole_by f g.rw (length f.grants == 1) (bearable f (named (x ∷ xs) f.components)) ks e)

-- client c asks to return its own grant
abbrev pub IsReturn : (client : ℕ) → RequestArgs → ℕ → Type 0
IsReturn client (Return report) c = c ≡ client
IsReturn client a c = ⊥

-- no client
abbrev pub NoClient : ℕ → Type 0
NoClient c = ⊥

module _ (Off : ℕ → Type 0) (f : Kept) where
  -- client c has a live grant yet, under the same tag, and the components stay
  abbrev pub StaysLive : ℕ → Kept → Type 0
  StaysLive c k =
      (x : Grant) × (grant_of k.grants c ≡ Some x) × AreKept Off f.components k.components × (k.tag ≡ f.tag)

  -- a live grant stays so, or comes to its fence; so does a file whose fence runs
  pub record Goes (But : ℕ → Type 0) (k : Kept) : Type 0 where
    pub live : (c : ℕ) (g : Grant) → (But c → ⊥) → grant_of f.grants c ≡ Some g →
        StaysLive c k ⊎ ComesTo Off f k
    pub fencing : f.phase ≡ Fencing → ComesTo Off f k

  pub goes_itself : (But : ℕ → Type 0) → Goes But f
  goes_itself But = record {
    live = λ c g but e. inl (g, e, kept_same Off f.components f.components refl, refl);
    fencing = λ phase. stays_comes Off f phase;
  }

  either_goes : (But : ℕ → Type 0) (b : Bool) (v u : Served) → Goes But v.going.file.kept → Goes But u.going.file.kept →
      Goes But (if b then v else u).going.file.kept
  either_goes But true v u p q = p
  either_goes But false v u p q = q

  module _ (still : IsStillBeside f) where
    pub fence_goes : (But : ℕ → Type 0) (kind : _) (format : ℕ) (go : Going) → go.file.kept ≡ f →
        Goes But (fence_begins kind format go).file.kept
    fence_goes But kind format go is = record {
      live = λ c g but e. inr (comes (inl (ap (λ (k : Kept). k.phase) is ∙ still c g e)));
      fencing = λ phase. comes (inr (ap (λ (k : Kept). k.phase) is ∙ phase));
    }
      where
        comes : (go.file.kept.phase ≡ Still) ⊎ (go.file.kept.phase ≡ Fencing) →
            ComesTo Off f (fence_begins kind format go).file.kept
        comes at =
            subst (λ (k : Kept). ComesTo Off k (fence_begins kind format go).file.kept) is (fence_comes Off kind format go at)

    -- ---- a LAYOUTGET

    late_goes : (go : Going) (g : Grant) (l : Late) → Goes NoClient go.file.kept → Goes NoClient (by_late go g l).going.file.kept
    late_goes go g NoNumber h = h
    late_goes go g (Lacks k) h = h
    late_goes go g (Conflict holder) h = h
    late_goes go g Gives h = record { live = λ c x but e. more c (h.live c x but e); fencing = h.fencing }
      where
        more : (c : ℕ) → StaysLive c go.file.kept ⊎ ComesTo Off f go.file.kept →
            StaysLive c (by_late go g Gives).going.file.kept ⊎ ComesTo Off f (by_late go g Gives).going.file.kept
        more c (inl (x, e, on, tag)) = inl (x, grant_more go.file.kept.grants g c x e, on, tag)
        more c (inr comes) = inr comes

    given_goes : (go : Going) (next : ℕ) (g : Grant) → Goes NoClient go.file.kept →
        Goes NoClient (give_or_refuse go next g).going.file.kept
    unfolding give_or_refuse
    given_goes go next g h = late_goes go g (late go.file.kept next g) h

    after_goes : (go : Going) (next : ℕ) (g : Grant) (o : Option Job) → Goes NoClient go.file.kept →
        Goes NoClient (after_fence go next g o).going.file.kept
    after_goes go next g None h = given_goes go next g h
    after_goes go next g (Some j) h = h

    first_goes : (go : Going) (next format : ℕ) (g : Grant) → go.file.kept ≡ f →
        Goes NoClient (fence_first go next format g).going.file.kept
    unfolding fence_first
    first_goes go next format g is =
        either_goes NoClient (go.file.kept.tag == GREATEST_TAG) _ _ (subst (Goes NoClient) (sym is) (goes_itself NoClient))
        (after_goes (fence_begins Revoking format go) next g (fence_begins Revoking format go).file.job
        (fence_goes NoClient Revoking format go is))

    grants_goes : (go : Going) (next format now : ℕ) (g : Grant) → go.file.kept ≡ f →
        Goes NoClient (on_grants go next format now g).going.file.kept
    unfolding on_grants
    grants_goes go next format now g is =
        either_goes NoClient (must_fence now go.file.kept.grants g) _ _ (first_goes go next format g is)
        (given_goes go next g (subst (Goes NoClient) (sym is) (goes_itself NoClient)))

    early_goes : (go : Going) (next format now : ℕ) (g : Grant) (e : Early) → go.file.kept ≡ f →
        Goes NoClient (by_early go next format now g e).going.file.kept
    early_goes go next format now g On is = grants_goes go next format now g is
    early_goes go next format now g BadMode is = subst (Goes NoClient) (sym is) (goes_itself NoClient)
    early_goes go next format now g Invalid is = subst (Goes NoClient) (sym is) (goes_itself NoClient)
    early_goes go next format now g Unable is = subst (Goes NoClient) (sym is) (goes_itself NoClient)
    early_goes go next format now g (Waits k) is = subst (Goes NoClient) (sym is) (goes_itself NoClient)

    -- ---- a LAYOUTCOMMIT and a LAYOUTRETURN

    commit_goes : (go : Going) (y : Committed) → go.file.kept ≡ f → Goes NoClient (by_commit go y).going.file.kept
    commit_goes go NoGrant is = subst (Goes NoClient) (sym is) (goes_itself NoClient)
    commit_goes go Wrong is = subst (Goes NoClient) (sym is) (goes_itself NoClient)
    commit_goes go (Sizes size) is =
        let h : Goes NoClient go.file.kept = subst (Goes NoClient) (sym is) (goes_itself NoClient) in
        record { live = h.live; fencing = h.fencing }

    ends_goes : (go : Going) (client : ℕ) → go.file.kept ≡ f → Goes (λ c. c ≡ client) (ends_grant go client).file.kept
    ends_goes go client is = record {
      live = λ c g but e. inl (
        g,
        other_grant go.file.kept.grants c client but ∙ ap (λ (k : Kept). grant_of k.grants c) is ∙ e,
        kept_same Off f.components go.file.kept.components (ap (λ (k : Kept). k.components) is),
        ap (λ (k : Kept). k.tag) is,
      );
      fencing = λ phase.
          subst (λ (k : Kept). ComesTo Off f (record k { grants = without k.grants client })) (sym is) (stays_comes Off f phase);
    }

    taken_goes : (go : Going) (client : ℕ) (ks : List ℕ) (g : Grant) → grant_of f.grants client ≡ Some g →
        (length f.grants == 1) ≡ true → Goes (λ c. c ≡ client) (ends_grant (takes_loss go ks) client).file.kept
    taken_goes go client ks g has one = record {
      live = λ c x but e. absurd (but (one_client f.grants c client x g one e has));
      fencing = λ phase. absurd (cc (sym (still client g has) ∙ phase));
    }

    row_goes : (go : Going) (format client : ℕ) (report : List IoErr) (r : Returned) → go.file.kept ≡ f →
        by_grant f report (grant_of f.grants client) ≡ r →
        Goes (λ c. c ≡ client) (by_return go format client r).going.file.kept
    row_goes go format client report NotHeld is e = subst (Goes (λ c. c ≡ client)) (sym is) (goes_itself (λ c. c ≡ client))
    row_goes go format client report Clean is e = ends_goes go client is
    row_goes go format client report (Taken ks) is e =
        let x = sole_taken f report (grant_of f.grants client) ks e in taken_goes go client ks x.0 x.1 x.2
    row_goes go format client report TooMany is e = subst (Goes (λ c. c ≡ client)) (sym is) (goes_itself (λ c. c ≡ client))
    row_goes go format client report ToFence is e = fence_goes (λ c. c ≡ client) Revoking format go is

    -- but for the client that returns its own
    return_goes : (go : Going) (format client : ℕ) (report : List IoErr) → go.file.kept ≡ f →
        Goes (λ c. c ≡ client) (returns_on go format client report).going.file.kept
    unfolding returns_on return_row
    return_goes go format client report is =
        row_goes go format client report (return_row go.file.kept client report) is
        (ap (λ (k : Kept). by_grant k report (grant_of k.grants client)) (sym is))

    pub served_goes : (go : Going) (next format now client : ℕ) (a : RequestArgs) → go.file.kept ≡ f →
        Goes (IsReturn client a) (serves go next format now client a).going.file.kept
    unfolding gets commits
    served_goes go next format now client (Get iomode offset count) is = early_goes go next format now _ _ is
    served_goes go next format now client (Commit last) is = commit_goes go (commit_row go.file.kept client last) is
    served_goes go next format now client (Return report) is = return_goes go format client report is
