-- While a grant of a file is live its components stand where they stood, with the file's map, tag and format.
use Rattle.std.proofs.Common.{◌≡◌, ◌==◌, ℕ, ◌+◌, Bool, true, false, List, [], ◌∷◌, Option, Some, None, length, slice_get, suc, zero, ◌||◌, ◌&&◌, ◌⊎◌, inl, inr, refl, sym, arith, ap, subst, ◌∙◌, if◌then◌else◌}
use Rattle.std.proofs.lemmas.Bool.{cases_eq, eq-eqb, ne_eqb, eqb-true}
use Rattle.server_rules.specs.declared.limits.TheConstants.{GREATEST_TAG}
use Rattle.world_history.specs.ServerNames.{Kept, Component, Grant, JobKind, Revoking, Job, Awaited, Reported}
use Rattle.server_rules.specs.Grants.{grant_of, without}
use Rattle.server_rules.specs.Jobs.{is_made, declared_in, targets, making, ending, fences, fence_begins, declares}
use Rattle.server_rules.specs.Going.{Going, keeping, noting_if, with_components, rests_or}
use Rattle.server_rules.specs.Commit.{Committed, NoGrant, Wrong, Sizes, by_commit}
use Rattle.server_rules.specs.Laws.{IsSafe}
use Rattle.server_rules.specs.Numbers.{among}
use Rattle.server_rules.specs.Openings.{is_unsettled, opens_made, opens_fenced, opens}
use Rattle.server_rules.specs.Return.{Returned, NoGrant as NotHeld, Clean, Taken, TooMany, Fencing, ends_grant, reports_from, takes_loss, by_return, by_grant, by_loss, loss, bearable, named}
use Rattle.layout_types.specs.declared.ioerrs.IoErr.{IoErr}
use Rattle.server_rules.specs.Standing.{lose_from, lose_on, any_on}
use Rattle.server_rules.proofs.Runs.{ran_fences, ran_declares}
use Rattle.server_rules.specs.Commands.{Creating, All, to_all}
use Rattle.exchange_law.proofs.Grants.{find_without}
use Rattle.world_history.specs.ServerNames.{Making, Creates}

-- drives of which components may get lost
module _ (Off : ℕ → Type 0) where
  -- ---- components

  -- the component stands where it stood, and may be missing now
  pub record MayBeLost (a b : Component) : Type 0 where
    pub drive : b.drive ≡ a.drive
    pub object : b.object ≡ a.object
    pub missing : a.missing ≡ true → b.missing ≡ true
    pub gone : b.missing ≡ true → (a.missing ≡ true) ⊎ Off b.drive

  pub record OnlyLose (cs ds : List Component) : Type 0 where
    pub count : length ds ≡ length cs
    pub each : (k : ℕ) (b : Component) → slice_get ds k ≡ Some b
        → (a : Component) × (slice_get cs k ≡ Some a) × MayBeLost a b

  lost_itself : (a : Component) → MayBeLost a a
  lost_itself a = record { drive = refl; object = refl; missing = λ e. e; gone = λ e. inl e }

  same_lose : (cs ds : List Component) → ds ≡ cs → OnlyLose cs ds
  same_lose cs ds same = record {
    count = ap (λ (l : List Component). length l) same;
    each = λ k b e. (b, ap (λ (l : List Component). slice_get l k) (sym same) ∙ e, lost_itself b);
  }

  gone_then : (a b c : Component) → MayBeLost a b → MayBeLost b c → (b.missing ≡ true) ⊎ Off c.drive
      → (a.missing ≡ true) ⊎ Off c.drive
  gone_then a b c x y (inr off) = inr off
  gone_then a b c x y (inl m) = by (x.gone m)
    where
      by : (a.missing ≡ true) ⊎ Off b.drive → (a.missing ≡ true) ⊎ Off c.drive
      by (inl before) = inl before
      by (inr off) = inr (subst Off (sym y.drive) off)

  lose_then : (cs ds es : List Component) → OnlyLose cs ds → OnlyLose ds es → OnlyLose cs es
  lose_then cs ds es x y = record {
    count = y.count ∙ x.count;
    each = λ k b e.
        let q = y.each k b e in
        let p = x.each k q.0 q.1 in (
          p.0,
          p.1,
          record {
            drive = q.2.drive ∙ p.2.drive;
            object = q.2.object ∙ p.2.object;
            missing = λ m. q.2.missing (p.2.missing m);
            gone = λ m. gone_then p.0 q.0 b p.2 q.2 (q.2.gone m);
          },
        );
  }

  more_lose : (a b : Component) (cs ds : List Component) → MayBeLost a b → OnlyLose cs ds → OnlyLose (a ∷ cs) (b ∷ ds)
  more_lose a b cs ds x y = record { count = ap suc y.count; each = λ k c e. at k c e }
    where
      at : (k : ℕ) (c : Component) → slice_get (b ∷ ds) k ≡ Some c
          → (d : Component) × (slice_get (a ∷ cs) k ≡ Some d) × MayBeLost d c
      at zero c e = let same : b ≡ c = cc e in (a, refl, subst (MayBeLost a) same x)
      at (suc k) c e = y.each k c e

  either_lost : (a : Component) (b : Bool) → (b ≡ true → Off a.drive)
      → MayBeLost a (if b then record a { missing = true } else a)
  either_lost a true off = record { drive = refl; object = refl; missing = λ e. refl; gone = λ e. inr (off refl) }
  either_lost a false off = lost_itself a

  on_lose : (drive : ℕ) (cs : List Component) → Off drive → OnlyLose cs (lose_on drive cs)
  unfolding lose_on
  on_lose drive [] off = same_lose [] [] refl
  on_lose drive (a ∷ cs) off =
      more_lose a _ cs _
      (either_lost a (a.drive == drive) (λ t. subst Off (sym (eqb-true a.drive drive t)) off)) (on_lose drive cs off)

  -- ---- a file

  -- what a grant that stays live is for
  pub record IsAlike (f k : Kept) : Type 0 where
    pub map : k.map ≡ f.map
    pub format : k.format ≡ f.format
    pub tag : k.tag ≡ f.tag
    pub phase : k.phase ≡ f.phase
    pub components : OnlyLose f.components k.components

  -- the file goes on with its number, and with no other grants; where one is live, all but losses is as it was
  pub record Fewer (f k : Kept) : Type 0 where
    pub number : k.number ≡ f.number
    pub grants : (client : ℕ) (g : Grant) → grant_of k.grants client ≡ Some g
        → (grant_of f.grants client ≡ Some g) × IsAlike f k

  alike_itself : (f : Kept) → IsAlike f f
  alike_itself f = record {
    map = refl;
    format = refl;
    tag = refl;
    phase = refl;
    components = same_lose f.components f.components refl;
  }

  pub alike_then : (f k l : Kept) → IsAlike f k → IsAlike k l → IsAlike f l
  alike_then f k l a b = record {
    map = b.map ∙ a.map;
    format = b.format ∙ a.format;
    tag = b.tag ∙ a.tag;
    phase = b.phase ∙ a.phase;
    components = lose_then f.components k.components l.components a.components b.components;
  }

  pub given_alike : (f : Kept) (gs : List Grant) (high : ℕ) → IsAlike f (record f { grants = gs; high = high })
  given_alike f gs high = record {
    map = refl;
    format = refl;
    tag = refl;
    phase = refl;
    components = same_lose f.components f.components refl;
  }

  pub fewer_itself : (f : Kept) → Fewer f f
  fewer_itself f = record { number = refl; grants = λ client g e. (e, alike_itself f) }

  same_grants : (f k : Kept) → k.number ≡ f.number → k.grants ≡ f.grants → IsAlike f k → Fewer f k
  same_grants f k number same alike = record {
    number = number;
    grants = λ client g e. (ap (λ (gs : List Grant). grant_of gs client) (sym same) ∙ e, alike);
  }

  no_grants : (f k : Kept) → k.number ≡ f.number → k.grants ≡ [] → Fewer f k
  no_grants f k number none = record {
    number = number;
    grants = λ client g e. absurd (cc (ap (λ (gs : List Grant). grant_of gs client) (sym none) ∙ e));
  }

  -- ---- what isn't a request

  pub fence_fewer : (kind : JobKind) (format : ℕ) (go : Going)
      → Fewer go.file.kept (fence_begins kind format go).file.kept
  unfolding fence_begins
  fence_fewer kind format go =
      let r = ran_fences kind (keeping go (ending go.file.kept format)) in
      no_grants go.file.kept (fences kind (keeping go (ending go.file.kept format))).file.kept r.number r.grants

  lost_fewer : (go : Going) (drive : ℕ) (b : Bool) → Off drive
      → Fewer go.file.kept (if b then with_components go (lose_on drive go.file.kept.components) else go).file.kept
  lost_fewer go drive true off =
      same_grants go.file.kept (record go.file.kept { components = lose_on drive go.file.kept.components }) refl refl
      (record { map = refl; format = refl; tag = refl; phase = refl; components = on_lose drive go.file.kept.components off })
  lost_fewer go drive false off = fewer_itself go.file.kept

  declares_at : (go : Going) (drive : ℕ) (j : Option Job) → go.file.job ≡ j → IsSafe go.file → Off drive
      → Fewer go.file.kept (declares go drive).file.kept
  unfolding declares
  declares_at go drive None e s off =
      subst (λ (o : Option Job). Fewer go.file.kept (if any_on drive go.file.kept.components || targets o drive
      then declared_in (with_components go (lose_on drive go.file.kept.components)) drive o else go).file.kept) (sym e)
      (lost_fewer go drive (any_on drive go.file.kept.components || targets None drive) off)
  declares_at go drive (Some j) e s off =
      let r = ran_declares go drive s.rests in
      no_grants go.file.kept (declares go drive).file.kept r.number (r.grants ∙ (rw e at s.alone))

  pub declares_fewer : (go : Going) (drive : ℕ) → IsSafe go.file → Off drive → Fewer go.file.kept (declares go drive).file.kept
  declares_fewer go drive s off = declares_at go drive go.file.job refl s off

  ready_fewer : (go : Going) (cs : List Awaited)
      → Fewer go.file.kept (rests_or cs go Making Creates (is_made go)).file.kept
  ready_fewer go [] =
      same_grants go.file.kept (record go.file.kept { ready = true }) refl refl
      (record {
        map = refl;
        format = refl;
        tag = refl;
        phase = refl;
        components = same_lose go.file.kept.components go.file.kept.components refl;
      })
  ready_fewer go (c ∷ cs) = fewer_itself go.file.kept

  pub making_fewer : (go : Going) → Fewer go.file.kept (making go).file.kept
  unfolding making
  making_fewer go = ready_fewer go (to_all go.file.kept All Creating go.effects.nonce)

  made_fewer : (go : Going) (ready : Bool) → Fewer go.file.kept (opens_made go ready).file.kept
  made_fewer go true = fewer_itself go.file.kept
  made_fewer go false = making_fewer go

  either_fewer : (f : Kept) (b : Bool) (x y : Going) → Fewer f x.file.kept → Fewer f y.file.kept
      → Fewer f (if b then x else y).file.kept
  either_fewer f true x y p q = p
  either_fewer f false x y p q = q

  fenced_fewer : (format : ℕ) (go : Going) → Fewer go.file.kept (opens_fenced format go).file.kept
  unfolding opens_fenced
  fenced_fewer format go =
      either_fewer go.file.kept (go.file.kept.tag == GREATEST_TAG) _ _ (fewer_itself go.file.kept)
      (fence_fewer Revoking format go)

  pub opens_fewer : (format : ℕ) (go : Going) → Fewer go.file.kept (opens format go).file.kept
  unfolding opens
  opens_fewer format go =
      either_fewer go.file.kept (is_unsettled go.file.kept) _ _ (fenced_fewer format go)
      (made_fewer go go.file.kept.ready)

  -- ---- commits and returns

  pub commit_fewer : (go : Going) (c : Committed) → Fewer go.file.kept (by_commit go c).going.file.kept
  commit_fewer go NoGrant = fewer_itself go.file.kept
  commit_fewer go Wrong = fewer_itself go.file.kept
  commit_fewer go (Sizes size) =
      same_grants go.file.kept (record go.file.kept { size = size }) refl refl
      (record {
        map = refl;
        format = refl;
        tag = refl;
        phase = refl;
        components = same_lose go.file.kept.components go.file.kept.components refl;
      })

  ends_fewer : (go : Going) (client : ℕ) → Fewer go.file.kept (ends_grant go client).file.kept
  ends_fewer go client = record {
    number = refl;
    grants = λ c g e. (
      find_without go.file.kept.grants client c g e,
      record {
        map = refl;
        format = refl;
        tag = refl;
        phase = refl;
        components = same_lose go.file.kept.components go.file.kept.components refl;
      },
    );
  }

  none_taken : (b : Bool) (ks : List ℕ) → (if b then TooMany else Fencing) ≡ Taken ks → ⊥
  none_taken true ks e = cc e
  none_taken false ks e = cc e

  one_grant : (f : Kept) (a b : Bool) (o : Option (List ℕ)) (ks : List ℕ)
      → by_loss f (if a && b then o else None) ≡ Taken ks → b ≡ true
  one_grant f true true o ks e = refl
  one_grant f true false o ks e = absurd (none_taken (f.tag == GREATEST_TAG) ks e)
  one_grant f false b o ks e = absurd (none_taken (f.tag == GREATEST_TAG) ks e)

  one_left : (gs : List Grant) (client : ℕ) (g : Grant) → (length gs == 1) ≡ true → grant_of gs client ≡ Some g
      → without gs client ≡ []
  one_left [] client g one e = refl
  one_left (x ∷ []) client g one e = elim (cases_eq x.client client) [
    | inl is ↦ rw (eq-eqb x.client client is) refl
    | inr other ↦ absurd (cc (rw (ne_eqb x.client client other) at e))
  ]
  one_left (x ∷ y ∷ gs) client g one e =
      let two : suc (suc (length gs)) ≡ 1 = eqb-true (length (x ∷ y ∷ gs)) 1 one in
      absurd (omega (arith, two))

  sole_left : (f : Kept) (client : ℕ) (report : List IoErr) (o : Option Grant) (ks : List ℕ) → grant_of f.grants client ≡ o
      → by_grant f report o ≡ Taken ks → without f.grants client ≡ []
  unfolding loss
  sole_left f client report None ks has e = absurd (cc e)
  sole_left f client [] (Some g) ks has e = absurd (cc e)
  sole_left f client (x ∷ xs) (Some g) ks has e =
      one_left f.grants client g
      (one_grant f g.rw (length f.grants == 1) (bearable f (named (x ∷ xs) f.components)) ks e) has

  reports_same : (go : Going) (ks : List ℕ) (cs : List Component) (k : ℕ)
      → (reports_from go ks cs k).file.kept ≡ go.file.kept
  unfolding reports_from
  reports_same go ks [] k = refl
  reports_same go ks (at ∷ cs) k = reports_same (noting_if (among k ks) go (Reported k)) ks cs (k + 1)

  loss_fewer : (go : Going) (client : ℕ) (ks : List ℕ) → without go.file.kept.grants client ≡ []
      → Fewer go.file.kept (ends_grant (takes_loss go ks) client).file.kept
  unfolding takes_loss
  loss_fewer go client ks none =
      let lost : Going =
      keeping go (record go.file.kept { components = lose_from ks go.file.kept.components 0 }) in
      let same = reports_same lost ks go.file.kept.components 0 in
      no_grants go.file.kept (ends_grant (reports_from lost ks go.file.kept.components 0) client).file.kept
      (ap (λ (y : Kept). y.number) same) (ap (λ (y : Kept). without y.grants client) same ∙ none)

  pub return_fewer : (go : Going) (format client : ℕ) (report : List IoErr) (r : Returned)
      → by_grant go.file.kept report (grant_of go.file.kept.grants client) ≡ r
      → Fewer go.file.kept (by_return go format client r).going.file.kept
  return_fewer go format client report NotHeld e = fewer_itself go.file.kept
  return_fewer go format client report Clean e = ends_fewer go client
  return_fewer go format client report (Taken ks) e =
      loss_fewer go client ks
      (sole_left go.file.kept client report (grant_of go.file.kept.grants client) ks refl e)
  return_fewer go format client report TooMany e = fewer_itself go.file.kept
  return_fewer go format client report Fencing e = fence_fewer Revoking format go
