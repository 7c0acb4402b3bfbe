-- What leaves a file its number, map and size, and gives no grant: all but a LAYOUTGET and a LAYOUTCOMMIT. Grants stay or end.
use Rattle.std.proofs.Common.{◌≡◌, ◌==◌, ℕ, ◌+◌, Bool, true, false, List, [], ◌∷◌, Some, inl, inr, refl, sym, ap, subst, ◌∙◌, if◌then◌else◌}
use Rattle.std.proofs.lemmas.Bool.{cases_eq, eq-eqb, ne_eqb}
use Rattle.server_rules.specs.declared.limits.TheConstants.{GREATEST_TAG}
use Rattle.world_history.specs.ServerNames.{Kept, Component, Grant, JobKind, Revoking, Job, Awaited, Reply, Reported}
use Rattle.server_rules.specs.Grants.{grant_of, without}
use Rattle.server_rules.specs.Jobs.{making, ending, fences, fence_begins, declares}
use Rattle.server_rules.specs.Going.{Going, keeping, noting_if}
use Rattle.server_rules.specs.Laws.{Ran, IsSafe}
use Rattle.server_rules.specs.Numbers.{among}
use Rattle.server_rules.specs.Openings.{is_unsettled, opens_made, opens_fenced, opens}
use Rattle.server_rules.specs.Replies.{hearing, hears}
use Rattle.server_rules.specs.Return.{Returned, NoGrant as NotHeld, Clean, Taken, TooMany, Fencing, ends_grant, reports_from, takes_loss, by_return}
use Rattle.server_rules.specs.Standing.{lose_from}
use Rattle.server_rules.proofs.Runs.{ran_making, ran_fences, ran_declares}
use Rattle.server_rules.proofs.HandlerLaws.{ran_hears}

-- the file goes on with its number, map and size, and with no other grants
pub record Fewer (f k : Kept) : Type 0 where
  pub number : k.number ≡ f.number
  pub map : k.map ≡ f.map
  pub size : k.size ≡ f.size
  pub grants : (client : ℕ) (g : Grant) → grant_of k.grants client ≡ Some g → grant_of f.grants client ≡ Some g

pub fewer_itself : (f : Kept) → Fewer f f
fewer_itself f = record { number = refl; map = refl; size = refl; grants = λ client g e. e }

pub fewer_then : (f k l : Kept) → Fewer f k → Fewer k l → Fewer f l
fewer_then f k l a b = record {
  number = b.number ∙ a.number;
  map = b.map ∙ a.map;
  size = b.size ∙ a.size;
  grants = λ client g e. a.grants client g (b.grants client g e);
}

same_grants : (f k : Kept) → k.number ≡ f.number → k.map ≡ f.map → k.size ≡ f.size → k.grants ≡ f.grants → Fewer f k
same_grants f k number map size same = record {
  number = number;
  map = map;
  size = size;
  grants = λ client g e. ap (λ (gs : List Grant). grant_of gs client) (sym same) ∙ e;
}

no_grants : (f k : Kept) → k.number ≡ f.number → k.map ≡ f.map → k.size ≡ f.size → k.grants ≡ [] → Fewer f k
no_grants f k number map size none = record {
  number = number;
  map = map;
  size = size;
  grants = λ client g e. absurd (cc (ap (λ (gs : List Grant). grant_of gs client) (sym none) ∙ e));
}

ran_fewer : (f : Kept) (go : Going) → Ran f go → Fewer f go.file.kept
ran_fewer f go r = same_grants f go.file.kept r.number r.map r.size r.grants

-- ---- what isn't a request

pub fence_fewer : (kind : JobKind) (format : ℕ) (go : Going)
    → Fewer go.file.kept (fence_begins kind format go).file.kept
unfolding fence_begins
fence_fewer kind format go =
    let r = ran_fences kind (keeping go (ending go.file.kept format)) in
    no_grants go.file.kept (fences kind (keeping go (ending go.file.kept format))).file.kept r.number r.map r.size r.grants

pub declares_fewer : (go : Going) (drive : ℕ) → IsSafe go.file → Fewer go.file.kept (declares go drive).file.kept
declares_fewer go drive s = ran_fewer go.file.kept (declares go drive) (ran_declares go drive s.rests)

pub making_fewer : (go : Going) → Fewer go.file.kept (making go).file.kept
making_fewer go = ran_fewer go.file.kept (making go) (ran_making go)

made_fewer : (go : Going) (ready : Bool) → Fewer go.file.kept (opens_made go ready).file.kept
made_fewer go true = fewer_itself go.file.kept
made_fewer go false = making_fewer go

either_fewer : (f : Kept) (b : Bool) (x y : Going) → Fewer f x.file.kept → Fewer f y.file.kept
    → Fewer f (if b then x else y).file.kept
either_fewer f true x y p q = p
either_fewer f false x y p q = q

fenced_fewer : (format : ℕ) (go : Going) → Fewer go.file.kept (opens_fenced format go).file.kept
unfolding opens_fenced
fenced_fewer format go =
    either_fewer go.file.kept (go.file.kept.tag == GREATEST_TAG) _ _ (fewer_itself go.file.kept)
    (fence_fewer Revoking format go)

pub opens_fewer : (format : ℕ) (go : Going) → Fewer go.file.kept (opens format go).file.kept
unfolding opens
opens_fewer format go =
    either_fewer go.file.kept (is_unsettled go.file.kept) _ _ (fenced_fewer format go)
    (made_fewer go go.file.kept.ready)

-- where the reply is heard, a job runs, beside which no grant is live
pub hears_none : (go : Going) (r : Reply) (j : Job) (a : Awaited) → go.file.job ≡ Some j → IsSafe go.file
    → (hears go j a r (hearing go.file.kept a r)).file.kept.grants ≡ []
hears_none go r j a e s =
    (ran_hears go j a r (hearing go.file.kept a r) (rw e at s.rests) s.rests).grants ∙ (rw e at s.alone)

-- ---- returns

-- a grant that is left was there
pub find_without : (gs : List Grant) (gone client : ℕ) (g : Grant) → grant_of (without gs gone) client ≡ Some g
    → grant_of gs client ≡ Some g
find_without [] gone client g e = e
find_without (x ∷ xs) gone client g e = elim (cases_eq x.client gone) [
  | inl is ↦
      let later : grant_of (without xs gone) client ≡ Some g = rw (eq-eqb x.client gone is) at e in
      elim (cases_eq x.client client) [
        | inl same ↦
            absurd (none xs client
            (subst (λ (n : ℕ). grant_of (without xs n) client ≡ Some g) (sym is ∙ same) later))
        | inr other ↦ rw (ne_eqb x.client client other) (find_without xs gone client g later)
      ]
  | inr other ↦ elim (cases_eq x.client client) [
    | inl same ↦ rw (eq-eqb x.client client same) (rw (ne_eqb x.client gone other, eq-eqb x.client client same) at e)
    | inr not_it ↦
        rw (ne_eqb x.client client not_it)
        (find_without xs gone client g (rw (ne_eqb x.client gone other, ne_eqb x.client client not_it) at e))
  ]
]
  where
    none : (ys : List Grant) (n : ℕ) → grant_of (without ys n) n ≡ Some g → ⊥
    none [] n f = cc f
    none (y ∷ ys) n f = elim (cases_eq y.client n) [
      | inl is ↦ none ys n (rw (eq-eqb y.client n is) at f)
      | inr not_it ↦ none ys n (rw (ne_eqb y.client n not_it, ne_eqb y.client n not_it) at f)
    ]

ends_fewer : (go : Going) (client : ℕ) → Fewer go.file.kept (ends_grant go client).file.kept
ends_fewer go client = record {
  number = refl;
  map = refl;
  size = refl;
  grants = λ c g e. find_without go.file.kept.grants client c g e;
}

reports_fewer : (go : Going) (ks : List ℕ) (cs : List Component) (k : ℕ)
    → Fewer go.file.kept (reports_from go ks cs k).file.kept
unfolding reports_from
reports_fewer go ks [] k = fewer_itself go.file.kept
reports_fewer go ks (at ∷ cs) k = reports_fewer (noting_if (among k ks) go (Reported k)) ks cs (k + 1)

loss_fewer : (go : Going) (ks : List ℕ) → Fewer go.file.kept (takes_loss go ks).file.kept
unfolding takes_loss
loss_fewer go ks =
    let lost : Going =
    keeping go (record go.file.kept { components = lose_from ks go.file.kept.components 0 }) in
    fewer_then go.file.kept lost.file.kept _ (same_grants go.file.kept lost.file.kept refl refl refl refl)
    (reports_fewer lost ks go.file.kept.components 0)

pub return_fewer : (go : Going) (format client : ℕ) (r : Returned)
    → Fewer go.file.kept (by_return go format client r).going.file.kept
return_fewer go format client NotHeld = fewer_itself go.file.kept
return_fewer go format client Clean = ends_fewer go client
return_fewer go format client (Taken ks) =
    fewer_then go.file.kept (takes_loss go ks).file.kept _ (loss_fewer go ks) (ends_fewer (takes_loss go ks) client)
return_fewer go format client TooMany = fewer_itself go.file.kept
return_fewer go format client Fencing = fence_fewer Revoking format go
