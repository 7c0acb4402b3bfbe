-- What the answer to a LAYOUTGET says.
use Rattle.std.proofs.Common.{◌≡◌, ◌<◌, ℕ, ◌+◌, ◌==◌, nat_lt, Bool, true, false, not, List, [], ◌∷◌, Option, Some, None, Result, Ok, Err, length, refl, sym, ap, subst, ◌∙◌, arith, inl, inr, if◌then◌else◌}
use Rattle.std.proofs.lemmas.Bool.{cases_eq, eq-eqb, ne_eqb}
use Rattle.std.proofs.lemmas.Bool.Decides.{nat_tests}
use Rattle.layout_types.specs.declared.err.LayoutErr.{LayoutErr}
use Rattle.layout_types.specs.declared.layout.Layout.{Layout}
use Rattle.layout_types.specs.Grammar.{whole}
use Rattle.layout_types.specs.Reading.{layout_in}
use Rattle.layout_ops.specs.declared.args.Args.{Args}
use Rattle.layout_ops.specs.declared.args.Args.TheVariants as args
use Rattle.layout_ops.specs.declared.results.LayoutSegment.{LayoutSegment}
use Rattle.layout_ops.specs.declared.results.LayoutGetOk.{LayoutGetOk}
use Rattle.layout_ops.specs.declared.statuses.TheConstants.{NFS4_OK, NFS4ERR_NOENT, NFS4ERR_LAYOUTTRYLATER, NFS4ERR_LAYOUTUNAVAILABLE, NFS4ERR_RECALLCONFLICT}
use Rattle.client_rules.specs.declared.limits.TheConstants.{NO_COMPONENT, MAX_TRIES}
use Rattle.world_history.specs.ClientNames.{CallOp, Held, Listed, Reach, Why, Outcome, NoFile, HeldBy, Fencing, Degraded, Spent, Status, Ends, Request, Answer}
use Rattle.client_rules.specs.Calls.{file_of}
use Rattle.client_rules.specs.Grants.{is_for, covers}
use Rattle.client_rules.specs.Requests.{grant_in}
use Rattle.client_rules.specs.Results.{status_of, layouts_in}
use Rattle.client_rules.specs.Layouts.{first_why, fresh, with_listed, unless_why, with_body, reach_of, one_layout, in_layouts, taken}
use Rattle.client_rules.specs.Answers.{busy, unavailable, refused_with}
use Rattle.client_rules.proofs.TakenMaps.{enough_same}
use Rattle.cause_law.specs.Met.{Met, Answered, busy_status, busy_args, busy_in, last_busy, timed_in, given_args, given_in, why_in, status_failure, failure_args}
use Rattle.cause_law.specs.Caused.{failure_of}
use Rattle.cause_law.proofs.Trace.{Works, or_none, refusal_same, beyond_same}

-- ---- a LAYOUTGET

abbrev pub IsGet : Args → Type 0
IsGet (args.LayoutGet x) = Unit {0}
IsGet (args.LayoutCommit x) = ⊥
IsGet (args.LayoutReturn x) = ⊥

pub get_busy : (x : Args) (a : Answer) → IsGet x → busy_args x a ≡ busy_status (status_of a.results) a.detail
get_busy (args.LayoutGet x) a is = refl
get_busy (args.LayoutCommit x) a is = absurd is
get_busy (args.LayoutReturn x) a is = absurd is

pub get_gives : (op : CallOp) (x : Args) (a : Answer) → IsGet x
    → given_args op x a ≡ (if status_of a.results == NFS4_OK then given_in (taken a op) else None)
get_gives op (args.LayoutGet x) a is = refl
get_gives op (args.LayoutCommit x) a is = absurd is
get_gives op (args.LayoutReturn x) a is = absurd is

pub get_fails : (op : CallOp) (x : Args) (a : Answer) (ms : List Met) → IsGet x
    → failure_args op x a ms
    ≡ (if status_of a.results == NFS4_OK then why_in (taken a op) else status_failure (status_of a.results) a.detail)
get_fails op (args.LayoutGet x) a ms is = refl
get_fails op (args.LayoutCommit x) a ms is = absurd is
get_fails op (args.LayoutReturn x) a ms is = absurd is

-- ---- it gives none

-- the call ends with what it says, or asks again
pub data NotGiven (status detail tries : ℕ) : Type 0 where
  Says : (o : Outcome) → refused_with status detail tries ≡ Ends o → busy_status status detail ≡ None
      → status_failure status detail ≡ Some o → failure_of o ≡ Some o → NotGiven status detail tries
  Again : (o : Outcome) → refused_with status detail tries ≡ busy tries o → busy_status status detail ≡ Some o
      → failure_of o ≡ Some o → NotGiven status detail tries

unavailable_fails : (detail : ℕ) → failure_of (unavailable detail) ≡ Some (unavailable detail)
unavailable_fails detail = by_test (detail == NO_COMPONENT)
  where
    by_test : (b : Bool) → failure_of (if b then Spent else Degraded detail) ≡ Some (if b then Spent else Degraded detail)
    by_test true = refl
    by_test false = refl

pub not_given : (status detail tries : ℕ) → NotGiven status detail tries
not_given status detail tries = elim (cases_eq status NFS4ERR_NOENT) [
  | inl is ↦ subst (λ (s : ℕ). NotGiven s detail tries) (sym is) (Says NoFile refl refl refl refl)
  | inr noent ↦ elim (cases_eq status NFS4ERR_LAYOUTTRYLATER) [
    | inl is ↦ subst (λ (s : ℕ). NotGiven s detail tries) (sym is) (Again (HeldBy detail) refl refl refl)
    | inr later ↦ elim (cases_eq status NFS4ERR_RECALLCONFLICT) [
      | inl is ↦ subst (λ (s : ℕ). NotGiven s detail tries) (sym is) (Again (Fencing detail) refl refl refl)
      | inr conflict ↦ elim (cases_eq status NFS4ERR_LAYOUTUNAVAILABLE) [
        | inl is ↦ subst (λ (s : ℕ). NotGiven s detail tries) (sym is)
            (Says (unavailable detail) refl refl refl (unavailable_fails detail))
        | inr lacks ↦
            let a = ne_eqb status NFS4ERR_NOENT noent in
            let b = ne_eqb status NFS4ERR_LAYOUTTRYLATER later in
            let c = ne_eqb status NFS4ERR_RECALLCONFLICT conflict in
            let d = ne_eqb status NFS4ERR_LAYOUTUNAVAILABLE lacks in
            Says (Status status detail) (rw (a, b, c, d) refl) (rw (b, c) refl) (rw (a, b, c, d) refl) refl
      ]
    ]
  ]
]

-- ---- the server is busy

pub first_tries : (tries : ℕ) → nat_lt (tries + 1) MAX_TRIES ≡ true → tries + 1 < 3
first_tries tries is = grind (arith, is, nat_tests)

pub last_try : (tries : ℕ) → tries < 3 → nat_lt (tries + 1) MAX_TRIES ≡ false → tries + 1 ≡ 3
last_try tries less is = grind (arith, less, is, nat_tests)

pub again_count : (r : Request) (a : Answer) (ms : List Met) (o : Outcome) (tries : ℕ) → busy_args r.args a ≡ Some o
    → length (busy_in ms) ≡ tries → length (busy_in (Answered r a ∷ ms)) ≡ tries + 1
unfolding busy_in
again_count r a ms o tries is count = rw is (omega (arith, count))

pub again_works : (op : CallOp) (r : Request) (a : Answer) (ms : List Met) (o : Outcome) (tries : ℕ)
    → length (busy_in ms) ≡ tries → tries + 1 < 3 → Works op ms [] → Works op (Answered r a ∷ ms) []
unfolding last_busy timed_in
again_works op r a ms o tries count less w =
    let other : (length (busy_in ms) + 1 == 3) ≡ false =
    ne_eqb (length (busy_in ms) + 1) 3 (λ (e : length (busy_in ms) + 1 ≡ 3). omega (arith, e, count, less)) in
    record {
      busy = rw other (or_none (last_busy ms) ∙ w.busy);
      refusal = refusal_same r a ms ∙ w.refusal;
      beyond = beyond_same op r a ms ∙ w.beyond;
      silent = w.silent;
    }

pub again_ends : (op : CallOp) (r : Request) (a : Answer) (ms : List Met) (o : Outcome) (tries : ℕ)
    → busy_args r.args a ≡ Some o
    → length (busy_in ms) ≡ tries → tries + 1 ≡ 3 → Works op ms [] → last_busy (Answered r a ∷ ms) ≡ Some o
unfolding last_busy
again_ends op r a ms o tries is count last w =
    let here : (length (busy_in ms) + 1 == 3) ≡ true =
    eq-eqb (length (busy_in ms) + 1) 3 (ap (λ (n : ℕ). n + 1) count ∙ last) in
    rw (here, w.busy, is) refl

-- ---- it gives one

none_first : (a : Bool) (v : Why) (rest : Option Why) → (if not a then Some v else rest) ≡ None → a ≡ true
none_first true v rest n = refl
none_first false v rest n = absurd (cc n)

for_it : (g : Reach) (size : ℕ) (op : CallOp) (l : Layout) → first_why g size op l ≡ None → is_for g size op ≡ true
unfolding first_why
for_it g size op l e = none_first (is_for g size op) _ _ e

-- the grant is on the call's file, and covers it
abbrev Covers : CallOp → Held → Type 0
Covers op h = (h.file ≡ file_of op) × (covers h op ≡ true)

listed_covers : (a : Answer) (n : ℕ) (op : CallOp) (g : Reach) (l : Layout) (o : Option (List Listed)) (h : Held)
    → is_for g a.size op ≡ true → with_listed a n op g l o ≡ Ok h → Covers op h
unfolding covers
listed_covers a n op g l None h is e = absurd (cc e)
listed_covers a n op g l (Some ls) h is e =
    let same : h ≡ fresh (file_of op) n a.size g l.olo_map ls =
    enough_same (fresh (file_of op) n a.size g l.olo_map ls) h op e in
    subst (Covers op) (sym same) (refl, is)

why_covers : (a : Answer) (n : ℕ) (op : CallOp) (g : Reach) (l : Layout) (w : Option Why) (h : Held)
    → (w ≡ None → is_for g a.size op ≡ true) → unless_why a n op g l w ≡ Ok h → Covers op h
why_covers a n op g l (Some w) h is e = absurd (cc e)
why_covers a n op g l None h is e = listed_covers a n op g l _ h (is refl) e

body_covers : (a : Answer) (n : ℕ) (op : CallOp) (g : Reach) (r : Result Layout LayoutErr) (h : Held)
    → with_body a n op g r ≡ Ok h → Covers op h
body_covers a n op g (Err x) h e = absurd (cc e)
body_covers a n op g (Ok l) h e =
    why_covers a n op g l (first_why g a.size op l) h (λ none. for_it g a.size op l none) e

one_covers : (a : Answer) (n : ℕ) (op : CallOp) (gs : List LayoutSegment) (h : Held) → one_layout a n op gs ≡ Ok h
    → Covers op h
one_covers a n op [] h e = absurd (cc e)
one_covers a n op (g ∷ []) h e = body_covers a n op (reach_of a.size op g) (whole layout_in g.body) h e
one_covers a n op (g ∷ f ∷ gs) h e = absurd (cc e)

in_covers : (a : Answer) (op : CallOp) (o : Option LayoutGetOk) (h : Held) → in_layouts a op o ≡ Ok h → Covers op h
in_covers a op None h e = absurd (cc e)
in_covers a op (Some ok) h e = one_covers a (grant_in ok.stateid) op ok.layouts h e

pub taken_covers : (a : Answer) (op : CallOp) (h : Held) → taken a op ≡ Ok h → Covers op h
unfolding taken
taken_covers a op h e = in_covers a op (layouts_in a.results) h e
