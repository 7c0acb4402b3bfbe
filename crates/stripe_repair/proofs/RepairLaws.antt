-- How a repair goes on from piece to piece.
use Rattle.std.proofs.Common.{◌≡◌, ◌↔◌, ℕ, true, false, List, [], ◌∷◌, Some, None, drop, refl, sym, ap, ◌∙◌, true≢false}
use Rattle.std.specs.Prelude.{Bool, Result, Ok, Err, IfOk, IsTrue, slice_get}
use Rattle.osd_lists.specs.declared.memory.Memory.{Memory}
use Rattle.server_rules.specs.declared.files.Kept.{Kept}
use Rattle.server_rules.specs.declared.jobs.Piece.{Piece}
use Rattle.server_rules.specs.declared.jobs.Heard.{Heard}
use Rattle.server_rules.specs.declared.jobs.Awaited.{Awaited}
use Rattle.server_rules.specs.declared.jobs.JobKind.{JobKind}
use Rattle.server_rules.specs.declared.jobs.Work.TheVariants.{Fetches}
use Rattle.server_rules.specs.Going.{Going, rests_or}
use Rattle.server_rules.specs.Jobs.{fetched, written, goes_on}
use Rattle.server_rules.specs.Pieces.{stores, short_with}
use Rattle.server_rules.specs.Repair.{repair_reads, repairs, storing}
use Rattle.stripe_repair.specs.declared.repair.Stage.{Stage}
use Rattle.stripe_repair.specs.declared.repair.Stage.TheVariants.{Fetching, Storing}
use Rattle.stripe_repair.specs.Repairing.{Onward, RepairState, goes_to, stops_or, rests_repairing, work_at, IsAt}

-- ---- one piece

pub step_past : (f : Kept) (nonce : ℕ) (todo : List Piece) (short : List ℕ) (p : Piece) → slice_get todo 0 ≡ Some p →
    repair_reads f p nonce ≡ [] →
    goes_to f nonce (drop 1 todo) (short_with f p short) ≡ goes_to f nonce todo short
unfolding goes_to
step_past f nonce [] short p e none = absurd (cc e)
step_past f nonce (q ∷ ps) short p e none =
    let same : q ≡ p = cc e in
    rw (same, none) refl

pub step_stops : (f : Kept) (nonce : ℕ) (todo : List Piece) (short : List ℕ) (p : Piece) (cs : List Awaited) →
    slice_get todo 0 ≡ Some p → cs ≡ repair_reads f p nonce → (cs ≡ [] → ⊥) →
    record { todo = todo; short = short_with f p short; reads = cs } ≡ goes_to f nonce todo short
unfolding goes_to
step_stops f nonce [] short p cs e is some = absurd (cc e)
step_stops f nonce (q ∷ ps) short p [] e is some = absurd (some refl)
step_stops f nonce (q ∷ ps) short p (c ∷ cs) e is some =
    let same : q ≡ p = cc e in
    rw (same, sym is) refl

pub step_ends : (f : Kept) (nonce : ℕ) (todo : List Piece) (short : List ℕ) → slice_get todo 0 ≡ None →
    record { todo = todo; short = short; reads = [] } ≡ goes_to f nonce todo short
unfolding goes_to
step_ends f nonce [] short e = refl
step_ends f nonce (q ∷ ps) short e = absurd (cc e)

-- ---- the rules

pick : (rs : List Awaited) (todo : List Piece) (short : List ℕ) (later : Onward) (g : Going) (kind : JobKind) (x : Going) →
    x ≡ rests_or later.reads g kind (Fetches later.todo later.short) (repairs kind g [] later.short) →
    rests_or rs g kind (Fetches todo short) x
    ≡ rests_or (stops_or rs todo short later).reads g kind
    (Fetches (stops_or rs todo short later).todo (stops_or rs todo short later).short)
    (repairs kind g [] (stops_or rs todo short later).short)
pick [] todo short later g kind x e = e
pick (c ∷ cs) todo short later g kind x e = refl

-- where the rules go
goes_there : (kind : JobKind) (g : Going) (todo : List Piece) (short : List ℕ) →
    repairs kind g todo short
    ≡ rests_or (goes_to g.file.kept g.effects.nonce todo short).reads g kind
    (Fetches (goes_to g.file.kept g.effects.nonce todo short).todo (goes_to g.file.kept g.effects.nonce todo short).short)
    (repairs kind g [] (goes_to g.file.kept g.effects.nonce todo short).short)
unfolding goes_to repairs
goes_there kind g [] short = refl
goes_there kind g (p ∷ ps) short =
    pick (repair_reads g.file.kept p g.effects.nonce) (p ∷ ps) (short_with g.file.kept p short)
    (goes_to g.file.kept g.effects.nonce ps (short_with g.file.kept p short)) g kind
    (repairs kind g ps (short_with g.file.kept p short)) (goes_there kind g ps (short_with g.file.kept p short))

pub goes_by_rules : (f : Kept) (nonce : ℕ) (kind : JobKind) (g : Going) (todo : List Piece) (short : List ℕ) (to : Onward) →
    IsAt f nonce g → to ≡ goes_to f nonce todo short →
    repairs kind g todo short ≡ rests_repairing to.reads g kind (record { todo = to.todo; short = to.short; stage = Fetching })
goes_by_rules f nonce kind g todo short to at e =
    let here : goes_to g.file.kept g.effects.nonce todo short ≡ to = rw (at.kept, at.nonce) (sym e) in
    goes_there kind g todo short
    ∙ ap (λ (o : Onward). rests_or o.reads g kind (Fetches o.todo o.short) (repairs kind g [] o.short)) here

-- ---- rows that are read, and rows that are written

-- the piece has WRITEs
pub fetched_stores : (f : Kept) (nonce : ℕ) (kind : JobKind) (g : Going) (todo : List Piece) (short : List ℕ) (heard : List Heard)
    (p : Piece) (cs : List Awaited) → IsAt f nonce g →
    slice_get todo 0 ≡ Some p → cs ≡ stores f p heard nonce → (cs ≡ [] → ⊥) →
    fetched kind g todo short heard ≡ rests_repairing cs g kind (record { todo = todo; short = short; stage = Storing false })
unfolding storing
fetched_stores f nonce kind g [] short heard p cs at e is some = absurd (cc e)
fetched_stores f nonce kind g (q ∷ ps) short heard p [] at e is some = absurd (some refl)
fetched_stores f nonce kind g (q ∷ ps) short heard p (c ∷ cs) at e is some =
    let same : q ≡ p = cc e in
    let here : stores g.file.kept p heard g.effects.nonce ≡ c ∷ cs = rw (at.kept, at.nonce) (sym is) in
    rw (same, here) refl

-- it has none
pub fetched_past : (f : Kept) (nonce : ℕ) (kind : JobKind) (g : Going) (todo : List Piece) (short : List ℕ) (heard : List Heard)
    (p : Piece) → IsAt f nonce g →
    slice_get todo 0 ≡ Some p → stores f p heard nonce ≡ [] → fetched kind g todo short heard ≡ repairs kind g (drop 1 todo) short
unfolding storing
fetched_past f nonce kind g [] short heard p at e none = absurd (cc e)
fetched_past f nonce kind g (q ∷ ps) short heard p at e none =
    let same : q ≡ p = cc e in
    let here : stores g.file.kept p heard g.effects.nonce ≡ [] = rw (at.kept, at.nonce) none in
    rw (same, here) refl

pub fetched_ends : (kind : JobKind) (g : Going) (todo : List Piece) (short : List ℕ) (heard : List Heard) →
    slice_get todo 0 ≡ None → fetched kind g todo short heard ≡ repairs kind g todo short
fetched_ends kind g [] short heard e = refl
fetched_ends kind g (q ∷ ps) short heard e = absurd (cc e)

pub written_past : (kind : JobKind) (g : Going) (todo : List Piece) (short : List ℕ) →
    written kind g todo short false ≡ repairs kind g (drop 1 todo) short
written_past kind g [] short = refl
written_past kind g (q ∷ ps) short = refl

pub written_again : (kind : JobKind) (g : Going) (todo : List Piece) (short : List ℕ) →
    written kind g todo short true ≡ repairs kind g todo short
written_again kind g [] short = refl
written_again kind g (q ∷ ps) short = refl

-- the job goes on
pub goes_fetched : (kind : JobKind) (g : Going) (todo : List Piece) (short : List ℕ) (heard : List Heard) →
    goes_on kind (work_at Fetching todo short) heard g ≡ fetched kind g todo short heard
unfolding goes_on
goes_fetched kind g todo short heard = refl

pub goes_written : (kind : JobKind) (g : Going) (todo : List Piece) (short : List ℕ) (heard : List Heard) (broken : Bool) →
    goes_on kind (work_at (Storing broken) todo short) heard g ≡ written kind g todo short broken
unfolding goes_on
goes_written kind g todo short heard broken = refl

-- ---- what a call knows

-- whether a list is empty, as its test tells
pub some_of : {A : Type 0} (b : Bool) (xs : List A) → (IsTrue b ↔ (xs ≡ [])) → b ≡ false → xs ≡ [] → ⊥
some_of b xs tells false_there e = true≢false (sym (tells.1 e) ∙ false_there)

pub none_of : {A : Type 0} (b : Bool) (xs : List A) → (IsTrue b ↔ (xs ≡ [])) → b ≡ true → xs ≡ []
none_of b xs tells true_there = tells.0 true_there

pub next_ok : (r : Result (List Awaited) Memory) (f : Kept) (nonce : ℕ) (todo left : List Piece) (short marked : List ℕ) →
    IfOk r (λ cs. record { todo = left; short = marked; reads = cs } ≡ goes_to f nonce todo short) →
    IfOk r (λ cs. (kind : JobKind) (g : Going) → IsAt f nonce g →
    repairs kind g todo short ≡ rests_repairing cs g kind (record { todo = left; short = marked; stage = Fetching }))
next_ok (Ok cs) f nonce todo left short marked e =
    λ kind g at. goes_by_rules f nonce kind g todo short (record { todo = left; short = marked; reads = cs }) at e
next_ok (Err x) f nonce todo left short marked e = tt

-- what is the same for the rules
pub same_ok : (r : Result (List Awaited) Memory) (f : Kept) (nonce : ℕ) (x y : JobKind → Going → Going) (s : RepairState) →
    ((kind : JobKind) (g : Going) → IsAt f nonce g → x kind g ≡ y kind g) →
    IfOk r (λ cs. (kind : JobKind) (g : Going) → IsAt f nonce g → y kind g ≡ rests_repairing cs g kind s) →
    IfOk r (λ cs. (kind : JobKind) (g : Going) → IsAt f nonce g → x kind g ≡ rests_repairing cs g kind s)
same_ok (Ok cs) f nonce x y s same e = λ kind g at. same kind g at ∙ e kind g at
same_ok (Err z) f nonce x y s same e = tt

-- where the job goes on, by its stage
pub at_fetching : (kind : JobKind) (g : Going) (stage : Stage) (todo : List Piece) (short : List ℕ) (heard : List Heard) →
    stage ≡ Fetching → goes_on kind (work_at stage todo short) heard g ≡ fetched kind g todo short heard
at_fetching kind g stage todo short heard e = rw e (goes_fetched kind g todo short heard)

pub at_stored : (kind : JobKind) (g : Going) (stage : Stage) (todo : List Piece) (short : List ℕ) (heard : List Heard)
    (broken : Bool) → stage ≡ Storing broken → broken ≡ false →
    goes_on kind (work_at stage todo short) heard g ≡ repairs kind g (drop 1 todo) short
at_stored kind g stage todo short heard broken e whole =
    rw (e, whole) (goes_written kind g todo short heard false ∙ written_past kind g todo short)

pub at_broken : (kind : JobKind) (g : Going) (stage : Stage) (todo : List Piece) (short : List ℕ) (heard : List Heard)
    (broken : Bool) → stage ≡ Storing broken → broken ≡ true →
    goes_on kind (work_at stage todo short) heard g ≡ repairs kind g todo short
at_broken kind g stage todo short heard broken e again =
    rw (e, again) (goes_written kind g todo short heard true ∙ written_again kind g todo short)
