-- How an audit goes on from piece to piece.
use Rattle.std.proofs.Common.{◌≡◌, ℕ, List, [], ◌∷◌, Some, None, length, drop, refl, sym, ap, ◌∙◌, inl, inr}
use Rattle.std.specs.Prelude.{Result, Ok, Err, IfOk, slice_get, nat_lt}
use Rattle.std.proofs.lemmas.Bool.{cases_Bool}
use Rattle.osd_lists.specs.declared.memory.Memory.{Memory}
use Rattle.data_map.specs.Striping.{group_of}
use Rattle.server_rules.specs.declared.files.Kept.{Kept}
use Rattle.server_rules.specs.declared.jobs.Piece.{Piece}
use Rattle.server_rules.specs.declared.jobs.Heard.{Heard}
use Rattle.server_rules.specs.declared.jobs.Tally.{Tally}
use Rattle.server_rules.specs.declared.jobs.Awaited.{Awaited}
use Rattle.server_rules.specs.declared.jobs.JobKind.TheVariants.{Auditing}
use Rattle.server_rules.specs.declared.jobs.Work.TheVariants.{Checks}
use Rattle.server_rules.specs.Going.{Going, rests_or}
use Rattle.server_rules.specs.Jobs.{audited_on}
use Rattle.server_rules.specs.Standing.{is_short}
use Rattle.server_rules.specs.Pieces.{reads, stores, short_with}
use Rattle.server_rules.specs.Audit.{audits, checked}
use Rattle.stripe_repair.specs.Repairing.{IsAt}
use Rattle.stripe_repair.specs.Auditing.{AuditState, Inspecting, inspects, inspects_or, rests_auditing, state_of, bad_by}

-- ---- one piece

pub look_past : (f : Kept) (nonce : ℕ) (todo : List Piece) (short : List ℕ) (p : Piece) → slice_get todo 0 ≡ Some p →
    reads f p nonce ≡ [] →
    inspects f nonce (drop 1 todo) (short_with f p short) ≡ inspects f nonce todo short
unfolding inspects
look_past f nonce [] short p e none = absurd (cc e)
look_past f nonce (q ∷ ps) short p e none =
    let same : q ≡ p = cc e in
    rw (same, none) refl

pub look_stops : (f : Kept) (nonce : ℕ) (todo : List Piece) (short : List ℕ) (p : Piece) (cs : List Awaited) →
    slice_get todo 0 ≡ Some p → cs ≡ reads f p nonce → (cs ≡ [] → ⊥) →
    record { todo = todo; short = short_with f p short; reads = cs } ≡ inspects f nonce todo short
unfolding inspects
look_stops f nonce [] short p cs e is some = absurd (cc e)
look_stops f nonce (q ∷ ps) short p [] e is some = absurd (some refl)
look_stops f nonce (q ∷ ps) short p (c ∷ cs) e is some =
    let same : q ≡ p = cc e in
    rw (same, sym is) refl

pub look_ends : (f : Kept) (nonce : ℕ) (todo : List Piece) (short : List ℕ) → slice_get todo 0 ≡ None →
    record { todo = todo; short = short; reads = [] } ≡ inspects f nonce todo short
unfolding inspects
look_ends f nonce [] short e = refl
look_ends f nonce (q ∷ ps) short e = absurd (cc e)

-- ---- the rules

pick : (rs : List Awaited) (todo : List Piece) (short : List ℕ) (later : Inspecting) (g : Going) (t : Tally) (x : Going) →
    x ≡ rests_auditing later.reads g (record { todo = later.todo; tally = record t { short = later.short } }) →
    rests_or rs g Auditing (Checks todo (record t { short = short })) x
    ≡ rests_auditing (inspects_or rs todo short later).reads g
    (record {
      todo = (inspects_or rs todo short later).todo;
      tally =
          record t { short = (inspects_or rs todo short later).short };
    })
pick [] todo short later g t x e = e
pick (c ∷ cs) todo short later g t x e = refl

goes_there : (g : Going) (todo : List Piece) (t : Tally) →
    audits g todo t
    ≡ rests_auditing (inspects g.file.kept g.effects.nonce todo t.short).reads g
    (record {
      todo = (inspects g.file.kept g.effects.nonce todo t.short).todo;
      tally =
          record t { short = (inspects g.file.kept g.effects.nonce todo t.short).short };
    })
unfolding inspects audits
goes_there g [] t = refl
goes_there g (p ∷ ps) t =
    pick (reads g.file.kept p g.effects.nonce) (p ∷ ps) (short_with g.file.kept p t.short)
    (inspects g.file.kept g.effects.nonce ps (short_with g.file.kept p t.short)) g t
    (audits g ps (record t { short = short_with g.file.kept p t.short }))
    (goes_there g ps (record t { short = short_with g.file.kept p t.short }))

pub next_audits : (r : Result (List Awaited) Memory) (f : Kept) (nonce : ℕ) (todo left : List Piece) (t : Tally)
    (marked : List ℕ) →
    IfOk r (λ cs. record { todo = left; short = marked; reads = cs } ≡ inspects f nonce todo t.short) →
    IfOk r (λ cs. (g : Going) → IsAt f nonce g →
    audits g todo t ≡ rests_auditing cs g (record { todo = left; tally = record t { short = marked } }))
next_audits (Ok cs) f nonce todo left t marked e = λ g at.
    goes_there g todo t
    ∙ ap (λ (o : Inspecting). rests_auditing o.reads g (record { todo = o.todo; tally = record t { short = o.short } }))
    (here g at)
  where
    here : (g : Going) → IsAt f nonce g →
        inspects g.file.kept g.effects.nonce todo t.short ≡ record { todo = left; short = marked; reads = cs }
    here g at = rw (at.kept, at.nonce) (sym e)
next_audits (Err x) f nonce todo left t marked e = tt

-- a piece that was read
pub checked_by : (f : Kept) (p : Piece) (heard : List Heard) (t : Tally) →
    checked f p heard t ≡ record t { bad = bad_by (state_of f p heard) p.stripe t.bad }
unfolding checked state_of
checked_by f p heard t = elim (cases_Bool (is_short f.map f.components (group_of f.map p.stripe))) [
  | inl short ↦ rw short refl
  | inr whole ↦ rw whole (elim (cases_Bool (nat_lt 0 (length (stores f p heard 0)))) [
    | inl bad ↦ rw bad refl
    | inr none ↦ rw none refl
  ])
]

pub audited_past : (f : Kept) (nonce : ℕ) (g : Going) (todo : List Piece) (t : Tally) (heard : List Heard) (p : Piece) →
    IsAt f nonce g → slice_get todo 0 ≡ Some p →
    audited_on g todo t heard ≡ audits g (drop 1 todo) (record t { bad = bad_by (state_of f p heard) p.stripe t.bad })
audited_past f nonce g [] t heard p at e = absurd (cc e)
audited_past f nonce g (q ∷ ps) t heard p at e =
    let same : q ≡ p = cc e in
    ap (λ (x : Piece). audits g ps (checked g.file.kept x heard t)) same
    ∙ ap (λ (k : Kept). audits g ps (checked k p heard t)) at.kept
    ∙ ap (λ (u : Tally). audits g ps u) (checked_by f p heard t)

pub audited_ends : (g : Going) (todo : List Piece) (t : Tally) (heard : List Heard) → slice_get todo 0 ≡ None →
    audited_on g todo t heard ≡ audits g todo t
audited_ends g [] t heard e = refl
audited_ends g (q ∷ ps) t heard e = absurd (cc e)

-- what is the same for the rules
pub same_audit : (r : Result (List Awaited) Memory) (f : Kept) (nonce : ℕ) (x y : Going → Going) (s : AuditState) →
    ((g : Going) → IsAt f nonce g → x g ≡ y g) →
    IfOk r (λ cs. (g : Going) → IsAt f nonce g → y g ≡ rests_auditing cs g s) →
    IfOk r (λ cs. (g : Going) → IsAt f nonce g → x g ≡ rests_auditing cs g s)
same_audit (Ok cs) f nonce x y s same e = λ g at. same g at ∙ e g at
same_audit (Err z) f nonce x y s same e = tt
