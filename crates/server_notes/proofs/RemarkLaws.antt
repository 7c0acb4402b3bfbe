-- Remarks are read as they were written, and other bodies tell none.
use Rattle.std.proofs.Common.{◌≡◌, ◌<◌, ◌^◌, ℕ, List, [], ◌∷◌, ◌++◌, Some, None, Result, Ok, Err, refl, sym, ap, ◌∙◌, append-nil, arith}
use Rattle.std.proofs.lemmas.Bool.{ne_eqb}
use Rattle.xdr_codec.specs.Items.{u32_item, u64_item}
use Rattle.xdr_codec.specs.Reading.{Rest, ◌>>=◌, end_of}
use Rattle.layout_types.specs.declared.err.LayoutErr.{LayoutErr}
use Rattle.layout_types.specs.Grammar.{list_item, whole}
use Rattle.layout_types.proofs.Steps.{Ends, first, in_parts, last, list_law, u32_law, u64_law}
use Rattle.server_rules.specs.declared.notes.Note.{Note}
use Rattle.server_rules.specs.declared.notes.NoteKind.{NoteKind}
use Rattle.server_rules.specs.declared.notes.NoteKind.TheVariants.{Ready, Fenced, Repaired, Rebuilt, NoDrive, Lost, NoSpace, Audit, Busy, Spent, Reported}
use Rattle.server_notes.specs.declared.remark.Remark.{Remark}
use Rattle.server_notes.specs.declared.remark.Remark.TheVariants.{Asks, Dealt}
use Rattle.server_notes.specs.declared.remark.TheConstants.{NOTED}
use Rattle.server_notes.specs.Reading.{asks_of, audit_in, behind_first, lost_in, no_drive_in, note_in, remark_in, remark_part, repaired_in}
use Rattle.server_notes.specs.Spelling.{KindFits, RemarkFits, kind_item, remark_item}

-- the first number, and what stands behind it
first_again : (rest : List ℕ) (at : ℕ) (r : Remark) (more : List ℕ)
    → ((p : ℕ) → Ends (behind_first (record { left = rest; at = p })) r more)
    → Ends (remark_part (record { left = u32_item NOTED ++ rest; at = at })) r more
unfolding remark_part
first_again rest at r more h = first _ _ _ _ _ u32_law NOTED (omega arith) h

-- what a kind announces, and the note that it makes
then_asks : (file : ℕ) (k : NoteKind) (read : Result (NoteKind × Rest) LayoutErr) (more : List ℕ) → Ends read k more
    → Ends (read >>= asks_of file) (Asks (record { file = file; kind = k })) more
then_asks file k read more h = (h.0, ap (λ (r : Result (NoteKind × Rest) LayoutErr). r >>= asks_of file) h.1)

repaired_again : (stripes short : ℕ) (more : List ℕ) (at : ℕ) → KindFits (Repaired stripes short)
    → Ends (repaired_in (record { left = (u64_item stripes ++ u64_item short) ++ more; at = at })) (Repaired stripes short) more
unfolding repaired_in
repaired_again stripes short more at fits =
    in_parts repaired_in (u64_item stripes ∷ u64_item short ∷ []) at (Repaired stripes short) more
    (first _ _ _ _ _ u64_law stripes fits.0 (λ _. last _ _ _ _ u64_law short fits.1 (λ _. refl)))

no_drive_again : (component : ℕ) (more : List ℕ) (at : ℕ) → component < 2 ^ 32
    → Ends (no_drive_in (record { left = u32_item component ++ more; at = at })) (NoDrive component) more
unfolding no_drive_in
no_drive_again component more at fits = last _ _ _ _ u32_law component fits (λ _. refl)

lost_again : (component : ℕ) (positions : List ℕ) (more : List ℕ) (at : ℕ) → KindFits (Lost component positions)
    → Ends (lost_in (record { left = (u32_item component ++ list_item u32_item positions) ++ more; at = at }))
    (Lost component positions) more
unfolding lost_in
lost_again component positions more at fits =
    in_parts lost_in (u32_item component ∷ list_item u32_item positions ∷ []) at (Lost component positions) more
    (first _ _ _ _ _ u32_law component fits.0 (λ _. last _ _ _ _ (list_law u32_law) positions fits.1 (λ _. refl)))

audit_again : (stripes short bad bytes : ℕ) (more : List ℕ) (at : ℕ) → KindFits (Audit stripes short bad bytes)
    → Ends (audit_in (record {
      left = (u64_item stripes ++ (u64_item short ++ (u64_item bad ++ u64_item bytes))) ++ more;
      at = at;
    })) (Audit stripes short bad bytes) more
unfolding audit_in
audit_again stripes short bad bytes more at fits =
    in_parts audit_in (u64_item stripes ∷ u64_item short ∷ u64_item bad ∷ u64_item bytes ∷ []) at
    (Audit stripes short bad bytes) more
    (first _ _ _ _ _ u64_law stripes fits.0
    (λ _. first _ _ _ _ _ u64_law short fits.1
    (λ _. first _ _ _ _ _ u64_law bad fits.2 (λ _. last _ _ _ _ u64_law bytes fits.3 (λ _. refl)))))

-- the file and the kind, and what the kind announces
kind_again : (file kind : ℕ) (rest : List ℕ) (at : ℕ) (k : NoteKind) (more : List ℕ) → file < 2 ^ 32 → kind < 2 ^ 32
    → ((p q : ℕ) → Ends (note_in p kind (record { left = rest; at = q })) k more) → (kind ≡ 0 → ⊥)
    → Ends (behind_first (record { left = u32_item file ++ (u32_item kind ++ rest); at = at }))
    (Asks (record { file = file; kind = k })) more
unfolding behind_first
kind_again file kind rest at k more low small h some =
    first _ _ _ _ _ u32_law file low
    (λ p. first _ _ _ _ _ u32_law kind small
    (λ q. rw (ne_eqb kind 0 some) (then_asks file k _ more (h p q))))

noted : (file kind : ℕ) (rest : List ℕ) (at : ℕ) (k : NoteKind) (more : List ℕ) → file < 2 ^ 32 → kind < 2 ^ 32
    → (kind ≡ 0 → ⊥) → ((p q : ℕ) → Ends (note_in p kind (record { left = rest ++ more; at = q })) k more)
    → Ends (remark_part (record { left = (u32_item NOTED ++ (u32_item file ++ (u32_item kind ++ rest))) ++ more; at = at }))
    (Asks (record { file = file; kind = k })) more
noted file kind rest at k more low small some h =
    in_parts remark_part (u32_item NOTED ∷ u32_item file ∷ u32_item kind ∷ rest ∷ []) at _ more
    (first_again _ at _ more (λ p. kind_again file kind (rest ++ more) p k more low small h some))

dealt_again : (file : ℕ) (more : List ℕ) (at : ℕ) → file < 2 ^ 32
    → Ends (remark_part (record { left = remark_item (Dealt file) ++ more; at = at })) (Dealt file) more
unfolding behind_first
dealt_again file more at fits =
    in_parts remark_part (u32_item NOTED ∷ u32_item file ∷ u32_item 0 ∷ []) at (Dealt file) more
    (first_again _ at _ more
    (λ _. first _ _ _ _ _ u32_law file fits (λ _. last _ _ _ _ u32_law 0 (omega arith) (λ _. refl))))

kinds_again : (file : ℕ) (k : NoteKind) (more : List ℕ) (at : ℕ) → file < 2 ^ 32 → KindFits k
    → Ends (remark_part (record { left = (u32_item NOTED ++ (u32_item file ++ kind_item k)) ++ more; at = at }))
    (Asks (record { file = file; kind = k })) more
unfolding note_in
kinds_again file (Repaired stripes short) more at low fits =
    noted file 1 (u64_item stripes ++ u64_item short) at _ more low (omega arith) (λ e. absurd (omega (arith, e)))
    (λ p q. repaired_again stripes short more q fits)
kinds_again file (NoDrive component) more at low fits =
    noted file 2 (u32_item component) at _ more low (omega arith) (λ e. absurd (omega (arith, e)))
    (λ p q. no_drive_again component more q fits)
kinds_again file (Lost component positions) more at low fits =
    noted file 3 (u32_item component ++ list_item u32_item positions) at _ more low (omega arith)
    (λ e. absurd (omega (arith, e)))
    (λ p q. lost_again component positions more q fits)
kinds_again file (Audit stripes short bad bytes) more at low fits =
    noted file 4 (u64_item stripes ++ (u64_item short ++ (u64_item bad ++ u64_item bytes))) at _ more low (omega arith)
    (λ e. absurd (omega (arith, e)))
    (λ p q. audit_again stripes short bad bytes more q fits)
kinds_again file Ready more at low fits = absurd fits
kinds_again file (Fenced tag) more at low fits = absurd fits
kinds_again file (Rebuilt component drive) more at low fits = absurd fits
kinds_again file (NoSpace component) more at low fits = absurd fits
kinds_again file (Busy component) more at low fits = absurd fits
kinds_again file Spent more at low fits = absurd fits
kinds_again file (Reported component) more at low fits = absurd fits

remark_again : (r : Remark) (more : List ℕ) (at : ℕ) → RemarkFits r
    → Ends (remark_part (record { left = remark_item r ++ more; at = at })) r more
remark_again (Asks n) more at fits = kinds_again n.file n.kind more at fits.0 fits.1
remark_again (Dealt file) more at fits = dealt_again file more at fits

-- ---- bodies

pub read_again : (r : Remark) → RemarkFits r → remark_in (remark_item r) ≡ Some r
unfolding whole end_of
read_again r fits =
    let a = remark_again r [] 0 fits in
    let same : remark_part (record { left = remark_item r; at = 0 }) ≡ Ok (r, record { left = []; at = a.0 }) =
    ap (λ (t : List ℕ). remark_part (record { left = t; at = 0 })) (sym (append-nil (remark_item r))) ∙ a.1 in
    rw same refl

-- what begins with another number tells none
pub other_first : (n : ℕ) (rest : List ℕ) → n < 2 ^ 32 → (n ≡ NOTED → ⊥) → remark_in (u32_item n ++ rest) ≡ None
unfolding whole remark_part
other_first n rest low other =
    let a = u32_law.again n rest 0 low in rw (a.1, ne_eqb n NOTED other) refl
