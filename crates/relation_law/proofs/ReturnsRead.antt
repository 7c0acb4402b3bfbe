-- What the server finds in a report that it reads.
-- Towards `ReturnsAreRight` (`specs/KeptFollows.antt`).
use Rattle.std.proofs.Common.{◌≡◌, ◌≤◌, ℕ, suc, List, [], ◌∷◌, Result, Ok, Err, Some, length, refl, sym, ap, subst, ◌∙◌, arith}
use Rattle.std.specs.List.{flat_map}
use Rattle.xdr_codec.specs.Reading.{Rest, end_of}
use Rattle.xdr_codec.proofs.ItemLaws.{bind_ok, ok_is}
use Rattle.layout_types.specs.declared.err.LayoutErr.{LayoutErr}
use Rattle.layout_types.specs.declared.ioerrs.IoErr.{IoErr}
use Rattle.layout_types.specs.declared.ioerrs.IoErrs.{IoErrs}
use Rattle.layout_types.specs.Grammar.{whole, lifted, list_item, list_part, count_part, members}
use Rattle.layout_types.specs.Reading.{ioerr_in, ioerrs_in}
use Rattle.layout_types.specs.Spelling.{ioerr_item, ioerrs_item}
use Rattle.layout_types.proofs.Steps.{count_law}
use Rattle.server_rules.specs.Envelopes.{return_in}
use Rattle.world_history.specs.ServerNames.{Return as Returns}
use Rattle.cause_law.proofs.Lengths.{ReportShort}
use Rattle.cause_law.proofs.Reported.{as_errors, read_whole}
use Rattle.relation_law.specs.Returns.{report_read}

-- what the server reads of a report that is short
pub read_report : (es report : List IoErr) → ReportShort es
    → return_in (whole ioerrs_in (ioerrs_item (as_errors es))) ≡ Some (Returns report) → report ≡ report_read es
read_report es report s e =
    let told : Some (Returns (report_read es)) ≡ Some (Returns report) = sym (ap return_in (read_whole es s)) ∙ e in
    sym (cc told)

-- ---- a report of something is one

not_empty : (n : ℕ) (i : Rest) (x : List IoErr × Rest) → members ioerr_in (suc n) i ≡ Ok x → x.0 ≡ [] → ⊥
unfolding members
not_empty n i x e none =
    let v = bind_ok (ioerr_in i) _ x e in
    let vs = bind_ok (members ioerr_in n v.0.1) _ x v.2 in
    let same : v.0.0 ∷ vs.0.0 ≡ x.0 = ap (λ (y : List IoErr × Rest). y.0) (ok_is _ x vs.2) in
    cc (same ∙ none)

some_read : (e : IoErr) (es : List IoErr) → length (e ∷ es) ≤ 64 → (u : IoErrs)
    → whole ioerrs_in (ioerrs_item (as_errors (e ∷ es))) ≡ Ok u → u.olr_ioerr_report ≡ [] → ⊥
unfolding whole ioerrs_in list_part list_item
some_read e es few u read none =
    let all = bind_ok (ioerrs_in (record { left = ioerrs_item (as_errors (e ∷ es)); at = 0 })) _ u read in
    let ended = bind_ok (lifted (end_of all.0.1)) (λ z. Ok all.0.0) u all.2 in
    let its : all.0.0 ≡ u = ok_is all.0.0 u ended.2 in
    let list = bind_ok (list_part ioerr_in (record { left = ioerrs_item (as_errors (e ∷ es)); at = 0 })) _ all.0 all.1 in
    let report : list.0.0 ≡ all.0.0.olr_ioerr_report =
    ap (λ (y : IoErrs × Rest). y.0.olr_ioerr_report) (ok_is _ all.0 list.2) in
    let count = bind_ok (count_part (record { left = ioerrs_item (as_errors (e ∷ es)); at = 0 })) _ list.0 list.1 in
    let known = count_law.again (length (e ∷ es)) (flat_map ioerr_item (e ∷ es)) 0 (omega (arith, few)) in
    let same : count.0.0 ≡ suc (length es) =
    ap (λ (y : ℕ × Rest). y.0) (ok_is count.0 _ (sym count.1 ∙ known.1)) in
    not_empty (length es) count.0.1 list.0 (subst (λ (n : ℕ). members ioerr_in n count.0.1 ≡ Ok list.0) same count.2)
    (report ∙ ap (λ (y : IoErrs). y.olr_ioerr_report) its ∙ none)

-- what the server reads of a report with an entry has one
pub read_some : (e : IoErr) (es report : List IoErr) → length (e ∷ es) ≤ 64
    → return_in (whole ioerrs_in (ioerrs_item (as_errors (e ∷ es)))) ≡ Some (Returns report) → report ≡ [] → ⊥
read_some e es report few told none = by (whole ioerrs_in (ioerrs_item (as_errors (e ∷ es)))) refl told
  where
    by : (r : Result IoErrs LayoutErr) → whole ioerrs_in (ioerrs_item (as_errors (e ∷ es))) ≡ r
        → return_in r ≡ Some (Returns report) → ⊥
    by (Err x) is t = cc t
    by (Ok u) is t =
        let same : u.olr_ioerr_report ≡ report = cc t in some_read e es few u is (same ∙ none)
