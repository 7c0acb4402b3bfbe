-- A message that is all of the bytes.
use Rattle.std.proofs.Common.{◌≡◌, ℕ, List, [], ◌++◌, Result, Ok, Err, refl, sym, ap, subst, ◌∙◌, inl, inr}
use Rattle.std.specs.Prelude.{IfOk, OnOk}
use Rattle.std.proofs.lemmas.List.{append-nil}
use Rattle.osd_lists.specs.Blocks.{IsBytes}
use Rattle.xdr_codec.specs.Reading.{Rest, end_of}
use Rattle.xdr_codec.proofs.ItemLaws.{bind_ok, ok_is}
use Rattle.layout_ops.specs.declared.err.OpErr.{OpErr}
use Rattle.layout_ops.specs.declared.envelope.Envelope.{Envelope}
use Rattle.layout_ops.specs.Grammar.{whole, GivesOrMemory}
use Rattle.layout_ops.specs.Spelling.{envelope_item, EnvelopeFits}
use Rattle.layout_ops.specs.Reading.{envelope_in, envelope_of}
use Rattle.layout_types.proofs.Steps.{end_ok}
use Rattle.layout_ops.proofs.Fields.{lifted_ok}
use Rattle.layout_ops.proofs.Codecs.{envelope_codec}

whole_ok : (bytes : List ℕ) (v : Envelope) → envelope_of bytes ≡ Ok v →
    (j : Rest) × (envelope_in (record { left = bytes; at = 0 }) ≡ Ok (v, j)) × (j.left ≡ [])
unfolding envelope_of whole
whole_ok bytes v e =
    let a = bind_ok _ _ v e in
    let b = bind_ok _ _ v a.2 in
    let ended = end_ok a.0.1 b.0 (lifted_ok _ _ b.1) in
    let same : a.0.0 ≡ v = ok_is _ _ b.2 in
    (a.0.1, subst (λ (x : Envelope). envelope_in (record { left = bytes; at = 0 }) ≡ Ok (x, a.0.1)) same a.1, ended)

-- what is spelled so is read
pub all_again : (v : Envelope) → EnvelopeFits v → envelope_of (envelope_item v) ≡ Ok v
unfolding envelope_of whole end_of
all_again v fits =
    let a = envelope_codec.again v [] 0 fits in
    let same : envelope_in (record { left = envelope_item v; at = 0 }) ≡ Ok (v, record { left = []; at = a.0 }) =
    ap (λ (t : List ℕ). envelope_in (record { left = t; at = 0 })) (sym (append-nil (envelope_item v))) ∙ a.1 in
    rw same refl

-- what is read is spelled so
pub all_found : (bytes : List ℕ) → IsBytes bytes → (r : Result Envelope OpErr) → GivesOrMemory (envelope_of bytes) r →
    IfOk r (λ v. EnvelopeFits v × (bytes ≡ envelope_item v))
all_found bytes fits (Ok v) g =
    elim g [
      | inl memory ↦ absurd cc
      | inr same ↦
          let a = whole_ok bytes v (sym same) in
          let f = envelope_codec.found (record { left = bytes; at = 0 }) v a.0 fits a.1 in
          (f.0, f.1 ∙ ap (λ (t : List ℕ). envelope_item v ++ t) a.2 ∙ append-nil (envelope_item v))
    ]
all_found bytes fits (Err e) g = tt

pub all_only : (bytes : List ℕ) (r : Result Envelope OpErr) → GivesOrMemory (envelope_of bytes) r → (v : Envelope) →
    EnvelopeFits v → bytes ≡ envelope_item v → GivesOrMemory (Ok v) r
all_only bytes r g v fits e =
    elim g [
      | inl memory ↦ inl memory
      | inr same ↦ inr (same ∙ ap envelope_of e ∙ all_again v fits)
    ]

-- no spelling begins another
pub all_alone : (bytes : List ℕ) → IsBytes bytes → (r : Result Envelope OpErr) → GivesOrMemory (envelope_of bytes) r →
    IfOk r (λ v. (w : Envelope) (more : List ℕ) → EnvelopeFits w → envelope_item w ≡ bytes ++ more → more ≡ [])
all_alone bytes fits (Ok v) g = λ w more fits_w e.
    let f = all_found bytes fits (Ok v) g in
    let a = envelope_codec.again v more 0 f.0 in
    let b = envelope_codec.again w [] 0 fits_w in
    let one : envelope_in (record { left = envelope_item v ++ more; at = 0 }) ≡ Ok (w, record { left = []; at = b.0 }) =
    ap (λ (t : List ℕ). envelope_in (record { left = t; at = 0 }))
    (ap (λ (t : List ℕ). t ++ more) (sym f.1) ∙ sym e ∙ sym (append-nil (envelope_item w))) ∙ b.1 in
    let both = ok_is (v, record { left = more; at = a.0 }) (w, record { left = []; at = b.0 }) (sym a.1 ∙ one) in
    ap (λ (p : Envelope × Rest). p.1.left) both
all_alone bytes fits (Err e) g = tt

-- what is written is read back
pub all_read_back : {E : Type 0} (v : Envelope) (r : Result (List ℕ) E) → IfOk r (λ b. b ≡ envelope_item v) →
    OnOk r (EnvelopeFits v) → IfOk r (λ b. envelope_of b ≡ Ok v)
all_read_back v (Ok b) e fits = ap envelope_of e ∙ all_again v fits
all_read_back v (Err d) e fits = tt
