-- One record more behind others that are added together.
use Rattle.std.proofs.Common.{◌≡◌, ℕ, ◌-◌, ◌<◌, List, [], ◌∷◌, ◌++◌, length, sym, ◌∙◌, ap, arith, append_assoc, length-append}
use Rattle.std.specs.Prelude.{slice_set}
use Rattle.std.proofs.lemmas.List.{append-nil, set-append_right}
use Rattle.gate_log.specs.declared.entry.TheConstants.{OPEN_GATE}
use Rattle.gate_log.specs.declared.form.Form.TheVariants.{Checked}
use Rattle.gate_log.specs.Entries.{piece_of, pieces_of}
use Rattle.gate_log.specs.Forms.{IsBody, record_of}
use Rattle.gate_log.specs.Written.{appended, AreBodies}
use Rattle.gate_log.proofs.Appended.{appended_more, bodies_more}

pub are_joined : (bodies : List (List ℕ)) (body : List ℕ) → AreBodies bodies → IsBody body → AreBodies (bodies ++ body ∷ [])
are_joined bodies body are is = bodies_more bodies (body ∷ []) are (is, tt)

-- behind none
pub first_joins : (bodies : List (List ℕ)) (body pieces : List ℕ) → pieces ≡ pieces_of bodies → length pieces ≡ 0 →
    pieces ++ piece_of body ≡ pieces_of (bodies ++ body ∷ [])
first_joins [] body pieces is none = ap (λ (l : List ℕ). l ++ piece_of body) is
first_joins (first ∷ others) body pieces is none =
    absurd (omega (
      arith,
      none,
      ap length is,
      length-append (record_of Checked first) (appended others ++ 0 ∷ []),
      length-append (appended others) (0 ∷ []),
    ))

-- behind others, of which the last gate is opened
pub next_joins : (bodies : List (List ℕ)) (body pieces : List ℕ) → pieces ≡ pieces_of bodies → 0 < length pieces →
    slice_set (pieces ++ piece_of body) (length pieces - 1) OPEN_GATE ≡ pieces_of (bodies ++ body ∷ [])
next_joins [] body pieces is some = absurd (omega (arith, some, ap length is))
next_joins (first ∷ others) body pieces is some =
    let front = record_of Checked first ++ appended others in
    let parts : pieces ≡ front ++ 0 ∷ [] = is ∙ sym (append_assoc (record_of Checked first) (appended others) (0 ∷ [])) in
    let here : (length pieces - 1) - (length pieces - 1) ≡ 0 = omega arith in
    let long : length front ≡ length pieces - 1 = omega (arith, ap length parts, length-append front (0 ∷ [])) in
    ap (λ (l : List ℕ). slice_set l (length pieces - 1) OPEN_GATE)
    (ap (λ (l : List ℕ). l ++ piece_of body) parts ∙ append_assoc front (0 ∷ []) (piece_of body))
    ∙ set-append_right front (0 ∷ piece_of body) (length pieces - 1) (length pieces - 1) OPEN_GATE long (omega arith)
    ∙ ap (λ (n : ℕ). front ++ slice_set (0 ∷ piece_of body) n OPEN_GATE) here
    ∙ append_assoc (record_of Checked first) (appended others) (OPEN_GATE ∷ piece_of body)
    ∙ ap (λ (l : List ℕ). record_of Checked first ++ l) (rest others)
  where
    rest : (bs : List (List ℕ)) → appended bs ++ OPEN_GATE ∷ piece_of body ≡ appended (bs ++ body ∷ []) ++ 0 ∷ []
    rest bs =
        ap (λ (l : List ℕ). appended bs ++ OPEN_GATE ∷ l)
        (ap (λ (l : List ℕ). l ++ 0 ∷ []) (sym (append-nil (record_of Checked body))))
        ∙ sym (append_assoc (appended bs) (OPEN_GATE ∷ (record_of Checked body ++ [])) (0 ∷ []))
        ∙ ap (λ (l : List ℕ). l ++ 0 ∷ []) (sym (appended_more bs (body ∷ [])))
