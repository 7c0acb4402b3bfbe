-- More records at the end of a log's front.
use Rattle.std.proofs.Common.{◌≡◌, ◌<◌, ℕ, List, [], ◌∷◌, ◌++◌, length, refl, sym, ◌∙◌, ap, subst, arith, append_assoc}
use Rattle.std.proofs.lemmas.List.{append-nil}
use Rattle.gate_log.specs.declared.form.Form.TheVariants.{Checked}
use Rattle.gate_log.specs.declared.entry.TheConstants.{OPEN_GATE}
use Rattle.gate_log.specs.Entries.{pieces_of}
use Rattle.gate_log.specs.Forms.{record_of}
use Rattle.gate_log.specs.Logs.{Gated, records_of, IsRecord, AreRecords, bodies_of, IsFront, IsLog}
use Rattle.gate_log.specs.Written.{appended, AreBodies}
use Rattle.gate_log.proofs.Gated.{all_gated, are_gated, bodies_gated, bytes_gated}

records_join : (rs ss : List Gated) → records_of (rs ++ ss) ≡ records_of rs ++ records_of ss
records_join [] ss = refl
records_join (r ∷ rs) ss =
    ap (λ (l : List ℕ). r.gate ∷ (record_of r.form r.body ++ l)) (records_join rs ss)
    ∙ ap (λ (l : List ℕ). r.gate ∷ l) (sym (append_assoc (record_of r.form r.body) (records_of rs) (records_of ss)))

are_join : (rs ss : List Gated) → AreRecords rs → AreRecords ss → AreRecords (rs ++ ss)
are_join [] ss are others = others
are_join (r ∷ rs) ss are others = (are.0, are_join rs ss are.1 others)

bodies_join : (rs ss : List Gated) → bodies_of (rs ++ ss) ≡ bodies_of rs ++ bodies_of ss
bodies_join [] ss = refl
bodies_join (r ∷ rs) ss = ap (λ (l : List (List ℕ)). r.body ∷ l) (bodies_join rs ss)

-- ---- pieces

-- behind an open gate, pieces are the records, and a closed gate behind them
pub pieces_gated : (more : List (List ℕ)) → 0 < length more → OPEN_GATE ∷ pieces_of more ≡ appended more ++ 0 ∷ []
pieces_gated [] some = absurd (omega (arith, some))
pieces_gated (body ∷ others) some =
    ap (λ (l : List ℕ). OPEN_GATE ∷ l) (sym (append_assoc (record_of Checked body) (appended others) (0 ∷ [])))

module _ (header : List ℕ) (bodies : List (List ℕ)) (front : List ℕ) (f : IsFront header bodies front) where
  -- records behind the front make a longer front
  pub front_joins : (rs : List Gated) → AreRecords rs → IsFront header (bodies ++ bodies_of rs) (front ++ records_of rs)
  front_joins rs are = record {
    whole = f.whole;
    records = f.records ++ rs;
    are_records = are_join f.records rs f.are_records are;
    bodies_are = bodies_join f.records rs ∙ ap (λ (l : List (List ℕ)). l ++ bodies_of rs) f.bodies_are;
    front_is = ap (λ (l : List ℕ). l ++ records_of rs) f.front_is
        ∙ append_assoc header (records_of f.records) (records_of rs)
        ∙ ap (λ (l : List ℕ). header ++ l) (sym (records_join f.records rs));
  }

  pub front_grows : (r : Gated) → IsRecord r →
      IsFront header (bodies ++ r.body ∷ []) (front ++ r.gate ∷ record_of r.form r.body)
  front_grows r is = subst (λ (l : List ℕ). IsFront header (bodies ++ r.body ∷ []) (front ++ r.gate ∷ l))
      (append-nil (record_of r.form r.body)) (front_joins (r ∷ []) (is, tt))

  -- and so do records that were appended
  pub front_appended : (more : List (List ℕ)) → AreBodies more → IsFront header (bodies ++ more) (front ++ appended more)
  front_appended more are =
      subst (λ (l : List (List ℕ)). IsFront header (bodies ++ l) (front ++ appended more)) (bodies_gated more)
      (subst (λ (l : List ℕ). IsFront header (bodies ++ bodies_of (all_gated more)) (front ++ l)) (bytes_gated more)
      (front_joins (all_gated more) (are_gated more are)))

  -- a closed gate behind the front ends the log, whatever stands behind it
  pub closed : (c rest : List ℕ) → c ≡ front ++ 0 ∷ rest → IsLog header bodies c
  closed c rest e = record { front = front; is_front = f; rest = rest; contents = e }

  -- a record's bytes behind a gate, with the next gate behind them
  pub regroup : (gate next : ℕ) (bytes rest : List ℕ) →
      front ++ gate ∷ (bytes ++ next ∷ rest) ≡ (front ++ gate ∷ bytes) ++ next ∷ rest
  regroup gate next bytes rest = sym (append_assoc front (gate ∷ bytes) (next ∷ rest))

  -- pieces behind an open gate are records with a closed gate behind them
  pub pieces_behind : (more : List (List ℕ)) (rest : List ℕ) → 0 < length more →
      front ++ OPEN_GATE ∷ (pieces_of more ++ rest) ≡ (front ++ appended more) ++ 0 ∷ rest
  pieces_behind more rest some =
      ap (λ (l : List ℕ). front ++ (l ++ rest)) (pieces_gated more some)
      ∙ ap (λ (l : List ℕ). front ++ l) (append_assoc (appended more) (0 ∷ []) rest)
      ∙ sym (append_assoc front (appended more) (0 ∷ rest))

  -- behind an open gate they are in the log
  pub opened : (gate : ℕ) (more : List (List ℕ)) (c rest : List ℕ) → 0 < gate → AreBodies more → 0 < length more
      → c ≡ front ++ gate ∷ (pieces_of more ++ rest) → IsLog header (bodies ++ more) c
  opened gate [] c rest open_gate are some e = absurd (omega (arith, some))
  opened gate (body ∷ others) c rest open_gate are some e =
      let rs : List Gated = record { gate = gate; form = Checked; body = body } ∷ all_gated others in
      let bytes : records_of rs ≡ gate ∷ (record_of Checked body ++ appended others) =
      ap (λ (l : List ℕ). gate ∷ (record_of Checked body ++ l)) (bytes_gated others) in
      record {
        front = front ++ records_of rs;
        is_front = subst (λ (l : List (List ℕ)). IsFront header (bodies ++ l) (front ++ records_of rs))
            (ap (λ (l : List (List ℕ)). body ∷ l) (bodies_gated others))
            (front_joins rs (record { open_gate = open_gate; is_body = are.0 }, are_gated others are.1));
        rest = rest;
        contents = e
            ∙ ap (λ (l : List ℕ). front ++ gate ∷ (l ++ rest))
            (sym (append_assoc (record_of Checked body) (appended others) (0 ∷ [])))
            ∙ ap (λ (l : List ℕ). front ++ gate ∷ l) (append_assoc (record_of Checked body ++ appended others) (0 ∷ []) rest)
            ∙ regroup gate 0 (record_of Checked body ++ appended others) rest
            ∙ ap (λ (l : List ℕ). (front ++ l) ++ 0 ∷ rest) (sym bytes);
      }
