-- Logs of which each record was appended.
use Rattle.std.proofs.Common.{◌≡◌, ℕ, List, [], ◌∷◌, ◌++◌, length, refl, sym, ◌∙◌, ap, arith, append_assoc, length-append}
use Rattle.gate_log.specs.declared.entry.TheConstants.{OPEN_GATE}
use Rattle.gate_log.specs.declared.form.Form.TheVariants.{Checked}
use Rattle.gate_log.specs.Forms.{record_of}
use Rattle.gate_log.specs.Logs.{Gated, records_of, AreRecords, bodies_of, IsFront}
use Rattle.gate_log.specs.Written.{appended, AreBodies, IsAppended}
use Rattle.gate_log.proofs.Gated.{all_gated, are_gated, bodies_gated, bytes_gated}
use Rattle.gate_log.proofs.OneLog.{one_list, one_split}

front_of : (header : List ℕ) (bodies : List (List ℕ)) (c : List ℕ) → IsAppended header bodies c →
    IsFront header bodies (header ++ appended bodies)
front_of header bodies c was = record {
  whole = was.whole;
  records = all_gated bodies;
  are_records = are_gated bodies was.are_bodies;
  bodies_are = bodies_gated bodies;
  front_is = ap (λ (l : List ℕ). header ++ l) (sym (bytes_gated bodies));
}

-- records that were appended are the bodies that are read
pub same_list : (bodies : List (List ℕ)) (ss : List Gated) (x y : List ℕ) → AreBodies bodies → AreRecords ss
    → appended bodies ++ 0 ∷ x ≡ records_of ss ++ 0 ∷ y → bodies_of ss ≡ bodies
same_list bodies ss x y are others e =
    sym (one_list (all_gated bodies) ss x y (are_gated bodies are) others
    (ap (λ (l : List ℕ). l ++ 0 ∷ x) (bytes_gated bodies) ∙ e)).0
    ∙ bodies_gated bodies

-- ---- one front

-- contents have one front
one_front : (header : List ℕ) (bodies others : List (List ℕ)) (front other rest behind c : List ℕ) →
    IsFront header bodies front → IsFront header others other
    → c ≡ front ++ 0 ∷ rest → c ≡ other ++ 0 ∷ behind → front ≡ other
one_front header bodies others front other rest behind c f g one two =
    let first : c ≡ header ++ (records_of f.records ++ 0 ∷ rest) =
    one ∙ ap (λ (l : List ℕ). l ++ 0 ∷ rest) f.front_is ∙ append_assoc header (records_of f.records) (0 ∷ rest) in
    let second : c ≡ header ++ (records_of g.records ++ 0 ∷ behind) =
    two ∙ ap (λ (l : List ℕ). l ++ 0 ∷ behind) g.front_is ∙ append_assoc header (records_of g.records) (0 ∷ behind) in
    let parts = one_split header header _ _ refl (sym first ∙ second) in
    let rests = (one_list f.records g.records rest behind f.are_records g.are_records parts.1).1 in
    let long : length front ≡ length other =
    omega (
      arith,
      ap length one,
      ap length two,
      ap length rests,
      length-append front (0 ∷ rest),
      length-append other (0 ∷ behind),
    ) in
    (one_split front other (0 ∷ rest) (0 ∷ behind) long (sym one ∙ two)).0

-- ---- more records

pub appended_more : (bodies more : List (List ℕ)) → appended (bodies ++ more) ≡ appended bodies ++ appended more
appended_more [] more = refl
appended_more (body ∷ bodies) more =
    ap (λ (l : List ℕ). OPEN_GATE ∷ (record_of Checked body ++ l)) (appended_more bodies more)
    ∙ ap (λ (l : List ℕ). OPEN_GATE ∷ l) (sym (append_assoc (record_of Checked body) (appended bodies) (appended more)))

pub bodies_more : (bodies more : List (List ℕ)) → AreBodies bodies → AreBodies more → AreBodies (bodies ++ more)
bodies_more [] more are others = others
bodies_more (body ∷ bodies) more are others = (are.0, bodies_more bodies more are.1 others)

pub appended_grows : (header : List ℕ) (bodies more : List (List ℕ)) (old new front rest tail : List ℕ)
    → IsFront header bodies front → old ≡ front ++ 0 ∷ rest → AreBodies more
    → new ≡ (front ++ appended more) ++ 0 ∷ tail → IsAppended header bodies old → IsAppended header (bodies ++ more) new
appended_grows header bodies more old new front rest tail f was are now a =
    let same : front ≡ header ++ appended bodies =
    one_front header bodies bodies front (header ++ appended bodies) rest a.rest old f (front_of header bodies old a) was
    (a.contents ∙ sym (append_assoc header (appended bodies) (0 ∷ a.rest))) in
    record {
      whole = a.whole;
      are_bodies = bodies_more bodies more a.are_bodies are;
      rest = tail;
      contents = now
          ∙ ap (λ (l : List ℕ). (l ++ appended more) ++ 0 ∷ tail) same
          ∙ ap (λ (l : List ℕ). l ++ 0 ∷ tail) (append_assoc header (appended bodies) (appended more))
          ∙ ap (λ (l : List ℕ). (header ++ l) ++ 0 ∷ tail) (sym (appended_more bodies more))
          ∙ append_assoc header (appended (bodies ++ more)) (0 ∷ tail);
    }

pub none_appended : (header c rest : List ℕ) → length header ≡ 24 → c ≡ header ++ 0 ∷ rest → IsAppended header [] c
none_appended header c rest whole is = record { whole = whole; are_bodies = tt; rest = rest; contents = is }
