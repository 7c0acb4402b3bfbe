-- What a crash leaves in each of the two steps of an `append`.
use Rattle.std.proofs.Common.{◌≡◌, ◌⊎◌, inl, inr, ℕ, zero, suc, ◌+◌, ◌<◌, min, List, [], ◌∷◌, ◌++◌, length, get_or, take, drop, sym, ◌∙◌, ap, subst, arith, append_assoc, length-append, take-append-drop}
use Rattle.std.proofs.lemmas.List.{take_at, drop_at, drop_more, drop-drop}
use Rattle.osd_disk.specs.Crashes.{Holds, Torn, Follows, Only}
use Rattle.gate_log.specs.declared.entry.TheConstants.{OPEN_GATE}
use Rattle.gate_log.specs.Entries.{pieces_of}
use Rattle.gate_log.specs.Logs.{IsFront, IsLog}
use Rattle.gate_log.specs.Written.{appended, AreBodies}
use Rattle.gate_log.proofs.Fronts.{closed, opened, pieces_gated}

module _ (header : List ℕ) (bodies : List (List ℕ)) (front : List ℕ) (f : IsFront header bodies front) (end : ℕ)
    (place : end ≡ length front) where
  -- ---- the first write

  split : (rest : List ℕ) → front ++ 0 ∷ rest ≡ (front ++ 0 ∷ []) ++ rest
  split rest = sym (append_assoc front (0 ∷ []) rest)

  long : length (front ++ 0 ∷ []) ≡ end + 1
  long = omega (arith, place, length-append front (0 ∷ []))

  -- the closed gate stands in each outcome
  pub torn_behind : (n : ℕ) (rest c : List ℕ) → Torn (end + 1) n (front ++ 0 ∷ rest) c → IsLog header bodies c
  torn_behind n rest c torn =
      let low : end + 1 ≡ min (end + 1) (length (front ++ 0 ∷ rest)) = omega (arith, place, length-append front (0 ∷ rest)) in
      let same : take (end + 1) c ≡ front ++ 0 ∷ [] =
      ap (λ (k : ℕ). take k c) low ∙ torn.before ∙ ap (λ (l : List ℕ). take (end + 1) l) (split rest)
      ∙ take_at (front ++ 0 ∷ []) rest (end + 1) long in
      closed header bodies front f c (drop (end + 1) c)
      (sym (take-append-drop (end + 1) c) ∙ ap (λ (l : List ℕ). l ++ drop (end + 1) c) same
      ∙ append_assoc front (0 ∷ []) (drop (end + 1) c))

  pub written_behind : (piece rest c : List ℕ) → Holds (front ++ 0 ∷ rest) (end + 1) piece c →
      c ≡ front ++ 0 ∷ (piece ++ drop (length piece) rest)
  written_behind piece rest c holds =
      holds
      ∙ ap (λ (l : List ℕ). take (end + 1) l ++ piece ++ drop (end + 1 + length piece) l) (split rest)
      ∙ ap (λ (l : List ℕ). l ++ piece ++ drop (end + 1 + length piece) ((front ++ 0 ∷ []) ++ rest))
      (take_at (front ++ 0 ∷ []) rest (end + 1) long)
      ∙ ap (λ (l : List ℕ). (front ++ 0 ∷ []) ++ piece ++ l) (behind piece rest)
      ∙ append_assoc (front ++ 0 ∷ []) piece (drop (length piece) rest)
      ∙ append_assoc front (0 ∷ []) (piece ++ drop (length piece) rest)
    where
      behind : (p r : List ℕ) → drop (end + 1 + length p) ((front ++ 0 ∷ []) ++ r) ≡ drop (length p) r
      behind p r =
          sym (drop-drop (length p) (end + 1) ((front ++ 0 ∷ []) ++ r))
          ∙ ap (λ (l : List ℕ). drop (length p) l) (drop_at (front ++ 0 ∷ []) r (end + 1) long)

  -- ---- the second

  -- the records stand whole in each outcome
  pub torn_gate : (more : List (List ℕ)) (rest c : List ℕ) → AreBodies more → 0 < length more
      → Torn end 1 (front ++ 0 ∷ (pieces_of more ++ rest)) c → IsLog header bodies c ⊎ IsLog header (bodies ++ more) c
  torn_gate more rest c are some torn =
      let gate = get_or c end 0 in
      let old = front ++ 0 ∷ (pieces_of more ++ rest) in
      let tail : drop (end + 1) old ≡ pieces_of more ++ rest =
      ap (λ (l : List ℕ). drop (end + 1) l) (split (pieces_of more ++ rest))
      ∙ drop_at (front ++ 0 ∷ []) (pieces_of more ++ rest) (end + 1) long in
      let low : end < length c = omega (arith, place, torn.no_shorter, length-append front (0 ∷ (pieces_of more ++ rest))) in
      let back : drop end c ≡ gate ∷ (pieces_of more ++ rest) =
      drop_more c end 0 low ∙ ap (λ (l : List ℕ). gate ∷ l) (torn.behind ∙ tail) in
      let inside : end ≡ min end (length old) = omega (arith, place, length-append front (0 ∷ (pieces_of more ++ rest))) in
      let start : take end c ≡ front =
      ap (λ (k : ℕ). take k c) inside ∙ torn.before ∙ take_at front (0 ∷ (pieces_of more ++ rest)) end (sym place) in
      let is : c ≡ front ++ gate ∷ (pieces_of more ++ rest) =
      sym (take-append-drop end c) ∙ ap (λ (l : List ℕ). l ++ drop end c) start ∙ ap (λ (l : List ℕ). front ++ l) back in
      by_gate gate is
    where
      by_gate : (g : ℕ) → c ≡ front ++ g ∷ (pieces_of more ++ rest) → IsLog header bodies c ⊎ IsLog header (bodies ++ more) c
      by_gate zero is = inl (closed header bodies front f c (pieces_of more ++ rest) is)
      by_gate (suc g) is = inr (opened header bodies front f (suc g) more c rest (omega arith) are some is)

  pub stage_crash : (n : ℕ) (rest : List ℕ) (old new : List ℕ → Type 0) → Only (front ++ 0 ∷ rest) old →
      Follows (Torn (end + 1) n) old new → (c : List ℕ) → new c → IsLog header bodies c
  stage_crash n rest old new only follows c left =
      let from = follows c left in
      torn_behind n rest c (subst (λ f. Torn (end + 1) n f c) (only from.0 from.1) from.2)

  pub gate_crash : (more : List (List ℕ)) (rest : List ℕ) (old new : List ℕ → Type 0) → AreBodies more → 0 < length more →
      Only (front ++ 0 ∷ (pieces_of more ++ rest)) old → Follows (Torn end 1) old new
      → (c : List ℕ) → new c → IsLog header bodies c ⊎ IsLog header (bodies ++ more) c
  gate_crash more rest old new are some only follows c left =
      let from = follows c left in
      torn_gate more rest c are some (subst (λ f. Torn end 1 f c) (only from.0 from.1) from.2)

  pub written_gate : (tail c : List ℕ) → Holds (front ++ 0 ∷ tail) end (OPEN_GATE ∷ []) c → c ≡ front ++ OPEN_GATE ∷ tail
  written_gate tail c holds =
      holds
      ∙ ap (λ (l : List ℕ). l ++ (OPEN_GATE ∷ []) ++ drop (end + 1) (front ++ 0 ∷ tail))
      (take_at front (0 ∷ tail) end (sym place))
      ∙ append_assoc front (OPEN_GATE ∷ []) (drop (end + 1) (front ++ 0 ∷ tail))
      ∙ ap (λ (l : List ℕ). front ++ OPEN_GATE ∷ l)
      (ap (λ (l : List ℕ). drop (end + 1) l) (split tail) ∙ drop_at (front ++ 0 ∷ []) tail (end + 1) long)

  -- where the next closed gate stands
  pub next_place : (more : List (List ℕ)) → 0 < length more → end + length (pieces_of more) ≡ length (front ++ appended more)
  next_place more some =
      omega (
        arith,
        place,
        ap length (pieces_gated more some),
        length-append front (appended more),
        length-append (appended more) (0 ∷ []),
      )
