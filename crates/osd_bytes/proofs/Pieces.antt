-- What a search for the newline tells of bytes read ahead.
use Rattle.std.proofs.Common.{◌≡◌, ℕ, zero, suc, ◌+◌, ◌<◌, ◌≤◌, List, [], ◌∷◌, ◌++◌, length, take, drop, min, true, false, None, Some, sym, ap, subst, ◌∙◌, arith, le_refl, take_all}
use Rattle.std.proofs.lemmas.Bool.{eqb-true, false_from_ne_true}
use Rattle.std.proofs.lemmas.List.{append-nil, length-append, length-take, length-take-le, take-append-drop, take-append-le, take_more}
use Rattle.std.proofs.Math.Seq.{drop-append_seam}
use Rattle.memchr.specs.Find.{IsFirstByte, Nowhere, Passes, is_byte}
use Rattle.osd_bytes.specs.Lines.{NoNewline, TakesPiece}
use Rattle.osd_bytes.specs.declared.lines.TheConstants.{MAX_LINE}

quiet_upto : (xs : List ℕ) (n : ℕ) → Nowhere (Passes (is_byte 10) xs) 0 n → n ≤ length xs → NoNewline (take n xs)
quiet_upto xs zero none le = tt
quiet_upto [] (suc n) none le = tt
quiet_upto (x ∷ xs) (suc n) none le = (
  false_from_ne_true _ (none 0 (omega arith) (omega arith)),
  quiet_upto xs n (λ k low high. none (suc k) (omega arith) (omega arith)) (omega arith),
)

-- what a newline among the first bytes ends
pub takes_newline : (line line' ahead front ahead' : List ℕ) (taken most k : ℕ) → front ≡ take most ahead →
    IsFirstByte (is_byte 10) front (Some k)
    → line' ≡ line ++ take k front → ahead' ≡ drop (k + 1) ahead → length line + most ≤ MAX_LINE + 1
    → TakesPiece line line' ahead ahead' taken (taken + (k + 1)) true
takes_newline line line' ahead front ahead' taken most k is found grown left room =
    let first = found.0 in
    let whole : ahead ≡ front ++ drop most ahead =
    sym (take-append-drop most ahead) ∙ ap (λ (t : List ℕ). t ++ drop most ahead) (sym is) in
    let through : take (k + 1) ahead ≡ take k front ++ 10 ∷ [] =
    ap (take (k + 1)) whole
    ∙ take-append-le (k + 1) front (drop most ahead) (omega (arith, first.high))
    ∙ take_more front k 0 first.high
    ∙ ap (λ (x : ℕ). take k front ++ x ∷ []) (eqb-true _ 10 found.1) in
    let short : length (take k front) ≡ k = length-take-le k front (omega (arith, first.high)) in
    let came : length (take k front ++ 10 ∷ []) ≡ k + 1 = length-append (take k front) (10 ∷ []) ∙ ap (λ (n : ℕ). n + 1) short in
    let long : length (line' ++ 10 ∷ []) ≡ length line + k + 1 =
    length-append line' (10 ∷ [])
    ∙ ap (λ (n : ℕ). n + 1) (ap length grown ∙ length-append line (take k front) ∙ ap (λ (n : ℕ). length line + n) short) in
    let within : length front ≤ most = omega (arith, ap length is, length-take most ahead) in
    record {
      piece = take k front;
      quiet = quiet_upto front k first.before (omega (arith, first.high));
      grown = grown;
      bytes = sym (take-append-drop (k + 1) ahead) ∙ ap (λ (t : List ℕ). t ++ drop (k + 1) ahead) through
          ∙ ap (λ (t : List ℕ). (take k front ++ 10 ∷ []) ++ t) (sym left);
      count = ap (λ (n : ℕ). taken + n) (sym came);
      some = omega (arith, came);
      fits = omega (arith, long, first.high, within, room);
    }

-- first bytes with no newline
pub takes_all : (line line' ahead front ahead' : List ℕ) (taken most : ℕ) → front ≡ take most ahead →
    IsFirstByte (is_byte 10) front None
    → line' ≡ line ++ front → ahead' ≡ drop (length front) ahead → length line + most ≤ MAX_LINE + 1 → 0 < most → 0 < length ahead
    → TakesPiece line line' ahead ahead' taken (taken + length front) false
takes_all line line' ahead front ahead' taken most is none grown left room some more =
    let whole : ahead ≡ front ++ drop most ahead =
    sym (take-append-drop most ahead) ∙ ap (λ (t : List ℕ). t ++ drop most ahead) (sym is) in
    let behind : drop (length front) ahead ≡ drop most ahead =
    ap (drop (length front)) whole ∙ drop-append_seam front (drop most ahead) in
    let count : length front ≡ min most (length ahead) = ap length is ∙ length-take most ahead in
    let long : length line' ≡ length line + length front = ap length grown ∙ length-append line front in
    record {
      piece = front;
      quiet = subst NoNewline (take_all (length front) front (le_refl (length front)))
          (quiet_upto front (length front) none (le_refl (length front)));
      grown = grown;
      bytes = whole ∙ ap (λ (t : List ℕ). t ++ drop most ahead) (sym (append-nil front))
          ∙ ap (λ (t : List ℕ). (front ++ []) ++ t) (sym behind ∙ sym left);
      count = ap (λ (t : List ℕ). taken + length t) (sym (append-nil front));
      some = omega (arith, ap length (append-nil front), count);
      fits = omega (arith, ap length (append-nil line'), long, count, room);
    }
