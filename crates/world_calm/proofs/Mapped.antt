-- A list whose members become others one after another.
use Rattle.std.proofs.Common.{◌≡◌, ◌<◌, ◌+◌, ℕ, zero, suc, List, [], ◌∷◌, length, map, take, drop, get_or, slice_set, ap, ◌∙◌, arith}

-- those before a place did
pub record Mapped {X : Type 0} (f : X → X) (now old : List X) (i : ℕ) : Type 0 where
  pub front : take i now ≡ map f (take i old)
  pub rest : drop i now ≡ drop i old
  pub long : length now ≡ length old

-- and so does the next
pub mapped_next : {X : Type 0} (f : X → X) (now old : List X) (i : ℕ) (x y : X) → Mapped f now old i → i < length now
    → x ≡ get_or now i x → y ≡ f x → Mapped f (slice_set now i y) old (i + 1)
mapped_next f [] old i x y m l e q = absurd (omega (arith, l))
mapped_next f (n ∷ ns) [] i x y m l e q = absurd (omega (arith, m.long))
mapped_next f (n ∷ ns) (o ∷ os) zero x y m l e q =
    let all : n ∷ ns ≡ o ∷ os = m.rest in
    let head : n ≡ o = cc in
    let tail : ns ≡ os = cc in
    record {
      front = ap (λ z. z ∷ []) (q ∙ ap f (e ∙ head));
      rest = tail;
      long = ap (λ zs. suc (length zs)) tail;
    }
mapped_next f (n ∷ ns) (o ∷ os) (suc i) x y m l e q =
    let all : n ∷ take i ns ≡ f o ∷ map f (take i os) = m.front in
    let head : n ≡ f o = cc in
    let tail : take i ns ≡ map f (take i os) = cc in
    let r : Mapped f (slice_set ns i y) os (i + 1) =
    mapped_next f ns os i x y (record { front = tail; rest = m.rest; long = omega (arith, m.long) })
    (omega (arith, l)) e q in
    let next : suc i + 1 ≡ suc (i + 1) = omega arith in
    rw next (record {
      front = ap (λ z. z ∷ take (i + 1) (slice_set ns i y)) head ∙ ap (λ zs. f o ∷ zs) r.front;
      rest = r.rest;
      long = ap (λ k. suc k) r.long;
    })
