-- The place of a command that is found.
use Rattle.std.specs.Prelude.{ℕ, Bool, true, List, [], ◌∷◌, Some, ◌≡◌, ◌<◌, slice_get, set, length, take, drop, map, find, suc, refl, ◌+◌, ◌==◌}
use Rattle.std.proofs.Common.{arith, eq-eqb, ap, sym, ◌∙◌, ◌++◌, get_or, drop-cons}
use Rattle.std.proofs.lemmas.List.{take_more, take_more_set, drop_more, drop-set-lt, map_more}
use Rattle.std.proofs.lemmas.Option.{get_or_from_slice_get}
use Rattle.osd_commands.specs.declared.replies.Reply.{Reply}
use Rattle.server_rules.specs.declared.jobs.Awaited.{Awaited}
use Rattle.server_rules.specs.Replies.{answers}

-- where the rest begins with one that passes, it is found there
pub found_at : {A : Type 0} (p : A → Bool) (xs : List A) (i : ℕ) (x : A) → i < length xs → x ≡ get_or xs i x → p x ≡ true →
    find p (drop i xs) ≡ Some x
found_at p xs i x l is t =
    let d : drop i xs ≡ x ∷ drop (suc i) xs = drop-cons xs i x l ∙ ap (λ y. y ∷ drop (suc i) xs) (sym is) in
    rw d (rw t refl)

both_more : {A : Type 0} (now old : List A) (i : ℕ) (x : A) → drop i now ≡ drop i old → length now ≡ length old → i < length old →
    get_or now i x ∷ drop (i + 1) now ≡ get_or old i x ∷ drop (i + 1) old
both_more now old i x rest long l = sym (drop_more now i x (omega (arith, l, long))) ∙ rest ∙ drop_more old i x l

rest_more : {A : Type 0} (now old : List A) (i : ℕ) (x : A) → drop i now ≡ drop i old → length now ≡ length old → i < length old →
    drop (i + 1) now ≡ drop (i + 1) old
rest_more now old i x rest long l = ap (drop 1) (both_more now old i x rest long l)

same_at : {A : Type 0} (now old : List A) (i : ℕ) (x : A) → drop i now ≡ drop i old → length now ≡ length old → i < length old →
    slice_get now i ≡ Some x → x ≡ get_or old i x
same_at now old i x rest long l g =
    sym (get_or_from_slice_get now i x x g) ∙ ap (λ zs. get_or zs 0 x) (both_more now old i x rest long l)

-- one more place of a list in which members are replaced
pub renewed_here : {A : Type 0} (f : A → A) (now old : List A) (i : ℕ) (x y : A) → take i now ≡ map f (take i old) →
    drop i now ≡ drop i old → length now ≡ length old → i < length old →
    slice_get now i ≡ Some x → f x ≡ y →
    (take (i + 1) (set now i y) ≡ map f (take (i + 1) old)) × (drop (i + 1) (set now i y) ≡ drop (i + 1) old)
renewed_here f now old i x y front rest long l g e =
    let n : i < length now = omega (arith, l, long) in (
      take_more_set now i y n ∙ ap (λ zs. zs ++ (y ∷ [])) front
          ∙ ap (λ z. map f (take i old) ++ (z ∷ [])) (sym e ∙ ap f (same_at now old i x rest long l g))
          ∙ sym (map_more f old i x l),
      drop-set-lt (i + 1) now i y (omega arith) ∙ rest_more now old i x rest long l,
    )

pub renewed_not : {A : Type 0} (f : A → A) (now old : List A) (i : ℕ) (x : A) → take i now ≡ map f (take i old) →
    drop i now ≡ drop i old → length now ≡ length old → i < length old →
    slice_get now i ≡ Some x → f x ≡ x →
    (take (i + 1) now ≡ map f (take (i + 1) old)) × (drop (i + 1) now ≡ drop (i + 1) old)
renewed_not f now old i x front rest long l g e =
    let n : i < length now = omega (arith, l, long) in (
      take_more now i x n ∙ ap (λ zs. zs ++ (get_or now i x ∷ [])) front
          ∙ ap (λ z. map f (take i old) ++ (z ∷ []))
          (get_or_from_slice_get now i x x g ∙ sym e ∙ ap f (same_at now old i x rest long l g)) ∙ sym (map_more f old i x l),
      rest_more now old i x rest long l,
    )

-- the command at a place answers the reply, read twice
pub passes : (drive : ℕ) (r : Reply) (cs : List Awaited) (i : ℕ) (x y : Awaited) → i < length cs → x ≡ get_or cs i x →
    y ≡ get_or cs i y →
    (get_or cs i x).command.nonce ≡ r.nonce → (get_or cs i y).drive ≡ drive → answers drive r x ≡ true
passes drive r cs i x y l a b n d =
    let u : (x.command.nonce == r.nonce) ≡ true = eq-eqb _ _ (ap (λ (z : Awaited). z.command.nonce) a ∙ n) in
    let v : (x.drive == drive) ≡ true = eq-eqb _ _ (ap (λ (z : Awaited). z.drive) (a ∙ same_read cs i x y l) ∙ d) in
    rw (u, v) refl
  where
    same_read : (cs : List Awaited) (i : ℕ) (x y : Awaited) → i < length cs → get_or cs i x ≡ get_or cs i y
    same_read cs i x y l = let p = drop-cons cs i x l in let q = drop-cons cs i y l in cc (p, q)
