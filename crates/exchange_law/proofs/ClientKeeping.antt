-- What holds of the held grants and of the nonces that were sent, and what keeps it.
use Rattle.std.proofs.Common.{◌≡◌, ◌≢◌, ◌<◌, ◌≤◌, ◌⊎◌, ℕ, ◌+◌, ◌-◌, ◌*◌, ◌/◌, List, [], ◌∷◌, ◌++◌, length, refl, sym, ap, ◌∙◌, inl, inr, arith, eq-eqb, ne_eqb}
use Rattle.std.specs.Prelude.{nat_lt, Some, None}
use Rattle.std.specs.List.{range_with_len}
use Rattle.std.proofs.lemmas.Bool.{cases_Bool, cases_eq}
use Rattle.std.proofs.lemmas.List.{length-append}
use Rattle.std.proofs.lemmas.List.FromFn.{length-range_with_len}
use Rattle.std.proofs.lemmas.Nat.{div-mul-add}
use Rattle.layout_ops.specs.declared.args.Args.{Args}
use Rattle.layout_ops.specs.declared.args.Args.TheVariants as args
use Rattle.client_rules.specs.declared.limits.TheConstants.{NONCES}
use Rattle.exchange_law.specs.ClientState.{Held}
use Rattle.client_rules.specs.Grants.{held_of, put_held, without_held}
use Rattle.client_rules.specs.Commands.{nonce_at}
use Rattle.client_rules.specs.Going.{held_after}
use Rattle.client_rules.proofs.HeldGrants.{put_found}
use Rattle.exchange_law.specs.ClientNonces.{grant_of, RiseInGrants}
use Rattle.exchange_law.proofs.Rising.{Each, each_more, each_map, each_range, IsAmong, among_more, among_last, rises_more}
use Rattle.exchange_law.proofs.ClientGiven.{IsFresh}

-- ---- the grants that are held

pub put_other : (hs : List Held) (k : Held) (f : ℕ) → k.file ≢ f → held_of (put_held hs k) f ≡ held_of hs f
unfolding held_of put_held
put_other [] k f n = rw (ne_eqb k.file f n) refl
put_other (g ∷ gs) k f n = elim (cases_eq g.file k.file) [
  | inl same ↦ rw (eq-eqb g.file k.file same, ne_eqb k.file f n, ne_eqb g.file f (λ e. n (sym same ∙ e))) refl
  | inr other ↦ elim (cases_Bool (nat_lt k.file g.file)) [
    | inl u ↦ rw (ne_eqb g.file k.file other, u, ne_eqb k.file f n) refl
    | inr v ↦ elim (cases_eq g.file f) [
      | inl s ↦ rw (ne_eqb g.file k.file other, v, eq-eqb g.file f s) refl
      | inr t ↦ rw (ne_eqb g.file k.file other, v, ne_eqb g.file f t) (put_other gs k f n)
    ]
  ]
]

-- the new grant, or one that was held
pub put_read : (hs : List Held) (k : Held) (f : ℕ) (j : Held) → held_of (put_held hs k) f ≡ Some j →
    ((k.file ≡ f) × (k ≡ j)) ⊎ ((k.file ≢ f) × (held_of hs f ≡ Some j))
put_read hs k f j e = elim (cases_eq k.file f) [
  | inl s ↦ let there : held_of (put_held hs k) f ≡ Some k = ap (λ (g : ℕ). held_of (put_held hs k) g) (sym s) ∙ put_found hs k in
      inl (s, cc (sym there ∙ e))
  | inr t ↦ inr (t, sym (put_other hs k f t) ∙ e)
]

pub none_left : (hs : List Held) (f : ℕ) → held_of (without_held hs f) f ≡ None
unfolding held_of without_held
none_left [] f = refl
none_left (g ∷ gs) f = elim (cases_eq g.file f) [
  | inl s ↦ rw (eq-eqb g.file f s) (none_left gs f)
  | inr t ↦ rw (ne_eqb g.file f t, ne_eqb g.file f t) (none_left gs f)
]

pub without_read : (hs : List Held) (f h : ℕ) (j : Held) → held_of (without_held hs f) h ≡ Some j → held_of hs h ≡ Some j
unfolding held_of without_held
without_read [] f h j e = e
without_read (g ∷ gs) f h j e = elim (cases_eq g.file f) [
  | inl s ↦ let later : held_of (without_held gs f) h ≡ Some j = rw (eq-eqb g.file f s) at e in elim (cases_eq g.file h) [
    | inl u ↦ let here : held_of (without_held gs f) f ≡ Some j =
        ap (λ (i : ℕ). held_of (without_held gs f) i) (sym s ∙ u) ∙ later in absurd (cc (sym (none_left gs f) ∙ here))
    | inr v ↦ rw (ne_eqb g.file h v) (without_read gs f h j later)
  ]
  | inr t ↦ elim (cases_eq g.file h) [
    | inl u ↦ let it : Some g ≡ Some j = rw (ne_eqb g.file f t, eq-eqb g.file h u) at e in rw (eq-eqb g.file h u) it
    | inr v ↦ let later : held_of (without_held gs f) h ≡ Some j = rw (ne_eqb g.file f t, ne_eqb g.file h v) at e in
        rw (ne_eqb g.file h v) (without_read gs f h j later)
  ]
]

-- ---- what holds

-- a grant that was given, whose nonces that were sent are those up to its count
pub record IsUnder (before xs : List ℕ) (h : Held) : Type 0 where
  pub among : IsAmong h.number before
  pub below : Each (λ x. grant_of x ≡ h.number → x ≤ nonce_at h h.count) xs
  pub counted : h.count ≤ length xs

-- these grants are held, once those were given and these nonces sent
pub record IsKeeping (hs : List Held) (before xs : List ℕ) : Type 0 where
  pub rises : RiseInGrants xs
  pub known : Each (λ x. IsAmong (grant_of x) before) xs
  pub under : (f : ℕ) (h : Held) → held_of hs f ≡ Some h → IsUnder before xs h
  pub apart : (f g : ℕ) (h k : Held) → held_of hs f ≡ Some h → held_of hs g ≡ Some k → h.number ≡ k.number → f ≡ g

under_put : (hs : List Held) (before xs : List ℕ) (k : Held) → IsUnder before xs k →
    ((f : ℕ) (j : Held) → k.file ≢ f → held_of hs f ≡ Some j → IsUnder before xs j) →
    (f : ℕ) (j : Held) → held_of (put_held hs k) f ≡ Some j → IsUnder before xs j
under_put hs before xs k new old f j e = elim (put_read hs k f j e) [ inl a ↦ rw a.1 at new | inr b ↦ old f j b.0 b.1 ]

apart_put : (hs : List Held) (before xs : List ℕ) (k : Held) → IsKeeping hs before xs →
    ((f : ℕ) (j : Held) → k.file ≢ f → held_of hs f ≡ Some j → k.number ≢ j.number) →
    (f g : ℕ) (h j : Held) → held_of (put_held hs k) f ≡ Some h → held_of (put_held hs k) g ≡ Some j → h.number ≡ j.number → f ≡ g
apart_put hs before xs k keeping new f g h j e d s = elim (put_read hs k f h e) [
  | inl a ↦ elim (put_read hs k g j d) [
    | inl b ↦ sym a.0 ∙ b.0
    | inr c ↦ absurd (new g j c.0 c.1 (ap (λ (x : Held). x.number) a.1 ∙ s))
  ]
  | inr b ↦ elim (put_read hs k g j d) [
    | inl a ↦ absurd (new f h b.0 b.1 (ap (λ (x : Held). x.number) a.1 ∙ sym s))
    | inr c ↦ keeping.apart f g h j b.1 c.1 s
  ]
]

-- ---- a grant goes

pub without_keeping : (hs : List Held) (f : ℕ) (before xs : List ℕ) → IsKeeping hs before xs →
    IsKeeping (without_held hs f) before xs
without_keeping hs f before xs k = record {
  rises = k.rises;
  known = k.known;
  under = λ g h e. k.under g h (without_read hs f g h e);
  apart = λ g i h j e d s. k.apart g i h j (without_read hs f g h e) (without_read hs f i j d) s;
}

pub after_keeping : (hs : List Held) (f : ℕ) (a : Args) (before xs : List ℕ) → IsKeeping hs before xs →
    IsKeeping (held_after hs f a) before xs
after_keeping hs f (args.LayoutGet a) before xs k = k
after_keeping hs f (args.LayoutCommit a) before xs k = k
after_keeping hs f (args.LayoutReturn a) before xs k = without_keeping hs f before xs k

-- ---- a grant is given

more_under : (before more xs : List ℕ) (h : Held) → IsUnder before xs h → IsUnder (before ++ more) xs h
more_under before more xs h u = record { among = among_more h.number before more u.among; below = u.below; counted = u.counted }

more_known : (before more xs : List ℕ) → Each (λ x. IsAmong (grant_of x) before) xs →
    Each (λ x. IsAmong (grant_of x) (before ++ more)) xs
more_known before more xs k = each_map _ _ (λ x i. among_more (grant_of x) before more i) xs k

pub more_keeping : (hs : List Held) (before more xs : List ℕ) → IsKeeping hs before xs → IsKeeping hs (before ++ more) xs
more_keeping hs before more xs k = record {
  rises = k.rises;
  known = more_known before more xs k.known;
  under = λ f h e. more_under before more xs h (k.under f h e);
  apart = k.apart;
}

pub given_keeping : (hs : List Held) (before xs : List ℕ) (n : ℕ) (k : Held) → ((x : ℕ) → IsAmong x before → x ≢ n) →
    IsFresh n k → IsKeeping hs before xs →
    IsKeeping (put_held hs k) (before ++ n ∷ []) xs
given_keeping hs before xs n k new f keeping =
    let here : IsUnder (before ++ n ∷ []) xs k = record {
      among = rw f.number (among_last n before);
      below = each_map _ _ (λ x i. λ s. absurd (new (grant_of x) i (s ∙ f.number))) xs keeping.known;
      counted = omega (arith, f.count);
    } in record {
      rises = keeping.rises;
      known = more_known before (n ∷ []) xs keeping.known;
      under = under_put hs (before ++ n ∷ []) xs k here (λ g j t e. more_under before (n ∷ []) xs j (keeping.under g j e));
      apart = apart_put hs before xs k keeping (λ g j t e. λ s. new j.number (keeping.under g j e).among (sym s ∙ f.number));
    }

-- ---- commands are sent

-- the next nonces of a grant are of it
of_grant : (g c n y : ℕ) → g * NONCES + c + 1 ≤ y → y < g * NONCES + c + 1 + n → c + n < NONCES → grant_of y ≡ g
of_grant g c n y l m b =
    let split : y ≡ g * NONCES + (y - g * NONCES) = omega (arith, l) in
    ap (λ (z : ℕ). z / NONCES) split ∙ div-mul-add g NONCES (y - g * NONCES) (omega (arith, l, m, b))

-- the grant with so many more commands
pub record IsCounted (h k : Held) (n : ℕ) : Type 0 where
  pub number : k.number ≡ h.number
  pub count : k.count ≡ h.count + n

sent_under : (before xs : List ℕ) (h k : Held) (n : ℕ) → IsCounted h k n → IsUnder before xs h →
    IsUnder before (xs ++ range_with_len (nonce_at h h.count + 1) n) k
sent_under before xs h k n c u = record {
  among = rw c.number u.among;
  below =
      each_more _ xs (range_with_len (nonce_at h h.count + 1) n)
      (each_map _ _ (λ x p. λ s. let old : x ≤ nonce_at h h.count = p (s ∙ c.number) in
      omega (arith, old, c.number, c.count)) xs u.below)
      (each_range _ (nonce_at h h.count + 1) n (λ y l m. λ s. omega (arith, m, c.number, c.count)));
  counted =
      rw (length-append xs (range_with_len (nonce_at h h.count + 1) n), length-range_with_len (nonce_at h h.count + 1) n)
      (omega (arith, u.counted, c.count));
}

other_under : (before xs : List ℕ) (g a n : ℕ) (j : Held) → g ≢ j.number → Each (λ y. grant_of y ≡ g) (range_with_len a n) →
    IsUnder before xs j → IsUnder before (xs ++ range_with_len a n) j
other_under before xs g a n j t of u = record {
  among = u.among;
  below = each_more _ xs (range_with_len a n) u.below (each_map _ _ (λ y o. λ s. absurd (t (sym o ∙ s))) (range_with_len a n) of);
  counted = rw (length-append xs (range_with_len a n)) (omega (arith, u.counted));
}

pub sent_keeping : (hs : List Held) (before xs : List ℕ) (f : ℕ) (h k : Held) (n : ℕ) → held_of hs f ≡ Some h → k.file ≡ f →
    IsCounted h k n → length xs + n < NONCES → IsKeeping hs before xs →
    IsKeeping (put_held hs k) before (xs ++ range_with_len (nonce_at h h.count + 1) n)
sent_keeping hs before xs f h k n e there c b keeping =
    let a : ℕ = nonce_at h h.count + 1 in
    let u : IsUnder before xs h = keeping.under f h e in
    let of : Each (λ y. grant_of y ≡ h.number) (range_with_len (nonce_at h h.count + 1) n) =
    each_range _ (nonce_at h h.count + 1) n (λ y l m. of_grant h.number h.count n y l m (omega (arith, u.counted, b))) in
    let other : (g : ℕ) (j : Held) → k.file ≢ g → held_of hs g ≡ Some j → h.number ≢ j.number =
    λ g j t d. λ s. t (there ∙ keeping.apart f g h j e d s) in
    record {
      rises =
          rises_more h.number (nonce_at h h.count + 1) n xs keeping.rises
          (each_map _ _ (λ x p. λ s. let old : x ≤ nonce_at h h.count = p s in omega (arith, old)) xs u.below) of;
      known =
          each_more _ xs (range_with_len (nonce_at h h.count + 1) n) keeping.known
          (each_map _ _ (λ y o. rw o u.among) (range_with_len (nonce_at h h.count + 1) n) of);
      under =
          under_put hs before _ k (sent_under before xs h k n c u)
          (λ g j t d. other_under before xs h.number (nonce_at h h.count + 1) n j (other g j t d) of (keeping.under g j d));
      apart = apart_put hs before xs k keeping (λ g j t d. λ s. other g j t d (sym c.number ∙ s));
    }
