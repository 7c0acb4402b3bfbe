-- Pairs of entries give the log of the machine's entries.
-- Towards `CutsShowEntries` (`specs/Parts.antt`).
use Rattle.std.proofs.Common.{◌≡◌, ◌⊎◌, ◌==◌, ℕ, zero, suc, ◌<◌, ◌≤◌, List, [], ◌∷◌, ◌++◌, map, filter, length, take, slice_get, Some, refl, sym, ap, subst, ◌∙◌, inl, inr, arith}
use Rattle.std.proofs.lemmas.Bool.{cases_eq, cases_lt, eq-eqb, ne_eqb}
use Rattle.std.proofs.lemmas.List.{take_all}
use Rattle.file_log.specs.declared.entry.Entry.{Entry}
use Rattle.world_history.specs.ReadLog.{Logged}
use Rattle.fence_law.specs.State.{State}
use Rattle.fence_law.specs.Log.{IsLog}
use Rattle.file_simulation.specs.Showing.{Pairs, IsPair, IsSame, ArePaired}
use Rattle.file_simulation.specs.Tied.{IsSingle}
use Rattle.headline_law.proofs.EntriesPairs.{pair_within}

-- what the entries of a file say
abbrev pub said_of : (file : ℕ) → List Logged → List Entry
said_of file es = map (λ (e : Logged). e.entry) (filter (λ (e : Logged). e.file == file) es)

-- ---- lists

said_here : (file : ℕ) (e : Logged) (es : List Logged) → e.file ≡ file → said_of file (e ∷ es) ≡ e.entry ∷ said_of file es
said_here file e es is = rw (eq-eqb e.file file is) refl

said_beside : (file : ℕ) (e : Logged) (es : List Logged) → (e.file ≡ file → ⊥) → said_of file (e ∷ es) ≡ said_of file es
said_beside file e es ne = rw (ne_eqb e.file file ne) refl

-- none of the first entries is the file's
said_none : (file i : ℕ) (es : List Logged) →
    ((g : ℕ) (e : Logged) → slice_get es g ≡ Some e → e.file ≡ file → g < i → ⊥) → said_of file (take i es) ≡ []
said_none file zero es none = refl
said_none file (suc i) [] none = refl
said_none file (suc i) (x ∷ es) none =
    said_beside file x (take i es) (λ here. none 0 x refl here (omega arith))
    ∙ said_none file i es (λ g e q here l. none (suc g) e q here (omega (arith, l)))

-- entry g is the file's last one of the first entries
said_last : (file g i : ℕ) (x : Logged) (es : List Logged) → slice_get es g ≡ Some x → x.file ≡ file → g < i →
    ((k : ℕ) (e : Logged) → slice_get es k ≡ Some e → e.file ≡ file → g < k → k < i → ⊥) →
    said_of file (take i es) ≡ said_of file (take g es) ++ x.entry ∷ []
said_last file g zero x es at_ here less none = absurd (omega (arith, less))
said_last file g (suc i) x [] at_ here less none = absurd (cc at_)
said_last file zero (suc i) x (y ∷ es) at_ here less none =
    let same : y ≡ x = cc at_ in
    said_here file y (take i es) (ap (λ (e : Logged). e.file) same ∙ here)
    ∙ ap (λ (l : List Entry). y.entry ∷ l)
    (said_none file i es (λ k e q is l. none (suc k) e q is (omega arith) (omega (arith, l))))
    ∙ ap (λ (e : Logged). e.entry ∷ []) same
said_last file (suc g) (suc i) x (y ∷ es) at_ here less none =
    let rest : said_of file (take i es) ≡ said_of file (take g es) ++ x.entry ∷ [] =
    said_last file g i x es at_ here (omega (arith, less))
    (λ k e q is a b. none (suc k) e q is (omega (arith, a)) (omega (arith, b))) in
    elim (cases_eq y.file file) [
      | inl is ↦
          said_here file y (take i es) is ∙ ap (λ (l : List Entry). y.entry ∷ l) rest
          ∙ sym (ap (λ (l : List Entry). l ++ x.entry ∷ []) (said_here file y (take g es) is))
      | inr ne ↦
          said_beside file y (take i es) ne ∙ rest
          ∙ sym (ap (λ (l : List Entry). l ++ x.entry ∷ []) (said_beside file y (take g es) ne))
    ]

-- ---- pairs

-- an entry of the machine is in some pair, or in none
pub paired_or_none : (pairs : Pairs) (j : ℕ) → ((g : ℕ) × IsPair pairs g j) ⊎ ((g : ℕ) → IsPair pairs g j → ⊥)
paired_or_none [] j = inr (λ g n. n)
paired_or_none ((a, b) ∷ pairs) j = elim (cases_eq b j) [
  | inl is ↦ inl (a, inl (ap (λ (k : ℕ). (a, k)) (sym is)))
  | inr ne ↦ elim (paired_or_none pairs j) [
    | inl r ↦ inl (r.0, inr r.1)
    | inr none ↦ inr (λ g n. others ne none g n)
  ]
]
  where
    others : (b ≡ j → ⊥) → ((g : ℕ) → IsPair pairs g j → ⊥) → (g : ℕ) → IsPair ((a, b) ∷ pairs) g j → ⊥
    others ne none g (inl e) = ne (sym (ap (λ (q : ℕ × ℕ). q.1) e))
    others ne none g (inr n) = none g n

module _ (s : State) (file : ℕ) (es : List Logged) (pairs : Pairs) (p : ArePaired s file es pairs) (single : IsSingle pairs)
  where
    -- the first i entries of the log are in pairs with the first j of the machine alone
    record Upto (i j : ℕ) : Type 0 where
      low : (g : ℕ) (e : Logged) → slice_get es g ≡ Some e → e.file ≡ file → g < i → (k : ℕ) × IsPair pairs g k × (k < j)
      high : (g k : ℕ) → IsPair pairs g k → k < j → g < i

    front : (i j : ℕ) → j ≤ s.count → Upto i j → IsLog s j (said_of file (take i es))
    front i zero below u =
        said_none file i es (λ g e q here l.
        let r = u.low g e q here l in
        let less : r.0 < 0 = r.2 in absurd (omega (arith, less)))
    front i (suc j) below u = elim (paired_or_none pairs j) [
      | inr none ↦
          inl (
            p.others j (omega (arith, below)) none,
            front i j (omega (arith, below)) (record {
              low = λ g e q here l.
                  let r = u.low g e q here l in
                  let k : r.0 < suc j = r.2 in (
                    r.0,
                    r.1,
                    elim (cases_eq r.0 j) [
                      | inl same ↦ absurd (none g (subst (λ (n : ℕ). IsPair pairs g n) same r.1))
                      | inr ne ↦ omega (arith, k, ne)
                    ],
                  );
              high = λ g k n l. u.high g k n (omega (arith, l));
            }),
          )
      | inl r ↦
          let x : (e : Logged) × (slice_get es r.0 ≡ Some e) × IsSame s file j e = p.same r.0 j r.1 in
          let less : r.0 < i = u.high r.0 j r.1 (omega arith) in
          inr (
            said_of file (take r.0 es),
            x.0.entry,
            said_last file r.0 i x.0 es x.1 x.2.file_is less (λ k e q here a b.
                let z = u.low k e q here b in
                let low : z.0 < suc j = z.2 in
                let up : j < z.0 = p.rising r.0 j k z.0 r.1 z.1 a in
                absurd (omega (arith, low, up))),
            front r.0 j (omega (arith, below)) (record {
              low = λ g e q here l.
                  let z = u.low g e q here (omega (arith, l, less)) in
                  (z.0, z.1, p.rising g z.0 r.0 j z.1 r.1 l);
              high = λ g k n l. elim (cases_lt g r.0) [
                | inl under ↦ under
                | inr over ↦ elim (cases_eq r.0 g) [
                  | inl same ↦
                      let both : j ≡ k = single g j k (subst (λ (a : ℕ). IsPair pairs a j) same r.1) n in
                      absurd (omega (arith, both, l))
                  | inr ne ↦
                      let up : j < k = p.rising r.0 j g k r.1 n (omega (arith, over, ne)) in
                      absurd (omega (arith, up, l))
                ]
              ];
            }),
            x.2.entry,
          )
    ]

    -- The log of the machine's entries is what the entries of the file say.
    pub log_of_pairs : IsLog s s.count (said_of file es)
    log_of_pairs =
        subst (λ (l : List Logged). IsLog s s.count (said_of file l)) (take_all (length es) es (omega arith))
        (front (length es) s.count (omega arith) (record {
          low = λ g e q here l. let r = p.each g e q here in (r.0, r.1, (pair_within s s file es pairs p g r.0 r.1).1);
          high = λ g k n l. (pair_within s s file es pairs p g k n).0;
        }))
