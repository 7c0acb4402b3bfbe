-- What a call has of the positions, as commands are sent and replies come.
use Rattle.std.proofs.Common.{◌≡◌, ◌≢◌, ◌<◌, ◌≤◌, ◌⊎◌, ℕ, zero, suc, ◌+◌, ◌-◌, ◌==◌, Bool, false, List, [], ◌∷◌, ◌++◌, length, take, refl, sym, ap, ◌∙◌, inl, inr, arith, eq-eqb, ne_eqb}
use Rattle.std.specs.Prelude.{not, map, filter, replicate}
use Rattle.std.specs.List.{range_with_len}
use Rattle.std.proofs.lemmas.Bool.{cases_Bool, cases_eq, lt-ltb, le-leb}
use Rattle.std.proofs.lemmas.List.{length-append, length-replicate, length-take, map-append}
use Rattle.stripe_plan.specs.declared.plan.Column.{Column}
use Rattle.stripe_plan.specs.declared.plan.Stretch.{Stretch}
use Rattle.stripe_plan.specs.declared.plan.Ask.{Ask}
use Rattle.stripe_plan.specs.Laws.{IsGot}
use Rattle.client_rules.specs.Commands.{command, sealed, numbered, nonce_at, carrying_none, read_commands, others, not_of}
use Rattle.client_rules.specs.Io.{carried, got_of, got_stretch, awaited_stretch, had}
use Rattle.client_rules.specs.Laws.{nonce_of}
use Rattle.client_rules.proofs.Apart.{IsIn}
use Rattle.exchange_law.specs.ClientState.{Held, Awaited, Reply, Store}
use Rattle.exchange_law.specs.ClientNonces.{NoneIs, AllDiffer}
use Rattle.exchange_law.proofs.Rising.{Each, each_more, each_map, each_range, rising_differ, range_rises}
use Rattle.exchange_law.proofs.Covers.{HasStretch, IsAsked}

stretch_left : (ts us : List Stretch) (p o : ℕ) → HasStretch ts p o → HasStretch (ts ++ us) p o
stretch_left [] us p o h = absurd h
stretch_left (t ∷ ts) us p o (inl h) = inl h
stretch_left (t ∷ ts) us p o (inr h) = inr (stretch_left ts us p o h)

stretch_right : (ts us : List Stretch) (p o : ℕ) → HasStretch us p o → HasStretch (ts ++ us) p o
stretch_right [] us p o h = h
stretch_right (t ∷ ts) us p o h = inr (stretch_right ts us p o h)

stretch_in : (ts us : List Stretch) (p o : ℕ) → HasStretch (ts ++ us) p o → HasStretch ts p o ⊎ HasStretch us p o
stretch_in [] us p o h = inr h
stretch_in (t ∷ ts) us p o (inl h) = inl (inl h)
stretch_in (t ∷ ts) us p o (inr h) = elim (stretch_in ts us p o h) [ inl x ↦ inl (inr x) | inr y ↦ inr y ]

-- ---- commands

commands_from : (h : Held) (count p o : ℕ) (xs : List Ask) → IsAsked xs p o →
    HasStretch (map awaited_stretch (numbered h false count (carrying_none xs))) p o
unfolding numbered
commands_from h count p o [] a = absurd a
commands_from h count p o (x ∷ xs) (inl a) = inl a
commands_from h count p o (x ∷ xs) (inr a) = inr (commands_from h (count + 1) p o xs a)

-- what is sent is had
pub had_sent : (h : Held) (got : List Column) (awaited : List Awaited) (xs : List Ask) (p o : ℕ) →
    HasStretch (had got awaited) p o ⊎ IsAsked xs p o → HasStretch (had got (awaited ++ read_commands h xs)) p o
unfolding had read_commands
had_sent h got awaited xs p o (inl a) = elim (stretch_in (map got_stretch got) (map awaited_stretch awaited) p o a) [
  | inl x ↦
      stretch_left (map got_stretch got) (map awaited_stretch (awaited ++ numbered h false h.count (carrying_none xs))) p o x
  | inr y ↦ stretch_right (map got_stretch got) (map awaited_stretch (awaited ++ numbered h false h.count (carrying_none xs))) p o
      (rw (map-append awaited_stretch awaited (numbered h false h.count (carrying_none xs)))
      (stretch_left (map awaited_stretch awaited) (map awaited_stretch (numbered h false h.count (carrying_none xs))) p o y))
]
had_sent h got awaited xs p o (inr a) =
    stretch_right (map got_stretch got) (map awaited_stretch (awaited ++ numbered h false h.count (carrying_none xs))) p o
    (rw (map-append awaited_stretch awaited (numbered h false h.count (carrying_none xs)))
    (stretch_right (map awaited_stretch awaited) (map awaited_stretch (numbered h false h.count (carrying_none xs))) p o
    (commands_from h h.count p o xs a)))

-- ---- what was got

has : (c : Column) (p o : ℕ) → c.position ≡ p → c.offset ≤ o → o < c.offset + length c.bytes → IsGot (c ∷ []) p o
has c p o e l u = inl (rw (eq-eqb c.position p e, le-leb c.offset o l, lt-ltb o (c.offset + length c.bytes) u) refl)

got_from : (cs : List Column) (p o : ℕ) → HasStretch (map got_stretch cs ++ []) p o → IsGot cs p o
got_from [] p o h = absurd h
got_from (c ∷ cs) p o (inl h) = elim (has c p o h.0 h.1 h.2) [ inl x ↦ inl x | inr y ↦ absurd y ]
got_from (c ∷ cs) p o (inr h) = inr (got_from cs p o h)

-- where nothing is awaited any more
pub had_got : (got : List Column) (p o : ℕ) → HasStretch (had got []) p o → IsGot got p o
unfolding had
had_got got p o h = got_from got p o h

-- ---- replies

carried_length : (n : ℕ) (bytes : List ℕ) → n ≤ length (carried n bytes)
carried_length n bytes =
    let none : ℕ = 0 in
    omega (
      arith,
      length-append (take n bytes) (replicate (n - length bytes) 0),
      length-replicate (n - length bytes) none,
      length-take n bytes,
    )

-- a command with this nonce is this one
abbrev AreItself : Awaited → List Awaited → Type 0
AreItself a [] = Unit {0}
AreItself a (x ∷ xs) = (x.command.nonce ≡ a.command.nonce → x ≡ a) × AreItself a xs

none_itself : (a : Awaited) (xs : List Awaited) → NoneIs a.command.nonce (map nonce_of xs) → AreItself a xs
none_itself a [] n = tt
none_itself a (x ∷ xs) n = (λ e. absurd (n.0 (sym e)), none_itself a xs n.1)

none_in : (n : ℕ) (xs : List Awaited) (a : Awaited) → NoneIs n (map nonce_of xs) → IsIn a xs → n ≢ a.command.nonce
none_in n [] a d i = absurd i
none_in n (x ∷ xs) a d (inl e) = rw e d.0
none_in n (x ∷ xs) a d (inr i) = none_in n xs a d.1 i

itself : (a : Awaited) (xs : List Awaited) → AllDiffer (map nonce_of xs) → IsIn a xs → AreItself a xs
itself a [] d i = tt
itself a (x ∷ xs) d (inl e) = (λ s. sym e, none_itself a xs (rw (sym e) at d.0))
itself a (x ∷ xs) d (inr i) = (λ s. absurd (none_in x.command.nonce xs a d.0 i s), itself a xs d.1 i)

-- the byte is in the bytes that a command is for
abbrev Covers : Awaited → (p o : ℕ) → Type 0
Covers a p o = (a.ask.position ≡ p) × (a.ask.offset ≤ o) × (o < a.ask.offset + a.ask.length)

stays : (a : Awaited) (p o : ℕ) (xs : List Awaited) → AreItself a xs → HasStretch (map awaited_stretch xs) p o →
    HasStretch (map awaited_stretch (filter (λ (x : Awaited). not (x.command.nonce == a.command.nonce)) xs)) p o ⊎ Covers a p o
stays a p o [] s h = absurd h
stays a p o (x ∷ xs) s (inl h) = elim (cases_eq x.command.nonce a.command.nonce) [
  | inl same ↦ let it : x ≡ a = s.0 same in let there : Covers x p o = h in inr (rw it at there)
  | inr other ↦ rw (ne_eqb x.command.nonce a.command.nonce other) (inl (inl h))
]
stays a p o (x ∷ xs) s (inr h) = elim (cases_eq x.command.nonce a.command.nonce) [
  | inl same ↦ rw (eq-eqb x.command.nonce a.command.nonce same) (stays a p o xs s.1 h)
  | inr other ↦
      rw (ne_eqb x.command.nonce a.command.nonce other) (elim (stays a p o xs s.1 h) [ inl y ↦ inl (inr y) | inr c ↦ inr c ])
]

of_reply : (a : Awaited) (r : Reply) (p o : ℕ) → Covers a p o → HasStretch (got_stretch (got_of a r) ∷ []) p o
of_reply a r p o c = let long : a.ask.length ≤ length (carried a.ask.length r.payload) = carried_length a.ask.length r.payload in
    inl (c.0, c.1, omega (arith, c.2, long))

-- a reply takes the place of its command
pub had_replied : (got : List Column) (awaited : List Awaited) (a : Awaited) (r : Reply) (p o : ℕ) →
    AllDiffer (map nonce_of awaited) → IsIn a awaited → HasStretch (had got awaited) p o →
    HasStretch (had (got ++ got_of a r ∷ []) (others awaited a.command.nonce)) p o
unfolding had others
had_replied got awaited a r p o d i h =
    rw (map-append got_stretch got (got_of a r ∷ []))
    (elim (stretch_in (map got_stretch got) (map awaited_stretch awaited) p o h) [
      | inl x ↦
          stretch_left (map got_stretch got ++ got_stretch (got_of a r) ∷ [])
          (map awaited_stretch (filter (λ (x : Awaited). not (x.command.nonce == a.command.nonce)) awaited)) p o
          (stretch_left (map got_stretch got) (got_stretch (got_of a r) ∷ []) p o x)
      | inr y ↦ elim (stays a p o awaited (itself a awaited d i) y) [
        | inl z ↦
            stretch_right (map got_stretch got ++ got_stretch (got_of a r) ∷ [])
            (map awaited_stretch (filter (λ (x : Awaited). not (x.command.nonce == a.command.nonce)) awaited)) p o z
        | inr c ↦
            stretch_left (map got_stretch got ++ got_stretch (got_of a r) ∷ [])
            (map awaited_stretch (filter (λ (x : Awaited). not (x.command.nonce == a.command.nonce)) awaited)) p o
            (stretch_right (map got_stretch got) (got_stretch (got_of a r) ∷ []) p o (of_reply a r p o c))
      ]
    ])

-- ---- nonces of what is awaited

none_filter : (n : ℕ) (q : Awaited → Bool) (xs : List Awaited) → NoneIs n (map nonce_of xs) →
    NoneIs n (map nonce_of (filter q xs))
none_filter n q [] d = tt
none_filter n q (x ∷ xs) d =
    elim (cases_Bool (q x)) [ inl t ↦ rw t (d.0, none_filter n q xs d.1) | inr f ↦ rw f (none_filter n q xs d.1) ]

differ_filter : (q : Awaited → Bool) (xs : List Awaited) → AllDiffer (map nonce_of xs) → AllDiffer (map nonce_of (filter q xs))
differ_filter q [] d = tt
differ_filter q (x ∷ xs) d =
    elim (cases_Bool (q x)) [
      | inl t ↦ rw t (none_filter x.command.nonce q xs d.0, differ_filter q xs d.1)
      | inr f ↦
          rw f (differ_filter q xs d.1)
    ]

each_filter : (P : ℕ → Type 0) (q : Awaited → Bool) (xs : List Awaited) → Each P (map nonce_of xs) →
    Each P (map nonce_of (filter q xs))
each_filter P q [] e = tt
each_filter P q (x ∷ xs) e =
    elim (cases_Bool (q x)) [ inl t ↦ rw t (e.0, each_filter P q xs e.1) | inr f ↦ rw f (each_filter P q xs e.1) ]

-- nonces that differ, none above this
pub record AreBelow (top : ℕ) (xs : List Awaited) : Type 0 where
  pub differ : AllDiffer (map nonce_of xs)
  pub below : Each (λ x. x ≤ top) (map nonce_of xs)

pub others_below : (top n : ℕ) (xs : List Awaited) → AreBelow top xs → AreBelow top (others xs n)
unfolding others
others_below top n xs b = record { differ = differ_filter _ xs b.differ; below = each_filter _ _ xs b.below }

pub rest_below : (top k : ℕ) (xs : List Awaited) → AreBelow top xs → AreBelow top (not_of k xs)
unfolding not_of
rest_below top k xs b = record { differ = differ_filter _ xs b.differ; below = each_filter _ _ xs b.below }

none_range : (x a n : ℕ) → x < a → NoneIs x (range_with_len a n)
none_range x a zero l = tt
none_range x a (suc n) l = (λ e. omega (arith, l, e), none_range x (a + 1) n (omega (arith, l)))

pub none_more : (x : ℕ) (xs ys : List ℕ) → NoneIs x xs → NoneIs x ys → NoneIs x (xs ++ ys)
none_more x [] ys d e = e
none_more x (y ∷ xs) ys d e = (d.0, none_more x xs ys d.1 e)

pub differ_range : (a n : ℕ) (xs : List ℕ) → AllDiffer xs → Each (λ x. x < a) xs → AllDiffer (xs ++ range_with_len a n)
differ_range a n [] d e = rising_differ (range_with_len a n) (range_rises a n)
differ_range a n (x ∷ xs) d e = (none_more x xs (range_with_len a n) d.0 (none_range x a n e.0), differ_range a n xs d.1 e.1)

numbered_from : (h : Held) (count a : ℕ) (ws : List Store) → a ≡ nonce_at h count + 1 →
    map nonce_of (numbered h false count ws) ≡ range_with_len a (length (numbered h false count ws))
unfolding numbered command sealed
numbered_from h count a [] e = refl
numbered_from h count a (w ∷ ws) e =
    let head : nonce_at h (count + 1) ≡ a = omega (arith, e) in
    rw (numbered_from h (count + 1) (a + 1) ws (omega (arith, e)), head) refl

-- more are sent
pub sent_below : (h : Held) (xs : List Awaited) (due : List Ask) → AreBelow (nonce_at h h.count) xs →
    AreBelow (nonce_at h (h.count + length (read_commands h due))) (xs ++ read_commands h due)
unfolding read_commands
sent_below h xs due b =
    let next : map nonce_of (numbered h false h.count (carrying_none due)) ≡ range_with_len (nonce_at h h.count + 1)
    (length (numbered h false h.count (carrying_none due))) = numbered_from h h.count _ (carrying_none due) refl in
    let all : map nonce_of (xs ++ numbered h false h.count (carrying_none due)) ≡ map nonce_of xs ++ range_with_len
    (nonce_at h h.count + 1) (length (numbered h false h.count (carrying_none due))) =
    map-append nonce_of xs (numbered h false h.count (carrying_none due)) ∙ ap (λ (ys : List ℕ). map nonce_of xs ++ ys) next in
    record {
      differ =
          rw all (differ_range (nonce_at h h.count + 1) (length (numbered h false h.count (carrying_none due))) (map nonce_of xs)
          b.differ (each_map _ _ (λ x l. omega (arith, l)) (map nonce_of xs) b.below));
      below =
          rw all
          (each_more _ (map nonce_of xs)
          (range_with_len (nonce_at h h.count + 1) (length (numbered h false h.count (carrying_none due))))
          (each_map _ _ (λ x l. omega (arith, l)) (map nonce_of xs) b.below)
          (each_range _ (nonce_at h h.count + 1) (length (numbered h false h.count (carrying_none due)))
          (λ y l u. omega (arith, u))));
    }
