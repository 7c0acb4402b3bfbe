-- What a call asks to read: no place is asked twice.
use Rattle.std.proofs.Common.{◌≡◌, ◌⊎◌, ◌≤◌, ◌<◌, ℕ, suc, ◌+◌, ◌-◌, ◌==◌, true, false, not, List, [], ◌∷◌, ◌++◌, length, map, filter, take, refl, sym, subst, ap, ◌∙◌, inl, inr, arith, eq-eqb, ne_eqb}
use Rattle.std.specs.Prelude.{Bool, ◌||◌, nat_lt, replicate}
use Rattle.std.proofs.lemmas.Bool.{cases_Bool, cases_eq, eqb-true, or_left, or_right}
use Rattle.std.proofs.lemmas.List.Folds.{list_any-append}
use Rattle.std.proofs.lemmas.List.{length-append, length-map, length-replicate, length-take, map-append}
use Rattle.stripe_plan.specs.Lost.{among}
use Rattle.server_rules.specs.Laws.{In}
use Rattle.server_rules.proofs.Members.{in_front, in_behind, in_either, in_map, in_mapped, in_filter, in_filtered}
use Rattle.load_law.specs.ClientState.{Held, Awaited, TimedOut, Reply, Ask, Column, Store, Stretch}
use Rattle.client_rules.specs.Grants.{missing_of}
use Rattle.client_rules.specs.Commands.{is_of, command, sealed, numbered, nonce_at, carrying_none, read_commands, others, of_component, not_of, before}
use Rattle.client_rules.specs.Io.{outs, first_of, timed_with, carried, got_of, got_stretch, awaited_stretch, had}
use Rattle.client_rules.specs.Replies.{timed_after}
use Rattle.client_rules.specs.Laws.{nonce_of}
use Rattle.load_law.proofs.Lists.{AreDistinct, no_longer, distinct_more}

-- the place that is asked: its stripe, position, component and first byte
abbrev pub Place : Type 0
Place = ℕ × ℕ × ℕ × ℕ

abbrev pub place_of : Ask → Place
place_of a = (a.stripe, a.position, a.component, a.offset)

abbrev pub places_of : List Awaited → List Place
places_of xs = map (λ (a : Awaited). place_of a.ask) xs

-- the bytes that are asked
abbrev pub stretch_of : Ask → Stretch
stretch_of a = record { position = a.position; first = a.offset; end = a.offset + a.length }

-- ---- nonces

-- none is above this one, and no two commands have the same
pub record AreBelow (top : ℕ) (xs : List Awaited) : Type 0 where
  pub below : (a : Awaited) → In a xs → nonce_of a ≤ top
  pub differ : (a b : Awaited) → In a xs → In b xs → nonce_of a ≡ nonce_of b → a ≡ b

numbered_above : (h : Held) (write : Bool) (count : ℕ) (ws : List Store) (a : Awaited) → In a (numbered h write count ws)
    → (nonce_at h count < nonce_of a) × (nonce_of a ≤ nonce_at h (count + length ws))
unfolding numbered command sealed
numbered_above h write count [] a i = absurd i
numbered_above h write count (w ∷ ws) a (inl e) =
    let n : nonce_of a ≡ nonce_at h (count + 1) = ap nonce_of e in
    (omega (arith, n), omega (arith, n))
numbered_above h write count (w ∷ ws) a (inr i) =
    let rest = numbered_above h write (count + 1) ws a i in
    (omega (arith, rest.0), omega (arith, rest.1))

numbered_differ : (h : Held) (write : Bool) (count : ℕ) (ws : List Store) (a b : Awaited) → In a (numbered h write count ws)
    → In b (numbered h write count ws) → nonce_of a ≡ nonce_of b → a ≡ b
unfolding numbered command sealed
numbered_differ h write count [] a b i j e = absurd i
numbered_differ h write count (w ∷ ws) a b (inl x) (inl y) e = x ∙ sym y
numbered_differ h write count (w ∷ ws) a b (inl x) (inr j) e =
    let n : nonce_of a ≡ nonce_at h (count + 1) = ap nonce_of x in
    absurd (omega (arith, n, e, (numbered_above h write (count + 1) ws b j).0))
numbered_differ h write count (w ∷ ws) a b (inr i) (inl y) e =
    let n : nonce_of b ≡ nonce_at h (count + 1) = ap nonce_of y in
    absurd (omega (arith, n, e, (numbered_above h write (count + 1) ws a i).0))
numbered_differ h write count (w ∷ ws) a b (inr i) (inr j) e = numbered_differ h write (count + 1) ws a b i j e

-- READs are for what they are made of
numbered_ask : (h : Held) (count : ℕ) (xs : List Ask) (a : Awaited) → In a (numbered h false count (carrying_none xs))
    → In a.ask xs
unfolding numbered
numbered_ask h count [] a i = absurd i
numbered_ask h count (x ∷ xs) a (inl e) = inl (ap (λ (y : Awaited). y.ask) e)
numbered_ask h count (x ∷ xs) a (inr i) = inr (numbered_ask h (count + 1) xs a i)

numbered_places : (h : Held) (count : ℕ) (xs : List Ask)
    → places_of (numbered h false count (carrying_none xs)) ≡ map place_of xs
unfolding numbered
numbered_places h count [] = refl
numbered_places h count (x ∷ xs) = ap (λ (ys : List Place). place_of x ∷ ys) (numbered_places h (count + 1) xs)

numbered_long : (h : Held) (count : ℕ) (xs : List Ask) → length (numbered h false count (carrying_none xs)) ≡ length xs
unfolding numbered
numbered_long h count [] = refl
numbered_long h count (x ∷ xs) = ap suc (numbered_long h (count + 1) xs)

-- ---- what was asked

-- a command is awaited, or its bytes were read, or its component is out
abbrev pub IsKept : (out : List ℕ) → (got : List Column) → (awaited : List Awaited) → Awaited → Type 0
IsKept out got awaited a =
    In a awaited ⊎ In (stretch_of a.ask) (map got_stretch got) ⊎ (among a.ask.component out ≡ true)

-- All commands that were sent so far, of which some are awaited and some gave what was got: each asks one of these places, none
-- that another asks. What is had of a position is known to be so.
pub record AreAsked (places : List Place) (Known : Stretch → Type 0) (out : List ℕ) (top : ℕ) (got : List Column)
    (awaited sent : List Awaited) : Type 0 where
  pub known : (t : Stretch) → In t (had got awaited) → Known t
  pub listed : (a : Awaited) → In a sent → In (place_of a.ask) places
  pub kept : (a : Awaited) → In a sent → IsKept out got awaited a
  pub once : AreDistinct (places_of sent)
  pub nonces : AreBelow top awaited

-- an ask of a component that isn't out for bytes that aren't had
pub record IsNew (places : List Place) (Known : Stretch → Type 0) (out : List ℕ) (have : List Stretch) (b : Ask) : Type 0
  where
    pub listed : In (place_of b) places
    pub known : Known (stretch_of b)
    pub there : among b.component out ≡ false
    pub new : (t : Stretch) → In t have → t.position ≡ b.position → t.first ≡ b.offset → ⊥

-- several, no two of one place
pub record AreNew (places : List Place) (Known : Stretch → Type 0) (out : List ℕ) (have : List Stretch) (due : List Ask)
    : Type 0 where
  pub each : (b : Ask) → In b due → IsNew places Known out have b
  pub once : AreDistinct (map place_of due)

pub none_new : (places : List Place) (Known : Stretch → Type 0) (out : List ℕ) (have : List Stretch)
    → AreNew places Known out have []
none_new places Known out have = record { each = λ b i. absurd i; once = tt }

pub none_asked : (places : List Place) (Known : Stretch → Type 0) (out : List ℕ) (top : ℕ)
    → AreAsked places Known out top [] [] []
unfolding had
none_asked places Known out top = record {
  known = λ t i. absurd i;
  listed = λ a i. absurd i;
  kept = λ a i. absurd i;
  once = tt;
  nonces = record { below = λ a i. absurd i; differ = λ a b i j e. absurd i };
}

-- no more are sent than there are places
pub asked_few : (places : List Place) (Known : Stretch → Type 0) (out : List ℕ) (top : ℕ) (got : List Column)
    (awaited sent : List Awaited) → AreAsked places Known out top got awaited sent → length sent ≤ length places
asked_few places Known out top got awaited sent x =
    let few : length (places_of sent) ≤ length places =
    no_longer (places_of sent) places x.once (λ y i.
    let m = in_mapped (λ (a : Awaited). place_of a.ask) y sent i in
    subst (λ (z : Place). In z places) (sym m.2) (x.listed m.0 m.1)) in
    omega (arith, few, length-map sent (λ (a : Awaited). place_of a.ask))

-- ---- how it goes on

-- what is awaited is had, and what was got
awaited_had : (got : List Column) (awaited : List Awaited) (a : Awaited) → In a awaited
    → In (stretch_of a.ask) (had got awaited)
unfolding had
awaited_had got awaited a i =
    in_behind (stretch_of a.ask) (map got_stretch got) (map awaited_stretch awaited) (in_map awaited_stretch a awaited i)

got_had : (got : List Column) (awaited : List Awaited) (t : Stretch) → In t (map got_stretch got) → In t (had got awaited)
unfolding had
got_had got awaited t i = in_front t (map got_stretch got) (map awaited_stretch awaited) i

-- and nothing else
had_either : (P : Stretch → Type 0) (got : List Column) (awaited : List Awaited)
    → ((t : Stretch) → In t (map got_stretch got) → P t) → ((a : Awaited) → In a awaited → P (stretch_of a.ask))
    → (t : Stretch) → In t (had got awaited) → P t
unfolding had
had_either P got awaited f g t i = elim (in_either t (map got_stretch got) (map awaited_stretch awaited) i) [
  | inl a ↦ f t a
  | inr b ↦ let m = in_mapped awaited_stretch t awaited b in subst P (sym m.2) (g m.0 m.1)
]

-- no new ask is at the place of a command that was sent
none_again : (places : List Place) (Known : Stretch → Type 0) (out : List ℕ) (got : List Column) (awaited : List Awaited)
    (a : Awaited) (b : Ask) → IsKept out got awaited a → IsNew places Known out (had got awaited) b
    → place_of a.ask ≡ place_of b → ⊥
none_again places Known out got awaited a b (inl w) n e =
    n.new (stretch_of a.ask) (awaited_had got awaited a w) (ap (λ (x : Place). x.1) e) (ap (λ (x : Place). x.3) e)
none_again places Known out got awaited a b (inr (inl g)) n e =
    n.new (stretch_of a.ask) (got_had got awaited (stretch_of a.ask) g) (ap (λ (x : Place). x.1) e)
    (ap (λ (x : Place). x.3) e)
none_again places Known out got awaited a b (inr (inr o)) n e =
    let same : a.ask.component ≡ b.component = ap (λ (x : Place). x.2) e in
    cc (sym (subst (λ (k : ℕ). among k out ≡ true) same o) ∙ n.there)

-- new ones are sent
pub asked_sent : (places : List Place) (Known : Stretch → Type 0) (out : List ℕ) (h : Held) (got : List Column)
    (awaited sent : List Awaited) (due : List Ask) → AreAsked places Known out (nonce_at h h.count) got awaited sent
    → AreNew places Known out (had got awaited) due
    → AreAsked places Known out (nonce_at h (h.count + length (read_commands h due))) got (awaited ++ read_commands h due)
    (sent ++ read_commands h due)
unfolding read_commands
asked_sent places Known out h got awaited sent due x n =
    let new : List Awaited = numbered h false h.count (carrying_none due) in
    let ask : Awaited → Place = λ (a : Awaited). place_of a.ask in
    let long : length (numbered h false h.count (carrying_none due)) ≡ length (carrying_none due) =
    numbered_long h h.count due ∙ sym (length-map due (λ (a : Ask). record { ask = a; bytes = [] })) in
    record {
      known = had_either Known got (awaited ++ new) (λ t i. x.known t (got_had got awaited t i))
          (λ a i. elim (in_either a awaited new i) [
            | inl c ↦ x.known (stretch_of a.ask) (awaited_had got awaited a c)
            | inr d ↦ (n.each a.ask (numbered_ask h h.count due a d)).known
          ]);
      listed = λ a i. elim (in_either a sent new i) [
        | inl c ↦ x.listed a c
        | inr d ↦ (n.each a.ask (numbered_ask h h.count due a d)).listed
      ];
      kept = λ a i. elim (in_either a sent new i) [
        | inl c ↦ elim (x.kept a c) [ inl w ↦ inl (in_front a awaited new w) | inr o ↦ inr o ]
        | inr d ↦ inl (in_behind a awaited new d)
      ];
      once = rw (map-append ask sent new, numbered_places h h.count due)
          (distinct_more (places_of sent) (map place_of due) x.once n.once (λ y i j.
          let old = in_mapped ask y sent i in
          let due_one = in_mapped place_of y due j in
          none_again places Known out got awaited old.0 due_one.0 (x.kept old.0 old.1) (n.each due_one.0 due_one.1)
          (sym old.2 ∙ due_one.2)));
      nonces = record {
        below = λ a i. elim (in_either a awaited new i) [
          | inl c ↦ omega (arith, x.nonces.below a c)
          | inr d ↦ omega (arith, (numbered_above h false h.count (carrying_none due) a d).1, long)
        ];
        differ = λ a b i j e. elim (in_either a awaited new i) [
          | inl c ↦ elim (in_either b awaited new j) [
            | inl f ↦ x.nonces.differ a b c f e
            | inr f ↦ absurd (omega (
              arith,
              x.nonces.below a c,
              e,
              (numbered_above h false h.count (carrying_none due) b f).0,
            ))
          ]
          | inr d ↦ elim (in_either b awaited new j) [
            | inl f ↦ absurd (omega (
              arith,
              x.nonces.below b f,
              e,
              (numbered_above h false h.count (carrying_none due) a d).0,
            ))
            | inr f ↦ numbered_differ h false h.count (carrying_none due) a b d f e
          ]
        ];
      };
    }

-- fewer are awaited
fewer_below : (top : ℕ) (p : Awaited → Bool) (xs : List Awaited) → AreBelow top xs → AreBelow top (filter p xs)
fewer_below top p xs b = record {
  below = λ a i. b.below a (in_filtered p a xs i).0;
  differ = λ a c i j e. b.differ a c (in_filtered p a xs i).0 (in_filtered p c xs j).0 e;
}

carried_long : (n : ℕ) (bytes : List ℕ) → length (carried n bytes) ≡ n
carried_long n bytes =
    let none : ℕ = 0 in
    omega (
      arith,
      length-append (take n bytes) (replicate (n - length bytes) 0),
      length-replicate (n - length bytes) none,
      length-take n bytes,
    )

-- the reply gives the bytes that were asked
got_its : (a : Awaited) (r : Reply) → got_stretch (got_of a r) ≡ stretch_of a.ask
got_its a r =
    ap (λ (n : ℕ). record { position = a.ask.position; first = a.ask.offset; end = a.ask.offset + n })
    (carried_long a.ask.length r.payload)

got_more : (got : List Column) (c : Column) (t : Stretch) → In t (map got_stretch got)
    → In t (map got_stretch (got ++ c ∷ []))
got_more got c t i = rw (map-append got_stretch got (c ∷ [])) (in_front t (map got_stretch got) (got_stretch c ∷ []) i)

got_last : (got : List Column) (c : Column) → In (got_stretch c) (map got_stretch (got ++ c ∷ []))
got_last got c =
    rw (map-append got_stretch got (c ∷ []))
    (in_behind (got_stretch c) (map got_stretch got) (got_stretch c ∷ []) (inl refl))

-- one is performed
pub asked_replied : (places : List Place) (Known : Stretch → Type 0) (out : List ℕ) (top : ℕ) (got : List Column)
    (awaited sent : List Awaited) (a : Awaited) (r : Reply) → In a awaited → AreAsked places Known out top got awaited sent
    → AreAsked places Known out top (got ++ got_of a r ∷ []) (others awaited a.command.nonce) sent
unfolding others
asked_replied places Known out top got awaited sent a r i x =
    let other : Awaited → Bool = λ (y : Awaited). not (y.command.nonce == a.command.nonce) in
    let its : Known (stretch_of a.ask) = x.known (stretch_of a.ask) (awaited_had got awaited a i) in
    record {
      known = had_either Known (got ++ got_of a r ∷ []) (filter other awaited)
          (λ t j.
          elim (in_either t (map got_stretch got) (got_stretch (got_of a r) ∷ [])
          (rw (map-append got_stretch got (got_of a r ∷ [])) at j)) [
            | inl c ↦ x.known t (got_had got awaited t c)
            | inr d ↦ elim d [
              | inl e ↦ subst Known (sym (e ∙ got_its a r)) its
              | inr none ↦ absurd none
            ]
          ])
          (λ b j. x.known (stretch_of b.ask) (awaited_had got awaited b (in_filtered other b awaited j).0));
      listed = x.listed;
      kept = λ b j. elim (x.kept b j) [
        | inl w ↦ elim (cases_eq b.command.nonce a.command.nonce) [
          | inl same ↦
              let it : b ≡ a = x.nonces.differ b a w i same in
              inr (inl (subst (λ (y : Awaited). In (stretch_of y.ask) (map got_stretch (got ++ got_of a r ∷ []))) (sym it)
              (subst (λ (t : Stretch). In t (map got_stretch (got ++ got_of a r ∷ []))) (got_its a r)
              (got_last got (got_of a r)))))
          | inr differs ↦ inl (in_filter other b awaited w (rw (ne_eqb b.command.nonce a.command.nonce differs) refl))
        ]
        | inr (inl g) ↦ inr (inl (got_more got (got_of a r) (stretch_of b.ask) g))
        | inr (inr o) ↦ inr (inr o)
      ];
      once = x.once;
      nonces = fewer_below top other awaited x.nonces;
    }

-- a component is out from now on
pub asked_timed : (places : List Place) (Known : Stretch → Type 0) (out gone : List ℕ) (top k : ℕ) (got : List Column)
    (awaited sent : List Awaited) → ((j : ℕ) → among j out ≡ true → among j gone ≡ true) → among k gone ≡ true
    → AreAsked places Known out top got awaited sent → AreAsked places Known gone top got (not_of k awaited) sent
unfolding not_of
asked_timed places Known out gone top k got awaited sent more here x =
    let other : Awaited → Bool = λ (a : Awaited). not (is_of k a) in
    record {
      known = had_either Known got (filter other awaited) (λ t j. x.known t (got_had got awaited t j))
          (λ b j. x.known (stretch_of b.ask) (awaited_had got awaited b (in_filtered other b awaited j).0));
      listed = x.listed;
      kept = λ b j. elim (x.kept b j) [
        | inl w ↦ elim (cases_Bool (is_of k b)) [
          | inl t ↦
              let same : b.ask.component ≡ k = eqb-true b.ask.component k t in
              inr (inr (subst (λ (n : ℕ). among n gone ≡ true) (sym same) here))
          | inr f ↦ inl (in_filter other b awaited w (rw f refl))
        ]
        | inr (inl g) ↦ inr (inl g)
        | inr (inr o) ↦ inr (inr (more b.ask.component o))
      ];
      once = x.once;
      nonces = fewer_below top other awaited x.nonces;
    }

-- ---- components that timed out

abbrev components : List TimedOut → List ℕ
components timed = map (λ (t : TimedOut). t.ask.component) timed

or_more : (a b c : Bool) → (b ≡ true → c ≡ true) → (a || b) ≡ true → (a || c) ≡ true
or_more true b c f e = refl
or_more false b c f e = f e

timed_stays : (t : TimedOut) (timed : List TimedOut) (j : ℕ) → among j (components timed) ≡ true
    → among j (components (timed_with t timed)) ≡ true
unfolding timed_with
timed_stays t [] j e = absurd (cc e)
timed_stays t (u ∷ us) j e = elim (cases_Bool (nat_lt t.ask.component u.ask.component)) [
  | inl less ↦ rw less (or_right (t.ask.component == j) (among j (components (u ∷ us))) e)
  | inr not_less ↦ rw not_less (or_more (u.ask.component == j) (among j (components us))
      (among j (components (timed_with t us))) (timed_stays t us j) e)
]

timed_there : (t : TimedOut) (timed : List TimedOut) → among t.ask.component (components (timed_with t timed)) ≡ true
unfolding timed_with
timed_there t [] = rw (eq-eqb t.ask.component t.ask.component refl) refl
timed_there t (u ∷ us) = elim (cases_Bool (nat_lt t.ask.component u.ask.component)) [
  | inl less ↦ rw less (or_left (t.ask.component == t.ask.component) (among t.ask.component (components (u ∷ us)))
      (eq-eqb t.ask.component t.ask.component refl))
  | inr not_less ↦ rw not_less (or_right (u.ask.component == t.ask.component)
      (among t.ask.component (components (timed_with t us))) (timed_there t us))
]

first_of_these : (k : ℕ) (a : Awaited) (xs : List Awaited)
    → ((b : Awaited) → In b (a ∷ xs) → b.ask.component ≡ k) → (first_of a xs).ask.component ≡ k
unfolding first_of
first_of_these k a [] f = f a (inl refl)
first_of_these k a (b ∷ bs) f = elim (cases_Bool (before b.ask a.ask)) [
  | inl t ↦ rw t (first_of_these k b bs (λ c i. f c (inr i)))
  | inr n ↦ rw n (first_of_these k a bs (λ c i. elim i [ inl e ↦ f c (inl e) | inr j ↦ f c (inr (inr j)) ]))
]

-- they stay out
pub stays_out : (h : Held) (timed : List TimedOut) (a : Awaited) (xs : List Awaited) (j : ℕ) → among j (outs h timed) ≡ true
    → among j (outs h (timed_after timed a xs)) ≡ true
unfolding outs
stays_out h timed a xs j e =
    list_any-append (λ (n : ℕ). n == j) (missing_of h) (components (timed_after timed a xs))
    ∙ or_more (among j (missing_of h)) (among j (components timed)) (among j (components (timed_after timed a xs)))
    (timed_stays (first_of a xs) timed j)
    (sym (list_any-append (λ (n : ℕ). n == j) (missing_of h) (components timed)) ∙ e)

-- and so is the one of which these commands were awaited
pub is_out_now : (h : Held) (timed : List TimedOut) (k : ℕ) (awaited : List Awaited) (a : Awaited) (xs : List Awaited)
    → of_component k awaited ≡ a ∷ xs → among k (outs h (timed_after timed a xs)) ≡ true
unfolding outs of_component
is_out_now h timed k awaited a xs e =
    let same : (first_of a xs).ask.component ≡ k = first_of_these k a xs (λ b i.
    eqb-true b.ask.component k (in_filtered (is_of k) b awaited (subst (λ (ys : List Awaited). In b ys) (sym e) i)).1) in
    list_any-append (λ (n : ℕ). n == k) (missing_of h) (components (timed_after timed a xs))
    ∙ or_right (among k (missing_of h)) (among k (components (timed_after timed a xs)))
    (subst (λ (n : ℕ). among n (components (timed_after timed a xs)) ≡ true) same (timed_there (first_of a xs) timed))
