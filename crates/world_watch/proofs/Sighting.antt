-- Sightings of messages, as further messages are sent.
use Rattle.std.proofs.Common.{◌≡◌, ℕ, ◌+◌, ◌++◌, ◌∷◌, ◌&&◌, [], List, Bool, true, false, not, Option, Some, None, is_some, is_none, length, position, slice_get, refl, sym, ap, subst, ◌∙◌, arith, inl, inr}
use Rattle.std.specs.Prelude.{nat_eq}
use Rattle.std.specs.Cmp.Lexicographic.{same_text}
use Rattle.std.proofs.lemmas.Bool.{cases_eq, and_parts}
use Rattle.std.proofs.lemmas.Bool.Decides.{nat_tests}
use Rattle.std.proofs.lemmas.List.{length-append}
use Rattle.osd_lists.proofs.Slices.{get_last, length_more}
use Rattle.osd_objects.proofs.Entries.{lookup_inserted, lookup_beside, lookup_set, lookup_set_beside}
use Rattle.scenario_text.specs.declared.line.Party.TheVariants as party
use Rattle.world_history.specs.declared.messages.Sent.{Sent}
use Rattle.world_history.specs.Guesses.{was_sent}
use Rattle.world_watch.specs.Sighted.{Table, nonce_in, of_nonce, is_same, is_same_at, first_same, first_in, sighted, with_number, with_sighting, sees_message}
use Rattle.world_watch.specs.Tied.{AreBelow, AreOf, BeginWith}
use Rattle.world_watch.proofs.Finding.{below_more, below_push, get_front, first_begins, first_pushed, or_end, place_pushed, place_sent, place_alike}

-- ---- in other messages that begin alike

in_begins : (ms sent : List Sent) (d : ℕ) (bytes : List ℕ) → BeginWith ms sent → (o : Option (List ℕ))
    → ((ns : List ℕ) → o ≡ Some ns → AreBelow (length sent) ns) → first_in ms d bytes o ≡ first_in sent d bytes o
in_begins ms sent d bytes w None h = refl
in_begins ms sent d bytes w (Some ns) h = first_begins ms sent d bytes ns w (h ns refl)

pub sighted_begins : (ms sent : List Sent) (t : Table) (d : ℕ) (bytes : List ℕ) → BeginWith ms sent → AreOf sent t
    → sighted t ms d bytes ≡ sighted t sent d bytes
sighted_begins ms sent t d bytes w a =
    in_begins ms sent d bytes w (of_nonce t (nonce_in bytes)) (λ ns e. a.below (nonce_in bytes) ns e)

-- ---- what is sighted was sent

pub none_sent : (sent : List Sent) (t : Table) (d : ℕ) (bytes : List ℕ) → AreOf sent t
    → is_none (sighted t sent d bytes) ≡ not (was_sent sent d bytes)
none_sent sent t d bytes a = ap (λ (o : Option ℕ). is_none o) (a.first d bytes) ∙ place_sent sent d bytes

-- ---- messages that change, but for their receiver and bytes

pub of_changed : (sent sent' : List Sent) (t : Table) → length sent' ≡ length sent
    → ((k d : ℕ) (bytes : List ℕ) → is_same_at d bytes (slice_get sent' k) ≡ is_same_at d bytes (slice_get sent k))
    → AreOf sent t → AreOf sent' t
of_changed sent sent' t n same a = record {
  below = λ nonce ns e. subst (λ k. AreBelow k ns) (sym n) (a.below nonce ns e);
  first = λ d bytes.
      sighted_begins sent' sent t d bytes (λ j l x bs. same j x bs) a ∙ a.first d bytes
      ∙ sym (place_alike sent sent' d bytes n (λ k. same k d bytes));
}

-- ---- a message more

front : (sent : List Sent) (m : Sent) → BeginWith (sent ++ m ∷ []) sent
front sent m k l d bytes = ap (λ o. is_same_at d bytes o) (get_front sent m k l)

more_below : (sent : List Sent) (m : Sent) (ns : List ℕ) → AreBelow (length sent) ns
    → AreBelow (length (sent ++ m ∷ [])) ns
more_below sent m ns b =
    below_more (length sent) (length (sent ++ m ∷ [])) (omega (arith, length_more sent m)) ns b

-- the first stays where there is one
or_end_stays : (o : Option ℕ) (b : Bool) (end : ℕ) → (b ≡ true → is_some o ≡ true) → o ≡ or_end o b end
or_end_stays None true end h = absurd (cc (h refl))
or_end_stays None false end h = refl
or_end_stays (Some k) b end h = refl

-- which isn't the first of its like, or is for no drive
pub of_more : (sent : List Sent) (m : Sent) (t : Table) → AreOf sent t
    → ((d : ℕ) (bytes : List ℕ) → is_same d bytes m ≡ true → is_some (sighted t sent d bytes) ≡ true)
    → AreOf (sent ++ m ∷ []) t
of_more sent m t a h = record {
  below = λ nonce ns e. more_below sent m ns (a.below nonce ns e);
  first = λ d bytes.
      sighted_begins (sent ++ m ∷ []) sent t d bytes (front sent m) a
      ∙ or_end_stays (sighted t sent d bytes) (is_same d bytes m) (length sent) (h d bytes)
      ∙ ap (λ (o : Option ℕ). or_end o (is_same d bytes m) (length sent)) (a.first d bytes)
      ∙ sym (place_pushed (is_same d bytes) sent m);
}

-- ---- or is sighted now

abbrev numbers_in : Option (List ℕ) → List ℕ
numbers_in None = []
numbers_in (Some ns) = ns

-- a table in which a number stands behind those of its nonce, and else is as before
record Grown (t : Table) (number nonce : ℕ) (t' : Table) : Type 0 where
  here : of_nonce t' nonce ≡ Some (numbers_in (of_nonce t nonce) ++ number ∷ [])
  beside : (q : ℕ) → (q ≡ nonce → ⊥) → of_nonce t' q ≡ of_nonce t q

grown_by : (t : Table) (number nonce : ℕ) (o : Option (List ℕ)) → of_nonce t nonce ≡ o
    → Grown t number nonce (with_number t number nonce o)
grown_by t number nonce None e = record {
  here = lookup_inserted t nonce (number ∷ []) ∙ ap (λ x. Some (numbers_in x ++ number ∷ [])) (sym e);
  beside = λ q ne. lookup_beside t nonce q (number ∷ []) ne;
}
grown_by t number nonce (Some ns) e = record {
  here = lookup_set t nonce (ns ++ number ∷ []) (rw e refl) ∙ ap (λ x. Some (numbers_in x ++ number ∷ [])) (sym e);
  beside = λ q ne. lookup_set_beside t nonce q (ns ++ number ∷ []) ne;
}

numbers_below : (n : ℕ) (o : Option (List ℕ)) → ((ns : List ℕ) → o ≡ Some ns → AreBelow n ns)
    → AreBelow n (numbers_in o)
numbers_below n None h = tt
numbers_below n (Some ns) h = h ns refl

numbers_first : (ms : List Sent) (d : ℕ) (bytes : List ℕ) (o : Option (List ℕ))
    → first_same ms d bytes (numbers_in o) ≡ first_in ms d bytes o
unfolding first_same
numbers_first ms d bytes None = refl
numbers_first ms d bytes (Some ns) = refl

grown_below : (sent : List Sent) (m : Sent) (t t' : Table) (nonce : ℕ) → AreOf sent t
    → Grown t (length sent) nonce t' → (q : ℕ) (ns : List ℕ) → of_nonce t' q ≡ Some ns
    → AreBelow (length (sent ++ m ∷ [])) ns
grown_below sent m t t' nonce a g q ns e = elim (cases_eq q nonce) [
  | inl same ↦
      let is : of_nonce t' nonce ≡ Some ns = ap (λ x. of_nonce t' x) (sym same) ∙ e in
      let lists : Some (numbers_in (of_nonce t nonce) ++ length sent ∷ []) ≡ Some ns = sym g.here ∙ is in
      let list : numbers_in (of_nonce t nonce) ++ length sent ∷ [] ≡ ns = cc in
      let b : AreBelow (length sent + 1) (numbers_in (of_nonce t nonce) ++ length sent ∷ []) =
      below_push (length sent) (numbers_in (of_nonce t nonce))
      (numbers_below (length sent) (of_nonce t nonce) (λ ks h. a.below nonce ks h)) in
      subst (λ k. AreBelow k ns) (sym (length_more sent m)) (subst (λ l. AreBelow (length sent + 1) l) list b)
  | inr ne ↦ more_below sent m ns (a.below q ns (sym (g.beside q ne) ∙ e))
]

-- the bytes of a message that is the same
same_bytes : (d : ℕ) (bytes : List ℕ) (m : Sent) → is_same d bytes m ≡ true → m.bytes ≡ bytes
same_bytes d bytes m e = same_text m.bytes bytes (sym (and_parts _ _ e).1)

-- of bytes with its nonce
grown_here : (sent : List Sent) (m : Sent) (t t' : Table) (d : ℕ) (bytes : List ℕ) → AreOf sent t
    → Grown t (length sent) (nonce_in bytes) t'
    → sighted t' (sent ++ m ∷ []) d bytes
    ≡ or_end (position (is_same d bytes) sent) (is_same d bytes m) (length sent)
grown_here sent m t t' d bytes a g =
    let ns : List ℕ = numbers_in (of_nonce t (nonce_in bytes)) in
    let below : AreBelow (length sent) ns =
    numbers_below (length sent) (of_nonce t (nonce_in bytes)) (λ ks e. a.below (nonce_in bytes) ks e) in
    let old : first_same (sent ++ m ∷ []) d bytes ns ≡ position (is_same d bytes) sent =
    first_begins (sent ++ m ∷ []) sent d bytes ns (front sent m) below
    ∙ numbers_first sent d bytes (of_nonce t (nonce_in bytes)) ∙ a.first d bytes in
    ap (λ (o : Option (List ℕ)). first_in (sent ++ m ∷ []) d bytes o) g.here
    ∙ first_pushed (sent ++ m ∷ []) d bytes ns (length sent)
    ∙ ap (λ (o : Option ℕ). or_end o (is_same_at d bytes (slice_get (sent ++ m ∷ []) (length sent))) (length sent)) old
    ∙ ap (λ (o : Option Sent). or_end (position (is_same d bytes) sent) (is_same_at d bytes o) (length sent))
    (get_last sent m)

-- of bytes with another one
grown_beside : (sent : List Sent) (m : Sent) (t t' : Table) (d : ℕ) (bytes : List ℕ) → AreOf sent t
    → Grown t (length sent) (nonce_in m.bytes) t' → (nonce_in bytes ≡ nonce_in m.bytes → ⊥)
    → sighted t' (sent ++ m ∷ []) d bytes
    ≡ or_end (position (is_same d bytes) sent) (is_same d bytes m) (length sent)
grown_beside sent m t t' d bytes a g ne =
    ap (λ (o : Option (List ℕ)). first_in (sent ++ m ∷ []) d bytes o) (g.beside (nonce_in bytes) ne)
    ∙ sighted_begins (sent ++ m ∷ []) sent t d bytes (front sent m) a ∙ a.first d bytes
    ∙ or_end_stays (position (is_same d bytes) sent) (is_same d bytes m) (length sent)
    (λ e. absurd (ne (ap (λ (b : List ℕ). nonce_in b) (sym (same_bytes d bytes m e)))))

of_grown : (sent : List Sent) (m : Sent) (t t' : Table) → AreOf sent t
    → Grown t (length sent) (nonce_in m.bytes) t' → AreOf (sent ++ m ∷ []) t'
of_grown sent m t t' a g = record {
  below = λ q ns e. grown_below sent m t t' (nonce_in m.bytes) a g q ns e;
  first = λ d bytes. elim (cases_eq (nonce_in bytes) (nonce_in m.bytes)) [
    | inl same ↦
        grown_here sent m t t' d bytes a (subst (λ n. Grown t (length sent) n t') (sym same) g)
        ∙ sym (place_pushed (is_same d bytes) sent m)
    | inr ne ↦ grown_beside sent m t t' d bytes a g ne ∙ sym (place_pushed (is_same d bytes) sent m)
  ];
}

-- ---- a message to a drive

-- the receiver and the bytes are those that were sighted
same_drive : (drive d : ℕ) (bytes : List ℕ) (m : Sent) → m.to ≡ party.Drive drive → is_same d bytes m ≡ true
    → drive ≡ d
same_drive drive d bytes m to e =
    let test : nat_eq drive d ≡ true = (and_parts _ _ (rw to at e)).0 in
    grind (arith, nat_tests, test)

seen_by : (sent : List Sent) (m : Sent) (t : Table) (drive : ℕ) → m.to ≡ party.Drive drive → AreOf sent t
    → (o : Option ℕ) → sighted t sent drive m.bytes ≡ o
    → AreOf (sent ++ m ∷ []) (with_sighting t (length sent) (nonce_in m.bytes) o)
seen_by sent m t drive to a None e =
    of_grown sent m t _ a (grown_by t (length sent) (nonce_in m.bytes) (of_nonce t (nonce_in m.bytes)) refl)
seen_by sent m t drive to a (Some k) e = of_more sent m t a (λ d bytes same.
    ap (λ x. is_some (sighted t sent x bytes)) (sym (same_drive drive d bytes m to same))
    ∙ ap (λ x. is_some (sighted t sent drive x)) (sym (same_bytes d bytes m same))
    ∙ ap (λ x. is_some x) e)

pub of_seen : (ms sent : List Sent) (m : Sent) (t : Table) (drive : ℕ) → m.to ≡ party.Drive drive → AreOf sent t
    → BeginWith ms sent → AreOf (sent ++ m ∷ []) (sees_message t ms (length sent) drive m.bytes)
of_seen ms sent m t drive to a w =
    seen_by sent m t drive to a (sighted t ms drive m.bytes) (sym (sighted_begins ms sent t drive m.bytes w a))
