-- The list of the replies that files await, over a step.
use Rattle.std.specs.Prelude.{ℕ, Bool, true, false, List, [], ◌∷◌, Option, None, ◌≡◌, ◌==◌, ◌&&◌, ◌||◌, not, refl, Result, Ok, Err, OnOk}
use Rattle.std.specs.Ordering.{nat_cmp}
use Rattle.std.specs.List.{AllByRecursion}
use Rattle.std.specs.List.Sorted.{IsStrictlySortedBy}
use Rattle.std.specs.declared.cmp.Ordering.TheVariants.{Less}
use Rattle.std.specs.BTreeMap.{is_at}
use Rattle.std.specs.Map.{keys_of, set_value}
use Rattle.std.proofs.Common.{arith, inl, inr, ap, sym, subst, ◌∙◌}
use Rattle.std.proofs.lemmas.Bool.{cases_Bool}
use Rattle.std.proofs.lemmas.Bool.Decides.{nat_tests}
use Rattle.std.proofs.Math.Bool.{or-false}
use Rattle.osd_lists.specs.declared.memory.Memory.{Memory}
use Rattle.osd_lists.proofs.Tests.{same_number, at_number}
use Rattle.server_rules.specs.declared.server.Server.{Server}
use Rattle.server_rules.specs.Files.{Step as RulesStep}
use Rattle.file_jobs.specs.declared.job.FileState.{FileState}
use Rattle.server_state.specs.Index.{Keys, has}
use Rattle.server_state.specs.declared.step.Step.{Step}
use Rattle.server_state.specs.States.{Did}
use Rattle.server_state.specs.Tables.{Table, entry_at, without}
use Rattle.server_state.specs.Replies.{file_awaits, job_awaits, AreListed, AreListedBut, OthersStay}

-- ---- a list without and with what is awaited

pub nothing_off : (b c : Bool) → c ≡ (not (b && false) && c)
nothing_off true c = refl
nothing_off false c = refl

pub nothing_on : (b c : Bool) → c ≡ ((b && false) || c)
nothing_on true c = refl
nothing_on false c = refl

off : (b a : Bool) → (not (b && a) && a) ≡ (not b && a)
off true true = refl
off true false = refl
off false a = refl

on : (b a : Bool) → ((b && a) || (not b && a)) ≡ a
on true true = refl
on true false = refl
on false a = refl

-- what is at number n, also asked at m
asked_there : (t : Table) (n m x d : ℕ) (o : Option FileState) → entry_at t n ≡ o →
    ((n == m) && file_awaits o x d) ≡ ((n == m) && file_awaits (entry_at t m) x d)
asked_there t n m x d o e = elim (cases_Bool (n == m)) [
  | inl same ↦ rw same
      (ap (λ (p : Option FileState). file_awaits p x d) (sym e ∙ ap (λ (k : ℕ). entry_at t k) (same_number n m same)))
  | inr other ↦ rw other refl
]

-- what a file awaits is taken off the list
pub taken_off : (t : Table) (old new : Keys) (n : ℕ) (o : Option FileState) → entry_at t n ≡ o → AreListed old t →
    ((x d m : ℕ) → has new x d m ≡ (not ((n == m) && file_awaits o x d) && has old x d m)) → AreListedBut n new t
taken_off t old new n o e a h = λ x d m.
    h x d m
    ∙ ap (λ (z : Bool). not z && has old x d m) (asked_there t n m x d o e)
    ∙ ap (λ (z : Bool). not ((n == m) && file_awaits (entry_at t m) x d) && z) (a x d m)
    ∙ off (n == m) (file_awaits (entry_at t m) x d)

-- and put on it
pub put_on : (t : Table) (old new : Keys) (n : ℕ) (o : Option FileState) → entry_at t n ≡ o → AreListedBut n old t →
    ((x d m : ℕ) → has new x d m ≡ (((n == m) && file_awaits o x d) || has old x d m)) → AreListed new t
put_on t old new n o e a h = λ x d m.
    h x d m
    ∙ ap (λ (z : Bool). z || has old x d m) (asked_there t n m x d o e)
    ∙ ap (λ (z : Bool). ((n == m) && file_awaits (entry_at t m) x d) || z) (a x d m)
    ∙ on (n == m) (file_awaits (entry_at t m) x d)

-- ---- meanwhile that file changes and no other

not_at : (n m k : ℕ) → is_at (nat_cmp n) k ≡ true → (n == m) ≡ false → is_at (nat_cmp m) k ≡ false
not_at n m k here other = grind (arith, nat_tests, at_number n k, at_number m k, here, other)

-- another file is found among the others
found_without : (t : Table) (n m : ℕ) → (n == m) ≡ false → entry_at (without n t) m ≡ entry_at t m
found_without [] n m other = refl
found_without (e ∷ es) n m other = elim (cases_Bool (is_at (nat_cmp n) e.0)) [
  | inl here ↦ rw (here, not_at n m e.0 here other) refl
  | inr there ↦ rw there
      (elim (cases_Bool (is_at (nat_cmp m) e.0))
      [ inl found ↦ rw found refl | inr not_found ↦ rw not_found (found_without es n m other) ])
]

stays_at : (n m : ℕ) (old new : Table) → OthersStay n old new → (n == m) ≡ false → entry_at new m ≡ entry_at old m
stays_at n m old new others other =
    sym (found_without new n m other) ∙ ap (λ (t : Table). entry_at t m) others ∙ found_without old n m other

pub still_listed : (n : ℕ) (ks : Keys) (old new : Table) → OthersStay n old new → AreListedBut n ks old → AreListedBut n ks new
still_listed n ks old new others a = λ x d m. elim (cases_Bool (n == m)) [
  | inl here ↦ a x d m ∙ rw here refl
  | inr there ↦ a x d m
      ∙ ap (λ (o : Option FileState). not (n == m) && file_awaits o x d) (sym (stays_at n m old new others there))
]

pub others_set : (t : Table) (n : ℕ) (g : FileState) → OthersStay n t (set_value (is_at (nat_cmp n)) t g)
others_set [] n g = refl
others_set (e ∷ es) n g = elim (cases_Bool (is_at (nat_cmp n) e.0)) [
  | inl here ↦ rw (here, here) refl
  | inr there ↦ rw (there, there) (ap (λ (t : Table). e ∷ t) (others_set es n g))
]

-- ---- all files, in order

-- no number is twice
pub none_again : (k : ℕ) (t : Table) → AllByRecursion (λ n. nat_cmp k n ≡ Less) (keys_of t) → entry_at t k ≡ None
none_again k [] a = refl
none_again k (e ∷ es) a = rw (not_equal k e.0 a.0) (none_again k es a.1)
  where
    not_equal : (k n : ℕ) → nat_cmp k n ≡ Less → is_at (nat_cmp k) n ≡ false
    not_equal k n l = grind (arith, nat_tests, at_number k n, l)

pub sorted_rest : (n : ℕ) (ks : List ℕ) → IsStrictlySortedBy nat_cmp (n ∷ ks) →
    AllByRecursion (λ k. nat_cmp n k ≡ Less) ks × IsStrictlySortedBy nat_cmp ks
unfolding IsStrictlySortedBy
sorted_rest n ks s = s

-- those that are left are still to be listed
pub record AreToList (ks : Keys) (left all : Table) : Type 0 where
  pub listed : (x d m : ℕ) → (file_awaits (entry_at left m) x d || has ks x d m) ≡ file_awaits (entry_at all m) x d
  pub sorted : IsStrictlySortedBy nat_cmp (keys_of left)

pub at_first : (t : Table) → IsStrictlySortedBy nat_cmp (keys_of t) → AreToList [] t t
unfolding has
at_first t s = record { listed = λ x d m. or-false (file_awaits (entry_at t m) x d); sorted = s }

next_listed : (n m x d : ℕ) (f : FileState) (rest : Table) (old : Bool) → entry_at rest n ≡ None →
    (file_awaits (entry_at rest m) x d || (((n == m) && job_awaits f.job x d) || old))
    ≡ (file_awaits (entry_at ((n, f) ∷ rest) m) x d || old)
next_listed n m x d f rest old none = elim (cases_Bool (n == m)) [
  | inl here ↦ rw (found n m here, here, sym (same_number n m here), none) refl
  | inr there ↦ rw (missed n m there, there) refl
]
  where
    found : (n m : ℕ) → (n == m) ≡ true → is_at (nat_cmp m) n ≡ true
    found n m e = grind (arith, nat_tests, at_number m n, e)

    missed : (n m : ℕ) → (n == m) ≡ false → is_at (nat_cmp m) n ≡ false
    missed n m e = grind (arith, nat_tests, at_number m n, e)

pub one_more : (ks next : Keys) (n : ℕ) (f : FileState) (left rest all : Table) → left ≡ (n, f) ∷ rest →
    ((x d m : ℕ) → has next x d m ≡ (((n == m) && job_awaits f.job x d) || has ks x d m)) → AreToList ks left all →
    AreToList next rest all
one_more ks next n f left rest all e h a =
    let b : AreToList ks ((n, f) ∷ rest) all = subst (λ (t : Table). AreToList ks t all) e a in
    let order = sorted_rest n (keys_of rest) b.sorted in
    record {
      listed = λ x d m.
          ap (λ (z : Bool). file_awaits (entry_at rest m) x d || z) (h x d m)
          ∙ next_listed n m x d f rest (has ks x d m) (none_again n rest order.0)
          ∙ b.listed x d m;
      sorted = order.1;
    }

pub at_last : (ks : Keys) (left all : Table) → left ≡ [] → AreToList ks left all → AreListed ks all
at_last ks left all e a = λ x d m. ap (λ (t : Table). file_awaits (entry_at t m) x d || has ks x d m) (sym e) ∙ a.listed x d m

-- no file, and none awaits anything
pub empty_listed : (ks : Keys) (t : Table) → ks ≡ [] → t ≡ [] → AreListed ks t
unfolding has
empty_listed ks t e h =
    subst (λ (z : Keys). AreListed z t) (sym e) (subst (λ (z : Table). AreListed [] z) (sym h) (λ x d m. refl))

-- ---- a step between

-- what was done is the step of the same server
pub did_between : (out : Step) (f : Server → RulesStep) (was old is new : Server) → old ≡ was → new ≡ is → Did out is (f old) →
    Did out new (f was)
did_between out f was old is new e h did =
    subst (λ (s : Server). Did out s (f was)) (sym h) (subst (λ (s : Server). Did out is (f s)) e did)

pub on_each : {A P Q R S T U : Type 0} (r : Result A Memory) → (P → Q → R → S → T → U) → OnOk r P → OnOk r Q → OnOk r R →
    OnOk r S → OnOk r T → OnOk r U
on_each (Ok a) f p q u s v = f p q u s v
on_each (Err e) f p q u s v = tt

pub on_that : {A P T : Type 0} (r : Result A Memory) → (P → T) → OnOk r P → OnOk r T
on_that (Ok a) f p = f p
on_that (Err e) f p = tt
