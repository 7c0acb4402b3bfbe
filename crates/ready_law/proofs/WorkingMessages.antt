-- The messages of a call that works on drives, beside what it awaits.
use Rattle.std.proofs.Common.{◌≡◌, ◌≢◌, ◌+◌, ◌||◌, not, ℕ, suc, Bool, true, List, [], ◌∷◌, ◌++◌, length, map, filter, nat_lt, ◌==◌, refl, sym, ap, subst, ◌∙◌, inl, inr}
use Rattle.std.specs.List.{AllByRecursion}
use Rattle.std.proofs.lemmas.Bool.{ne_eqb}
use Rattle.std.proofs.lemmas.List.{length-map, length-append}
use Rattle.std.proofs.lemmas.List.Elements.{filter-append}
use Rattle.server_rules.specs.Laws.{In}
use Rattle.server_rules.proofs.Members.{in_behind, in_either, in_map, in_filter}
use Rattle.client_rules.specs.Commands.{others}
use Rattle.client_rules.specs.Laws.{nonce_of}
use Rattle.client_rules.specs.Messages.{to_drive}
use Rattle.exchange_law.specs.ClientNonces.{NoneIs, AllDiffer}
use Rattle.exchange_law.specs.Doing.{posted}
use Rattle.scenario_text.specs.declared.names.TheConstants.{DRIVES}
use Rattle.world_history.specs.ClientNames.{Awaited}
use Rattle.world_history.specs.declared.messages.Message.{Message}
use Rattle.world_history.specs.Handed.{Post, is_addressed, is_write_out, client_posts}
use Rattle.ready_law.proofs.Stages.{command_message, IsOf, AreOf, HaveOwnNonces, is_to_drive, commands_in}

-- ---- commands and replies

-- nothing is on its way for nothing
pub of_none : (c : ℕ) (ms : List Message) → AreOf c [] ms → ms ≡ []
of_none c [] q = refl
of_none c (m ∷ ms) q = absurd q

-- of an empty queue
pub none_of : (c : ℕ) (xs : List Awaited) → AreOf c xs [] → xs ≡ []
none_of c [] q = refl
none_of c (x ∷ xs) q = absurd q

-- the first message is of the first that waits
pub record IsFirstOf (c : ℕ) (xs : List Awaited) (m : Message) (ms : List Message) : Type 0 where
  pub first : Awaited
  pub others : List Awaited
  pub are : xs ≡ first ∷ others
  pub is : IsOf c first m
  pub rest : AreOf c others ms

pub first_of : (c : ℕ) (xs : List Awaited) (m : Message) (ms : List Message) → AreOf c xs (m ∷ ms) → IsFirstOf c xs m ms
first_of c [] m ms q = absurd q
first_of c (x ∷ xs) m ms q = record { first = x; others = xs; are = refl; is = q.0; rest = q.1 }

pub of_both : (c : ℕ) (xs ys : List Awaited) (ms ns : List Message) → AreOf c xs ms → AreOf c ys ns
    → AreOf c (xs ++ ys) (ms ++ ns)
of_both c [] ys [] ns p q = q
of_both c [] ys (m ∷ ms) ns p q = absurd p
of_both c (x ∷ xs) ys [] ns p q = absurd p
of_both c (x ∷ xs) ys (m ∷ ms) ns p q = (p.0, of_both c xs ys ms ns p.1 q)

-- their commands
pub of_commands : (c : ℕ) (xs : List Awaited) → AreOf c xs (map (command_message c) xs)
of_commands c [] = tt
of_commands c (x ∷ xs) = (inl refl, of_commands c xs)

-- ---- how many commands

pub commands_more : (ms ns : List Message) → commands_in (ms ++ ns) ≡ commands_in ms + commands_in ns
commands_more ms ns =
    ap (λ (xs : List Message). length xs) (filter-append (λ (m : Message). is_to_drive m.to) ms ns)
    ∙ length-append (filter (λ (m : Message). is_to_drive m.to) ms) (filter (λ (m : Message). is_to_drive m.to) ns)

pub commands_all : (c : ℕ) (xs : List Awaited) → commands_in (map (command_message c) xs) ≡ length xs
commands_all c [] = refl
commands_all c (x ∷ xs) = ap suc (commands_all c xs)

-- ---- what is posted

-- lines can name the drives
abbrev pub AreNamed : List Awaited → Type 0
AreNamed xs = AllByRecursion (λ (x : Awaited). nat_lt x.drive DRIVES ≡ true) xs

pub all_named : (xs : List Awaited) → ((x : Awaited) → In x xs → nat_lt x.drive DRIVES ≡ true) → AreNamed xs
all_named [] n = tt
all_named (x ∷ xs) n = (n x (inl refl), all_named xs (λ y i. n y (inr i)))

pub commands_posted : (c : ℕ) (wrote : Bool) (logged : ℕ) (xs : List Awaited) → AreNamed xs
    → posted (filter is_addressed (client_posts c wrote logged (map to_drive xs))) ≡ map (command_message c) xs
commands_posted c wrote logged [] n = refl
commands_posted c wrote logged (x ∷ xs) n =
    let rest = commands_posted c (wrote || is_write_out (to_drive x)) logged xs n.1 in
    rw n.0 (ap (λ (ms : List Message). command_message c x ∷ ms) rest)

pub posted_length : (ps : List Post) → length (posted ps) ≡ length ps
posted_length ps = length-map ps (λ (p : Post). p.message)

-- ---- nonces

none_is : (n m : ℕ) (ns : List ℕ) → NoneIs n ns → In m ns → n ≢ m
none_is n m [] d i = absurd i
none_is n m (k ∷ ns) d (inl e) = subst (λ (z : ℕ). n ≢ z) (sym e) d.0
none_is n m (k ∷ ns) d (inr i) = none_is n m ns d.1 i

-- of two lists whose nonces all differ
pub apart : (xs ys : List Awaited) → AllDiffer (map nonce_of (xs ++ ys)) → (x y : Awaited) → In x xs → In y ys
    → nonce_of x ≢ nonce_of y
apart [] ys d x y i j = absurd i
apart (z ∷ xs) ys d x y (inl e) j =
    subst (λ (v : Awaited). nonce_of v ≢ nonce_of y) (sym e)
    (none_is (nonce_of z) (nonce_of y) (map nonce_of (xs ++ ys)) d.0
    (in_map nonce_of y (xs ++ ys) (in_behind y xs ys j)))
apart (z ∷ xs) ys d x y (inr i) j = apart xs ys d.1 x y i j

pub differ_behind : (xs ys : List Awaited) → AllDiffer (map nonce_of (xs ++ ys)) → AllDiffer (map nonce_of ys)
differ_behind [] ys d = d
differ_behind (x ∷ xs) ys d = differ_behind xs ys d.1

pub own_all : (xs : List Awaited) → AllDiffer (map nonce_of xs) → HaveOwnNonces xs
own_all [] d = tt
own_all (x ∷ xs) d =
    (λ y i. none_is (nonce_of x) (nonce_of y) (map nonce_of xs) d.0 (in_map nonce_of y xs i), own_all xs d.1)

pub own_both : (xs ys : List Awaited) → HaveOwnNonces xs → HaveOwnNonces ys
    → ((x y : Awaited) → In x xs → In y ys → nonce_of x ≢ nonce_of y) → HaveOwnNonces (xs ++ ys)
own_both [] ys p q d = q
own_both (x ∷ xs) ys p q d =
    (λ y i. own_front y i, own_both xs ys p.1 q (λ a b i j. d a b (inr i) j))
  where
    own_front : (y : Awaited) → In y (xs ++ ys) → x.command.nonce ≢ y.command.nonce
    own_front y i = elim (in_either y xs ys i) [
      | inl f ↦ p.0 y f
      | inr b ↦ d x y (inl refl) b
    ]

-- those of another nonce stay
pub in_others : (x : Awaited) (n : ℕ) (xs : List Awaited) → In x xs → nonce_of x ≢ n → In x (others xs n)
unfolding others
in_others x n xs i d =
    in_filter (λ (a : Awaited). not (a.command.nonce == n)) x xs i (ap not (ne_eqb (nonce_of x) n d))
