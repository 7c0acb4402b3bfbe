-- The laws of the words of one place each: numbers, names, and the server or a name.
use Rattle.std.proofs.Common.{◌≡◌, ℕ, ◌-◌, ◌^◌, ◌≤◌, Bool, true, false, ◌⊎◌, inl, inr, List, ◌∷◌, Result, Ok, Err, codes, refl, subst, arith}
use Rattle.std.specs.Prelude.{if◌then◌else◌}
use Rattle.std.specs.Fmt.{decimal}
use Rattle.std.specs.List.{list_any}
use Rattle.std.proofs.lemmas.Bool.{false_from_ne_true}
use Rattle.std.proofs.lemmas.Slice.Eq.{bytes_eq-Decides}
use Rattle.scenario_text.specs.declared.event.EventErr.{EventErr}
use Rattle.scenario_text.specs.declared.event.EventErr.TheVariants.{BadName}
use Rattle.scenario_text.specs.declared.event.Sender.{Sender}
use Rattle.scenario_text.specs.declared.event.Sender.TheVariants as sender
use Rattle.scenario_text.specs.declared.event.Machine.{Machine}
use Rattle.scenario_text.specs.declared.event.Machine.TheVariants as machine
use Rattle.scenario_text.specs.declared.line.Party.{Party}
use Rattle.scenario_text.specs.declared.line.Party.TheVariants as party
use Rattle.scenario_text.specs.declared.hexadecimal.Digits.{Digits}
use Rattle.scenario_text.specs.Parts.{Part, Number, Name, u32, u64, drive, client, file, server, word_of, PartFits}
use Rattle.scenario_text.specs.Spells.{SpellsPart}
use Rattle.scenario_text.specs.Reading.{◌>>=◌, number_of, name_of, u32_of, u64_of, drive_of, client_of, file_of, is_server, server_of, sender_of, machine_of, drive_or, party_of}
use Rattle.scenario_text.specs.Spelling.{sender_part, machine_part}
use Rattle.scenario_text.specs.LineSpelling.{party_part}
use Rattle.scenario_text.proofs.Results.{bind_ok, good_same}
use Rattle.scenario_text.proofs.PartLaws.{decimal_clear, number_law, name_ok, name_again, name_law}
use Rattle.scenario_text.proofs.Forms.{Law, is_space}

-- ---- numbers and names of their places

pub u32_law : (digits : Digits) → Law digits u32_of u32
u32_law digits = number_law digits 0 4294967295 (omega arith)

pub u64_law : (digits : Digits) → Law digits u64_of u64
u64_law digits = number_law digits 0 (2 ^ 64 - 1) (omega arith)

pub tag_law : (digits : Digits) → Law digits (number_of 1 4294967295) (Number 1 4294967295)
tag_law digits = number_law digits 1 4294967295 (omega arith)

pub few_law : (digits : Digits) (most : ℕ) → most ≤ 4 → Law digits (number_of 1 most) (Number 1 most)
few_law digits most few = number_law digits 1 most (omega arith)

pub drive_law : (digits : Digits) → Law digits drive_of drive
drive_law digits = name_law digits 100 64 (omega arith) refl

pub client_law : (digits : Digits) → Law digits client_of client
client_law digits = name_law digits 99 16 (omega arith) refl

pub file_law : (digits : Digits) → Law digits file_of file
file_law digits = name_law digits 102 64 (omega arith) refl

-- ---- the server, or a name

if_test : {A : Type 0} (b : Bool) (x y : A) (rest : Result A EventErr) → (if b then Ok x else rest) ≡ Ok y →
    ((b ≡ true) × (x ≡ y)) ⊎ (rest ≡ Ok y)
if_test true x y rest h = inl (refl, cc h)
if_test false x y rest h = inr h

s_is : (word : List ℕ) → is_server word ≡ true → word ≡ codes "s"
s_is word h = (bytes_eq-Decides word (codes "s")).0 h

no_s : (c : ℕ) (rest : List ℕ) → (c ≡ 115 → ⊥) → is_server (c ∷ rest) ≡ false
no_s c rest h = false_from_ne_true (is_server (c ∷ rest)) (λ e. let is = s_is (c ∷ rest) e in h (cc is))

server_found : (word : List ℕ) (u : Unit {0}) → server_of word ≡ Ok u → word ≡ codes "s"
unfolding server_of
server_found word u h =
    elim (if_test (is_server word) tt u (Err BadName) h) [
      | inl s ↦ s_is word s.0
      | inr named ↦ cc named
    ]

server_again : server_of (codes "s") ≡ Ok tt
unfolding server_of
server_again = refl

pub server_law : (digits : Digits) → Law digits server_of (λ u. server)
server_law digits = record {
  found = λ word u h. (tt, server_found word u h);
  again = λ word u fit is. rw is server_again;
  clear = λ u fit. refl;
}

-- what a name gives that is made into another value
named : {A : Type 0} (letter count : ℕ) (make : ℕ → A) (part : A → Part) (word : List ℕ) (x : A) →
    ((n : ℕ) → part (make n) ≡ Name letter count n)
    → (digits : Digits) → (name_of letter count word >>= (λ n. Ok (make n))) ≡ Ok x →
    PartFits (part x) × SpellsPart (part x) digits word
named letter count make part word x is digits h =
    let a = bind_ok (name_of letter count word) _ x h in
    let n = name_ok letter count word a.0 a.1 in
    let whole : PartFits (part (make a.0)) × SpellsPart (part (make a.0)) digits word = rw (is a.0) (n.0, n.1) in
    subst (λ (y : _). PartFits (part y) × SpellsPart (part y) digits word) (good_same (make a.0) x a.2) whole

server_says : {A : Type 0} (part : A → Part) (x y : A) (digits : Digits) (word : List ℕ) → part x ≡ server →
    (is_server word ≡ true) × (x ≡ y)
    → PartFits (part y) × SpellsPart (part y) digits word
server_says part x y digits word is s =
    let whole : PartFits (part x) × SpellsPart (part x) digits word = rw is (tt, s_is word s.0) in
    subst (λ (z : _). PartFits (part z) × SpellsPart (part z) digits word) s.1 whole

sender_found : (digits : Digits) (word : List ℕ) (who : Sender) → sender_of word ≡ Ok who →
    PartFits (sender_part who) × SpellsPart (sender_part who) digits word
unfolding sender_of
sender_found digits word who h =
    elim (if_test (is_server word) sender.Server who _ h) [
      | inl s ↦ server_says sender_part sender.Server who digits word refl s
      | inr name ↦ named 99 16 sender.Client sender_part word who (λ n. refl) digits name
    ]

sender_again : (digits : Digits) (word : List ℕ) (who : Sender) → PartFits (sender_part who) →
    SpellsPart (sender_part who) digits word → sender_of word ≡ Ok who
unfolding sender_of
sender_again digits word (sender.Client c) fits is =
    rw (is, no_s 99 (decimal c) (λ e. absurd (omega (arith, e))), name_again 99 16 c fits (omega (arith, fits))) refl
sender_again digits word sender.Server fits is = rw is refl

sender_clear : (who : Sender) → PartFits (sender_part who) → list_any is_space (word_of (sender_part who)) ≡ false
sender_clear (sender.Client c) fits = decimal_clear c (omega (arith, fits))
sender_clear sender.Server fits = refl

pub sender_law : (digits : Digits) → Law digits sender_of sender_part
sender_law digits = record { found = sender_found digits; again = sender_again digits; clear = sender_clear }

machine_found : (digits : Digits) (word : List ℕ) (who : Machine) → machine_of word ≡ Ok who →
    PartFits (machine_part who) × SpellsPart (machine_part who) digits word
unfolding machine_of
machine_found digits word who h =
    elim (if_test (is_server word) machine.Server who _ h) [
      | inl s ↦ server_says machine_part machine.Server who digits word refl s
      | inr name ↦ named 100 64 machine.Drive machine_part word who (λ n. refl) digits name
    ]

machine_again : (digits : Digits) (word : List ℕ) (who : Machine) → PartFits (machine_part who) →
    SpellsPart (machine_part who) digits word → machine_of word ≡ Ok who
unfolding machine_of
machine_again digits word (machine.Drive d) fits is =
    rw (is, no_s 100 (decimal d) (λ e. absurd (omega (arith, e))), name_again 100 64 d fits (omega (arith, fits))) refl
machine_again digits word machine.Server fits is = rw is refl

machine_clear : (who : Machine) → PartFits (machine_part who) → list_any is_space (word_of (machine_part who)) ≡ false
machine_clear (machine.Drive d) fits = decimal_clear d (omega (arith, fits))
machine_clear machine.Server fits = refl

pub machine_law : (digits : Digits) → Law digits machine_of machine_part
machine_law digits = record { found = machine_found digits; again = machine_again digits; clear = machine_clear }

drive_or_client : (digits : Digits) (word : List ℕ) (who : Party) (r : Result ℕ EventErr) → drive_of word ≡ r
    → drive_or r (client_of word >>= (λ c. Ok (party.Client c))) ≡ Ok who →
    PartFits (party_part who) × SpellsPart (party_part who) digits word
drive_or_client digits word who (Ok d) is h =
    let n = name_ok 100 64 word d is in
    let whole : PartFits (party_part (party.Drive d)) × SpellsPart (party_part (party.Drive d)) digits word = n in
    subst (λ (x : Party). PartFits (party_part x) × SpellsPart (party_part x) digits word) (good_same (party.Drive d) who h) whole
drive_or_client digits word who (Err e) is h = named 99 16 party.Client party_part word who (λ n. refl) digits h

party_found : (digits : Digits) (word : List ℕ) (who : Party) → party_of word ≡ Ok who →
    PartFits (party_part who) × SpellsPart (party_part who) digits word
unfolding party_of
party_found digits word who h =
    elim (if_test (is_server word) party.Server who _ h) [
      | inl s ↦ server_says party_part party.Server who digits word refl s
      | inr name ↦ drive_or_client digits word who (drive_of word) refl name
    ]

no_drive : (c : ℕ) → drive_of (99 ∷ decimal c) ≡ Err BadName
unfolding name_of
no_drive c = refl

party_again : (digits : Digits) (word : List ℕ) (who : Party) → PartFits (party_part who) →
    SpellsPart (party_part who) digits word → party_of word ≡ Ok who
unfolding party_of
party_again digits word (party.Drive d) fits is =
    rw (is, no_s 100 (decimal d) (λ e. absurd (omega (arith, e))), name_again 100 64 d fits (omega (arith, fits))) refl
party_again digits word (party.Client c) fits is =
    rw (is, no_s 99 (decimal c) (λ e. absurd (omega (arith, e))), no_drive c, name_again 99 16 c fits (omega (arith, fits))) refl
party_again digits word party.Server fits is = rw is refl

party_clear : (who : Party) → PartFits (party_part who) → list_any is_space (word_of (party_part who)) ≡ false
party_clear (party.Drive d) fits = decimal_clear d (omega (arith, fits))
party_clear (party.Client c) fits = decimal_clear c (omega (arith, fits))
party_clear party.Server fits = refl

pub party_law : (digits : Digits) → Law digits party_of party_part
party_law digits = record { found = party_found digits; again = party_again digits; clear = party_clear }
