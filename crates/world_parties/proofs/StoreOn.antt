-- The drive that is read off a disk is the one for which its contents stand.
use Rattle.std.proofs.Common.{◌≡◌, ℕ, zero, suc, ◌+◌, ◌<◌, ◌≤◌, ◌^◌, List, [], ◌∷◌, ◌++◌, length, take, drop, nat_eq, nat_le, Option, Some, true, false, refl, sym, ap, ◌∙◌, arith, append_assoc, length-append}
use Rattle.std.proofs.lemmas.List.{take_at, drop_at}
use Rattle.std.proofs.lemmas.Nat.{from_be_bytes-to_be_bytes_4}
use Rattle.std.proofs.lemmas.Bool.Decides.{nat_tests}
use Rattle.std.specs.Int.{w32, to_be_bytes, from_be_bytes}
use Rattle.gate_log.specs.declared.entry.TheConstants.{MAX_BODY}
use Rattle.gate_log.specs.declared.form.Form.{Form}
use Rattle.gate_log.specs.declared.form.Form.TheVariants.{Plain, Checked}
use Rattle.gate_log.specs.declared.header.TheConstants.{HEADER_SIZE}
use Rattle.gate_log.specs.Forms.{IsBody, complement, head_of, head_size, record_of, size_of, tail_of}
use Rattle.gate_log.specs.Logs.{Gated, records_of, IsRecord, AreRecords, bodies_of, IsFront}
use Rattle.gate_log.proofs.OneLog.{length_head, length_record, three}
use Rattle.osd_drive.specs.declared.keys.DriveKey.{DriveKey}
use Rattle.osd_drive.specs.State.{DriveState, new_drive}
use Rattle.drive_store.specs.Records.{replayed}
use Rattle.drive_store.specs.Stores.{IsStoreOf, emptied, header_for}
use Rattle.world_parties.specs.declared.backing.DriveMake.{DriveMake}
use Rattle.world_parties.specs.Backing.{behind_in, bodies_in, body_in, form_in, length_in, number_in, drive_on, drive_or, made_core}
use Rattle.world_parties.specs.Drive.{IsMadeOf}

-- ---- a record with which the bytes begin

plain_number : (n : ℕ) → n ≤ MAX_BODY → from_be_bytes w32 (to_be_bytes w32 n) ≡ n
plain_number n fits = from_be_bytes-to_be_bytes_4 n (omega (arith, fits))

form_is : (form : Form) (body x : List ℕ) → IsBody body → form_in (record_of form body ++ x) ≡ form
form_is Plain body x is =
    let short : nat_le (number_in (record_of Plain body ++ x)) MAX_BODY ≡ true =
    grind (arith, nat_tests, is.fits, plain_number (length body) is.fits) in
    rw short refl
form_is Checked body x is =
    let great : nat_le (number_in (record_of Checked body ++ x)) MAX_BODY ≡ false =
    grind (arith, nat_tests, is.fits, from_be_bytes-to_be_bytes_4 (complement (length body)) (omega arith)) in
    rw great refl

length_is : (form : Form) (body x : List ℕ) → IsBody body → length_in form (record_of form body ++ x) ≡ length body
length_is Plain body x is = plain_number (length body) is.fits
length_is Checked body x is = plain_number (length body) is.fits

body_is : (form : Form) (body x : List ℕ) → IsBody body → body_in form (record_of form body ++ x) ≡ body
body_is form body x is =
    ap (λ (n : ℕ). take n (drop (head_size form) (record_of form body ++ x))) (length_is form body x is)
    ∙ ap (λ (l : List ℕ). take (length body) (drop (head_size form) l)) (three form body x)
    ∙ ap (λ (l : List ℕ). take (length body) l)
    (drop_at (head_of form (length body)) (body ++ (tail_of form body ++ x)) (head_size form) (length_head form (length body)))
    ∙ take_at body (tail_of form body ++ x) (length body) refl

behind_is : (form : Form) (body x : List ℕ) → IsBody body → behind_in form (record_of form body ++ x) ≡ x
behind_is form body x is =
    ap (λ (n : ℕ). drop (size_of form n) (record_of form body ++ x)) (length_is form body x is)
    ∙ drop_at (record_of form body) x (size_of form (length body)) (length_record form body)

-- ---- all records

-- behind an open gate stands a record
opened : (g most : ℕ) (c : List ℕ) → nat_eq g 0 ≡ false
    → bodies_in (suc most) (g ∷ c) ≡ body_in (form_in c) c ∷ bodies_in most (behind_in (form_in c) c)
opened g most c lifted = rw lifted refl

one_body : (r : Gated) (most : ℕ) (x : List ℕ) → IsRecord r
    → bodies_in (suc most) (r.gate ∷ (record_of r.form r.body ++ x)) ≡ r.body ∷ bodies_in most x
one_body r most x is =
    let c = record_of r.form r.body ++ x in
    let form = form_is r.form r.body x is.is_body in
    opened r.gate most c (grind (arith, nat_tests, is.open_gate))
    ∙ ap (λ (f : Form). body_in f c ∷ bodies_in most (behind_in f c)) form
    ∙ ap (λ (l : List ℕ). l ∷ bodies_in most (behind_in r.form c)) (body_is r.form r.body x is.is_body)
    ∙ ap (λ (l : List ℕ). r.body ∷ bodies_in most l) (behind_is r.form r.body x is.is_body)

-- the bytes of a record and of those behind it
apart : (r : Gated) (rs : List Gated) (x : List ℕ) →
    records_of (r ∷ rs) ++ x ≡ r.gate ∷ (record_of r.form r.body ++ (records_of rs ++ x))
apart r rs x = ap (λ (l : List ℕ). r.gate ∷ l) (append_assoc (record_of r.form r.body) (records_of rs) x)

all_bodies : (rs : List Gated) (most : ℕ) (rest : List ℕ) → AreRecords rs → length rs < most →
    bodies_in most (records_of rs ++ 0 ∷ rest) ≡ bodies_of rs
all_bodies [] zero rest are few = absurd (omega (arith, few))
all_bodies [] (suc most) rest are few = refl
all_bodies (r ∷ rs) zero rest are few = absurd (omega (arith, few))
all_bodies (r ∷ rs) (suc most) rest are few =
    ap (λ (l : List ℕ). bodies_in (suc most) l) (apart r rs (0 ∷ rest))
    ∙ one_body r most (records_of rs ++ 0 ∷ rest) are.0
    ∙ ap (λ (l : List (List ℕ)). r.body ∷ l) (all_bodies rs most rest are.1 (omega (arith, few)))

fewer : (rs : List Gated) → length rs ≤ length (records_of rs)
fewer [] = omega arith
fewer (r ∷ rs) = omega (arith, fewer rs, length-append (record_of r.form r.body) (records_of rs))

-- it was made so
made_alike : (made : DriveMake) (d : DriveState) → IsMadeOf made d → made_core made ≡ emptied d
made_alike made d is =
    ap (λ (n : ℕ). new_drive n (made_core made).keys made.capacity) (sym is.number_is)
    ∙ ap (λ (k : List DriveKey). new_drive d.number k made.capacity) (sym is.keys_are)
    ∙ ap (λ (n : ℕ). new_drive d.number d.keys n) (sym is.capacity_is)

pub drive_is : (made : DriveMake) (d : DriveState) (c : List ℕ) → IsMadeOf made d → IsStoreOf d c → drive_on made c ≡ d
unfolding drive_on
drive_is made d c is store =
    ap (λ (l : List (List ℕ)). drive_or (made_core made) (replayed (Some (made_core made)) l)) bodies
    ∙ ap (λ (x : DriveState). drive_or (made_core made) (replayed (Some x) store.records)) (made_alike made d is)
    ∙ ap (λ (o : Option DriveState). drive_or (made_core made) o) store.lead.drive
  where
    front : IsFront (header_for d) store.records store.log.front
    front = store.log.is_front

    whole : c ≡ header_for d ++ (records_of front.records ++ 0 ∷ store.log.rest)
    whole = store.log.contents ∙ ap (λ (l : List ℕ). l ++ 0 ∷ store.log.rest) front.front_is
        ∙ append_assoc (header_for d) (records_of front.records) (0 ∷ store.log.rest)

    behind : drop HEADER_SIZE c ≡ records_of front.records ++ 0 ∷ store.log.rest
    behind = ap (λ (l : List ℕ). drop HEADER_SIZE l) whole ∙ drop_at (header_for d) _ HEADER_SIZE front.whole

    few : length front.records < length c
    few = omega (
      arith,
      fewer front.records,
      ap length whole,
      length-append (header_for d) (records_of front.records ++ 0 ∷ store.log.rest),
      length-append (records_of front.records) (0 ∷ store.log.rest),
    )

    bodies : bodies_in (length c) (drop HEADER_SIZE c) ≡ store.records
    bodies = ap (λ (l : List ℕ). bodies_in (length c) l) behind
        ∙ all_bodies front.records (length c) store.log.rest front.are_records few ∙ front.bodies_are
