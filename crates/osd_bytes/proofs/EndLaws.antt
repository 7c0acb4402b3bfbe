-- The ends of connections as sources and sinks.
use Rattle.std.proofs.Common.{◌≡◌, ℕ, zero, suc, ◌+◌, ◌-◌, ◌<◌, List, [], ◌∷◌, ◌++◌, length, take, drop, Option, None, Some, Result, Ok, Err, refl, sym, ap, ◌∙◌, arith}
use Rattle.std.specs.Prelude.{slice_get, slice_set}
use Rattle.std.specs.Io.KnownBytes.{ReadConsumes, WriteAppends}
use Rattle.std.proofs.lemmas.List.{take-append-drop, length-set, drop-drop}
use Rattle.osd_bytes.specs.Connections.{Talk, Traffic, Comes, newest, with_newest, after_taking, after_putting, Takes, Puts, Receives, Sends, accepted_left, accepted_put, asked_left, asked_put}
use Rattle.osd_bytes.specs.declared.source.Fault.{Fault}
use Rattle.osd_lists.proofs.Slices.{get_set}

pub newest-with : (talks : List Talk) (t : Talk) → 0 < length talks → newest (with_newest talks t) ≡ t
newest-with talks t some =
    rw (length-set talks (length talks - 1) t, get_set talks (length talks - 1) t (omega (arith, some))) refl

-- what was taken is no more to come
consumed : (talks : List Talk) (n : ℕ) (buf : List ℕ) → 0 < length talks → Comes (newest talks) n buf
    → ((newest talks).left ≡ take n buf ++ (newest (after_taking n talks)).left) ×
    (n ≡ 0 → 0 < length buf → (newest (after_taking n talks)).left ≡ [])
consumed talks n buf some comes =
    let rest : (newest (after_taking n talks)).left ≡ drop n (newest talks).left =
    ap (λ (t : Talk). t.left) (newest-with talks (record (newest talks) { left = drop n (newest talks).left }) some) in (
      rw (rest, comes.1) (sym (take-append-drop n (newest talks).left)),
      λ none room. rest ∙ rw (comes.2 none room) (none_left n),
    )
  where
    none_left : (n : ℕ) → drop {A = ℕ} n [] ≡ []
    none_left zero = refl
    none_left (suc n) = refl

appended : (talks : List Talk) (bytes : List ℕ) → 0 < length talks →
    (newest (after_putting bytes talks)).put ≡ (newest talks).put ++ bytes
appended talks bytes some =
    ap (λ (t : Talk). t.put) (newest-with talks (record (newest talks) { put = (newest talks).put ++ bytes }) some)

pub takes_consumes : (o n : Option Traffic) (result : Result ℕ Fault) (buf : List ℕ) → Takes o n result buf →
    ReadConsumes (accepted_left o) (accepted_left n) result buf
takes_consumes None n (Ok k) buf t = (tt, λ none room. rw t tt)
takes_consumes None n (Err e) buf t = tt
takes_consumes (Some a) n (Ok k) buf t = let c = consumed a.accepted k buf t.0 t.1 in rw t.2 c
takes_consumes (Some a) n (Err e) buf t = rw t refl

pub receives_consumes : (o n : Option Traffic) (result : Result ℕ Fault) (buf : List ℕ) → Receives o n result buf →
    ReadConsumes (asked_left o) (asked_left n) result buf
receives_consumes None n (Ok k) buf t = (tt, λ none room. rw t tt)
receives_consumes None n (Err e) buf t = tt
receives_consumes (Some a) n (Ok k) buf t = let c = consumed a.asked k buf t.0 t.1 in rw t.2 c
receives_consumes (Some a) n (Err e) buf t = rw t refl

pub puts_append : (o n : Option Traffic) (result : Result ℕ Fault) (bytes : List ℕ) → Puts o n result bytes →
    WriteAppends (accepted_put o) (accepted_put n) result bytes
puts_append None n (Ok k) bytes t = tt
puts_append None n (Err e) bytes t = tt
puts_append (Some a) n (Ok k) bytes t = rw t.1 (appended a.accepted (take k bytes) t.0)
puts_append (Some a) n (Err e) bytes t = rw t refl

pub sends_append : (o n : Option Traffic) (result : Result ℕ Fault) (bytes : List ℕ) → Sends o n result bytes →
    WriteAppends (asked_put o) (asked_put n) result bytes
sends_append None n (Ok k) bytes t = tt
sends_append None n (Err e) bytes t = tt
sends_append (Some a) n (Ok k) bytes t = rw t.1 (appended a.asked (take k bytes) t.0)
sends_append (Some a) n (Err e) bytes t = rw t refl

-- ---- connections in memory

pub skipped : (streams : List (List ℕ)) (n : ℕ) → drop (n + 1) streams ≡ drop 1 (drop n streams)
skipped streams n = sym (drop-drop 1 n streams)

pub set_back : (xs : List Talk) (i : ℕ) (t : Talk) → slice_get xs i ≡ Some t → slice_set xs i t ≡ xs
set_back [] i t e = refl
set_back (x ∷ xs) zero t e = ap (λ (y : Talk). y ∷ xs) (cc e)
set_back (x ∷ xs) (suc i) t e = ap (λ (ys : List Talk). x ∷ ys) (set_back xs i t e)
