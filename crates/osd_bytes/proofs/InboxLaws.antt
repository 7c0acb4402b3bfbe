-- The records of a piece, byte by byte.
use Rattle.std.proofs.Common.{◌≡◌, ℕ, ◌<◌, Bool, true, false, List, [], ◌∷◌, ◌++◌, length, take, drop, Option, None, Some, Ok, refl, sym, ap, subst, ◌∙◌, append_assoc}
use Rattle.std.proofs.lemmas.List.{take-append-drop}
use Rattle.std.specs.Prelude.{IsSome}
use Rattle.osd_bytes.specs.Connections.{Talk, Traffic, Comes, Puts, Takes, after_putting, after_taking, newest, with_newest}
use Rattle.osd_bytes.proofs.ExchangeLaws.{newest-last, with_newest-last}
use Rattle.osd_bytes.proofs.EndLaws.{newest-with}
use Rattle.osd_bytes.specs.Inboxes.{IsAtEnd, WasPut, WasTaken, begun_or_broken, with_newest_talk}
use Rattle.osd_bytes.specs.Records.{Begun, Split, fresh, split}
use Rattle.osd_bytes.proofs.RecordLaws.{behind, carried, split-append}

pub unbroken : (is_broken : Bool) (b : Begun) → IsSome (begun_or_broken is_broken b) → begun_or_broken is_broken b ≡ Some b
unbroken false b some = refl
unbroken true b some = absurd (cc some)

-- a piece behind what came before
pub piece-reads : (before piece : List ℕ) (given records : List (List ℕ)) (b : Begun) (e : Option Begun)
    → split fresh before ≡ record { records = given; begun = Some b } → split b piece ≡ record { records = records; begun = e }
    → split fresh (before ++ piece) ≡ record { records = given ++ records; begun = e }
piece-reads before piece given records b e h reads =
    split-append fresh before piece ∙ ap (λ (s : Split). carried s.records s.begun piece) h ∙ ap (behind given) reads

-- ---- what is taken

taking-last : (talks : List Talk) (t : Talk) (n : ℕ) →
    after_taking n (talks ++ t ∷ []) ≡ talks ++ record t { left = drop n t.left } ∷ []
taking-last talks t n =
    ap (λ (u : Talk). with_newest (talks ++ t ∷ []) (record u { left = drop n u.left })) (newest-last talks t)
    ∙ with_newest-last talks t (record t { left = drop n t.left })

pub taken-nil : (o : Option Traffic) → WasTaken o o []
taken-nil o = record { none = λ e. e; some = λ a talks t e. (t.left, refl, e) }

pub taken-piece : (o n : Option Traffic) (buf : List ℕ) (k : ℕ) → Takes o n (Ok k) buf → WasTaken o n (take k buf)
taken-piece o n buf k r = record {
  none = λ e. subst (λ (x : Option Traffic). Takes x n (Ok k) buf) e r;
  some = λ a talks t e. piece a talks t (subst (λ (x : Option Traffic). Takes x n (Ok k) buf) e r);
}
  where
    piece : (a : Traffic) (talks : List Talk) (t : Talk) → Takes (Some (with_newest_talk a talks t)) n (Ok k) buf
        → (left : List ℕ) × (t.left ≡ take k buf ++ left) × (n ≡ Some (with_newest_talk a talks (record t { left = left })))
    piece a talks t next =
        let comes : Comes t k buf = subst (λ (u : Talk). Comes u k buf) (newest-last talks t) next.1 in (
          drop k t.left,
          sym (take-append-drop k t.left) ∙ ap (λ (x : List ℕ). x ++ drop k t.left) (sym comes.1),
          next.2 ∙ ap (λ (ts : List Talk). Some (record a { accepted = ts })) (taking-last talks t k),
        )

-- where nothing came, nothing more comes
pub taken-end : (o n : Option Traffic) (buf : List ℕ) → 0 < length buf → Takes o n (Ok 0) buf → IsAtEnd n
taken-end None n buf room r = rw r tt
taken-end (Some a) n buf room r =
    rw r.2 (ap (λ (t : Talk). t.left)
    (newest-with a.accepted (record (newest a.accepted) { left = drop 0 (newest a.accepted).left }) r.0) ∙ r.1.2 refl room)

-- ---- what is put

putting-last : (talks : List Talk) (t : Talk) (bytes : List ℕ) →
    after_putting bytes (talks ++ t ∷ []) ≡ talks ++ record t { put = t.put ++ bytes } ∷ []
putting-last talks t bytes =
    ap (λ (u : Talk). with_newest (talks ++ t ∷ []) (record u { put = u.put ++ bytes })) (newest-last talks t)
    ∙ with_newest-last talks t (record t { put = t.put ++ bytes })

pub put-then : (o m n : Option Traffic) (sent bytes : List ℕ) (k : ℕ) → WasPut o m sent → Puts m n (Ok k) bytes →
    WasPut o n (sent ++ take k bytes)
put-then o m n sent bytes k w r = record {
  none = λ e. subst (λ (x : Option Traffic). Puts x n (Ok k) bytes) (w.none e) r;
  some = λ a talks t e.
      (subst (λ (x : Option Traffic). Puts x n (Ok k) bytes) (w.some a talks t e) r).1
      ∙ ap (λ (ts : List Talk). Some (record a { accepted = ts }))
      (putting-last talks (record t { put = t.put ++ sent }) (take k bytes))
      ∙ ap (λ (p : List ℕ). Some (with_newest_talk a talks (record t { put = p }))) (append_assoc t.put sent (take k bytes));
}
