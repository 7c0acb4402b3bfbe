-- Exchanges over connections whose bytes are told.
use Rattle.std.proofs.Common.{◌≡◌, ℕ, ◌-◌, ◌<◌, List, [], ◌∷◌, ◌++◌, length, take, drop, Option, None, Some, Ok, Err, Result, refl, sym, ap, subst, inr, ◌∙◌, append_assoc, arith}
use Rattle.std.proofs.lemmas.List.{append-nil, length-append, take-append-drop}
use Rattle.std.proofs.Math.Seq.{set-append_seam}
use Rattle.osd_bytes.specs.Connections.{Talk, Traffic, begin, newest, with_newest, with_asked, next_stream, Sends, Receives}
use Rattle.osd_bytes.specs.Connections.{Comes, Connects, after_taking, after_putting}
use Rattle.osd_bytes.specs.Exchanges.{Exchanges, WasSent, WasReceived, ReceivesFirst, IsFirst, LeftOf, first_or, first_record}
use Rattle.osd_bytes.specs.Records.{Begun, Split, HasRead, fresh, split, framed}
use Rattle.osd_bytes.specs.declared.exchanges.ExchangeErr.{ExchangeErr}
use Rattle.osd_bytes.specs.declared.exchanges.ExchangeErr.TheVariants.{LinkFault, Ended, TooLong, Memory}
use Rattle.osd_bytes.proofs.RecordLaws.{carried, split-append}
use Rattle.osd_lists.specs.declared.node.Node.{Node}
use Rattle.osd_lists.proofs.Slices.{get_last}

last_place : (xs : List Talk) (t : Talk) → length (xs ++ t ∷ []) - 1 ≡ length xs
last_place xs t = omega (arith, length-append xs (t ∷ []))

pub newest-last : (xs : List Talk) (t : Talk) → newest (xs ++ t ∷ []) ≡ t
newest-last xs t = rw (last_place xs t, get_last xs t) refl

pub with_newest-last : (xs : List Talk) (t u : Talk) → with_newest (xs ++ t ∷ []) u ≡ xs ++ u ∷ []
with_newest-last xs t u = rw (last_place xs t) (set-append_seam xs t [] u)

putting-last : (xs : List Talk) (t : Talk) (bytes : List ℕ) →
    after_putting bytes (xs ++ t ∷ []) ≡ xs ++ record t { put = t.put ++ bytes } ∷ []
putting-last xs t bytes =
    ap (λ (u : Talk). with_newest (xs ++ t ∷ []) (record u { put = u.put ++ bytes })) (newest-last xs t)
    ∙ with_newest-last xs t (record t { put = t.put ++ bytes })

taking-last : (xs : List Talk) (t : Talk) (n : ℕ) → after_taking n (xs ++ t ∷ []) ≡ xs ++ record t { left = drop n t.left } ∷ []
taking-last xs t n =
    ap (λ (u : Talk). with_newest (xs ++ t ∷ []) (record u { left = drop n u.left })) (newest-last xs t)
    ∙ with_newest-last xs t (record t { left = drop n t.left })

-- the connections of which the newest asks
abbrev asked_as : Node → Traffic → List Talk → Option Traffic
asked_as to a talks =
    Some (record {
      to_accept = a.to_accept;
      accepted = a.accepted;
      to_ask = drop 1 a.to_ask;
      asked = talks;
      nodes =
          a.nodes ++ to ∷ [];
      notes = a.notes;
    })

-- ---- sending

pub sent-then : (o m n : Option Traffic) (sent bytes : List ℕ) (k : ℕ) → WasSent o m sent → Sends m n (Ok k) bytes →
    WasSent o n (sent ++ take k bytes)
sent-then o m n sent bytes k w r = record {
  none = λ e. subst (λ (x : Option Traffic). Sends x n (Ok k) bytes) (w.none e) r;
  some = λ a to t e.
      (subst (λ (x : Option Traffic). Sends x n (Ok k) bytes) (w.some a to t e) r).1
      ∙ ap (asked_as to a) (putting-last a.asked (record t { put = t.put ++ sent }) (take k bytes))
      ∙ ap (λ (p : List ℕ). Some (with_asked to (record t { put = p }) a)) (append_assoc t.put sent (take k bytes));
}

-- ---- receiving

pub received-nil : (o : Option Traffic) → WasReceived o o []
received-nil o = record { none = λ e. e; some = λ a to t e. (t.left, refl, e) }

pub received-then : (o m n : Option Traffic) (got buf : List ℕ) (k : ℕ) → WasReceived o m got → Receives m n (Ok k) buf →
    WasReceived o n (got ++ take k buf)
received-then o m n got buf k w r = record {
  none = λ e. subst (λ (x : Option Traffic). Receives x n (Ok k) buf) (w.none e) r;
  some = λ a to t e. more a to t (w.some a to t e);
}
  where
    more : (a : Traffic) (to : Node) (t : Talk) → LeftOf a to t m got → LeftOf a to t n (got ++ take k buf)
    more a to t l =
        let next : Receives (Some (with_asked to (record t { left = l.0 }) a)) n (Ok k) buf =
        subst (λ (x : Option Traffic). Receives x n (Ok k) buf) l.2 r in
        let comes : Comes (record t { left = l.0 }) k buf =
        subst (λ (u : Talk). Comes u k buf) (newest-last a.asked (record t { left = l.0 })) next.1 in (
          drop k l.0,
          l.1 ∙ ap (λ (x : List ℕ). got ++ x) (sym (take-append-drop k l.0))
              ∙ ap (λ (x : List ℕ). got ++ (x ++ drop k l.0)) (sym comes.1) ∙ sym (append_assoc got (take k buf) (drop k l.0)),
          next.2 ∙ ap (asked_as to a) (taking-last a.asked (record t { left = l.0 }) k),
        )

-- ---- the first record

first-carried : (qs : List (List ℕ)) (b : Option Begun) (ys r : List ℕ) (rs : List (List ℕ)) → qs ≡ r ∷ rs →
    first_or (carried qs b ys).records (carried qs b ys).begun ≡ Ok r
first-carried qs None ys r rs e = rw e refl
first-carried qs (Some c) ys r rs e = rw e refl

long-carried : (qs : List (List ℕ)) (b : Option Begun) (ys : List ℕ) → qs ≡ [] → b ≡ None →
    first_or (carried qs b ys).records (carried qs b ys).begun ≡ Err TooLong
long-carried qs b ys e g = rw (e, g) refl

with_piece : (got piece : List ℕ) (b : Begun) → HasRead got [] b → split fresh (got ++ piece) ≡ split b piece
with_piece got piece b h = split-append fresh got piece ∙ ap (λ (s : Split). carried s.records s.begun piece) h

pub first-of : (got piece rest : List ℕ) (b : Begun) (r : List ℕ) (rs : List (List ℕ)) → HasRead got [] b →
    (split b piece).records ≡ r ∷ rs → first_record ((got ++ piece) ++ rest) ≡ Ok r
first-of got piece rest b r rs h e =
    ap (λ (s : Split). first_or s.records s.begun) (split-append fresh (got ++ piece) rest)
    ∙ first-carried (split fresh (got ++ piece)).records (split fresh (got ++ piece)).begun rest r rs
    (ap (λ (s : Split). s.records) (with_piece got piece b h) ∙ e)

pub long-of : (got piece rest : List ℕ) (b : Begun) → HasRead got [] b → (split b piece).records ≡ [] →
    (split b piece).begun ≡ None → first_record ((got ++ piece) ++ rest) ≡ Err TooLong
long-of got piece rest b h e g =
    ap (λ (s : Split). first_or s.records s.begun) (split-append fresh (got ++ piece) rest)
    ∙ long-carried (split fresh (got ++ piece)).records (split fresh (got ++ piece)).begun rest
    (ap (λ (s : Split). s.records) (with_piece got piece b h) ∙ e)
    (ap (λ (s : Split). s.begun) (with_piece got piece b h) ∙ g)

-- a piece that came gives the answer
pub receives-first : (o n : Option Traffic) (got piece : List ℕ) (b : Begun) (r : List ℕ) → WasReceived o n (got ++ piece) →
    HasRead got [] b
    → ((rs : List (List ℕ)) × ((split b piece).records ≡ r ∷ rs)) → ReceivesFirst o n (Ok r)
receives-first o n got piece b r w h found = record {
  none = w.none;
  some = λ a to t e.
      let l = w.some a to t e in
      ((got ++ piece, l), ap first_record l.1 ∙ first-of got piece l.0 b r found.0 h found.1);
}

pub receives-long : (o n : Option Traffic) (got piece : List ℕ) (b : Begun) → WasReceived o n (got ++ piece) → HasRead got [] b
    → ((split b piece).records ≡ []) × ((split b piece).begun ≡ None) → ReceivesFirst o n (Err TooLong)
receives-long o n got piece b w h broken = record {
  none = w.none;
  some = λ a to t e.
      let l = w.some a to t e in
      ((got ++ piece, l), ap first_record l.1 ∙ long-of got piece l.0 b h broken.0 broken.1);
}

pub receives-none : (o n : Option Traffic) (got : List ℕ) → WasReceived o n got → ReceivesFirst o n (Err Memory)
receives-none o n got w = record { none = w.none; some = λ a to t e. ((got, w.some a to t e), tt) }

pub receives-end : (o m n : Option Traffic) (got buf : List ℕ) (b : Begun) → WasReceived o m got → Receives m n (Ok 0) buf →
    0 < length buf → HasRead got [] b → ReceivesFirst o n (Err Ended)
receives-end o m n got buf b w r room h = record {
  none = (received-then o m n got buf 0 w r).none;
  some = λ a to t e. ((got ++ [], (received-then o m n got buf 0 w r).some a to t e), over a to t (w.some a to t e));
}
  where
    over : (a : Traffic) (to : Node) (t : Talk) → LeftOf a to t m got → first_record t.left ≡ Err Ended
    over a to t l =
        let next : Receives (Some (with_asked to (record t { left = l.0 }) a)) n (Ok 0) buf =
        subst (λ (x : Option Traffic). Receives x n (Ok 0) buf) l.2 r in
        let comes : Comes (record t { left = l.0 }) 0 buf =
        subst (λ (u : Talk). Comes u 0 buf) (newest-last a.asked (record t { left = l.0 })) next.1 in
        let whole : t.left ≡ got = l.1 ∙ ap (λ (x : List ℕ). got ++ x) (comes.2 refl room) ∙ append-nil got in
        ap first_record whole ∙ ap (λ (s : Split). first_or s.records s.begun) h

-- ---- the whole exchange

pub exchanged : (to : Node) (message bytes : List ℕ) (o m s n : Option Traffic) (u : Unit {0})
    (result : Result (List ℕ) ExchangeErr)
    → bytes ≡ framed message → Connects to o m (Ok u) → WasSent m s bytes → ReceivesFirst s n result →
    Exchanges to message o n result
exchanged to message bytes None m s n u result e c w r = r.none (w.none c)
exchanged to message bytes (Some a) m s n u result e c w r =
    asked result
    (r.some a to (record { left = next_stream a.to_ask; put = framed message })
    (w.some a to (begin (next_stream a.to_ask)) c
    ∙ ap (λ (p : List ℕ). Some (with_asked to (record { left = next_stream a.to_ask; put = p }) a)) e))
  where
    asked : (result : Result (List ℕ) ExchangeErr) →
        ((got : List ℕ) × LeftOf a to (record { left = next_stream a.to_ask; put = framed message }) n got) ×
        IsFirst (next_stream a.to_ask) result → Exchanges to message (Some a) n result
    asked (Ok x) p = (record { got = p.0.0; left = p.0.1.0; stream = p.0.1.1; told = p.0.1.2 }, p.1)
    asked (Err Ended) p = (record { got = p.0.0; left = p.0.1.0; stream = p.0.1.1; told = p.0.1.2 }, p.1)
    asked (Err TooLong) p = (record { got = p.0.0; left = p.0.1.0; stream = p.0.1.1; told = p.0.1.2 }, p.1)
    asked (Err LinkFault) p =
        inr (inr (
          framed message,
          [],
          sym (append-nil (framed message)),
          record { got = p.0.0; left = p.0.1.0; stream = p.0.1.1; told = p.0.1.2 },
        ))
    asked (Err Memory) p =
        inr (inr (
          framed message,
          [],
          sym (append-nil (framed message)),
          record { got = p.0.0; left = p.0.1.0; stream = p.0.1.1; told = p.0.1.2 },
        ))

pub cut_in_sending : (to : Node) (message bytes : List ℕ) (o m n : Option Traffic) (u : Unit {0}) → bytes ≡ framed message →
    Connects to o m (Ok u)
    → ((sent more : List ℕ) × (bytes ≡ sent ++ more) × WasSent m n sent) → Exchanges to message o n (Err LinkFault)
cut_in_sending to message bytes None m n u e c w = w.3.none c
cut_in_sending to message bytes (Some a) m n u e c w =
    inr (inr (
      w.0,
      w.1,
      sym e
          ∙ w.2,
      record {
        got = [];
        left = next_stream a.to_ask;
        stream = refl;
        told =
            w.3.some a to (begin (next_stream a.to_ask)) c;
      },
    ))
