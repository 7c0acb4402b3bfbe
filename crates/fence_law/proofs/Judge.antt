-- The judge accepts the log of a calm run: the byte and the size that the log leaves are among its candidates.
use Rattle.std.proofs.Common.{max, min, ◌-◌, ◌≡◌, ℕ, zero, suc, ◌+◌, ◌<◌, ◌≤◌, ◌++◌, Bool, true, false, cond, ◌==◌, List, [], ◌∷◌, length, get_or, map, Option, Some, None, ◌⊎◌, refl, sym, ap, ◌∙◌, inl, inr, arith, add-one}
use Rattle.std.specs.Prelude.{slice_index, Contains}
use Rattle.std.specs.List.{filter}
use Rattle.std.proofs.lemmas.Bool.{eq-eqb, cases_eq, cases_lt, lt-ltb, le-ltb, true≢false}
use Rattle.std.proofs.lemmas.Bool.Decides.{nat_tests}
use Rattle.std.proofs.lemmas.Option.{same_Some, slice_get-get_or, slice_get_past}
use Rattle.file_log.specs.declared.entry.Entry.{Entry}
use Rattle.file_log.specs.declared.entry.Entry.TheVariants.{Write, Read}
use Rattle.file_log.specs.Judge.{Candidates, new_file, byte_for, settled, taken_byte, given, sizes_after, after_entry, Fits, AcceptsFrom, candidates_from, candidates}
use Rattle.fence_law.specs.Words.{updated, In, over}
use Rattle.fence_law.specs.State.{State, Layout, Event, Start}
use Rattle.fence_law.specs.Columns.{Agrees, spans}
use Rattle.fence_law.specs.Starts.{written_start, read_start, repair_start, rebuilt_start}
use Rattle.fence_law.specs.Machine.{Allowed, Lawful, after, after_all, new_file_state}
use Rattle.fence_law.specs.State.Call.{Reads}
use Rattle.fence_law.specs.State.Event.{StartsWrite, StartsRead, Acknowledges, Answers, Repairs, Repaired, Rebuilds}
use Rattle.fence_law.specs.Log.{gives, SameAnswer, IsEntry, IsLog}
use Rattle.fence_law.specs.Law.{byte_before, size_before, IsCode, Calms, IsAudited, IsJudged, IsWhole, reached}
use Rattle.fence_law.proofs.Words.{updated_at, updated_other, updated_read}
use Rattle.fence_law.proofs.Chains.{chain-next, chain-none, over_none}
use Rattle.fence_law.proofs.Formed.{not_gone, added, bytes_before}
use Rattle.fence_law.proofs.WholeNow.{calm_whole}
use Rattle.fence_law.proofs.Later.{before_unsettled, unsettled_none}
use Rattle.fence_law.proofs.Chosen.{at_acks, at_mended}
use Rattle.fence_law.proofs.Held.{at_added}
use Rattle.fence_law.proofs.Accepted.{Sure, keep_sure, sure_first}
use Rattle.fence_law.proofs.SizesTold.{sz_next}
use Rattle.fence_law.proofs.EveryRun.{Sized, keep_sized, sized_first, grow_first}

-- an answered read is of its time, and gave what the log leaves before it
abbrev pub Answered : State → Type 0
Answered b = (j : ℕ) (f : ℕ → ℕ) → j < b.count → b.answer j ≡ Some f → record {
  alive : (b.start j).alive ≡ true;
  client : (b.start j).server ≡ false;
  read : (b.start j).is_read ≡ true;
  right : (p : ℕ) → (b.start j).wanted p ≡ true → f p ≡ byte_before b j p;
}

answered_added : (b : State) (s : Start) (row : ℕ → ℕ → Bool) → Answered b → Answered (added b s row)
answered_added b s row h j f low ans = elim (cases_eq j b.count) [
  | inl e ↦ absurd (grind (arith, updated_read b.answer b.count None j, e, ans))
  | inr ne ↦ let st = updated_other b.start b.count s j ne in
      let w = h j f (omega arith) (sym (updated_other b.answer b.count None j ne) ∙ ans) in
      record {
        alive = rw st w.alive;
        client = rw st w.client;
        read = rw st w.read;
        right = λ p want. w.right p (rw st at want)
            ∙ sym (at_added b s row j p (omega arith));
      }
]

agrees : (b : State) (c j x : ℕ) → b.call c ≡ Reads j → (b.start j).reach x ≡ true → Sure b → Agrees b j x (byte_before b j)
agrees b c j x run rx s r i e z is here = let w = s.shows r i in
    w.cells c z (run ∙ ap Reads (sym e)) is (ap (λ y. (b.start y).reach (b.layout.cell_col r.at z)) e ∙ ap (b.start j).reach here
    ∙ rx) ∙ ap (λ y. b.layout.word r.at z (byte_before b y)) e

answered_now : (b : State) (c i : ℕ) (f : ℕ → ℕ) → Allowed b (Answers c i f) → Sure b → Answered b →
    Answered (after b (Answers c i f))
answered_now b c i f a s h j g low ans = elim (cases_eq j i) [
  | inr ne ↦ h j g low (sym (updated_other b.answer i (Some f) j ne) ∙ ans)
  | inl e ↦ let same : f ≡ g = same_Some f g (sym (updated_at b.answer i (Some f) j e) ∙ ans) in
      let low2 : i < b.count = grind (arith, e, low) in
      let sh = s.shows a.told.0 a.told.1 in
      rw (e, ← same) (record {
        alive = ap (λ y. (b.start y).alive) (sym a.told.2) ∙ sh.alive;
        client = (s.safe.formed i low2).reads (s.safe.running.reads c i a.runs);
        read = s.safe.running.reads c i a.runs;
        right =
            λ p want. a.all p want (byte_before b i) (bytes_before b i (omega (arith, low2)) s.safe.formed)
            (agrees b c i (b.layout.col p) a.runs ((s.safe.formed i low2).wants p want) s);
      })
]

keep_answered : (b : State) (e : Event) → Allowed b e → Sure b → Answered b → Answered (after b e)
keep_answered b (StartsWrite c g i d touch hit seen e1 pt) a s h =
    answered_added b (written_start b c g d touch hit seen e1 pt) (λ k z. false) h
keep_answered b (StartsRead c g lo hi reach) a s h = answered_added b (read_start b c g lo hi reach) (λ k z. false) h
keep_answered b (Repairs k which e0) a s h = answered_added b (repair_start b k which e0) (λ f y. updated (λ w. false) k true f) h
keep_answered b (Rebuilds k cells) a s h = answered_added b (rebuilt_start b k cells) (λ f y. updated (λ w. false) k true f) h
keep_answered b (Answers c j f) a s h = answered_now b c j f a s h
keep_answered b (Acknowledges c i) a s h = λ j f low ans. let w = h j f low ans in record {
  alive = w.alive;
  client = w.client;
  read = w.read;
  right =
      λ p want. w.right p want
      ∙ sym (at_acks b c i j p a s.safe.code s.safe.calls s.safe.running s.safe.formed s.safe.done s.safe.dead s.late
      (λ u t. before_unsettled b i j (b.layout.col p) u s.safe.later low w.alive ((s.safe.formed j low).wants p want)
      w.client t));
}
keep_answered b (Repaired done e0) a s h = λ j f low ans. let w = h j f low ans in record {
  alive = w.alive;
  client = w.client;
  read = w.read;
  right = λ p want. w.right p want ∙ sym (at_mended b done e0 j p a.runs (omega (arith, low)) s.safe.formed
      (λ i u t. before_unsettled b i j (b.layout.col p) u s.safe.later low w.alive ((s.safe.formed j low).wants p want)
      w.client t));
}
keep_answered b e a s h = h

-- all that the judge needs
pub record Right (b : State) : Type 0 where
  pub sure : Sure b
  pub answered : Answered b
  pub sized : Sized b

right_all : (b : State) (es : List Event) → Lawful b es → Calms b es → Right b → Right (after_all b es)
right_all b [] l c r = r
right_all b (e ∷ es) l c r =
    right_all (after b e) es l.1 c.1
    (record {
      sure = keep_sure b e l.0 c.0 r.sure;
      answered = keep_answered b e l.0 r.sure r.answered;
      sized = keep_sized b e l.0 r.sure.safe r.sized;
    })

pub right_end : (m : Layout) (es : List Event) → IsCode m → Lawful (new_file_state m) es → Calms (new_file_state m) es →
    Right (reached m es)
right_end m es code l c =
    right_all (new_file_state m) es l c
    (record { sure = sure_first m code; answered = λ j f low. absurd (omega (arith, low)); sized = sized_first m })

in_left : (x : ℕ) (xs ys : List ℕ) → In x xs → In x (xs ++ ys)
in_left x [] ys i = absurd i
in_left x (y ∷ xs) ys i = elim i [ inl e ↦ inl e | inr o ↦ inr (in_left x xs ys o) ]

in_right : (x : ℕ) (xs ys : List ℕ) → In x ys → In x (xs ++ ys)
in_right x [] ys i = i
in_right x (y ∷ xs) ys i = inr (in_right x xs ys i)

in_map : (f : ℕ → ℕ) (x : ℕ) (xs : List ℕ) → In x xs → In (f x) (map f xs)
in_map f x [] i = i
in_map f x (y ∷ xs) i = elim i [ inl e ↦ inl (ap f e) | inr o ↦ inr (in_map f x xs o) ]

in_filter : (test : ℕ → Bool) (x : ℕ) (xs : List ℕ) → In x xs → test x ≡ true → In x (filter test xs)
in_filter test x [] i t = i
in_filter test x (y ∷ xs) i t = elim i [
  | inl e ↦ rw (ap test (sym e) ∙ t) (inl e)
  | inr o ↦ skip (test y) (in_filter test x xs o t)
]
  where
    skip : (w : Bool) → In x (filter test xs) → In x (cond w (y ∷ filter test xs) (filter test xs))
    skip true i2 = inr i2
    skip false i2 = i2

contained : (x : ℕ) (xs : List ℕ) → In x xs → Contains xs x
contained x [] i = absurd i
contained x (y ∷ xs) i = elim i [
  | inl e ↦ (0, omega arith, sym e)
  | inr o ↦ let w = contained x xs o in (suc w.0, omega (arith, w.1), w.2)
]

-- the byte that stands is among the values after a write
in_taken : (acknowledged applied : Bool) (d : Option ℕ) (old : ℕ) (values : List ℕ) → In old values →
    ((v : ℕ) → acknowledged ≡ true → d ≡ Some v → applied ≡ true) → In (over applied d old) (taken_byte acknowledged d values)
in_taken true true None old values i h = i
in_taken true false None old values i h = i
in_taken false true None old values i h = i
in_taken false false None old values i h = i
in_taken true true (Some v) old values i h = inl refl
in_taken true false (Some v) old values i h = absurd (true≢false (sym (h v refl refl)))
in_taken false true (Some v) old values i h = in_right v values (v ∷ []) (inl refl)
in_taken false false (Some v) old values i h = in_left old values (v ∷ []) i

in_taken_as : (acknowledged applied : Bool) (d w : Option ℕ) (old : ℕ) (values : List ℕ) → d ≡ w → In old values →
    ((v : ℕ) → acknowledged ≡ true → d ≡ Some v → applied ≡ true) → In (over applied d old) (taken_byte acknowledged w values)
in_taken_as acknowledged applied d w old values e i h = rw (← e) (in_taken acknowledged applied d old values i h)

in_settled : (d : Option ℕ) (x : ℕ) (values : List ℕ) → In x values → ((v : ℕ) → d ≡ Some v → v ≡ x) → In x (settled d values)
in_settled None x values i h = i
in_settled (Some v) x values i h = inl (sym (h v refl))

-- the size that stands is among the sizes after a write
in_grown : (acknowledged : Bool) (offset : ℕ) (bytes : List ℕ) (old new : ℕ) (sizes : List ℕ) → In old sizes →
    (new ≡ max (offset + length bytes) old) ⊎ (new ≡ old) → (acknowledged ≡ true → new ≡ max (offset + length bytes) old) →
    In new (sizes_after (Write offset bytes acknowledged) sizes)
in_grown true offset bytes old new sizes i any all = rw (all refl) (in_map (max (offset + length bytes)) old sizes i)
in_grown false offset bytes old new sizes i any all = elim any [
  | inl e ↦
      rw e
      (in_right (max (offset + length bytes) old) sizes (map (max (offset + length bytes)) sizes)
      (in_map (max (offset + length bytes)) old sizes i))
  | inr e ↦ rw e (in_left old sizes (map (max (offset + length bytes)) sizes) i)
]

-- where a piece has a byte
byte_is : (offset : ℕ) (bytes : List ℕ) (p v : ℕ) → byte_for offset bytes p ≡ Some v →
    (i : ℕ) × (i < length bytes) × (offset + i ≡ p) × (slice_index bytes i ≡ v)
byte_is offset bytes p v e = elim (cases_lt p offset) [
  | inl before ↦ let none : byte_for offset bytes p ≡ None = rw (lt-ltb p offset before) refl in
      let z : None ≡ Some v = sym none ∙ e in absurd (cc z)
  | inr from ↦ elim (cases_lt (p - offset) (length bytes)) [
    | inl inside ↦ let there : byte_for offset bytes p ≡ Some (get_or bytes (p - offset) 0) =
        rw (le-ltb p offset (omega (arith, from))) (slice_get-get_or bytes (p - offset) 0 inside) in
        (p - offset, inside, omega (arith, from), same_Some _ _ (sym there ∙ e))
    | inr behind ↦ let none : byte_for offset bytes p ≡ None =
        rw (le-ltb p offset (omega (arith, from))) (slice_get_past bytes (p - offset) (omega (arith, behind))) in
        let z : None ≡ Some v = sym none ∙ e in absurd (cc z)
  ]
]

spans_in : (lo n p : ℕ) → lo ≤ p → p < lo + n → spans lo n p ≡ true
spans_in lo n p a l = grind (arith, nat_tests, a, l)

answered_as : (s : Start) (o : Option (ℕ → ℕ)) (bytes : List ℕ) → SameAnswer s o (Some bytes) →
    (f : ℕ → ℕ) × (o ≡ Some f) × (length bytes ≡ gives s) × ((i : ℕ) → i < length bytes → slice_index bytes i ≡ f (s.from_ + i))
answered_as s (Some f) bytes w = (f, refl, w.size, w.bytes)
answered_as s None bytes w = absurd w

-- an entry without data leaves what stood
at_quiet : (b : State) (j p : ℕ) → (b.start j).data_at p ≡ None → byte_before b (j + 1) p ≡ byte_before b j p
at_quiet b j p none = chain-next (λ i. b.chosen i p) (λ i. (b.start i).data_at p) j
    ∙ over_none (b.chosen j p) ((b.start j).data_at p) (byte_before b j p) none

size_quiet : (b : State) (j : ℕ) → Right b → j < b.count → (b.start j).is_write ≡ false → size_before b (j + 1) ≡ size_before b j
size_quiet b j r low w = elim (sz_next b j) [ inl x ↦ absurd (true≢false (sym (r.sized.took j low x.0) ∙ w)) | inr x ↦ x.1 ]

-- what an answered read gave is what the log leaves before it
read_right : (b : State) (j : ℕ) (f : ℕ → ℕ) → Right b → j < b.count → b.answer j ≡ Some f →
    (min (b.start j).to_ (size_before b j) - (b.start j).from_ ≡ gives (b.start j)) × ((p : ℕ) →
    spans (b.start j).from_ (gives (b.start j)) p ≡ true → f p ≡ byte_before b j p)
read_right b j f r low o =
    let w = r.answered j f low o in let u = r.sure.safe.formed j low in let c = r.sized.clips j low w.client w.alive in
    (ap (λ y. min (b.start j).to_ y - (b.start j).from_) (sym c), λ p on. w.right p (u.asks w.read p ∙ on))

-- what stands is among a judge's candidates
record Among (b : State) (j : ℕ) (c : Candidates) : Type 0 where
  byte : (p : ℕ) → In (byte_before b j p) (c.values p)
  size : In (size_before b j) c.sizes

-- the size after a write that was acknowledged reaches its end, and any write's is the old one or that
size_steps : (b : State) (j end_ : ℕ) → Right b → j < b.count → (b.start j).end_ ≡ end_ →
    ((size_before b (j + 1) ≡ max end_ (size_before b j)) ⊎ (size_before b (j + 1) ≡ size_before b j)) × (b.told_client j ≡ true →
    size_before b (j + 1) ≡ max end_ (size_before b j))
size_steps b j end_ r low same = let next = sz_next b j in (
  elim next [ inl x ↦ inl (omega (arith, x.1, same)) | inr x ↦ inr x.1 ],
  λ k. elim next [
    | inl x ↦ omega (arith, x.1, same)
    | inr x ↦ let u = r.sized.fits j low (r.sized.said j k).1 in
        let c : (b.start j).clip ≡ size_before b j = r.sized.clips j low u.1 u.0 in
        let le : (b.start j).end_ ≤ size_before b j =
        elim u.2 [ inl l ↦ omega (arith, l, c) | inr on ↦ absurd (true≢false (sym on ∙ x.0)) ] in
        omega (arith, x.1, le, same)
  ],
)

entry_step : (b : State) (j : ℕ) (e : Entry) (c : Candidates) → Right b → j < b.count →
    IsEntry (b.start j) (b.told_client j) (b.answer j) e → Among b j c → Fits c e × Among b (j + 1) (after_entry c e)
entry_step b j (Write offset bytes acknowledged) c r low w h = let z = size_steps b j (offset + length bytes) r low w.ends in (
  tt,
  record {
    byte = λ p. rw (chain-next (λ i. b.chosen i p) (λ i. (b.start i).data_at p) j)
        (in_taken_as acknowledged (b.chosen j p) ((b.start j).data_at p) (byte_for offset bytes p) (byte_before b j p)
        (c.values p) (w.same p) (h.byte p)
        (λ v k d. r.sure.safe.chosen_acked j p low (r.sized.said j (w.told ∙ k)).1));
    size =
        in_grown acknowledged offset bytes (size_before b j) (size_before b (j + 1)) c.sizes h.size z.0 (λ k. z.1 (w.told ∙ k));
  },
)
entry_step b j (Read offset len (Some bytes)) c r low w h =
    let u = r.sure.safe.formed j low in let a = answered_as (b.start j) (b.answer j) bytes w.same in
    let rr = read_right b j a.0 r low a.1 in
    let quiet : (p : ℕ) → byte_before b (j + 1) p ≡ byte_before b j p = λ p. at_quiet b j p (u.none p (u.plain w.read)) in
    let same_size : size_before b (j + 1) ≡ size_before b j = size_quiet b j r low (u.plain w.read) in
    let gave : given offset len (size_before b j) ≡ length bytes = omega (arith, w.first, w.past, rr.0, a.2) in
    let byte : (i : ℕ) → i < length bytes → slice_index bytes i ≡ byte_before b j (offset + i) = λ i l.
    a.3 i l ∙ ap (λ y. a.0 (y + i)) w.first
    ∙ rr.1 (offset + i)
    (spans_in (b.start j).from_ (gives (b.start j)) (offset + i) (omega (arith, w.first)) (omega (arith, w.first, l, a.2))) in (
      record {
        size = (size_before b j, contained (size_before b j) c.sizes h.size, gave);
        bytes = λ i l. rw (byte i l)
            (contained (byte_before b j (offset + i)) (c.values (offset + i)) (h.byte (offset + i)));
      },
      record {
        byte = λ p. rw (quiet p) (in_settled (byte_for offset bytes p) (byte_before b j p) (c.values p) (h.byte p)
            (λ v e. let x = byte_is offset bytes p v e in sym x.3 ∙ byte x.0 x.1 ∙ ap (λ q. byte_before b j q) x.2));
        size =
            rw same_size
            (in_filter (λ size. given offset len size == length bytes) (size_before b j) c.sizes h.size (eq-eqb _ _ gave));
      },
    )
entry_step b j (Read offset len None) c r low w h = let u = r.sure.safe.formed j low in (
  tt,
  record {
    byte = λ p. rw (at_quiet b j p (u.none p (u.plain w.read))) (h.byte p);
    size = rw (size_quiet b j r low (u.plain w.read)) h.size;
  },
)

accepts_more : (c : Candidates) (es : List Entry) (e : Entry) → AcceptsFrom c es → Fits (candidates_from c es) e →
    AcceptsFrom c (es ++ e ∷ [])
accepts_more c [] e a f = (f, tt)
accepts_more c (x ∷ es) e a f = (a.0, accepts_more (after_entry c x) es e a.1 f)

candidates_more : (c : Candidates) (es : List Entry) (e : Entry) →
    candidates_from c (es ++ e ∷ []) ≡ after_entry (candidates_from c es) e
candidates_more c [] e = refl
candidates_more c (x ∷ es) e = candidates_more (after_entry c x) es e

front_judged : (b : State) (j : ℕ) (log : List Entry) → Right b → j ≤ b.count → IsLog b j log →
    AcceptsFrom new_file log × Among b j (candidates log)
front_judged b zero log r l il = rw il (tt, record { byte = λ p. inl (chain-none _ _); size = inl (sym (grow_first _ _)) })
front_judged b (suc j) log r l il = let low : j < b.count = omega (arith, l) in elim il [
  | inl w ↦ let h = front_judged b j log r (omega (arith, l)) w.1 in (
    h.0,
    rw (← add-one) (record {
      byte = λ p. rw (at_quiet b j p ((r.sure.safe.formed j low).none p w.0.write)) (h.1.byte p);
      size = rw (size_quiet b j r low w.0.write) h.1.size;
    }),
  )
  | inr w ↦ let h = front_judged b j w.0 r (omega (arith, l)) w.3 in let e = entry_step b j w.1 (candidates w.0) r low w.4 h.1 in
      rw w.2 (accepts_more new_file w.0 w.1 h.0 e.0, rw (candidates_more new_file w.0 w.1, ← add-one) e.1)
]

pub is_judged : IsJudged
is_judged m es log code l c il =
    let b : State = reached m es in (front_judged b b.count log (right_end m es code l c) (omega arith) il).0

pub is_whole : IsWhole
is_whole m es code l c = let b : State = reached m es in let r = right_end m es code l c in record {
  bytes = bytes_before b b.count (omega arith) r.sure.safe.formed;
  among = λ log il q. contained _ _ ((front_judged b b.count log r (omega arith) il).1.byte q);
  undisturbed = λ x none k z is here g. r.sure.safe.cells k z g ∙ r.sure.whole k z is g (λ d. none (rw here at d));
  settled = λ x none k z is here g. r.sure.safe.cells k z g
      ∙ calm_whole b x r.sure.safe.formed r.sure.settled_ r.sure.whole none k z is here g;
  stands = λ k lo. not_gone b k r.sure.safe.gone_lost lo;
  replies =
      λ e j x run rx. (
        agrees b e j x run rx r.sure,
        bytes_before b j (let u = r.sure.safe.calls.reads e j run in let w = u.below in omega (arith, w)) r.sure.safe.formed,
      );
}

-- with no repair and no outstanding grant nothing is unsettled
pub is_audited : IsAudited
is_audited m es x code l c over none =
    (is_whole m es code l c).settled x
    (λ j u t. unsettled_none (reached m es) j over (right_end m es code l c).sure.safe.open_granted none u)
