-- Each byte that a read puts together was given by a reply, or is decoded from bytes that replies gave.
use Rattle.std.proofs.Common.{◌≡◌, ◌≢◌, ◌<◌, ◌≤◌, ◌⊎◌, ℕ, zero, suc, ◌+◌, ◌-◌, ◌*◌, ◌/◌, ◌%◌, ◌==◌, Bool, true, false, List, [], ◌∷◌, ◌++◌, length, get_or, take, refl, sym, ap, subst, ◌∙◌, inl, inr, arith, if◌then◌else◌, ne_eqb}
use Rattle.std.specs.Prelude.{◌&&◌, not, nat_le, nat_lt, slice_index, replicate}
use Rattle.std.specs.List.{All, Contains, AllByRecursion}
use Rattle.std.proofs.lemmas.Bool.{cases_Bool, cases_eq, cases_lt, eqb-true}
use Rattle.std.proofs.lemmas.Bool.Decides.{nat_tests}
use Rattle.std.proofs.lemmas.Nat.{div-add-mod'}
use Rattle.std.proofs.Math.Nat.{mod-lt}
use Rattle.std.proofs.Math.ListN.{get_or-append}
use Rattle.std.proofs.lemmas.List.{get_or-append-add, length-append, length-replicate, length-take, get_or-replicate, get_or-take, get_or_past}
use Rattle.exchange_law.proofs.Parts.{each_more}
use Rattle.data_map.specs.declared.check.RawMap.{RawMap}
use Rattle.data_map.specs.Check.{IsChecked}
use Rattle.data_map.specs.Striping.{replicas, group_width, parities, data_units, position_of, offset_of}
use Rattle.data_map.proofs.Striping.{position_in_range}
use Rattle.data_map.proofs.Shape.{replicas_inside}
use Rattle.parity_code.specs.declared.code.Code.{Code}
use Rattle.parity_code.specs.declared.code.Code.TheVariants.{Plain, Xor, PandQ}
use Rattle.parity_code.specs.Codeword.{count_of, codeword}
use Rattle.parity_code.specs.Decoding.{decoded}
use Rattle.parity_code.proofs.DecodeLaws.{count_most}
use Rattle.parity_code.proofs.BackLaws.{AreLost}
use Rattle.stripe_plan.specs.Lost.{among, is_out}
use Rattle.stripe_plan.specs.Words.{has_byte, byte_at, code_of, got_at, known_from, lost_from}
use Rattle.stripe_plan.specs.Laws.{IsGot}
use Rattle.stripe_plan.proofs.Counting.{RisesFrom, lost_split, lost_rises, are_lost, among_lost, contained}
use Rattle.stripe_plan.proofs.Columning.{code_count}
use Rattle.client_rules.specs.declared.limits.TheConstants.{PERFORMED}
use Rattle.world_history.specs.ClientNames.{Held, Awaited, Reply, Column}
use Rattle.client_rules.specs.Io.{carried, got_of}
use Rattle.cause_law.specs.Met as met
use Rattle.cause_law.specs.Met.{Met, Answered, Replied, out_in}
use Rattle.cause_law.specs.Read.{read_in}
use Rattle.cause_law.specs.ReadBytes.{Gives, IsGiven, CarryBytes, IsSource, IsTheOne}
use Rattle.cause_law.proofs.Decodings.{HasData, BeginsWithData, has_data, only_data}
use Rattle.cause_law.proofs.Fetching.{IsMade, AllMade}

-- ---- what a reply gives

-- bytes that a reply doesn't carry are 0
carried_long : (n : ℕ) (xs : List ℕ) → length (carried n xs) ≡ n
carried_long n xs =
    let none : ℕ = 0 in
    let zeros : List ℕ = replicate (n - length xs) none in
    omega (arith, length-append (take n xs) zeros, length-replicate (n - length xs) none, length-take n xs)

carried_at : (n : ℕ) (xs : List ℕ) (i : ℕ) → i < n → get_or (carried n xs) i 0 ≡ get_or xs i 0
carried_at n xs i lt =
    let zeros : List ℕ = replicate (n - length xs) 0 in
    elim (cases_lt i (length xs)) [
      | inl there ↦
          get_or-append (take n xs) zeros 0 i (omega (arith, lt, there, length-take n xs)) ∙ get_or-take n xs i 0 lt
      | inr past ↦
          let is : i ≡ length (take n xs) + (i - length xs) = omega (arith, lt, past, length-take n xs) in
          ap (λ (j : ℕ). get_or (take n xs ++ zeros) j 0) is ∙ get_or-append-add (take n xs) zeros (i - length xs) 0
          ∙ get_or-replicate (n - length xs) (i - length xs) 0 0 (omega (arith, lt, past)) ∙ sym (get_or_past xs i 0 past)
    ]

and_both : (a b c : Bool) → (a && (b && c)) ≡ true → (a ≡ true) × (b ≡ true) × (c ≡ true)
and_both true true true e = (refl, refl, refl)
and_both true true false e = absurd (cc e)
and_both true false c e = absurd (cc e)
and_both false b c e = absurd (cc e)

le_of : (a b : ℕ) → nat_le a b ≡ true → a ≤ b
le_of a b e = grind (arith, nat_tests, e)

lt_of : (a b : ℕ) → nat_lt a b ≡ true → a < b
lt_of a b e = grind (arith, nat_tests, e)

-- the position has components of the map alone
abbrev AreBelow : Held → (p : ℕ) → Type 0
AreBelow h p = (k : ℕ) → k / replicas h.map ≡ p → k < h.map.comps

gives : (h : Held) (a : Awaited) (r : Reply) (p o : ℕ) → AreBelow h p → IsMade h a → r.nonce ≡ a.command.nonce
    → (r.verdict == PERFORMED) ≡ true → has_byte (got_of a r) p o ≡ true
    → Gives h a r p o (slice_index (carried a.ask.length r.payload) (o - a.ask.offset))
gives h a r p o below x nonce done has =
    let parts = and_both (a.ask.position == p) (nat_le a.ask.offset o)
    (nat_lt o (a.ask.offset + length (carried a.ask.length r.payload))) has in
    let at : a.ask.position ≡ p = eqb-true a.ask.position p parts.0 in
    let from : a.ask.offset ≤ o = le_of a.ask.offset o parts.1 in
    let to : o < a.ask.offset + a.ask.length =
    omega (
      arith,
      lt_of o (a.ask.offset + length (carried a.ask.length r.payload)) parts.2,
      carried_long a.ask.length r.payload,
    ) in
    record {
      performed = eqb-true r.verdict PERFORMED done;
      nonce = nonce;
      read = x.read;
      component = a.ask.component;
      below = below a.ask.component (x.replica ∙ at);
      replica = x.replica ∙ at;
      drive = x.drive;
      capability = x.capability;
      partition = x.partition;
      object = x.object;
      first = omega (arith, from, x.offset);
      end = omega (arith, to, x.offset, x.length);
      byte =
          carried_at a.ask.length r.payload (o - a.ask.offset) (omega (arith, from, to))
          ∙ ap (λ (n : ℕ). slice_index r.payload (o - n)) (sym x.offset);
    }

-- the byte of the first of some pieces and one more
data Last (cs : List Column) (c : Column) (p o : ℕ) : Type 0 where
  Before : IsGot cs p o → byte_at (cs ++ c ∷ []) p o ≡ byte_at cs p o → Last cs c p o
  There : has_byte c p o ≡ true → byte_at (cs ++ c ∷ []) p o ≡ slice_index c.bytes (o - c.offset) → Last cs c p o

last_of : (cs : List Column) (c : Column) (p o : ℕ) → IsGot (cs ++ c ∷ []) p o → Last cs c p o
unfolding byte_at
last_of [] c p o (inl e) = There e (rw e refl)
last_of [] c p o (inr g) = absurd g
last_of (d ∷ cs) c p o (inl e) = Before (inl e) (rw e refl)
last_of (d ∷ cs) c p o (inr g) = elim (cases_Bool (has_byte d p o)) [
  | inl e ↦ Before (inl e) (rw e refl)
  | inr n ↦ elim (last_of cs c p o g) [
    | Before b e ↦ Before (inr b) (rw n e)
    | There t e ↦ There t (rw n e)
  ]
]

-- a reply more
one_given : (h : Held) (ms : List Met) (p o : ℕ) → AreBelow h p → (a : Awaited) (r : Reply) → IsMade h a
    → r.nonce ≡ a.command.nonce
    → (b : Bool)
    → ((r.verdict == PERFORMED) && not a.write) ≡ b
    → (IsGot (read_in ms) p o → IsGiven h ms p o (byte_at (read_in ms) p o))
    → IsGot (if b then read_in ms ++ got_of a r ∷ [] else read_in ms) p o
    → IsGiven h (Replied a r ∷ ms) p o (byte_at (if b then read_in ms ++ got_of a r ∷ [] else read_in ms) p o)
one_given h ms p o below a r made nonce false is before g = inr (before g)
one_given h ms p o below a r made nonce true is before g = by_last (last_of (read_in ms) (got_of a r) p o g)
  where
    done : (b c : Bool) → (b && c) ≡ true → b ≡ true
    done true c e = refl
    done false c e = absurd (cc e)

    by_last : Last (read_in ms) (got_of a r) p o
        → IsGiven h (Replied a r ∷ ms) p o (byte_at (read_in ms ++ got_of a r ∷ []) p o)
    by_last (Before b e) = subst (λ (v : ℕ). IsGiven h (Replied a r ∷ ms) p o v) (sym e) (inr (before b))
    by_last (There t e) =
        subst (λ (v : ℕ). IsGiven h (Replied a r ∷ ms) p o v) (sym e)
        (inl (gives h a r p o below made nonce (done (r.verdict == PERFORMED) (not a.write) is) t))

-- what was got of a position's byte a reply gave
pub given_at : (h : Held) (ms : List Met) (p o : ℕ) → AreBelow h p → AllMade h ms → IsGot (read_in ms) p o
    → IsGiven h ms p o (byte_at (read_in ms) p o)
unfolding read_in
given_at h [] p o below x g = absurd g
given_at h (Answered r a ∷ ms) p o below x g = given_at h ms p o below x g
given_at h (met.TimedOut k c ∷ ms) p o below x g = given_at h ms p o below x g
given_at h (Replied a r ∷ ms) p o below x g =
    one_given h ms p o below a r x.0 x.1 ((r.verdict == PERFORMED) && not a.write) refl (given_at h ms p o below x.2) g

-- ---- bytes

carried_small : (n : ℕ) (xs : List ℕ) → ((i : ℕ) → get_or xs i 0 < 256) → (i : ℕ) → get_or (carried n xs) i 0 < 256
carried_small n xs small i = elim (cases_lt i n) [
  | inl lt ↦ rw (carried_at n xs i lt) (small i)
  | inr past ↦ rw (get_or_past (carried n xs) i 0 (omega (arith, past, carried_long n xs))) (omega arith)
]

all_small : (ms : List Met) → CarryBytes ms
    → AllByRecursion (λ (c : Column). (i : ℕ) → get_or c.bytes i 0 < 256) (read_in ms)
unfolding read_in
all_small [] x = tt
all_small (Answered r a ∷ ms) x = all_small ms x
all_small (met.TimedOut g k ∷ ms) x = all_small ms x
all_small (Replied a r ∷ ms) x = either ((r.verdict == PERFORMED) && not a.write) (all_small ms x.1)
  where
    either : (b : Bool) → AllByRecursion (λ (c : Column). (i : ℕ) → get_or c.bytes i 0 < 256) (read_in ms)
        → AllByRecursion (λ (c : Column). (i : ℕ) → get_or c.bytes i 0 < 256)
        (if b then read_in ms ++ got_of a r ∷ [] else read_in ms)
    either true before =
        each_more _ (read_in ms) (got_of a r ∷ []) before (carried_small a.ask.length r.payload x.0, tt)
    either false before = before

byte_small : (cs : List Column) (p o : ℕ) → AllByRecursion (λ (c : Column). (i : ℕ) → get_or c.bytes i 0 < 256) cs
    → byte_at cs p o < 256
unfolding byte_at
byte_small [] p o x = omega arith
byte_small (c ∷ cs) p o x = elim (cases_Bool (has_byte c p o)) [
  | inl e ↦ rw e (x.0 (o - c.offset))
  | inr n ↦ rw n (byte_small cs p o x.1)
]

-- ---- a column with some units out

known_at : (m : RawMap) (got : List Column) (out : List ℕ) (s b c n k : ℕ) → k < n
    → get_or (known_from m got out s b c n) k 0
    ≡ (if is_out m out (position_of m s (c + k)) then 0 else got_at m got s b (c + k))
unfolding known_from
known_at m got out s b c zero k lt = absurd (omega (arith, lt))
known_at m got out s b c (suc n) zero lt = let z : c + zero ≡ c = omega arith in rw z refl
known_at m got out s b c (suc n) (suc k) lt =
    let z : c + suc k ≡ c + 1 + k = omega arith in rw z (known_at m got out s b (c + 1) n k (omega (arith, lt)))

known_long : (m : RawMap) (got : List Column) (out : List ℕ) (s b c n : ℕ) → length (known_from m got out s b c n) ≡ n
unfolding known_from
known_long m got out s b c zero = refl
known_long m got out s b c (suc n) = ap suc (known_long m got out s b (c + 1) n)

known_small : (m : RawMap) (got : List Column) (out : List ℕ) (s b c n : ℕ) → ((p o : ℕ) → byte_at got p o < 256)
    → (k z : ℕ) → k < length (known_from m got out s b c n) → get_or (known_from m got out s b c n) k z < 256
unfolding known_from
known_small m got out s b c zero small k z lt = absurd (omega (arith, lt))
known_small m got out s b c (suc n) small zero z lt = head (is_out m out (position_of m s c))
  where
    head : (t : Bool) → (if t then 0 else got_at m got s b c) < 256
    head true = omega arith
    head false = small _ _
known_small m got out s b c (suc n) small (suc k) z lt = known_small m got out s b (c + 1) n small k z (omega (arith, lt))

-- a unit that is out is counted
some_lost : (m : RawMap) (out : List ℕ) (s c n k : ℕ) → c ≤ k → k < c + n → is_out m out (position_of m s k) ≡ true
    → 0 < length (lost_from m out s c n)
unfolding lost_from
some_lost m out s c zero k from to gone = absurd (omega (arith, from, to))
some_lost m out s c (suc n) k from to gone = elim (cases_Bool (is_out m out (position_of m s c))) [
  | inl t ↦ rw t (omega arith)
  | inr f ↦ elim (cases_eq c k) [
    | inl same ↦ absurd (cc (sym f ∙ ap (λ (z : ℕ). is_out m out (position_of m s z)) same ∙ gone))
    | inr other ↦ rw f (some_lost m out s (c + 1) n k (omega (arith, from, other)) (omega (arith, to)) gone)
  ]
]

none_lost : (m : RawMap) (out : List ℕ) (s c : ℕ) → is_out m out (position_of m s c) ≡ false
    → length (lost_from m out s c 1) ≡ 0
unfolding lost_from
none_lost m out s c there = rw there refl

-- the first that is out is a unit of data, if one of these is
first_low : (m : RawMap) (out : List ℕ) (s c n k units : ℕ) → c ≤ k → k < c + n → k < units
    → is_out m out (position_of m s k) ≡ true → BeginsWithData units (lost_from m out s c n)
unfolding lost_from
first_low m out s c zero k units from to low gone = absurd (omega (arith, from, to))
first_low m out s c (suc n) k units from to low gone = elim (cases_Bool (is_out m out (position_of m s c))) [
  | inl t ↦ rw t (omega (arith, from, low))
  | inr f ↦ elim (cases_eq c k) [
    | inl same ↦ absurd (cc (sym f ∙ ap (λ (z : ℕ). is_out m out (position_of m s z)) same ∙ gone))
    | inr other ↦ rw f (first_low m out s (c + 1) n k units (omega (arith, from, other)) (omega (arith, to)) low gone)
  ]
]

-- ---- positions

pub position_below : (h : Held) → IsChecked h.map → (s k : ℕ) → k < group_width h.map → AreBelow h (position_of h.map s k)
position_below h ch s k lt = λ n e.
    let q : ℕ = replicas h.map in
    let digits : position_of h.map s k * q + n % q ≡ n = ap (λ (x : ℕ). x * q + n % q) (sym e) ∙ div-add-mod' n q in
    let low : n % q < q = mod-lt n (omega arith) in
    omega (arith, digits, low, replicas_inside h.map (position_of h.map s k) ch (position_in_range h.map s k ch lt))

-- ---- decoded bytes

module _ (h : Held) (ms : List Met) (s b u : ℕ) (ch : IsChecked h.map) (made : AllMade h ms) (low : u < data_units h.map)
    (small : CarryBytes ms) (gone : is_out h.map (out_in h ms) (position_of h.map s u) ≡ true)
    (few : length (lost_from h.map (out_in h ms) s 0 (group_width h.map)) ≤ parities h.map)
    (had : (k : ℕ) → k < group_width h.map → is_out h.map (out_in h ms) (position_of h.map s k) ≡ false
    → IsGot (read_in ms) (position_of h.map s k) (offset_of h.map s b)) where
  abbrev m : RawMap
  m = h.map

  abbrev out : List ℕ
  out = out_in h ms

  abbrev pub units : ℕ
  units = data_units m

  abbrev pub code : Code
  code = code_of m

  abbrev pub lost : List ℕ
  lost = lost_from m out s 0 (group_width m)

  abbrev pub col : List ℕ
  col = known_from m (read_in ms) out s b 0 (group_width m)

  abbrev pub data_of : List ℕ
  data_of = take units (decoded units lost col)

  wide : group_width m ≡ units + count_of code
  wide = omega (arith, code_count m, ch.some_data)

  narrow : units ≤ 255
  narrow = omega (arith, ch.narrow)

  ends : 0 + group_width m ≡ units + count_of code
  ends = omega (arith, wide)

  are : AreLost code units lost
  are =
      are_lost code units lost (subst (λ (n : ℕ). RisesFrom 0 n lost) ends (lost_rises m out s 0 (group_width m)))
      (omega (arith, few, code_count m)) (count_most code)

  starts : BeginsWithData units lost
  starts = first_low m out s 0 (group_width m) u units (omega arith) (omega (arith, low)) low gone

  has : HasData code units lost col data_of
  has =
      has_data code units lost col
      (known_small m (read_in ms) out s b 0 (group_width m) (λ p o. byte_small (read_in ms) p o (all_small ms small)))
      narrow are starts (known_long m (read_in ms) out s b 0 (group_width m) ∙ wide)

  -- a unit that isn't out is a source, unless fewer are out than there is parity and it is the last of it
  source_at : (k : ℕ) → k < units + count_of code → is_out m out (position_of m s k) ≡ false
      → (k ≤ units) ⊎ (1 < length lost) → IsSource m out s k
  source_at k lt there near = record {
    unit = omega (arith, lt, wide);
    there = there;
    early = elim (cases_lt k units) [
      | inl data_ ↦ omega (arith, data_)
      | inr past ↦ elim (cases_eq k units) [
        | inl is ↦
            let one : 0 < length (lost_from m out s 0 units) =
            some_lost m out s 0 units u (omega arith) (omega (arith, low)) gone in
            omega (arith, is, ap (λ (n : ℕ). length (lost_from m out s 0 n)) is, one)
        | inr other ↦
            let all : k + 1 ≡ group_width m = omega (arith, past, other, lt, wide, count_most code) in
            let zk : 0 + k ≡ k = omega arith in
            let split = rw (all, zk) at (lost_split m out s 0 k 1) in
            elim near [
              | inl no_more ↦ absurd (omega (arith, no_more, past, other))
              | inr two ↦ omega (arith, split, none_lost m out s k there, two, lt, count_most code)
            ]
      ]
    ];
  }

  free : (k : ℕ) → k < units + count_of code → ¬ Contains lost k → is_out m out (position_of m s k) ≡ false
  free k lt none = elim (cases_Bool (is_out m out (position_of m s k))) [
    | inl t ↦ absurd (none (contained k lost
        (among_lost m out s 0 (group_width m) k (omega arith) (omega (arith, lt, wide)) ∙ t)))
    | inr f ↦ f
  ]

  -- what the codeword has at a source is what was got there
  word_at : (k : ℕ) → IsSource m out s k → get_or (codeword code data_of) k 0 ≡ got_at m (read_in ms) s b k
  word_at k x =
      let split = lost_split m out s 0 k (group_width m - k) in
      let all : k + (group_width m - k) ≡ group_width m = omega (arith, x.unit) in
      let part : length (lost_from m out s 0 k) ≤ length (lost_from m out s 0 (k + (group_width m - k))) =
      omega (arith, split) in
      let less : length (lost_from m out s 0 k) ≤ length lost = rw all at part in
      let zk : 0 + k ≡ k = omega arith in
      has.same k (omega (arith, x.early, less))
      (among_lost m out s 0 (group_width m) k (omega arith) (omega (arith, x.unit)) ∙ x.there)
      ∙ rw zk at (known_at m (read_in ms) out s b 0 (group_width m) k x.unit) ∙ rw x.there refl

  pub the_data : IsTheOne h ms s b data_of
  the_data = record {
    bytes = has.bytes;
    long = has.long;
    given = λ k x.
        rw (word_at k x)
        (given_at h ms (position_of m s k) (offset_of m s b) (position_below h ch s k x.unit) made (had k x.unit x.there));
    one = λ es bytes long same. only es bytes long same (code_of m) refl lost refl;
  }
    where
      only : (es : List ℕ) → All (λ e. e < 256) es → length es ≡ units
          → ((k : ℕ) → IsSource m out s k → get_or (codeword code es) k 0 ≡ get_or (codeword code data_of) k 0)
          → (c : Code) → code ≡ c → (ls : List ℕ) → lost ≡ ls → es ≡ data_of
      only es bytes long same c is ls are_ls = by_shape c is ls are_ls
        where
          by_left : (left : List ℕ) → AreLost code units left
              → ((k : ℕ) → k < units + count_of code → ¬ Contains left k → IsSource m out s k) → es ≡ data_of
          by_left left are_left source =
              only_data code data_of es left has.bytes bytes (long ∙ sym has.long) (omega (arith, has.long, narrow))
              (subst (λ (n : ℕ). AreLost code n left) (sym has.long) are_left)
              (λ k lt none. same k (source k (omega (arith, lt, has.long)) none))

          by_lost : ((k : ℕ) → k < units + count_of code → (k ≤ units) ⊎ (1 < length lost)) → es ≡ data_of
          by_lost near = by_left lost are (λ k lt none. source_at k lt (free k lt none) (near k lt))

          by_shape : (c : Code) → code ≡ c → (ls : List ℕ) → lost ≡ ls → es ≡ data_of
          by_shape c is [] e = absurd (subst (BeginsWithData units) e starts)
          by_shape Plain is (x ∷ []) e =
              let some = subst (AreLost code units) e are in absurd (omega (arith, some.0, ap count_of is))
          by_shape Xor is (x ∷ []) e = by_lost (λ k lt. inl (omega (arith, lt, ap count_of is)))
          by_shape PandQ is (x ∷ []) e =
              let two : count_of code ≡ 2 = ap count_of is in
              let unit : x < units = subst (BeginsWithData units) e starts in
              by_left (x ∷ (units + 1) ∷ []) (two, omega (arith, unit), omega arith)
              (λ k lt none.
              let not_x : k ≢ x = λ z. none (0, omega arith, sym z) in
              let not_q : k ≢ units + 1 = λ z. none (1, omega arith, sym z) in
              let there : is_out m out (position_of m s k) ≡ false =
              sym (among_lost m out s 0 (group_width m) k (omega arith) (omega (arith, lt, wide)))
              ∙ ap (among k) e ∙ rw (ne_eqb x k (λ z. not_x (sym z))) refl in
              source_at k lt there (inl (omega (arith, lt, two, not_q))))
          by_shape c is (x ∷ y ∷ ls) e =
              by_lost (λ k lt. inr (omega (arith, ap length e, two_more x y ls)))
            where
              two_more : (v w : ℕ) (us : List ℕ) → 1 < length (v ∷ w ∷ us)
              two_more v w us = omega arith
