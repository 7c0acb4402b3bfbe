-- What is read behind a gate.
use Rattle.std.proofs.Common.{◌≡◌, ℕ, ◌+◌, ◌-◌, ◌<◌, ◌≤◌, List, [], ◌∷◌, ◌++◌, length, take, drop, replicate, get_or, sym, ◌∙◌, ap, subst, arith, append_assoc, length-append, take-append-drop}
use Rattle.std.proofs.lemmas.List.{take_at, drop_at, drop_more, drop_all, length-replicate, take_all}
use Rattle.gate_log.specs.declared.entry.TheConstants.{MAX_BODY}
use Rattle.gate_log.specs.declared.errors.LogErr.{LogErr}
use Rattle.gate_log.specs.declared.errors.LogErr.TheVariants.{NotEmpty, NotALog, DiskFault, Memory}
use Rattle.gate_log.specs.declared.form.Form.{Form}
use Rattle.gate_log.specs.Broken.{IsNoRecord}
use Rattle.gate_log.specs.Errors.{NotALogSays}
use Rattle.gate_log.specs.Forms.{IsBody, block_size, head_of, head_size, record_of, size_of, tail_of}
use Rattle.gate_log.proofs.OneLog.{length_record, length_tail, same_head, three}

-- behind the gate at a place stand the bytes that follow it
pub behind_gate : (front rest c : List ℕ) (gate at : ℕ) → c ≡ front ++ gate ∷ rest → at ≡ length front → drop (at + 1) c ≡ rest
behind_gate front rest c gate at is place =
    ap (λ (l : List ℕ). drop (at + 1) l) (is ∙ sym (append_assoc front (gate ∷ []) rest))
    ∙ drop_at (front ++ gate ∷ []) rest (at + 1) (omega (arith, place, length-append front (gate ∷ [])))

-- a block's last byte
pub last_apart : (block : List ℕ) (n next : ℕ) → length block ≡ n + 1 → next ≡ get_or block n 0 →
    block ≡ take n block ++ next ∷ []
last_apart block n next long is =
    sym (take-append-drop n block)
    ∙ ap (λ (l : List ℕ). take n block ++ l)
    (drop_more block n 0 (omega (arith, long))
    ∙ ap (λ (l : List ℕ). get_or block n 0 ∷ l) (drop_all (n + 1) block (omega (arith, long)))
    ∙ ap (λ (g : ℕ). g ∷ []) (sym is))

-- a read that filled its buffer
pub whole_read : (buf bytes : List ℕ) (n k : ℕ) → length buf ≡ k → k ≤ n → n ≤ length buf → take n buf ≡ take n bytes →
    buf ≡ take k bytes
whole_read buf bytes n k long all within front =
    let same : n ≡ k = omega (arith, long, all, within) in
    sym (take_all k buf (omega (arith, long))) ∙ subst (λ (m : ℕ). take m buf ≡ take m bytes) same front

-- a block that begins the bytes, and the byte behind it
pub header_parts : (c header : List ℕ) (n gate : ℕ) → header ≡ take n c → gate ∷ [] ≡ take 1 (drop n c) →
    c ≡ header ++ gate ∷ drop 1 (drop n c)
header_parts c header n gate first second =
    sym (take-append-drop n c)
    ∙ ap (λ (l : List ℕ). l ++ drop n c) (sym first)
    ∙ ap (λ (l : List ℕ). header ++ l)
    (sym (take-append-drop 1 (drop n c)) ∙ ap (λ (l : List ℕ). l ++ drop 1 (drop n c)) (sym second))

-- one byte that was read
pub one_byte : (buf bytes : List ℕ) (n byte : ℕ) → length buf ≡ 1 → 1 ≤ n → n ≤ length buf → take n buf ≡ take n bytes →
    byte ≡ get_or buf 0 0 → byte ∷ [] ≡ take 1 bytes
one_byte buf bytes n byte long all within front is =
    sym (last_apart buf 0 byte (omega (arith, long)) is) ∙ whole_read buf bytes n 1 long all within front

-- ---- parts of a record

-- a list that was made as long as this
pub room_long : (empty room : List ℕ) (len : ℕ) → empty ≡ [] → room ≡ empty ++ replicate (len - length empty) 0 →
    length room ≡ len
room_long empty room len none is =
    omega (
      arith,
      ap (λ (l : List ℕ). length l) is,
      ap (λ (l : List ℕ). length l) none,
      length-append empty (replicate (len - length empty) 0),
      length-replicate {A = ℕ} (len - length empty) 0,
    )

-- what was read of a record, one part behind the other
pub record_parts : (form : Form) (body rest block : List ℕ) (next len : ℕ) → length body ≡ len
    → head_of form len ≡ take (head_size form) rest
    → block ≡ take (block_size form len) (drop (head_size form) rest) → block ≡ body ++ (tail_of form body ++ next ∷ [])
    → (behind : List ℕ) × (rest ≡ record_of form body ++ next ∷ behind)
record_parts form body rest block next len long head is split =
    let behind = drop (block_size form len) (drop (head_size form) rest) in (
      behind,
      sym (take-append-drop (head_size form) rest)
          ∙ ap (λ (l : List ℕ). l ++ drop (head_size form) rest) (sym head ∙ ap (head_of form) (sym long))
          ∙ ap (λ (l : List ℕ). head_of form (length body) ++ l)
          (sym (take-append-drop (block_size form len) (drop (head_size form) rest))
          ∙ ap (λ (l : List ℕ). l ++ behind) (sym is ∙ split)
          ∙ append_assoc body (tail_of form body ++ next ∷ []) behind
          ∙ ap (λ (l : List ℕ). body ++ l) (append_assoc (tail_of form body) (next ∷ []) behind))
          ∙ sym (three form body (next ∷ behind)),
    )

-- ---- no record

-- what a head tells of the record that begins there
pub head_tells : (form other : Form) (body rest behind : List ℕ) (next len : ℕ) → IsBody body → len ≤ MAX_BODY
    → head_of form len ≡ take (head_size form) rest → rest ≡ record_of other body ++ next ∷ behind
    → (form ≡ other) × (len ≡ length body) × (drop (head_size form) rest ≡ body ++ (tail_of other body ++ next ∷ behind))
head_tells form other body rest behind next len is fits head e =
    same_head form other len (length body) (drop (head_size form) rest) (body ++ (tail_of other body ++ next ∷ behind)) fits
    is.fits
    (ap (λ (l : List ℕ). l ++ drop (head_size form) rest) head ∙ take-append-drop (head_size form) rest ∙ e
    ∙ three other body (next ∷ behind))

longer : (form : Form) (body rest behind : List ℕ) (next : ℕ) → rest ≡ record_of form body ++ next ∷ behind
    → size_of form (length body) + 1 ≤ length rest
longer form body rest behind next e =
    omega (arith, ap length e, length-append (record_of form body) (next ∷ behind), length_record form body)

-- what is said of a refusal's place, by what was said of it before
pub says_more : (P Q : ℕ → Type 0) → ((n : ℕ) → P n → Q n) → (e : LogErr) → NotALogSays P e → NotALogSays Q e
says_more P Q more (NotEmpty n) says = says
says_more P Q more (NotALog place) says = more place says
says_more P Q more DiskFault says = says
says_more P Q more Memory says = says

module _ (rest : List ℕ) (form : Form) (len : ℕ) (fits : len ≤ MAX_BODY) (head : head_of form len ≡ take (head_size form) rest)
  where
    -- the bytes end before the next gate
    pub no_room : length rest < size_of form len + 1 → IsNoRecord rest
    no_room short other body next behind is e =
        let tells = head_tells form other body rest behind next len is fits head e in
        omega (
          arith,
          short,
          longer other body rest behind next e,
          ap (λ (f : Form). size_of f len) tells.0,
          ap (λ (n : ℕ). size_of other n) tells.1,
        )

    -- what stands behind the head is no body with what belongs to it
    pub no_block : (block : List ℕ) → block ≡ take (block_size form len) (drop (head_size form) rest)
        → ((body : List ℕ) (next : ℕ) → length body ≡ len → block ≡ body ++ (tail_of form body ++ next ∷ []) → ⊥)
        → IsNoRecord rest
    no_block block there none other body next behind is e =
        let tells = head_tells form other body rest behind next len is fits head e in
        let tail : drop (head_size form) rest ≡ body ++ (tail_of form body ++ next ∷ behind) =
        tells.2 ∙ ap (λ (f : Form). body ++ (tail_of f body ++ next ∷ behind)) (sym tells.0) in
        let block_is = body ++ (tail_of form body ++ next ∷ []) in
        let joined : body ++ (tail_of form body ++ next ∷ behind) ≡ block_is ++ behind =
        sym (append_assoc body (tail_of form body ++ next ∷ []) behind
        ∙ ap (λ (l : List ℕ). body ++ l) (append_assoc (tail_of form body) (next ∷ []) behind)) in
        let long : length block_is ≡ block_size form len =
        omega (
          arith,
          tells.1,
          length_tail form body,
          length-append body (tail_of form body ++ next ∷ []),
          length-append (tail_of form body) (next ∷ []),
        ) in
        none body next (sym tells.1)
        (there ∙ ap (λ (l : List ℕ). take (block_size form len) l) (tail ∙ joined)
        ∙ take_at block_is behind (block_size form len) long)

-- the same of a disk that was only read meanwhile
pub taken_same : (form : Form) (len at : ℕ) (bytes seen block : List ℕ) → seen ≡ bytes
    → block ≡ take (block_size form len) (drop (head_size form) (drop (at + 1) seen))
    → block ≡ take (block_size form len) (drop (head_size form) (drop (at + 1) bytes))
taken_same form len at bytes seen block same is =
    is ∙ ap (λ (l : List ℕ). take (block_size form len) (drop (head_size form) (drop (at + 1) l))) same
