-- A reader of a log, from gate to gate.
use Rattle.std.proofs.Common.{◌≡◌, inl, inr, ℕ, ◌+◌, ◌<◌, ◌≤◌, Bool, List, [], ◌∷◌, ◌++◌, length, drop, IsTrue, refl, sym, ◌∙◌, ap, subst, arith, length-append}
use Rattle.std.proofs.lemmas.List.{append-nil}
use Rattle.osd_disk.specs.Crashes.{Only, OnlyRead}
use Rattle.gate_log.specs.declared.header.TheConstants.{HEADER_SIZE}
use Rattle.gate_log.specs.declared.errors.LogErr.{LogErr}
use Rattle.gate_log.specs.declared.errors.LogErr.TheVariants.{NotEmpty, NotALog, DiskFault, Memory}
use Rattle.gate_log.specs.declared.reader.LogReader.{LogReader}
use Rattle.gate_log.specs.Broken.{IsNoRecord, HasNoRecord, IsBrokenAt}
use Rattle.gate_log.specs.Errors.{NotALogSays}
use Rattle.gate_log.specs.Forms.{record_of}
use Rattle.gate_log.specs.Logs.{Gated, IsFront, IsRecord}
use Rattle.gate_log.specs.Standing.{StandsAt, HasRead}
use Rattle.gate_log.proofs.Fronts.{front_grows, regroup}
use Rattle.gate_log.proofs.Records.{behind_gate}

-- a header alone
pub header_is_front : (header : List ℕ) → length header ≡ HEADER_SIZE → IsFront header [] header
header_is_front header whole =
    record { whole = whole; records = []; are_records = tt; bodies_are = refl; front_is = sym (append-nil header) }

module _ {D : Type 0} (tells : D → Bool) (seen : D → List ℕ) (may_leave : D → List ℕ → Type 0) (moment : D → ℕ)
    (left_since : D → ℕ → List ℕ → Type 0) where
  abbrev pub Stands : List ℕ → List (List ℕ) → D → ℕ → ℕ → Type 0
  Stands header bodies disk at gate = StandsAt tells seen may_leave header bodies disk at gate

  -- a log of which the header was read
  pub begins : (header rest : List ℕ) (disk : D) (gate at : ℕ) → IsTrue (tells disk) → length header ≡ HEADER_SIZE →
      at ≡ HEADER_SIZE
      → seen disk ≡ header ++ gate ∷ rest → Only (seen disk) (may_leave disk) → Stands header [] disk at gate
  begins header rest disk gate at told whole place is durable = record {
    told = told;
    front = header;
    is_front = header_is_front header whole;
    rest = rest;
    contents = is;
    place = place ∙ sym whole;
    durable = durable;
  }

  module _ (header : List ℕ) (bodies : List (List ℕ)) (old new : D) (at gate : ℕ) (s : Stands header bodies old at gate)
      (read : OnlyRead tells seen may_leave moment left_since old new) where
    still : Only (seen new) (may_leave new)
    still c left = s.durable c (read.narrows c left) ∙ sym read.seen_same

    -- a record was read, and the gate behind it
    pub steps_on : (r : Gated) (rest : List ℕ) (next place : ℕ) → r.gate ≡ gate → IsRecord r
        → drop (at + 1) (seen old) ≡ record_of r.form r.body ++ next ∷ rest → place ≡ at + (1 + length (record_of r.form r.body))
        → Stands header (bodies ++ r.body ∷ []) new place next
    steps_on r rest next place same is behind further =
        let rest_is : s.rest ≡ record_of r.form r.body ++ next ∷ rest =
        sym (behind_gate s.front s.rest (seen old) gate at s.contents s.place) ∙ behind in
        record {
          told = subst IsTrue (sym read.tells_same) s.told;
          front = s.front ++ r.gate ∷ record_of r.form r.body;
          is_front = front_grows header bodies s.front s.is_front r is;
          rest = rest;
          contents = read.seen_same ∙ s.contents ∙ ap (λ (l : List ℕ). s.front ++ gate ∷ l) rest_is
              ∙ ap (λ (g : ℕ). s.front ++ g ∷ (record_of r.form r.body ++ next ∷ rest)) (sym same)
              ∙ regroup header bodies s.front s.is_front r.gate next (record_of r.form r.body) rest;
          place = omega (arith, further, s.place, length-append s.front (r.gate ∷ record_of r.form r.body));
          durable = still;
        }

  -- a log that was read to its end
  pub stands_moved : (header : List ℕ) (bodies : List (List ℕ)) (d e : D) (at place gate : ℕ) → e ≡ d → place ≡ at → gate ≡ 0 →
      Stands header bodies d at gate → Stands header bodies e place 0
  stands_moved header bodies d e at place gate a b none s =
      subst (λ (x : D). Stands header bodies x place 0) (sym a)
      (subst (λ (k : ℕ). Stands header bodies d k 0) (sym b) (subst (λ (g : ℕ). Stands header bodies d at g) none s))

module _ {D : Type 0} (tells : D → Bool) (seen : D → List ℕ) (may_leave : D → List ℕ → Type 0) where
  -- behind an open gate stands no record
  breaks_here : (header : List ℕ) (bodies : List (List ℕ)) (disk : D) (at gate : ℕ) →
      StandsAt tells seen may_leave header bodies disk at gate
      → 0 < gate → IsNoRecord (drop (at + 1) (seen disk)) → HasNoRecord (seen disk) at
  breaks_here header bodies disk at gate s open_gate none = record {
    header = header;
    bodies = bodies;
    front = s.front;
    is_front = s.is_front;
    gate = gate;
    open_gate = open_gate;
    rest = s.rest;
    contents = s.contents;
    place = s.place;
    no_record = subst IsNoRecord (behind_gate s.front s.rest (seen disk) gate at s.contents s.place) none;
  }

  abbrev pub Has : List ℕ → List (List ℕ) → LogReader D → Type 0
  Has header bodies reader = HasRead tells seen may_leave header bodies reader

  -- what a reader that has read some bodies is refused for
  abbrev pub BreaksAt : LogReader D → ℕ → Type 0
  BreaksAt reader at =
      (header : List ℕ) (bodies : List (List ℕ)) → HasRead tells seen may_leave header bodies reader →
      IsBrokenAt (seen reader.disk) at

  pub refused_there : (reader : LogReader D) (e : LogErr) → 0 < reader.gate
      → NotALogSays
      (λ place. (place ≡ reader.at) ×
      (IsTrue (tells reader.disk) → reader.size ≡ length (seen reader.disk) →
      IsNoRecord (drop (reader.at + 1) (seen reader.disk)))) e
      → NotALogSays (λ at. BreaksAt reader at) e
  refused_there reader (NotEmpty n) open_gate says = says
  refused_there reader (NotALog place) open_gate says =
      λ header bodies h.
      let none = breaks_here header bodies reader.disk reader.at reader.gate h.stands open_gate (says.1 h.stands.told h.sized) in
      inr (subst (λ (p : ℕ). HasNoRecord (seen reader.disk) p) (sym says.0) none)
  refused_there reader DiskFault open_gate says = says
  refused_there reader Memory open_gate says = says

  -- the same of the reader at its start
  pub refused_later : (first later : LogReader D) (bodies : List (List ℕ)) (e : LogErr) → seen later.disk ≡ seen first.disk
      → ((header : List ℕ) → Has header [] first → Has header bodies later) → NotALogSays (λ at. BreaksAt later at) e
      → NotALogSays (λ at. (header : List ℕ) → Has header [] first → IsBrokenAt (seen first.disk) at) e
  refused_later first later bodies (NotEmpty n) same read says = says
  refused_later first later bodies (NotALog place) same read says =
      λ header h. subst (λ (c : List ℕ). IsBrokenAt c place) same (says header bodies (read header h))
  refused_later first later bodies DiskFault same read says = says
  refused_later first later bodies Memory same read says = says

-- bytes that end before the first gate
pub refused_short : (told : Bool) (bytes : List ℕ) (e : LogErr) →
    NotALogSays (λ at. (at ≡ HEADER_SIZE) × (IsTrue told → length bytes ≤ HEADER_SIZE)) e
    → NotALogSays (λ at. IsTrue told → IsBrokenAt bytes at) e
refused_short told bytes (NotEmpty n) says = says
refused_short told bytes (NotALog at) says = λ t. inl (says.1 t, says.0)
refused_short told bytes DiskFault says = says
refused_short told bytes Memory says = says

-- the same of a disk that was only read meanwhile
pub refused_same : (told now : Bool) (bytes seen : List ℕ) (e : LogErr) → now ≡ told → seen ≡ bytes
    → NotALogSays (λ at. (at ≡ HEADER_SIZE) × (IsTrue now → length seen ≤ HEADER_SIZE)) e →
    NotALogSays (λ at. (at ≡ HEADER_SIZE) × (IsTrue told → length bytes ≤ HEADER_SIZE)) e
refused_same told now bytes seen e same is says =
    subst (λ (b : Bool). NotALogSays (λ at. (at ≡ HEADER_SIZE) × (IsTrue b → length bytes ≤ HEADER_SIZE)) e) same
    (subst (λ (l : List ℕ). NotALogSays (λ at. (at ≡ HEADER_SIZE) × (IsTrue now → length l ≤ HEADER_SIZE)) e) is says)
