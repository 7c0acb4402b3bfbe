-- The bytes of a grant that was asked for a call are for the call.
use Rattle.std.proofs.Common.{◌≡◌, ◌==◌, ◌<◌, ◌≤◌, ℕ, ◌+◌, ◌-◌, ◌*◌, ◌/◌, ◌&&◌, ◌||◌, min, max, nat_lt, nat_le, length, List, Bool, true, false, refl, sym, ap, ◌∙◌, arith, inl, inr, if◌then◌else◌}
use Rattle.std.proofs.lemmas.Bool.{cases_lt, cases_eq, lt-ltb, le-ltb, le-leb, eq-eqb, ne_eqb}
use Rattle.std.proofs.Math.Nat.{div-mul-le_self, lt-div-mul-add}
use Rattle.data_map.specs.declared.ranges.TheConstants.{MAX_FILE_SIZE}
use Rattle.data_map.specs.Striping.{stripe_length}
use Rattle.data_map.proofs.Covering.{div_mono}
use Rattle.layout_ops.specs.declared.statuses.TheConstants.{LAYOUTIOMODE4_READ, LAYOUTIOMODE4_RW}
use Rattle.world_history.specs.ClientNames.{CallOp, Write, Read, Reach}
use Rattle.client_rules.specs.Calls.{span_of, is_write}
use Rattle.client_rules.specs.Grants.{covers_write, covers_read, is_for}
use Rattle.client_rules.specs.Requests.{asked_span}
use Rattle.client_rules.specs.Layouts.{reach_of}
use Rattle.client_rules.specs.Steps.{is_bad_range}
use Rattle.world_history.specs.ServerNames.{Kept, Grant, Drive, RawMap}
use Rattle.server_rules.specs.Grants.{asked}
use Rattle.server_rules.specs.Layouts.{segment_for}
use Rattle.history_law.proofs.Ranges.{joined}

-- ---- joined stripes

-- a number is at most its quotient by w, rounded up, times w
pub up_to : (x w : ℕ) → 0 < w → x ≤ ((x + (w - 1)) / w) * w
up_to x w some = omega (arith, lt-div-mul-add {a = x + (w - 1)} some, some)

pub rises : (o n w : ℕ) → 0 < w → o / w ≤ (o + n + (w - 1)) / w
rises o n w some = div_mono o (o + n + (w - 1)) w some (omega arith)

-- ---- cover

write_covered : (first off len end size x : ℕ) → first ≤ off → off + len ≤ end → off + len ≤ x
    → ((nat_le first off && nat_le (off + len) end) && (nat_lt size x || nat_le (off + len) size)) ≡ true
write_covered first off len end size x l m n =
    rw (le-leb first off l, le-leb (off + len) end m) (elim (cases_lt size x) [
      | inl past ↦ rw (lt-ltb size x past) refl
      | inr not ↦ rw (le-ltb size x not, le-leb (off + len) size (omega (arith, not, n))) refl
    ])

read_covered : (first off clip end : ℕ) → first ≤ off → (0 < clip → off + clip ≤ end)
    → ((clip == 0) || (nat_le first off && nat_le (off + clip) end)) ≡ true
read_covered first off clip end l m = elim (cases_eq clip 0) [
  | inl none ↦ rw (eq-eqb clip 0 none) refl
  | inr some ↦ rw (ne_eqb clip 0 some, le-leb first off l, le-leb (off + clip) end (m (omega (arith, some)))) refl
]

-- these bytes hold what is asked for the call, and it is extending where that passes the size
pub record HoldsAsked (op : CallOp) (size : ℕ) (g : Reach) : Type 0 where
  pub rw : g.rw ≡ is_write op
  pub extending : g.extending ≡ (is_write op && nat_lt size ((asked_span op).offset + (asked_span op).length))
  pub first : g.first ≤ (asked_span op).offset
  pub end : (asked_span op).offset + (asked_span op).length ≤ g.end

passes_not : (a b : ℕ) (c : Bool) → (c || nat_lt a b) ≡ false → b ≤ a
passes_not a b true e = absurd (cc e)
passes_not a b false e = elim (cases_lt a b) [ inl less ↦ absurd (cc (sym (lt-ltb a b less) ∙ e)) | inr not ↦ not ]

-- the call's range ends inside a file of the greatest size
pub inside_limit : (op : CallOp) → is_bad_range (span_of op) ≡ false
    → (span_of op).offset + (span_of op).length ≤ MAX_FILE_SIZE
inside_limit op e = passes_not MAX_FILE_SIZE ((span_of op).offset + (span_of op).length) _ e

below_asked : (o n : ℕ) → o + n ≤ MAX_FILE_SIZE → o + n ≤ min o (MAX_FILE_SIZE - 1) + max n 1
below_asked o n l = omega (arith, l)

module _ (size : ℕ) (g : Reach) where
  for_write : (o n : ℕ) → o + n ≤ MAX_FILE_SIZE → g.rw ≡ true
      → g.extending ≡ nat_lt size (min o (MAX_FILE_SIZE - 1) + max n 1) → g.first ≤ min o (MAX_FILE_SIZE - 1)
      → min o (MAX_FILE_SIZE - 1) + max n 1 ≤ g.end → covers_write g size (record { offset = o; length = n }) ≡ true
  unfolding covers_write
  for_write o n limit writes extends first end =
      let below = below_asked o n limit in
      rw (writes, extends)
      (write_covered g.first o n g.end size (min o (MAX_FILE_SIZE - 1) + max n 1) (omega (arith, first))
      (omega (arith, below, end)) below)

  for_read : (o n : ℕ) → o + n ≤ MAX_FILE_SIZE → g.first ≤ min o (MAX_FILE_SIZE - 1)
      → min o (MAX_FILE_SIZE - 1) + max n 1 ≤ g.end → covers_read g size (record { offset = o; length = n }) ≡ true
  unfolding covers_read
  for_read o n limit first end =
      let below = below_asked o n limit in
      read_covered g.first o (min (o + n) size - o) g.end (omega (arith, first))
      (λ some. omega (arith, below, end, some))

-- such bytes are for the call
pub asked_is_for : (op : CallOp) (size : ℕ) (g : Reach) → is_bad_range (span_of op) ≡ false → HoldsAsked op size g
    → is_for g size op ≡ true
unfolding is_for
asked_is_for (Write file offset bytes) size g fine h =
    for_write size g offset (length bytes) (inside_limit (Write file offset bytes) fine) h.rw h.extending h.first h.end
asked_is_for (Read file offset count) size g fine h =
    for_read size g offset count (inside_limit (Read file offset count) fine) h.first h.end

-- ---- the grant that is asked

pub rw_again : (b : Bool) → ((if b then LAYOUTIOMODE4_RW else LAYOUTIOMODE4_READ) == LAYOUTIOMODE4_RW) ≡ b
rw_again true = refl
rw_again false = refl

-- the grant that the call's LAYOUTGET asks
abbrev pub asked_for : Kept → (next client now : ℕ) → CallOp → Grant
asked_for f next client now op =
    asked f next client now (asked_span op).offset (asked_span op).length (is_write op)

-- what a client reads of its bytes
pub record IsReachOf (f : Kept) (g : Grant) (r : Reach) : Type 0 where
  pub rw : r.rw ≡ g.rw
  pub extending : r.extending ≡ g.extending
  pub first : r.first ≡ g.first * stripe_length f.map
  pub end : r.end ≡ min (g.end * stripe_length f.map) MAX_FILE_SIZE

pub limit_asked : (o n : ℕ) → o + n ≤ MAX_FILE_SIZE → min o (MAX_FILE_SIZE - 1) + max n 1 ≤ MAX_FILE_SIZE
limit_asked o n l = omega (arith, l)

-- where it is given on a file of the same map and size
module _ (ds : List Drive) (f : Kept) (next client now : ℕ) (op : CallOp) (e : Kept) (map_is : f.map ≡ e.map)
    (size_is : f.size ≡ e.size) (some : 0 < stripe_length f.map) where
  abbrev g : Grant
  g = asked_for e next client now op

  abbrev r : Reach
  r = reach_of f.size op (segment_for ds f g)

  abbrev w : ℕ
  w = stripe_length f.map

  pub first_is : g.first ≡ (asked_span op).offset / w
  unfolding asked
  first_is = ap (λ (m : RawMap). (asked_span op).offset / stripe_length m) (sym map_is)

  pub end_is : g.end ≡ ((asked_span op).offset + (asked_span op).length + (w - 1)) / w
  unfolding asked
  end_is =
      ap (λ (m : RawMap). ((asked_span op).offset + (asked_span op).length + (stripe_length m - 1)) / stripe_length m)
      (sym map_is)

  g_rises : g.first ≤ g.end
  g_rises =
      omega (arith, first_is, end_is, rises (asked_span op).offset (asked_span op).length w some)

  pub reach_is : IsReachOf f g r
  unfolding asked
  reach_is = record {
    rw = rw_again (is_write op);
    extending =
        ap (λ (b : Bool). b && nat_lt f.size ((asked_span op).offset + (asked_span op).length)) (rw_again (is_write op))
        ∙ ap (λ (z : ℕ). is_write op && nat_lt z ((asked_span op).offset + (asked_span op).length)) size_is;
    first = refl;
    end = ap (λ (z : ℕ). min z MAX_FILE_SIZE) (joined g.first g.end w g_rises);
  }

  first_below : g.first * w ≤ (asked_span op).offset
  first_below =
      omega (arith, ap (λ (n : ℕ). n * w) first_is, div-mul-le_self (asked_span op).offset w)

  end_above : (asked_span op).offset + (asked_span op).length ≤ g.end * w
  end_above =
      omega (arith, ap (λ (n : ℕ). n * w) end_is, up_to ((asked_span op).offset + (asked_span op).length) w some)

  pub holds_asked : is_bad_range (span_of op) ≡ false → HoldsAsked op f.size r
  unfolding asked
  holds_asked fine = record {
    rw = rw_again (is_write op);
    extending =
        ap (λ (b : Bool). b && nat_lt f.size ((asked_span op).offset + (asked_span op).length))
        (rw_again (is_write op));
    first = first_below;
    end =
        omega (
          arith,
          reach_is.end,
          end_above,
          limit_asked (span_of op).offset (span_of op).length (inside_limit op fine),
        );
  }
