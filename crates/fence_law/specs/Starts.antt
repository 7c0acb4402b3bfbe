-- What steps write down: grants, the entries of writes, reads and repairs, and which bytes count from a repair on.
use Rattle.std.specs.Prelude.{ℕ, min, ◌-◌, Bool, true, false, cond, ◌||◌, ◌&&◌, not, ◌==◌, Option, Some, None}
use Rattle.fence_law.specs.Words.{updated}
use Rattle.fence_law.specs.State.{State, Grant, Write, Start}
use Rattle.fence_law.specs.Columns.{spans, only, payload}

-- the cells of which the writes were performed, after this WRITE
abbrev pub performed : State → Write → ℕ → ℕ → ℕ → Bool
performed b m = updated b.applied m.entry
    (updated (b.applied m.entry) m.at (λ z. b.applied m.entry m.at z || ((b.start m.entry).part m.at z == m.part)))

-- the grant that is issued, with the file's tag
abbrev pub granted : State → ℕ → ℕ → Bool → (ℕ → Bool) → Bool → Grant
granted b c number rw range extending = record {
  number = number;
  tag = b.tag;
  rw = rw;
  covers = range;
  extending = extending;
  left = b.missing;
}

-- the entry of a write
abbrev pub written_start : State → ℕ → Grant → (ℕ → Option ℕ) → (ℕ → Bool) → (ℕ → ℕ → Bool) → (ℕ → ℕ) → ℕ →
    (ℕ → ℕ → ℕ) → Start
written_start b c g d touch hit seen e1 part = record {
  part = part;
  end_ = e1;
  clip = b.known_size c;
  from_ = 0;
  to_ = 0;
  left = g.left;
  client = c;
  grant = g.number;
  tag = g.tag;
  alive = g.tag == b.tag;
  is_write = true;
  is_read = false;
  server = false;
  data_at = d;
  touch = touch;
  reach = touch;
  content = payload b.layout hit d seen;
  wanted = λ p. false;
}

-- the entry of a read
abbrev pub read_start : State → ℕ → Grant → ℕ → ℕ → (ℕ → Bool) → Start
read_start b c g lo hi reach = record {
  end_ = 0;
  clip = b.known_size c;
  from_ = lo;
  to_ = hi;
  left = g.left;
  part = λ k z. 0;
  client = c;
  grant = g.number;
  tag = g.tag;
  alive = g.tag == b.tag;
  is_write = false;
  is_read = true;
  server = false;
  data_at = λ p. None;
  touch = λ x. false;
  reach = reach;
  content = λ k z. None;
  wanted = spans lo (min hi (b.known_size c) - lo);
}

-- what a repair writes into some cells of a component
abbrev pub repair_start : State → ℕ → (ℕ → Bool) → (ℕ → ℕ) → Start
repair_start b k cells e = record {
  end_ = 0;
  clip = 0;
  from_ = 0;
  to_ = 0;
  left = λ f. false;
  part = λ f y. 0;
  client = 0;
  grant = 0;
  tag = b.tag;
  alive = true;
  is_write = false;
  is_read = false;
  server = true;
  data_at = λ p. None;
  touch = λ y. true;
  reach = λ y. true;
  content = λ f y. only ((f == k) && cells y) (b.layout.word k y e);
  wanted = λ p. false;
}

-- what a rebuild writes into one component
abbrev pub rebuilt_start : State → ℕ → (ℕ → ℕ) → Start
rebuilt_start b k cells = record {
  end_ = 0;
  clip = 0;
  from_ = 0;
  to_ = 0;
  left = λ f. false;
  part = λ f y. 0;
  client = 0;
  grant = 0;
  tag = b.tag;
  alive = true;
  is_write = false;
  is_read = false;
  server = true;
  data_at = λ p. None;
  touch = λ y. true;
  reach = λ y. true;
  content = λ f y. only (f == k) (cells y);
  wanted = λ p. false;
}

-- whether a write put this byte there
abbrev pub is_byte : Option ℕ → ℕ → Bool
is_byte None v = false
is_byte (Some u) v = u == v

-- a write that wasn't acknowledged under a grant that the last fence ended
abbrev pub ended : State → ℕ → Bool
ended b j = (b.start j).is_write && ((b.start j).alive && (not (b.acknowledged j) && ((b.start j).tag == b.ended_tag)))

-- which bytes count from a repair's end on: of the writes that the fence ended those that the repair found; where a
-- column without parity has nothing left, all
abbrev pub settled : State → (ℕ → Bool) → (ℕ → ℕ) → ℕ → ℕ → Bool
settled b done e j p =
    cond (ended b j) (cond (done (b.layout.col p)) (is_byte ((b.start j).data_at p) (e p))
    (cond (b.layout.coded (b.layout.col p)) (b.chosen j p) true)) (b.chosen j p)
