-- Grants: stripes, conflicts, whose they are, and the stripes that ended ones leave to a repair.
use Rattle.std.specs.Prelude.{ℕ, Bool, List, [], ◌∷◌, Option, ◌+◌, ◌-◌, ◌/◌, ◌==◌, ◌&&◌, ◌||◌, not, nat_lt, min, max, if◌then◌else◌, find, filter, is_some, sum_by}
use Rattle.data_map.specs.Striping.{stripe_length}
use Rattle.server_rules.specs.declared.limits.TheConstants.{LEASE, NO_EXPIRY, GREATEST_GRANT}
use Rattle.server_rules.specs.State.{Grant, Stripes, Kept}

-- a stripe is in both
unfoldable pub overlaps : Grant → Grant → Bool
overlaps a b = nat_lt (max a.first b.first) (min a.end b.end)

-- two grants of one file that can't both be live
unfoldable pub conflicts : Grant → Grant → Bool
conflicts a b = not (a.client == b.client) && (((a.rw || b.rw) && overlaps a b) || (a.extending || b.extending))

-- the client's grant: it has at most one on a file
abbrev pub grant_of : List Grant → (client : ℕ) → Option Grant
grant_of gs client = find (λ g. g.client == client) gs

-- the grants of the others
abbrev pub without : List Grant → (client : ℕ) → List Grant
without gs client = filter (λ g. not (g.client == client)) gs

-- the grants that conflict with a grant
abbrev pub against : List Grant → Grant → List Grant
against gs g = filter (conflicts g) gs

-- one of them is expired
abbrev pub any_expired : (now : ℕ) → List Grant → Bool
any_expired now gs = is_some (find (λ g. nat_lt g.expiry now) gs)

-- the grant that a LAYOUTGET would get: whole stripes, 90 seconds
unfoldable pub asked : Kept → (number client now offset count : ℕ) → Bool → Grant
asked f number client now offset count rw = record {
  number = min number GREATEST_GRANT;
  client = client;
  file = f.number;
  rw = rw;
  extending = rw && nat_lt f.size (offset + count);
  first = offset / stripe_length f.map;
  end = (offset + count + (stripe_length f.map - 1)) / stripe_length f.map;
  expiry = min (now + LEASE) NO_EXPIRY;
}

-- ---- the stripes of ended grants

-- one more range among ranges that rise and don't touch
unfoldable pub joined : Stripes → List Stripes → List Stripes
joined r [] = r ∷ []
joined r (x ∷ xs) =
    if nat_lt x.end r.first then x ∷ joined r xs
    else if nat_lt r.end x.first then r ∷ x ∷ xs
    else joined (record { first = min r.first x.first; end = max r.end x.end }) xs

-- the stripes of the grants for writing, each once, in order
unfoldable pub merged : List Grant → List Stripes
merged [] = []
merged (g ∷ gs) = if g.rw then joined (record { first = g.first; end = g.end }) (merged gs) else merged gs

-- how many stripes they are
abbrev pub count_stripes : List Stripes → ℕ
count_stripes rs = sum_by (λ r. r.end - r.first) rs
