-- What is kept is the same if its parts are.
use Rattle.std.specs.Prelude.{Bool, List, ◌≡◌, map}
use Rattle.std.specs.Bool.{Decides}
use Rattle.std.specs.Cmp.Lexicographic.{pointwise}
use Rattle.std.proofs.Common.{ap}
use Rattle.std.proofs.lemmas.Slice.Eq.{slice_eq-Decides}
use Rattle.server_rules.specs.declared.files.Kept.{Kept}
use Rattle.server_rules.specs.declared.server.Server.{Server}
use Rattle.server_rules.specs.Openings.{crashed_file}
use Rattle.server_state.specs.Tables.{Table, files_in}
use Rattle.server_differences.specs.Sameness.{HasSameContents, HasSameNumbers, HasSameTables, IsAsFar, IsMadeAs}

-- lists are the same if a test of their members says so
pub same_lists : {A : Type 0} {E : A → A → Bool} (xs ys : List A) (r : Bool) → r ≡ pointwise E xs ys →
    ((x y : A) → Decides (E x y) (x ≡ y)) → Decides r (xs ≡ ys)
same_lists xs ys r e test = slice_eq-Decides test xs ys r e

-- ---- what is kept of a file

-- all that is kept of two files is the same if these parts are
pub same_kept : (a b : Kept) → IsMadeAs a b → IsAsFar a b → HasSameContents a b → a ≡ b
same_kept a b made far same = λ i. record {
  number = made.number i;
  map = made.map i;
  zoned = made.zoned i;
  first_tag = made.first_tag i;
  tag = far.tag i;
  format = far.format i;
  size = same.size i;
  high = same.high i;
  ready = far.ready i;
  phase = far.phase i;
  components = same.components i;
  grants = same.grants i;
  ended = same.ended i;
}

pub made_same : (a b : Kept) → a ≡ b → IsMadeAs a b
made_same a b e = record {
  number = ap (λ (k : Kept). k.number) e;
  map = ap (λ (k : Kept). k.map) e;
  zoned = ap (λ (k : Kept). k.zoned) e;
  first_tag = ap (λ (k : Kept). k.first_tag) e;
}

pub far_same : (a b : Kept) → a ≡ b → IsAsFar a b
far_same a b e = record {
  tag = ap (λ (k : Kept). k.tag) e;
  format = ap (λ (k : Kept). k.format) e;
  phase = ap (λ (k : Kept). k.phase) e;
  ready = ap (λ (k : Kept). k.ready) e;
}

pub contents_same : (a b : Kept) → a ≡ b → HasSameContents a b
contents_same a b e = record {
  size = ap (λ (k : Kept). k.size) e;
  high = ap (λ (k : Kept). k.high) e;
  components = ap (λ (k : Kept). k.components) e;
  grants = ap (λ (k : Kept). k.grants) e;
  ended = ap (λ (k : Kept). k.ended) e;
}

-- ---- the server

-- two servers are the same if these parts are
pub same_server : (a b : Server) → HasSameNumbers a b → HasSameTables a b → a ≡ b
same_server a b numbers tables = λ i. record {
  files = tables.files i;
  slots = tables.slots i;
  drives = tables.drives i;
  next_grant = numbers.grants i;
  next_object = numbers.objects i;
  next_nonce = numbers.nonces i;
  next_recall = numbers.recalls i;
  format = numbers.format i;
}

pub numbers_same : (a b : Server) → a ≡ b → HasSameNumbers a b
numbers_same a b e = record {
  grants = ap (λ (s : Server). s.next_grant) e;
  objects = ap (λ (s : Server). s.next_object) e;
  nonces = ap (λ (s : Server). s.next_nonce) e;
  recalls = ap (λ (s : Server). s.next_recall) e;
  format = ap (λ (s : Server). s.format) e;
}

pub tables_same : (a b : Server) → a ≡ b → HasSameTables a b
tables_same a b e = record {
  drives = ap (λ (s : Server). s.drives) e;
  slots = ap (λ (s : Server). s.slots) e;
  files = ap (λ (s : Server). s.files) e;
}

-- ---- files

-- the files without jobs are what is kept of the others
abbrev pub Alike : (idle all : Table) → Type 0
Alike idle all = files_in idle ≡ map crashed_file (files_in all)
