-- A step at each file in order: what is done so far, and what is left.
use Rattle.std.specs.Prelude.{ℕ, List, [], ◌∷◌, ◌++◌, ◌≡◌, refl}
use Rattle.std.specs.Ordering.{nat_cmp}
use Rattle.std.specs.declared.cmp.Ordering.TheVariants.{Less, Greater}
use Rattle.std.specs.List.{AllByRecursion}
use Rattle.std.specs.List.Sorted.{IsStrictlySortedBy}
use Rattle.std.specs.Map.{keys_of}
use Rattle.std.specs.BTreeMap.{insert_entry}
use Rattle.std.proofs.Common.{arith, ap, sym, subst, append_assoc, append-nil, ◌∙◌}
use Rattle.std.proofs.lemmas.Bool.Decides.{nat_tests}
use mathlib.Core.List.{map-append}
use Rattle.server_rules.specs.declared.files.File.{File}
use Rattle.server_rules.specs.declared.server.Drive.{Drive}
use Rattle.server_rules.specs.declared.server.Effects.{Effects}
use Rattle.server_rules.specs.Going.{Going}
use Rattle.server_rules.specs.Rounds.{Round, then_files}
use Rattle.file_jobs.specs.declared.job.FileState.{FileState}
use Rattle.file_jobs.specs.Steps.{at, file_of}
use Rattle.server_state.specs.Tables.{Table, files_in, IsEntry, AreEntries}
use Rattle.server_state.proofs.ReplyLaws.{sorted_rest}
use Rattle.layout_server.specs.Rounds.{each_file, DoesAt, GoesRound}

-- ---- files put behind each other

-- each of these has a number below
abbrev pub AreBelow : Table → (number : ℕ) → Type 0
AreBelow t n = AllByRecursion (λ e. nat_cmp e.0 n ≡ Less) t

above_it : (a b : ℕ) → nat_cmp a b ≡ Less → nat_cmp b a ≡ Greater
above_it a b l = grind (arith, nat_tests, l)

pub put_last : (t : Table) (n : ℕ) (f : FileState) → AreBelow t n → insert_entry nat_cmp t n f ≡ t ++ (n, f) ∷ []
put_last [] n f b = refl
put_last (e ∷ es) n f b = rw (above_it e.0 n b.0) (ap (λ (xs : Table). e ∷ xs) (put_last es n f b.1))

entries_behind : (t : Table) (n : ℕ) (f : FileState) → AreEntries t → IsEntry (n, f) → AreEntries (t ++ (n, f) ∷ [])
entries_behind [] n f a i = (i, tt)
entries_behind (e ∷ es) n f a i = (a.0, entries_behind es n f a.1 i)

-- all of these are below each of those
abbrev pub AreAllBelow : Table → List ℕ → Type 0
AreAllBelow t ks = AllByRecursion (AreBelow t) ks

below_too : (t : Table) (n : ℕ) (f : FileState) (ks : List ℕ) → AreAllBelow t ks → AllByRecursion (λ k. nat_cmp n k ≡ Less) ks →
    AreAllBelow (t ++ (n, f) ∷ []) ks
below_too t n f [] a l = tt
below_too t n f (k ∷ ks) a l = (both t a.0 l.0, below_too t n f ks a.1 l.1)
  where
    both : (t : Table) → AreBelow t k → nat_cmp n k ≡ Less → AreBelow (t ++ (n, f) ∷ []) k
    both [] b l = (l, tt)
    both (e ∷ es) b l = (b.0, both es b.1 l)

-- ---- the round

abbrev pub with_files : List File → Round → Round
with_files fs r = record r { files = fs ++ r.files }

-- what was done so far, and what is left to be done
pub record SoFar (fits : List Drive → Type 0) (step : Going → Going) (all : Table) (was : Effects) (done left : Table)
    (is : Effects) : Type 0 where
  pub round : (ds : List Drive) → fits ds → (chosen : List ℕ)
      × ((rest : List ℕ) →
      with_files (files_in done) (each_file step ds (files_in left) is rest) ≡ each_file step ds (files_in all) was
      (chosen ++ rest))
  pub entries : AreEntries done
  pub others : AreEntries left
  pub below : AreAllBelow done (keys_of left)
  pub sorted : IsStrictlySortedBy nat_cmp (keys_of left)

none_below : (ks : List ℕ) → AreAllBelow [] ks
none_below [] = tt
none_below (k ∷ ks) = (tt, none_below ks)

pub at_first : (fits : List Drive → Type 0) (step : Going → Going) (all : Table) (was : Effects) → AreEntries all →
    IsStrictlySortedBy nat_cmp (keys_of all) → SoFar fits step all was [] all was
at_first fits step all was a s = record {
  round = λ ds e. ([], λ rest. refl);
  entries = tt;
  others = a;
  below = none_below (keys_of all);
  sorted = s;
}

-- one file more
one_more : (step : Going → Going) (ds : List Drive) (done left : Table) (n : ℕ) (f g : FileState) (was is : Effects)
    (chosen rest : List ℕ) →
    at g is ds rest ≡ step (at f was ds (chosen ++ rest)) →
    with_files (files_in (done ++ (n, g) ∷ [])) (each_file step ds (files_in left) is rest)
    ≡ with_files (files_in done) (each_file step ds (files_in ((n, f) ∷ left)) was (chosen ++ rest))
unfolding each_file
one_more step ds done left n f g was is chosen rest e =
    let later : Round = each_file step ds (files_in left) is rest in
    let files : files_in (done ++ (n, g) ∷ []) ++ later.files ≡ files_in done ++ (file_of g ∷ later.files) =
    ap (λ (fs : List File). fs ++ later.files) (map-append (λ (e : ℕ × FileState). file_of e.1) done ((n, g) ∷ []))
    ∙ append_assoc (files_in done) (file_of g ∷ []) later.files in
    ap (λ (fs : List File). record later { files = fs }) files
    ∙ ap (λ (z : Going). with_files (files_in done) (then_files z (each_file step ds (files_in left) z.effects z.chosen))) e

pub next_file : (fits : List Drive → Type 0) (step : Going → Going) (all : Table) (was : Effects) (done left : Table) (n : ℕ)
    (f g : FileState) (before behind : Effects) →
    SoFar fits step all was done ((n, f) ∷ left) before → DoesAt fits step f before g behind → IsEntry (n, g) →
    SoFar fits step all was (insert_entry nat_cmp done n g) left behind
next_file fits step all was done left n f g before behind so does entry =
    let order = sorted_rest n (keys_of left) so.sorted in
    subst (λ (t : Table). SoFar fits step all was t left behind) (sym (put_last done n g so.below.0)) (record {
      round = λ ds e.
          let h = so.round ds e in
          let k = does ds e in (
            h.0 ++ k.0,
            λ rest.
                one_more step ds done left n f g before behind k.0 rest (k.1 rest)
                ∙ h.1 (k.0 ++ rest)
                ∙ ap (λ (cs : List ℕ). each_file step ds (files_in all) was cs) (sym (append_assoc h.0 k.0 rest)),
          );
      entries = entries_behind done n g so.entries entry;
      others = so.others.1;
      below = below_too done n g (keys_of left) so.below.1 order.0;
      sorted = order.1;
    })

-- no file is left
pub at_last : (fits : List Drive → Type 0) (step : Going → Going) (all : Table) (was : Effects) (done left : Table)
    (is : Effects) → left ≡ [] →
    SoFar fits step all was done left is → GoesRound fits step all was done is
unfolding each_file
at_last fits step all was done left is e so =
    let last : SoFar fits step all was done [] is = subst (λ (t : Table). SoFar fits step all was done t is) e so in
    record {
      round = λ ds d.
          let h = last.round ds d in (
            h.0,
            λ rest. ap (λ (fs : List File). record { files = fs; effects = is; chosen = rest })
                (sym (append-nil (files_in done))) ∙ h.1 rest,
          );
      entries = so.entries;
    }
