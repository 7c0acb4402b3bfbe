-- Moments at which no component is missing and no drive has failed: they are calm, and stay so through notes.
use Rattle.std.proofs.Common.{◌≡◌, ◌⊎◌, inl, inr, ℕ, zero, suc, ◌==◌, ◌&&◌, not, Bool, true, false, List, [], ◌∷◌, Option, Some, None, length, arith, refl, sym, ap, subst, ◌∙◌, slice_get, slice_set, nat_lt, if◌then◌else◌}
use Rattle.std.specs.List.{AllByRecursion, fold, list_any}
use Rattle.std.proofs.lemmas.Bool.{cases_Bool}
use Rattle.std.proofs.lemmas.Bool.Decides.{nat_tests}
use Rattle.std.proofs.lemmas.List.{length-set}
use Rattle.data_map.specs.Striping.{parities}
use Rattle.scenario_text.specs.declared.line.Note.{Note}
use Rattle.scenario_text.specs.declared.line.Note.TheVariants as note
use Rattle.scenario_text.specs.declared.line.Line.{Line}
use Rattle.scenario_text.specs.declared.line.Line.TheVariants as line
use Rattle.server_rules.specs.Files.{file_at, put_file}
use Rattle.world_history.specs.ServerNames.{File, Component, Mended}
use Rattle.world_history.specs.Stripes.{Mark, Moment, is_torn_by, is_harmed_in, is_calm}
use Rattle.world_history.specs.Calm.{Watched, stands_on, noted, noted_in, moment_behind, watches}
use Rattle.lossless_law.specs.Lossless.{TellsNoLoss}
use Rattle.lossless_law.proofs.NotShort.{AllThere, HasAllComponents, not_short}

-- a file has all of its components
abbrev pub IsThere : File → Type 0
IsThere f = AllThere f.kept.components × HasAllComponents (f.kept.map, length f.kept.components)

-- so has each file
abbrev pub AreThere : List File → Type 0
AreThere fs = (n : ℕ) (f : File) → file_at fs n ≡ Some f → IsThere f

-- ---- calm

harmless : (a b : Bool) → (a && (b && false)) ≡ false
harmless true true = refl
harmless true false = refl
harmless false b = refl

none_harmed : (m : Moment) (k : Mark) (o : Option File) → m.failed ≡ [] → ((f : File) → o ≡ Some f → IsThere f)
    → is_harmed_in m k o ≡ false
none_harmed m k None failed there = refl
none_harmed m k (Some f) failed there =
    ap (λ (b : Bool). nat_lt 0 (parities f.kept.map) && (is_torn_by m f k && b))
    (not_short m f k.stripe failed (there f refl).0 (there f refl).1)
    ∙ harmless (nat_lt 0 (parities f.kept.map)) (is_torn_by m f k)

none_any : (test : Mark → Bool) (ks : List Mark) → ((k : Mark) → test k ≡ false) → list_any test ks ≡ false
none_any test [] none = refl
none_any test (k ∷ ks) none = rw (none k) (none_any test ks none)

pub calm_there : (m : Moment) → m.failed ≡ [] → AreThere m.server.files → is_calm m ≡ true
unfolding is_calm
calm_there m failed there =
    ap not (none_any (λ (k : Mark). is_harmed_in m k (file_at m.server.files k.file)) m.marks
    (λ k. none_harmed m k (file_at m.server.files k.file) failed (λ f e. there k.file f e)))

-- ---- notes

set_there : (cs : List Component) (k : ℕ) (at : Component) → AllThere cs → at.missing ≡ false
    → AllThere (slice_set cs k at)
set_there [] k at there is = tt
set_there (x ∷ cs) zero at there is = (is, there.1)
set_there (x ∷ cs) (suc k) at there is = (there.0, set_there cs k at there.1 is)

stands_there : (cs : List Component) (k d : ℕ) (o : Option Component) → AllThere cs → AllThere (stands_on cs k d o)
stands_there cs k d None there = there
stands_there cs k d (Some at) there = set_there cs k (record at { drive = d; missing = false }) there refl

stands_long : (cs : List Component) (k d : ℕ) (o : Option Component) → length (stands_on cs k d o) ≡ length cs
stands_long cs k d None = refl
stands_long cs k d (Some at) = length-set cs k (record at { drive = d; missing = false })

pub noted_there : (cs : List Component) (f : ℕ) (what : Note) → TellsNoLoss (line.Note f what) → AllThere cs
    → AllThere (noted cs what)
noted_there cs f (note.NoSpace k) n there = absurd n
noted_there cs f (note.Reported k) n there = absurd n
noted_there cs f (note.Rebuilt k d) n there = stands_there cs k d (slice_get cs k) there
noted_there cs f what n there = there

noted_long : (cs : List Component) (f : ℕ) (what : Note) → TellsNoLoss (line.Note f what)
    → length (noted cs what) ≡ length cs
noted_long cs f (note.NoSpace k) n = absurd n
noted_long cs f (note.Reported k) n = absurd n
noted_long cs f (note.Rebuilt k d) n = stands_long cs k d (slice_get cs k)
noted_long cs f what n = refl

put_at_if : (b : Bool) (f g x : File) (fs gs : List File) (n q : ℕ) → (f.kept.number == n) ≡ b
    → file_at (if b then g ∷ fs else f ∷ gs) q ≡ Some x
    → (file_at gs q ≡ Some x → (x ≡ g) ⊎ (file_at fs q ≡ Some x))
    → g.kept.number ≡ n → (x ≡ g) ⊎ (file_at (f ∷ fs) q ≡ Some x)
unfolding file_at
put_at_if true f g x fs gs n q is e rest number = elim (cases_Bool (g.kept.number == q)) [
  | inl t ↦ let found : g ≡ x = cc (rw t at e) in inl (sym found)
  | inr z ↦
      let here : f.kept.number ≡ n = grind (arith, nat_tests, is) in
      let other : (f.kept.number == q) ≡ false = ap (λ (k : ℕ). k == q) (here ∙ sym number) ∙ z in
      inr (rw other (rw z at e))
]
put_at_if false f g x fs gs n q is e rest number = elim (cases_Bool (f.kept.number == q)) [
  | inl t ↦ inr (rw t (rw t at e))
  | inr z ↦ rw z (rest (rw z at e))
]

put_at : (fs : List File) (n : ℕ) (g : File) (q : ℕ) (x : File) → g.kept.number ≡ n
    → file_at (put_file fs n g) q ≡ Some x → (x ≡ g) ⊎ (file_at fs q ≡ Some x)
unfolding put_file file_at
put_at [] n g q x number e = absurd (cc e)
put_at (f ∷ fs) n g q x number e =
    put_at_if (f.kept.number == n) f g x fs (put_file fs n g) n q refl e (put_at fs n g q x number) number

pub number_at : (fs : List File) (n : ℕ) (f : File) → file_at fs n ≡ Some f → f.kept.number ≡ n
unfolding file_at
number_at [] n f e = absurd (cc e)
number_at (g ∷ fs) n f e = elim (cases_Bool (g.kept.number == n)) [
  | inl t ↦
      let same : g ≡ f = cc (rw t at e) in
      let it : g.kept.number ≡ n = grind (arith, nat_tests, t) in
      ap (λ (y : File). y.kept.number) (sym same) ∙ it
  | inr z ↦ number_at fs n f (rw z at e)
]

noted_in_there : (fs : List File) (n : ℕ) (what : Note) (o : Option File) → file_at fs n ≡ o
    → TellsNoLoss (line.Note n what) → AreThere fs → AreThere (noted_in fs n what o)
noted_in_there fs n what None is told there = there
noted_in_there fs n what (Some f) is told there = λ q x e. elim
    (put_at fs n (record f { kept = record f.kept { components = noted f.kept.components what } }) q x (number_at fs n f is) e) [
      | inr old ↦ there q x old
      | inl new ↦
          let old : IsThere f = there n f is in
          subst IsThere (sym new) (
            noted_there f.kept.components n what told old.0,
            (old.1.0, noted_long f.kept.components n what told ∙ old.1.1),
          )
    ]

-- ---- through the lines of a step

-- no component is missing, told drive has failed, and it was calm so far
pub record IsGood (w : Watched) : Type 0 where
  pub there : AreThere w.moment.server.files
  pub failed : w.moment.failed ≡ []
  pub calm : w.calm ≡ true

pub watched_good : (before : Bool) (m : Moment) → before ≡ true → m.failed ≡ [] → AreThere m.server.files
    → (before && is_calm m) ≡ true
watched_good before m is failed there = rw is (calm_there m failed there)

one_good : (rs : List Mended) (w : Watched) (l : Line) → TellsNoLoss l → IsGood w → IsGood (watches rs w l)
one_good rs w (line.Note f what) told good =
    let there : AreThere (moment_behind rs w.moment f what).server.files =
    noted_in_there w.moment.server.files f what (file_at w.moment.server.files f) refl told good.there in
    record {
      there = there;
      failed = good.failed;
      calm = watched_good w.calm (moment_behind rs w.moment f what) good.calm good.failed there;
    }
one_good rs w l told good = good

pub all_good : (rs : List Mended) (w : Watched) (ls : List Line) → AllByRecursion TellsNoLoss ls → IsGood w
    → IsGood (fold (watches rs) w ls)
all_good rs w [] told good = good
all_good rs w (l ∷ ls) told good = all_good rs (watches rs w l) ls told.1 (one_good rs w l told.0 good)
