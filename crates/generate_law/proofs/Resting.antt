-- Behind a call of the scenario the parties rest again.
use Rattle.std.proofs.Common.{◌≡◌, ◌<◌, ◌%◌, max, ℕ, suc, true, List, [], ◌∷◌, length, slice_get, Option, Some, refl, sym, ap, subst, ◌∙◌, arith, inl, inr}
use Rattle.std.proofs.Math.Nat.{mod-lt}
use Rattle.std.proofs.lemmas.Bool.{cases_eq}
use Rattle.server_rules.specs.Files.{file_at}
use Rattle.server_rules.specs.Laws.{In}
use Rattle.world_history.specs.ClientNames.{CallOp}
use Rattle.world_history.specs.ServerNames.{File, Component, Grant}
use Rattle.world_history.specs.State.{DriveAt, ClientAt}
use Rattle.world_history.specs.Moves.{op_of}
use Rattle.ready_law.specs.Clear.{HasRoomTo}
use Rattle.ready_law.specs.Ready.{Scene}
use Rattle.ready_law.specs.Rested.{RestsAt, LeavesRest, IsAsBefore, size_after}
use Rattle.ready_law.proofs.Resting.{inside_keeps}
use Rattle.generate_law.specs.Scenario.{call_of, first_write}
use Rattle.generate_law.specs.Rests.{FILE_SIZE, OBJECT_END, IsItsFile, IsUp, Rests, RestsGoOn, FirstRestBegins}
use Rattle.generate_law.proofs.Readiness.{IsInside, call_inside, write_ends_low}

-- what stands in a list has a place there
place_of : {A : Type 0} (xs : List A) (x : A) → In x xs → (k : ℕ) × (slice_get xs k ≡ Some x)
place_of [] x i = absurd i
place_of (y ∷ xs) x (inl e) = (0, ap (λ (z : _). Some z) (sym e))
place_of (y ∷ xs) x (inr i) = let p = place_of xs x i in (suc p.0, p.1)

-- a drive that stood stands
still_up : (f g : File) (a : DriveAt) (o : Option DriveAt) → IsUp f a → g.kept.format ≡ f.kept.format → IsAsBefore (Some a) o
    → (b : DriveAt) × (o ≡ Some b) × IsUp g b
still_up f g a o up format (b, is, failed, down, clock, least) = (
  b,
  is,
  record {
    works = failed ∙ up.works;
    up = down ∙ up.up;
    clock = clock ∙ up.clock;
    format = omega (arith, up.format, least, format);
  },
)

module _ (s t : Scene) (size : ℕ) (r : Rests size s) (c : ℕ) (low : c < 3) (op : CallOp) (its : IsInside op)
    (clean : t.unguessed ≡ true) (l : LeavesRest s t c op r.file) (size_is : size_after r.file.kept op ≡ FILE_SIZE) where
  components : l.file.kept.components ≡ r.file.kept.components
  components = ap (λ (f : File). f.kept.components) l.file_is

  its_file : IsItsFile FILE_SIZE l.file
  its_file = record {
    number = ap (λ (f : File). f.kept.number) l.file_is ∙ r.its.number;
    map = ap (λ (f : File). f.kept.map) l.file_is ∙ r.its.map;
    size_is = ap (λ (f : File). f.kept.size) l.file_is ∙ size_is;
    count = ap length components ∙ r.its.count;
    there = λ at i. r.its.there at (subst (In at) components i);
    unspent = ap (λ (f : File). f.spent) l.file_is ∙ r.its.unspent;
    quiet = ap (λ (f : File). f.job) l.file_is ∙ r.its.quiet;
  }

  drives : (d : ℕ) → d < 6 → (b : DriveAt) × (t.drive d ≡ Some b) × IsUp l.file b
  drives d less =
      let a = r.drives d less in
      still_up r.file l.file a.0 (t.drive d) a.2 (ap (λ (f : File). f.kept.format) l.file_is)
      (subst (λ (o : Option DriveAt). IsAsBefore o (t.drive d)) a.1 (l.drives d))

  room : (at : Component) (b : DriveAt) → In at l.file.kept.components → t.drive at.drive ≡ Some b
      → HasRoomTo OBJECT_END b.state.store at.object
  room at b i up =
      let j : In at r.file.kept.components = subst (In at) components i in
      let a = r.drives at.drive (r.its.there at j).1 in
      let p = place_of r.file.kept.components at j in
      l.room p.0 at a.0 b OBJECT_END p.1 a.1 up (λ writes. write_ends_low r.file.kept op r.its.map its writes p.0)
      (r.room at a.0 j a.1)

  clients : (d : ℕ) → d < 3 → (a : ClientAt) × (t.client d ≡ Some a) × RestsAt 0 l.file.kept d a
  clients d less = elim (cases_eq d c) [
    | inl same ↦ subst (λ (n : ℕ). (a : ClientAt) × (t.client n ≡ Some a) × RestsAt 0 l.file.kept n a) (sym same)
        (l.caller, l.there, subst (λ (n : ℕ). RestsAt n l.file.kept c l.caller) its.file l.rests)
    | inr other ↦
        let a = r.clients d less in
        let b = l.others d a.0 other a.1 (subst (λ (n : ℕ). RestsAt n r.file.kept d a.0) (sym its.file) a.2) in
        (b.0, b.1, subst (λ (n : ℕ). RestsAt n l.file.kept d b.0) its.file b.2)
  ]

  granted : (g : Grant) → In g l.file.kept.grants → g.client < 3
  granted g i = elim (l.live g i) [
    | inl own ↦ subst (λ (n : ℕ). n < 3) (sym own) low
    | inr old ↦ r.granted g old
  ]

  rests_again : Rests FILE_SIZE t
  rests_again = record {
    unguessed = clean;
    up = l.up;
    clock = l.clock ∙ r.clock;
    file = l.file;
    found = ap (file_at t.server.files) (sym its.file) ∙ l.found;
    its = its_file;
    drives = drives;
    room = room;
    clients = clients;
    granted = granted;
  }

pub rests_go_on : RestsGoOn
rests_go_on s t r k x clean l =
    let it = call_inside k x in
    rests_again s t FILE_SIZE r (k % 3) (mod-lt k (omega arith)) (op_of (call_of k x)) it clean l
    (inside_keeps r.file.kept (op_of (call_of k x)) (omega (arith, it.inside, r.its.size_is)) ∙ r.its.size_is)

pub first_inside : IsInside (op_of first_write)
first_inside = record { file = refl; short = omega arith; inside = omega arith }

pub first_rest_begins : FirstRestBegins
first_rest_begins s t r clean l =
    rests_again s t 0 r 0 (omega arith) (op_of first_write)
    first_inside clean l
    (ap (λ (n : ℕ). max n 262144) r.its.size_is)
