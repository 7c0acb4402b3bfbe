-- A call of the scenario is ready where the parties rest.
use Rattle.std.proofs.Common.{◌≡◌, ◌<◌, ◌≤◌, ◌+◌, ◌-◌, ◌*◌, ◌/◌, ◌%◌, ◌==◌, ◌^◌, not, max, nat_lt, if◌then◌else◌, ℕ, zero, suc, Bool, true, false, true≢false, List, [], ◌∷◌, length, replicate, slice_get, Option, Some, None, option_map, refl, sym, ap, subst, ◌∙◌, arith, inl, inr, ne_eqb}
use Rattle.std.specs.List.{AllByRecursion}
use Rattle.std.proofs.Math.Nat.{mod-lt}
use Rattle.std.proofs.lemmas.Bool.{cases_eq}
use Rattle.std.proofs.lemmas.Bool.Decides.{nat_tests}
use Rattle.data_map.specs.declared.check.RawMap.{RawMap}
use Rattle.data_map.specs.Check.{IsChecked}
use Rattle.server_rules.specs.Files.{file_at}
use Rattle.server_rules.specs.Grants.{against, conflicts, grant_of}
use Rattle.server_rules.specs.Laws.{In}
use Rattle.server_rules.proofs.Members.{in_filtered}
use Rattle.stripe_plan.specs.declared.plan.Ask.{Ask}
use Rattle.stripe_plan.specs.declared.plan.Span.{Span}
use Rattle.stripe_plan.specs.declared.plan.Aim.TheVariants as aim
use Rattle.stripe_plan.specs.Asks.{asks}
use Rattle.stripe_plan.specs.Lost.{among, is_short, positions_out, out_from, source, source_from}
use Rattle.stripe_plan.specs.Touched.{stripes}
use Rattle.data_map.specs.Striping.{parities, group_width, group_of}
use Rattle.client_rules.specs.Calls.{file_of, span_of, is_write}
use Rattle.client_rules.specs.Steps.{is_bad_range}
use Rattle.scenario_text.specs.declared.line.Line.{Line}
use Rattle.world_history.specs.ClientNames.{CallOp, Held}
use Rattle.world_history.specs.ServerNames.{Kept, Component, Grant}
use Rattle.world_history.specs.State.{World, DriveAt, ClientAt}
use Rattle.world_history.specs.Moves.{op_of, raw_of}
use Rattle.world_history.specs.History.{StandsFor}
use Rattle.history_law.specs.Grants.{GrantsAreSafe}
use Rattle.component_law.proofs.Server.{found_own}
use Rattle.exchange_law.proofs.PlaceLists.{all_between}
use Rattle.exchange_law.proofs.Plans.{IsAsked, asks_in}
use Rattle.ready_law.specs.Clear.{HasRoomTo}
use Rattle.ready_law.specs.Ready.{Scene, scene_of, IsReady, IsInTime, Yields, held_by, opposed, wanted, is_covered, is_lost, lost_from, lost_of, touched, greatest_end, write_end, stands}
use Rattle.server_rules.proofs.FileLaws.{safe_at}
use Rattle.ready_law.proofs.WorkingApart.{got_in}
use Rattle.std.proofs.lemmas.List.{length-replicate}
use Rattle.scenario_text.specs.declared.event.Call.TheVariants as call
use Rattle.generate_law.specs.Scenario.{call_of, first_write, file_map, offset_of, length_of}
use Rattle.generate_law.specs.Rests.{FILE_SIZE, OBJECT_END, IsUp, Rests, EachCallIsReady, FirstCallIsReady}

-- ---- the map

abbrev its_map : RawMap
its_map = raw_of file_map

its_map_is_checked : IsChecked its_map
its_map_is_checked = record {
  some_unit = omega arith;
  short_unit = omega arith;
  some_components = omega arith;
  few_components = omega arith;
  whole_positions = refl;
  narrow = omega arith;
  whole_groups = refl;
  some_data = omega arith;
  no_depth = λ e. refl;
  some_depth = λ e. absurd (e refl);
  short_depth = omega arith;
  algorithm = (omega arith, omega arith);
}

-- where nothing is lost, no position is out
none_out_from : (p n : ℕ) → out_from its_map [] p n ≡ []
unfolding out_from source source_from
none_out_from p zero = refl
none_out_from p (suc n) = none_out_from (p + 1) n

none_out : (group : ℕ) → positions_out its_map [] group ≡ []
unfolding positions_out
none_out group = none_out_from (group * group_width its_map) (group_width its_map)

none_short : (s : ℕ) → is_short its_map [] s ≡ false
unfolding is_short
none_short s = ap (λ (ps : List ℕ). nat_lt (parities its_map) (length ps)) (none_out (group_of its_map s))

-- ---- how far a call reaches

-- a call inside the file touches the first 16 stripes alone
few_stripes : (r : Span) → r.offset + r.length ≤ FILE_SIZE → AllByRecursion (λ (s : ℕ). s < 16) (stripes its_map r)
unfolding stripes
few_stripes r low = elim (cases_eq r.length 0) [
  | inl none ↦ rw none tt
  | inr some ↦ rw (ne_eqb r.length 0 some) (narrower _ (all_between (r.offset / 16384)
      ((r.offset + r.length - 1) / 16384 + 1 - r.offset / 16384)))
]
  where
    last : (r.offset + r.length - 1) / 16384 < 16
    last = omega (arith, low)

    first : r.offset / 16384 ≤ (r.offset + r.length - 1) / 16384 + 1
    first = omega arith

    narrower : (ss : List ℕ) → AllByRecursion (λ (s : ℕ). (r.offset / 16384 ≤ s)
        × (s < r.offset / 16384 + ((r.offset + r.length - 1) / 16384 + 1 - r.offset / 16384))) ss
        → AllByRecursion (λ (s : ℕ). s < 16) ss
    narrower [] k = tt
    narrower (s ∷ ss) k = (omega (arith, k.0.1, last, first), narrower ss k.1)

-- its WRITEs end in the first 16 rows
greatest_low : (k most : ℕ) (xs : List Ask) → AllByRecursion (λ (a : Ask). a.offset + a.length ≤ most) xs
    → greatest_end k xs ≤ most
unfolding greatest_end
greatest_low k most [] l = omega arith
greatest_low k most (a ∷ xs) l = either (a.component == k) (greatest_low k most xs l.1)
  where
    either : (b : Bool) → greatest_end k xs ≤ most
        → (if b then max (a.offset + a.length) (greatest_end k xs) else greatest_end k xs) ≤ most
    either true rest = omega (arith, l.0, rest)
    either false rest = rest

rows_low : (xs : List Ask) → AllByRecursion (IsAsked its_map [] (λ (s : ℕ). s < 16)) xs
    → AllByRecursion (λ (a : Ask). a.offset + a.length ≤ OBJECT_END) xs
rows_low [] k = tt
rows_low (a ∷ xs) k = (row k.0, rows_low xs k.1)
  where
    row : IsAsked its_map [] (λ (s : ℕ). s < 16) a → a.offset + a.length ≤ OBJECT_END
    row (s, low, is) = let high : a.offset + a.length ≤ s * 4096 + 4096 = is.high in omega (arith, low, high)

writes_low : (k : ℕ) (r : Span) (ss : List ℕ) → AllByRecursion (λ (s : ℕ). s < 16) ss
    → greatest_end k (asks aim.Scatters its_map r [] [] ss) ≤ OBJECT_END
writes_low k r ss low =
    greatest_low k OBJECT_END (asks aim.Scatters its_map r [] [] ss)
    (rows_low _ (asks_in (λ (s : ℕ). s < 16) aim.Scatters its_map r [] [] ss its_map_is_checked low))

-- the WRITEs of a call inside the file end inside the objects
pub write_ends_at : (f : Kept) (op : CallOp) → f.map ≡ its_map → (span_of op).offset + (span_of op).length ≤ FILE_SIZE
    → is_write op ≡ true → (k : ℕ) → write_end f op k ≤ OBJECT_END
write_ends_at f op map inside writes k =
    rw (writes, map) (writes_low k (span_of op) (stripes its_map (span_of op)) (few_stripes (span_of op) inside))

-- ---- nothing is lost

none_lost : (s : Scene) (cs : List Component) (k : ℕ) → ((at : Component) → In at cs → is_lost s at ≡ false)
    → lost_from s cs k ≡ []
unfolding lost_from
none_lost s [] k whole = refl
none_lost s (at ∷ cs) k whole = rw (whole at (inl refl)) (none_lost s cs (k + 1) (λ x i. whole x (inr i)))

first_there : (cs : List Component) → length cs ≡ 5 → (at : Component) × (slice_get cs 0 ≡ Some at) × In at cs
first_there [] e = absurd (cc e)
first_there (at ∷ cs) e = (at, refl, inl refl)

never_less : (n : ℕ) → nat_lt n 0 ≡ false
never_less n = grind (arith, nat_tests)

-- ---- a call inside the file

module _ (safe : GrantsAreSafe) (w : World) (h : List Line) (here : StandsFor w h) (size : ℕ)
    (r : Rests size (scene_of w h)) (c : ℕ) (low : c < 3) (op : CallOp) (file_is : file_of op ≡ 0)
    (short : (span_of op).length ≤ 1000) (inside : (span_of op).offset + (span_of op).length ≤ FILE_SIZE) where
  abbrev s : Scene
  s = scene_of w h

  abbrev f : Kept
  f = r.file.kept

  whole : (at : Component) → In at f.components → is_lost s at ≡ false
  whole at i =
      let it = r.its.there at i in
      let d = r.drives at.drive it.1 in
      rw (it.0, d.1) d.2.works

  pub none : lost_of s f ≡ []
  none = none_lost s f.components 0 whole

  apart : (g : Grant) → In g f.grants → grant_of f.grants g.client ≡ Some g
  apart g i =
      found_own f.grants g
      (safe_at w.server.files 0 r.file (safe w (record { before = w; history = h; stands = here; moves = []; world_is = refl }))
      r.found).apart i

  -- each conflicting grant is given back
  opposed_live : (g : Grant) → In g (opposed s f c (held_by (r.clients c low).0 (file_of op)) op) → In g f.grants
  opposed_live g i = either (is_covered (held_by (r.clients c low).0 (file_of op)) op) i
    where
      either : (b : Bool) → In g (if b then [] else against f.grants (wanted s f c op)) → In g f.grants
      either true j = absurd j
      either false j = (in_filtered (conflicts (wanted s f c op)) g f.grants j).0

  yields : (g : Grant) → In g f.grants → Yields s (file_of op) g
  yields g i =
      let a = r.clients g.client (r.granted g i) in
      let it = holds a.0 (a.2.same ∙ ap (option_map (λ (x : Grant). x.number)) (apart g i)) in
      record {
        unexpired = subst (λ (n : ℕ). nat_lt g.expiry n ≡ false) (sym r.clock) (never_less g.expiry);
        client = a.0;
        there = a.1;
        idle = a.2.idle;
        held = it.0;
        holds = ap (held_by a.0) file_is ∙ it.1;
        same = it.2;
      }
    where
      holds : (a : ClientAt) → option_map (λ (x : Held). x.number) (held_by a 0) ≡ Some g.number
          → (x : Held) × (held_by a 0 ≡ Some x) × (x.number ≡ g.number)
      holds a is = by (held_by a 0) refl is
        where
          by : (o : Option Held) → held_by a 0 ≡ o → option_map (λ (x : Held). x.number) o ≡ Some g.number
              → (x : Held) × (held_by a 0 ≡ Some x) × (x.number ≡ g.number)
          by None e is = absurd (cc is)
          by (Some x) e is = (x, e, cc is)

  in_time : (k : ℕ) (at : Component) (d : DriveAt) → slice_get f.components k ≡ Some at → is_lost s at ≡ false
      → s.drive at.drive ≡ Some d → IsInTime s f c d
  in_time k at d place works up =
      let a = r.drives at.drive (r.its.there at (got_in f.components k at place)).1 in
      let same : a.0 ≡ d = cc (sym a.1 ∙ up) in
      let it : IsUp r.file d = subst (IsUp r.file) same a.2 in
      record {
        up = it.up;
        lease = omega (arith, it.clock);
        own = λ g has. omega (arith, it.clock);
        format = it.format;
      }

  enough : (n : ℕ) → In n (touched f op) → is_short f.map (lost_of s f) n ≡ false
  enough n i = rw (none, r.its.map) (none_short n)

  probed : (k : ℕ) → length (positions_out f.map (lost_of s f) (k)) ≤ parities f.map
  probed k = rw (none, r.its.map) (subst (λ (ps : List ℕ). length ps ≤ parities its_map) (sym (none_out k)) (omega arith))

  some_stands : (k : ℕ) × (stands (slice_get f.components k) ≡ true)
  some_stands =
      let first = first_there f.components r.its.count in
      (0, ap stands first.1 ∙ ap not (r.its.there first.0 first.2).0)

  room : is_write op ≡ true → (k : ℕ) (at : Component) (a : DriveAt) → slice_get f.components k ≡ Some at
      → s.drive at.drive ≡ Some a → HasRoomTo (write_end f op k) a.state.store at.object
  room writes k at a place up =
      let there : HasRoomTo OBJECT_END a.state.store at.object = r.room at a (got_in f.components k at place) up in
      omega (arith, write_ends_at f op r.its.map inside writes k, there)

  pub is_ready : IsReady s c op
  is_ready = record {
    unguessed = r.unguessed;
    up = r.up;
    caller = (r.clients c low).0;
    there = (r.clients c low).1;
    idle = (r.clients c low).2.idle;
    range = good_range;
    file = r.file;
    found = ap (file_at s.server.files) file_is ∙ r.found;
    quiet = r.its.quiet;
    same =
        ap (λ (n : ℕ). option_map (λ (x : Held). x.number) (held_by (r.clients c low).0 n)) file_is ∙ (r.clients c low).2.same;
    yielding = λ g i. yields g (opposed_live g i);
    drives = in_time;
    unspent = inr r.its.unspent;
    enough = enough;
    reads = λ reads. record { some = some_stands; probed = λ e k first. probed _ };
    writes = λ writes. record {
      sole = λ k touched gone listed g i. absurd (true≢false (sym gone ∙ ap (among k) none));
      room = λ k at a touched place works up. room writes k at a place up;
    };
  }
    where
      good_range : is_bad_range (span_of op) ≡ false
      good_range = grind (arith, nat_tests, short, inside)

  -- it is so of the scenario's file
  pub its_file : is_ready.file ≡ r.file
  unfolding is_ready
  its_file = refl

-- ---- the calls of the scenario

pub offset_low : (x : ℕ) → offset_of x < 261000
offset_low x = mod-lt (x / 2 ^ 40) (omega arith)

pub length_low : (x : ℕ) → length_of x ≤ 1000
length_low x = omega (arith, mod-lt (x / 2 ^ 20) {m = 1000} (omega arith))

-- each is inside the file
pub record IsInside (op : CallOp) : Type 0 where
  pub file : file_of op ≡ 0
  pub short : (span_of op).length ≤ 1000
  pub inside : (span_of op).offset + (span_of op).length ≤ FILE_SIZE

pub write_ends_low : (f : Kept) (op : CallOp) → f.map ≡ its_map → IsInside op → is_write op ≡ true → (k : ℕ)
    → write_end f op k ≤ OBJECT_END
write_ends_low f op map it writes k = write_ends_at f op map it.inside writes k

pub call_inside : (k x : ℕ) → IsInside (op_of (call_of k x))
call_inside k x = either (k % 2 == 0)
  where
    either : (b : Bool) → IsInside (op_of (if b then call.Write 0 (offset_of x) (replicate (length_of x) (k % 256))
        else call.Read 0 (offset_of x) (length_of x)))
    either true = record {
      file = refl;
      short = subst (λ (n : ℕ). n ≤ 1000) (sym (length-replicate (length_of x) (k % 256))) (length_low x);
      inside = omega (arith, offset_low x, length_low x, length-replicate (length_of x) (k % 256));
    }
    either false = record {
      file = refl;
      short = length_low x;
      inside = omega (arith, offset_low x, length_low x);
    }

pub each_call_is_ready : GrantsAreSafe → EachCallIsReady
each_call_is_ready safe w h k x here r =
    let it = call_inside k x in
    is_ready safe w h here FILE_SIZE r (k % 3) (mod-lt k (omega arith)) (op_of (call_of k x)) it.file it.short it.inside

pub first_call_is_ready : GrantsAreSafe → FirstCallIsReady
first_call_is_ready safe w h here r =
    is_ready safe w h here 0 r 0 (omega arith) (op_of first_write) refl (omega arith) (omega arith)
