-- The hand-made scenes, by computation.
use Rattle.std.proofs.Common.{◌≡◌, ◌≤◌, ◌-◌, ℕ, zero, suc, Bool, true, false, true≢false, List, [], ◌∷◌, length, slice_get, Some, None, refl, sym, subst, ◌∙◌, inl, inr, arith}
use Rattle.data_map.specs.Striping.{parities}
use Rattle.osd_objects.specs.Store.{bytes_at, free_of}
use Rattle.server_rules.specs.Files.{file_at}
use Rattle.server_rules.specs.Grants.{grant_of, asked, conflicts, overlaps}
use Rattle.server_rules.specs.Laws.{In}
use Rattle.server_rules.specs.Maps.{group_with}
use Rattle.stripe_plan.specs.Lost.{source_from, source, out_from, is_short, positions_out}
use Rattle.stripe_plan.specs.Touched.{stripes, own, touches, columns, columns_between}
use Rattle.stripe_plan.specs.Asks.{own_columns, changed, without, without_each, asks_each, asks_place, asks_stripe, asks}
use Rattle.client_rules.specs.Grants.{held_of, covers, is_for, covers_read}
use Rattle.world_history.specs.ClientNames.{CallOp, Write, Read}
use Rattle.world_history.specs.ServerNames.{File, Kept, Component, Grant}
use Rattle.world_history.specs.State.{DriveAt, ClientAt}
use Rattle.ready_law.specs.Ready.{Scene, IsReady, IsReadable, IsWritable, IsInTime, IsLowestListed, Yields, held_by, lost_from, touched, write_end, greatest_end}
use Rattle.ready_law.specs.Examples.{component, file_with, drive_where, client_with, reading, apart, held_before, asks_the_lost, asks_another, mirrored, writes_alone, writes_beside, writes_whole, held_to_read, reader, granted, recalls, write, ExamplesAreMet}
use Rattle.ready_law.proofs.ExamplesUnready.{changed_are_unready}

-- ---- a read of no byte

lost_first : IsReady asks_the_lost 0 (Read 0 0 1) → ⊥
unfolding file_at held_of covers is_for covers_read stripes lost_from positions_out out_from source source_from
lost_first r =
    let file : file_with apart 0 (component 0 true ∷ component 1 false ∷ []) (reading 0 0 ∷ []) ≡ r.file = cc r.found in
    let caller : client_with (held_before ∷ []) 0 ≡ r.caller = cc r.there in
    let reads : IsReadable asks_the_lost r.file.kept (held_by r.caller 0) (Read 0 0 1) = r.reads refl in
    let known : IsReadable asks_the_lost
    (file_with apart 0 (component 0 true ∷ component 1 false ∷ []) (reading 0 0 ∷ [])).kept
    (held_by (client_with (held_before ∷ []) 0) 0) (Read 0 0 1) =
    subst (λ (a : ClientAt). IsReadable asks_the_lost
    (file_with apart 0 (component 0 true ∷ component 1 false ∷ []) (reading 0 0 ∷ [])).kept (held_by a 0) (Read 0 0 1))
    (sym caller)
    (subst (λ (f : File). IsReadable asks_the_lost f.kept (held_by r.caller 0) (Read 0 0 1)) (sym file) reads) in
    let few = known.probed refl 0 (record { listed = refl; below = λ j l. absurd (omega (arith, l)) }) in
    omega (arith, few)

in_time : (s : Scene) (f : Kept) (failed : Bool) (d : ℕ) (x : DriveAt) → grant_of f.grants 0 ≡ None → f.format ≡ 1
    → Some (drive_where failed d) ≡ Some x → IsInTime s f 0 x
in_time s f failed d x none first e =
    let same : drive_where failed d ≡ x = cc e in
    subst (IsInTime s f 0) same (record {
      up = refl;
      lease = omega arith;
      own = λ g o. absurd (cc (sym none ∙ o));
      format = omega (arith, first);
    })

first_of_two : (k : ℕ)
    → IsLowestListed (file_with apart 0 (component 0 true ∷ component 1 false ∷ []) []).kept None (Read 0 0 1) k → k ≡ 1
first_of_two zero x = absurd (true≢false (sym x.listed))
first_of_two (suc zero) x = refl
first_of_two (suc (suc k)) x = absurd (true≢false (sym x.listed))

another_first : IsReady asks_another 0 (Read 0 0 1)
unfolding file_at held_of stripes lost_from positions_out out_from source source_from asked
another_first = record {
  unguessed = refl;
  up = refl;
  caller = client_with [] 0;
  there = refl;
  idle = record { alive = refl; free = refl; answered = refl };
  range = refl;
  file = file_with apart 0 (component 0 true ∷ component 1 false ∷ []) [];
  found = refl;
  quiet = refl;
  same = refl;
  yielding = λ g i. absurd i;
  drives = λ k at d there whole stands.
      in_time asks_another (file_with apart 0 (component 0 true ∷ component 1 false ∷ []) []).kept true at.drive d refl refl
      stands;
  unspent = inr refl;
  enough = λ n i. absurd i;
  reads = λ w. record {
    some = (1, refl);
    probed = λ none k first.
        let at : k ≡ 1 = first_of_two k first in
        subst (λ (j : ℕ). length (positions_out apart (0 ∷ []) (group_with apart j)) ≤ parities apart) (sym at)
        (omega arith);
  };
  writes = λ w. absurd (true≢false (sym w));
}

-- ---- a write where a drive has failed

abbrev op : CallOp
op = Write 0 0 (7 ∷ [])

abbrev both : List Component
both = component 0 false ∷ component 1 false ∷ []

first_stripe : (n : ℕ) → In n (touched (file_with mirrored 8 both []).kept op) → n ≡ 0
unfolding stripes
first_stripe n (inl e) = e
first_stripe n (inr i) = absurd i

room_for : (k : ℕ) (at : Component) → slice_get both k ≡ Some at
    → write_end (file_with mirrored 8 both []).kept op k ≤ 1
unfolding greatest_end asks asks_stripe asks_place asks_each without_each without changed own_columns touches own columns
    columns_between stripes
room_for zero at e = omega arith
room_for (suc zero) at e = omega arith
room_for (suc (suc k)) at e = absurd (cc e)

alone_ready : IsReady writes_alone 0 (Write 0 0 (7 ∷ []))
unfolding file_at held_of stripes lost_from positions_out out_from source source_from asked is_short
alone_ready = record {
  unguessed = refl;
  up = refl;
  caller = client_with [] 0;
  there = refl;
  idle = record { alive = refl; free = refl; answered = refl };
  range = refl;
  file = file_with mirrored 8 both [];
  found = refl;
  quiet = refl;
  same = refl;
  yielding = λ g i. absurd i;
  drives = λ k at d there whole stands.
      in_time writes_alone (file_with mirrored 8 both []).kept true at.drive d refl refl stands;
  unspent = inr refl;
  enough = λ n i. subst (λ (j : ℕ). is_short mirrored (0 ∷ []) j ≡ false) (sym (first_stripe n i)) refl;
  reads = λ w. absurd (true≢false w);
  writes = λ w. record {
    sole = λ k touched gone listed g i. absurd i;
    room = λ k at a touched there lost stands.
        let same : drive_where true at.drive ≡ a = cc stands in
        let here = room_for k at there in
        subst (λ (x : DriveAt). write_end (file_with mirrored 8 both []).kept op k - length (bytes_at x.state.store at.object)
        ≤ free_of x.state.store) same (omega (arith, here));
  };
}

whole_ready : IsReady writes_whole 0 (Write 0 0 (7 ∷ []))
unfolding file_at held_of conflicts overlaps stripes lost_from positions_out out_from source source_from asked is_short
whole_ready = record {
  unguessed = refl;
  up = refl;
  caller = client_with [] 0;
  there = refl;
  idle = record { alive = refl; free = refl; answered = refl };
  range = refl;
  file = file_with mirrored 8 both (reading 1 1 ∷ []);
  found = refl;
  quiet = refl;
  same = refl;
  yielding = λ g i. absurd i;
  drives = λ k at d there whole stands.
      in_time writes_whole (file_with mirrored 8 both (reading 1 1 ∷ [])).kept false at.drive d refl refl stands;
  unspent = inr refl;
  enough = λ n i. subst (λ (j : ℕ). is_short mirrored [] j ≡ false) (sym (first_stripe n i)) refl;
  reads = λ w. absurd (true≢false w);
  writes = λ w. record {
    sole = λ k touched gone listed g i. absurd (cc gone);
    room = λ k at a touched there lost stands.
        let same : drive_where false at.drive ≡ a = cc stands in
        let here = room_for k at there in
        subst (λ (x : DriveAt).
        write_end (file_with mirrored 8 both (reading 1 1 ∷ [])).kept op k - length (bytes_at x.state.store at.object)
        ≤ free_of x.state.store) same (omega (arith, here));
  };
}

-- ---- a write where another client reads

recalled_ready : IsReady recalls 0 write
unfolding file_at held_of conflicts overlaps stripes lost_from positions_out out_from source source_from asked is_short
recalled_ready = record {
  unguessed = refl;
  up = refl;
  caller = reader 0;
  there = refl;
  idle = record { alive = refl; free = refl; answered = refl };
  range = refl;
  file = granted (reading 1 0 ∷ []);
  found = refl;
  quiet = refl;
  same = refl;
  yielding = λ g i. subst (Yields recalls 0) (sym (only g i)) (record {
    unexpired = refl;
    client = reader 1;
    there = refl;
    idle = record { alive = refl; free = refl; answered = refl };
    held = held_to_read;
    holds = refl;
    same = refl;
  });
  drives = λ k at d there whole stands.
      in_time recalls (granted (reading 1 0 ∷ [])).kept false at.drive d refl refl stands;
  unspent = inr refl;
  enough = λ n i. subst (λ (j : ℕ). is_short mirrored [] j ≡ false) (sym (first_stripe n i)) refl;
  reads = λ w. absurd (true≢false w);
  writes = λ w. record {
    sole = λ k touched gone listed g i. absurd (cc gone);
    room = λ k at a touched there lost stands.
        let same : drive_where false at.drive ≡ a = cc stands in
        let here = room_for k at there in
        subst (λ (x : DriveAt).
        write_end (granted (reading 1 0 ∷ [])).kept op k - length (bytes_at x.state.store at.object)
        ≤ free_of x.state.store) same (omega (arith, here));
  };
}
  where
    only : (g : Grant) → In g (reading 1 0 ∷ []) → g ≡ reading 1 0
    only g (inl e) = e
    only g (inr i) = absurd i

beside_unready : IsReady writes_beside 0 (Write 0 0 (7 ∷ [])) → ⊥
unfolding file_at held_of stripes lost_from
beside_unready r =
    let file : file_with mirrored 8 both (reading 1 1 ∷ []) ≡ r.file = cc r.found in
    let caller : client_with [] 0 ≡ r.caller = cc r.there in
    let writes : IsWritable writes_beside (file_with mirrored 8 both (reading 1 1 ∷ [])).kept 0
    (held_by (client_with [] 0) 0) op =
    subst (λ (a : ClientAt). IsWritable writes_beside (file_with mirrored 8 both (reading 1 1 ∷ [])).kept 0 (held_by a 0)
    op) (sym caller)
    (subst (λ (f : File). IsWritable writes_beside f.kept 0 (held_by r.caller 0) op) (sym file) (r.writes refl)) in
    let own : 1 ≡ 0 = writes.sole 0 (0, inl refl, refl) refl refl (reading 1 1) (inl refl) in
    omega (arith, own)

pub examples_are_met : ExamplesAreMet
examples_are_met = record {
  lost = lost_first;
  another = another_first;
  alone = alone_ready;
  whole = whole_ready;
  beside = beside_unready;
  recalled = recalled_ready;
  changed = changed_are_unready;
}
