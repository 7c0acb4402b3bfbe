-- What jobs wait for goes to drives of the file's components.
use Rattle.std.proofs.Common.{◌&&◌, ◌==◌, ℕ, ◌+◌, ◌<◌, Bool, true, false, not, List, [], ◌∷◌, ◌++◌, map, filter, slice_set, Option, Some, None, refl, sym, subst, inl, inr, if◌then◌else◌}
use Rattle.scenario_text.specs.declared.names.TheConstants.{DRIVES}
use Rattle.server_rules.specs.Columns.{row_from, unit_with, wanted}
use Rattle.server_rules.specs.Commands.{Ask, Which, is_meant, sent_to, to_each, again_in_2}
use Rattle.server_rules.specs.Numbers.{among}
use Rattle.server_rules.specs.Pieces.{stores_from, is_off}
use Rattle.server_rules.specs.Rebuild.{sources, sources_by, group_for, position_for}
use Rattle.server_rules.specs.Repair.{is_left, repair_reads}
use Rattle.server_rules.specs.Replies.{renewed}
use Rattle.server_rules.specs.Standing.{is_beyond, lose_on, lose_from, replica}
use Rattle.server_rules.proofs.Members.{in_either, in_filtered}
use Rattle.world_history.specs.ServerNames.{Kept, Piece, Heard, Component, Awaited, Target}
use Rattle.component_law.proofs.StandAwaited.{renewed_are, in_set}
use Rattle.name_law.specs.ServerNamed.{AreOnNamed, AreForNamed}

-- ---- lists of commands

pub both_for : (xs ys : List Awaited) → AreForNamed xs → AreForNamed ys → AreForNamed (xs ++ ys)
both_for xs ys p q a i = elim (in_either a xs ys i) [ inl j ↦ p a j | inr j ↦ q a j ]

pub none_for : AreForNamed []
none_for a i = absurd i

pub one_for : (x : Awaited) → x.drive < DRIVES → AreForNamed (x ∷ [])
one_for x h a (inl e) = subst (λ (y : Awaited). y.drive < DRIVES) (sym e) h
one_for x h a (inr i) = absurd i

pub filtered_for : (p : Awaited → Bool) (ws : List Awaited) → AreForNamed ws → AreForNamed (filter p ws)
filtered_for p ws h a i = h a (in_filtered p a ws i).0

pub renewed_for : (ws : List Awaited) (a : Awaited) (n : ℕ) → a.drive < DRIVES → AreForNamed ws
    → AreForNamed (map (renewed a (again_in_2 a n)) ws)
renewed_for ws a n own h = renewed_are (λ (x : Awaited). x.drive < DRIVES) ws a n own h

first_or : (b : Bool) (x : Awaited) (ws bs : List Awaited) → x.drive < DRIVES → AreForNamed ws → AreForNamed bs
    → AreForNamed (if b then x ∷ ws else bs)
first_or true x ws bs own more less a (inl e) = subst (λ (y : Awaited). y.drive < DRIVES) (sym e) own
first_or true x ws bs own more less a (inr i) = more a i
first_or false x ws bs own more less a i = less a i

either_for : (b : Bool) (ws bs : List Awaited) → AreForNamed ws → AreForNamed bs
    → AreForNamed (if b then ws else bs)
either_for true ws bs h i = h
either_for false ws bs h i = i

-- ---- one to each component

first_on : (at : Component) (cs : List Component) → AreOnNamed (at ∷ cs) → at.drive < DRIVES
first_on at cs h = h at (inl refl)

rest_on : (at : Component) (cs : List Component) → AreOnNamed (at ∷ cs) → AreOnNamed cs
rest_on at cs h x i = h x (inr i)

pub each_for : (f : Kept) (which : Which) (ask : Ask) (cs : List Component) (k nonce : ℕ) → AreOnNamed cs
    → AreForNamed (to_each f which ask cs k nonce)
unfolding to_each
each_for f which ask [] k nonce on = none_for
each_for f which ask (at ∷ cs) k nonce on =
    first_or (not at.missing && is_meant f which k) (sent_to f ask k at.drive at.object nonce) _ _
    (first_on at cs on) (each_for f which ask cs (k + 1) (nonce + 1) (rest_on at cs on))
    (each_for f which ask cs (k + 1) nonce (rest_on at cs on))

pub stores_for : (f : Kept) (p : Piece) (rows : List (List ℕ)) (heard : List Heard) (cs : List Component)
    (k nonce : ℕ) → AreOnNamed cs → AreForNamed (stores_from f p rows heard cs k nonce)
unfolding stores_from
stores_for f p rows heard [] k nonce on = none_for
stores_for f p rows heard (at ∷ cs) k nonce on =
    first_or
    (is_off f p (row_from heard k p.count) (wanted f.map rows (unit_with f.map p.stripe k) p.count) at k)
    _ _ _ (first_on at cs on) (stores_for f p rows heard cs (k + 1) (nonce + 1) (rest_on at cs on))
    (stores_for f p rows heard cs (k + 1) nonce (rest_on at cs on))

pub repair_for : (f : Kept) (p : Piece) (nonce : ℕ) → AreOnNamed f.components → AreForNamed (repair_reads f p nonce)
unfolding repair_reads
repair_for f p nonce on =
    either_for (is_left f p) _ _ none_for (each_for f _ _ f.components 0 nonce on)

sources_with : (f : Kept) (t : Target) (p : Piece) (nonce : ℕ) (o : Option ℕ) → AreOnNamed f.components
    → AreForNamed (sources_by f t p nonce o)
sources_with f t p nonce (Some j) on = each_for f _ _ f.components 0 nonce on
sources_with f t p nonce None on =
    either_for (is_beyond f.map f.components (group_for f t)) _ _ none_for (each_for f _ _ f.components 0 nonce on)

pub sources_for : (f : Kept) (t : Target) (p : Piece) (nonce : ℕ) → AreOnNamed f.components
    → AreForNamed (sources f t p nonce)
unfolding sources
sources_for f t p nonce on = sources_with f t p nonce (replica f.map f.components (position_for f t)) on

-- ---- components that are set or lost

pub set_on : (cs : List Component) (i : ℕ) (y : Component) → y.drive < DRIVES → AreOnNamed cs
    → AreOnNamed (slice_set cs i y)
set_on cs i y own on x j = elim (in_set cs i y x j) [
  | inl e ↦ subst (λ (z : Component). z.drive < DRIVES) (sym e) own
  | inr k ↦ on x k
]

marked_on : (b : Bool) (at : Component) → at.drive < DRIVES → (if b then record at { missing = true } else at).drive < DRIVES
marked_on true at h = h
marked_on false at h = h

pub lost_on : (drive : ℕ) (cs : List Component) → AreOnNamed cs → AreOnNamed (lose_on drive cs)
unfolding lose_on
lost_on drive [] on x i = absurd i
lost_on drive (at ∷ cs) on x (inl e) =
    subst (λ (z : Component). z.drive < DRIVES) (sym e) (marked_on (at.drive == drive) at (first_on at cs on))
lost_on drive (at ∷ cs) on x (inr i) = lost_on drive cs (rest_on at cs on) x i

pub lost_from : (ks : List ℕ) (cs : List Component) (k : ℕ) → AreOnNamed cs → AreOnNamed (lose_from ks cs k)
unfolding lose_from
lost_from ks [] k on x i = absurd i
lost_from ks (at ∷ cs) k on x (inl e) =
    subst (λ (z : Component). z.drive < DRIVES) (sym e) (marked_on (among k ks) at (first_on at cs on))
lost_from ks (at ∷ cs) k on x (inr i) = lost_from ks cs (k + 1) (rest_on at cs on) x i
