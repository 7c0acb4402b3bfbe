-- The grant that is taken from an answer has a checked map.
use Rattle.std.proofs.Common.{◌≡◌, ℕ, Bool, true, false, List, [], ◌∷◌, refl}
use Rattle.std.specs.Prelude.{Option, Some, None, Result, Ok, Err, not, ◌||◌, ◌&&◌, nat_lt, is_err, if◌then◌else◌}
use Rattle.data_map.specs.declared.check.MapErr.{MapErr}
use Rattle.data_map.specs.Check.{HasAlgorithm, IsChecked, checked}
use Rattle.data_map.proofs.Checks.{checked_is_checked}
use Rattle.layout_types.specs.declared.err.LayoutErr.{LayoutErr}
use Rattle.layout_types.specs.declared.layout.Layout.{Layout}
use Rattle.layout_types.specs.Grammar.{whole}
use Rattle.layout_types.specs.Reading.{layout_in}
use Rattle.layout_ops.specs.declared.results.LayoutSegment.{LayoutSegment}
use Rattle.layout_ops.specs.declared.results.LayoutGetOk.{LayoutGetOk}
use Rattle.client_rules.specs.declared.limits.TheConstants.{MAX_FILE_COMPONENTS}
use Rattle.client_rules.specs.State.{CallOp, Held, Listed, Reach, Why, Unreadable, Index, Partial, Secured, BadMap, BadCredential, Answer, RawMap}
use Rattle.client_rules.specs.Calls.{is_write, file_of}
use Rattle.client_rules.specs.Requests.{grant_in}
use Rattle.client_rules.specs.Results.{layouts_in}
use Rattle.client_rules.specs.Layouts.{is_map, first_why, fresh, is_lacking, enough, with_listed, unless_why, with_body, reach_of, one_layout, in_layouts, taken}
use Rattle.client_rules.proofs.KnownMaps.{whole_known}

pub last_none : (a b c d e : Bool) (v w x y z : Why) →
    (if a then Some v else if b then Some w else if c then Some x else if d then Some y else if not e then Some z else None)
    ≡ None → e ≡ true
last_none true b c d e v w x y z n = absurd (cc n)
last_none false true c d e v w x y z n = absurd (cc n)
last_none false false true d e v w x y z n = absurd (cc n)
last_none false false false true e v w x y z n = absurd (cc n)
last_none false false false false true v w x y z n = refl
last_none false false false false false v w x y z n = absurd (cc n)

pub map_taken : (g : Reach) (size : ℕ) (op : CallOp) (l : Layout) → first_why g size op l ≡ None → is_map l.olo_map ≡ true
unfolding first_why
map_taken g size op l e = last_none _ _ _ _ (is_map l.olo_map) Unreadable Index Partial Secured BadMap e

gave_map : (r : Result RawMap MapErr) (b : Bool) → not (is_err r || b) ≡ true → (n : RawMap) × (r ≡ Ok n)
gave_map (Ok n) b e = (n, refl)
gave_map (Err x) b e = absurd (cc e)

checked_map : (m : RawMap) → HasAlgorithm m → is_map m ≡ true → IsChecked m
checked_map m known e = let n = gave_map (checked m) (nat_lt MAX_FILE_COMPONENTS m.comps) e in checked_is_checked m n.0 known n.1

pub same_grant : (b : Bool) (h k : Held) → (if b then Err BadCredential else Ok h) ≡ Ok k → k ≡ h
same_grant true h k e = absurd (cc e)
same_grant false h k e = cc e

pub enough_same : (h k : Held) (op : CallOp) → enough h op ≡ Ok k → k ≡ h
unfolding enough
enough_same h k op e = same_grant ((is_write op || h.reach.rw) && is_lacking h op) h k e

listed_checked : (a : Answer) (n : ℕ) (op : CallOp) (g : Reach) (l : Layout) (o : Option (List Listed)) (h : Held) →
    IsChecked l.olo_map → with_listed a n op g l o ≡ Ok h → IsChecked h.map
listed_checked a n op g l None h ch e = absurd (cc e)
listed_checked a n op g l (Some ls) h ch e = rw (enough_same (fresh (file_of op) n a.size g l.olo_map ls) h op e) ch

why_checked : (a : Answer) (n : ℕ) (op : CallOp) (g : Reach) (l : Layout) (w : Option Why) (h : Held) →
    (w ≡ None → IsChecked l.olo_map) → unless_why a n op g l w ≡ Ok h → IsChecked h.map
why_checked a n op g l (Some w) h ch e = absurd (cc e)
why_checked a n op g l None h ch e = listed_checked a n op g l _ h (ch refl) e

body_checked : (a : Answer) (n : ℕ) (op : CallOp) (g : Reach) (r : Result Layout LayoutErr) (h : Held) →
    ((l : Layout) → r ≡ Ok l → HasAlgorithm l.olo_map) → with_body a n op g r ≡ Ok h → IsChecked h.map
body_checked a n op g (Err x) h known e = absurd (cc e)
body_checked a n op g (Ok l) h known e =
    why_checked a n op g l (first_why g a.size op l) h (λ w. checked_map l.olo_map (known l refl) (map_taken g a.size op l w)) e

one_checked : (a : Answer) (n : ℕ) (op : CallOp) (gs : List LayoutSegment) (h : Held) → one_layout a n op gs ≡ Ok h →
    IsChecked h.map
one_checked a n op [] h e = absurd (cc e)
one_checked a n op (g ∷ []) h e =
    body_checked a n op (reach_of a.size op g) (whole layout_in g.body) h (λ l r. whole_known g.body l r) e
one_checked a n op (g ∷ f ∷ gs) h e = absurd (cc e)

in_checked : (a : Answer) (op : CallOp) (o : Option LayoutGetOk) (h : Held) → in_layouts a op o ≡ Ok h → IsChecked h.map
in_checked a op None h e = absurd (cc e)
in_checked a op (Some ok) h e = one_checked a (grant_in ok.stateid) op ok.layouts h e

pub taken_checked : (a : Answer) (op : CallOp) (h : Held) → taken a op ≡ Ok h → IsChecked h.map
unfolding taken
taken_checked a op h e = in_checked a op (layouts_in a.results) h e
