-- The grant that a client takes from an answer is usable.
-- Towards `SentGoesOn` (`specs/Steps.antt`).
use Rattle.std.proofs.Common.{◌≡◌, ℕ, ◌+◌, Bool, true, false, List, [], ◌∷◌, length, refl, sym, ap, ◌∙◌, eqb-true, arith}
use Rattle.std.specs.Prelude.{Option, Some, None, Result, Ok, Err, not, ◌||◌, ◌&&◌, ◌==◌, is_some, if◌then◌else◌}
use Rattle.osd_lists.proofs.Options.{none_there}
use Rattle.layout_types.specs.declared.err.LayoutErr.{LayoutErr}
use Rattle.layout_types.specs.declared.layout.Layout.{Layout}
use Rattle.layout_types.specs.declared.cred.ObjectCred.{ObjectCred}
use Rattle.layout_types.specs.Grammar.{whole}
use Rattle.layout_types.specs.Reading.{layout_in}
use Rattle.layout_ops.specs.declared.results.LayoutSegment.{LayoutSegment}
use Rattle.layout_ops.specs.declared.results.LayoutGetOk.{LayoutGetOk}
use Rattle.stripe_plan.specs.Touched.{stripes}
use Rattle.stripe_plan.specs.Lost.{unwritable}
use Rattle.world_history.specs.ClientNames.{CallOp, Held, Listed, Reach, Why, Unreadable, Index, Partial, Secured, BadMap, BadCredential, Answer}
use Rattle.client_rules.specs.Calls.{is_write, file_of}
use Rattle.client_rules.specs.Grants.{missing_of, is_for}
use Rattle.client_rules.specs.Requests.{grant_in}
use Rattle.client_rules.specs.Results.{layouts_in}
use Rattle.client_rules.specs.Layouts.{first_why, any_secured, is_map, fresh, is_lacking, enough, granted_span, with_listed, unless_why, with_body, reach_of, one_layout, in_layouts, listed, and_listed, all_listed, taken}
use Rattle.client_rules.proofs.TakenMaps.{enough_same, taken_checked}
use Rattle.relation_law.proofs.MessagesClients.{IsUsable}

-- ---- as many components as the map has

part_none : {W : Type 0} (a b c : Bool) (v w x : W) (rest : Option W) →
    (if a then Some v else if b then Some w else if not c then Some x else rest) ≡ None → c ≡ true
part_none true b c v w x rest e = absurd (cc e)
part_none false true c v w x rest e = absurd (cc e)
part_none false false true v w x rest e = refl
part_none false false false v w x rest e = absurd (cc e)

parts_taken : (g : Reach) (size : ℕ) (op : CallOp) (l : Layout) → first_why g size op l ≡ None →
    length l.olo_components ≡ l.olo_map.comps
unfolding first_why
parts_taken g size op l e =
    eqb-true (length l.olo_components) l.olo_map.comps
    (part_none (not (is_for g size op)) (not (l.olo_comps_index == 0)) (length l.olo_components == l.olo_map.comps)
    Unreadable Index Partial
    (if any_secured l.olo_components then Some Secured else if not (is_map l.olo_map) then Some BadMap else None) e)

and_long : (o : Option Listed) (r : Option (List Listed)) (ls : List Listed) (n : ℕ) →
    ((ms : List Listed) → r ≡ Some ms → length ms ≡ n) → and_listed o r ≡ Some ls → length ls ≡ n + 1
and_long None r ls n f e = absurd (cc e)
and_long (Some l) None ls n f e = absurd (cc e)
and_long (Some l) (Some ms) ls n f e =
    let same : l ∷ ms ≡ ls = cc e in
    ap length (sym same) ∙ omega (arith, f ms refl)

all_long : (os : List ObjectCred) (ls : List Listed) → all_listed os ≡ Some ls → length ls ≡ length os
unfolding all_listed
all_long [] ls e = let same : [] ≡ ls = cc e in ap length (sym same)
all_long (o ∷ os) ls e = and_long (listed o) (all_listed os) ls (length os) (λ ms. all_long os ms) e ∙ omega arith

-- ---- stripes that can be written

enough_can : (h k : Held) (op : CallOp) → enough h op ≡ Ok k → h.reach.rw ≡ true →
    unwritable h.map (missing_of h) (stripes h.map (granted_span h.reach)) ≡ None
unfolding enough is_lacking
enough_can h k op e rw_ = none_there (unwritable h.map (missing_of h) (stripes h.map (granted_span h.reach)))
    (last (is_write op) h.reach.rw _ (is_some (unwritable h.map (missing_of h) (stripes h.map (granted_span h.reach)))) e rw_)
  where
    last : (w r x y : Bool) → (if (w || r) && (x || y) then Err BadCredential else Ok h) ≡ Ok k → r ≡ true → y ≡ false
    last w true x false e f = refl
    last true true true true e f = absurd (cc e)
    last true true false true e f = absurd (cc e)
    last false true true true e f = absurd (cc e)
    last false true false true e f = absurd (cc e)
    last w false x y e f = absurd (cc f)

-- ---- what is taken

-- but for the map, which is checked
record IsComplete (h : Held) : Type 0 where
  long : length h.components ≡ h.map.comps
  writable : h.reach.rw ≡ true → unwritable h.map (missing_of h) (stripes h.map (granted_span h.reach)) ≡ None

listed_complete : (a : Answer) (n : ℕ) (op : CallOp) (g : Reach) (l : Layout) (o : Option (List Listed)) (h : Held) →
    length l.olo_components ≡ l.olo_map.comps → all_listed l.olo_components ≡ o → with_listed a n op g l o ≡ Ok h → IsComplete h
listed_complete a n op g l None h parts is e = absurd (cc e)
listed_complete a n op g l (Some ls) h parts is e =
    let new : Held = fresh (file_of op) n a.size g l.olo_map ls in
    rw (enough_same (fresh (file_of op) n a.size g l.olo_map ls) h op e) (record {
      long = all_long l.olo_components ls is ∙ parts;
      writable = enough_can (fresh (file_of op) n a.size g l.olo_map ls) h op e;
    })

why_complete : (a : Answer) (n : ℕ) (op : CallOp) (g : Reach) (l : Layout) (w : Option Why) (h : Held) →
    (w ≡ None → length l.olo_components ≡ l.olo_map.comps) → unless_why a n op g l w ≡ Ok h → IsComplete h
why_complete a n op g l (Some w) h parts e = absurd (cc e)
why_complete a n op g l None h parts e = listed_complete a n op g l (all_listed l.olo_components) h (parts refl) refl e

body_complete : (a : Answer) (n : ℕ) (op : CallOp) (g : Reach) (r : Result Layout LayoutErr) (h : Held) →
    with_body a n op g r ≡ Ok h → IsComplete h
body_complete a n op g (Err x) h e = absurd (cc e)
body_complete a n op g (Ok l) h e = why_complete a n op g l (first_why g a.size op l) h (parts_taken g a.size op l) e

one_complete : (a : Answer) (n : ℕ) (op : CallOp) (gs : List LayoutSegment) (h : Held) → one_layout a n op gs ≡ Ok h →
    IsComplete h
one_complete a n op [] h e = absurd (cc e)
one_complete a n op (g ∷ []) h e = body_complete a n op (reach_of a.size op g) (whole layout_in g.body) h e
one_complete a n op (g ∷ f ∷ gs) h e = absurd (cc e)

in_complete : (a : Answer) (op : CallOp) (o : Option LayoutGetOk) (h : Held) → in_layouts a op o ≡ Ok h → IsComplete h
in_complete a op None h e = absurd (cc e)
in_complete a op (Some ok) h e = one_complete a (grant_in ok.stateid) op ok.layouts h e

pub taken_usable : (a : Answer) (op : CallOp) (h : Held) → taken a op ≡ Ok h → IsUsable h
unfolding taken
taken_usable a op h e =
    let c = in_complete a op (layouts_in a.results) h e in
    record { checked = taken_checked a op h e; long = c.long; writable = c.writable }
