-- A grant that a client takes covers the call for which it was asked.
use Rattle.std.proofs.Common.{◌≡◌, not, ℕ, Bool, true, false, List, [], ◌∷◌, Option, Some, None, Result, Ok, Err, refl, subst, if◌then◌else◌}
use Rattle.layout_types.specs.declared.err.LayoutErr.{LayoutErr}
use Rattle.layout_types.specs.declared.layout.Layout.{Layout}
use Rattle.layout_types.specs.Grammar.{whole}
use Rattle.layout_types.specs.Reading.{layout_in}
use Rattle.layout_ops.specs.declared.results.LayoutSegment.{LayoutSegment}
use Rattle.layout_ops.specs.declared.results.LayoutGetOk.{LayoutGetOk}
use Rattle.history_law.specs.State.{CallOp, Listed, Reach, Held, Why, Unreadable, Answer}
use Rattle.history_law.proofs.Taking.{enough_same}
use Rattle.client_rules.specs.Calls.{file_of}
use Rattle.client_rules.specs.Grants.{is_for, covers}
use Rattle.client_rules.specs.Requests.{grant_in}
use Rattle.client_rules.specs.Results.{layouts_in}
use Rattle.client_rules.specs.Layouts.{first_why, fresh, with_listed, unless_why, with_body, reach_of, one_layout, in_layouts, all_listed, taken}

-- it is on the call's file, and covers the call
abbrev pub IsForCall : CallOp → Held → Type 0
IsForCall op h = (h.file ≡ file_of op) × (covers h op ≡ true)

fresh_covers : (file number size : ℕ) (g : Reach) (op : CallOp) (h : Held) → is_for g size op ≡ true → h.count ≡ 0
    → h.reach ≡ g → h.size ≡ size → covers h op ≡ true
unfolding covers
fresh_covers file number size g op h for count reach sized = rw (count, reach, sized) for

in_listed : (a : Answer) (n : ℕ) (op : CallOp) (g : Reach) (l : Layout) (ls : Option (List Listed)) (h : Held)
    → is_for g a.size op ≡ true → with_listed a n op g l ls ≡ Ok h → IsForCall op h
in_listed a n op g l None h for e = absurd (cc e)
in_listed a n op g l (Some ls) h for e =
    let made : Held = fresh (file_of op) n a.size g l.olo_map ls in
    let same : made ≡ h = enough_same made h op e in
    subst (IsForCall op) same (refl, fresh_covers (file_of op) n a.size g op made for refl refl refl)

-- nothing stands against it, so it is for the call
for_test : (b : Bool) (w : Option Why) → (if not b then Some Unreadable else w) ≡ None → b ≡ true
for_test true w e = refl
for_test false w e = absurd (cc e)

for_call : (g : Reach) (size : ℕ) (op : CallOp) (l : Layout) → first_why g size op l ≡ None → is_for g size op ≡ true
unfolding first_why
for_call g size op l e = for_test (is_for g size op) _ e

in_layout : (a : Answer) (n : ℕ) (op : CallOp) (g : Reach) (l : Layout) (w : Option Why) (h : Held)
    → first_why g a.size op l ≡ w → unless_why a n op g l w ≡ Ok h → IsForCall op h
in_layout a n op g l (Some w) h is e = absurd (cc e)
in_layout a n op g l None h is e = in_listed a n op g l (all_listed l.olo_components) h (for_call g a.size op l is) e

in_body : (a : Answer) (n : ℕ) (op : CallOp) (g : Reach) (r : Result Layout LayoutErr) (h : Held)
    → with_body a n op g r ≡ Ok h → IsForCall op h
in_body a n op g (Err x) h e = absurd (cc e)
in_body a n op g (Ok l) h e = in_layout a n op g l (first_why g a.size op l) h refl e

in_segments : (a : Answer) (n : ℕ) (op : CallOp) (gs : List LayoutSegment) (h : Held) → one_layout a n op gs ≡ Ok h
    → IsForCall op h
in_segments a n op [] h e = absurd (cc e)
in_segments a n op (g ∷ []) h e = in_body a n op (reach_of a.size op g) (whole layout_in g.body) h e
in_segments a n op (g ∷ f ∷ gs) h e = absurd (cc e)

in_results : (a : Answer) (op : CallOp) (o : Option LayoutGetOk) (h : Held) → in_layouts a op o ≡ Ok h → IsForCall op h
in_results a op None h e = absurd (cc e)
in_results a op (Some given) h e = in_segments a (grant_in given.stateid) op given.layouts h e

pub taken_covers : (a : Answer) (op : CallOp) (h : Held) → taken a op ≡ Ok h → IsForCall op h
unfolding taken
taken_covers a op h e = in_results a op (layouts_in a.results) h e
