-- The grant that is taken from an answer has the number that the answer gives, and nothing was sent under it.
use Rattle.std.proofs.Common.{◌≡◌, ℕ, List, [], ◌∷◌, refl}
use Rattle.std.specs.Prelude.{Option, Some, None, Result, Ok, Err}
use Rattle.layout_types.specs.declared.err.LayoutErr.{LayoutErr}
use Rattle.layout_types.specs.declared.layout.Layout.{Layout}
use Rattle.layout_types.specs.Grammar.{whole}
use Rattle.layout_types.specs.Reading.{layout_in}
use Rattle.layout_ops.specs.declared.results.LayoutSegment.{LayoutSegment}
use Rattle.layout_ops.specs.declared.results.LayoutGetOk.{LayoutGetOk}
use Rattle.exchange_law.specs.ClientState.{CallOp, Held, Listed, Reach, Why, Answer}
use Rattle.client_rules.specs.Calls.{file_of}
use Rattle.client_rules.specs.Requests.{grant_in}
use Rattle.client_rules.specs.Results.{layouts_in}
use Rattle.client_rules.specs.Layouts.{first_why, fresh, with_listed, unless_why, with_body, reach_of, one_layout, in_layouts, taken}
use Rattle.client_rules.proofs.TakenMaps.{enough_same}

-- a grant of this number under which nothing was sent
pub record IsFresh (n : ℕ) (h : Held) : Type 0 where
  pub number : h.number ≡ n
  pub count : h.count ≡ 0

listed_fresh : (a : Answer) (n : ℕ) (op : CallOp) (g : Reach) (l : Layout) (o : Option (List Listed)) (h : Held) →
    with_listed a n op g l o ≡ Ok h → IsFresh n h
listed_fresh a n op g l None h e = absurd (cc e)
listed_fresh a n op g l (Some ls) h e =
    rw (enough_same (fresh (file_of op) n a.size g l.olo_map ls) h op e) (record { number = refl; count = refl })

why_fresh : (a : Answer) (n : ℕ) (op : CallOp) (g : Reach) (l : Layout) (w : Option Why) (h : Held) →
    unless_why a n op g l w ≡ Ok h → IsFresh n h
why_fresh a n op g l (Some w) h e = absurd (cc e)
why_fresh a n op g l None h e = listed_fresh a n op g l _ h e

body_fresh : (a : Answer) (n : ℕ) (op : CallOp) (g : Reach) (r : Result Layout LayoutErr) (h : Held) →
    with_body a n op g r ≡ Ok h → IsFresh n h
body_fresh a n op g (Err x) h e = absurd (cc e)
body_fresh a n op g (Ok l) h e = why_fresh a n op g l (first_why g a.size op l) h e

one_fresh : (a : Answer) (n : ℕ) (op : CallOp) (gs : List LayoutSegment) (h : Held) → one_layout a n op gs ≡ Ok h → IsFresh n h
one_fresh a n op [] h e = absurd (cc e)
one_fresh a n op (g ∷ []) h e = body_fresh a n op (reach_of a.size op g) (whole layout_in g.body) h e
one_fresh a n op (g ∷ f ∷ gs) h e = absurd (cc e)

-- the grant that the layouts give
pub record IsGiven (o : Option LayoutGetOk) (h : Held) : Type 0 where
  pub ok : LayoutGetOk
  pub given : o ≡ Some ok
  pub fresh : IsFresh (grant_in ok.stateid) h

in_given : (a : Answer) (op : CallOp) (o : Option LayoutGetOk) (h : Held) → in_layouts a op o ≡ Ok h → IsGiven o h
in_given a op None h e = absurd (cc e)
in_given a op (Some ok) h e = record { ok = ok; given = refl; fresh = one_fresh a (grant_in ok.stateid) op ok.layouts h e }

pub taken_given : (a : Answer) (op : CallOp) (h : Held) → taken a op ≡ Ok h → IsGiven (layouts_in a.results) h
unfolding taken
taken_given a op h e = in_given a op (layouts_in a.results) h e
