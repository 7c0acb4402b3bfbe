-- The grant that a client takes from an answer is one on its call's file.
-- Towards `CallsGoOn` (`specs/Steps.antt`).
use Rattle.std.proofs.Common.{◌≡◌, ℕ, List, [], ◌∷◌, Option, Some, None, Result, Ok, Err, sym, ap}
use Rattle.layout_types.specs.declared.err.LayoutErr.{LayoutErr}
use Rattle.layout_types.specs.declared.layout.Layout.{Layout}
use Rattle.layout_types.specs.Grammar.{whole}
use Rattle.layout_types.specs.Reading.{layout_in}
use Rattle.layout_ops.specs.declared.messages.Answer.{Answer}
use Rattle.layout_ops.specs.declared.results.LayoutSegment.{LayoutSegment}
use Rattle.layout_ops.specs.declared.results.LayoutGetOk.{LayoutGetOk}
use Rattle.world_history.specs.ClientNames.{CallOp, Held, Reach, Listed, Why}
use Rattle.client_rules.specs.Calls.{file_of}
use Rattle.client_rules.specs.Layouts.{first_why, fresh, with_listed, unless_why, with_body, reach_of, one_layout, in_layouts, taken}
use Rattle.client_rules.specs.Requests.{grant_in}
use Rattle.client_rules.specs.Results.{layouts_in}
use Rattle.history_law.proofs.Taking.{enough_same}

listed_file : (a : Answer) (n : ℕ) (op : CallOp) (g : Reach) (l : Layout) (o : Option (List Listed)) (h : Held)
    → with_listed a n op g l o ≡ Ok h → h.file ≡ file_of op
listed_file a n op g l None h e = absurd (cc e)
listed_file a n op g l (Some ls) h e =
    ap (λ (x : Held). x.file) (sym (enough_same (fresh (file_of op) n a.size g l.olo_map ls) h op e))

why_file : (a : Answer) (n : ℕ) (op : CallOp) (g : Reach) (l : Layout) (w : Option Why) (h : Held)
    → unless_why a n op g l w ≡ Ok h → h.file ≡ file_of op
why_file a n op g l (Some w) h e = absurd (cc e)
why_file a n op g l None h e = listed_file a n op g l _ h e

body_file : (a : Answer) (n : ℕ) (op : CallOp) (g : Reach) (r : Result Layout LayoutErr) (h : Held)
    → with_body a n op g r ≡ Ok h → h.file ≡ file_of op
body_file a n op g (Err x) h e = absurd (cc e)
body_file a n op g (Ok l) h e = why_file a n op g l (first_why g a.size op l) h e

one_file : (a : Answer) (n : ℕ) (op : CallOp) (gs : List LayoutSegment) (h : Held) → one_layout a n op gs ≡ Ok h
    → h.file ≡ file_of op
one_file a n op [] h e = absurd (cc e)
one_file a n op (g ∷ []) h e = body_file a n op (reach_of a.size op g) (whole layout_in g.body) h e
one_file a n op (g ∷ f ∷ gs) h e = absurd (cc e)

in_file : (a : Answer) (op : CallOp) (o : Option LayoutGetOk) (h : Held) → in_layouts a op o ≡ Ok h → h.file ≡ file_of op
in_file a op None h e = absurd (cc e)
in_file a op (Some ok) h e = one_file a (grant_in ok.stateid) op ok.layouts h e

pub taken_file : (a : Answer) (op : CallOp) (h : Held) → taken a op ≡ Ok h → h.file ≡ file_of op
unfolding taken
taken_file a op h e = in_file a op (layouts_in a.results) h e
