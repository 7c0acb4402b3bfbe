use Rattle.std.specs.Prelude.{ℕ, List, [], ◌∷◌, ◌≡◌, ◌++◌, drop}
use Rattle.std.proofs.Common.{refl, sym, ap, ◌∙◌, arith}
use Rattle.std.proofs.lemmas.List.{append-nil, drop_all}
use Rattle.server_rules.specs.declared.files.Component.{Component}
use Rattle.server_entries.specs.declared.entry.Entry.{Entry}
use Rattle.server_differences.specs.FileDifferences.{components_entries}
use Rattle.server_differences.proofs.file_differences.add_components.Goals as goal

-- no components have no entries
none_left : (n k : ℕ) (ws : List Component) → components_entries n k ws [] ≡ []
none_left n k [] = refl
none_left n k (w ∷ ws) = refl

pub returns : goal.returns
returns c =
    let n = c.args.file in
    let k = c.loop-k.k in
    let ws = drop k c.args.old.now in
    let left : components_entries n k ws (drop k c.args.components.now) ≡ [] =
    ap (λ (cs : List Component). components_entries n k ws cs) (drop_all k c.args.components.now c.loop-k-test.false)
    ∙ none_left n k ws in
    sym (append-nil c.loop-k.entries) ∙ ap (λ (es : List Entry). c.loop-k.entries ++ es) (sym left) ∙ c.loop-k.invariant
