-- If a machine shows a file, each stripe that isn't disturbed is whole.
use Rattle.std.proofs.Common.{◌≡◌, ℕ, ◌<◌, true, false, List, length, Some, slice_get, ap, subst, ◌∙◌, lt-ltb, arith}
use Rattle.std.proofs.lemmas.Option.{slice_get_within}
use Rattle.data_map.specs.Check.{IsChecked}
use Rattle.data_map.specs.Striping.{offset_of}
use Rattle.server_rules.specs.Files.{file_at}
use Rattle.scenario_text.specs.declared.line.Line.{Line}
use Rattle.world_history.specs.ServerNames.{File, Component}
use Rattle.world_history.specs.Stripes.{is_disturbed}
use Rattle.world_history.specs.Calm.{moment_of}
use Rattle.fence_law.specs.State.{State}
use Rattle.fence_law.specs.Law.{IsWholeAt, byte_before}
use Rattle.plan_law.specs.FileLayout.{stripe_of_column, has_component}
use Rattle.plan_law.specs.Layouts.{ColumnsHaveStripes}
use Rattle.file_simulation.specs.Claim.{IsWhole, HoldsStripe}
use Rattle.file_simulation.specs.Showing.{Pairs, ShowsLines, ShowsFile}
use Rattle.file_simulation.proofs.ShownCells.{cell_holds}
use Rattle.file_simulation.proofs.Placing.{column_here, word_here}

-- a file has a component for each that its map has
there : (f : File) (k : ℕ) (at : Component) → length f.kept.components ≡ f.kept.map.comps →
    slice_get f.kept.components k ≡ Some at → has_component f.kept.map k ≡ true
there f k at long got = lt-ltb k f.kept.map.comps (subst (λ n. k < n) long (slice_get_within f.kept.components k at got))

pub stripe_holds : (h : List Line) (s : State) (f : File) (pairs : Pairs) → ColumnsHaveStripes →
    ShowsLines h s f.kept.number pairs → IsWholeAt s →
    file_at (moment_of h).server.files f.kept.number ≡ Some f → IsChecked f.kept.map →
    length f.kept.components ≡ f.kept.map.comps → (st : ℕ) → is_disturbed (moment_of h) f.kept.number st ≡ false →
    HoldsStripe h f st (byte_before s s.count)
stripe_holds h s f pairs columns shows whole found ch long st quiet = λ c b k at cl bl got here kept.
    let shown : ShowsFile h s pairs f = shows.shown f found
    in let cell : s.layout.is_cell k (offset_of f.kept.map st b) ≡ true =
    ap (λ y. y.is_cell k (offset_of f.kept.map st b)) shown.layout ∙ there f k at long got
    in let column : stripe_of_column f.kept.map (s.layout.cell_col k (offset_of f.kept.map st b)) ≡ st =
    ap (λ y. stripe_of_column f.kept.map (y.cell_col k (offset_of f.kept.map st b))) shown.layout
    ∙ column_here f.kept.map st c b k columns ch cl bl here
    in cell_holds h s f pairs shows whole found st k (offset_of f.kept.map st b) at quiet got cell column kept
    ∙ ap (λ y. y.word k (offset_of f.kept.map st b) (byte_before s s.count)) shown.layout
    ∙ word_here f.kept.map st c b k (byte_before s s.count) ch cl bl here

pub is_whole : (h : List Line) (s : State) (f : File) (pairs : Pairs) → ColumnsHaveStripes →
    ShowsLines h s f.kept.number pairs → IsWholeAt s →
    file_at (moment_of h).server.files f.kept.number ≡ Some f → IsChecked f.kept.map →
    length f.kept.components ≡ f.kept.map.comps → (st : ℕ) → is_disturbed (moment_of h) f.kept.number st ≡ false →
    IsWhole h f.kept.number st
is_whole h s f pairs columns shows whole found ch long st quiet = record {
  bytes = byte_before s s.count;
  among = λ l. whole.among _ shows.log l;
  held = λ g e.
      let same : f ≡ g = grind (arith, found, e) in
      subst (λ (x : File). HoldsStripe h x st (byte_before s s.count)) same
      (stripe_holds h s f pairs columns shows whole found ch long st quiet);
}
