-- What holds of a fence holds as far as nothing is forged up to the end of the step in which it is over.
use Rattle.std.proofs.Common.{◌≡◌, ◌++◌, ◌∷◌, [], ℕ, List, refl, sym, ap, subst, ◌∙◌, append_assoc}
use Rattle.std.proofs.lemmas.List.{append-nil}
use Rattle.scenario_text.specs.declared.line.Note.TheVariants as note
use Rattle.scenario_text.specs.declared.line.Line.{Line}
use Rattle.scenario_text.specs.declared.line.Line.TheVariants as line
use Rattle.world_history.specs.State.{World}
use Rattle.world_history.specs.Book.{server_after}
use Rattle.world_history.specs.History.{StandsFor, OneEventMore, Lawful, FrontsAreLawful}
use Rattle.world_history.specs.History.Begins.{Nothing}
use Rattle.history_law.specs.Read.{BookIsRead}
use Rattle.history_law.specs.Unforged.{AreUnforged}
use Rattle.history_law.specs.Holder.{UnforgedHolderIsServer}
use Rattle.history_law.specs.Fenced.{IsFenced, noted}
use Rattle.history_law.specs.Fences.{UnforgedAreFenced}
use Rattle.history_law.proofs.Ending.{reached_refuses}
use Rattle.history_law.proofs.InLines.{fenced_behind}

pub whole : (w : World) (h : List Line) → StandsFor w h → Lawful h
whole w h s = record {
  world = w;
  whole = h;
  stands = s;
  last = [];
  begins = Nothing refl;
  lines_are = sym (append-nil h);
}

-- the lines up to the end of the note's step, and those behind it
pub split_at : (h before rest more after : List Line) (number tag : ℕ) → h ≡ noted before number tag after
    → after ≡ rest ++ more → h ≡ noted before number tag rest ++ more
split_at h before rest more after number tag is cut =
    is ∙ ap (noted before number tag) cut
    ∙ sym (append_assoc before (line.Note number (note.Fenced tag) ∷ rest) more)

pub unforged_are_fenced : BookIsRead → OneEventMore → FrontsAreLawful → UnforgedHolderIsServer → UnforgedAreFenced
unforged_are_fenced read further fronts own w h s written before after number tag is =
    let e = fenced_behind read further number tag w h s written before after is in
    let front : List Line = noted before number tag e.rest in
    let split : h ≡ front ++ e.more = split_at h before e.rest e.more after number tag is e.cut in
    let lawful : Lawful front = fronts front e.more (subst Lawful split (whole w h s)) in
    let fenced : AreUnforged front → IsFenced (server_after front).files front number tag =
    λ fair. e.holds (own front lawful fair) in (
      record { rest = e.rest; more = e.more; cut = e.cut; of_step = e.of_step; ends = e.ends; holds = fenced },
      λ tag_fits fair at i there object_fits middle later l cut bytes c j read own_object.
          reached_refuses h (whole w h s) front middle later l (split ∙ ap (λ (ls : List Line). front ++ ls) cut) at.drive
          at.object tag object_fits tag_fits ((fenced fair).raised at i there) bytes c j read own_object,
    )
