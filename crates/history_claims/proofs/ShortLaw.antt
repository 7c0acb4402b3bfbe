-- Right behind each note that a repair is over, what the repair left short it counted, and it is short by the book.
use Rattle.std.proofs.Common.{◌≡◌, ◌==◌, ◌++◌, ℕ, true, List, [], ◌∷◌, find, Option, Some, None, sym, ap, subst, ◌∙◌, inl, inr}
use Rattle.std.specs.List.{fold}
use Rattle.std.proofs.lemmas.Bool.{cases_Bool, eqb-true}
use Rattle.std.proofs.lemmas.List.Sums.{fold-append}
use Rattle.scenario_text.specs.declared.line.Note.TheVariants as note
use Rattle.scenario_text.specs.declared.line.Line.{Line}
use Rattle.scenario_text.specs.declared.line.Line.TheVariants as line
use Rattle.server_rules.specs.Files.{Step, file_at}
use Rattle.server_rules.specs.History.{Input}
use Rattle.server_rules.specs.Laws.{In}
use Rattle.world_history.specs.ServerNames.{Server, File, Mended}
use Rattle.world_history.specs.Reading.{Step as ToldStep, steps_of}
use Rattle.world_history.specs.Book.{ServerSeen, sees_server, server_at_first, server_after, placed_in, input_at, step_by, server_step, server_behind, book_of}
use Rattle.world_history.specs.Calm.{first_seen, mended_in}
use Rattle.component_law.specs.Distinct.{AreDistinct}
use Rattle.component_law.specs.Seeing.{SeenIsSound}
use Rattle.component_law.specs.Sound.{IsSound}
use Rattle.component_law.proofs.NamedLines.{are_named}
use Rattle.component_law.proofs.SeenServer.{seen_server}
use Rattle.cause_law.proofs.Changing.{at_place}
use Rattle.file_simulation.specs.Claim.{EndsRepair}
use Rattle.history_law.specs.Read.{AreWritten}
use Rattle.history_claims.specs.LeftShort.{LeftShort, LeavesShort, LeftShortAt, RepairsLeaveShort}
use Rattle.history_claims.proofs.ShortSteps.{step_right, all_right, first_right}

-- the first repair of the file is one of these
among : (n : ℕ) (ms : List Mended) (r : Mended) → find (λ (x : Mended). x.file == n) ms ≡ Some r → In r ms × (r.file ≡ n)
among n [] r e = absurd (cc e)
among n (x ∷ ms) r e = elim (cases_Bool (x.file == n)) [
  | inl t ↦
      let same : x ≡ r = cc (rw t at e) in
      (inl (sym same), ap (λ (q : Mended). q.file) (sym same) ∙ eqb-true x.file n t)
  | inr z ↦ (let a = among n ms r (rw z at e) in (inr a.0, a.1))
]

module _ (seen : SeenIsSound) (h : List Line) (file : ℕ) (written : AreWritten h) where
  distinct : AreDistinct (server_after h).files
  distinct =
      (subst IsSound (ap (λ (s : ServerSeen). s.server) (seen_server first_seen (steps_of h)))
      (seen h (are_named h written))).distinct

  module _ (r : Mended) (f : File) (ends : EndsRepair h file r) (found : book_of h file ≡ Some f) where
    abbrev there : ServerSeen
    there = fold sees_server server_at_first ends.earlier

    -- the server behind the lines is that behind the last step
    behind : server_after h ≡ server_behind there.server (server_step there ends.last)
    behind =
        ap (λ (ts : List ToldStep). (fold sees_server server_at_first ts).server) ends.steps
        ∙ ap (λ (s : ServerSeen). s.server) (fold-append sees_server server_at_first ends.earlier (ends.last ∷ []))

    by_step : (o : Option Input) → find (λ (x : Mended). x.file == file)
        (mended_in (step_by there.server (placed_in ends.last.rest) o)) ≡ Some r
        → AreDistinct (server_behind there.server (step_by there.server (placed_in ends.last.rest) o)).files
        → file_at (server_behind there.server (step_by there.server (placed_in ends.last.rest) o)).files file ≡ Some f
        → LeftShort f.kept r
    by_step None e apart is = absurd (cc e)
    by_step (Some i) e apart is =
        let all = all_right server_at_first ends.earlier first_right in
        let right = (step_right there.server all (placed_in ends.last.rest) i).1 in
        let a = among file _ r e in
        let it = right r a.0 in
        let here = at_place _ it.0 apart it.1 in
        let number : it.0.kept.number ≡ file = sym it.2 ∙ a.1 in
        let same : Some it.0 ≡ Some f = sym here ∙ ap (file_at _) number ∙ is in
        subst (λ (g : File). LeftShort g.kept r) (one it.0 f same) it.3
      where
        one : (x y : File) → Some x ≡ Some y → x ≡ y
        one x y q = cc q

    left_short : LeftShort f.kept r
    left_short =
        by_step (input_at there ends.last.head) ends.found
        (subst (λ (s : Server). AreDistinct s.files) behind distinct)
        (ap (λ (s : Server). file_at s.files file) (sym behind) ∙ found)

  pub leaves_short : LeavesShort h file
  leaves_short r f ends found = left_short r f ends found

at_line : SeenIsSound → (before : List Line) (l : Line) → LeftShortAt before l
at_line seen before (line.Note file (note.Repaired stripes short)) =
    λ written. leaves_short seen (before ++ line.Note file (note.Repaired stripes short) ∷ []) file written
at_line seen before l = tt

pub repairs_leave_short : SeenIsSound → RepairsLeaveShort
repairs_leave_short seen h lawful before l after is = at_line seen before l
