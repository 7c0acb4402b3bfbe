-- The last reply that a file's job awaits: what is so of the piece that the job is behind then.
use Rattle.std.proofs.Common.{◌≡◌, ◌||◌, ◌<◌, ◌+◌, ℕ, Bool, true, List, [], ◌∷◌, get_or, Some, refl, sym, ap, subst, ◌∙◌, inl, inr, arith}
use Rattle.data_map.specs.Striping.{offset_of}
use Rattle.osd_commands.specs.declared.replies.Reply.{Reply}
use Rattle.osd_lists.specs.declared.node.Node.TheVariants as node
use Rattle.scenario_text.specs.declared.line.Line.{Line}
use Rattle.server_rules.specs.Files.{file_at}
use Rattle.server_rules.specs.History.{Hears}
use Rattle.server_rules.specs.Laws.{In}
use Rattle.server_rules.specs.Messages.{Replies}
use Rattle.server_rules.specs.Pieces.{stores}
use Rattle.server_rules.specs.Replies.{Done, answers, hearing, others, heard_with}
use Rattle.server_rules.proofs.Members.{in_either, in_front, in_behind}
use Rattle.world_history.specs.ServerNames.{File, Piece, Target, Job, Work, Fetches, Stores, Gathers, Awaited, Heard}
use Rattle.world_history.specs.State.{World, at_number}
use Rattle.history_law.specs.Moments.{IsMoment}
use Rattle.history_law.specs.Said.{IsHeardByServer}
use Rattle.history_law.proofs.Hearing.{done_is_done}
use Rattle.fence_law.specs.State.{State}
use Rattle.file_simulation.specs.Claim.{IsOfScenario}
use Rattle.file_simulation.specs.Components.{has_failed}
use Rattle.file_simulation.specs.Jobs.{IsRow, AreRows, RowsIn, AreDone, JobIs}
use Rattle.file_simulation.specs.Relation.{IsRelated}
use Rattle.relation_law.specs.Awaiting as awaiting
use Rattle.relation_law.specs.DriveHearing.{IsLaidOut}
use Rattle.relation_law.proofs.OwnedBefore.{OwnedLaws, fits_in}
use Rattle.headline_law.specs.OweAsking.{ReadsAll, AreInside}
use Rattle.headline_law.specs.ServerEnds.{IsSourced}
use Rattle.headline_law.specs.TargetLaws.{IsAskedOrHeard, OfEachSource}
use Rattle.headline_law.proofs.DoneLast.{in_files, alone_in, last_stands}
use Rattle.headline_law.proofs.OweFilled.{filled_at, row_found}
use Rattle.headline_law.proofs.OweRows.{RowsAre, read_byte}
use Rattle.headline_law.proofs.OweWalk.{Settles, done_more, rows_stand}
use Rattle.headline_law.proofs.RowsNow.{heard_now}
use Rattle.headline_law.proofs.TargetBefore.{none_other, of_sources, replica_below}
use Rattle.headline_law.proofs.TargetRows.{IsHeard, AreHeardRows}
use Rattle.headline_law.proofs.TargetSources.{has_source}

module _ (laws : OwnedLaws) (w : World) (h : List Line) (moment : IsMoment w h) (scenario : IsOfScenario h) (s : State)
    (f : File) (there : file_at w.server.files f.kept.number ≡ Some f) (related : IsRelated s w f) (laid : IsLaidOut f)
    (j : Job) (runs : f.job ≡ Some j) (now drive : ℕ) (r : Reply)
    (heard : IsHeardByServer w (Hears now (node.Drive drive) (Replies r))) (a : Awaited) (awaits : In a j.awaited)
    (answer : answers drive r a ≡ true) (done : hearing f.kept a r ≡ Done)
    (last : others j.awaited a.command.nonce ≡ []) where
  -- nothing else is awaited
  one : (b : Awaited) → In b j.awaited → b ≡ a
  one b i =
      alone_in laws w h moment scenario s f there related laid j runs b a i awaits
      (none_other j.awaited a.command.nonce last b i)

  -- each component of which the job awaited or had heard something was heard
  all_heard : (n : ℕ) → IsAskedOrHeard j n → IsHeard (heard_with j a r) n
  all_heard n (inl (b, i, is)) = (
    record { component = a.component; payload = r.payload },
    in_behind _ j.heard _ (inl refl),
    ap (λ (y : Awaited). y.component) (sym (one b i)) ∙ is,
  )
  all_heard n (inr (x, i, is)) = (x, in_front x j.heard _ i, is)

  asked_in : (b : Awaited) → In b j.awaited → (work : Work) → j.work ≡ work → awaiting.IsAskedIn f.kept work b
  asked_in b i work is =
      subst (λ (y : Work). awaiting.IsAskedIn f.kept y b) is
      ((subst (awaiting.FitsIn f.kept) runs
      (fits_in laws w h moment scenario f (in_files laws w h moment scenario s f there related laid))).asked b i)

  rows_in : (work : Work) → j.work ≡ work → RowsIn s w f j work
  rows_in work is = subst (RowsIn s w f j) is ((subst (JobIs s w f) runs related.jobs.job).rows)

  module _ (p : Piece) (rows : AreRows s w f j p)
      (asked : (b : Awaited) → In b j.awaited → awaiting.IsRow f.kept.map f.kept.components p b) where
    -- each row is as the machine has it
    heard_rows : AreHeardRows s f.kept.map p (heard_with j a r)
    heard_rows x i = elim (in_either x j.heard _ i) [
      | inl old ↦ rows.heard x old
      | inr (inl new) ↦
          subst (λ (y : Heard). IsRow s y.component (offset_of f.kept.map p.stripe p.column) p.count y.payload) (sym new)
          (heard_now laws w h moment scenario f (in_files laws w h moment scenario s f there related laid) s j runs p rows
          asked a now drive r awaits heard answer (done_is_done f.kept a r done))
      | inr (inr no_more) ↦ absurd no_more
    ]

  -- ---- a repair

  -- what the machine has of the file
  settles : Settles s f.kept
  settles = record {
    tag = related.kept.tag;
    layout = related.layout;
    checked = laid.checked;
    many = laid.components;
    lost = λ n at found gone. (related.components n at found).lost
        ∙ ap (λ (b : Bool). b || has_failed (at_number w.drives at.drive)) gone;
  }

  module _ (p : Piece) (ps : List Piece) (short : List ℕ) (todo : AreDone s f (p ∷ ps)) where
    -- it has read a piece in which nothing is to be written
    module _ (is : j.work ≡ Fetches (p ∷ ps) short) (asks : ReadsAll f.kept j p × AreInside f.kept.map (p ∷ ps)) where
      rows_are : RowsAre s f.kept p (heard_with j a r)
      rows_are = record {
        right = asks.0.right;
        rows = λ n of.
            let x = all_heard n (elim (asks.0.each n of) [
              | inl old ↦ inr old
              | inr waits ↦ inl waits
            ]) in
            let y = row_found (heard_with j a r) n p.count x.0 x.1 x.2 in
            let row = heard_rows p (rows_in (Fetches (p ∷ ps) short) is)
            (λ b i. asked_in b i (Fetches (p ∷ ps) short) is) y.0 y.1 in (
              ap s.gone (sym y.2) ∙ row.stands,
              λ c low.
                  ap (λ (xs : List ℕ). get_or xs c 0) y.3 ∙ filled_at y.0.payload p.count c low ∙ row.cells c low
                  ∙ ap (λ (m : ℕ). s.cell m (offset_of f.kept.map p.stripe p.column + c)) y.2,
            );
      }

      -- no drive's lanes matter here
      pub fetched : (nonce : ℕ) → stores f.kept p (heard_with j a r) nonce ≡ [] → AreDone s f ps
      fetched nonce none =
          done_more s f p ps todo
          (λ x has not_short. (
            read_byte f.kept.map f.kept.components s.cell,
            rows_stand (Unit {0}) s (record w { drives = [] }) 0 (λ at n past. absurd past) f.kept settles p
                (asks.1 p (inl refl)) (heard_with j a r) rows_are nonce none x has,
          ))

    -- it has written one
    pub stored : (broken : Bool) → j.work ≡ Stores (p ∷ ps) short broken → AreDone s f ps
    stored broken is =
        done_more s f p ps todo
        (λ x has not_short. (
          related.jobs.owe.bytes,
          last_stands laws w h moment scenario s f there related laid p (record {
            job = j;
            runs = runs;
            todo = ps;
            short = short;
            is_broken = broken;
            work = is;
            now = now;
            drive = drive;
            reply = r;
            sent = (heard.0.number, heard.0.posted, heard.0.there, heard.0.receiver, sym heard.2, heard.3);
            awaited = a;
            awaits = awaits;
            answers_it = answer;
            done = done;
            last = last;
          }) x has,
        ))

  -- ---- a rebuild

  -- it has read the sources of a piece
  pub gathered : (t : Target) (p : Piece) (ps : List Piece) → j.work ≡ Gathers t (p ∷ ps) → t.component < f.kept.map.comps
      → OfEachSource (IsAskedOrHeard j) f.kept t → IsSourced s f t
  gathered t p ps is inside sources =
      let x = has_source s f.kept t p (heard_with j a r) laid.checked
      (heard_rows p (rows_in (Gathers t (p ∷ ps)) is) (λ b i. asked_in b i (Gathers t (p ∷ ps)) is))
      (λ n position is_.
      let low = replica_below f.kept.map position f.kept.components 0 n is_ in
      omega (arith, low, laid.components)) inside
      (of_sources (IsAskedOrHeard j) (IsHeard (heard_with j a r)) f.kept t all_heard _ sources) in
      λ z low. (x.0, x.1 z)
