-- Over all moves: what fences wait for, and what their ends tell.
use Rattle.std.proofs.Common.{◌≡◌, ℕ, ◌+◌, ◌++◌, ◌∷◌, [], List, true, sym, ap, subst, ◌∙◌, inl, inr}
use Rattle.std.proofs.lemmas.List.{append-nil}
use Rattle.osd_lists.specs.declared.node.Node.TheVariants as node
use Rattle.server_rules.specs.Laws.{In}
use Rattle.server_rules.specs.Messages.{Replies as RepliesTo}
use Rattle.server_rules.specs.History.{Input, Hears, step}
use Rattle.scenario_text.specs.declared.line.Note.TheVariants as note
use Rattle.scenario_text.specs.declared.line.Line.{Line}
use Rattle.scenario_text.specs.declared.line.Line.TheVariants as line
use Rattle.world_history.specs.ServerNames.{Server, File}
use Rattle.world_history.specs.State.{World}
use Rattle.world_history.specs.Moves.{acts}
use Rattle.world_history.specs.Sending.{move, sent_lines}
use Rattle.world_history.specs.Handed.{Post}
use Rattle.world_history.proofs.Always.{opening, IsKept}
use Rattle.history_law.proofs.Each.{EachBehind, each_front}
use Rattle.history_law.proofs.DriveEvents.{IsRead, kept}
use Rattle.history_law.proofs.Spending.{all_spend}
use Rattle.history_law.specs.Fencing.{AreFencing, IsHeardTruly, AllRaised, FencesHold}
use Rattle.history_law.proofs.JobSteps.{fences_wait}
use Rattle.history_law.specs.Reaching.{reached_in, OwnAt}
use Rattle.history_law.proofs.FencingMoves.{IsSent, Moved, Idles, Goes, TellsNone, moved}
use Rattle.history_law.proofs.Numbers.{Numbers, numbers_move, numbers_first}
use Rattle.history_law.proofs.Reaching.{reached_stays}
use Rattle.history_law.proofs.Heard.{heard_reached}

-- The drives are read off the lines, nonces don't repeat, and fences wait for what isn't raised, as far as what is
-- performed under the server's holder is its own.
pub record Holds (w : World) (h : List Line) : Type 0 where
  pub read : IsRead w h
  pub numbers : Numbers w
  pub fences : EachBehind OwnAt [] h → AreFencing (reached_in h) w.server.files

-- ---- a move

module _ (w : World) (h more : List Line) (k : Holds w h) (v : World) (read : IsRead v (h ++ more))
    (own : EachBehind OwnAt [] (h ++ more)) where
  own_before : EachBehind OwnAt [] h
  own_before = each_front OwnAt [] h more own

  stays : (drive object tag : ℕ) → reached_in h drive object (tag + 1) ≡ true
      → reached_in (h ++ more) drive object (tag + 1) ≡ true
  stays = reached_stays (h ++ more) h more [] (all_spend (h ++ more) read.lines)
      (ap (λ (l : List Line). h ++ l) (sym (append-nil more)))

  -- what was reached before the move is so behind it
  lifted : AreFencing (reached_in (h ++ more)) w.server.files
  lifted f i e =
      let was = k.fences own_before f i e in
      record {
        raises = was.raises;
        each = λ at j there. elim (was.each at j there) [
          | inl asked ↦ inl asked
          | inr reached ↦ inr (stays at.drive at.object f.kept.tag reached)
        ];
      }

  heard_truly : (i : Input) → IsSent w i → IsHeardTruly (reached_in (h ++ more)) w.server i
  heard_truly i sent = record {
    alone = k.numbers.alone;
    tells = λ now d r is low f j a l raises answer done.
        let s : IsSent w (Hears now (node.Drive d) (RepliesTo r)) = subst (IsSent w) is sent in
        stays a.drive a.command.object f.kept.tag
        (heard_reached w h k.read k.numbers own_before low d s.0 s.1 s.2 s.3 s.4 r s.5 f j a l raises answer done);
  }

  fences_hold : (chosen : List ℕ) (i : Input) → IsSent w i → FencesHold (reached_in (h ++ more)) (step w.server
      chosen i)
  fences_hold chosen i sent = fences_wait (reached_in (h ++ more)) w.server chosen i lifted (heard_truly i sent)

  fences_on : (ls : List Line) (ps : List Post) → Moved w v ls ps → AreFencing (reached_in (h ++ more)) v.server.files
  fences_on ls ps (Idles server told) =
      subst (λ (s : Server). AreFencing (reached_in (h ++ more)) s.files) (sym server) lifted
  fences_on ls ps (Goes chosen i sent server told) =
      subst (λ (s : Server). AreFencing (reached_in (h ++ more)) s.files) (sym server) (fences_hold chosen i
      sent).fencing

  -- the file of a note that a fence is over
  pub ends_told : (ls : List Line) (ps : List Post) → Moved w v ls ps → (n tag : ℕ)
      → In (line.Note n (note.Fenced tag)) ls
      → (f : File) × In f v.server.files × (f.kept.number ≡ n) × (f.kept.tag ≡ tag)
      × AllRaised (reached_in (h ++ more)) f tag
  ends_told ls ps (Idles server told) n tag i = absurd (told n tag i)
  ends_told ls ps (Goes chosen j sent server told) n tag i =
      let t = told n tag i in
      let e = (fences_hold chosen j sent).fenced t.0 tag t.1 t.3 in
      (e.0, subst (λ (s : Server). In e.0 s.files) (sym server) e.1, e.2 ∙ t.2, e.3, e.4)

-- messages are no notes
pub no_note : (n : ℕ) (ps : List Post) → TellsNone (sent_lines n ps)
unfolding sent_lines
no_note n [] f tag i = i
no_note n (p ∷ ps) f tag (inl e) = cc e
no_note n (p ∷ ps) f tag (inr i) = no_note (n + 1) ps f tag i

-- ---- all moves

pub holds : IsKept Holds
holds = record {
  starts = record { read = kept.starts; numbers = numbers_first; fences = λ own f i e. absurd i };
  opens = λ w h e chosen k allowed.
      let m = opening e chosen in
      let read = kept.opens w h e chosen k.read allowed in
      record {
        read = read;
        numbers = numbers_move w m k.numbers;
        fences = λ own. fences_on w h (line.Event e ∷ (move w m).lines) k (move w m).world read own
            (acts w m.chosen m.action).told (acts w m.chosen m.action).posts (moved w m);
      };
  moves = λ w h r m k due.
      let read = kept.moves w h r m k.read due in
      record {
        read = read;
        numbers = numbers_move w m k.numbers;
        fences = λ own. fences_on w h (move w m).lines k (move w m).world read own
            (acts w m.chosen m.action).told (acts w m.chosen m.action).posts (moved w m);
      };
}
