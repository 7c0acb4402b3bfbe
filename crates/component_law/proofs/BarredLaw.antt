-- Behind the end of a fence the objects have its tag, and what was given before is of an earlier one: so it isn't
-- performed.
use Rattle.std.proofs.Common.{◌≡◌, ℕ, ◌≤◌, ◌<◌, ◌^◌, ◌∷◌, ◌++◌, List, false, Some, Ok, refl, sym, ap, subst, ◌∙◌, arith, inl}
use Rattle.layout_ops.specs.declared.envelope.Envelope.TheVariants as envelope
use Rattle.layout_ops.specs.declared.results.LayoutGetOk.{LayoutGetOk}
use Rattle.layout_ops.specs.declared.results.LayoutGetResult.TheVariants as get
use Rattle.layout_ops.specs.declared.results.Results.{Results}
use Rattle.layout_ops.specs.declared.results.Results.TheVariants as results
use Rattle.layout_ops.specs.Reading.{envelope_of}
use Rattle.layout_ops.proofs.Whole.{all_again}
use Rattle.osd_capability.specs.declared.layout.Capability.{Capability}
use Rattle.client_rules.specs.Results.{layouts_in}
use Rattle.server_rules.specs.Laws.{In}
use Rattle.server_rules.proofs.Members.{in_behind, one_in}
use Rattle.scenario_text.specs.declared.line.Note.TheVariants as note
use Rattle.scenario_text.specs.declared.line.Line.{Line}
use Rattle.scenario_text.specs.declared.line.Line.TheVariants as line
use Rattle.world_history.specs.ServerNames.{Server, File}
use Rattle.world_history.specs.State.{World}
use Rattle.world_history.specs.Plans.{due}
use Rattle.world_history.specs.Sending.{Move, move}
use Rattle.world_history.specs.Reading.{is_head, sent_in}
use Rattle.world_history.specs.Book.{ServerSeen, server_after}
use Rattle.world_history.specs.History.{StandsFor, OneEventMore, Lawful, FrontsAreLawful}
use Rattle.history_law.specs.BookMoments.{IsMoment, plan_at, lines_in}
use Rattle.history_law.specs.Read.{BookIsRead}
use Rattle.history_law.specs.StepEnds.{BehindStep}
use Rattle.history_law.proofs.Exact.{same_ok, capability_read}
use Rattle.history_law.proofs.StepEnds.{at_step_ends}
use Rattle.history_law.specs.Reaching.{HolderIsServer}
use Rattle.history_law.specs.Unforged.{AreUnforged}
use Rattle.history_law.specs.Holder.{UnforgedHolderIsServer}
use Rattle.history_law.specs.Fenced.{IsFenced, noted, FencesEnd, ReachedRefuses}
use Rattle.history_law.proofs.Ending.{next_moment}
use Rattle.history_law.proofs.FencingFences.{whole, split_at}
use Rattle.exchange_law.specs.Files.{ComponentFits, KeptFits}
use Rattle.exchange_law.specs.Text.{AreOfText, AreFew}
use Rattle.exchange_law.proofs.CountGrowing.{fewer, text_front}
use Rattle.exchange_law.proofs.CountMoments.{at_moment}
use Rattle.exchange_law.proofs.CountStepping.{FileFits}
use Rattle.exchange_law.proofs.CountWorlds.{text_written}
use Rattle.exchange_law.proofs.Fitting.{IsFitting, all_fitting}
use Rattle.component_law.specs.Barred.{WasGivenFor, GivenIsBarred}
use Rattle.component_law.specs.Live.{AreShort}
use Rattle.component_law.specs.Given.{IsOlder, GivesOlder, OlderIn, SpellsOlder, GrantsAreOlder}
use Rattle.component_law.proofs.Aging.{IsLow}
use Rattle.component_law.proofs.Bodies.{low_now}

-- ---- at the end of the step

-- the file is fenced as far as what is performed under the server's holder is its own, and numbers are low
record IsLowThen (number tag : ℕ) (h : List Line) : Type 0 where
  fenced : HolderIsServer h → IsFenced (server_after h).files h number tag
  low : IsLow (server_after h)

short_front : (xs ys : List Line) → AreShort (xs ++ ys) → AreShort xs
short_front xs ys s = record { text = text_front xs ys s.text; few = fewer xs ys s.few }

-- ---- what was given

older_given : (Short : Type 0) (tag : ℕ) (r : Results) (given : LayoutGetOk) → layouts_in r ≡ Some given
    → GivesOlder Short tag r → IsOlder Short tag given
older_given Short tag (results.LayoutGet (get.Granted ok)) given e k =
    let same : ok ≡ given = cc e in subst (IsOlder Short tag) same k
older_given Short tag (results.LayoutGet (get.TryLater signal)) given e k = absurd (cc e)
older_given Short tag (results.LayoutGet (get.Refused status)) given e k = absurd (cc e)
older_given Short tag (results.LayoutCommit r) given e k = absurd (cc e)
older_given Short tag (results.LayoutReturn r) given e k = absurd (cc e)

-- is of an earlier tag
given_older : (before : List Line) (number tag : ℕ) (c : Capability) → AreShort before
    → (g : WasGivenFor (sent_in before) number c)
    → SpellsOlder before number tag g.given.message.bytes → c.tag < tag
given_older before number tag c short g s =
    let l = g.given.lists in
    let again : envelope_of g.given.message.bytes ≡ Ok s.message =
    ap envelope_of s.bytes_are ∙ all_again s.message (s.fits short) in
    let same : s.message ≡ envelope.Answer l.answer =
    same_ok s.message (envelope.Answer l.answer) (envelope_of g.given.message.bytes) again l.read in
    let o : IsOlder (AreShort before) tag l.given =
    older_given (AreShort before) tag l.answer.results l.given l.gives
    (subst (OlderIn (AreShort before) number tag) same s.older g.file_is) in
    let x = capability_read g.given.message.bytes g.given.component g.credential l o.drives o.file o.grant o.is
    (o.numbers short) c g.is in
    let tag_is : c.tag ≡ o.file.tag = ap (λ (y : Capability). y.tag) x.is in
    omega (arith, tag_is, o.older)

module _ (read : BookIsRead) (more : OneEventMore) (end : FencesEnd) (refuses : ReachedRefuses)
    (fronts : FrontsAreLawful) (holder : UnforgedHolderIsServer) (older : GrantsAreOlder) where
  module _ (number tag : ℕ) where
    ends_low : (w : World) (h : List Line) (k : IsMoment w h) (m : Move) → due (plan_at k) w ≡ Some m.action
        → AreShort (h ++ lines_in w m) → (front : List Line) (l : Line) (after : List Line)
        → lines_in w m ≡ front ++ l ∷ after → l ≡ line.Note number (note.Fenced tag)
        → IsLowThen number tag (h ++ lines_in w m)
    ends_low w h k m d short front l after there is =
        let lines : List Line = h ++ lines_in w m in
        let next = next_moment w h k m d in
        let book : server_after lines ≡ (move w m).world.server =
        ap (λ (s : ServerSeen). s.server) (read (move w m).world lines next (text_written lines short.text)) in
        record {
          fenced =
              λ own.
              subst (λ (s : Server). IsFenced s.files lines number tag) (sym book)
              (end w h k m d own number tag
              (subst (In (line.Note number (note.Fenced tag))) (sym there)
              (in_behind (line.Note number (note.Fenced tag)) front (l ∷ after) (inl (sym is)))));
          low =
              subst IsLow (sym book)
              (low_now (move w m).world lines (at_moment IsFitting all_fitting (move w m).world lines next) short);
        }

    behind_low : (w : World) (h : List Line) → StandsFor w h → AreShort h → (before after : List Line)
        → h ≡ noted before number tag after
        → BehindStep (λ front lines. IsLowThen number tag lines) before (line.Note number (note.Fenced tag)) after
    behind_low w h s short before after is =
        at_step_ends AreShort (λ l. l ≡ line.Note number (note.Fenced tag)) (λ l front lines. IsLowThen number tag lines)
        (record {
          fronts = short_front;
          tells = λ l same. subst (λ (x : Line). is_head x ≡ false) (sym same) refl;
          ends = ends_low;
        }) more w h s short before (line.Note number (note.Fenced tag)) after is refl

  pub given_is_barred : GivenIsBarred
  given_is_barred w h s text few before after number tag is =
      let e = behind_low number tag w h s (record { text = text; few = few }) before after is in
      let front : List Line = noted before number tag e.rest in
      let split : h ≡ front ++ e.more = split_at h before e.rest e.more after number tag is e.cut in
      let lawful : Lawful front = fronts front e.more (subst Lawful split (whole w h s)) in
      let fenced : AreUnforged front → IsFenced (server_after front).files front number tag =
      λ fair. e.holds.fenced (holder front lawful fair) in
      let behind : List Line = line.Note number (note.Fenced tag) ∷ after in
      let short : AreShort before = record {
        text = text_front before behind (subst AreOfText is text);
        few = fewer before behind (subst AreFew is few);
      } in
      let fits_so : (fair : AreUnforged front)
      → KeptFits (server_after front).next_object (fenced fair).file.kept =
      λ fair.
      (one_in (FileFits (server_after front).next_object) (server_after front).files (fenced fair).file e.holds.low.fits.files
      (fenced fair).there).0 in
      let objects : (server_after front).next_object ≤ 2 ^ 63 = e.holds.low.objects in (
        record { rest = e.rest; more = e.more; cut = e.cut; of_step = e.of_step; ends = e.ends; holds = fenced },
        λ fair at i there middle later l cut bytes c j reads own_object given.
            let fits : KeptFits (server_after front).next_object (fenced fair).file.kept = fits_so fair in
            let tag_fits : tag < 2 ^ 32 = omega (arith, fits.tag, (fenced fair).tag_is) in
            let object : at.object < (server_after front).next_object =
            (one_in (ComponentFits (server_after front).next_object) (fenced fair).file.kept.components at fits.components
            i).object in
            let object_fits : at.object < 2 ^ 64 = omega (arith, object, objects) in
            let late : tag ≤ c.capability.tag =
            refuses h (whole w h s) front middle later l (split ∙ ap (λ (ls : List Line). front ++ ls) cut) at.drive at.object
            tag object_fits tag_fits ((fenced fair).raised at i there) bytes c j reads own_object in
            let early : c.capability.tag < tag =
            given_older before number tag c.capability short given
            (older w h s (text_written h text) before after number tag is given.given.number given.client
            given.given.message given.given.there given.given.sender given.given.receiver) in
            omega (arith, late, early),
      )
