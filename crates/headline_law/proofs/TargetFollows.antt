-- Behind each whole move the target of a rebuild is as the machine has it.
-- Towards `TargetsFollow` (`specs/Parts.antt`).
use Rattle.std.proofs.Common.{◌≡◌, ◌++◌, ℕ, ◌<◌, false, List, [], ◌∷◌, Option, Some, None, refl, sym, ap, subst, ◌∙◌, arith, inl, inr}
use Rattle.std.proofs.lemmas.Option.{same_Some}
use Rattle.data_map.specs.declared.check.RawMap.{RawMap}
use Rattle.osd_lists.specs.declared.node.Node.TheVariants as node
use Rattle.osd_objects.specs.declared.object.StoredObject.{StoredObject}
use Rattle.scenario_text.specs.declared.line.Line.{Line}
use Rattle.server_rules.specs.Files.{file_at}
use Rattle.server_rules.specs.History.{Input, Hears}
use Rattle.server_rules.specs.Laws.{In}
use Rattle.server_rules.specs.Maps.{group_with}
use Rattle.server_rules.specs.Messages.{Replies, awaited_by}
use Rattle.server_rules.specs.Rebuild.{to_fill}
use Rattle.server_rules.specs.Replies.{heard_with}
use Rattle.world_history.specs.ServerNames.{Server, File, Awaited, Piece, Target, Job, Work, Creates, Fences, Fetches, Stores, Targets, Gathers, Fills, Lengths, Checks}
use Rattle.world_history.specs.Sending.{Move, move}
use Rattle.world_history.specs.State.{World, at_number}
use Rattle.history_law.specs.BookMoments.{lines_in}
use Rattle.history_law.specs.Doing.{input_in}
use Rattle.history_law.specs.Said.{IsHeardByServer}
use Rattle.cause_law.proofs.Answering.{safe_at}
use Rattle.component_law.specs.Objects.{target_in, target_of}
use Rattle.exchange_law.proofs.CountMoments.{reached}
use Rattle.fence_law.specs.State.{State}
use Rattle.fence_law.specs.Law.{byte_before}
use Rattle.plan_law.specs.Pieces.{AreWords as AreWordsOf}
use Rattle.file_simulation.specs.Components.{object_on, has_failed}
use Rattle.file_simulation.specs.Jobs.{HasAllOf, IsInPiece, IsFilled, IsTarget, IsFilling, HasSources, AreWords, TargetIn}
use Rattle.relation_law.specs.Awaiting.{IsAskedIn}
use Rattle.relation_law.specs.Steps.{FollowsWhole, whole_behind}
use Rattle.relation_law.proofs.ComponentsGoOn.{alike}
use Rattle.relation_law.proofs.ComponentsWorld.{awaited_are_sent}
use Rattle.relation_law.proofs.DriveStays.{IsAlike}
use Rattle.relation_law.proofs.FramesFiles.{files_distinct}
use Rattle.relation_law.proofs.FramesParties.{server_rests, server_steps}
use Rattle.relation_law.proofs.OwnedBefore.{held, owns, work_fits}
use Rattle.relation_law.proofs.RequestsHeard.{heard_in}
use Rattle.relation_law.proofs.TargetWalk.{IsOfZeros}
use Rattle.headline_law.specs.TargetLaws.{todo_in}
use Rattle.headline_law.specs.Parts.{PartsBehind, TargetsFollow}
use Rattle.headline_law.specs.TargetGoes.{IsSameStill, AreNext, Begun, Again, PastZeros, PastWritten, Waits, Reads, Writes, TargetGoes, New, Old, MayGo, IsLastReply, made_of}
use Rattle.headline_law.proofs.TargetBefore.{job_with, awaited_holder, in_before, scenario, laid, code, well, below, still_in, piece_is, rows_now, all_sources, made_right}
use Rattle.headline_law.proofs.TargetDone.{on_drive, filled_zeros, filled_written, bytes_stand, none_unspent}
use Rattle.headline_law.proofs.TargetFills.{IsCutOf, cut_words, cut_has_all}
use Rattle.headline_law.proofs.TargetPieces.{IsPlanned}
use Rattle.headline_law.proofs.TargetSources.{has_source, made_long}
use Rattle.headline_law.proofs.TargetZeros.{none_of_zeros}
use Rattle.headline_law.proofs.TargetKeeps.{target_as}
use Rattle.headline_law.proofs.TargetStays.{FollowLaws, behind, later, in_behind, fits_behind, leaves, has_all_as, words_now, sources_now, target_in_, waits_in, new_in}

module _ (laws : FollowLaws) (w : World) (h : List Line) (m : Move) (f g : File) (s : State)
    (k : FollowsWhole w h m f g s) (parts : PartsBehind k) (l : Job) (runs : g.job ≡ Some l) (t : Target)
    (aims : target_in l.work ≡ Some t) where
  abbrev v : World
  v = (move w m).world

  abbrev lines : List Line
  lines = lines_in w m

  -- ---- a step of the server

  module _ (i : Input) (comes : input_in w m.action ≡ Some i) (j : Job) (had : f.job ≡ Some j)
      (aimed : target_in j.work ≡ Some t) (still : IsSameStill f.kept g.kept) where
    aim_of : target_of f.job ≡ Some t
    aim_of = ap target_of had ∙ aimed

    low : t.component < f.kept.map.comps
    low = (well laws.target w h m f g s k.follows laws.well).inside t aim_of

    -- drives have what they had
    alike_ : IsAlike w v
    alike_ =
        alike w h m f g s k.follows.moment k.follows.is_due k.follows.there k.follows.run k.follows.related i comes
        k.follows.goes (awaited_are_sent laws.moved.known w h k.follows.moment (scenario laws.target w h m f g s k.follows).few)

    objects_same : (todo : List Piece) → IsTarget s w f t todo → has_failed (at_number v.drives t.drive) ≡ false →
        (o : StoredObject) → object_on (at_number v.drives t.drive) t.object ≡ Some o → IsFilled s f t todo o
    objects_same todo target lives o is =
        target.object (sym (alike_.failed t.drive) ∙ lives) o (sym (alike_.objects t.drive t.object) ∙ is)

    before_in : (work : Work) → j.work ≡ work → TargetIn s w f work
    before_in work is = target_in_ laws w h m f g s k parts l runs t aims j had aimed still work is

    -- the reply
    message : (r : IsLastReply i f j) → IsHeardByServer w (Hears r.now (node.Drive r.drive) (Replies r.reply))
    message r = subst (IsHeardByServer w) r.hears (heard_in w m.action i comes)

    module _ (p : Piece) (ps : List Piece) (was : j.work ≡ Gathers t (p ∷ ps)) (r : IsLastReply i f j) where
      its_words : AreWordsOf f.kept.map p.stripe p.column p.count t.component (byte_before s s.count) (made_of r t p)
      its_words =
          made_right laws.target w h m f g s k.follows j had t p ps was r.drive r.reply (message r).0 (sym (message r).2)
          (message r).3 r.awaited r.awaits r.answer r.is_done r.last

      its_sources : HasSources s f t
      its_sources =
          let x = has_source s f.kept t p (heard_with j r.awaited r.reply) (laid laws.target w h m f g s k.follows).checked
          (rows_now laws.target w h m f g s k.follows j had t p ps was r.drive r.reply (message r).0 (sym (message r).2)
          (message r).3 r.awaited r.awaits r.answer r.is_done r.last) (below laws.target w h m f g s k.follows) low
          (all_sources laws.target w h m f g s k.follows j had t p ps was r.drive r.reply (message r).0 (sym (message r).2)
          (message r).3 r.awaited r.awaits r.answer r.is_done r.last) in
          record { out = x.0; each = x.1 }

      its_piece : IsPlanned f.kept.map (group_with f.kept.map t.component) f.kept.high p
      its_piece =
          piece_is laws.target w h m f g s k.follows j had t aimed p
          (subst (λ (y : Work). In p (todo_in y)) (sym was) (inl refl))

      past_zeros : IsOfZeros p (made_of r t p) → IsTarget s w f t ps
      past_zeros zeros =
          let old : IsTarget s w f t (p ∷ ps) = before_in (Gathers t (p ∷ ps)) was in record {
            apart = old.apart;
            words = old.words;
            head = λ x fill unspent.
                absurd (none_of_zeros laws.target w h m f g s k t p x aim_of (made_of r t p) its_words zeros
                its_piece.within (p ∷ ps) old fill (old.head x fill unspent));
            object = λ lives o is.
                filled_zeros laws.target w h m f g s k.follows t p ps (made_of r t p) low its_words zeros o
                (old.object lives o is);
            source = λ begun. (its_sources.out, its_sources.each);
          }

    module _ (p : Piece) (ps : List Piece) (was : j.work ≡ Fills t (p ∷ ps)) (r : IsLastReply i f j) where
      past_written : IsTarget s w f t ps
      past_written =
          let old : IsFilling s w f t (p ∷ ps) = before_in (Fills t (p ∷ ps)) was in
          let waits : In r.awaited (awaited_by f.job) =
          subst (λ (y : Option Job). In r.awaited (awaited_by y)) (sym had) r.awaits in record {
            apart = old.target.apart;
            words = old.target.words;
            head = λ x fill unspent.
                absurd (none_unspent laws.target w h m f g s k.follows j had t p ps was r.drive r.reply (message r).0
                (sym (message r).2) (message r).3 r.awaited r.awaits r.answer r.is_done x fill unspent);
            object = λ lives o is.
                filled_written laws.target w h m f g s k.follows j had t p ps was r.drive r.reply (message r).0
                (sym (message r).2) (message r).3 r.awaited r.awaits r.answer r.is_done o
                (on_drive t.drive t.object w (at_number w.drives t.drive) refl lives o is (λ x here up object.
                bytes_stand laws.target w h m f g s k.follows j had t p ps was r.drive r.reply (message r).0 (sym (message r).2)
                (message r).3 r.awaited r.awaits r.answer r.is_done laws.well x o here up object
                (awaited_holder laws.target w h m f g s k.follows r.awaited waits))) (old.target.object lives o is);
            source = λ begun. (old.sources.out, old.sources.each);
          }

    by_next : (p : Piece) (ps : List Piece) → AreNext i f j t (p ∷ ps) → IsTarget s w f t (p ∷ ps)
    by_next p ps (Begun was all r) =
        subst (λ (qs : List Piece). IsTarget s w f t qs) (sym all) (before_in (Targets t) was)
    by_next p ps (Again (inl was)) = before_in (Gathers t (p ∷ ps)) was
    by_next p ps (Again (inr was)) = (before_in (Fills t (p ∷ ps)) was).target
    by_next p ps (PastZeros q was r zeros) = past_zeros q (p ∷ ps) was r zeros
    by_next p ps (PastWritten q was r) = past_written q (p ∷ ps) was r

    reads_in : (p : Piece) (ps : List Piece) → l.work ≡ Gathers t (p ∷ ps) → AreNext i f j t (p ∷ ps) →
        TargetIn (whole_behind k) v g l.work
    reads_in p ps works next =
        let target : IsTarget s w f t (p ∷ ps) = by_next p ps next in
        subst (TargetIn (whole_behind k) v g) (sym works)
        (target_as s (whole_behind k) w v f g t (p ∷ ps) (code laws.target w h m f g s k.follows)
        (leaves laws w h m f g s k parts l runs t aims j had aimed still (p ∷ ps)
        (λ b here write. absurd (cc (sym (subst (λ (y : Work). IsAskedIn g.kept y b) works (fits_behind laws w h m f g s k
        parts l runs t aims b here)).action_is
        ∙ write)))
        (objects_same (p ∷ ps) target)) target)

    writes_in : (p : Piece) (ps : List Piece) (nonce : ℕ) → j.work ≡ Gathers t (p ∷ ps) → l.work ≡ Fills t (p ∷ ps) →
        (r : IsLastReply i f j) → l.awaited ≡ to_fill f.kept t p (made_of r t p) nonce ∷ [] →
        TargetIn (whole_behind k) v g l.work
    writes_in p ps nonce was works r is =
        let old : IsTarget s w f t (p ∷ ps) = before_in (Gathers t (p ∷ ps)) was in
        let bytes : List ℕ = made_of r t p in
        let fill : Awaited = to_fill f.kept t p (made_of r t p) nonce in
        let long = made_long f.kept t p (heard_with j r.awaited r.reply) in
        let cut : IsCutOf f.kept.map p (made_of r t p) fill.command = record { offset = refl; payload = refl } in
        let words : AreWords s (byte_before s s.count) t.component fill.command.offset fill.command.payload =
        cut_words s f.kept.map f.kept.first_tag k.follows.related.layout t.component p (made_of r t p)
        (its_piece p ps was r).within (omega (arith, long)) (its_words p ps was r) fill.command cut in
        let all : HasAllOf s f.kept.map p t.component fill.command =
        cut_has_all s f.kept.map f.kept.first_tag k.follows.related.layout t.component p (made_of r t p)
        (its_piece p ps was r).within (omega (arith, long)) (its_words p ps was r) fill.command cut
        (laid laws.target w h m f g s k.follows).checked low in
        let own : (b : Awaited) → In b l.awaited → fill ≡ b = λ b here. one_of b (subst (In b) is here) in
        subst (TargetIn (whole_behind k) v g) (sym works) (record {
          target = target_as s (whole_behind k) w v f g t (p ∷ ps) (code laws.target w h m f g s k.follows)
              (leaves laws w h m f g s k parts l runs t aims j had aimed still (p ∷ ps)
              (λ b here write. (
                subst (λ (y : Awaited). AreWords s (byte_before s s.count) t.component y.command.offset y.command.payload)
                    (own b here) words,
                subst (λ (q : RawMap). IsInPiece q p t.component b.command) still.map
                    (subst (λ (y : Work). IsAskedIn g.kept y b) works (fits_behind laws w h m f g s k parts l runs t aims b
                    here)).inside,
              ))
              (objects_same (p ∷ ps) old)) old;
          awaited = λ b here.
              let same_one = own b (subst (λ (o : Option Job). In b (awaited_by o)) runs here) in
              subst (λ (y : Awaited).
              AreWords (whole_behind k) (byte_before (whole_behind k) (whole_behind k).count) t.component y.command.offset
              y.command.payload × HasAllOf (whole_behind k) g.kept.map p t.component y.command) same_one (
                words_now laws w h m f g s k parts l runs t aims j had aimed still fill.command.offset fill.command.payload words,
                has_all_as laws w h m f g s k parts l runs t aims j had aimed still p fill.command fill.command refl refl all,
              );
          sources = sources_now laws w h m f g s k parts l runs t aims j had aimed still (its_sources p ps was r);
        })
      where
        one_of : {c : Awaited} → (b : Awaited) → In b (c ∷ []) → c ≡ b
        one_of b (inl equal) = sym equal
        one_of b (inr none_there) = absurd none_there

  -- ---- each move

  by_goes : (i : Input) → input_in w m.action ≡ Some i → TargetGoes w.server.next_object i f g l t →
      TargetIn (whole_behind k) v g l.work
  by_goes i comes (New is fresh) = new_in laws w h m f g s k parts l runs t aims i comes is fresh
  by_goes i comes (Old j had aimed still (Waits wo)) = waits_in laws w h m f g s k parts l runs t aims j had aimed still wo
  by_goes i comes (Old j had aimed still (Reads p ps nonce works heard is some next)) =
      reads_in i comes j had aimed still p ps works next
  by_goes i comes (Old j had aimed still (Writes p ps nonce was works r some is)) =
      writes_in i comes j had aimed still p ps nonce was works r is

  may_go : MayGo f g
  may_go = record {
    still = λ u aim.
        let x = job_with f.job u aim in still_in f.kept.phase x.0.work u
        (work_fits laws.target.join.world w h k.follows.moment (scenario laws.target w h m f g s k.follows) f
        (in_before laws.target w h m f g s k.follows) x.0 x.1) x.2;
    alone = λ j had b c x y.
        let its : (d : Awaited) → In d j.awaited → In d (awaited_by f.job) = λ d here.
        subst (λ (o : Option Job). In d (awaited_by o)) (sym had) here in
        (held laws.target.join.world w h k.follows.moment (scenario laws.target w h m f g s k.follows)).numbers.alone b c
        (f, in_before laws.target w h m f g s k.follows, its b x) (f, in_before laws.target w h m f g s k.follows, its c y);
    apart = λ u aim.
        ((owns laws.target.join.world v (h ++ lines) (behind laws w h m f g s k parts l runs t aims) (later laws w h m f g s
        k parts l runs t aims)).1 g (in_behind laws w h m f g s k parts l runs t aims)).apart u aim;
  }

  by_input : (o : Option Input) → input_in w m.action ≡ o → TargetIn (whole_behind k) v g l.work
  by_input (Some i) comes =
      by_goes i comes
      (laws.goes w.server m.chosen i (files_distinct w (reached w h k.follows.moment))
      (safe_at laws.target.safe w h k.follows.moment) f g k.follows.there
      (ap (λ (x : Server). file_at x.files f.kept.number) (sym (server_steps w m i comes)) ∙ k.follows.goes) may_go l t runs
      aims)
  by_input None nothing =
      let same_file : f ≡ g =
      same_Some f g (sym k.follows.there
      ∙ ap (λ (x : Server). file_at x.files f.kept.number) (sym (server_rests w m nothing)) ∙ k.follows.goes) in
      waits_in laws w h m f g s k parts l runs t aims l (ap (λ (x : File). x.job) same_file ∙ runs) aims
      (record {
        map = ap (λ (x : File). x.kept.map) (sym same_file);
        high = ap (λ (x : File). x.kept.high) (sym same_file);
        tag = ap (λ (x : File). x.kept.tag) (sym same_file);
        phase = ap (λ (x : File). x.kept.phase) (sym same_file);
      })
      (record {
        work = refl;
        awaited = λ b i. (
          b,
          i,
          record {
            component = refl;
            drive = refl;
            action = refl;
            object = refl;
            offset = refl;
            count = refl;
            payload = refl;
          },
        );
        asked = λ n x. x;
        present = λ u todo is. ap (λ (x : File). x.kept.components) (sym same_file);
      })

  target_follows : TargetIn (whole_behind k) v g l.work
  target_follows = by_input (input_in w m.action) refl

pub targets_follow : FollowLaws → TargetsFollow
targets_follow laws w h m f g s k parts l runs = by_target (target_in l.work) refl
  where
    none_aimed : (work : Work) → target_in work ≡ None → TargetIn (whole_behind k) (move w m).world g work
    none_aimed Creates e = tt
    none_aimed Fences e = tt
    none_aimed (Fetches todo short) e = tt
    none_aimed (Stores todo short b) e = tt
    none_aimed (Targets t) e = absurd (cc e)
    none_aimed (Gathers t todo) e = absurd (cc e)
    none_aimed (Fills t todo) e = absurd (cc e)
    none_aimed Lengths e = tt
    none_aimed (Checks todo tally) e = tt

    by_target : (o : Option Target) → target_in l.work ≡ o → TargetIn (whole_behind k) (move w m).world g l.work
    by_target None e = none_aimed l.work e
    by_target (Some t) e = target_follows laws w h m f g s k parts l runs t e
