-- Which events a step of the server has: before the line of an answer that takes a loss none begins, answers or acknowledges an
-- entry.
-- Towards `CutsShowEntries` (`specs/Parts.antt`).
use Rattle.std.proofs.Common.{◌≡◌, ◌+◌, ◌==◌, ◌&&◌, ◌++◌, ◌⊎◌, inl, inr, ◌<◌, ◌≤◌, ℕ, zero, suc, Bool, true, false, List, [], ◌∷◌, length, take, Option, Some, None, sym, ap, subst, ◌∙◌, arith, append-nil, append_assoc, if◌then◌else◌}
use Rattle.std.proofs.lemmas.Bool.{or_parts}
use Rattle.std.specs.List.{list_any}
use Rattle.osd_lists.specs.declared.node.Node.{Node}
use Rattle.osd_lists.specs.declared.node.Node.TheVariants as node
use Rattle.data_map.specs.declared.check.RawMap.{RawMap}
use Rattle.layout_ops.specs.declared.messages.Answer.{Answer}
use Rattle.layout_ops.specs.declared.statuses.TheConstants.{NFS4_OK, LAYOUTIOMODE4_RW}
use Rattle.client_rules.specs.Answers.{is_loss_taken}
use Rattle.client_rules.specs.Results.{status_of}
use Rattle.server_rules.specs.Files.{Step}
use Rattle.server_rules.specs.Grants.{grant_of}
use Rattle.server_rules.specs.History.{Input, Hears, Makes, Obeys, Adds, Zones, Formats, Resends, Crashes, Opens}
use Rattle.server_rules.specs.Messages.{Message, Asks, Replies, Orders}
use Rattle.world_history.specs.Calm.{is_taken_out}
use Rattle.world_history.specs.State.{World, at_number}
use Rattle.world_history.specs.ServerNames as kinds
use Rattle.world_history.specs.ServerNames.{Server, File, Component, Note, NoteKind, ClientRequest, RequestArgs, Get as Gets, Commit as Commits, Return as Returns, Outgoing, Answers, ToDrive, Recalls, AnswersOrder, OrderKind, ToRecall, ToRevoke, ToDeclare, ToRebuild, ToAudit}
use Rattle.fence_law.specs.Machine.{after_all}
use Rattle.fence_law.specs.State.{State, Event, RequestKind}
use Rattle.fence_law.specs.State.RequestKind.{Get, Return}
use Rattle.file_simulation.specs.Components.{has_failed}
use Rattle.file_simulation.specs.Events.{joined}
use Rattle.file_simulation.specs.ServerEvents as table
use Rattle.file_simulation.specs.ServerEvents.{sends_all, notes_all}
use Rattle.relation_law.specs.Frames.{AreAll, LinesAre}
use Rattle.relation_law.proofs.FramesClient.{where_all, grant_all, either_all}
use Rattle.relation_law.proofs.FramesStay.{all_more}
use Rattle.relation_law.proofs.KeptNotes.{after_both}
use Rattle.headline_law.proofs.EntriesPairs.{IsSilent}

abbrev So : List Event → Type 0
So es = AreAll IsSilent es

-- ---- the first line

module _ (s : State) (f g : File) where
  fence_silent : So (table.fences f g)
  fence_silent = where_all IsSilent (table.begins_fence f g) _ (tt, tt)

  return_silent : (c : ℕ) (kind : RequestKind) → So (table.return_served s c kind f g)
  return_silent c (Return true) = (tt, tt)
  return_silent c (Return false) = all_more IsSilent (table.fences f g) _ fence_silent (tt, tt)
  return_silent c (Get rw) = tt

  returned_silent : (c : ℕ) (waits : Bool) → So (table.returned s c waits f g)
  returned_silent c true = return_silent c (s.asked c)
  returned_silent c false = (tt, fence_silent)

  committed_silent : (c : ℕ) (ok : Bool) → So (table.committed s c ok)
  committed_silent c true = grant_all IsSilent (s.outstanding c) _ (λ x. (tt, tt))
  committed_silent c false = (tt, tt)

  here_silent : (c : ℕ) (a : RequestArgs) (ok : Bool) → So (table.served_here s c a ok f g)
  here_silent c (Gets iomode offset count) ok = fence_silent
  here_silent c (Commits last) ok = (tt, committed_silent c ok)
  here_silent c (Returns report) ok = returned_silent c (s.waiting c)

  declared_silent : (d : ℕ) (cs : List Component) (k : ℕ) → So (table.declared_from d cs k)
  unfolding table.declared_from
  declared_silent d [] k = tt
  declared_silent d (at ∷ cs) k =
      all_more IsSilent _ (table.declared_from d cs (k + 1)) (where_all IsSilent (at.drive == d) _ (tt, tt))
      (declared_silent d cs (k + 1))

  ordered_silent : (kind : OrderKind) (n : ℕ) → So (table.ordered f g kind n)
  ordered_silent ToDeclare d = declared_silent d f.kept.components 0
  ordered_silent ToRecall n = tt
  ordered_silent ToRevoke n = where_all IsSilent (n == f.kept.number) _ fence_silent
  ordered_silent ToRebuild n = where_all IsSilent (n == f.kept.number) _ fence_silent
  ordered_silent ToAudit n = where_all IsSilent (n == f.kept.number) _ fence_silent

  heard_silent : (server : Server) (did : Step) (from : Node) (m : Message) → So (table.heard s server did f g from m)
  heard_silent server did (node.Client c) (Asks q) =
      where_all IsSilent (table.is_served server c q) _
      (either_all IsSilent (q.file == f.kept.number) _ _
      (here_silent q.client q.args (table.is_ok (table.answer_of did.sends))) (tt, tt))
  heard_silent server did (node.Client c) (Replies r) = tt
  heard_silent server did (node.Client c) (Orders o) = tt
  heard_silent server did node.Server m = tt
  heard_silent server did (node.Drive d) m = tt

  pub first_silent : (server : Server) (did : Step) (i : Input) → So (table.at_first s server did f g i)
  first_silent server did (Hears now from m) = heard_silent server did from m
  first_silent server did (Obeys kind n) = ordered_silent kind n
  first_silent server did Opens = fence_silent
  first_silent server did (Makes n m tag zoned) = tt
  first_silent server did (Adds d) = tt
  first_silent server did (Zones d zone) = tt
  first_silent server did (Formats n) = tt
  first_silent server did Resends = tt
  first_silent server did Crashes = tt

-- ---- notes

space_silent : (missing lost : Bool) (k : ℕ) → So (table.lacks_space missing lost k)
space_silent true lost k = tt
space_silent false true k = (tt, tt)
space_silent false false k = (tt, tt)

reported_silent : (k : ℕ) (o : Option ℕ) → So (table.reported k o)
reported_silent k None = tt
reported_silent k (Some c) = (tt, tt)

over_silent : (b : Bool) → So ((if b then Event.Refenced else Event.Fenced) ∷ [])
over_silent true = (tt, tt)
over_silent false = (tt, tt)

own_silent : (s : State) (w : World) (f : File) (i : Input) (n : NoteKind) → So (table.noted_here s w f i n)
own_silent s w f i (kinds.Fenced tag) = over_silent s.repairing
own_silent s w f i (kinds.Repaired stripes short) = (tt, tt)
own_silent s w f i (kinds.NoSpace k) = space_silent (s.missing k) (s.lost k) k
own_silent s w f i (kinds.Reported k) = reported_silent k (table.asker i)
own_silent s w f i (kinds.Rebuilt k d) = (tt, where_all IsSilent (has_failed (at_number w.drives d)) _ (tt, tt))
own_silent s w f i n = tt

note_silent : (s : State) (w : World) (f : File) (i : Input) (n : Note) → So (table.noted s w f i n)
note_silent s w f i n = where_all IsSilent (n.file == f.kept.number) _ (own_silent s w f i n.kind)

-- ---- messages

module _ (s : State) (server : Server) (g : File) where
  granted_silent : (c : ℕ) (wide : Bool) (m : RawMap) (o : Option kinds.Grant) → So (table.granted c wide m o)
  granted_silent c wide m None = tt
  granted_silent c wide m (Some x) = (tt, tt)

  get_silent : (c : ℕ) (wide well : Bool) → So (table.get_answered c wide well g)
  get_silent c wide true = granted_silent c wide g.kept.map (grant_of g.kept.grants c)
  get_silent c wide false = (tt, tt)

  module _ (a : Answer) (none : is_loss_taken a ≡ false) where
    args_silent : (c : ℕ) (args : RequestArgs) → So (table.answered_here s c args a g)
    args_silent c (Gets iomode offset count) =
        get_silent c (iomode == LAYOUTIOMODE4_RW) (status_of a.results == NFS4_OK)
    args_silent c (Commits last) = tt
    args_silent c (Returns report) = rw none tt

    answer_silent : (c : ℕ) (q : ClientRequest) → So (table.answered s server g a c q)
    answer_silent c q =
        where_all IsSilent (table.is_served server c q && (q.file == g.kept.number)) _ (args_silent c q.args)

    from_silent : (now : ℕ) (from : Node) (x : Message) → So (table.answered_to s server g a (Hears now from x))
    from_silent now (node.Client c) (Asks q) = answer_silent c q
    from_silent now (node.Client c) (Replies r) = tt
    from_silent now (node.Client c) (Orders o) = tt
    from_silent now (node.Drive d) x = tt
    from_silent now node.Server x = tt

    to_silent : (i : Input) → So (table.answered_to s server g a i)
    to_silent (Hears now from x) = from_silent now from x
    to_silent (Makes n m tag zoned) = tt
    to_silent (Obeys kind n) = tt
    to_silent (Adds d) = tt
    to_silent (Zones d zone) = tt
    to_silent (Formats n) = tt
    to_silent Resends = tt
    to_silent Crashes = tt
    to_silent Opens = tt

  sent_silent : (i : Input) (o : Outgoing) → is_taken_out o ≡ false → So (table.sent s server g i o)
  sent_silent i (Answers a) none = to_silent a none i
  sent_silent i (ToDrive d c) none = tt
  sent_silent i (Recalls r) none = tt
  sent_silent i (AnswersOrder a) none = tt

sends_silent : (server : Server) (g : File) (i : Input) (os : List Outgoing) (s : State) → list_any is_taken_out os ≡ false →
    LinesAre IsSilent (sends_all s server g i os)
unfolding sends_all
sends_silent server g i [] s none = tt
sends_silent server g i (o ∷ os) s none =
    let z = or_parts (is_taken_out o) (list_any is_taken_out os) none in
    (sent_silent s server g i o z.0, sends_silent server g i os (after_all s (table.sent s server g i o)) z.1)

-- ---- a step

module _ (w : World) (f g : File) (i : Input) where
  notes_silent : (os : List Outgoing) → list_any is_taken_out os ≡ false → (ns : List Note) (s : State) →
      LinesAre IsSilent (notes_all s w f g i os ns)
  unfolding notes_all
  notes_silent os none [] s = sends_silent w.server g i os s none
  notes_silent os none (n ∷ ns) s =
      (note_silent s w f i n, notes_silent os none ns (after_all s (table.noted s w f i n)))

  -- A step that takes no loss has no other event.
  pub goes_silent : (did : Step) → list_any is_taken_out did.sends ≡ false → (s : State) →
      LinesAre IsSilent (table.server_goes s w did i (Some f) (Some g))
  goes_silent did none s = (
    first_silent s f g w.server did i,
    notes_silent did.sends none did.notes (after_all s (table.at_first s w.server did f g i)),
  )

  -- ---- one that sends one message

  -- The lines before it have no other event, and then the message's follow.
  pub record EndsWith (s : State) (last : State → List Event) (es : List Event) : Type 0 where
    pub before : List Event
    pub silent : So before
    pub are : es ≡ before ++ last (after_all s before)

  sends_at : (o : Outgoing) (s : State) (q : ℕ) →
      ((q ≤ 0) × So (joined (take q (sends_all s w.server g i (o ∷ [])))))
      ⊎ ((0 < q) × EndsWith s (λ t. table.sent t w.server g i o) (joined (take q (sends_all s w.server g i (o ∷ [])))))
  unfolding sends_all
  sends_at o s zero = inl (omega arith, tt)
  sends_at o s (suc zero) =
      inr (omega arith, record { before = []; silent = tt; are = append-nil (table.sent s w.server g i o) })
  sends_at o s (suc (suc q)) =
      inr (omega arith, record { before = []; silent = tt; are = append-nil (table.sent s w.server g i o) })

  -- Up to as many lines as there are notes no other event stands, and behind them that of the message.
  notes_at : (o : Outgoing) (ns : List Note) (s : State) (q : ℕ) →
      ((q ≤ length ns) × So (joined (take q (notes_all s w f g i (o ∷ []) ns))))
      ⊎ ((length ns < q)
      × EndsWith s (λ t. table.sent t w.server g i o) (joined (take q (notes_all s w f g i (o ∷ []) ns))))
  unfolding notes_all
  notes_at o [] s q = sends_at o s q
  notes_at o (n ∷ ns) s zero = inl (omega arith, tt)
  notes_at o (n ∷ ns) s (suc q) =
      let es : List Event = table.noted s w f i n in
      let last : State → List Event = λ t. table.sent t w.server g i o in
      elim (notes_at o ns (after_all s es) q) [
        | inl z ↦
            let l : q ≤ length ns = z.0 in
            inl (omega (arith, l), all_more IsSilent es _ (note_silent s w f i n) z.1)
        | inr z ↦
            let l : length ns < q = z.0 in
            inr (
              omega (arith, l),
              record {
                before = es ++ z.1.before;
                silent = all_more IsSilent es z.1.before (note_silent s w f i n) z.1.silent;
                are =
                    ap (λ (fs : List Event). es ++ fs) z.1.are
                    ∙ sym (append_assoc es z.1.before (last (after_all (after_all s es) z.1.before)))
                    ∙ ap (λ (t : State). (es ++ z.1.before) ++ last t) (sym (after_both s es z.1.before));
              },
            )
      ]

  notes_on : (os : List Outgoing) (o : Outgoing) → os ≡ o ∷ [] → (ns : List Note) (s : State) (q : ℕ) →
      ((q ≤ length ns) × So (joined (take q (notes_all s w f g i os ns))))
      ⊎ ((length ns < q) × EndsWith s (λ t. table.sent t w.server g i o) (joined (take q (notes_all s w f g i os ns))))
  notes_on os o one ns s q =
      subst (λ (xs : List Outgoing). ((q ≤ length ns) × So (joined (take q (notes_all s w f g i xs ns))))
      ⊎ ((length ns < q) × EndsWith s (λ t. table.sent t w.server g i o) (joined (take q (notes_all s w f g i xs ns)))))
      (sym one) (notes_at o ns s q)

  -- So it is behind the line at which the step begins.
  pub goes_at : (did : Step) (o : Outgoing) → did.sends ≡ o ∷ [] → (s : State) (q : ℕ) →
      ((q ≤ length did.notes) × So (joined (take (suc q) (table.server_goes s w did i (Some f) (Some g)))))
      ⊎ ((length did.notes < q)
      × EndsWith s (λ t. table.sent t w.server g i o) (joined (take (suc q) (table.server_goes s w did i (Some f) (Some g)))))
  goes_at did o one s q =
      let es : List Event = table.at_first s w.server did f g i in
      let last : State → List Event = λ t. table.sent t w.server g i o in
      let first : So es = first_silent s f g w.server did i in
      elim (notes_on did.sends o one did.notes (after_all s es) q) [
        | inl z ↦ inl (z.0, all_more IsSilent es _ first z.1)
        | inr z ↦ inr (
          z.0,
          record {
            before = es ++ z.1.before;
            silent = all_more IsSilent es z.1.before first z.1.silent;
            are =
                ap (λ (fs : List Event). es ++ fs) z.1.are
                ∙ sym (append_assoc es z.1.before (last (after_all (after_all s es) z.1.before)))
                ∙ ap (λ (t : State). (es ++ z.1.before) ++ last t) (sym (after_both s es z.1.before));
          },
        )
      ]
