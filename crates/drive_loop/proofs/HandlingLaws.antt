-- What a drive does with many records, one after the other.
use Rattle.std.proofs.Common.{◌≡◌, ◌⊎◌, inl, inr, ℕ, Bool, true, false, if◌then◌else◌, List, [], ◌∷◌, ◌++◌, map, Option, None, Some, Ok, Err, refl, sym, ap, subst, ◌∙◌, append_assoc}
use Rattle.std.proofs.lemmas.List.{append-nil, map-append}
use Rattle.osd_bytes.specs.Clocks.{TellsTime}
use Rattle.osd_drive.specs.Effects.{drive_after}
use Rattle.osd_drive.specs.State.{DriveState}
use Rattle.drive_command.specs.Records.{Handled, after_all, last_after, last_of, lines_of, notes_of, reply_bytes}
use Rattle.drive_command.specs.GoesOn.{WentOn}
use Rattle.drive_command.specs.declared.device_server.DeviceServer.{Ghosts as DriveGhosts}
use Rattle.port_loop.proofs.FrontLaws.{fronts}
use Rattle.drive_command.proofs.KeptLaws.{joined, went-none, went-then}
use Rattle.drive_loop.specs.declared.drive_handler.DriveHandler.{DriveHandler}
use Rattle.drive_loop.specs.Handling.{AnswersOne, BreaksOne}
use Rattle.drive_loop.specs.declared.serving.TheConstants.{MOST_TURNS}
use Rattle.drive_loop.specs.Serving.{CutsMany, EndsInRecord, EndsMany, GoesBy, Seen, ServesMany, Tells, record_of, records_in, seen_at, serve_err_of}
use Rattle.port_loop.specs.Ports.{after_notes}
use Rattle.port_loop.specs.Serving.{AddsAll, BreaksOff, Desk, HandlesAll, Serves}
use Rattle.port_loop.specs.Steps.{Follows, Handled as Taking, Lawful, Settled, Step, handled_in, happened}
use Rattle.port_loop.specs.Steps.Step.{Handles}
use Rattle.port_loop.specs.declared.handler.Handler.{Ghosts}
use Rattle.port_loop.specs.declared.notes.Notes.{Ghosts as NotesGhosts}
use Rattle.port_loop.specs.declared.ports.Happening.{Happening}
use Rattle.port_loop.specs.declared.serving.LoopErr.{LoopErr}
use Rattle.port_loop.specs.declared.serving.LoopErr.TheVariants.{PortFault, HandlerFault, Memory}

notes-then : (a b : List (List ℕ)) (o : Option (List (List ℕ))) → after_notes b (after_notes a o) ≡ after_notes (a ++ b) o
notes-then a b None = refl
notes-then a b (Some l) = ap (λ (x : List (List ℕ)). Some x) (append_assoc l a b)

notes-none : (o : Option (List (List ℕ))) → o ≡ after_notes [] o
notes-none None = refl
notes-none (Some l) = ap (λ (x : List (List ℕ)). Some x) (sym (append-nil l))

-- what is known beside the connections
abbrev of_desk : {H N : Type 0} → NotesGhosts N → Desk (DriveHandler H N) → Option (List Happening) → Seen
of_desk n a told = seen_at n a.handler told a.times

-- one record, then others
tells-one : (d : DriveState) (before mid now : Seen) (h : Handled) (hs : List Handled)
    → TellsTime before.times mid.times h.time → mid.noted ≡ after_notes (lines_of d before.last h) before.noted
    → mid.last ≡ last_of d before.last h → Tells (drive_after d h.time h.message) mid now hs → Tells d before now (h ∷ hs)
tells-one d before mid now h hs time noted last t =
    let e : DriveState = drive_after d h.time h.message in record {
      times = (mid.times, time, t.times);
      noted = t.noted ∙ ap (λ (l : Option ℕ). after_notes (notes_of e l hs) mid.noted) last
          ∙ ap (λ (o : Option (List (List ℕ))). after_notes (notes_of e (last_of d before.last h) hs) o) noted
          ∙ notes-then (lines_of d before.last h) (notes_of e (last_of d before.last h) hs) before.noted;
      last = t.last ∙ ap (λ (l : Option ℕ). last_after e l hs) last;
    }

goes-by : (d : DriveState) (before now : Seen) (steps : List Step) → AddsAll (happened steps) before.told now.told
    → Lawful reply_bytes drive_after d steps → GoesBy d before now steps
goes-by d before now steps told lawful =
    record { told = told; lawful = lawful; fronts = fronts reply_bytes drive_after d steps lawful }

module _ {H N : Type 0} (s : DriveGhosts H) (n : NotesGhosts N) (v : Ghosts (DriveHandler H N))
    (answers : (time : ℕ) (message : List ℕ) (old new : DriveHandler H N) → v.handles time message old new →
    AnswersOne s n time message old new)
    (stays : (h : H) (c : List ℕ) → s.keeps h → s.left_since h (s.moment h) c → s.stands_for (s.drive h) c) where
  -- records that were handled to their ends
  handled-all : (a b : Desk (DriveHandler H N)) (x z : Option (List Happening)) (hs : List Taking)
      → s.is_over a.handler.server ≡ false → HandlesAll v a hs b
      → WentOn s (map record_of hs) a.handler.server b.handler.server
      × Tells (s.drive a.handler.server) (of_desk n a x) (of_desk n b z) (map record_of hs)
  handled-all a b x z [] on e = subst
      (λ (m : Desk (DriveHandler H N)). WentOn s [] a.handler.server m.handler.server
      × Tells (s.drive a.handler.server) (of_desk n a x) (of_desk n m z) []) (sym e) (
        went-none s a.handler.server (stays a.handler.server) on,
        record { times = refl; noted = notes-none (n.noted a.handler.notes); last = refl },
      )
  handled-all a b x z (h ∷ hs) on c =
      let one = answers h.time h.message a.handler c.0.handler c.2 in
      let rest = handled-all c.0 b None z hs one.went.goes_on c.3 in (
        went-then s (record_of h ∷ []) (map record_of hs) a.handler.server c.0.handler.server b.handler.server one.went rest.0,
        tells-one (s.drive a.handler.server) (of_desk n a x) (of_desk n c.0 None) (of_desk n b z) (record_of h)
            (map record_of hs) c.1 one.noted one.last
            (subst (λ (d : DriveState). Tells d (of_desk n c.0 None) (of_desk n b z) (map record_of hs))
            one.went.carries.state rest.1),
      )

  serves-many : (a b : Desk (DriveHandler H N)) (x z : Option (List Happening)) (steps : List Step)
      → s.is_over a.handler.server ≡ false → GoesBy (s.drive a.handler.server) (of_desk n a x) (of_desk n b z) steps
      → Settled reply_bytes drive_after (s.drive a.handler.server) steps → HandlesAll v a (handled_in steps) b
      → ServesMany s a.handler.server b.handler.server (of_desk n a x) (of_desk n b z) steps
  serves-many a b x z steps on goes settled desk =
      let all = handled-all a b x z (handled_in steps) on desk in
      (record { goes = goes; settled = settled; tells = all.1 }, all.0)

  -- how serving ends when its time comes
  pub ends-well : (a b : Desk (DriveHandler H N)) (x z : Option (List Happening)) (connections : ℕ)
      → s.is_over a.handler.server ≡ false
      → ((steps : List Step) → Lawful v.reply_to v.state_after (v.state a.handler) steps →
      Lawful reply_bytes drive_after (s.drive a.handler.server) steps)
      → ((steps : List Step) → Settled v.reply_to v.state_after (v.state a.handler) steps →
      Settled reply_bytes drive_after (s.drive a.handler.server) steps)
      → Serves v a b x z connections MOST_TURNS (Ok tt)
      → EndsMany s connections a.handler.server b.handler.server (of_desk n a x) (of_desk n b z) (Ok tt)
  ends-well a b x z connections on lawful settled r = (
    r.0,
    serves-many a b x z r.0 on (goes-by (s.drive a.handler.server) (of_desk n a x) (of_desk n b z) r.0 r.1
        (lawful r.0 r.2.lawful)) (settled r.0 r.3.0.settled) r.3.0.desk,
    r.3.1,
  )

  -- the records of steps of which the last may be that of a record
  records-then : (is_handled : Bool) (next : Taking) (older : List Step) (handled cut_off : List Handled)
      → handled ++ cut_off ≡ (if is_handled then record_of next ∷ [] else [])
      → records_in (if is_handled then Handles next ∷ older else older) ≡ (records_in older ++ handled) ++ cut_off
  records-then true next older handled cut_off are =
      map-append record_of (handled_in older) (next ∷ []) ∙ ap (λ (l : List Handled). records_in older ++ l) (sym are)
      ∙ sym (append_assoc (records_in older) handled cut_off)
  records-then false next older handled cut_off are =
      sym (append-nil (records_in older)) ∙ ap (λ (l : List Handled). records_in older ++ l) (sym are)
      ∙ sym (append_assoc (records_in older) handled cut_off)

  -- nothing was put since the last one, if it was cut off
  unput-then : (is_handled : Bool) (next : Taking) (older : List Step) (handled cut_off : List Handled)
      → handled ++ cut_off ≡ (if is_handled then record_of next ∷ [] else [])
      → (cut_off ≡ []) ⊎ EndsInRecord (if is_handled then Handles next ∷ older else older)
  unput-then true next older handled cut_off are = inr (next, older, refl)
  unput-then false next older [] cut_off are = inl are
  unput-then false next older (h ∷ handled) cut_off are = absurd (cc are)

  module _ (fails : (time : ℕ) (message : List ℕ) (is_handled : Bool) (old new : DriveHandler H N) →
      v.fails time message is_handled old new → BreaksOne s n time message is_handled old new) where
    cuts-off : (first : v.State) (a b : Desk (DriveHandler H N)) (x z : Option (List Happening)) (steps : List Step)
        → s.is_over a.handler.server ≡ false → GoesBy (s.drive a.handler.server) (of_desk n a x) (of_desk n b z) steps
        → ((h : Taking) (older : List Step) → Follows v.reply_to v.state_after first (Handles h) older →
        Follows reply_bytes drive_after (s.drive a.handler.server) (Handles h) older)
        → BreaksOff v first a b steps
        → CutsMany s a.handler.server b.handler.server (of_desk n a x) (of_desk n b z) steps
    cuts-off first a b x z steps on goes follows o =
        let all = handled-all a o.mid x None (handled_in o.older) on o.handles in
        let f = fails o.next.time o.next.message o.is_handled o.mid.handler b.handler o.fails in
        let drive : s.drive o.mid.handler.server ≡ after_all (s.drive a.handler.server) (records_in o.older) =
        all.0.carries.state
        ∙ ap (λ (l : List Handled). after_all (s.drive a.handler.server) l) (append-nil (records_in o.older)) in record {
          cuts = record {
            goes = goes;
            tells = inr (record {
              older = o.older;
              mid = of_desk n o.mid None;
              tells = all.1;
              next = o.next;
              follows = follows o.next o.older o.follows;
              time = o.tells;
              is_handled = o.is_handled;
              are = o.are;
              noted = subst (λ (d : DriveState). (n.noted b.handler.notes ≡ n.noted o.mid.handler.notes)
                  ⊎ ((o.is_handled ≡ true) × (n.noted b.handler.notes
                  ≡ after_notes (lines_of d o.mid.handler.last (record_of o.next)) (n.noted o.mid.handler.notes)))) drive f.noted;
            });
          };
          handled = records_in o.older ++ f.handled;
          cut_off = f.cut_off;
          records = record {
            are = ap records_in o.are ∙ records-then o.is_handled o.next o.older f.handled f.cut_off f.are;
            unput = subst (λ (l : List Step). (f.cut_off ≡ []) ⊎ EndsInRecord l) (sym o.are)
                (unput-then o.is_handled o.next o.older f.handled f.cut_off f.are);
          };
          carries = joined s (records_in o.older) f.handled f.cut_off a.handler.server o.mid.handler.server b.handler.server
              all.0.carries all.0.keeps f.carries;
        }

    cuts-many : (first : v.State) (a b : Desk (DriveHandler H N)) (x z : Option (List Happening)) (steps : List Step)
        → s.is_over a.handler.server ≡ false → GoesBy (s.drive a.handler.server) (of_desk n a x) (of_desk n b z) steps
        → ((h : Taking) (older : List Step) → Follows v.reply_to v.state_after first (Handles h) older →
        Follows reply_bytes drive_after (s.drive a.handler.server) (Handles h) older)
        → HandlesAll v a (handled_in steps) b ⊎ BreaksOff v first a b steps
        → CutsMany s a.handler.server b.handler.server (of_desk n a x) (of_desk n b z) steps
    cuts-many first a b x z steps on goes follows (inl desk) =
        let all = handled-all a b x z (handled_in steps) on desk in record {
          cuts = record { goes = goes; tells = inl all.1 };
          handled = records_in steps;
          cut_off = [];
          records = record { are = sym (append-nil (records_in steps)); unput = inl refl };
          carries = all.0.carries;
        }
    cuts-many first a b x z steps on goes follows (inr o) = cuts-off first a b x z steps on goes follows o

    -- how serving ends before its time; the handler is that of the drive
    pub ends-early : (a b : Desk (DriveHandler H N)) (x z : Option (List Happening)) (connections : ℕ) (e : LoopErr)
        → s.is_over a.handler.server ≡ false
        → ((steps : List Step) → Lawful v.reply_to v.state_after (v.state a.handler) steps →
        Lawful reply_bytes drive_after (s.drive a.handler.server) steps)
        → ((steps : List Step) → Settled v.reply_to v.state_after (v.state a.handler) steps →
        Settled reply_bytes drive_after (s.drive a.handler.server) steps)
        → ((h : Taking) (older : List Step) → Follows v.reply_to v.state_after (v.state a.handler) (Handles h) older →
        Follows reply_bytes drive_after (s.drive a.handler.server) (Handles h) older)
        → Serves v a b x z connections MOST_TURNS (Err e)
        → EndsMany s connections a.handler.server b.handler.server (of_desk n a x) (of_desk n b z) (Err (serve_err_of e))
    ends-early a b x z connections PortFault on lawful settled follows r = (
      r.0,
      serves-many a b x z r.0 on (goes-by (s.drive a.handler.server) (of_desk n a x) (of_desk n b z) r.0 r.1
          (lawful r.0 r.2.lawful)) (settled r.0 r.3.settled) r.3.desk,
    )
    ends-early a b x z connections HandlerFault on lawful settled follows r = (
      r.0,
      cuts-many (v.state a.handler) a b x z r.0 on
          (goes-by (s.drive a.handler.server) (of_desk n a x) (of_desk n b z) r.0 r.1 (lawful r.0 r.2.lawful)) follows r.2.desk,
    )
    ends-early a b x z connections Memory on lawful settled follows r = (
      r.0,
      cuts-many (v.state a.handler) a b x z r.0 on
          (goes-by (s.drive a.handler.server) (of_desk n a x) (of_desk n b z) r.0 r.1 (lawful r.0 r.2.lawful)) follows r.2.desk,
    )
