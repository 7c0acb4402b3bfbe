-- Where a server that works is cut off.
use Rattle.std.specs.Prelude.{OnErr, Result, slice_get, map}
use Rattle.std.proofs.Common.{◌≡◌, ◌<◌, ◌+◌, ℕ, List, [], ◌∷◌, ◌++◌, length, take, drop, Option, Some, None, Ok, Err, refl, sym, ap, subst, inl, inr, ◌∙◌, append_assoc, arith}
use Rattle.std.proofs.lemmas.List.{append-nil, length-append, map-append, take-append-drop}
use Rattle.osd_lists.proofs.Slices.{take_more}
use Rattle.scenario_text.specs.declared.line.Line.{Line}
use Rattle.scenario_text.specs.LineSpelling.{line_text}
use Rattle.osd_bytes.specs.Asking.{Answered, Ends, IsCutOff}
use Rattle.osd_bytes.specs.Clocks.{TellsTime}
use Rattle.osd_bytes.specs.Connections.{Traffic, after_notes}
use Rattle.osd_bytes.specs.Inboxes.{Coming, Reads}
use Rattle.osd_bytes.specs.Records.{Split, records_of}
use Rattle.osd_lists.specs.declared.node.Node.{Node}
use Rattle.osd_lists.specs.declared.node.Node.TheVariants.{Drive}
use Rattle.server_rules.specs.declared.notes.Note.{Note}
use Rattle.server_rules.specs.declared.server.Server.{Server}
use Rattle.server_rules.specs.Envelopes.{on_bytes}
use Rattle.server_requests.specs.declared.outgoing.Sent.{Sent}
use Rattle.server_command.specs.Connections.{AcceptsOne, ServesAll, ServesPieces, Takes}
use Rattle.server_command.specs.Cuts.{CutsAll, CutsAsk, CutsConnection, CutsHandle, CutsRecords, CutsRound, CutsStream}
use Rattle.server_command.specs.GoesOn.{Breaks, EndsServing}
use Rattle.server_command.specs.Messages.{Handles, Serving}
use Rattle.server_command.specs.Notes.{TellsSome, note_texts}
use Rattle.server_command.specs.ServerStops.{serve_err_of}
use Rattle.server_command.specs.Steps.{ServerStep}
use Rattle.server_command.specs.Steps as steps
use Rattle.server_command.specs.declared.metadata_server.MetadataServer.{Ghosts}
use Rattle.server_command.specs.declared.metadata_server.StepErr.{StepErr}
use Rattle.server_command.specs.declared.metadata_server.StepErr.TheVariants as step_err
use Rattle.server_command.specs.declared.serve_err.ServerServeErr.TheVariants as stops
use Rattle.server_command.proofs.ConnectionLaws.{HasServed}

pub on_err : {T E : Type 0} (P : Type 0) (r : Result T E) → P → OnErr r P
on_err P (Ok x) p = tt
on_err P (Err e) p = p

-- ---- notes

pub after_none : (told : Option Traffic) → told ≡ after_notes [] told
after_none None = refl
after_none (Some a) = ap (λ (n : List (List ℕ)). Some (record a { notes = n })) (sym (append-nil a.notes))

pub tells_none : (lines : List (List ℕ)) (told : Option Traffic) → TellsSome lines told told
tells_none lines told = ([], lines, refl, after_none told)

after_then : (as_ bs : List (List ℕ)) (told : Option Traffic)
    → after_notes bs (after_notes as_ told) ≡ after_notes (as_ ++ bs) told
after_then as_ bs None = refl
after_then as_ bs (Some a) = ap (λ (n : List (List ℕ)). Some (record a { notes = n })) (append_assoc a.notes as_ bs)

-- one more line of some was told
pub told_more : (lines : List Line) (i : ℕ) (line : Line) (first before now : Option Traffic) → slice_get lines i ≡ Some line
    → before ≡ after_notes (map line_text (take i lines)) first → now ≡ after_notes (line_text line ∷ []) before
    → now ≡ after_notes (map line_text (take (i + 1) lines)) first
told_more lines i line first before now got so_far one =
    one ∙ ap (λ (t : Option Traffic). after_notes (line_text line ∷ []) t) so_far
    ∙ after_then (map line_text (take i lines)) (line_text line ∷ []) first
    ∙ ap (λ (ls : List (List ℕ)). after_notes ls first)
    (sym (map-append line_text (take i lines) (line ∷ []))
    ∙ ap (λ (ls : List Line). map line_text ls) (sym (take_more lines i line got)))

-- and no more
pub told_some : (lines : List Line) (i : ℕ) (first before now : Option Traffic)
    → before ≡ after_notes (map line_text (take i lines)) first → now ≡ before → TellsSome (map line_text lines) first now
told_some lines i first before now so_far same = (
  map line_text (take i lines),
  map line_text (drop i lines),
  ap (λ (ls : List Line). map line_text ls) (sym (take-append-drop i lines)) ∙ map-append line_text (take i lines) (drop i lines),
  same ∙ so_far,
)

-- ---- a record

-- the server was doing its step, and nothing was told
pub cut_early : (from : Node) (message : List ℕ) (s : Serving) (now : Ends) (time : ℕ) (chosen : List ℕ)
    → TellsTime s.ends.times now.times time → now.told ≡ s.ends.told → now.faults ≡ s.ends.faults
    → CutsHandle from message s now s.done (steps.Hears time chosen from message ∷ [])
cut_early from message s now time chosen tells told faults = record {
  time = time;
  tells = tells;
  chosen = chosen;
  told = rw told (tells_none (note_texts (on_bytes s.server time chosen from message).notes) s.ends.told);
  faults = faults;
  before = refl;
  step = refl;
}

-- it had done it, and was telling its notes
pub cut_noting : (from : Node) (message : List ℕ) (s : Serving) (now : Ends) (time : ℕ) (chosen : List ℕ) (notes : List Note)
    → TellsTime s.ends.times now.times time → notes ≡ (on_bytes s.server time chosen from message).notes
    → TellsSome (note_texts notes) s.ends.told now.told → now.faults ≡ s.ends.faults
    → CutsHandle from message s now s.done (steps.Hears time chosen from message ∷ [])
cut_noting from message s now time chosen notes tells are some faults = record {
  time = time;
  tells = tells;
  chosen = chosen;
  told = subst (λ (ns : List Note). TellsSome (note_texts ns) s.ends.told now.told) are some;
  faults = faults;
  before = refl;
  step = refl;
}

-- it had told all of them, and there was no memory for what it gives to send
pub cut_behind : (from : Node) (message : List ℕ) (s t : Serving) (now : Ends) (had : List ServerStep)
    (h : Handles from message s t) → now ≡ t.ends
    → CutsHandle from message (record s { done = had }) now had (steps.Hears h.time h.chosen from message ∷ [])
cut_behind from message s t now had h same =
    let notes = note_texts (on_bytes s.server h.time h.chosen from message).notes in
    let step = steps.Hears h.time h.chosen from message ∷ [] in
    subst (λ (e : Ends). CutsHandle from message (record s { done = had }) e had step) (sym same) (record {
      time = h.time;
      tells = h.tells;
      chosen = h.chosen;
      told = (notes, [], sym (append-nil notes), h.told);
      faults = h.faults;
      before = refl;
      step = refl;
    })

-- ---- a message

pub cut_asking : (drive : ℕ) (message : List ℕ) (s : Serving) (now : Ends)
    → IsCutOff (Drive drive) message s.ends.told now.told s.ends.faults now.faults → now.times ≡ s.ends.times
    → CutsAsk drive message s now s.done []
cut_asking drive message s now cut times = inl (record { cut = cut; times = times; before = refl; none = refl })

pub cut_hearing : (drive : ℕ) (message reply : List ℕ) (s : Serving) (between now : Ends) (served unserved : List ServerStep)
    → Answered (Drive drive) message s.ends.told between.told s.ends.faults between.faults (Some reply)
    → between.times ≡ s.ends.times
    → CutsHandle (Drive drive) reply (record s { ends = between }) now served unserved
    → CutsAsk drive message s now served unserved
cut_hearing drive message reply s between now served unserved answered times cuts =
    inr (record { came = Some reply; between = between; answered = answered; times = times; behind = cuts })

-- ---- a connection

pub cut_from : (sender : Option Node) (s : Serving) (now : Ends) (ms rest : List Sent) (served unserved : List ServerStep)
    → ms ≡ s.waiting → rest ≡ [] → CutsRound sender ms (record s { waiting = rest }) now served unserved
    → CutsRound sender s.waiting (record s { waiting = [] }) now served unserved
cut_from sender s now ms rest served unserved e f h =
    subst (λ (ns : List Sent). CutsRound sender ns (record s { waiting = [] }) now served unserved) e
    (subst (λ (ns : List Sent). CutsRound sender ms (record s { waiting = ns }) now served unserved) f h)

-- more was being taken
pub cut_taking : (s t : Serving) (now : Ends) (inbox left : Coming) (piece : List ℕ) → HasServed s t inbox
    → Takes piece t.ends now → length piece + left.room ≡ inbox.room → CutsStream s now t.done []
cut_taking s t now inbox left piece h takes rooms = record {
  pieces = h.0;
  taken = h.1;
  last = t;
  serves = subst (λ (rs : List (List ℕ)). ServesPieces h.0 h.1 rs s t) (sym (ap (λ (x : Split). x.records) h.4)) h.3;
  piece = piece;
  between = now;
  takes = takes;
  limit = omega (arith, h.5, rooms, length-append h.1 piece);
  cuts = inl (refl, refl, refl);
}

-- the records of a piece were being served
pub cut_among : (s t : Serving) (between now : Ends) (inbox left : Coming) (piece : List ℕ) (records : List (List ℕ))
    (served unserved : List ServerStep)
    → HasServed s t inbox → Takes piece t.ends between → length piece + left.room ≡ inbox.room → Reads piece records inbox left
    → CutsRecords records (record t { ends = between }) now served unserved → CutsStream s now served unserved
cut_among s t between now inbox left piece records served unserved h takes rooms reads cuts =
    let before : h.2 ≡ records_of h.1 = sym (ap (λ (x : Split). x.records) h.4) in record {
      pieces = h.0;
      taken = h.1;
      last = t;
      serves = subst (λ (rs : List (List ℕ)). ServesPieces h.0 h.1 rs s t) before h.3;
      piece = piece;
      between = between;
      takes = takes;
      limit = omega (arith, h.5, rooms, length-append h.1 piece);
      cuts = inr (
        records,
        ap (λ (x : Split). x.records) (reads h.1 h.2 h.4) ∙ ap (λ (rs : List (List ℕ)). rs ++ records) before,
        cuts,
      );
    }

pub cut_all : (count n : ℕ) (old s : Server) (had done : List ServerStep) (before between accepted now : Ends)
    (served unserved : List ServerStep) → n < count → ServesAll n old s had done before between
    → AcceptsOne between accepted → CutsConnection s done accepted now served unserved
    → CutsAll count old had before now served unserved
cut_all count n old s had done before between accepted now served unserved fewer all accepts cut = record {
  whole = n;
  fewer = fewer;
  mid = s;
  between = between;
  done = done;
  serves = all;
  accepted = accepted;
  accepts = accepts;
  cut = cut;
}

-- how serving ends then
pub stops_so : {H : Type 0} (s : Ghosts H) (connections : ℕ) (old new : H) (before now : Ends) (e : StepErr)
    → Breaks s (serve_err_of e ≡ stops.DiskFault) old new
    (λ had. CutsAll connections (s.server old) had before now)
    → EndsServing s connections old new before now (Err (serve_err_of e))
stops_so s connections old new before now step_err.DiskFault b = b
stops_so s connections old new before now step_err.Memory b = b
