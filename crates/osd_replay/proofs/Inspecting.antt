-- Structures inspected so far: the lines that were answered, and what went out for them. Each way to end keeps its promise.
use Rattle.std.proofs.Common.{◌≡◌, ℕ, ◌+◌, Bool, List, [], ◌∷◌, ◌++◌, length, take, Option, Some, None, Result, Ok, Err, refl, sym, ap, subst, ◌∙◌, append_assoc, arith}
use Rattle.std.specs.Prelude.{codes}
use Rattle.std.specs.Io.KnownBytes.{Appends, IsAtEnd}
use Rattle.std.proofs.Math.Seq.{take-append-add}
use Rattle.std.proofs.lemmas.List.{append-nil, length-append}
use Rattle.osd_bytes.specs.Causes.{Rose}
use Rattle.osd_bytes.specs.Lines.{NextIs, Yields, TakesLine, next_of}
use Rattle.osd_bytes.specs.declared.lines.LineErr.{LineErr}
use Rattle.osd_bytes.specs.declared.lines.LineErr.TheVariants.{TooLong, InputFull, ReadFault as LineFault, Memory as LineMemory}
use Rattle.osd_bytes.proofs.Known.{Appends-then}
use Rattle.layout_types.specs.declared.kind.Kind.{Kind}
use Rattle.osd_replay.specs.Errors.{error_line, full_name, kind_name}
use Rattle.osd_replay.specs.Puts.{Puts}
use Rattle.osd_replay.specs.Stops.{error_of, status_of, stop_of_line}
use Rattle.osd_replay.specs.Ends.{Ends, IsLineAt}
use Rattle.osd_replay.specs.Inspect.{Answers, HasAnswers, Inspected, IsNoLine, RefusesLine, StopsInspection, Stops, Promises}
use Rattle.osd_replay.specs.declared.command.Inspection.{Inspection}
use Rattle.osd_replay.specs.declared.status.Quantity.TheVariants.{Input, Line as LineQuantity}
use Rattle.osd_replay.specs.declared.status.ScenarioKind.{ScenarioKind}
use Rattle.osd_replay.specs.declared.status.Status.TheVariants.{Done, WriteFault}
use Rattle.osd_replay.specs.declared.stop.Stop.{Stop}
use Rattle.osd_replay.specs.declared.stop.Stop.TheVariants.{Refused, Read, Memory as WantsMemory, Full as StopsFull}
use Rattle.osd_replay.proofs.SoFar.{Reached, reached_none, reached_more, appends_none}
use Rattle.osd_replay.proofs.Promised.{tells, begins, all_lines, passes_next}

pub record Inspecting (inspection : Inspection) (kind : Kind) (input now : Option (List ℕ)) (taken : ℕ)
    (before after : Option (List ℕ)) (number : ℕ) : Type 0 where
  pub lines : List (List ℕ)
  pub out : List ℕ
  pub count : number ≡ length lines
  pub reached : Reached input lines taken now
  pub answers : HasAnswers inspection kind lines out
  pub told : Appends before after out

pub nothing_inspected : (inspection : Inspection) (kind : Kind) (input taken : Option (List ℕ)) →
    Inspecting inspection kind input input 0 taken taken 0
nothing_inspected inspection kind input taken =
    record { lines = []; out = []; count = refl; reached = reached_none input; answers = refl; told = appends_none taken }

-- ---- one line more

answers_more : (inspection : Inspection) (kind : Kind) (lines : List (List ℕ)) (out line text : List ℕ) →
    HasAnswers inspection kind lines out → Answers inspection kind line text →
    HasAnswers inspection kind (lines ++ line ∷ []) (out ++ text)
answers_more inspection kind [] out line text h a = (text, [], a, ap (λ (x : List ℕ). x ++ text) h ∙ sym (append-nil text), refl)
answers_more inspection kind (l ∷ lines) out line text h a = (
  h.0,
  h.1 ++ text,
  h.2,
  ap (λ (x : List ℕ). x ++ text) h.3
      ∙ append_assoc h.0 h.1 text,
  answers_more inspection kind lines h.1 line text h.4 a,
)

pub inspects_on : (inspection : Inspection) (kind : Kind) (input now next : Option (List ℕ)) (taken more : ℕ)
    (before middle after : Option (List ℕ)) (number : ℕ) (line text : List ℕ) →
    Inspecting inspection kind input now taken before middle number →
    Yields now next (Ok (Some line)) → TakesLine taken more now next (Ok (Some line)) → Answers inspection kind line text →
    Appends middle after text → Inspecting inspection kind input next more before after (number + 1)
inspects_on inspection kind input now next taken more before middle after number line text s y t a out = record {
  lines = s.lines ++ line ∷ [];
  out = s.out ++ text;
  count = omega (arith, s.count, length-append s.lines (line ∷ []));
  reached = reached_more input now next s.lines line taken more s.reached y t;
  answers = answers_more inspection kind s.lines s.out line text s.answers a;
  told = Appends-then before middle after s.out text s.told out;
}

inspected : (inspection : Inspection) (kind : Kind) (input now : Option (List ℕ)) (taken : ℕ) (before after : Option (List ℕ))
    (number : ℕ) → (s : Inspecting inspection kind input now taken before after number) →
    Inspected inspection kind input s.lines s.out
inspected inspection kind input now taken before after number s =
    record { begins = begins input s.lines taken now s.reached; answers = s.answers }

-- ---- the ends

pub all_inspected : (inspection : Inspection) (kind : Kind) (b a : Ends) (now next : Option (List ℕ)) (taken number : ℕ) →
    Inspecting inspection kind b.left now taken b.taken a.taken number → Yields now next (Ok None) →
    IsAtEnd a.left → a.reads_failed ≡ b.reads_failed → a.writes_failed ≡ b.writes_failed → Promises inspection kind b a Done
all_inspected inspection kind b a now next taken number s y end reads writes = record {
  lines = s.lines;
  out = s.out;
  inspected = inspected inspection kind b.left now taken b.taken a.taken number s;
  all = all_lines b.left s.lines taken now next s.reached y;
  told = s.told;
  at_end = end;
  reads = reads;
  writes = writes;
}

refuses : (input now : Option (List ℕ)) (taken : ℕ) (lines : List (List ℕ)) (kind : ScenarioKind)
    (answer : Result (Option (List ℕ)) LineErr) → Reached input lines taken now → NextIs taken now answer →
    ((rest : List ℕ) → NextIs taken (Some rest) answer → IsNoLine kind (next_of taken rest)) → RefusesLine input lines kind
refuses None now taken lines kind answer r next refused = tt
refuses (Some input) None taken lines kind answer r next refused = absurd r
refuses (Some input) (Some rest) taken lines kind answer r next refused =
    (r.0, rest, r.1, r.3, subst (λ n. IsNoLine kind (next_of n rest)) (sym r.2) (refused rest next))

stops_at : (inspection : Inspection) (kind : Kind) (b a : Ends) (now : Option (List ℕ)) (taken : ℕ) (middle : Option (List ℕ))
    (number failed : ℕ) (reason : List ℕ) (whole : Bool) → Inspecting inspection kind b.left now taken b.taken middle number →
    failed ≡ b.writes_failed →
    Puts middle a.taken failed a.writes_failed (error_line (number + 1) reason) whole →
    Stops inspection kind b a (number + 1) reason
stops_at inspection kind b a now taken middle number failed reason whole s writes put = record {
  lines = s.lines;
  out = s.out;
  inspected = inspected inspection kind b.left now taken b.taken middle number s;
  number_is = ap (λ n. n + 1) s.count;
  tells = tells b a middle s.out (error_line (number + 1) reason) failed whole s.told put writes;
}

pub no_line_inspected : (inspection : Inspection) (kind : Kind) (b a : Ends) (now : Option (List ℕ)) (taken : ℕ)
    (middle : Option (List ℕ)) (number failed : ℕ) (whole : Bool) (e : LineErr) →
    Inspecting inspection kind b.left now taken b.taken middle number →
    NextIs taken now (Err e) → (e ≡ LineFault → Rose b.reads_failed a.reads_failed × IsLineAt (number + 1) b.left a.left) →
    failed ≡ b.writes_failed → Puts middle a.taken failed a.writes_failed (error_of (stop_of_line e) (number + 1)) whole →
    Promises inspection kind b a (status_of (stop_of_line e) (number + 1))
unfolding stops_at
no_line_inspected inspection kind b a now taken middle number failed whole TooLong s next fault writes put = record {
  number = number + 1;
  stops = stops_at inspection kind b a now taken middle number failed (full_name LineQuantity) whole s writes put;
  passes = passes_next b.left now taken s.lines LineQuantity TooLong s.reached refl next;
}
no_line_inspected inspection kind b a now taken middle number failed whole InputFull s next fault writes put = record {
  number = number + 1;
  stops = stops_at inspection kind b a now taken middle number failed (full_name Input) whole s writes put;
  passes = passes_next b.left now taken s.lines Input InputFull s.reached refl next;
}
no_line_inspected inspection kind b a now taken middle number failed whole LineFault s next fault writes put = record {
  number = number + 1;
  stops = stops_at inspection kind b a now taken middle number failed (codes "read") whole s writes put;
  line = (fault refl).1;
  rose = (fault refl).0;
}
no_line_inspected inspection kind b a now taken middle number failed whole LineMemory s next fault writes put = record {
  number = number + 1;
  stops = stops_at inspection kind b a now taken middle number failed (codes "memory") whole s writes put;
}

pub inspection_stopped : (inspection : Inspection) (kind : Kind) (b a : Ends) (now : Option (List ℕ)) (taken : ℕ)
    (middle : Option (List ℕ)) (number failed : ℕ) (whole : Bool) (line : List ℕ) (stop : Stop) →
    Inspecting inspection kind b.left now taken b.taken middle number →
    NextIs taken now (Ok (Some line)) → StopsInspection line stop → failed ≡ b.writes_failed →
    Puts middle a.taken failed a.writes_failed (error_of stop (number + 1)) whole →
    Promises inspection kind b a (status_of stop (number + 1))
unfolding stops_at
inspection_stopped inspection kind b a now taken middle number failed whole line (Refused why) s next stopped writes put =
    record {
      stops = stops_at inspection kind b a now taken middle number failed (kind_name why) whole s writes put;
      refused = refuses b.left now taken s.lines why (Ok (Some line)) s.reached next (λ rest h. rw h stopped);
    }
inspection_stopped inspection kind b a now taken middle number failed whole line Read s next stopped writes put = absurd stopped
inspection_stopped inspection kind b a now taken middle number failed whole line (StopsFull quantity) s next stopped writes put =
    absurd stopped
inspection_stopped inspection kind b a now taken middle number failed whole line WantsMemory s next stopped writes put = record {
  number = number + 1;
  stops = stops_at inspection kind b a now taken middle number failed (codes "memory") whole s writes put;
}

-- the sink fails in an answer: what went out is a part of the answers
pub part_answered : (inspection : Inspection) (kind : Kind) (b a : Ends) (now next : Option (List ℕ)) (taken more : ℕ)
    (middle : Option (List ℕ)) (number upto : ℕ) (line text : List ℕ) →
    Inspecting inspection kind b.left now taken b.taken middle number →
    Yields now next (Ok (Some line)) → TakesLine taken more now next (Ok (Some line)) → Answers inspection kind line text →
    Appends middle a.taken (take upto text) → Rose b.writes_failed a.writes_failed → Promises inspection kind b a WriteFault
part_answered inspection kind b a now next taken more middle number upto line text s y t answer out rose = record {
  lines = s.lines ++ line ∷ [];
  out = s.out ++ text;
  inspected = record {
    begins = begins b.left (s.lines ++ line ∷ []) more next (reached_more b.left now next s.lines line taken more s.reached y t);
    answers = answers_more inspection kind s.lines s.out line text s.answers answer;
  };
  upto = length s.out + upto;
  told = subst (Appends b.taken a.taken) (sym (take-append-add s.out text upto))
      (Appends-then b.taken middle a.taken s.out (take upto text) s.told out);
  rose = rose;
}
