-- The law of lines: each is read by its form, and has its parts.
use Rattle.std.proofs.Common.{ℕ, Bool, true, false, List, [], ◌∷◌, codes, refl}
use Rattle.scenario_text.specs.declared.line.Line.{Line}
use Rattle.scenario_text.specs.declared.line.Line.TheVariants as line
use Rattle.scenario_text.specs.declared.line.Verdict.{Verdict}
use Rattle.scenario_text.specs.declared.line.Verdict.TheVariants as verdict
use Rattle.scenario_text.specs.declared.line.Delivery.{Delivery}
use Rattle.scenario_text.specs.declared.line.Delivery.TheVariants as delivery
use Rattle.scenario_text.specs.declared.line.CallKind.{CallKind}
use Rattle.scenario_text.specs.declared.line.CallKind.TheVariants as kind
use Rattle.scenario_text.specs.declared.line.LayoutFault.{LayoutFault}
use Rattle.scenario_text.specs.declared.line.LayoutFault.TheVariants as layout
use Rattle.scenario_text.specs.declared.line.Ending.{Ending}
use Rattle.scenario_text.specs.declared.line.Ending.TheVariants as ending
use Rattle.scenario_text.specs.declared.line.Outcome.{Outcome}
use Rattle.scenario_text.specs.declared.line.Outcome.TheVariants as outcome
use Rattle.scenario_text.specs.declared.line.Refusal.{Refusal}
use Rattle.scenario_text.specs.declared.line.Refusal.TheVariants as refusal
use Rattle.scenario_text.specs.declared.line.MapFault.{MapFault}
use Rattle.scenario_text.specs.declared.line.MapFault.TheVariants as map_fault
use Rattle.scenario_text.specs.declared.line.Note.{Note}
use Rattle.scenario_text.specs.declared.line.Note.TheVariants as note
use Rattle.scenario_text.specs.declared.hexadecimal.Digits.TheVariants.{Lower}
use Rattle.scenario_text.specs.Parts.{Fixed, Hex, Positions, u32, u64, drive, client, file}
use Rattle.scenario_text.specs.Spelling.{event_parts}
use Rattle.scenario_text.specs.LineSpelling.{party_part, kind_word, layout_fault_word, map_fault_word, refusal_word, yes_or_no, verdict_parts, delivery_parts, ending_parts, outcome_parts, note_parts, line_parts}
use Rattle.scenario_text.specs.Form.{Done, Choose, Unknown}
use Rattle.scenario_text.specs.EventForms.{call_words, call_kind_of}
use Rattle.scenario_text.specs.LineForms.{yes_or_no_rows, layout_fault_words, layout_fault_of, map_fault_words, map_fault_of, refusal_rows, delivery_rows, judged_by, outcome_rows, failed_by, refused_rows, note_words, note_word_of, note_form_of, note_by, unguessed_rows, line_words, line_word_of, line_form_of, line_by, kind_form, yes_or_no_form, layout_fault_form, map_fault_form, refusal_form, plain_verdict_words, plain_verdict_of, numbered_verdict_rows, numbered_verdict_by, verdict_by, verdict_form, delivery_by, ending_words, ending_word_of, ending_form_of, ending_by, done_form, outcome_by, outcome_form, refused_form, note_form, last_form, line_form}
use Rattle.scenario_text.proofs.Forms.{Exact, Path, rows, rows_or, keywords, past}
use Rattle.scenario_text.proofs.PartLaws.{positions_law}
use Rattle.scenario_text.proofs.PlaceLaws.{u32_law, u64_law, drive_law, client_law, file_law, party_law}
use Rattle.scenario_text.proofs.HexLaws.{bytes_law}
use Rattle.scenario_text.proofs.EventLaws.{event_exact, event_path}

-- ---- single words

kind_exact : Exact Lower kind_form (λ k. Fixed (kind_word k) ∷ []) []
unfolding call_kind_of
kind_exact = keywords Lower call_words Done (λ w. Unknown) (λ k. Fixed (kind_word k) ∷ []) [] (refl, (refl, tt)) (λ w. tt)

kind_path : (x : CallKind) → Path kind_form x
unfolding call_kind_of
kind_path kind.Write = (codes "write", refl, refl)
kind_path kind.Read = (codes "read", refl, refl)

yes_or_no_exact : Exact Lower yes_or_no_form (λ b. Fixed (yes_or_no b) ∷ []) []
unfolding yes_or_no_form
yes_or_no_exact = rows Lower yes_or_no_rows (λ b. Fixed (yes_or_no b) ∷ []) [] (refl, (refl, tt))

yes_or_no_path : (x : Bool) → Path yes_or_no_form x
unfolding yes_or_no_form
yes_or_no_path true = (codes "yes", refl, refl)
yes_or_no_path false = (codes "no", refl, refl)

layout_fault_exact : Exact Lower layout_fault_form (λ why. Fixed (layout_fault_word why) ∷ []) []
unfolding layout_fault_of
layout_fault_exact = keywords Lower layout_fault_words Done (λ w. Unknown) (λ why. Fixed (layout_fault_word why) ∷ []) []
    (refl, (refl, (refl, (refl, (refl, (refl, tt)))))) (λ w. tt)

layout_fault_path : (x : LayoutFault) → Path layout_fault_form x
unfolding layout_fault_of
layout_fault_path layout.Unreadable = (codes "Unreadable", refl, refl)
layout_fault_path layout.Index = (codes "Index", refl, refl)
layout_fault_path layout.Partial = (codes "Partial", refl, refl)
layout_fault_path layout.Ssv = (codes "Ssv", refl, refl)
layout_fault_path layout.Map = (codes "Map", refl, refl)
layout_fault_path layout.Credential = (codes "Credential", refl, refl)

map_fault_exact : Exact Lower map_fault_form (λ why. Fixed (map_fault_word why) ∷ []) []
unfolding map_fault_of
map_fault_exact = keywords Lower map_fault_words Done (λ w. Unknown) (λ why. Fixed (map_fault_word why) ∷ []) []
    (refl, (refl, (refl, (refl, (refl, (refl, tt)))))) (λ w. tt)

map_fault_path : (x : MapFault) → Path map_fault_form x
unfolding map_fault_of
map_fault_path map_fault.Unit = (codes "Unit", refl, refl)
map_fault_path map_fault.TooMany = (codes "TooMany", refl, refl)
map_fault_path map_fault.TooFew = (codes "TooFew", refl, refl)
map_fault_path map_fault.Multiple = (codes "Multiple", refl, refl)
map_fault_path map_fault.Width = (codes "Width", refl, refl)
map_fault_path map_fault.Depth = (codes "Depth", refl, refl)

refusal_exact : Exact Lower refusal_form (λ why. Fixed (refusal_word why) ∷ []) []
unfolding refusal_form
refusal_exact = rows Lower refusal_rows (λ why. Fixed (refusal_word why) ∷ []) [] (refl, (refl, (refl, tt)))

refusal_path : (x : Refusal) → Path refusal_form x
unfolding refusal_form
refusal_path refusal.Busy = (codes "busy", refl, refl)
refusal_path refusal.BadRange = (codes "badrange", refl, refl)
refusal_path refusal.SlotSpent = (codes "slotspent", refl, refl)

-- ---- verdicts and deliveries

numbered_verdict_exact : (word : List ℕ) → Exact Lower (numbered_verdict_by word) verdict_parts (Fixed word ∷ [])
unfolding numbered_verdict_by
numbered_verdict_exact word = rows Lower numbered_verdict_rows verdict_parts []
    ((u32, u32_law Lower, λ n. refl), ((u64, u64_law Lower, λ n. refl), ((u64, u64_law Lower, λ n. refl), tt))) word

verdict_exact : (word : List ℕ) → Exact Lower (verdict_by word) verdict_parts (Fixed word ∷ [])
unfolding verdict_by plain_verdict_of
verdict_exact word = keywords Lower plain_verdict_words Done numbered_verdict_by verdict_parts []
    (refl, (refl, (refl, (refl, (refl, (refl, (refl, (refl, (refl, (refl, (refl, (refl, (refl, (refl, (refl, tt)))))))))))))))
    numbered_verdict_exact word

verdict_path : (x : Verdict) → Path verdict_form x
unfolding verdict_by plain_verdict_of numbered_verdict_by
verdict_path verdict.Perform = (codes "perform", refl, refl)
verdict_path verdict.Again = (codes "again", refl, refl)
verdict_path verdict.NoKey = (codes "nokey", refl, refl)
verdict_path verdict.CheckValue = (codes "checkvalue", refl, refl)
verdict_path verdict.Expired = (codes "expired", refl, refl)
verdict_path verdict.Rights = (codes "rights", refl, refl)
verdict_path verdict.WrongObject = (codes "wrongobject", refl, refl)
verdict_path verdict.Range = (codes "range", refl, refl)
verdict_path verdict.NoObject = (codes "noobject", refl, refl)
verdict_path verdict.Exists = (codes "exists", refl, refl)
verdict_path (verdict.Tag n) = (codes "tag", refl, (n, refl))
verdict_path verdict.Limit = (codes "limit", refl, refl)
verdict_path (verdict.NoSpace n) = (codes "nospace", refl, (n, refl))
verdict_path verdict.LaneFull = (codes "lanefull", refl, refl)
verdict_path (verdict.Stale n) = (codes "stale", refl, (n, refl))
verdict_path verdict.AttrFull = (codes "attrfull", refl, refl)
verdict_path verdict.Format = (codes "format", refl, refl)
verdict_path verdict.OldFormat = (codes "oldformat", refl, refl)

delivery_exact : Exact Lower (Choose delivery_by) delivery_parts []
unfolding delivery_by
delivery_exact word = rows_or Lower delivery_rows judged_by delivery_parts [] (refl, (refl, tt))
    (λ w. (verdict_parts, [], Fixed w ∷ [], refl, verdict_exact w, λ v. refl)) word

no_deaf : (v : Verdict) → Path (verdict_by (codes "deaf")) v → ⊥
unfolding verdict_by plain_verdict_of numbered_verdict_by
no_deaf v h = h

no_taken : (v : Verdict) → Path (verdict_by (codes "taken")) v → ⊥
unfolding verdict_by plain_verdict_of numbered_verdict_by
no_taken v h = h

delivery_path : (x : Delivery) → Path (Choose delivery_by) x
unfolding delivery_by
delivery_path delivery.Deaf = (codes "deaf", refl, refl)
delivery_path delivery.Taken = (codes "taken", refl, refl)
delivery_path (delivery.Judged v) =
    let p = verdict_path v in (
      p.0,
      p.1,
      past delivery_rows judged_by (delivery.Judged v) p.0 ((λ h. no_deaf h.0 h.1), ((λ h. no_taken h.0 h.1), tt))
          (v, p.2, refl),
    )

-- ---- endings and outcomes

ending_exact : (word : List ℕ) → Exact Lower (ending_by word) ending_parts (Fixed word ∷ [])
unfolding ending_by ending_word_of
ending_exact word = keywords Lower ending_words ending_form_of (λ w. Unknown) ending_parts [] (
  refl,
  (
    (client, client_law Lower, λ c. refl),
    (
      (u32, u32_law Lower, λ k. refl),
      (
        (u32, u32_law Lower, λ k. refl),
        (
          refl,
          (
            (u32, u32_law Lower, λ status. (u32, u32_law Lower, λ detail. refl)),
            (
              (
                drive,
                drive_law Lower,
                λ d. (verdict_parts, Fixed (codes "refused") ∷ drive d ∷ [], [], refl, verdict_exact, λ v. refl),
              ),
              (
                (u32, u32_law Lower, λ k. refl),
                (
                  (Positions, positions_law Lower, λ ps. refl),
                  (
                    (
                      (λ why. Fixed (layout_fault_word why) ∷ []),
                      Fixed (codes "badlayout") ∷ [],
                      [],
                      refl,
                      layout_fault_exact,
                      λ why. refl,
                    ),
                    (refl, tt),
                  ),
                ),
              ),
            ),
          ),
        ),
      ),
    ),
  ),
) (λ w. tt) word

ending_path : (x : Ending) → Path (Choose ending_by) x
unfolding ending_by ending_word_of
ending_path ending.NoFile = (codes "nofile", refl, refl)
ending_path (ending.Held c) = (codes "held", refl, (c, refl))
ending_path (ending.Fencing k) = (codes "fencing", refl, (k, refl))
ending_path (ending.Degraded k) = (codes "degraded", refl, (k, refl))
ending_path ending.Spent = (codes "spent", refl, refl)
ending_path (ending.Status status detail) = (codes "status", refl, (status, (detail, refl)))
ending_path (ending.Refused d v) = (codes "refused", refl, (d, (v, verdict_path v, refl)))
ending_path (ending.Silent k) = (codes "silent", refl, (k, refl))
ending_path (ending.Lost ps) = (codes "lost", refl, (ps, refl))
ending_path (ending.BadLayout why) = (codes "badlayout", refl, (why, layout_fault_path why, refl))
ending_path ending.Pending = (codes "pending", refl, refl)

no_ok : (how : Ending) → Path (ending_by (codes "ok")) how → ⊥
unfolding ending_by ending_word_of
no_ok how h = h

done_exact : (call : CallKind) → Exact Lower (done_form call) outcome_parts (Fixed (kind_word call) ∷ Fixed (codes "ok") ∷ [])
done_exact kind.Write = (u64, u64_law Lower, λ len. refl)
done_exact kind.Read = (Hex, bytes_law Lower, λ bytes. refl)

outcome_exact : Exact Lower outcome_form outcome_parts []
unfolding outcome_by
outcome_exact = (
  (λ k. Fixed (kind_word k) ∷ []),
  [],
  [],
  refl,
  kind_exact,
  λ call word. rows_or Lower (outcome_rows call) (failed_by call) outcome_parts (Fixed (kind_word call) ∷ [])
      (done_exact call, tt)
      (λ w. (ending_parts, Fixed (kind_word call) ∷ [], Fixed w ∷ [], refl, ending_exact w, λ how. refl)) word,
)

outcome_path : (x : Outcome) → Path outcome_form x
unfolding outcome_by
outcome_path (outcome.WriteOk len) = (kind.Write, kind_path kind.Write, (codes "ok", refl, (len, refl)))
outcome_path (outcome.ReadOk bytes) = (kind.Read, kind_path kind.Read, (codes "ok", refl, (bytes, refl)))
outcome_path (outcome.Failed call how) =
    let p = ending_path how in (
      call,
      kind_path call,
      (
        p.0,
        p.1,
        past (outcome_rows call) (failed_by call) (outcome.Failed call how) p.0 ((λ h. no_ok h.0 h.1), tt)
            (how, p.2, refl),
      ),
    )

-- ---- notes

refused_exact : Exact Lower refused_form note_parts (Fixed (codes "refused") ∷ [])
unfolding refused_form
refused_exact = rows Lower refused_rows note_parts (Fixed (codes "refused") ∷ []) (
  refl,
  (
    (
      (λ why. Fixed (map_fault_word why) ∷ []),
      Fixed (codes "refused") ∷ Fixed (codes "badmap") ∷ [],
      [],
      refl,
      map_fault_exact,
      λ why. refl,
    ),
    (
      (u32, u32_law Lower, λ n. refl),
      ((u32, u32_law Lower, λ n. refl), tt),
    ),
  ),
)

note_exact : Exact Lower note_form note_parts []
unfolding note_by note_word_of
note_exact = keywords Lower note_words note_form_of (λ w. Unknown) note_parts [] (
  refl,
  (
    (u32, u32_law Lower, λ tag. refl),
    (
      (u64, u64_law Lower, λ n. (u64, u64_law Lower, λ s. refl)),
      (
        (u32, u32_law Lower, λ k. (drive, drive_law Lower, λ d. refl)),
        (
          (u32, u32_law Lower, λ k. refl),
          (
            (u32, u32_law Lower, λ k. (Positions, positions_law Lower, λ ps. refl)),
            (
              (u32, u32_law Lower, λ k. refl),
              (
                (
                  u64,
                  u64_law Lower,
                  λ n. (u64, u64_law Lower, λ s. (u64, u64_law Lower, λ b. (u64, u64_law Lower, λ bytes. refl))),
                ),
                (
                  (u32, u32_law Lower, λ k. refl),
                  (
                    refl,
                    (
                      (u32, u32_law Lower, λ k. refl),
                      (refused_exact, tt),
                    ),
                  ),
                ),
              ),
            ),
          ),
        ),
      ),
    ),
  ),
) (λ w. tt)

note_path : (x : Note) → Path note_form x
unfolding note_by note_word_of refused_form
note_path note.Ready = (codes "ready", refl, refl)
note_path (note.Fenced tag) = (codes "fenced", refl, (tag, refl))
note_path (note.Repaired n s) = (codes "repaired", refl, (n, (s, refl)))
note_path (note.Rebuilt k d) = (codes "rebuilt", refl, (k, (d, refl)))
note_path (note.NoDrive k) = (codes "nodrive", refl, (k, refl))
note_path (note.Lost k ps) = (codes "lost", refl, (k, (ps, refl)))
note_path (note.NoSpace k) = (codes "nospace", refl, (k, refl))
note_path (note.Audited n s b bytes) = (codes "audit", refl, (n, (s, (b, (bytes, refl)))))
note_path (note.Busy k) = (codes "busy", refl, (k, refl))
note_path note.Spent = (codes "spent", refl, refl)
note_path (note.Reported k) = (codes "reported", refl, (k, refl))
note_path note.Exists = (codes "refused", refl, (codes "exists", refl, refl))
note_path (note.BadMap why) = (codes "refused", refl, (codes "badmap", refl, (why, map_fault_path why, refl)))
note_path (note.TooFew n) = (codes "refused", refl, (codes "toofew", refl, (n, refl)))
note_path (note.NoSpread n) = (codes "refused", refl, (codes "nospread", refl, (n, refl)))

-- ---- lines

last_exact : Exact Lower last_form line_parts (Fixed (codes "calm") ∷ [])
last_exact = (
  (λ b. Fixed (yes_or_no b) ∷ []),
  Fixed (codes "calm") ∷ [],
  [],
  refl,
  yes_or_no_exact,
  λ calm.
      rows Lower (unguessed_rows calm) line_parts (Fixed (codes "calm") ∷ Fixed (yes_or_no calm) ∷ []) (
        (
          (λ b. Fixed (yes_or_no b) ∷ []),
          Fixed (codes "calm") ∷ Fixed (yes_or_no calm) ∷ Fixed (codes "unguessed") ∷ [],
          [],
          refl,
          yes_or_no_exact,
          λ unguessed. refl,
        ),
        tt,
      ),
)

pub line_exact : Exact Lower line_form line_parts []
unfolding line_by line_word_of
line_exact = keywords Lower line_words line_form_of (λ w. Unknown) line_parts [] (
  (event_parts, Fixed (codes "=") ∷ [], [], refl, event_exact Lower, λ e. refl),
  (
    (
      u64,
      u64_law Lower,
      λ n. (party_part, party_law Lower, λ from. (party_part, party_law Lower, λ to. (Hex, bytes_law Lower, λ bytes. refl))),
    ),
    (
      (u64, u64_law Lower, λ n. (delivery_parts, Fixed (codes "d") ∷ u64 n ∷ [], [], refl, delivery_exact, λ what. refl)),
      (
        (drive, drive_law Lower, λ d. (verdict_parts, Fixed (codes "j") ∷ drive d ∷ [], [], refl, verdict_exact, λ v. refl)),
        (
          (client, client_law Lower, λ c. (u32, u32_law Lower, λ k. refl)),
          (
            (
              client,
              client_law Lower,
              λ c. (outcome_parts, Fixed (codes "o") ∷ client c ∷ [], [], refl, outcome_exact, λ how. refl),
            ),
            (
              (
                client,
                client_law Lower,
                λ c. (
                  (λ why. Fixed (refusal_word why) ∷ []),
                  Fixed (codes "x") ∷ client c ∷ [],
                  [],
                  refl,
                  refusal_exact,
                  λ why. refl,
                ),
              ),
              (
                (file, file_law Lower, λ f. (note_parts, Fixed (codes "f") ∷ file f ∷ [], [], refl, note_exact, λ what. refl)),
                (last_exact, tt),
              ),
            ),
          ),
        ),
      ),
    ),
  ),
) (λ w. tt)

pub line_path : (x : Line) → Path line_form x
unfolding line_by line_word_of
line_path (line.Event e) = (codes "=", refl, (e, event_path Lower e, refl))
line_path (line.Message n from to bytes) = (codes "m", refl, (n, (from, (to, (bytes, refl)))))
line_path (line.Delivered n what) = (codes "d", refl, (n, (what, delivery_path what, refl)))
line_path (line.Judged d v) = (codes "j", refl, (d, (v, verdict_path v, refl)))
line_path (line.TimedOut c k) = (codes "t", refl, (c, (k, refl)))
line_path (line.Ended c how) = (codes "o", refl, (c, (how, outcome_path how, refl)))
line_path (line.Refused c why) = (codes "x", refl, (c, (why, refusal_path why, refl)))
line_path (line.Note f what) = (codes "f", refl, (f, (what, note_path what, refl)))
line_path (line.Last calm unguessed) =
    (codes "calm", refl, (calm, yes_or_no_path calm, (codes "unguessed", refl, (unguessed, yes_or_no_path unguessed, refl))))
