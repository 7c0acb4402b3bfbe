-- The law of events: each is read by its form, and has its parts.
use Rattle.std.proofs.Common.{◌≡◌, ℕ, List, [], ◌∷◌, ◌++◌, codes, refl, arith}
use Rattle.scenario_text.specs.declared.event.Event.{Event}
use Rattle.scenario_text.specs.declared.event.Event.TheVariants as event
use Rattle.scenario_text.specs.declared.event.Call.{Call}
use Rattle.scenario_text.specs.declared.event.Call.TheVariants as call
use Rattle.scenario_text.specs.declared.event.FileMap.{FileMap}
use Rattle.scenario_text.specs.declared.hexadecimal.Digits.{Digits}
use Rattle.scenario_text.specs.Parts.{Fixed, Number, Key, Hex, u32, u64, drive, client, file, server}
use Rattle.scenario_text.specs.Spelling.{call_parts, map_parts, tag, format, sender_part, machine_part, event_parts}
use Rattle.scenario_text.specs.EventForms.{call_words, call_kind_of, call_form_of, call_by, call_form, map_form, file_form, drive_form, upkeep_words, upkeep_word_of, upkeep_form, upkeep_by, traffic_words, traffic_word_of, traffic_form, traffic_by, setup_words, setup_word_of, setup_form, event_by, event_form}
use Rattle.scenario_text.specs.Form.{Unknown}
use Rattle.scenario_text.proofs.Forms.{Exact, Path, keywords}
use Rattle.scenario_text.proofs.PlaceLaws.{u32_law, u64_law, tag_law, few_law, drive_law, client_law, file_law, server_law, sender_law, machine_law}
use Rattle.scenario_text.proofs.HexLaws.{key_law, bytes_law}

call_exact : (digits : Digits) → Exact digits (call_form digits) call_parts []
unfolding call_by call_kind_of
call_exact digits = keywords digits call_words (call_form_of digits) (λ w. Unknown) call_parts [] (
  (file, file_law digits, λ f. (u64, u64_law digits, λ offset. (Hex, bytes_law digits, λ bytes. refl))),
  ((file, file_law digits, λ f. (u64, u64_law digits, λ offset. (u64, u64_law digits, λ len. refl))), tt),
) (λ w. tt)

call_path : (digits : Digits) (x : Call) → Path (call_form digits) x
unfolding call_by call_kind_of
call_path digits (call.Write f offset bytes) = (codes "write", refl, (f, (offset, (bytes, refl))))
call_path digits (call.Read f offset len) = (codes "read", refl, (f, (offset, (len, refl))))

map_exact : (digits : Digits) → Exact digits map_form map_parts []
unfolding map_form
map_exact digits = (
  u32,
  u32_law digits,
  λ components. (
    u64,
    u64_law digits,
    λ unit. (
      u32,
      u32_law digits,
      λ width. (
        u32,
        u32_law digits,
        λ depth. (
          u32,
          u32_law digits,
          λ mirrors.
              (Number 1 4, few_law digits 4 (omega arith), λ algorithm. refl),
        ),
      ),
    ),
  ),
)

map_path : (x : FileMap) → Path map_form x
unfolding map_form
map_path x = (x.components, (x.unit, (x.width, (x.depth, (x.mirrors, (x.algorithm, refl))))))

upkeep_exact : (digits : Digits) (word : List ℕ) → Exact digits (upkeep_by word) event_parts (Fixed word ∷ [])
unfolding upkeep_word_of
upkeep_exact digits word = keywords digits upkeep_words upkeep_form (λ w. Unknown) event_parts [] (
  (machine_part, machine_law digits, λ who. (u64, u64_law digits, λ time. refl)),
  (
    (file, file_law digits, λ f. refl),
    (
      (file, file_law digits, λ f. refl),
      (
        (file, file_law digits, λ f. refl),
        (
          (file, file_law digits, λ f. refl),
          (
            (drive, drive_law digits, λ d. refl),
            (
              (client, client_law digits, λ c. refl),
              (
                (drive, drive_law digits, λ d. refl),
                (
                  (machine_part, machine_law digits, λ who. refl),
                  ((machine_part, machine_law digits, λ who. refl), tt),
                ),
              ),
            ),
          ),
        ),
      ),
    ),
  ),
) (λ w. tt) word

traffic_exact : (digits : Digits) (word : List ℕ) → Exact digits (traffic_by digits word) event_parts (Fixed word ∷ [])
unfolding traffic_word_of
traffic_exact digits word = keywords digits traffic_words (traffic_form digits) upkeep_by event_parts [] (
  (client, client_law digits, λ c. (call_parts, Fixed (codes "do") ∷ client c ∷ [], [], refl, call_exact digits, λ what. refl)),
  (
    (
      client,
      client_law digits,
      λ c. (call_parts, Fixed (codes "call") ∷ client c ∷ [], [], refl, call_exact digits, λ what. refl),
    ),
    (
      (u64, u64_law digits, λ n. refl),
      (
        (u64, u64_law digits, λ n. refl),
        (
          refl,
          (
            (sender_part, sender_law digits, λ who. refl),
            (
              (client, client_law digits, λ c. (u32, u32_law digits, λ k. refl)),
              (
                (client, client_law digits, λ c. refl),
                ((drive, drive_law digits, λ d. (Hex, bytes_law digits, λ bytes. refl)), tt),
              ),
            ),
          ),
        ),
      ),
    ),
  ),
) (upkeep_exact digits) word

file_exact : (digits : Digits) (make : ℕ → FileMap → ℕ → Event) (word : List ℕ)
    → ((f : ℕ) (m : FileMap) (t : ℕ) → event_parts (make f m t) ≡ Fixed word ∷ file f ∷ (map_parts m ++ tag t ∷ []))
    → Exact digits (file_form make) event_parts (Fixed word ∷ [])
file_exact digits make word is = (
  file,
  file_law digits,
  λ f. (map_parts, Fixed word ∷ file f ∷ [], [], refl, map_exact digits, λ m. (tag, tag_law digits, λ t. is f m t)),
)

drive_exact : (digits : Digits) (make : ℕ → List ℕ → ℕ → Event) (word : List ℕ)
    → ((d : ℕ) (key : List ℕ) (capacity : ℕ) →
    event_parts (make d key capacity) ≡ Fixed word ∷ drive d ∷ Key key ∷ u64 capacity ∷ [])
    → Exact digits (drive_form digits make) event_parts (Fixed word ∷ [])
drive_exact digits make word is =
    (drive, drive_law digits, λ d. (Key, key_law digits, λ key. (u64, u64_law digits, λ capacity. is d key capacity)))

pub event_exact : (digits : Digits) → Exact digits (event_form digits) event_parts []
unfolding event_by setup_word_of
event_exact digits word = keywords digits setup_words (setup_form digits) (traffic_by digits) event_parts [] (
  drive_exact digits event.Drive (codes "drive") (λ d key capacity. refl),
  (
    drive_exact digits event.Disk (codes "disk") (λ d key capacity. refl),
    (
      (client, client_law digits, λ c. refl),
      (
        file_exact digits event.File (codes "file") (λ f m t. refl),
        (
          file_exact digits event.ZonedFile (codes "zfile") (λ f m t. refl),
          (
            (drive, drive_law digits, λ d. (u32, u32_law digits, λ z. refl)),
            (
              (drive, drive_law digits, λ d. (format, few_law digits 2 (omega arith), λ n. refl)),
              (((λ s. server), server_law digits, λ s. (format, few_law digits 2 (omega arith), λ n. refl)), tt),
            ),
          ),
        ),
      ),
    ),
  ),
) (traffic_exact digits) word

pub event_path : (digits : Digits) (x : Event) → Path (event_form digits) x
unfolding event_by setup_word_of traffic_word_of upkeep_word_of
event_path digits (event.Drive d key capacity) = (codes "drive", refl, (d, (key, (capacity, refl))))
event_path digits (event.Disk d key capacity) = (codes "disk", refl, (d, (key, (capacity, refl))))
event_path digits (event.Client c) = (codes "client", refl, (c, refl))
event_path digits (event.File f m t) = (codes "file", refl, (f, (m, map_path m, (t, refl))))
event_path digits (event.ZonedFile f m t) = (codes "zfile", refl, (f, (m, map_path m, (t, refl))))
event_path digits (event.Zone d z) = (codes "zone", refl, (d, (z, refl)))
event_path digits (event.Least d n) = (codes "least", refl, (d, (n, refl)))
event_path digits (event.Format n) = (codes "format", refl, (tt, (n, refl)))
event_path digits (event.Do c what) = (codes "do", refl, (c, (what, call_path digits what, refl)))
event_path digits (event.Call c what) = (codes "call", refl, (c, (what, call_path digits what, refl)))
event_path digits (event.Deliver n) = (codes "deliver", refl, (n, refl))
event_path digits (event.DropMessage n) = (codes "drop", refl, (n, refl))
event_path digits event.Settle = (codes "settle", refl, refl)
event_path digits (event.Resend who) = (codes "resend", refl, (who, refl))
event_path digits (event.Timeout c k) = (codes "timeout", refl, (c, (k, refl)))
event_path digits (event.Leave c) = (codes "leave", refl, (c, refl))
event_path digits (event.Inject d bytes) = (codes "inject", refl, (d, (bytes, refl)))
event_path digits (event.Clock who time) = (codes "clock", refl, (who, (time, refl)))
event_path digits (event.Recall f) = (codes "recall", refl, (f, refl))
event_path digits (event.Revoke f) = (codes "revoke", refl, (f, refl))
event_path digits (event.Rebuild f) = (codes "rebuild", refl, (f, refl))
event_path digits (event.Audit f) = (codes "audit", refl, (f, refl))
event_path digits (event.Declare d) = (codes "declare", refl, (d, refl))
event_path digits (event.Stop c) = (codes "stop", refl, (c, refl))
event_path digits (event.Fail d) = (codes "fail", refl, (d, refl))
event_path digits (event.Crash who) = (codes "crash", refl, (who, refl))
event_path digits (event.Reopen who) = (codes "reopen", refl, (who, refl))
