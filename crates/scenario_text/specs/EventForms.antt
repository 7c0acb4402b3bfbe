-- How an event is read, a word after another.
use Rattle.std.specs.Prelude.{ℕ, List, [], ◌∷◌, Option, codes}
use Rattle.scenario_text.specs.Reading.{number_of, u32_of, u64_of, drive_of, client_of, file_of, server_of, sender_of}
use Rattle.scenario_text.specs.Reading.{machine_of, key_of, bytes_of}
use Rattle.scenario_text.specs.Keywords.{word_in}
use Rattle.scenario_text.specs.Form.{Form, Done, Word, Choose, Then, Unknown, form_or}
use Rattle.scenario_text.specs.declared.hexadecimal.Digits.{Digits}
use Rattle.scenario_text.specs.declared.event.Event.{Event}
use Rattle.scenario_text.specs.declared.event.Event.TheVariants as event
use Rattle.scenario_text.specs.declared.event.Call.{Call}
use Rattle.scenario_text.specs.declared.event.Call.TheVariants as call
use Rattle.scenario_text.specs.declared.event.FileMap.{FileMap}
use Rattle.scenario_text.specs.declared.line.CallKind.{CallKind}
use Rattle.scenario_text.specs.declared.line.CallKind.TheVariants as kind
use Rattle.scenario_text.specs.declared.keyword.SetupWord.{SetupWord}
use Rattle.scenario_text.specs.declared.keyword.SetupWord.TheVariants as setup
use Rattle.scenario_text.specs.declared.keyword.TrafficWord.{TrafficWord}
use Rattle.scenario_text.specs.declared.keyword.TrafficWord.TheVariants as traffic
use Rattle.scenario_text.specs.declared.keyword.UpkeepWord.{UpkeepWord}
use Rattle.scenario_text.specs.declared.keyword.UpkeepWord.TheVariants as upkeep

abbrev pub call_words : List (List ℕ × CallKind)
call_words = (codes "write", kind.Write) ∷ (codes "read", kind.Read) ∷ []

unfoldable pub call_kind_of : List ℕ → Option CallKind
call_kind_of word = word_in call_words word

abbrev pub call_form_of : Digits → CallKind → Form Call
call_form_of digits kind.Write =
    Word file_of (λ f. Word u64_of (λ offset. Word (bytes_of digits) (λ bytes. Done (call.Write f offset bytes))))
call_form_of digits kind.Read =
    Word file_of (λ f. Word u64_of (λ offset. Word u64_of (λ len. Done (call.Read f offset len))))

unfoldable pub call_by : Digits → List ℕ → Form Call
call_by digits word = form_or (call_form_of digits) Unknown (call_kind_of word)

abbrev pub call_form : Digits → Form Call
call_form digits = Choose (call_by digits)

unfoldable pub map_form : Form FileMap
map_form =
    Word u32_of (λ components. Word u64_of (λ unit. Word u32_of (λ width. Word u32_of (λ depth.
    Word u32_of (λ mirrors. Word (number_of 1 4) (λ algorithm. Done (record {
      components = components;
      unit = unit;
      width = width;
      depth = depth;
      mirrors = mirrors;
      algorithm = algorithm;
    })))))))

abbrev pub file_form : (ℕ → FileMap → ℕ → Event) → Form Event
file_form make = Word file_of (λ f. Then map_form (λ m. Word (number_of 1 4294967295) (λ t. Done (make f m t))))

abbrev pub drive_form : Digits → (ℕ → List ℕ → ℕ → Event) → Form Event
drive_form digits make =
    Word drive_of (λ d. Word (key_of digits) (λ key. Word u64_of (λ capacity. Done (make d key capacity))))

-- what there is: drives, clients, files and their settings
abbrev pub setup_words : List (List ℕ × SetupWord)
setup_words =
    (codes "drive", setup.Drive)
    ∷ (codes "disk", setup.Disk)
    ∷ (codes "client", setup.Client)
    ∷ (codes "file", setup.File)
    ∷ (codes "zfile", setup.ZonedFile)
    ∷ (codes "zone", setup.Zone)
    ∷ (codes "least", setup.Least)
    ∷ (codes "format", setup.Format) ∷ []

abbrev pub setup_form : Digits → SetupWord → Form Event
setup_form digits setup.Drive = drive_form digits event.Drive
setup_form digits setup.Disk = drive_form digits event.Disk
setup_form digits setup.Client = Word client_of (λ c. Done (event.Client c))
setup_form digits setup.File = file_form event.File
setup_form digits setup.ZonedFile = file_form event.ZonedFile
setup_form digits setup.Zone = Word drive_of (λ d. Word u32_of (λ z. Done (event.Zone d z)))
setup_form digits setup.Least = Word drive_of (λ d. Word (number_of 1 2) (λ n. Done (event.Least d n)))
setup_form digits setup.Format = Word server_of (λ s. Word (number_of 1 2) (λ n. Done (event.Format n)))

unfoldable pub setup_word_of : List ℕ → Option SetupWord
setup_word_of word = word_in setup_words word

-- calls and messages
abbrev pub traffic_words : List (List ℕ × TrafficWord)
traffic_words =
    (codes "do", traffic.Do)
    ∷ (codes "call", traffic.Call)
    ∷ (codes "deliver", traffic.Deliver)
    ∷ (codes "drop", traffic.Drop)
    ∷ (codes "settle", traffic.Settle)
    ∷ (codes "resend", traffic.Resend)
    ∷ (codes "timeout", traffic.Timeout)
    ∷ (codes "leave", traffic.Leave)
    ∷ (codes "inject", traffic.Inject) ∷ []

abbrev pub traffic_form : Digits → TrafficWord → Form Event
traffic_form digits traffic.Do = Word client_of (λ c. Then (call_form digits) (λ what. Done (event.Do c what)))
traffic_form digits traffic.Call = Word client_of (λ c. Then (call_form digits) (λ what. Done (event.Call c what)))
traffic_form digits traffic.Deliver = Word u64_of (λ n. Done (event.Deliver n))
traffic_form digits traffic.Drop = Word u64_of (λ n. Done (event.DropMessage n))
traffic_form digits traffic.Settle = Done event.Settle
traffic_form digits traffic.Resend = Word sender_of (λ who. Done (event.Resend who))
traffic_form digits traffic.Timeout = Word client_of (λ c. Word u32_of (λ k. Done (event.Timeout c k)))
traffic_form digits traffic.Leave = Word client_of (λ c. Done (event.Leave c))
traffic_form digits traffic.Inject = Word drive_of (λ d. Word (bytes_of digits) (λ bytes. Done (event.Inject d bytes)))

unfoldable pub traffic_word_of : List ℕ → Option TrafficWord
traffic_word_of word = word_in traffic_words word

-- the server's work, clocks and faults
abbrev pub upkeep_words : List (List ℕ × UpkeepWord)
upkeep_words =
    (codes "clock", upkeep.Clock)
    ∷ (codes "recall", upkeep.Recall)
    ∷ (codes "revoke", upkeep.Revoke)
    ∷ (codes "rebuild", upkeep.Rebuild)
    ∷ (codes "audit", upkeep.Audit)
    ∷ (codes "declare", upkeep.Declare)
    ∷ (codes "stop", upkeep.Stop)
    ∷ (codes "fail", upkeep.Fail)
    ∷ (codes "crash", upkeep.Crash)
    ∷ (codes "reopen", upkeep.Reopen) ∷ []

abbrev pub upkeep_form : UpkeepWord → Form Event
upkeep_form upkeep.Clock = Word machine_of (λ who. Word u64_of (λ time. Done (event.Clock who time)))
upkeep_form upkeep.Recall = Word file_of (λ f. Done (event.Recall f))
upkeep_form upkeep.Revoke = Word file_of (λ f. Done (event.Revoke f))
upkeep_form upkeep.Rebuild = Word file_of (λ f. Done (event.Rebuild f))
upkeep_form upkeep.Audit = Word file_of (λ f. Done (event.Audit f))
upkeep_form upkeep.Declare = Word drive_of (λ d. Done (event.Declare d))
upkeep_form upkeep.Stop = Word client_of (λ c. Done (event.Stop c))
upkeep_form upkeep.Fail = Word drive_of (λ d. Done (event.Fail d))
upkeep_form upkeep.Crash = Word machine_of (λ who. Done (event.Crash who))
upkeep_form upkeep.Reopen = Word machine_of (λ who. Done (event.Reopen who))

unfoldable pub upkeep_word_of : List ℕ → Option UpkeepWord
upkeep_word_of word = word_in upkeep_words word

-- the forms of events behind their first word
abbrev pub upkeep_by : List ℕ → Form Event
upkeep_by word = form_or upkeep_form Unknown (upkeep_word_of word)

abbrev pub traffic_by : Digits → List ℕ → Form Event
traffic_by digits word = form_or (traffic_form digits) (upkeep_by word) (traffic_word_of word)

unfoldable pub event_by : Digits → List ℕ → Form Event
event_by digits word = form_or (setup_form digits) (traffic_by digits word) (setup_word_of word)

abbrev pub event_form : Digits → Form Event
event_form digits = Choose (event_by digits)
