-- The lines of a command over a network: that it listens, how many connections it served, or why it stopped; and the
-- exit status of the program then.
use Rattle.std.specs.Prelude.{◌≡◌, ◌⊎◌, ℕ, List, [], ◌∷◌, ◌++◌, take, codes, Option}
use Rattle.std.specs.Fmt.{decimal}
use Rattle.std.specs.Io.KnownBytes.{Appends}
use Rattle.osd_bytes.specs.Causes.{Rose}
use Rattle.osd_bytes.specs.declared.serve_err.ServeErr.{ServeErr}
use Rattle.osd_bytes.specs.declared.serve_err.ServeErr.TheVariants.{LinkFault as NoConnection, Memory as NoMemory}
use Rattle.cluster_text.specs.Kinds.{word_of}
use Rattle.cluster_text.specs.declared.stop.CommandStop.{CommandStop}
use Rattle.cluster_text.specs.declared.stop.CommandStop.TheVariants.{BadCluster, ReadFault, WriteFault, Memory}
use Rattle.cluster_text.specs.declared.stop.CommandStop.TheVariants.{Full, LinkFault}

abbrev pub listening_line : List ℕ
listening_line = codes "listening\n"

abbrev pub served_line : ℕ → List ℕ
served_line connections = codes "served " ++ (decimal connections ++ (10 ∷ []))

-- why a command stops where serving does
abbrev pub stop_of_serving : ServeErr → CommandStop
stop_of_serving NoConnection = LinkFault
stop_of_serving NoMemory = Memory

-- a cluster text has no lines that are counted, so 0 stands in the place of a line's number
abbrev pub stop_line : CommandStop → List ℕ
stop_line (BadCluster kind) = codes "error cluster " ++ (word_of kind ++ (10 ∷ []))
stop_line ReadFault = codes "error 0 read\n"
stop_line WriteFault = []
stop_line Memory = codes "error 0 memory\n"
stop_line Full = codes "error 0 full input\n"
stop_line LinkFault = codes "error link\n"

abbrev pub exit_code_of : CommandStop → ℕ
exit_code_of ReadFault = 4
exit_code_of WriteFault = 5
exit_code_of Memory = 6
exit_code_of Full = 7
exit_code_of LinkFault = 8
exit_code_of (BadCluster kind) = 9

-- the line went out, or a part of it from the front where the sink failed
abbrev pub PutsLine : (before now : Option (List ℕ)) → (failed_before failed : ℕ) → (line : List ℕ) → Type 0
PutsLine before now failed_before failed line =
    (Appends before now line × (failed ≡ failed_before))
    ⊎ ((upto : ℕ) × Appends before now (take upto line) × Rose failed_before failed)
