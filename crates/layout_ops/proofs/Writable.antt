-- What is read may be written again: a message that fits keeps what a writer asks.
use Rattle.std.proofs.Common.{List, [], ◌∷◌, Result, Ok, Err}
use Rattle.std.specs.Prelude.{IfOk, ℕ, ◌≡◌}
use Rattle.std.specs.List.{AllByRecursion}
use Rattle.layout_ops.specs.declared.err.OpErr.{OpErr}
use Rattle.layout_ops.specs.declared.args.Args.{Args}
use Rattle.layout_ops.specs.declared.args.Args.TheVariants as args
use Rattle.layout_ops.specs.declared.results.LayoutSegment.{LayoutSegment}
use Rattle.layout_ops.specs.declared.results.LayoutGetResult.{LayoutGetResult}
use Rattle.layout_ops.specs.declared.results.LayoutGetResult.TheVariants as get
use Rattle.layout_ops.specs.declared.results.LayoutCommitResult.{LayoutCommitResult}
use Rattle.layout_ops.specs.declared.results.LayoutCommitResult.TheVariants as commit
use Rattle.layout_ops.specs.declared.results.LayoutReturnResult.{LayoutReturnResult}
use Rattle.layout_ops.specs.declared.results.LayoutReturnResult.TheVariants as return
use Rattle.layout_ops.specs.declared.results.Results.{Results}
use Rattle.layout_ops.specs.declared.results.Results.TheVariants as results
use Rattle.layout_ops.specs.declared.envelope.Envelope.{Envelope}
use Rattle.layout_ops.specs.declared.envelope.Envelope.TheVariants as envelope
use Rattle.layout_ops.specs.Spelling.{SegmentFits, SegmentWritable, GetResultFits, GetResultWritable, CommitResultFits, CommitResultWritable, ReturnResultFits, ReturnResultWritable, ArgsFits, ArgsWritable, ResultsFits, ResultsWritable, envelope_item, EnvelopeFits, EnvelopeWritable}

args_writable : (v : Args) → ArgsFits v → ArgsWritable v
args_writable (args.LayoutCommit v) fits = fits.body
args_writable (args.LayoutGet v) fits = tt
args_writable (args.LayoutReturn v) fits = fits.body

segments_writable : (vs : List LayoutSegment) → AllByRecursion SegmentFits vs → AllByRecursion SegmentWritable vs
segments_writable [] fits = tt
segments_writable (v ∷ vs) fits = (fits.0.body, segments_writable vs fits.1)

get_writable : (v : LayoutGetResult) → GetResultFits v → GetResultWritable v
get_writable (get.Granted v) fits = (fits.layouts.0, segments_writable v.layouts fits.layouts.1)
get_writable (get.TryLater b) fits = tt
get_writable (get.Refused status) fits = (fits.1, fits.2)

commit_writable : (v : LayoutCommitResult) → CommitResultFits v → CommitResultWritable v
commit_writable (commit.Committed size) fits = tt
commit_writable (commit.Refused status) fits = fits.1

return_writable : (v : LayoutReturnResult) → ReturnResultFits v → ReturnResultWritable v
return_writable (return.Returned stateid) fits = tt
return_writable (return.Refused status) fits = fits.1

results_writable : (v : Results) → ResultsFits v → ResultsWritable v
results_writable (results.LayoutCommit v) fits = commit_writable v fits
results_writable (results.LayoutGet v) fits = get_writable v fits
results_writable (results.LayoutReturn v) fits = return_writable v fits

pub envelope_writable : (v : Envelope) → EnvelopeFits v → EnvelopeWritable v
envelope_writable (envelope.Request v) fits = args_writable v.args fits.args
envelope_writable (envelope.Answer v) fits = results_writable v.results fits.results
envelope_writable (envelope.Recall v) fits = fits.args.file
envelope_writable (envelope.RecallAnswer v) fits = tt
envelope_writable (envelope.Order v) fits = tt
envelope_writable (envelope.OrderAnswer v) fits = tt

-- the same of an answer
pub all_writable : (bytes : List ℕ) (r : Result Envelope OpErr) → IfOk r (λ v. EnvelopeFits v × (bytes ≡ envelope_item v)) →
    IfOk r EnvelopeWritable
all_writable bytes (Ok v) found = envelope_writable v found.0
all_writable bytes (Err e) found = tt
