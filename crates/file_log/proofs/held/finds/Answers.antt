use Rattle.file_log.proofs.held.finds.Goals as goal

pub returns-then-has_size : goal.returns-then-has_size
returns-then-has_size c = (
  λ h. record { size = c.has_size.ensures.0 c.if-has_size.true; bytes = c.has_bytes.ensures.0 h },
  λ f. c.has_bytes.ensures.1 f.bytes,
)
