use Rattle.component_law.proofs.InLines.{each_tag_is_its_files}
use Rattle.component_law.proofs.tag_laws.each_tag_is_its_files.Goals as goal

pub returns : goal.returns
returns c =
    each_tag_is_its_files c.no_tag_is_ahead.ensures c.no_tag_is_behind.ensures c.book_is_read.ensures
