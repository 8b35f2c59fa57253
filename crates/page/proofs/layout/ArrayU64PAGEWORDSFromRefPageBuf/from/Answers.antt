-- Four words, the start, the end and the entries are laid down one after another.
use Rattle.std.proofs.Common.{◌∙◌}
use Rattle.page.specs.Buffers.{page_of}
use Rattle.page.proofs.EntryWords.{page_laid}
use Rattle.page.proofs.layout.ArrayU64PAGEWORDSFromRefPageBuf.from.Goals as goal

pub returns : goal.returns
returns c =
    page_laid (page_of c.args.page.now) _ _ _ _ _ _ _ c.into.ensures c.len-count.ensures.long
    c.copy_from_slice.ensures.after (c.copy_from_slice-2.ensures.after ∙ c.bound_words.ensures)
    (c.copy_from_slice-3.ensures.after ∙ c.bound_words-2.ensures) c.as_slice.ensures.entries
    c.put_entries.ensures
