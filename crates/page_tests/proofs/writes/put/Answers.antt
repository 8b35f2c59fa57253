use Rattle.std.proofs.Common.{ap, ◌∙◌}
use Rattle.std.proofs.lemmas.Bool.{cond-true, leb-true}
use Rattle.page.specs.Buffers.{page_of}
use Rattle.page.specs.Pages.{words_of, put_words, page_run}
use Rattle.page.proofs.Layouts.{length_words, run_put_same, run_put_other}
use Rattle.page_tests.proofs.writes.put.Goals as goal

pub returns-clause-back : goal.returns-clause-back
returns-clause-back g c =
    let words = words_of (page_of c.args.buf.now) in
    let full = length_words (page_of c.args.buf.now) c.args.buf.now.entries.few in
    let old = g.S.Store.words c.args.store.now in
    ap (λ w. page_run w c.args.page) (c.write_page.ensures.written ∙ cond-true _ (put_words old c.args.page words) old c.requires)
    ∙ run_put_same old c.args.page words full (leb-true _ _ c.requires)

pub returns-clause-beside : goal.returns-clause-beside
returns-clause-beside g c other apart =
    let words = words_of (page_of c.args.buf.now) in
    let full = length_words (page_of c.args.buf.now) c.args.buf.now.entries.few in
    let old = g.S.Store.words c.args.store.now in
    ap (λ w. page_run w other) (c.write_page.ensures.written ∙ cond-true _ (put_words old c.args.page words) old c.requires)
    ∙ run_put_other old c.args.page words other full (leb-true _ _ c.requires) apart
