use Rattle.std.proofs.Common.{ℕ, List, ap, ◌∙◌, rules}
use Rattle.model.specs.Answers.{code, figure}
use Rattle.model.specs.Starts.{format, unmade}
use Rattle.index_tests.proofs.MadeTexts.{made_text}
use Rattle.index_tests.proofs.lends.make_in_text.Goals as goal

pub returns-clause-code : goal.returns-clause-code
returns-clause-code c = λ form.
    c.make.ensures.code
    ∙ ap (λ (ws : List ℕ). code (format c.args.fill (unmade ws)).answer) (c.open-store.ensures.in_form form)

pub returns-clause-figure : goal.returns-clause-figure
returns-clause-figure c = λ form.
    c.make.ensures.figure
    ∙ ap (λ (ws : List ℕ). figure (format c.args.fill (unmade ws)).answer) (c.open-store.ensures.in_form form)

pub returns-clause-text : goal.returns-clause-text
returns-clause-text c = λ twenty.
    let opened = c.open-store.result in
    let left = c.make.new.store in
    let made = made_text _ _ _ _ _ c.args.fill _ c.open-store.ensures.same c.open-store.ensures.in_form opened.whole
    opened.formed left.whole left.formed c.make.ensures.code c.make.ensures.words twenty in
    search rules
