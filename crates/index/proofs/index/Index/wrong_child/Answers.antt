use Rattle.std.proofs.Common.{◌≡◌, not, rules, tests, ◌∙◌}
use Rattle.std.specs.Prelude.{option_map}
use Rattle.std.proofs.lemmas.Iterator.{YieldsList-from_slice}
use Rattle.std.proofs.lemmas.Iterator.Search.{find_from_yields_List}
use Rattle.page.specs.declared.entries.Entry.{Entry}
use Rattle.model.specs.States.{view}
use Rattle.model.specs.Upkeep.{is_child}
use Rattle.index.specs.Indexes.{state_of}
use Rattle.index.proofs.Children.{first_wrong, value_of_wrong}
use Rattle.index.proofs.index.Index.wrong_child.Goals as goal

pub returns : goal.returns
returns g c =
    let s = state_of g.S.Store.words c.args.self.now in
    let level = c.args.page.now.level in
    let es = c.as_slice.result.now in
    let first = find_from_yields_List (λ (e : Entry). not (is_child s.fill level (view s e.value))) _ _ c.find.result
    c.find.ensures.ran (YieldsList-from_slice es cc) (λ x b q k. search (rules, tests)) in
    let found : c.map.result ≡ option_map (λ (e : Entry). e.value) (first_wrong s level es) = search (rules, tests) in
    rw c.as_slice.ensures.entries at (found ∙ value_of_wrong s level es)
