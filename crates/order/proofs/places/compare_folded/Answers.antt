use Rattle.std.proofs.Common.{◌≡◌, refl, ap, ◌∙◌, rules, tests}
use Rattle.std.specs.Ordering.{nat_cmp}
use Rattle.std.specs.Iterator.Adapters.{map_source}
use Rattle.std.proofs.lemmas.Iterator.{YieldsList-from_map, YieldsList-from_slice}
use Rattle.std.proofs.lemmas.Iterator.Consumers.{YieldsList-at}
use Rattle.std.proofs.lemmas.Iterator.Search.{cmp_from_yields_List}
use Rattle.order.specs.Places.{folded}
use Rattle.order.proofs.places.compare_folded.Goals as goal

-- the comparison of two lists of folded bytes
pub returns : goal.returns
returns c =
    cmp_from_yields_List (λ x y. y ≡ x) _ nat_cmp _ c.cmp.ensures.ran
    (YieldsList-from_map _ folded (YieldsList-at c.map.ensures.source (YieldsList-from_slice c.args.a cc))
    c.map.ensures.closure (λ x r q k. search (rules, tests)))
    (λ it e.
    YieldsList-from_map _ folded (YieldsList-at (ap map_source e ∙ c.map-2.ensures.source) (YieldsList-from_slice c.args.b cc))
    refl (λ x r q k. search (rules, tests)))
    (λ x y. refl)
