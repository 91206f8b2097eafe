use Rattle.std.proofs.Common.{◌≡◌, ap, ◌∙◌, rules, tests}
use Rattle.std.specs.Prelude.{not}
use Rattle.std.specs.Option.{option_map}
use Rattle.std.proofs.lemmas.Iterator.{YieldsList-from_slice}
use Rattle.std.proofs.lemmas.Iterator.Search.{find_from_yields_List}
use Rattle.judging.proofs.Breaking.{found}
use Rattle.judging.proofs.broken.first_broken.Goals as goal

pub returns : goal.returns
returns c =
    let e = find_from_yields_List (λ r. not r.kept) _ _ c.find.result c.find.ensures.ran (YieldsList-from_slice c.args.rules.now cc) (λ x b q k. search (rules, tests)) in
    let f : c.map.result ≡ option_map (λ r. r.place) (option_map (λ r. r.now) c.find.result) = search rules in
    f ∙ ap (option_map (λ r. r.place)) e ∙ found c.args.rules.now
