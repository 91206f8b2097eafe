use Rattle.std.proofs.Common.{◌≡◌, leb, rules, tests}
use Rattle.std.specs.List.{list_all}
use Rattle.std.proofs.lemmas.Iterator.{YieldsList-from_slice}
use Rattle.std.proofs.lemmas.Iterator.Search.{all_from_yields_List}
use Rattle.std.proofs.lemmas.Bool.Decides.{Decides-at}
use Rattle.delays.specs.Delays.{setting_of}
use Rattle.delays.proofs.Rising.{fields, no_shorter, settings_decide}
use Rattle.delays.proofs.sets_no_lower.Goals as goal

pub returns : goal.returns
returns c =
    let a = c.args.a in
    let b = c.args.b in
    let value : c.all.result ≡ list_all (λ t. leb (setting_of t a) (setting_of t b)) fields =
    all_from_yields_List (λ t. leb (setting_of t a) (setting_of t b)) _ _ c.all.result c.all.ensures.ran (YieldsList-from_slice fields (search rules)) (λ x r q k. search (rules, tests)) in
    let d = Decides-at _ _ value (settings_decide a b) in
    record { decides = d; delays = λ h t. no_shorter t a b (d.0 h t) }
