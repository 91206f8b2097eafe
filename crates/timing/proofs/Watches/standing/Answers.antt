use Rattle.std.proofs.Common.{false, get_or, sym, ◌∙◌, arith, rules, tests}
use Rattle.std.proofs.lemmas.List.{ext_get_or, get_or-map, length-map}
use Rattle.timing.specs.Timing.{idle}
use Rattle.timing.proofs.Arrays.{from_fn_gives}
use Rattle.timing.proofs.Watches.standing.Goals as goal

pub returns : goal.returns
returns c =
    let items = c.from_fn.ensures.items in
    let table = c.args.self.now.table in
    ext_get_or false c.from_fn.result _ (omega (arith, items.long, length-map table (λ w. w.standing)))
    (λ k l.
    from_fn_gives _ (λ i. (get_or table i idle).standing) c.from_fn.result 13 (λ i y q l turn. search (rules, tests)) 0 13 (omega arith) items.each k false (omega arith) (omega (arith, items.long))
    ∙ sym (get_or-map (λ w. w.standing) table k idle false (omega (arith, items.long))))
