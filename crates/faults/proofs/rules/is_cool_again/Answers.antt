use Rattle.std.proofs.Common.{◌≡◌, pos, ◌-ℤ◌, ◌*ℤ◌, w32, to_z, of_z, refl, arith, rules}
use Rattle.std.proofs.lemmas.Int.{ints}
use Rattle.faults.specs.Rules.{fine, margin}
use Rattle.faults.proofs.rules.is_cool_again.Goals as goal

pub returns : goal.returns
returns c =
    let cell : to_z w32 (of_z w32 c.from.result) ≡ c.args.t = search rules in
    let degree : to_z w32 (of_z w32 c.from-2.result) ≡ c.args.degree = search rules in
    let hysteresis : to_z w32 (of_z w32 c.from-3.result) ≡ pos c.args.hysteresis = search rules in
    let low : to_z w32 (of_z w32 (c.args.degree *ℤ pos 256)) ≡ fine c.args.degree = search rules in
    let less : to_z w32 (of_z w32 (pos c.args.hysteresis *ℤ pos 256)) ≡ margin c.args.hysteresis = search rules in
    let both : to_z w32 (of_z w32 (fine c.args.degree -ℤ margin c.args.hysteresis)) ≡ fine c.args.degree -ℤ margin c.args.hysteresis = omega (arith, ints) in
    rw (cell, degree, hysteresis, low, less, both) refl
