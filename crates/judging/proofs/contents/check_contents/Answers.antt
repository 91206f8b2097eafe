use Rattle.std.proofs.Common.{◌≡◌, ℕ, List, get_or, drop, Ok, arith, rules}
use Rattle.layout.specs.declared.refusal.Refusal.TheVariants.{Entry}
use Rattle.std.proofs.lemmas.Bool.{eq-eqb}
use Rattle.std.proofs.lemmas.Bool.Decides.{nat_tests}
use Rattle.std.proofs.lemmas.List.{take_rest}
use Rattle.layout.specs.Rules.{first_broken, entry_rules}
use Rattle.layout.specs.Decoded.{contents, refuse}
use Rattle.judging.proofs.contents.check_contents.Goals as goal

contents_at : (m : List ℕ) → get_or m 0 0 ≡ 1 → get_or m 1 0 ≡ 5 → contents m ≡ refuse (first_broken (entry_rules (drop 2 m))) Entry (Ok tt)
unfolding contents
contents_at m a b = rw (eq-eqb (get_or m 0 0) 1 a, eq-eqb (get_or m 1 0) 5 b)

pub returns-then-edition-ne1 : goal.returns-then-edition-ne1
unfolding contents
returns-then-edition-ne1 c = grind (arith, nat_tests)

pub returns : goal.returns
returns c = let e = contents_at c.args.image.now c.if-edition-ne1.false c.if-count-ne5.false in let m = take_rest c.args.image.now 2 in search rules
