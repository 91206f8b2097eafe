-- The first failing check of two lists, one after the other.
use Rattle.std.proofs.Common.{◌≡◌, ℕ, ◌+◌, ◌<◌, ◌≤◌, Bool, true, false, cond, List, [], ◌∷◌, ◌++◌, length, get_or, drop, Some, None, Ok, Option, refl, inl, inr, ap, ◌∙◌}
use Rattle.std.proofs.lemmas.List.{at_drop_more, at_drop_all}
use Rattle.std.specs.Option.{option_or, option_map}
use Rattle.std.proofs.lemmas.Bool.{cases_Bool}
use Rattle.std.specs.Prelude.{find, not}
use Rattle.layout.specs.declared.rule.Rule.{Rule}
use Rattle.layout.specs.declared.limits.Row.{Row}
use Rattle.layout.specs.declared.limits.Limits.{Limits}
use Rattle.layout.specs.declared.refusal.Refusal.TheVariants.{Range, Conflict}
use Rattle.layout.specs.Rules.{first_broken, row_ranges, each_row, row_conflicts, level_conflicts, edge_conflicts, step_conflicts, conflict_rules, range_rules, level_ranges, degree_ranges, step_ranges, timing_ranges}
use Rattle.layout.specs.Charging.{no_row}
use Rattle.layout.specs.Decoded.{refuse, ranges, conflicts}

first_cond : (b : Bool) (x y z : Option ℕ) (p : ℕ) → x ≡ option_or y z → cond b x (Some p) ≡ option_or (cond b y (Some p)) z
first_cond true x y z p e = e
first_cond false x y z p e = refl

pub first_append : (a b : List Rule) → first_broken (a ++ b) ≡ option_or (first_broken a) (first_broken b)
first_append [] b = refl
first_append (c ∷ a) b = first_cond c.kept (first_broken (a ++ b)) (first_broken a) (first_broken b) c.place (first_append a b)

or_assoc : (x y z : Option ℕ) → option_or x (option_or y z) ≡ option_or (option_or x y) z
or_assoc (Some p) y z = refl
or_assoc None y z = refl

four_parts : (a b c d : List Rule) → first_broken (a ++ (b ++ (c ++ d))) ≡ option_or (option_or (option_or (first_broken a) (first_broken b)) (first_broken c)) (first_broken d)
four_parts a b c d = simp (first_append, or_assoc)

five_parts : (a b c d e : List Rule) → first_broken (a ++ (b ++ (c ++ (d ++ e)))) ≡ option_or (option_or (option_or (first_broken a) (first_broken b)) (first_broken c)) (option_or (first_broken d) (first_broken e))
five_parts a b c d e = simp (first_append, or_assoc)

-- the first broken place of all parts, from that of each part
pub ranges_first : (l : Limits) → ranges l ≡ refuse (option_or (option_or (option_or (first_broken (level_ranges l.levels)) (first_broken (degree_ranges l.degrees))) (first_broken (each_row row_ranges 56 l.rows))) (option_or (first_broken (step_ranges l.steps)) (first_broken (timing_ranges l.timing)))) Range (Ok tt)
unfolding ranges range_rules
ranges_first l = ap (λ o. refuse {A = Unit {0}} o Range (Ok tt)) (five_parts (level_ranges l.levels) (degree_ranges l.degrees) (each_row row_ranges 56 l.rows) (step_ranges l.steps) (timing_ranges l.timing))

pub conflicts_first : (l : Limits) → conflicts l ≡ refuse (option_or (option_or (option_or (first_broken (level_conflicts l.levels)) (first_broken (edge_conflicts l.degrees.edges))) (first_broken (each_row (row_conflicts l.levels.overdrop) 56 l.rows))) (first_broken (step_conflicts l.steps))) Conflict (Ok tt)
unfolding conflicts conflict_rules
conflicts_first l = ap (λ o. refuse {A = Unit {0}} o Conflict (Ok tt)) (four_parts (level_conflicts l.levels) (edge_conflicts l.degrees.edges) (each_row (row_conflicts l.levels.overdrop) 56 l.rows) (step_conflicts l.steps))

pub row_step : (f : ℕ → Row → List Rule) (p : ℕ) (rows : List Row) (i : ℕ) → i < length rows → first_broken (each_row f p (drop i rows)) ≡ option_or (first_broken (f p (get_or rows i no_row))) (first_broken (each_row f (p + 6) (drop (i + 1) rows)))
unfolding each_row
row_step f p rows i h = at_drop_more (λ rs. first_broken (each_row f p rs)) rows i no_row h ∙ first_append (f p (get_or rows i no_row)) (each_row f (p + 6) (drop (i + 1) rows))

pub row_end : (f : ℕ → Row → List Rule) (p : ℕ) (rows : List Row) (i : ℕ) → length rows ≤ i → first_broken (each_row f p (drop i rows)) ≡ None
unfolding each_row
row_end f p rows i h = at_drop_all (λ rs. first_broken (each_row f p rs)) rows i h

-- `find` and `map` give the first broken place
pub found : (rs : List Rule) → option_map (λ r. r.place) (find (λ r. not r.kept) rs) ≡ first_broken rs
found [] = refl
found (r ∷ rs) = elim (cases_Bool r.kept) [ inl k ↦ rw k (found rs) | inr k ↦ rw k refl ]
