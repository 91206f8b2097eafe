-- The rules of the format, each with the place that a refusal names where it is broken, in the order of the places.
use Rattle.std.specs.Prelude.{ℕ, ◌+◌, ◌/◌, ◌%◌, Bool, true, cond, ◌&&◌, List, [], ◌∷◌, ◌++◌, ℤ, pos, Some, None, Option, ◌==◌, int_le, nat_le, slice_index, slice_index_or}
use Rattle.layout.specs.declared.limits.Levels.{Levels}
use Rattle.layout.specs.declared.limits.Degrees.{Degrees}
use Rattle.layout.specs.declared.limits.Row.{Row}
use Rattle.layout.specs.declared.limits.Steps.{Steps}
use Rattle.layout.specs.declared.limits.Timing.{Timing}
use Rattle.layout.specs.declared.limits.Limits.{Limits}
use Rattle.layout.specs.declared.rule.Rule.{Rule}
use Rattle.layout.specs.Fields.{word}

-- the place of the first rule that is broken
abbrev pub first_broken : List Rule → Option ℕ
first_broken [] = None
first_broken (r ∷ rs) = cond r.kept (first_broken rs) (Some r.place)

-- no rule is broken
abbrev pub all_kept : List Rule → Bool
all_kept [] = true
all_kept (r ∷ rs) = r.kept && all_kept rs

abbrev rule : ℕ → Bool → Rule
rule p b = record { place = p; kept = b }

-- the ranges of voltages and drops, and of currents
abbrev voltage : ℕ → ℕ → Rule
voltage p v = rule p (nat_le v 5000)

abbrev current : ℕ → ℕ → Rule
current p c = rule p (nat_le c 20000)

abbrev ratio : ℕ → ℕ → Rule
ratio p r = rule p (nat_le r 16)

-- of the charge word only D13 is asked, to be clear
abbrev pub level_ranges : Levels → List Rule
level_ranges l =
    voltage 22 l.trip ∷ voltage 24 l.release ∷ voltage 26 l.shutdown ∷ voltage 28 l.overdrop ∷ voltage 30 l.permanent ∷ current 32 l.charging ∷ current 34 l.discharging ∷ voltage 36 l.full ∷ voltage 38 l.fulldrop ∷ current 40 l.fullcurrent ∷ rule 42 (l.chargecfg / 8192 % 2 == 0) ∷ []

abbrev pub degree_ranges : Degrees → List Rule
degree_ranges d = rule 55 (nat_le d.hysteresis 20) ∷ []

-- of a row whose first byte is p
abbrev pub row_ranges : ℕ → Row → List Rule
row_ranges p r = current p r.current ∷ voltage (p + 2) r.voltage ∷ voltage (p + 4) r.level ∷ []

-- the rules f of each row, six places on from one to the next
unfoldable pub each_row : (ℕ → Row → List Rule) → ℕ → List Row → List Rule
each_row f p [] = []
each_row f p (r ∷ rs) = f p r ++ each_row f (p + 6) rs

abbrev pub step_ranges : Steps → List Rule
step_ranges s =
    voltage 98 (slice_index s.voltages 0) ∷ voltage 100 (slice_index s.voltages 1) ∷ voltage 102 (slice_index s.voltages 2) ∷ voltage 104 (slice_index s.voltages 3) ∷ ratio 106 (slice_index s.ratios 0) ∷ ratio 107 (slice_index s.ratios 1) ∷ ratio 108 (slice_index s.ratios 2) ∷ ratio 109 (slice_index s.ratios 3) ∷ []

-- D15-D13 of the enable word are clear
abbrev pub timing_ranges : Timing → List Rule
timing_ranges t = rule 112 (t.enabled / 8192 == 0) ∷ []

-- every field is in its range
unfoldable pub range_rules : Limits → List Rule
range_rules l = level_ranges l.levels ++ (degree_ranges l.degrees ++ (each_row row_ranges 56 l.rows ++ (step_ranges l.steps ++ timing_ranges l.timing)))

-- the release is not below the trip
abbrev pub level_conflicts : Levels → List Rule
level_conflicts l = rule 24 (nat_le l.trip l.release) ∷ []

-- the edge at i + 1 is not below the one at i
abbrev edge : List ℤ → ℕ → ℕ → Rule
edge es p i = rule p (int_le (slice_index_or es i (pos 0)) (slice_index_or es (i + 1) (pos 0)))

abbrev pub edge_conflicts : List ℤ → List Rule
edge_conflicts es = edge es 45 0 ∷ edge es 46 1 ∷ edge es 47 2 ∷ edge es 48 3 ∷ edge es 49 4 ∷ edge es 50 5 ∷ edge es 51 6 ∷ []

-- a row's voltage is not above its level, and the level is not below the over-voltage drop
abbrev pub row_conflicts : ℕ → ℕ → Row → List Rule
row_conflicts overdrop p r = rule (p + 2) (nat_le r.voltage r.level) ∷ rule (p + 4) (nat_le overdrop r.level) ∷ []

-- the number at j is not below the one at i
abbrev ordered : List ℕ → ℕ → ℕ → ℕ → Rule
ordered xs p i j = rule p (nat_le (slice_index xs i) (slice_index xs j))

-- the step voltages do not fall, and the ratios do not rise
abbrev pub step_conflicts : Steps → List Rule
step_conflicts s = ordered s.voltages 100 0 1 ∷ ordered s.voltages 102 1 2 ∷ ordered s.voltages 104 2 3 ∷ ordered s.ratios 107 1 0 ∷ ordered s.ratios 108 2 1 ∷ ordered s.ratios 109 3 2 ∷ []

-- the fields agree with each other
unfoldable pub conflict_rules : Limits → List Rule
conflict_rules l = level_conflicts l.levels ++ (edge_conflicts l.degrees.edges ++ (each_row (row_conflicts l.levels.overdrop) 56 l.rows ++ step_conflicts l.steps))

-- kind, size and offset of an entry are the wanted ones
abbrev pub is_entry : ℕ → ℕ → ℕ → ℕ → ℕ → ℕ → Bool
is_entry k n o kind size offset = k == kind && (n == size && o == offset)

-- the i-th entry, whose four bytes begin at p, has this kind, size and offset
abbrev entry : List ℕ → ℕ → ℕ → ℕ → ℕ → ℕ → Rule
entry m i p kind size offset = rule i (is_entry (slice_index m p) (slice_index m (p + 1)) (word m (p + 2)) kind size offset)

-- the five entries, which stand right after the edition and the count
abbrev pub entry_rules : List ℕ → List Rule
entry_rules m = entry m 1 0 1 22 22 ∷ entry m 2 4 2 12 44 ∷ entry m 3 8 3 42 56 ∷ entry m 4 12 4 12 98 ∷ entry m 5 16 5 4 110 ∷ []
