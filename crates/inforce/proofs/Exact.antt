-- The level that the ages put in force is the greatest that counts.
use Rattle.std.proofs.Common.{◌≡◌, ℕ, zero, suc, ◌+◌, ◌^◌, ◌<◌, ◌≤◌, min, Bool, true, false, ltb, ◌⊎◌, List, [], ◌∷◌, map, length, get_or, take, sym, refl, ap, ◌∙◌, inl, inr, arith, length-set, get_or-set_other, get_or-set_same}
use Rattle.std.specs.List.{AllByRecursion}
use Rattle.std.proofs.ByRecursion.{All-get_or}
use Rattle.std.proofs.lemmas.List.{length-map, get_or-map, get_or-replicate}
use Rattle.std.proofs.lemmas.Bool.{cases_eq, cases_lt, ltb-true, lt-ltb}
use Rattle.inforce.specs.Ages.{Mark, older_by, ages_of, raised_by, level_in_force}
use Rattle.inforce.specs.Level.{total, Counts, times_of, levels_of_marks, LevelExact}

abbrev Known : List Mark → Type 0
Known h = AllByRecursion (λ m. m.row < 7) h

-- past the end of a history
abbrev none : Mark
none = record { row = 0; elapsed = 0 }

ages_length : (h : List Mark) → length (ages_of h) ≡ 7
ages_length [] = refl
ages_length (m ∷ h) = length-set (map (older_by m.elapsed) (ages_of h)) m.row 0 ∙ length-map (ages_of h) (older_by m.elapsed) ∙ ages_length h

-- one reading more
age_own : (m : Mark) (h : List Mark) → m.row < 7 → get_or (ages_of (m ∷ h)) m.row 0 ≡ 0
age_own m h r =
    let lt : m.row < length (map (older_by m.elapsed) (ages_of h)) = omega (arith, length-map (ages_of h) (older_by m.elapsed), ages_length h) in
    rw get_or-set_same

age_other : (m : Mark) (h : List Mark) (j : ℕ) → j < 7 → (j ≡ m.row → ⊥) → get_or (ages_of (m ∷ h)) j 0 ≡ min (get_or (ages_of h) j 0 + m.elapsed) 4294967295
age_other m h j r ne =
    let lt : j < length (ages_of h) = omega (arith, ages_length h) in
    rw get_or-set_other (get_or-map (older_by m.elapsed) (ages_of h) j 0 0 lt)

-- a row is no older than any of its readings
no_older : (h : List Mark) → Known h → (k : ℕ) → k < length h → get_or (ages_of h) (get_or h k none).row 0 ≤ total (take k (times_of h))
no_older [] a k l = absurd (omega arith)
no_older (m ∷ h) a zero l = omega (arith, age_own m h a.0)
no_older (m ∷ h) a (suc k) l =
    let j = (get_or h k none).row in
    let ih = no_older h a.1 k (omega arith) in
    elim (cases_eq j m.row) [
      | inl e ↦ rw e (omega (arith, age_own m h a.0))
      | inr ne ↦ omega (arith, age_other m h j (All-get_or (λ x. x.row < 7) h k none (omega arith) a.1) ne, ih)
    ]

-- and it is as old as one of them, unless it is past every delay
record Newest (h : List Mark) (j : ℕ) : Type 0 where
  place : ℕ
  within : place < length h
  row : (get_or h place none).row ≡ j
  age : total (take place (times_of h)) ≡ get_or (ages_of h) j 0

newest_of : (h : List Mark) → Known h → (j : ℕ) → j < 7 → get_or (ages_of h) j 0 < 4294967295 → Newest h j
newest_of [] a j l y = absurd (omega (arith, get_or-replicate {A = ℕ} 7 j 4294967295 0 l))
newest_of (m ∷ h) a j l y =
    elim (cases_eq j m.row) [
      | inl e ↦ record { place = 0; within = omega arith; row = sym e; age = sym (rw e (age_own m h a.0)) }
      | inr ne ↦
          let older = age_other m h j l ne in
          let ih = newest_of h a.1 j l (omega (arith, older)) in
          record { place = suc ih.place; within = omega (arith, ih.within); row = ih.row; age = omega (arith, older, ih.age) }
    ]

-- the level by the ages is no less than the own level and that of each young row
own_below : (d own : ℕ) (ts ls : List ℕ) → own ≤ level_in_force d own ts ls
own_below d own [] ls = omega arith
own_below d own (t ∷ ts) [] = omega arith
own_below d own (t ∷ ts) (l ∷ ls) =
    let raise : (b : Bool) → own ≤ raised_by b l own = λ b. elim b as (λ b. own ≤ raised_by b l own) [ true ↦ omega arith | false ↦ omega arith ] in
    omega (arith, raise (ltb t d), own_below d (raised_by (ltb t d) l own) ts ls)

young_below : (d own : ℕ) (ts ls : List ℕ) (j : ℕ) → j < length ts → j < length ls → get_or ts j 0 < d → get_or ls j 0 ≤ level_in_force d own ts ls
young_below d own [] ls j p q y = absurd (omega arith)
young_below d own (t ∷ ts) [] j p q y = absurd (omega arith)
young_below d own (t ∷ ts) (l ∷ ls) zero p q y =
    let e : raised_by (ltb t d) l own ≡ raised_by true l own = ap (λ b. raised_by b l own) (lt-ltb t d y) in
    omega (arith, e, own_below d (raised_by (ltb t d) l own) ts ls)
young_below d own (t ∷ ts) (l ∷ ls) (suc j) p q y = young_below d (raised_by (ltb t d) l own) ts ls j (omega arith) (omega arith) y

-- and it is one of them
record Young (d : ℕ) (ts ls : List ℕ) (v : ℕ) : Type 0 where
  place : ℕ
  within : place < length ls
  young : get_or ts place 0 < d
  is : v ≡ get_or ls place 0

raise_from : (b : Bool) (own l : ℕ) → (raised_by b l own ≡ own) ⊎ ((b ≡ true) × (raised_by b l own ≡ l))
raise_from true own l = elim (cases_lt own l) [ inl h ↦ inr (refl, omega arith) | inr h ↦ inl (omega arith) ]
raise_from false own l = inl refl

picked : (d own : ℕ) (ts ls : List ℕ) → (level_in_force d own ts ls ≡ own) ⊎ Young d ts ls (level_in_force d own ts ls)
picked d own [] ls = inl refl
picked d own (t ∷ ts) [] = inl refl
picked d own (t ∷ ts) (l ∷ ls) =
    elim (picked d (raised_by (ltb t d) l own) ts ls) [
      | inr f ↦ inr (record { place = suc f.place; within = omega (arith, f.within); young = f.young; is = f.is })
      | inl e ↦ elim (raise_from (ltb t d) own l) [
        | inl o ↦ inl (e ∙ o)
        | inr y ↦ inr (record { place = 0; within = omega arith; young = ltb-true t d y.0; is = e ∙ y.1 })
      ]
    ]

level_at_lem : (ls : List ℕ) (h : List Mark) (k : ℕ) → k < length h → get_or (levels_of_marks ls h) k 0 ≡ get_or ls (get_or h k none).row 0
level_at_lem ls h k l = get_or-map (λ m. get_or ls m.row 0) h k none 0 l

levels-length : (ls : List ℕ) (h : List Mark) → length (levels_of_marks ls h) ≡ length h
levels-length ls h = length-map h (λ m. get_or ls m.row 0)

pub level_exact : (d own : ℕ) (ages ls : List ℕ) → d < 2 ^ 32 → length ls ≡ 7 → LevelExact d own ages ls (level_in_force d own ages ls)
level_exact d own ages ls small seven m older known is level =
    let h = m ∷ older in
    let ts = ages_of h in
    let v = level_in_force d own ages ls in
    let v-is : v ≡ level_in_force d own ts ls = ap (λ l. level_in_force d own l ls) is in
    let bound : (k : ℕ) → k < length (levels_of_marks ls h) → Counts d (times_of h) k → get_or (levels_of_marks ls h) k 0 ≤ v =
    λ k l c.
    let l' : k < length h = omega (arith, levels-length ls h) in
    elim c [
      | inl e ↦ rw e (omega (arith, level, own_below d own ages ls))
      | inr y ↦
          let j = (get_or h k none).row in
          let row : j < 7 = All-get_or (λ x. x.row < 7) h k none l' known in
          let younger : get_or ts j 0 < d = omega (arith, no_older h known k l') in
          omega (arith, v-is, level_at_lem ls h k l', young_below d own ts ls j (omega (arith, ages_length h)) (omega (arith, seven)) younger)
    ] in
    elim (picked d own ts ls) [
      | inl e ↦ record { bound = bound; place = 0; within = omega arith; counts = inl refl; reached = v-is ∙ e ∙ level }
      | inr f ↦
          let o = newest_of h known f.place (omega (arith, f.within)) (omega (arith, f.young)) in
          record {
            bound = bound;
            place = o.place;
            within = omega (arith, levels-length ls h, o.within);
            counts = inr (omega (arith, o.age, f.young));
            reached = v-is ∙ f.is ∙ sym (level_at_lem ls h o.place o.within ∙ ap (λ j. get_or ls j 0) o.row);
          }
    ]
