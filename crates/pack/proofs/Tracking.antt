-- The state of a pack holds just what the accepted calls say.
use Rattle.std.proofs.Common.{◌≡◌, ℕ, List, [], ◌∷◌, map, length, get_or, Some, Ok, Err, Result, sym, refl, ap, ◌∙◌, subst}
use Rattle.std.proofs.lemmas.List.{get_or-replicate}
use Rattle.sheet.specs.declared.limits.Limits.{Limits}
use Rattle.reading.specs.declared.reading.Reading.{Reading}
use Rattle.reading.specs.declared.prepared.Prepared.{Prepared}
use Rattle.reading.specs.Regions.{reached_by, region_of, level_of}
use Rattle.timing.specs.declared.Observation.{Observation}
use Rattle.timing.specs.Timing.{idle, all_idle, all_stepped}
use Rattle.timing.specs.Stands.{quiet, TableOf}
use Rattle.timing.proofs.Table.{table-after}
use Rattle.inforce.specs.Ages.{aged, ages_of, level_in_force}
use Rattle.faults.specs.Observed.{observations, fault_delays}
use Rattle.calls.specs.declared.call.Call.{Call}
use Rattle.calls.specs.declared.call.Call.TheVariants.{Read, Word, Limit, Switch, Clear}
use Rattle.calls.specs.declared.rejection.Rejection.{Rejection}
use Rattle.calls.specs.Parsed.{parsed}
use Rattle.pack.specs.declared.state.State.{State}
use Rattle.pack.specs.Steps.{levels_of, transition, row_for, prepared_by, reads, moved, permitted_in, moved_by, after}
use Rattle.pack.specs.History.{held_offs, host_limit, word_since, readings, noted, calls_of, level_in, prepared_after, last_of, since_clear, marks_of}
use Rattle.pack.specs.Exact.{left}
use Rattle.pack.proofs.Levels.{level_is}

-- the observations of fault k since the last clear
abbrev pub history_of : Limits → List Call → ℕ → List Observation
history_of l cs k = map (λ p. get_or (observations l p) k quiet) (since_clear l cs)

pub record Tracks (l : Limits) (cs : List Call) (x : State) : Type 0 where
  pub table : TableOf (fault_delays l) (history_of l cs) x.watches.table
  pub ages : x.ages.table ≡ ages_of (marks_of l (readings cs))
  pub last : x.last ≡ last_of l cs
  pub word : x.word ≡ word_since cs
  pub limit : x.limit ≡ host_limit cs
  pub offs : x.offs ≡ held_offs cs

idle-table : (ds : List ℕ) → TableOf ds (λ k. []) all_idle
idle-table ds = record { size = refl; entry = λ k h. get_or-replicate 13 k idle idle h }

delays_size : (l : Limits) → length (fault_delays l) ≡ 13
unfolding fault_delays
delays_size l = refl

seen_size : (l : Limits) (p : Prepared) → length (observations l p) ≡ 13
unfolding observations
seen_size l p = refl

module _ (l : Limits) (seven : length l.rows ≡ 7) where
  -- what the state has beside a reading is what the accepted calls have
  prepared_same : (cs : List Call) (x : State) → Tracks l cs x → (r : Reading) → prepared_by l x r ≡ prepared_after l cs r
  prepared_same cs x t r =
      let ages : aged (row_for l r) r.elapsed x.ages.table ≡ ages_of (marks_of l (r ∷ readings cs)) = ap (aged (row_for l r) r.elapsed) t.ages in
      let level : level_in_force (transition l) (level_of l r.cell) (aged (row_for l r) r.elapsed x.ages.table) (levels_of l) ≡ level_in l (r ∷ readings cs) = ap (λ a. level_in_force (transition l) (level_of l r.cell) a (levels_of l)) ages ∙ level_is l seven r (readings cs) in
      λ i. record { reading = r; region = region_of (reached_by l.degrees.edges r.cell); level = level i; word = t.word i }

  tracks_reading : (cs : List Call) (x : State) → Tracks l cs x → (r : Reading) → Tracks l (Read r ∷ cs) (reads l x r)
  unfolding reads
  tracks_reading cs x t r =
      let p = prepared_by l x r in
      let e = prepared_same cs x t r in
      let step = table-after (fault_delays l) (observations l p) x.watches.table (history_of l cs) (delays_size l) (seen_size l p) t.table in
      record {
        table = subst (λ q. TableOf (fault_delays l) (λ k. get_or (observations l q) k quiet ∷ history_of l cs k) (all_stepped (fault_delays l) (observations l p) x.watches.table)) e step;
        ages = ap (aged (row_for l r) r.elapsed) t.ages;
        last = λ i. Some (e i);
        word = refl;
        limit = t.limit;
        offs = t.offs;
      }

  tracks_call : (cs : List Call) (x : State) → Tracks l cs x → (c : Call) → Tracks l (c ∷ cs) (moved l x c)
  tracks_call cs x t (Read r) = tracks_reading cs x t r
  tracks_call cs x t Word = record { table = t.table; ages = t.ages; last = t.last; word = refl; limit = t.limit; offs = t.offs }
  tracks_call cs x t (Limit n) = record { table = t.table; ages = t.ages; last = t.last; word = t.word; limit = refl; offs = t.offs }
  tracks_call cs x t (Switch o) = record { table = t.table; ages = t.ages; last = t.last; word = t.word; limit = t.limit; offs = refl }
  tracks_call cs x t Clear = record { table = idle-table (fault_delays l); ages = t.ages; last = t.last; word = t.word; limit = t.limit; offs = t.offs }

  tracks_outcome : (cs : List Call) (x : State) → Tracks l cs x → (o : Result Call Rejection) → Tracks l (noted cs o) (moved_by l x o)
  tracks_outcome cs x t (Ok c) = tracks_call cs x t c
  tracks_outcome cs x t (Err e) = t

  pub tracks_after : (cs : List Call) (x : State) → Tracks l cs x → (bytes : List ℕ) → Tracks l (noted cs (permitted_in (held_offs cs) (parsed bytes))) (after l x bytes)
  tracks_after cs x t bytes =
      subst (λ o. Tracks l (noted cs (permitted_in (held_offs cs) (parsed bytes))) (moved_by l x (permitted_in o (parsed bytes)))) (sym t.offs) (tracks_outcome cs x t (permitted_in (held_offs cs) (parsed bytes)))

  pub tracks : (earlier : List (List ℕ)) → Tracks l (calls_of earlier) (left l earlier)
  tracks [] = record { table = idle-table (fault_delays l); ages = refl; last = refl; word = refl; limit = refl; offs = refl }
  tracks (bytes ∷ earlier) = tracks_after (calls_of earlier) (left l earlier) (tracks earlier) bytes
