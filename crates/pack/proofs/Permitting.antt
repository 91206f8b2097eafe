-- Every call that a pack accepts is in range, and so is its host limit.
use Rattle.std.proofs.Common.{ℕ, ◌≤◌, ◌&&◌, List, Ok, Err, Result}
use Rattle.std.proofs.lemmas.Bool.{cond_both}
use Rattle.sheet.specs.declared.limits.Limits.{Limits}
use Rattle.calls.specs.declared.call.Call.{Call}
use Rattle.calls.specs.declared.call.Call.TheVariants.{Read, Word, Limit, Switch, Clear}
use Rattle.calls.specs.declared.call.Offs.{Offs}
use Rattle.calls.specs.declared.rejection.Rejection.{Rejection}
use Rattle.calls.specs.declared.rejection.Rejection.TheVariants.{Live}
use Rattle.calls.specs.Parsed.{parsed}
use Rattle.calls.specs.Laws.{Ranged, RangedResult}
use Rattle.calls.proofs.Ranges.{ranged}
use Rattle.pack.specs.declared.state.State.{State}
use Rattle.pack.specs.Steps.{reads, moved, permitted, permitted_in, moved_by, after}

allowed : (o : Offs) (c : Call) → Ranged c → RangedResult (permitted o c)
allowed o (Read r) h = h
allowed o Word h = tt
allowed o (Limit n) h = h
allowed o (Switch p) h = tt
allowed o Clear h = cond_both (o.charge && o.discharge) (Ok Clear) (Err Live) RangedResult (λ e. tt) (λ e. tt)

allowed_in : (o : Offs) (r : Result Call Rejection) → RangedResult r → RangedResult (permitted_in o r)
allowed_in o (Ok c) h = allowed o c h
allowed_in o (Err e) h = tt

pub accepted_ranged : (o : Offs) (bytes : List ℕ) → RangedResult (permitted_in o (parsed bytes))
accepted_ranged o bytes = allowed_in o (parsed bytes) (ranged bytes)

module _ (l : Limits) (x : State) (h : x.limit ≤ 20000) where
  limit_moved : (c : Call) → Ranged c → (moved l x c).limit ≤ 20000
  unfolding reads
  limit_moved (Read r) k = h
  limit_moved Word k = h
  limit_moved (Limit n) k = k
  limit_moved (Switch o) k = h
  limit_moved Clear k = h

  limit_by : (r : Result Call Rejection) → RangedResult r → (moved_by l x r).limit ≤ 20000
  limit_by (Ok c) k = limit_moved c k
  limit_by (Err e) k = h

  pub limit_after : (bytes : List ℕ) → (after l x bytes).limit ≤ 20000
  limit_after bytes = limit_by (permitted_in x.offs (parsed bytes)) (accepted_ranged x.offs bytes)
