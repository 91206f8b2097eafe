use Rattle.std.proofs.Common.{◌≡◌, Bool, false, ◌&&◌, get_or, rules}
use Rattle.std.proofs.lemmas.Iterator.{YieldsList-from_slice}
use Rattle.std.proofs.lemmas.Iterator.Search.{any_from_yields_List}
use Rattle.faults.specs.declared.fault.Fault.{Fault}
use Rattle.faults.specs.Faults.{bit_of, all}
use Rattle.faults.specs.Blocking.{blocks, blocked}
use Rattle.faults.proofs.Exactly.{exactly, with_fewer}
use Rattle.faults.proofs.blocking.is_blocked.Goals as goal

pub returns : goal.returns
unfolding blocked
returns c =
    let blocking = blocks c.args.switch in
    let standing = c.args.standing.now in
    let test : Fault → Bool = λ f. blocking f && get_or standing (bit_of f) false in
    let value : c.any.result ≡ blocked blocking standing = any_from_yields_List test _ _ _ c.any.ensures.ran (YieldsList-from_slice all (search rules)) (λ x b q k. search rules) in
    record { value = value; exact = exactly blocking standing c.any.result value; ordered = with_fewer blocking standing c.any.result value }
