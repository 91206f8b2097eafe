use Rattle.std.proofs.Common.{◌≤◌, ◌*◌, ◌/◌, mul-le-mul_left, arith}
use Rattle.std.proofs.Math.Nat.{mul_comm, div-le_of_le-mul}
use Rattle.sheet.proofs.shares.share.Goals as goal

pub overflow_cast-result : goal.overflow_cast-result
overflow_cast-result g c =
    let few : c.from-2.result ≤ c.from-3.result = omega (arith, c.requires.0) in
    let most : c.from.result * c.from-2.result ≤ c.from-3.result * c.from.result = omega (arith, mul-le-mul_left c.from.result few, mul_comm c.from.result c.from-3.result) in
    let share : c.from.result * c.from-2.result / c.from-3.result ≤ c.from.result = div-le_of_le-mul c.from-3.result most in
    omega (arith, share)
