-- The five kinds of record: the letter of each, what it leaves spare, its range, and what it asks for.
use Rattle.std.specs.Prelude.{ℕ, ◌-◌, ◌^◌, Bool, true, cond, ◌&&◌, List, Ok, Err, Result, nat_le}
use Rattle.sheet.specs.Fields.{word}
use Rattle.reading.specs.declared.reading.Reading.{Reading}
use Rattle.calls.specs.declared.call.Call.{Call}
use Rattle.calls.specs.declared.call.Call.TheVariants.{Read, Word, Limit, Switch, Clear}
use Rattle.calls.specs.declared.rejection.Rejection.{Rejection}
use Rattle.calls.specs.declared.rejection.Rejection.TheVariants.{Spare, Range}
use Rattle.calls.specs.Fields.{signed_word, flag0, flag1, spare_set}

-- a reading, a word from the host, the host limit, switch-offs, a service clear
pub data Kind : Type 0 where
  R : Kind
  W : Kind
  L : Kind
  S : Kind
  C : Kind

-- the letter that a record of the kind begins with, as its code
abbrev pub letter_of : Kind → ℕ
letter_of R = 82
letter_of W = 87
letter_of L = 76
letter_of S = 83
letter_of C = 67

-- how many flags byte 1 has, from D0 on: the charger of a reading, charge and discharge of switch-offs
abbrev pub flags_of : Kind → ℕ
flags_of R = 1
flags_of W = 0
flags_of L = 0
flags_of S = 2
flags_of C = 0

-- the place after byte 1 from which on all bytes are spare
abbrev pub spare_from : Kind → ℕ
spare_from R = 12
spare_from W = 2
spare_from L = 4
spare_from S = 2
spare_from C = 2

-- the reading that a record holds
abbrev pub reading_of : List ℕ → Reading
reading_of m = record { elapsed = word m 2; voltage = word m 4; current = signed_word m 6; cell = signed_word m 8; die = signed_word m 10; charger = flag0 m }

-- elapsed is 1 to 60,000, voltage at most 6,000
abbrev pub in_range : ℕ → ℕ → Bool
in_range elapsed voltage = nat_le 1 elapsed && (nat_le elapsed 60000 && nat_le voltage 6000)

-- the range of each kind; the host limit is at most 20,000
abbrev pub range_of : Kind → List ℕ → Bool
range_of R m = in_range (word m 2) (word m 4)
range_of W m = true
range_of L m = nat_le (word m 2) 20000
range_of S m = true
range_of C m = true

-- the call that a record of the kind asks for
abbrev pub call_of : Kind → List ℕ → Call
call_of R m = Read (reading_of m)
call_of W m = Word
call_of L m = Limit (word m 2)
call_of S m = Switch (record { charge = flag0 m; discharge = flag1 m })
call_of C m = Clear

-- a record of the kind: first nothing spare may be set, then it has to be in range
abbrev pub parsed_as : Kind → List ℕ → Result Call Rejection
parsed_as k m = cond (spare_set m (2 ^ flags_of k - 1) (spare_from k)) (Err Spare) (cond (range_of k m) (Ok (call_of k m)) (Err Range))
