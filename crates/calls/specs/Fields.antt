-- What stands in a record: flags in byte 1, words, and what is spare.
use Rattle.std.specs.Prelude.{ℕ, ◌/◌, ◌%◌, Bool, not, ◌||◌, List, drop, ℤ, ◌==◌, nat_lt, slice_index}
use Rattle.std.proofs.Common.{to_z}
use Rattle.std.specs.Int.{w16}
use Rattle.std.specs.List.{list_all}
use Rattle.sheet.specs.Fields.{word}

-- a word in two's complement
abbrev pub signed_word : List ℕ → ℕ → ℤ
signed_word m p = to_z w16 (word m p)

-- the two lowest bits of byte 1
abbrev pub flag0 : List ℕ → Bool
flag0 m = slice_index m 1 % 2 == 1

abbrev pub flag1 : List ℕ → Bool
flag1 m = slice_index m 1 / 2 % 2 == 1

-- every byte is zero
abbrev pub blank : List ℕ → Bool
blank bytes = list_all (λ b. b == 0) bytes

-- byte 1 is more than all of its flags, or a byte from the place p on is not zero
abbrev pub spare_set : List ℕ → ℕ → ℕ → Bool
spare_set m flags p = nat_lt flags (slice_index m 1) || not (blank (drop p m))
