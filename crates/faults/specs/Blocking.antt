-- Whether the faults that stand block a switch.
use Rattle.std.specs.Prelude.{◌≡◌, Bool, true, false, ◌&&◌, List, get_or, slice_index_or}
use Rattle.std.specs.List.{list_any}
use Rattle.faults.specs.declared.fault.Fault.{Fault}
use Rattle.faults.specs.declared.blocking.Switch.{Switch}
use Rattle.faults.specs.declared.blocking.Switch.TheVariants.{Charge, Discharge}
use Rattle.faults.specs.Faults.{bit_of, all, blocks_charge, blocks_discharge}

-- the fault blocks the switch while it stands
abbrev pub blocks : Switch → Fault → Bool
blocks Charge f = blocks_charge f
blocks Discharge f = blocks_discharge f

-- a fault that is one of the blocking ones stands
unfoldable pub blocked : (Fault → Bool) → List Bool → Bool
blocked blocking standing = list_any (λ f. blocking f && slice_index_or standing (bit_of f) false) all

-- the same without a list: some fault blocks, and it stands
pub record SomeBlocks (blocking : Fault → Bool) (standing : List Bool) : Type 0 where
  pub fault : Fault
  pub blocks : blocking fault ≡ true
  pub stands : get_or standing (bit_of fault) false ≡ true
