-- What a function that may run out of memory gives.
use Rattle.std.specs.Prelude.{◌≡◌, ⊤, Result, Ok, Err}
use Rattle.rp_columns.specs.declared.fault.ReadingFault.{ReadingFault}
use Rattle.rp_columns.specs.declared.fault.ReadingFault.TheVariants.{OutOfMemory}

-- the fault is that of the definition, unless memory ran out
abbrev pub Refuses : {A : Type 0} → ReadingFault → Result A ReadingFault → Type 0
Refuses OutOfMemory meant = ⊤
Refuses fault meant = meant ≡ Err fault

-- what a function gave is what is meant, unless memory ran out
abbrev pub Gives : {A : Type 0} → Result A ReadingFault → Result A ReadingFault → Type 0
Gives (Ok x) meant = meant ≡ Ok x
Gives (Err fault) meant = Refuses fault meant
