-- What a fault of a line tells of a run's reads.
use Rattle.std.proofs.Common.{◌≡◌, refl}
use Rattle.rp_io.specs.Reading.{line_told}
use Rattle.rp_io.specs.declared.lines.LineFault.{LineFault}
use Rattle.rp_io.specs.declared.lines.LineFault.TheVariants.{Read, TooManyReads, OutOfMemory}
use Rattle.rp_trace.specs.Faults.{fault_told, trace_fault}

pub next_told : (fault : LineFault) → line_told fault ≡ fault_told (trace_fault fault)
next_told Read = refl
next_told TooManyReads = refl
next_told OutOfMemory = refl
