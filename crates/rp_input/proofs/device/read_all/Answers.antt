use Rattle.std.proofs.Common.{◌≡◌, ◌+◌, ◌-◌, Err, refl, ap, ◌++◌, take, drop, length, arith, rules, length-take-le}
use Rattle.std.proofs.KnownBytes.{Consumes-trans}
use Rattle.rp_io.specs.declared.lines.LineFault.TheVariants.{Read, TooManyReads}
use Rattle.rp_io.proofs.Calls.{UsesCalls-none, UsesCalls-one}
use Rattle.rp_io.proofs.Giving.{AsManyBytesAsReads-read, AsManyBytesAsReads-start}
use Rattle.rp_io.proofs.SoFar.{no_reads, reads_end, reads_fail, reads_more, reads_stop}
use Rattle.rp_io.specs.Reading.Told.{Other}
use Rattle.rp_input.specs.Devices.{bytes_told}
use Rattle.rp_input.specs.declared.device.DeviceFault.TheVariants.{OutOfMemory}
use Rattle.rp_input.proofs.Filled.{whole_of}
use Rattle.rp_input.proofs.device.read_all.Goals as goal

pub loop-read-preserved : goal.loop-read-preserved
loop-read-preserved g c =
    let same : take c.loop-read.chunk.len (c.read.new.buffer ++ drop (length c.read.new.buffer) c.loop-read.chunk.items) ≡ c.read.new.buffer = whole_of c.loop-read.chunk.len c.read.new.buffer c.loop-read.chunk.items (omega arith) (omega arith) in
    let size : length (take c.in-Ok.count c.read.new.buffer) ≡ c.in-Ok.count = length-take-le c.in-Ok.count c.read.new.buffer c.in-Ok.ensures.within in
    record {
      consumes = rw (c.in_ok-extend_from_slice.ensures.items, c.deref.ensures.value, same) (
          Consumes-trans (g.R.Intake.seen c.args.reader.now).remaining (g.R.Intake.seen c.loop-read.reader).remaining (g.R.Intake.seen c.read.new.self).remaining c.loop-read.bytes.items (take c.in-Ok.count c.read.new.buffer) c.loop-read.invariant.consumes c.in-Ok.ensures.bytes.0
          );
      reads = reads_more _ _ _ _ c.loop-read.invariant.reads (c.args.reads - (c.loop-read._read + 1)) _
          (UsesCalls-one (c.args.reads - c.loop-read._read) (c.args.reads - (c.loop-read._read + 1)) _ _ (omega arith) c.in-Ok.ensures.calls)
          c.in-Ok.ensures.no_failure (c.in-Ok.ensures.more (omega arith))
          (AsManyBytesAsReads-read (c.args.reads - c.loop-read._read) (c.args.reads - (c.loop-read._read + 1)) (g.R.Intake.seen c.loop-read.reader).remaining (g.R.Intake.seen c.read.new.self).remaining (take c.in-Ok.count c.read.new.buffer) (omega arith) c.in-Ok.ensures.bytes.0 (omega arith));
      room = search rules;
    }

pub loop-read-init : goal.loop-read-init
loop-read-init g c = record {
  consumes = search rules;
  reads = no_reads c.args.reads (c.args.reads - 0) _ (omega arith);
  room = search rules;
}

pub returns-in_err-resize-clause-reads : goal.returns-in_err-resize-clause-reads
returns-in_err-resize-clause-reads g c =
    let told : bytes_told c.from_residual.result ≡ Other = let is : c.from_residual.result ≡ Err OutOfMemory = search rules in ap bytes_told is in
    rw told (reads_stop _ _ _ _ (no_reads c.args.reads c.args.reads _ refl))

pub returns-in_default-clause-reads : goal.returns-in_default-clause-reads
returns-in_default-clause-reads g c =
    reads_fail _ _ _ _ c.loop-read.invariant.reads (c.args.reads - (c.loop-read._read + 1)) _
    (UsesCalls-one (c.args.reads - c.loop-read._read) (c.args.reads - (c.loop-read._read + 1)) _ _ (omega arith) c.in_default.ensures.calls)
    Read c.in_default.ensures.fails c.in_default.ensures.stays (λ is. cc) (λ is. cc)

pub returns-then-count-eq0-clause-reads : goal.returns-then-count-eq0-clause-reads
returns-then-count-eq0-clause-reads g c =
    reads_end _ _ _ _ c.loop-read.invariant.reads (c.args.reads - (c.loop-read._read + 1)) _
    (UsesCalls-one (c.args.reads - c.loop-read._read) (c.args.reads - (c.loop-read._read + 1)) _ _ (omega arith) c.in-Ok.ensures.calls)
    c.in-Ok.ensures.no_failure (search rules) (search rules)

pub returns-in_err-extend_from_slice-clause-reads : goal.returns-in_err-extend_from_slice-clause-reads
returns-in_err-extend_from_slice-clause-reads g c =
    let size : length (take c.in-Ok.count c.read.new.buffer) ≡ c.in-Ok.count = length-take-le c.in-Ok.count c.read.new.buffer c.in-Ok.ensures.within in
    let more = reads_more _ _ _ _ c.loop-read.invariant.reads (c.args.reads - (c.loop-read._read + 1)) _
    (UsesCalls-one (c.args.reads - c.loop-read._read) (c.args.reads - (c.loop-read._read + 1)) _ _ (omega arith) c.in-Ok.ensures.calls)
    c.in-Ok.ensures.no_failure (c.in-Ok.ensures.more (omega arith))
    (AsManyBytesAsReads-read (c.args.reads - c.loop-read._read) (c.args.reads - (c.loop-read._read + 1)) (g.R.Intake.seen c.loop-read.reader).remaining (g.R.Intake.seen c.read.new.self).remaining (take c.in-Ok.count c.read.new.buffer) (omega arith) c.in-Ok.ensures.bytes.0 (omega arith)) in
    let told : bytes_told c.from_residual-in_err-extend_from_slice.result ≡ Other = let is : c.from_residual-in_err-extend_from_slice.result ≡ Err OutOfMemory = search rules in ap bytes_told is in
    rw told (reads_stop _ _ _ _ more)

pub returns-clause-reads : goal.returns-clause-reads
returns-clause-reads g c =
    let left = c.args.reads - c.loop-read._read in
    reads_fail _ _ _ _ c.loop-read.invariant.reads left _ (UsesCalls-none left left _ _ refl refl)
    TooManyReads refl refl (λ is. omega arith) (λ is. AsManyBytesAsReads-start left _)
