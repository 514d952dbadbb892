-- What a fault of reading says of the device.
use Rattle.std.specs.Prelude.{◌⊎◌, ⊤, ℕ, List, Result, Ok, Err}
use Rattle.rp_io.specs.Reading.{Told}
use Rattle.rp_io.specs.Reading.Told.{Ended, NoReadsLeft, Other, ReadFailed}
use Rattle.rp_value.specs.declared.table.Column.{Column}
use Rattle.rp_columns.specs.declared.columns.InputColumn.{InputColumn}
use Rattle.rp_input.specs.ByColumns.{IsByColumnsFault}
use Rattle.rp_input.specs.CsvRows.{IsTextFault}
use Rattle.rp_input.specs.declared.columns_fault.ColumnsCsvFault.{ColumnsCsvFault}
use Rattle.rp_input.specs.declared.columns_fault.ColumnsCsvFault.TheVariants as by_columns
use Rattle.rp_input.specs.declared.device.DeviceFault.{DeviceFault}
use Rattle.rp_input.specs.declared.device.DeviceFault.TheVariants as device
use Rattle.rp_input.specs.declared.layout.CsvLayout.{CsvLayout}
use Rattle.rp_input.specs.declared.rows.CsvFault.{CsvFault}
use Rattle.rp_input.specs.declared.rows.CsvFault.TheVariants.{Header, Record, Field, Read, Turns, OutOfMemory}

-- a fault that says nothing of the text
abbrev pub IsOfDevice : CsvFault → Type 0
IsOfDevice Read = ⊤
IsOfDevice Turns = ⊤
IsOfDevice OutOfMemory = ⊤
IsOfDevice _ = ⊥

-- the same of columns
abbrev pub IsOfDeviceBy : ColumnsCsvFault → Type 0
IsOfDeviceBy by_columns.Read = ⊤
IsOfDeviceBy by_columns.Turns = ⊤
IsOfDeviceBy by_columns.OutOfMemory = ⊤
IsOfDeviceBy _ = ⊥

-- the first fault of an input's text, or one that says nothing of it
abbrev pub IsInputFault : List Column → List ℕ → CsvFault → Type 0
IsInputFault columns text fault = IsTextFault columns text fault ⊎ IsOfDevice fault

abbrev pub IsByColumnsInputFault : List (List ℕ) → CsvLayout → List InputColumn → List ℕ → ColumnsCsvFault → Type 0
IsByColumnsInputFault words layout columns text fault = IsByColumnsFault words layout columns text fault ⊎ IsOfDeviceBy fault

-- What a fault tells of the reads: a fault of the text comes when all of it was read, and memory may run out before or after.
abbrev pub fault_told : CsvFault → Told
fault_told Header = Ended
fault_told (Record n) = Ended
fault_told (Field n) = Ended
fault_told Read = ReadFailed
fault_told Turns = NoReadsLeft
fault_told OutOfMemory = Other

-- what reading an input tells of its reads
abbrev pub rows_told : {X : Type 0} → Result X CsvFault → Told
rows_told (Ok rows) = Ended
rows_told (Err fault) = fault_told fault

-- the same of columns
abbrev pub columns_fault_told : ColumnsCsvFault → Told
columns_fault_told by_columns.Read = ReadFailed
columns_fault_told by_columns.Turns = NoReadsLeft
columns_fault_told by_columns.OutOfMemory = Other
columns_fault_told _ = Ended

abbrev pub columns_told : {X : Type 0} → Result X ColumnsCsvFault → Told
columns_told (Ok rows) = Ended
columns_told (Err fault) = columns_fault_told fault

-- Inside: how a device's fault is told, and what it tells.
abbrev pub of_device : DeviceFault → ColumnsCsvFault
of_device device.Read = by_columns.Read
of_device device.Turns = by_columns.Turns
of_device device.OutOfMemory = by_columns.OutOfMemory

abbrev pub of_device_csv : DeviceFault → CsvFault
of_device_csv device.Read = Read
of_device_csv device.Turns = Turns
of_device_csv device.OutOfMemory = OutOfMemory

abbrev pub device_told : DeviceFault → Told
device_told device.Read = ReadFailed
device_told device.Turns = NoReadsLeft
device_told device.OutOfMemory = Other

abbrev pub bytes_told : {X : Type 0} → Result X DeviceFault → Told
bytes_told (Ok bytes) = Ended
bytes_told (Err fault) = device_told fault
