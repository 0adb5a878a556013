-- Why a scan went no further.
use Rattle.cu_io.specs.declared.stream.StreamFault.{StreamFault}
use Rattle.cu_io.specs.declared.stream.StreamFault.TheVariants as fault
use Rattle.capsule_tool.specs.declared.scan.stop.ScanStop.{ScanStop}
use Rattle.capsule_tool.specs.declared.scan.stop.ScanStop.TheVariants.{Ended, Failed}

-- a fault of the stream stops it
abbrev pub stop_of : StreamFault → ScanStop
stop_of fault.Ended = Ended
stop_of fault.Failed = Failed
