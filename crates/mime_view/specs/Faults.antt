-- The faults of a cache that come from reading its bytes.
use Rattle.mime_base.specs.declared.cache.byte_fault.ByteFault.{ByteFault}
use Rattle.mime_base.specs.declared.cache.byte_fault.ByteFault.TheVariants as byte
use Rattle.mime_view.specs.declared.fault.CacheFault.{CacheFault}
use Rattle.mime_view.specs.declared.fault.CacheFault.TheVariants.{OutOfRange, LongText}

-- a fault of a counted read as a fault of the cache
abbrev pub cache_fault : ByteFault → CacheFault
cache_fault (byte.OutOfRange at) = OutOfRange at
cache_fault (byte.LongText at) = LongText at
