-- Private: how the code goes. What a call of a cabinet adds to its exchanges.
use Rattle.sv_io.specs.declared.history.Call.{Call}
use Rattle.sv_io.specs.declared.history.Call.TheVariants.{Fetch, Store}
use Rattle.sv_io.specs.Exchange.{Exchange, fetched, stored, fetched_of, is_done}

abbrev pub exchange_of : Call → Exchange
exchange_of (Fetch name result) = fetched name.now (fetched_of result.now)
exchange_of (Store name bytes result) = stored name.now bytes.now (is_done result.now)
