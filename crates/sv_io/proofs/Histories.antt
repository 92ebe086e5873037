-- The two histories of `src/history.rt`, each as a struct whose only field clauses read.
use Rattle.std.proofs.Common.{ℕ, List, refl}
use Rattle.sv_io.proofs.Walks.{History}
use Rattle.sv_io.specs.Exchange.{Exchange}
use Rattle.sv_io.specs.contracts.history.Exchanges as Exchanges
use Rattle.sv_io.specs.contracts.history.Passed as Passed

abbrev pub passed : History Passed.the_row (List ℕ)
passed = record {
  name = Passed.struct.name;
  field = λ h. h.bytes;
  made = λ xs. record { bytes = xs };
  as_made = λ xs. refl;
  bare = λ xs. refl;
}

abbrev pub exchanges : History Exchanges.the_row (List Exchange)
exchanges = record {
  name = Exchanges.struct.name;
  field = λ h. h.calls;
  made = λ xs. record { calls = xs };
  as_made = λ xs. refl;
  bare = λ xs. refl;
}
