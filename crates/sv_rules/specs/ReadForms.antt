-- Private: how the code goes. Names in expressions, in their plain forms.
use Rattle.std.specs.Prelude.{List, map}
use Rattle.sv_flat.specs.Readings.{ReadForm}
use Rattle.sv_rules.specs.declared.names.Read.{Read}

abbrev pub read_form : Read → ReadForm
read_form r = record { signal = r.signal.0; place = r.place; high = r.high; low = r.low }

-- in order
abbrev pub read_forms : List Read → List ReadForm
read_forms names = map read_form names
