-- Encodings as the calls hand them on.
use Rattle.std.specs.Prelude.{map}
use Rattle.sv_encoding.specs.Encoding.{BitPlace, Encoding}
use Rattle.sv_blast.specs.declared.coded.BitPlace.{BitPlace as Place}
use Rattle.sv_blast.specs.declared.coded.Coded.{Coded}

-- the plain form of a place of a bit
abbrev pub place_form : Place → BitPlace
place_form place = record {
  signal = place.signal.0;
  next = place.next;
  bit = place.bit;
  variable = place.variable;
}

-- the plain form of an encoding
abbrev pub encoding_of : Coded → Encoding
encoding_of coded = record {
  variables = coded.variables;
  bits = map place_form coded.bits.items;
  clauses = coded.clauses.items;
}
