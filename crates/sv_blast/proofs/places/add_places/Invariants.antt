use Rattle.std.proofs.Common.{◌++◌, map, drop}
use Rattle.sv_design.specs.Numbers.{numbers}
use Rattle.sv_encoding.specs.Encoding.{bit_places}
use Rattle.sv_blast.specs.Coded.{place_form}
use Rattle.sv_blast.specs.WordTables.{words_of}
use Rattle.sv_blast.proofs.BitPlaces.{PlacesAt}
use Rattle.sv_blast.proofs.places.add_places.Given as goal

abbrev pub invariant-loop-signal : goal.invariant-loop-signal
invariant-loop-signal l =
    PlacesAt
    (map place_form l.fn.places.items ++ bit_places l.next (words_of l.words) (numbers l.signals))
    l.places.items (bit_places l.next (words_of l.words) (numbers (drop l.signal-index l.signals)))
