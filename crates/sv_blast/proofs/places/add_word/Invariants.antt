use Rattle.std.proofs.Common.{◌≡◌, ◌++◌, map, drop}
use Rattle.sv_encoding.specs.Encoding.{word_places}
use Rattle.sv_blast.specs.Coded.{place_form}
use Rattle.sv_blast.proofs.BitPlaces.{PlacesAt, places_from}
use Rattle.sv_blast.proofs.places.add_word.Given as goal

abbrev pub invariant-loop-literal : goal.invariant-loop-literal
invariant-loop-literal l =
    PlacesAt (map place_form l.fn.places.items ++ word_places l.next l.signal.0 l.word)
    l.places.items (places_from l.next l.signal.0 l.bit (drop l.literal-index l.word))
    × (l.bit ≡ l.literal-index)
