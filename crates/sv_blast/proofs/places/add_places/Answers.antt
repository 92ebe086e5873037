use Rattle.std.proofs.Common.{◌≡◌, ◌≤◌, length, subst, sym, ap, ◌∙◌}
use Rattle.sv_encoding.specs.Encoding.{bit_places}
use Rattle.sv_blast.specs.WordTables.{words_of}
use Rattle.sv_blast.proofs.SignalTurns.{number_at, numbers_turn, numbers_end}
use Rattle.sv_blast.proofs.BitPlaces.{places_joined, places_end}
use Rattle.sv_blast.proofs.places.add_places.Goals as goal

pub add_word-requires : goal.add_word-requires
add_word-requires c =
    subst (λ w. length w ≤ 64) (sym c.word.ensures)
    (number_at c.args.signals.now c.loop-signal.signal-index c.loop-signal-test.true
    (λ s. length (words_of c.args.words.now s) ≤ 64) c.requires)
