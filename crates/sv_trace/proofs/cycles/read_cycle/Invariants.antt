use Rattle.std.proofs.Common.{◌≡◌, ℕ, ◌^◌, ◌<◌, ◌++◌, map, drop, length, get_or}
use Rattle.std.specs.Option.{option_copied}
use Rattle.std.specs.Str.Parse.{digits_value}
use Rattle.sv_trace.specs.Steps.{left_words}
use Rattle.sv_trace.specs.Stimulus.{words, are_values}
use Rattle.sv_trace.proofs.cycles.read_cycle.Given as goal

abbrev pub invariant-words : goal.invariant-words
invariant-words l = record {
  tests : are_values l.widths (words l.line) ≡
      are_values (drop l.width-index l.widths) (left_words (option_copied l.rest));
  values : map (digits_value 16) (words l.line) ≡
      l.values.items ++ map (digits_value 16) (left_words (option_copied l.rest));
  count : length l.values.items ≡ l.width-index;
  fits : (k : ℕ) → k < l.width-index → get_or l.values.items k 0 < 2 ^ get_or l.widths k 0;
}
