use Rattle.std.proofs.Common.{◌≡◌, [], replicate, sym, ap, subst, ◌∙◌, rules}
use Rattle.sv_flat.specs.ByNumber.{signal_forms}
use Rattle.sv_flat.specs.Values.{signal_width}
use Rattle.sv_flat.specs.Views.{design_of}
use Rattle.sv_obl.proofs.SliceChains.{on_ok}
use Rattle.sv_circuits.specs.Words.{filled_word}
use Rattle.sv_circuits.proofs.Lengths.{width_filled}
use Rattle.sv_circuits.proofs.WordKeeps.{word_same, word_take}
use Rattle.sv_encoding.specs.BothWays.{IsWordOf}
use Rattle.sv_blast.proofs.bodies.starting.Goals as goal

pub returns-else-is_register-clause-within : goal.returns-else-is_register-clause-within
returns-else-is_register-clause-within c =
    let design = design_of c.args.design.now in
    let s = c.args.target.0 in
    let n = c.args.gates.now.variables in
    let width = c.from.result in
    let fill = c.falsity.result in
    let same = ap (λ xs. signal_width (signal_forms xs) s) c.signals.ensures.signals in
    let wide : width ≡ signal_width design.signals s = search (rules, same) in
    on_ok c.filled.result (λ word. word.items ≡ filled_word fill width [])
    (λ word. IsWordOf design s n word.items)
    (λ word is. subst (IsWordOf design s n) (sym is) (
      word_take n width (replicate width fill) (word_same n width fill c.falsity.ensures.within),
      width_filled fill width [] ∙ wide,
    ))
    c.filled.ensures
