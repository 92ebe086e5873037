use Rattle.std.proofs.Common.{◌||◌, ap, ap₂, sym, ◌∙◌}
use Rattle.sv_lattice.proofs.TableLemmas.{or_test}
use Rattle.sv_graph.specs.BitSets.{is_set}
use Rattle.sv_rules.specs.Surroundings.{in_surrounding}
use Rattle.sv_rules.proofs.PieceFacts.{in_surrounding-inside}
use Rattle.sv_rules.proofs.surroundings.Surrounding.+of.Goals as goal

pub returns-in-Inside : goal.returns-in-Inside
returns-in-Inside t c = λ b.
    or_test c.of.result c.of-in-Inside.result b
    ∙ ap₂ ◌||◌ (ap (λ n. is_set n b) c.of.ensures) (c.of-in-Inside.ensures b)
    ∙ sym (ap (λ z. z c.args.signal.0 b) (ap in_surrounding c.in-Inside.is
    ∙ in_surrounding-inside c.in-Inside.bits c.in-Inside.around))
