use Rattle.std.proofs.Common.{◌∙◌, codes, subst, sym}
use Rattle.std.specs.Str.Parse.{ParsesUnsigned, ExplainsUnsignedError, HasUnsignedDigitsIfOk}
use Rattle.clap.specs.Words.{found_of}
use Rattle.sv_words.specs.Words.{IsBudget}
use Rattle.sv_words.proofs.Numbers.{budget_is_read}
use Rattle.sv_words.proofs.read.budget_in.Goals as goal

pub returns-clause-value : goal.returns-clause-value
returns-clause-value c = c.unwrap_or.ensures
    ∙ (budget_is_read _ (λ bs r. ParsesUnsigned 32 10 bs r × ExplainsUnsignedError 10 bs r
    × HasUnsignedDigitsIfOk bs r) (found_of c.args.matches.now) (codes "budget") c.get_one.result
    c.get_one.ensures.none c.get_one.ensures.value (λ u x g. g.0) c.requires).0

pub returns-clause-bounds : goal.returns-clause-bounds
returns-clause-bounds c = subst IsBudget (sym c.unwrap_or.ensures)
    (budget_is_read _ (λ bs r. ParsesUnsigned 32 10 bs r × ExplainsUnsignedError 10 bs r
    × HasUnsignedDigitsIfOk bs r) (found_of c.args.matches.now) (codes "budget") c.get_one.result
    c.get_one.ensures.none c.get_one.ensures.value (λ u x g. g.0) c.requires).1
