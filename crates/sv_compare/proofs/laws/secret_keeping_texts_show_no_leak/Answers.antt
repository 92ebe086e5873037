use Rattle.sv_ast.specs.TextSystem.{text_system}
use Rattle.sv_tworun.proofs.LeakFacts.{none_leaks}
use Rattle.sv_compare.proofs.laws.secret_keeping_texts_show_no_leak.Goals as goal

pub returns : goal.returns
returns c text asked holds level first second found is =
    none_leaks (text_system text asked) holds level is.of_first.state is.of_second.state
    is.of_first.inputs is.of_second.inputs is.one is.other is.of_first.follows
    is.of_second.follows found is.finds
