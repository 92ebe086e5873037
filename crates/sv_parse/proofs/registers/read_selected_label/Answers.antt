use Rattle.std.proofs.Common.{refl, [], ◌∷◌}
use Rattle.sv_token.specs.declared.signs.SignKind.TheVariants as signs
use Rattle.sv_parse_expr.proofs.Halting.{passed, stops_then, stops_before}
use Rattle.sv_parse_machine.proofs.ReadRows.{sign_taken}
use Rattle.sv_parse_machine.specs.Symbols.{label_selector, memory_name, punctuation, outer, plain_name}
use Rattle.sv_parse_machine.specs.ModuleTable.{behind_selector, number_range}
use Rattle.sv_parse.proofs.DeclarationRuns.{front_stop, and_stop, selector_named, behind_table}
use Rattle.sv_parse.proofs.DeclarationRuns.{and_read, memory_name_first}
use Rattle.sv_parse_machine.specs.Machine.{outside_on}
use Rattle.sv_parse.specs.ReadingDeclarations.{table_end}
use Rattle.sv_parse.proofs.ReadingDeclarations.{by_index_end}
use Rattle.sv_parse_machine.proofs.ReadSteps.{reads_then, reads_before}
use Rattle.sv_parse.proofs.registers.read_selected_label.Goals as goal

pub returns-in_err-rest-in-Some-clause-halts : goal.returns-in_err-rest-in-Some-clause-halts
returns-in_err-rest-in-Some-clause-halts c =
    passed _ _ _ c.from_residual.ensures.1
    (stops_then _ _ _ _ _
    (sign_taken label_selector signs.Hash
    (behind_selector (memory_name ∷ punctuation signs.Semicolon ∷ [])) _ _ refl
    (c.in-Some.ensures.is c.args.input.bytes.now))
    (front_stop _ _ _ _ (c.in_err-rest-in-Some.ensures.halts c.args.input.bytes.now)))

pub returns-in_err-rest-in-Some-2-clause-halts : goal.returns-in_err-rest-in-Some-2-clause-halts
returns-in_err-rest-in-Some-2-clause-halts c =
    passed _ _ _ c.from_residual-in_err-rest-in-Some-2.ensures.1
    (stops_then _ _ _ _ _
    (sign_taken label_selector signs.Hash
    (behind_selector (memory_name ∷ punctuation signs.Semicolon ∷ [])) _ _ refl
    (c.in-Some.ensures.is c.args.input.bytes.now))
    (and_stop _ _ _ _ _ (c.in_ok-rest-in-Some.ensures.reads c.args.input.bytes.now refl)
    (front_stop _ _ _ _ (c.in_err-rest-in-Some-2.ensures.halts c.args.input.bytes.now))))

pub returns-in_err-label-in-None-clause-halts : goal.returns-in_err-label-in-None-clause-halts
returns-in_err-label-in-None-clause-halts c =
    passed _ _ _ c.from_residual-in_err-label-in-None.ensures.1
    (stops_then _ _ _ _ _ (selector_named _ (c.in-None.ensures.none c.args.input.bytes.now))
    (stops_before (outside_on table_end) (outside_on behind_table) _ _
    c.in_err-label-in-None.ensures.halts))

pub returns-in_ok-rest-in-Some-2-clause-is : goal.returns-in_ok-rest-in-Some-2-clause-is
returns-in_ok-rest-in-Some-2-clause-is c =
    by_index_end _ _ _ _ _ _ (c.in-Some.ensures.is c.args.input.bytes.now)
    (c.in_ok-rest-in-Some.ensures.is c.args.input.bytes.now)
    (c.in_ok-rest-in-Some-2.ensures.is c.args.input.bytes.now)

pub returns-in_ok-rest-in-Some-2-clause-reads : goal.returns-in_ok-rest-in-Some-2-clause-reads
returns-in_ok-rest-in-Some-2-clause-reads c =
    reads_then _ _ _ _ _ _
    (sign_taken label_selector signs.Hash
    (behind_selector (memory_name ∷ punctuation signs.Semicolon ∷ [])) _ _ refl
    (c.in-Some.ensures.is c.args.input.bytes.now))
    (and_read _ _ _ _ _ _ (c.in_ok-rest-in-Some.ensures.reads c.args.input.bytes.now refl)
    (and_read _ _ _ _ _ _ (c.in_ok-rest-in-Some-2.ensures.reads c.args.input.bytes.now refl)
    (reads_before (outer memory_name ∷ [])
    (outside_on (plain_name ∷ punctuation signs.OpenBracket ∷ number_range))
    (outer (punctuation signs.Semicolon) ∷ []) _ _ (memory_name_first _))))
