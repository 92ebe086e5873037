use Rattle.std.proofs.Common.{refl}
use Rattle.std.specs.List.{flat_map}
use Rattle.sv_encoding.specs.CnfText.{clause_line, problem_line, cnf_text}
use Rattle.sv_blast.specs.Coded.{encoding_of}
use Rattle.sv_cli.proofs.Lines.{on_error, front_of}
use Rattle.sv_cli.proofs.clauses.put_clauses.Goals as goal

pub returns-in_err-put_problem-clause-refused : goal.returns-in_err-put_problem-clause-refused
returns-in_err-put_problem-clause-refused g c =
    let e = encoding_of c.args.coded.now in
    on_error c.from_residual.result
    (front_of (g.K.Sink.accepted c.args.out.now) (cnf_text e) (problem_line e)
    (flat_map clause_line e.clauses) (g.K.Sink.accepted c.put_problem.new.out) refl
    c.in_err-put_problem.ensures.refused)
