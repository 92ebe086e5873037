use Rattle.std.proofs.Common.{◌≡◌, ◌+◌, length, refl, subst, arith}
use Rattle.sv_flat.specs.Views.{design_of}
use Rattle.sv_paths.specs.ListParts.{obligations_on}
use Rattle.sv_proof.specs.Certificate.{plain_logs}
use Rattle.sv_judge.specs.Certified.{EarlierAreShown}
use Rattle.sv_judge.proofs.WalkFacts.{path_next}
use Rattle.sv_judge.proofs.verifying.verify_paths.Goals as goal

pub loop-path-init : goal.loop-path-init
loop-path-init c =
    let plain : c.args.first ≡ c.args.first + 0 = omega arith in
    record {
      coder = c.requires.coder;
      shown =
          subst (λ n. EarlierAreShown (design_of c.args.design.now) n (plain_logs c.args.logs.now))
          plain c.requires.shown;
    }

pub loop-path-preserved : goal.loop-path-preserved
loop-path-preserved c =
    let k = c.loop-path.path in
    let turned : c.args.first + k + 1 ≡ c.args.first + (k + 1) = omega arith in
    record {
      coder = c.in_ok-verify_next.ensures.coder;
      shown =
          subst (λ n. EarlierAreShown (design_of c.args.design.now) n (plain_logs c.args.logs.now))
          turned c.in_ok-verify_next.ensures.shown;
    }

pub query-requires-clause-paths : goal.query-requires-clause-paths
query-requires-clause-paths c = c.requires.next.paths

pub query-requires-clause-there : goal.query-requires-clause-there
query-requires-clause-there c =
    let counted = c.len-path-end.ensures (design_of c.args.design.now) c.requires.next.paths in
    omega (arith, c.loop-path-test.true)

pub verify_next-requires-clause-next : goal.verify_next-requires-clause-next
verify_next-requires-clause-next c =
    path_next (design_of c.args.design.now) c.args.first c.loop-path.path
    (c.args.first + c.loop-path.path) c.args.paths.now c.in_ok-query.query c.requires.next
    c.in_ok-query.ensures.listed c.in_ok-query.ensures.query c.in_ok-query.ensures.placed refl

pub returns-clause-shown : goal.returns-clause-shown
returns-clause-shown c =
    let design = design_of c.args.design.now in
    let os = obligations_on design c.args.paths.now in
    let counted = c.len-path-end.ensures design c.requires.next.paths in
    let done : c.args.first + c.loop-path.path ≡ c.args.first + length os =
    omega (arith, c.loop-path-test.false) in
    subst (λ n. EarlierAreShown design n (plain_logs c.args.logs.now)) done
    c.loop-path.invariant.shown
