use Rattle.std.proofs.Common.{subst}
use Rattle.sv_flat.specs.Views.{design_of}
use Rattle.sv_paths.specs.Answers.{Told}
use Rattle.sv_paths.specs.Limits.{many_paths, large_path, many_obligations, excess}
use Rattle.sv_cli.proofs.Listed.{name_below, tells_excess}
use Rattle.sv_cli.proofs.listing.report_of_fault.Goals as goal

pub name_alone-requires : goal.name_alone-requires
name_alone-requires c =
    name_below c.args.design.now (many_paths c.in-Paths.target.0)
    (subst (Told (excess (design_of c.args.design.now))) c.in-Paths.is c.requires)

pub name_alone-requires-in-Large : goal.name_alone-requires-in-Large
name_alone-requires-in-Large c =
    name_below c.args.design.now (large_path c.in-Large.target.0)
    (subst (Told (excess (design_of c.args.design.now))) c.in-Large.is c.requires)

pub returns-in_ok-name_alone-in-Paths : goal.returns-in_ok-name_alone-in-Paths
returns-in_ok-name_alone-in-Paths c =
    tells_excess c.args.style (design_of c.args.design.now) (many_paths c.in-Paths.target.0)
    c.in_ok-name_alone-in-Paths.field-0.items
    (subst (Told (excess (design_of c.args.design.now))) c.in-Paths.is c.requires)
    c.in_ok-name_alone-in-Paths.ensures c.report_of_limit.result c.report_of_limit.ensures

pub returns-in_ok-name_alone-in-Large : goal.returns-in_ok-name_alone-in-Large
returns-in_ok-name_alone-in-Large c =
    tells_excess c.args.style (design_of c.args.design.now) (large_path c.in-Large.target.0)
    c.in_ok-name_alone-in-Large.field-0.items
    (subst (Told (excess (design_of c.args.design.now))) c.in-Large.is c.requires)
    c.in_ok-name_alone-in-Large.ensures c.report_of_limit-in-Large.result
    c.report_of_limit-in-Large.ensures

pub returns-in-Many : goal.returns-in-Many
returns-in-Many c =
    tells_excess c.args.style (design_of c.args.design.now) many_obligations c.new.result.items
    (subst (Told (excess (design_of c.args.design.now))) c.in-Many.is c.requires)
    c.new.ensures.items c.report_of_limit-in-Many.result c.report_of_limit-in-Many.ensures
