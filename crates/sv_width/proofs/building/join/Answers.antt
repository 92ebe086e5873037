use Rattle.std.proofs.Common.{◌≡◌, Bool, false, ap, ◌∙◌, arith}
use Rattle.sv_width.specs.Measured as measured
use Rattle.sv_width.specs.Measured.{MeasuredTrees}
use Rattle.sv_width.specs.Outcomes.{some_named}
use Rattle.sv_width.specs.Pushed.{joined_width}
use Rattle.sv_width.specs.Views.{measured_trees, parts_of}
use Rattle.sv_width.proofs.MRows.{row_parts-hidden}
use Rattle.sv_width.proofs.building.join.Goals as goal

pub returns-clause-found : goal.returns-clause-found
returns-clause-found c =
    let parts : MeasuredTrees = parts_of (measured_trees c.args.operands.items) in
    let width : c.joined_width-width.result ≡ joined_width parts =
    omega (
      arith,
      c.joined_width-width.ensures,
      c.if-width-gt64.false,
      ap (λ es.
          joined_width (parts_of (measured_trees es))) c.deref.ensures.value,
    ) in
    let named : c.some_named.result ≡ some_named parts =
    c.some_named.ensures
    ∙ ap (λ es. some_named (parts_of (measured_trees es))) c.deref-2.ensures.value in
    ap (λ (r : MeasuredTrees).
    measured.join (record {
      width = c.joined_width-width.result;
      signed = false;
      names_signal = c.some_named.result;
    }) r) (row_parts-hidden c.args.operands)
    ∙ ap (λ w. measured.join (record {
      width = w;
      signed = false;
      names_signal = c.some_named.result;
    }) parts) width
    ∙ ap (λ (b : Bool). measured.join (record {
      width = joined_width parts;
      signed = false;
      names_signal = b;
    }) parts) named
